-- The page of a number among the different ones, and the pages of a list.
use Rattle.std.proofs.Common.{◌≡◌, refl, sym, ◌∙◌, ap, subst, ℕ, zero, suc, ◌<◌, ◌==◌, if◌then◌else◌, arith, eqb-true, eq-eqb, eq-or-lt_of_le, inl, inr, ◌⊎◌, Bool, true, false, List, [], ◌∷◌, ◌++◌, length, length-append, get_or, All, Some, None}
use Rattle.std.specs.List.{AllZip}
use Rattle.std.proofs.lemmas.List.Elements.{AllZip-push}
use Rattle.std.proofs.lemmas.List.{get_or_append_left}
use Rattle.std.proofs.Math.Seq.{get_or-append_seam}
use Rattle.bp_sweep.specs.Dense.{AreDense, ComesNext, page_of}
use Rattle.bp_sweep.specs.Dense.AreDense.{none, one_more}
use Rattle.bp_sweep.specs.Dense.ComesNext.{again, first}

-- ---- one number

-- it is below how many there are
pub page-below : (n page : ℕ) (seen : List ℕ) → page_of n seen ≡ Some page → page < length seen
page-below n page [] is = cc is
page-below n page (m ∷ before) is = go (m == n) (λ there. page-below n page before there) is
  where
    go : (b : Bool) → (page_of n before ≡ Some page → page < length before) → (if b then Some (length before) else page_of n before) ≡ Some page → page < length (m ∷ before)
    go true below is = let same : length before ≡ page = cc in omega (arith, same)
    go false below is = omega (arith, below is)

-- a new number's page
pub page-own : (n : ℕ) (seen : List ℕ) → page_of n (n ∷ seen) ≡ Some (length seen)
page-own n seen = ap (λ b. if b then Some (length seen) else page_of n seen) (eq-eqb n n refl)

-- the others keep theirs
pub page-kept : (m n page : ℕ) (seen : List ℕ) → page_of m seen ≡ Some page → page_of n seen ≡ None → page_of m (n ∷ seen) ≡ Some page
page-kept m n page seen is fresh = go (n == m) refl
  where
    go : (b : Bool) → (n == m) ≡ b → (if b then Some (length seen) else page_of m seen) ≡ Some page
    go true e = let missing : page_of m seen ≡ None = subst (λ k. page_of k seen ≡ None) (eqb-true n m e) fresh in cc
    go false e = is

-- two numbers with one page are one
pub page-one : (m n page : ℕ) (seen : List ℕ) → page_of m seen ≡ Some page → page_of n seen ≡ Some page → m ≡ n
page-one m n page [] here there = cc here
page-one m n page (s ∷ before) here there = go (λ a b. page-one m n page before a b) (s == m) (s == n) refl refl here there
  where
    go : (page_of m before ≡ Some page → page_of n before ≡ Some page → m ≡ n) → (a b : Bool) → (s == m) ≡ a → (s == n) ≡ b → (if a then Some (length before) else page_of m before) ≡ Some page → (if b then Some (length before) else page_of n before) ≡ Some page → m ≡ n
    go one true true d e here there = sym (eqb-true s m d) ∙ eqb-true s n e
    go one true false d e here there = let same : length before ≡ page = cc in absurd (omega (arith, same, page-below n page before there))
    go one false true d e here there = let same : length before ≡ page = cc in absurd (omega (arith, same, page-below m page before here))
    go one false false d e here there = one here there

-- ---- the numbers of a list

abbrev pub HasPage : List ℕ → ℕ → ℕ → Type 0
HasPage seen n page = page_of n seen ≡ Some page

weaken : (R S : ℕ → ℕ → Type 0) → ((x y : ℕ) → R x y → S x y) → (xs ys : List ℕ) → AllZip R xs ys → AllZip S xs ys
weaken R S more [] [] all = tt
weaken R S more [] (y ∷ ys) all = absurd all
weaken R S more (x ∷ xs) [] all = absurd all
weaken R S more (x ∷ xs) (y ∷ ys) all = (more x y all.0, weaken R S more xs ys all.1)

zip-count : (R : ℕ → ℕ → Type 0) (xs ys : List ℕ) → AllZip R xs ys → length ys ≡ length xs
zip-count R [] [] all = refl
zip-count R [] (y ∷ ys) all = absurd all
zip-count R (x ∷ xs) [] all = absurd all
zip-count R (x ∷ xs) (y ∷ ys) all = ap suc (zip-count R xs ys all.1)

zip-at : (R : ℕ → ℕ → Type 0) (xs ys : List ℕ) (i a b : ℕ) → i < length xs → AllZip R xs ys → R (get_or xs i a) (get_or ys i b)
zip-at R [] ys i a b within all = absurd (omega arith)
zip-at R (x ∷ xs) [] i a b within all = absurd all
zip-at R (x ∷ xs) (y ∷ ys) zero a b within all = all.0
zip-at R (x ∷ xs) (y ∷ ys) (suc i) a b within all = zip-at R xs ys i a b (omega (arith, within)) all.1

pages-next : (numbers pages seen newer : List ℕ) (n page : ℕ) → AllZip (HasPage seen) numbers pages → ComesNext n seen page newer → AllZip (HasPage newer) (numbers ++ n ∷ []) (pages ++ page ∷ [])
pages-next numbers pages seen newer n page all (again is) = AllZip-push (HasPage seen) numbers pages n page all is
pages-next numbers pages seen newer n page all (first fresh) =
    AllZip-push (HasPage (n ∷ seen)) numbers pages n (length seen) (weaken (HasPage seen) (HasPage (n ∷ seen)) (λ m p is. page-kept m n p seen is fresh) numbers pages all) (page-own n seen)

pub dense-pages : (numbers pages seen : List ℕ) → AreDense numbers pages seen → AllZip (HasPage seen) numbers pages
dense-pages numbers pages seen none = tt
dense-pages numbers pages seen (one_more {numbers = ns} {pages = ps} {seen = s} {newer = newer} {n = n} {page = page} before comes) = pages-next ns ps s newer n page (dense-pages ns ps s before) comes

pub dense-count : (numbers pages seen : List ℕ) → AreDense numbers pages seen → length pages ≡ length numbers
dense-count numbers pages seen are = zip-count (HasPage seen) numbers pages (dense-pages numbers pages seen are)

pub dense-at : (numbers pages seen : List ℕ) (i a b : ℕ) → AreDense numbers pages seen → i < length numbers → page_of (get_or numbers i a) seen ≡ Some (get_or pages i b)
dense-at numbers pages seen i a b are within = zip-at (HasPage seen) numbers pages i a b within (dense-pages numbers pages seen are)

pub dense-below : (numbers pages seen : List ℕ) → AreDense numbers pages seen → All (λ page. page < length seen) pages
dense-below numbers pages seen are k d within =
    page-below (get_or numbers k d) (get_or pages k d) seen (dense-at numbers pages seen k d d are (omega (arith, within, dense-count numbers pages seen are)))

-- the place of a page that some number has
abbrev pub HasPlace : List ℕ → List ℕ → ℕ → Type 0
HasPlace numbers pages page = (i : ℕ) × (i < length numbers) × (get_or pages i 0 ≡ page)

place-more : (numbers pages : List ℕ) (n p page : ℕ) → length pages ≡ length numbers → HasPlace numbers pages page → HasPlace (numbers ++ n ∷ []) (pages ++ p ∷ []) page
place-more numbers pages n p page count (i, within, is) = (i, omega (arith, within, length-append numbers (n ∷ [])), get_or_append_left pages (p ∷ []) 0 i (omega (arith, within, count)) ∙ is)

place-last : (numbers pages : List ℕ) (n page : ℕ) → length pages ≡ length numbers → HasPlace (numbers ++ n ∷ []) (pages ++ page ∷ []) page
place-last numbers pages n page count = (length numbers, omega (arith, length-append numbers (n ∷ [])), ap (λ i. get_or (pages ++ page ∷ []) i 0) (sym count) ∙ get_or-append_seam pages page [] 0)

places-next : (numbers pages seen newer : List ℕ) (n p page : ℕ) → length pages ≡ length numbers → (page < length seen → HasPlace numbers pages page) → ComesNext n seen p newer → page < length newer → HasPlace (numbers ++ n ∷ []) (pages ++ p ∷ []) page
places-next numbers pages seen newer n p page count before (again is) below = place-more numbers pages n p page count (before below)
places-next numbers pages seen newer n p page count before (first fresh) below = by (eq-or-lt_of_le (omega (arith, below)))
  where
    by : (page ≡ length seen) ⊎ (page < length seen) → HasPlace (numbers ++ n ∷ []) (pages ++ length seen ∷ []) page
    by (inl is) = subst (λ q. HasPlace (numbers ++ n ∷ []) (pages ++ length seen ∷ []) q) (sym is) (place-last numbers pages n (length seen) count)
    by (inr less) = place-more numbers pages n (length seen) page count (before less)

-- each page below how many there are is some number's
pub dense-each : (numbers pages seen : List ℕ) (page : ℕ) → AreDense numbers pages seen → page < length seen → HasPlace numbers pages page
dense-each numbers pages seen page none below = absurd (omega arith)
dense-each numbers pages seen page (one_more {numbers = ns} {pages = ps} {seen = s} {newer = newer} {n = n} {page = p} before comes) below =
    places-next ns ps s newer n p page (dense-count ns ps s before) (dense-each ns ps s page before) comes below
