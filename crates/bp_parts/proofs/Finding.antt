-- One part more was asked for its first unsaved page.
use Rattle.std.proofs.Common.{◌≡◌, ◌⊎◌, inl, inr, refl, sym, ap, ◌∙◌, subst, ℕ, ◌+◌, ◌*◌, ◌<◌, ◌≤◌, min, true, false, List, [], Option, Some, None, length, slice_set, arith}
use Rattle.std.proofs.Math.Nat.{add-mul, eq-or-lt_of_le, le-min, min-eq_left, min-eq_right, min-le_left, min-le_right, mul-le-mul_right}
use Rattle.std.specs.Prelude.{IfSome}
use Rattle.std.proofs.lemmas.Bool.{cases_lt}
use Rattle.std.proofs.lemmas.Grind.{get_or-set_at}
use Rattle.std.proofs.lemmas.List.{get_or-set_other}
use Rattle.bp_core.specs.Unsaved.{FindsUnsaved}
use Rattle.bp_trail.specs.Saved.{unsaved}
use Rattle.bp_trail.specs.Trail.{Trail}
use Rattle.bp_shared.specs.Sessions.{SessionValue, new_session}
use Rattle.bp_parts.specs.Finding.{FindsInFile, IsUnsavedIn, in_file}
use Rattle.bp_parts.specs.Redo.{earlier, seen_in}

-- pages of one part stand in the file in their order
up : (parts part p q : ℕ) → p ≤ q → p * parts + part ≤ q * parts + part
up parts part p q below = omega (arith, mul-le-mul_right parts below)

down : (parts part p q : ℕ) → p * parts + part < q * parts + part → p < q
down parts part p q less = go (cases_lt p q)
  where
    go : (p < q) ⊎ (q ≤ p) → p < q
    go (inl below) = below
    go (inr over) = absurd (omega (arith, less, up parts part q p over))

pub finds_none : (parts pages from : ℕ) (xs : List SessionValue) → FindsInFile parts 0 pages from xs None
finds_none parts pages from xs part page below inside over = absurd (omega (arith, below))

module _ (parts n pages from first : ℕ) (xs : List SessionValue) (is : SessionValue) (within : n < length xs) (enough : from ≤ first * parts + n) (is_least : (q : ℕ) → from ≤ q * parts + n → first ≤ q) where
  abbrev ys : List SessionValue
  ys = slice_set xs n is

  at : (t u : Trail) (p : ℕ) → t ≡ u → unsaved t p ≡ unsaved u p
  at t u p same = ap (λ (x : Trail). unsaved x p) same

  newest : (i : ℕ) → i ≡ n → seen_in ys i ≡ is.seen
  newest i same = ap (λ (s : SessionValue). s.seen) (get_or-set_at xs n i is (new_session [] 0) same within)

  still : (i : ℕ) → i < n → seen_in ys i ≡ seen_in xs i
  still i less = ap (λ (s : SessionValue). s.seen) (get_or-set_other xs n i is (new_session [] 0) (λ same. absurd (omega (arith, less, same))))

  met_here : (q : ℕ) → q < pages → unsaved is.seen q ≡ true → IsUnsavedIn parts (n + 1) pages ys (q * parts + n)
  met_here q inside h = record { part = n; page = q; below = omega arith; inside = inside; place = refl; is_unsaved = at _ _ q (newest n refl) ∙ h }

  met_before : (whole : ℕ) → IsUnsavedIn parts n pages xs whole → IsUnsavedIn parts (n + 1) pages ys whole
  met_before whole m = record { part = m.part; page = m.page; below = omega (arith, m.below); inside = m.inside; place = m.place; is_unsaved = at _ _ m.page (still m.part m.below) ∙ m.is_unsaved }

  -- below this number each page of the first parts is saved, and below that one each of the part that was asked
  saved : (end : ℕ) → ((part page : ℕ) → part < n → page < pages → from ≤ page * parts + part → page * parts + part < end → unsaved (seen_in xs part) page ≡ false)
      → ((page : ℕ) → page < pages → from ≤ page * parts + n → page * parts + n < end → unsaved is.seen page ≡ false)
      → (part page : ℕ) → part < n + 1 → page < pages → from ≤ page * parts + part → page * parts + part < end → unsaved (seen_in ys part) page ≡ false
  saved end before own part page below inside over less = go (eq-or-lt_of_le (omega (arith, below)))
    where
      go : (part ≡ n) ⊎ (part < n) → unsaved (seen_in ys part) page ≡ false
      go (inl same) = at _ _ page (newest part same) ∙ own page inside (omega (arith, over, same)) (omega (arith, less, same))
      go (inr fewer) = at _ _ page (still part fewer) ∙ before part page fewer inside over less

  all_saved : ((part page : ℕ) → part < n → page < pages → from ≤ page * parts + part → unsaved (seen_in xs part) page ≡ false)
      → ((page : ℕ) → page < pages → from ≤ page * parts + n → unsaved is.seen page ≡ false)
      → (part page : ℕ) → part < n + 1 → page < pages → from ≤ page * parts + part → unsaved (seen_in ys part) page ≡ false
  all_saved before own part page below inside over =
      saved (page * parts + part + 1) (λ i p fewer within at_least _. before i p fewer within at_least) (λ p within at_least _. own p within at_least) part page below inside over (omega arith)

  pub finds_more : (least found : Option ℕ) → FindsInFile parts n pages from xs least → FindsUnsaved pages first is.seen found → FindsInFile parts (n + 1) pages from ys (earlier least (in_file parts n found))
  finds_more None None all own = all_saved all (λ q inside over. own q (is_least q over) inside)
  finds_more None (Some q) all own = (
    omega (arith, enough, up parts n first q own.0),
    met_here q own.1 own.2,
    saved (q * parts + n) (λ i p fewer inside over _. all i p fewer inside over) (λ p inside over less. own.3 p (is_least p over) (down parts n p q less)),
  )
  finds_more (Some a) None all own = (
    all.0,
    met_before a all.1,
    saved a all.2 (λ p inside over _. own p (is_least p over) inside),
  )
  finds_more (Some a) (Some q) all own =
      let w = q * parts + n in (
        le-min all.0 (omega (arith, enough, up parts n first q own.0)),
        met (cases_lt a w),
        saved (min a w) (λ i p fewer inside over less. all.2 i p fewer inside over (omega (arith, less, min-le_left a w))) (λ p inside over less. own.3 p (is_least p over) (down parts n p q (omega (arith, less, min-le_right a w)))),
      )
    where
      met : (a < q * parts + n) ⊎ (q * parts + n ≤ a) → IsUnsavedIn parts (n + 1) pages ys (min a (q * parts + n))
      met (inl less) = subst (IsUnsavedIn parts (n + 1) pages ys) (sym (min-eq_left (omega (arith, less)))) (met_before a all.1)
      met (inr most) = subst (IsUnsavedIn parts (n + 1) pages ys) (sym (min-eq_right most)) (met_here q own.1 own.2)

-- a page that was found is one of the file
pub found_in_file : (parts n pages from : ℕ) (xs : List SessionValue) (found : Option ℕ) → n ≤ parts → FindsInFile parts n pages from xs found → IfSome found (λ whole. whole < parts * pages)
found_in_file parts n pages from xs None few is = tt
found_in_file parts n pages from xs (Some whole) few is =
    let m = is.1 in
    omega (arith, m.place, m.below, few, add-mul m.page 1 parts, mul-le-mul_right {m = m.page + 1} {n = pages} parts (omega (arith, m.inside)))
