-- Lists of candidates: what an edit does to what is found, and places against look-ups.
use Rattle.std.proofs.Common.{◌≡◌, ◌≢◌, ℕ, zero, suc, ◌<◌, ◌==◌, List, [], ◌∷◌, ◌++◌, length, Some, None, IsSome, get_or, refl, sym, ap, ◌∙◌, subst, inl, inr, arith}
use Rattle.std.specs.Option.{is_some}
use Rattle.std.specs.List.{insert, remove, list_any, position, position_or_len}
use Rattle.std.proofs.lemmas.Bool.{cases_Bool, cases_eq, eq-eqb, ne_eqb, lt-ltb, false≢true}
use Rattle.std.proofs.lemmas.List.Edits.{insert_end}
use Rattle.std.proofs.lemmas.Option.{none-some}
use Rattle.bp_references.specs.Candidates.{Candidate, find_entry, NoPageTwice}
use Rattle.bp_references.proofs.Lists.{IsIn}

-- ---- the first entry

find_head : (e : Candidate) (es : List Candidate) (q : ℕ) → e.2 ≡ q → find_entry (e ∷ es) q ≡ Some (e.0, e.1)
find_head e es q is = rw (eq-eqb e.2 q is) refl

find_tail : (e : Candidate) (es : List Candidate) (q : ℕ) → e.2 ≢ q → find_entry (e ∷ es) q ≡ find_entry es q
find_tail e es q apart = rw (ne_eqb e.2 q apart) refl

-- a page that isn't found isn't the first one's, nor found in the others
absent_head : (e : Candidate) (es : List Candidate) (q : ℕ) → find_entry (e ∷ es) q ≡ None → e.2 ≢ q
absent_head e es q absent is = none-some _ (sym absent ∙ find_head e es q is)

absent_tail : (e : Candidate) (es : List Candidate) (q : ℕ) → find_entry (e ∷ es) q ≡ None → find_entry es q ≡ None
absent_tail e es q absent = sym (find_tail e es q (absent_head e es q absent)) ∙ absent

-- ---- one more entry

module _ (x : Candidate) where
  pub find_inserted : (es : List Candidate) (i : ℕ) → find_entry es x.2 ≡ None → find_entry (insert es i x) x.2 ≡ Some (x.0, x.1)
  find_inserted es zero absent = find_head x es x.2 refl
  find_inserted [] (suc i) absent = find_head x [] x.2 refl
  find_inserted (e ∷ es) (suc i) absent = find_tail e (insert es i x) x.2 (absent_head e es x.2 absent) ∙ find_inserted es i (absent_tail e es x.2 absent)

  pub find_beside_inserted : (es : List Candidate) (i q : ℕ) → q ≢ x.2 → find_entry (insert es i x) q ≡ find_entry es q
  find_beside_inserted es zero q apart = find_tail x es q (λ is. apart (sym is))
  find_beside_inserted [] (suc i) q apart = find_tail x [] q (λ is. apart (sym is))
  find_beside_inserted (e ∷ es) (suc i) q apart = elim (cases_eq e.2 q) [
    | inl is ↦ find_head e (insert es i x) q is ∙ sym (find_head e es q is)
    | inr other ↦ find_tail e (insert es i x) q other ∙ find_beside_inserted es i q apart ∙ sym (find_tail e es q other)
  ]

  pub apart_inserted : (es : List Candidate) (i : ℕ) → NoPageTwice es → find_entry es x.2 ≡ None → NoPageTwice (insert es i x)
  apart_inserted es zero apart absent = (absent, apart)
  apart_inserted [] (suc i) apart absent = (refl, tt)
  apart_inserted (e ∷ es) (suc i) apart absent = (
    find_beside_inserted es i e.2 (absent_head e es x.2 absent) ∙ apart.0,
    apart_inserted es i apart.1 (absent_tail e es x.2 absent),
  )

-- ---- places

-- the page at a place is found there
pub find_at : (es : List Candidate) (i : ℕ) (d : Candidate) → NoPageTwice es → i < length es → find_entry es (get_or es i d).2 ≡ Some ((get_or es i d).0, (get_or es i d).1)
find_at [] i d apart lt = absurd (omega arith)
find_at (e ∷ es) zero d apart lt = find_head e es e.2 refl
find_at (e ∷ es) (suc i) d apart lt =
    let there = find_at es i d apart.1 (omega arith) in
    find_tail e es (get_or es i d).2 (λ is. none-some _ (sym apart.0 ∙ ap (find_entry es) is ∙ there)) ∙ there

-- no other place has the page of an earlier one
not_at : (e : Candidate) (es : List Candidate) (i : ℕ) (d : Candidate) → NoPageTwice (e ∷ es) → i < length es → e.2 ≢ (get_or es i d).2
not_at e es i d apart lt is = none-some _ (sym apart.0 ∙ ap (find_entry es) is ∙ find_at es i d apart.1 lt)

abbrev parts_of : Candidate → ℕ × ℕ
parts_of e = (e.0, e.1)

same_candidate : (e x : Candidate) → e.2 ≡ x.2 → Some (parts_of e) ≡ Some (parts_of x) → e ≡ x
same_candidate e x page parts =
    let same : parts_of e ≡ parts_of x = cc in
    let stamp : e.0 ≡ x.0 = ap (λ (p : ℕ × ℕ). p.0) same in
    let last : e.1 ≡ x.1 = ap (λ (p : ℕ × ℕ). p.1) same in
    λ i. (stamp i, last i, page i)

-- ---- elements

-- what is found is in the list, and what is in the list is found
pub found_in : (es : List Candidate) (x : Candidate) → find_entry es x.2 ≡ Some (x.0, x.1) → IsIn x es
found_in [] x found = absurd (none-some _ found)
found_in (e ∷ es) x found = elim (cases_eq e.2 x.2) [
  | inl is ↦ inl (same_candidate e x is (sym (find_head e es x.2 is) ∙ found))
  | inr other ↦ inr (found_in es x (sym (find_tail e es x.2 other) ∙ found))
]

pub in_found : (es : List Candidate) (x : Candidate) → NoPageTwice es → IsIn x es → find_entry es x.2 ≡ Some (x.0, x.1)
in_found [] x apart there = absurd there
in_found (e ∷ es) x apart (inl is) = subst (λ (y : Candidate). find_entry (e ∷ es) y.2 ≡ Some (y.0, y.1)) is (find_head e es e.2 refl)
in_found (e ∷ es) x apart (inr there) =
    let found = in_found es x apart.1 there in
    find_tail e es x.2 (λ is. none-some _ (sym apart.0 ∙ ap (find_entry es) is ∙ found)) ∙ found

-- a page of no element isn't found
pub find_nowhere : (es : List Candidate) (q : ℕ) → ((x : Candidate) → IsIn x es → x.2 ≢ q) → find_entry es q ≡ None
find_nowhere [] q nowhere = refl
find_nowhere (e ∷ es) q nowhere = find_tail e es q (nowhere e (inl refl)) ∙ find_nowhere es q (λ x there. nowhere x (inr there))

-- ---- tests

pub any_found : (es : List Candidate) (page : ℕ) → list_any (λ e. e.2 == page) es ≡ is_some (find_entry es page)
any_found [] page = refl
any_found (e ∷ es) page = elim (cases_Bool (e.2 == page)) [
  | inl is ↦ rw is refl
  | inr other ↦ rw other (any_found es page)
]

-- an entered page has a place
place_below : (es : List Candidate) (page : ℕ) → IsSome (find_entry es page) → position_or_len (λ e. e.2 == page) es < length es
place_below [] page found = absurd (false≢true found)
place_below (e ∷ es) page found = elim (cases_Bool (e.2 == page)) [
  | inl is ↦ rw is (omega arith)
  | inr other ↦ (let below = place_below es page (rw other at found) in rw other (omega (arith, below)))
]

pub position_found : (es : List Candidate) (page : ℕ) → IsSome (find_entry es page) → IsSome (position (λ e. e.2 == page) es)
position_found es page found = rw (lt-ltb _ _ (place_below es page found)) refl

-- ---- one entry less

module _ (d : Candidate) where
  pub find_removed : (es : List Candidate) (i : ℕ) → NoPageTwice es → i < length es → find_entry (remove es i) (get_or es i d).2 ≡ None
  find_removed [] i apart lt = absurd (omega arith)
  find_removed (e ∷ es) zero apart lt = apart.0
  find_removed (e ∷ es) (suc i) apart lt = find_tail e (remove es i) (get_or es i d).2 (not_at e es i d apart (omega arith)) ∙ find_removed es i apart.1 (omega arith)

  pub find_beside_removed : (es : List Candidate) (i q : ℕ) → i < length es → q ≢ (get_or es i d).2 → find_entry (remove es i) q ≡ find_entry es q
  find_beside_removed [] i q lt other = absurd (omega arith)
  find_beside_removed (e ∷ es) zero q lt other = sym (find_tail e es q (λ is. other (sym is)))
  find_beside_removed (e ∷ es) (suc i) q lt other = elim (cases_eq e.2 q) [
    | inl is ↦ find_head e (remove es i) q is ∙ sym (find_head e es q is)
    | inr apart ↦ find_tail e (remove es i) q apart ∙ find_beside_removed es i q (omega arith) other ∙ sym (find_tail e es q apart)
  ]

  pub apart_removed : (es : List Candidate) (i : ℕ) → NoPageTwice es → i < length es → NoPageTwice (remove es i)
  apart_removed [] i apart lt = absurd (omega arith)
  apart_removed (e ∷ es) zero apart lt = apart.1
  apart_removed (e ∷ es) (suc i) apart lt = (
    find_beside_removed es i e.2 (omega arith) (not_at e es i d apart (omega arith)) ∙ apart.0,
    apart_removed es i apart.1 (omega arith),
  )

-- ---- one more entry, at the end

module _ (x : Candidate) (es : List Candidate) where
  pub find_pushed : find_entry es x.2 ≡ None → find_entry (es ++ x ∷ []) x.2 ≡ Some (x.0, x.1)
  find_pushed absent = rw (← insert_end es x) (find_inserted x es (length es) absent)

  pub find_beside_pushed : (q : ℕ) → q ≢ x.2 → find_entry (es ++ x ∷ []) q ≡ find_entry es q
  find_beside_pushed q apart = rw (← insert_end es x) (find_beside_inserted x es (length es) q apart)

  pub apart_pushed : NoPageTwice es → find_entry es x.2 ≡ None → NoPageTwice (es ++ x ∷ [])
  apart_pushed apart absent = subst NoPageTwice (insert_end es x) (apart_inserted x es (length es) apart absent)
