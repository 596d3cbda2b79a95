-- One part after the other is asked.
use Rattle.std.proofs.Common.{◌≡◌, ◌⊎◌, inl, inr, refl, sym, ap, ◌∙◌, subst, ℕ, ◌+◌, ◌<◌, ◌≤◌, min, List, [], Option, Some, None, length, slice_index_or, slice_set, length-set, arith}
use Rattle.std.proofs.Math.Nat.{eq-or-lt_of_le}
use Rattle.std.proofs.Math.Nat.{min-eq_left, min-eq_right, min-le_left, min-le_right}
use Rattle.std.proofs.lemmas.Bool.{cases_lt}
use Rattle.std.proofs.lemmas.Option.{none-some}
use Rattle.std.proofs.lemmas.Grind.{get_or-set_at}
use Rattle.std.proofs.lemmas.List.{get_or-set_other, get_or_default}
use Rattle.bp_trail.specs.Saved.{first_lsn, IsRedoFrom}
use Rattle.bp_trail.specs.Trail.{Trail}
use Rattle.bp_shared.specs.Sessions.{SessionValue, new_session}
use Rattle.bp_parts.specs.Parts.{PartedValue, InEachPart}
use Rattle.bp_parts.specs.Redo.{IsRedoFromAll, earlier, seen_in}

-- the sessions of the first so many parts did so, and the others are as they were
pub record AsksSoFar (Did : SessionValue → SessionValue → Type 0) (n : ℕ) (old new : PartedValue) : Type 0 where
  pub client_is : new.client ≡ old.client
  pub count_is : length new.sessions ≡ length old.sessions
  pub each : (i : ℕ) (d : SessionValue) → i < n → i < length old.sessions → Did (slice_index_or old.sessions i d) (slice_index_or new.sessions i d)
  pub left : (i : ℕ) (d : SessionValue) → n ≤ i → slice_index_or new.sessions i d ≡ slice_index_or old.sessions i d

pub asks_none : (Did : SessionValue → SessionValue → Type 0) (old : PartedValue) → AsksSoFar Did 0 old old
asks_none Did old = record { client_is = refl; count_is = refl; each = λ i d below within. absurd (omega (arith, below)); left = λ i d from. refl }

pub asks_all : (Did : SessionValue → SessionValue → Type 0) (n : ℕ) (old new : PartedValue) → AsksSoFar Did n old new → length old.sessions ≤ n → InEachPart old new Did
asks_all Did n old new a all = record { client_is = a.client_is; count_is = a.count_is; each = λ i d within. a.each i d (omega (arith, within, all)) within }

-- the next one is asked
pub asks_more : (Did : SessionValue → SessionValue → Type 0) (n client : ℕ) (old : PartedValue) (xs : List SessionValue) (was is d : SessionValue) → AsksSoFar Did n old (record { client = client; sessions = xs }) → n < length xs → was ≡ slice_index_or xs n d → Did was is
    → AsksSoFar Did (n + 1) old (record { client = client; sessions = slice_set xs n is })
asks_more Did n client old xs was is d a below stood did = record {
  client_is = a.client_is;
  count_is = length-set xs n is ∙ a.count_is;
  each = each;
  left = λ i e from. get_or-set_other xs n i is e (λ same. absurd (omega (arith, same, from))) ∙ a.left i e (omega (arith, from));
}
  where
    first : (e : SessionValue) → was ≡ slice_index_or old.sessions n e
    first e = stood ∙ get_or_default xs n d e below ∙ a.left n e (omega arith)

    each : (i : ℕ) (e : SessionValue) → i < n + 1 → i < length old.sessions → Did (slice_index_or old.sessions i e) (slice_index_or (slice_set xs n is) i e)
    each i e before within = go (eq-or-lt_of_le (omega (arith, before)))
      where
        go : (i ≡ n) ⊎ (i < n) → Did (slice_index_or old.sessions i e) (slice_index_or (slice_set xs n is) i e)
        go (inl same) = subst (Did (slice_index_or old.sessions i e)) (sym (get_or-set_at xs n i is e same below)) (subst (λ s. Did s is) (first e ∙ ap (λ k. slice_index_or old.sessions k e) (sym same)) did)
        go (inr less) = subst (Did (slice_index_or old.sessions i e)) (sym (get_or-set_other xs n i is e (λ same. absurd (omega (arith, less, same))))) (a.each i e less within)

-- ---- from where redo has to begin

pub redo_none : (sessions : List SessionValue) → IsRedoFromAll 0 sessions None
redo_none sessions part p below = absurd (omega (arith, below))

-- what the first parts show stays
still : (n i : ℕ) (xs : List SessionValue) (is : SessionValue) → i < n → seen_in (slice_set xs n is) i ≡ seen_in xs i
still n i xs is less = ap (λ (s : SessionValue). s.seen) (get_or-set_other xs n i is (new_session [] 0) (λ same. absurd (omega (arith, less, same))))

-- the part that was asked last, or one before it
split : (n part : ℕ) (xs : List SessionValue) (is : SessionValue) → n < length xs → part < n + 1 → (seen_in (slice_set xs n is) part ≡ is.seen) ⊎ ((part < n) × (seen_in (slice_set xs n is) part ≡ seen_in xs part))
split n part xs is below before = go (eq-or-lt_of_le (omega (arith, before)))
  where
    go : (part ≡ n) ⊎ (part < n) → (seen_in (slice_set xs n is) part ≡ is.seen) ⊎ ((part < n) × (seen_in (slice_set xs n is) part ≡ seen_in xs part))
    go (inl same) = inl (ap (λ (s : SessionValue). s.seen) (get_or-set_at xs n part is (new_session [] 0) same below))
    go (inr less) = inr (less, still n part xs is less)

newest : (n : ℕ) (xs : List SessionValue) (is : SessionValue) → n < length xs → seen_in (slice_set xs n is) n ≡ is.seen
newest n xs is below = ap (λ (s : SessionValue). s.seen) (get_or-set_at xs n n is (new_session [] 0) refl below)

-- at this LSN some page was first unsaved in one of the parts
abbrev Met : ℕ → List SessionValue → ℕ → Type 0
Met n sessions lsn = (part : ℕ) × (p : ℕ) × (part < n) × (first_lsn (seen_in sessions part) p ≡ Some lsn)

pub redo_more : (n : ℕ) (xs : List SessionValue) (is : SessionValue) (least from : Option ℕ) → n < length xs → IsRedoFromAll n xs least → IsRedoFrom is.seen from → IsRedoFromAll (n + 1) (slice_set xs n is) (earlier least from)
redo_more n xs is least from below all own = go least from all own
  where
    at : (t u : Trail) (p : ℕ) → t ≡ u → first_lsn t p ≡ first_lsn u p
    at t u p same = ap (λ (x : Trail). first_lsn x p) same

    met_here : (p lsn : ℕ) → first_lsn is.seen p ≡ Some lsn → Met (n + 1) (slice_set xs n is) lsn
    met_here p lsn h = (n, p, omega arith, at _ _ p (newest n xs is below) ∙ h)

    met_before : (lsn : ℕ) → Met n xs lsn → Met (n + 1) (slice_set xs n is) lsn
    met_before lsn (i, p, less, h) = (i, p, omega (arith, less), at _ _ p (still n i xs is less) ∙ h)

    go : (least from : Option ℕ) → IsRedoFromAll n xs least → IsRedoFrom is.seen from → IsRedoFromAll (n + 1) (slice_set xs n is) (earlier least from)
    go None None all own = λ part p before. elim (split n part xs is below before) [ inl same ↦ at _ _ p same ∙ own p | inr old ↦ at _ _ p old.1 ∙ all part p old.0 ]
    go None (Some b) all own = (
      met_here own.0.0 b own.0.1,
      λ part p later before h. elim (split n part xs is below before) [
        | inl same ↦ own.1 p later (sym (at _ _ p same) ∙ h)
        | inr old ↦ absurd (none-some later (sym (all part p old.0) ∙ sym (at _ _ p old.1) ∙ h))
      ],
    )
    go (Some a) None all own = (
      met_before a all.0,
      λ part p later before h. elim (split n part xs is below before) [
        | inl same ↦ absurd (none-some later (sym (own p) ∙ sym (at _ _ p same) ∙ h))
        | inr old ↦ all.1 part p later old.0 (sym (at _ _ p old.1) ∙ h)
      ],
    )
    go (Some a) (Some b) all own = (
      met (cases_lt a b),
      λ part p later before h. elim (split n part xs is below before) [
        | inl same ↦ (let l = own.1 p later (sym (at _ _ p same) ∙ h) in omega (arith, l, min-le_right a b))
        | inr old ↦ (let l = all.1 part p later old.0 (sym (at _ _ p old.1) ∙ h) in omega (arith, l, min-le_left a b))
      ],
    )
      where
        met : (a < b) ⊎ (b ≤ a) → Met (n + 1) (slice_set xs n is) (min a b)
        met (inl less) = subst (Met (n + 1) (slice_set xs n is)) (sym (min-eq_left (omega (arith, less)))) (met_before a all.0)
        met (inr most) = subst (Met (n + 1) (slice_set xs n is)) (sym (min-eq_right most)) (met_here own.0.0 b own.0.1)
