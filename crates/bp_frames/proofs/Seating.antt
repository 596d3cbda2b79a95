-- The candidates at the seats of their slots: no page stands twice, and what a change of one seat leaves.
use Rattle.std.proofs.Common.{◌≡◌, ◌≢◌, ℕ, zero, suc, ◌+◌, ◌<◌, List, [], ◌∷◌, length, length-set, get_or, set, replicate, Option, Some, None, refl, sym, ap, ◌∙◌, inl, inr, arith}
use Rattle.std.proofs.lemmas.Bool.{cases_eq, eq-eqb, ne_eqb}
use Rattle.std.proofs.lemmas.List.{get_or-set_same, get_or-set_other}
use Rattle.std.proofs.lemmas.Option.{none-some, same_Some}
use Rattle.bp_references.specs.Candidates.{Candidate, find_entry, NoPageTwice}
use Rattle.bp_replacer.specs.Seats.{seated_in, seat_at}
use Rattle.bp_references.proofs.EntryLaws.{in_found, find_nowhere}
use Rattle.bp_replacer.proofs.SeatSteps.{in_seated, seated_at}
use Rattle.bp_frames.specs.declared.frame.Frame.{Frame}
use Rattle.bp_frames.specs.Tables.{places_from, IsTable, IsSeating}
use Rattle.bp_frames.proofs.Tables.{one-page}

find-head : (e : Candidate) (es : List Candidate) (q : ℕ) → e.2 ≡ q → find_entry (e ∷ es) q ≡ Some (e.0, e.1)
find-head e es q is = rw (eq-eqb e.2 q is) refl

find-tail : (e : Candidate) (es : List Candidate) (q : ℕ) → e.2 ≢ q → find_entry (e ∷ es) q ≡ find_entry es q
find-tail e es q apart = rw (ne_eqb e.2 q apart) refl

pub once-from : (seats : List (Option Candidate)) → ((i j : ℕ) (a b : Candidate) → seat_at seats i ≡ Some a → seat_at seats j ≡ Some b → a.2 ≡ b.2 → i ≡ j) → NoPageTwice (seated_in seats)
once-from [] own = tt
once-from (None ∷ seats) own = once-from seats (λ i j a b x y e. omega (arith, own (suc i) (suc j) a b x y e))
once-from (Some e ∷ seats) own = (
  find_nowhere (seated_in seats) e.2 (λ x there page. let at = in_seated seats x there in absurd (omega (arith, own 0 (suc at.0) e x refl at.2 (sym page)))),
  once-from seats (λ i j a b x y e. omega (arith, own (suc i) (suc j) a b x y e)),
)

-- a page that neither comes nor goes
others-put : (seats : List (Option Candidate)) (k : ℕ) (v : Option Candidate) (q : ℕ) → ((e : Candidate) → seat_at seats k ≡ Some e → e.2 ≢ q) → ((e : Candidate) → v ≡ Some e → e.2 ≢ q) → find_entry (seated_in (set seats k v)) q ≡ find_entry (seated_in seats) q
others-put [] k v q was comes = refl
others-put (None ∷ seats) zero None q was comes = refl
others-put (None ∷ seats) zero (Some e) q was comes = find-tail e (seated_in seats) q (comes e refl)
others-put (Some a ∷ seats) zero None q was comes = sym (find-tail a (seated_in seats) q (was a refl))
others-put (Some a ∷ seats) zero (Some e) q was comes = find-tail e (seated_in seats) q (comes e refl) ∙ sym (find-tail a (seated_in seats) q (was a refl))
others-put (None ∷ seats) (suc k) v q was comes = others-put seats k v q was comes
others-put (Some a ∷ seats) (suc k) v q was comes = elim (cases_eq a.2 q) [
  | inl is ↦ find-head a (seated_in (set seats k v)) q is ∙ sym (find-head a (seated_in seats) q is)
  | inr other ↦ find-tail a (seated_in (set seats k v)) q other ∙ others-put seats k v q was comes ∙ sym (find-tail a (seated_in seats) q other)
]

module _ (capacity : ℕ) (ws : List ℕ) (seats : List (Option Candidate)) (s : IsSeating capacity ws seats) where
  pub once : NoPageTwice (seated_in seats)
  once = once-from seats (λ i j a b x y page. omega (arith, s.own i a x, s.own j b y, ap (λ p. get_or ws p 0) page))

  pub entry-at : (k : ℕ) (e : Candidate) → seat_at seats k ≡ Some e → find_entry (seated_in seats) e.2 ≡ Some (e.0, e.1)
  entry-at k e is = in_found (seated_in seats) e once (seated_at seats k e is)

  pub entry-none : (page : ℕ) → ((k : ℕ) (e : Candidate) → seat_at seats k ≡ Some e → e.2 ≢ page) → find_entry (seated_in seats) page ≡ None
  entry-none page nowhere = find_nowhere (seated_in seats) page (λ x there. let at = in_seated seats x there in nowhere at.0 x at.2)

  -- a page more, and a page fewer
  pub seating-filled : (page slot : ℕ) → get_or ws page 0 ≡ 0 → IsSeating capacity (set ws page (slot + 1)) seats
  seating-filled page slot away = record {
    seats_is = s.seats_is;
    own = λ k e is. get_or-set_other ws page e.2 (slot + 1) 0 (λ same. absurd (omega (arith, s.own k e is, ap (λ p. get_or ws p 0) same, away))) ∙ s.own k e is;
  }

  pub seating-vacated : (page : ℕ) → find_entry (seated_in seats) page ≡ None → IsSeating capacity (set ws page 0) seats
  seating-vacated page none = record {
    seats_is = s.seats_is;
    own = λ k e is. get_or-set_other ws page e.2 0 0 (λ same. none-some (e.0, e.1) (sym none ∙ ap (find_entry (seated_in seats)) (sym same) ∙ entry-at k e is)) ∙ s.own k e is;
  }

pub length-replicated : {X : Type 0} (n : ℕ) (x : X) → length (replicate n x) ≡ n
length-replicated zero x = refl
length-replicated (suc n) x = ap suc (length-replicated n x)

pub no-seats : (capacity : ℕ) (ws : List ℕ) → IsSeating capacity ws (replicate capacity None)
no-seats capacity ws = record {
  seats_is = length-replicated capacity None;
  own = λ k e is. absurd (none-some e (sym (empty capacity k) ∙ is));
}
  where
    empty : (n k : ℕ) → seat_at (replicate n None) k ≡ None
    empty zero k = refl
    empty (suc n) zero = refl
    empty (suc n) (suc k) = empty n k

pub nobody-seated : (n : ℕ) → seated_in (replicate n None) ≡ []
nobody-seated zero = refl
nobody-seated (suc n) = nobody-seated n

-- ---- the seat of a page's slot
module _ (size capacity : ℕ) (slots : List Frame) (ws empty_frames : List ℕ) (t : IsTable size capacity slots (places_from 0 ws) empty_frames) (seats : List (Option Candidate)) (s : IsSeating capacity ws seats) (page slot : ℕ) (here : get_or ws page 0 ≡ slot + 1) (lt : slot < capacity) where
  own-entry : (e : Candidate) → seat_at seats slot ≡ Some e → e.2 ≡ page
  own-entry e is = one-page size capacity slots ws empty_frames t e.2 page slot (s.own slot e is) here

  pub seating-entered : (h l : ℕ) → IsSeating capacity ws (set seats slot (Some (h, l, page)))
  seating-entered h l = record {
    seats_is = length-set seats slot (Some (h, l, page)) ∙ s.seats_is;
    own = λ k e is. elim (cases_eq k slot) [
      | inl same ↦
          let e_is : (h, l, page) ≡ e = same_Some (h, l, page) e (sym (get_or-set_same seats slot (Some (h, l, page)) None (omega (arith, s.seats_is, lt))) ∙ ap (seat_at (set seats slot (Some (h, l, page)))) (sym same) ∙ is) in
          ap (λ (x : Candidate). get_or ws x.2 0) (sym e_is) ∙ here ∙ ap (λ n. n + 1) (sym same)
      | inr other ↦ s.own k e (sym (get_or-set_other seats slot k (Some (h, l, page)) None other) ∙ is)
    ];
  }

  pub seating-left : IsSeating capacity ws (set seats slot None)
  seating-left = record {
    seats_is = length-set seats slot None ∙ s.seats_is;
    own = λ k e is. elim (cases_eq k slot) [
      | inl same ↦ absurd (none-some e (sym (get_or-set_same seats slot None None (omega (arith, s.seats_is, lt))) ∙ ap (seat_at (set seats slot None)) (sym same) ∙ is))
      | inr other ↦ s.own k e (sym (get_or-set_other seats slot k None None other) ∙ is)
    ];
  }

  pub entered-here : (h l : ℕ) → find_entry (seated_in (set seats slot (Some (h, l, page)))) page ≡ Some (h, l)
  entered-here h l = entry-at capacity ws (set seats slot (Some (h, l, page))) (seating-entered h l) slot (h, l, page) (get_or-set_same seats slot (Some (h, l, page)) None (omega (arith, s.seats_is, lt)))

  pub entered-others : (h l : ℕ) → (q : ℕ) → q ≢ page → find_entry (seated_in (set seats slot (Some (h, l, page)))) q ≡ find_entry (seated_in seats) q
  entered-others h l q other = others-put seats slot (Some (h, l, page)) q (λ e is same. other (sym same ∙ own-entry e is)) (λ e is same. other (sym same ∙ ap (λ (x : Candidate). x.2) (sym (same_Some (h, l, page) e is))))

  pub left-here : find_entry (seated_in (set seats slot None)) page ≡ None
  left-here = entry-none capacity ws (set seats slot None) seating-left page (λ k e is page_is.
      let k_is : k ≡ slot = omega (arith, seating-left.own k e is, ap (λ p. get_or ws p 0) page_is, here) in
      none-some e (sym (get_or-set_same seats slot None None (omega (arith, s.seats_is, lt))) ∙ ap (seat_at (set seats slot None)) (sym k_is) ∙ is))

  pub left-others : (q : ℕ) → q ≢ page → find_entry (seated_in (set seats slot None)) q ≡ find_entry (seated_in seats) q
  left-others q other = others-put seats slot None q (λ e is same. other (sym same ∙ own-entry e is)) (λ e is same. none-some e is)
