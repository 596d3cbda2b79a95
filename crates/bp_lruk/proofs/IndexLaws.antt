-- The list in the order of replacement, beside the one in the order of page numbers.
use Rattle.std.proofs.Common.{◌≡◌, ◌≢◌, ℕ, ◌+◌, ◌<◌, ◌≤◌, List, length, get_or, Some, None, sym, ap, ◌∙◌, subst, inl, inr, arith}
use Rattle.std.specs.List.{insert, remove, Contains}
use Rattle.std.proofs.lemmas.Bool.{cases_eq}
use Rattle.std.proofs.lemmas.Option.{none-some}
use Rattle.std.proofs.lemmas.List.Edits.{length-insert, length-remove}
use Rattle.bp_references.specs.Candidates.{Candidate, find_entry, is_before, NoPageTwice}
use Rattle.bp_lruk.specs.Index.{IsInOrder, IsPlaceFor, AreAlike}
use Rattle.bp_references.proofs.Lists.{IsIn, in_at, place_in}
use Rattle.bp_references.proofs.EntryLaws.{found_in, in_found, find_inserted, find_beside_inserted, find_removed, find_beside_removed}
use Rattle.bp_references.proofs.OrderLaws.{pairs_inserted, place_is}
use Rattle.bp_references.proofs.VictimLaws.{not_before_itself, before_later, other_before}

-- ---- what is lent

pub found_contains : (es : List Candidate) (e : Candidate) → find_entry es e.2 ≡ Some (e.0, e.1) → Contains es e
found_contains es e found = let at = place_in es e (found_in es e found) in (at.0, at.1, at.2 e)

pub contains_found : (es : List Candidate) (e : Candidate) → NoPageTwice es → Contains es e → find_entry es e.2 ≡ Some (e.0, e.1)
contains_found es e apart there = in_found es e apart (subst (λ x. IsIn x es) there.2 (in_at es there.0 e there.1))

-- ---- edits

module _ (es : List Candidate) (in_order : IsInOrder es) (apart : NoPageTwice es) (x : Candidate) (at : ℕ) (place : IsPlaceFor es x at) where
  -- a new entry at its place keeps the order
  pub in_order_inserted : find_entry es x.2 ≡ None → IsInOrder (insert es at x)
  in_order_inserted absent = pairs_inserted is_before es at x in_order (λ k d lt in_range. place.before k d lt) (λ k d le in_range. other_before (get_or es k d) x (place.not_before k d le in_range) (other_page k d in_range))
    where
      other_page : (k : ℕ) (d : Candidate) → k < length es → (get_or es k d).2 ≢ x.2
      other_page k d in_range is = none-some _ (sym absent ∙ ap (find_entry es) (sym is) ∙ in_found es (get_or es k d) apart (in_at es k d in_range))

-- x stands at this place
pub record StandsAt (es : List Candidate) (x : Candidate) (at : ℕ) : Type 0 where
  pub in_range : at < length es
  pub here : (d : Candidate) → get_or es at d ≡ x

-- what the list by page numbers tells stands at its place in the other list, which was lent for the search
pub stands_at : (es lent by_page : List Candidate) (x : Candidate) (at : ℕ) → lent ≡ es → IsInOrder es → AreAlike es by_page → IsPlaceFor lent x at → find_entry by_page x.2 ≡ Some (x.0, x.1) → StandsAt es x at
stands_at es lent by_page x at same in_order alike lent_place told =
    let place = subst (λ xs. IsPlaceFor xs x at) same lent_place in
    let own = place_in es x (found_in es x (sym (alike.agree x.2) ∙ told)) in
    let is : at ≡ own.0 = place_is is_before before_later es in_order not_before_itself x at own.0 place.before place.not_before own.1 own.2 in
    record { in_range = omega (arith, is, own.1); here = λ d. ap (λ k. get_or es k d) is ∙ own.2 d }

-- ---- both lists

-- both have one more page
pub alike_entered : (order by_page new : List Candidate) (x : Candidate) (at : ℕ) → AreAlike order by_page → find_entry order x.2 ≡ None → at ≤ length order
    → find_entry new x.2 ≡ Some (x.0, x.1) → ((q : ℕ) → q ≢ x.2 → find_entry new q ≡ find_entry by_page q) → length new ≡ length by_page + 1 → AreAlike (insert order at x) new
alike_entered order by_page new x at alike absent in_range entered others count = record {
  agree = λ q. elim (cases_eq q x.2) [
    | inl is ↦ ap (find_entry new) is ∙ entered ∙ sym (ap (find_entry (insert order at x)) is ∙ find_inserted x order at absent)
    | inr other ↦ others q other ∙ alike.agree q ∙ sym (find_beside_inserted x order at q other)
  ];
  as_many = omega (arith, length-insert order at x in_range, alike.as_many);
}

-- both have one page less
pub alike_left : (order by_page new : List Candidate) (x : Candidate) (at : ℕ) → AreAlike order by_page → NoPageTwice order → StandsAt order x at
    → find_entry new x.2 ≡ None → ((q : ℕ) → q ≢ x.2 → find_entry new q ≡ find_entry by_page q) → length new + 1 ≡ length by_page → AreAlike (remove order at) new
alike_left order by_page new x at alike apart stands left others count =
    let page : (get_or order at x).2 ≡ x.2 = ap (λ (e : Candidate). e.2) (stands.here x) in
    record {
      agree = λ q. elim (cases_eq q x.2) [
        | inl is ↦ ap (find_entry new) is ∙ left ∙ sym (ap (find_entry (remove order at)) (is ∙ sym page) ∙ find_removed x order at apart stands.in_range)
        | inr other ↦ others q other ∙ alike.agree q ∙ sym (find_beside_removed x order at q stands.in_range (λ is. other (is ∙ page)))
      ];
      as_many = omega (arith, length-remove order at stands.in_range, alike.as_many);
    }
