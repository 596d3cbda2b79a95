use Rattle.std.proofs.Common.{◌≡◌, ◌≢◌, ◌∙◌, false, ap, sym, subst, length, arith, ◌<◌, Some, None, List, Option, refl, inl, inr}
use Rattle.std.specs.Option.{is_some}
use Rattle.std.proofs.lemmas.Bool.{cases_lt, true≢false}
use Rattle.std.proofs.lemmas.List.{get_or_past}
use Rattle.bp_references.specs.Candidates.{Candidate}
use Rattle.bp_replacer.specs.Seats.{seat_at, IsFirst, IsFirstAt}
use Rattle.bp_replacer.proofs.TreeLaws.{block_some, first_of_all}
use Rattle.bp_replacer.proofs.tournament.Tournament.first_before.Goals as goal

nobody_there : (e : Option Candidate) → is_some e ≡ false → e ≡ None
nobody_there None empty = refl
nobody_there (Some e) full = absurd (true≢false full)

pub first_below-first-requires-clause-in_range : goal.first_below-first-requires-clause-in_range
first_below-first-requires-clause-in_range c = omega (arith, c.self.invariant.leaves.size, block_some (length c.self.inside.seats), ap length c.deref.ensures.value)

pub returns-then-is_some-clause-found : goal.returns-then-is_some-clause-found
returns-then-is_some-clause-found c =
    let seats : List (Option Candidate) = c.self.inside.seats in
    let seat = c.first_below-first.result in
    let stands : seat_at seats seat ≢ None = λ nobody. true≢false (sym c.if-is_some.true ∙ c.is_some.ensures ∙ ap is_some (c.at.ensures ∙ nobody)) in
    subst (λ (s : List (Option Candidate)). IsFirstAt s (λ (e : Candidate). e.1 < c.args.time) seat) c.self.view_is (record {
      in_range = elim (cases_lt seat (length seats)) [ inl lt ↦ lt | inr ge ↦ absurd (stands (get_or_past seats seat None ge)) ];
      stands = stands;
      first = first_of_all seats (λ (e : Candidate). e.1 < c.args.time) (seat_at seats seat) c.first_below-first.ensures.first;
    })

pub returns-else-is_some-clause-none : goal.returns-else-is_some-clause-none
returns-else-is_some-clause-none c =
    let seats : List (Option Candidate) = c.self.inside.seats in
    let seat = c.first_below-first.result in
    let first = first_of_all seats (λ (e : Candidate). e.1 < c.args.time) (seat_at seats seat) c.first_below-first.ensures.first in
    let nobody = nobody_there (seat_at seats seat) (ap is_some (sym c.at.ensures) ∙ sym c.is_some.ensures ∙ c.if-is_some.false) in
    subst (λ (s : List (Option Candidate)). IsFirst s (λ (e : Candidate). e.1 < c.args.time) None) c.self.view_is
    (subst (IsFirst seats (λ (e : Candidate). e.1 < c.args.time)) nobody first)
