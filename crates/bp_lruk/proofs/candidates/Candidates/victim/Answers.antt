use Rattle.std.proofs.Common.{◌≡◌, ◌∙◌, ℕ, false, sym, ap, subst, Some, None}
use Rattle.std.specs.List.{find}
use Rattle.bp_lruk.specs.contracts.candidates.Candidates.{the_view}
use Rattle.bp_references.specs.Candidates.{is_before, is_eligible, IsVictim}
use Rattle.bp_references.proofs.OrderLaws.{ordered_from_pairs}
use Rattle.bp_references.proofs.VictimLaws.{is_old, find_earliest, find_nothing, earliest_victim, none_eligible}
use Rattle.bp_lruk.proofs.candidates.Candidates.victim.Goals as goal

pub returns-in_err-first-clause-none : goal.returns-in_err-first-clause-none
returns-in_err-first-clause-none c =
    let h = the_view c.self.inside in
    let nothing : find (is_old h.correlated c.args.t) h.entries ≡ None = ap (find (is_old h.correlated c.args.t)) (sym c.deref.ensures.value) ∙ sym c.first_old.ensures ∙ c.in_err-first.was in
    let none : (page : ℕ) → is_eligible c.args.self.now c.args.t page ≡ false = λ page. ap (λ v. is_eligible v c.args.t page) (sym c.self.view_is) ∙ none_eligible h c.args.t c.self.invariant.1 (find_nothing (is_old h.correlated c.args.t) h.entries nothing) page in
    rw c.from_residual.ensures none

pub returns-clause-found : goal.returns-clause-found
returns-clause-found c =
    let h = the_view c.self.inside in
    let first : find (is_old h.correlated c.args.t) h.entries ≡ Some c.in_ok-first.first = ap (find (is_old h.correlated c.args.t)) (sym c.deref.ensures.value) ∙ sym c.first_old.ensures ∙ c.in_ok-first.was in
    let earliest = find_earliest (is_old h.correlated c.args.t) h.entries c.in_ok-first.first (ordered_from_pairs is_before h.entries c.self.invariant.0) first in
    subst (λ v. IsVictim v c.args.t c.in_ok-first.first.2) c.self.view_is (earliest_victim h c.args.t c.self.invariant.1 c.in_ok-first.first earliest)
