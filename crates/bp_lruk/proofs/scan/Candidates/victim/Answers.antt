use Rattle.std.proofs.Common.{◌≡◌, ◌∙◌, ℕ, false, sym, ap, subst, filter, Some, None}
use Rattle.std.specs.List.{reduce}
use Rattle.bp_lruk.specs.contracts.scan.Candidates.{the_view}
use Rattle.bp_references.specs.Candidates.{earlier, is_eligible, IsVictim}
use Rattle.bp_references.proofs.VictimLaws.{is_old, reduce_earliest, reduce_nothing, earliest_victim, none_eligible}
use Rattle.bp_lruk.proofs.scan.Candidates.victim.Goals as goal

pub returns-in_err-first-clause-none : goal.returns-in_err-first-clause-none
returns-in_err-first-clause-none c =
    let h = the_view c.self.inside in
    let nothing : reduce earlier (filter (is_old h.correlated c.args.t) h.entries) ≡ None = ap (λ es. reduce earlier (filter (is_old h.correlated c.args.t) es)) (sym c.deref.ensures.value) ∙ sym c.least.ensures ∙ c.in_err-first.was in
    let none : (page : ℕ) → is_eligible c.args.self.now c.args.t page ≡ false = λ page. ap (λ v. is_eligible v c.args.t page) (sym c.self.view_is) ∙ none_eligible h c.args.t c.self.invariant.0 (reduce_nothing _ nothing) page in
    rw c.from_residual.ensures none

pub returns-clause-found : goal.returns-clause-found
returns-clause-found c =
    let h = the_view c.self.inside in
    let first : reduce earlier (filter (is_old h.correlated c.args.t) h.entries) ≡ Some c.in_ok-first.first = ap (λ es. reduce earlier (filter (is_old h.correlated c.args.t) es)) (sym c.deref.ensures.value) ∙ sym c.least.ensures ∙ c.in_ok-first.was in
    subst (λ v. IsVictim v c.args.t c.in_ok-first.first.2) c.self.view_is (earliest_victim h c.args.t c.self.invariant.0 c.in_ok-first.first (reduce_earliest _ c.in_ok-first.first first))
