use Rattle.std.proofs.Common.{ap, sym, ◌∙◌, if◌then◌else◌, None}
use Rattle.bp_trail.specs.Victim.{victim}
use Rattle.bp_core.proofs.Chosen.{told}
use Rattle.bp_core.proofs.pool.PoolCore.victim.Goals as goal

pub returns-then-has_free_frame-clause-next : goal.returns-then-has_free_frame-clause-next
returns-then-has_free_frame-clause-next g c =
    let v = c.args.self.now in
    sym (ap (λ b. if b then None else victim v.parameters v.past) (sym c.has_free_frame.ensures ∙ c.if-has_free_frame.true))

pub returns-clause-next : goal.returns-clause-next
returns-clause-next g c =
    let v = c.args.self.now in
    told _ _ _ c.self.invariant.candidates _ c.self.invariant.agrees.observed.clock_is c.victim.result c.victim.ensures.found c.victim.ensures.none ∙ ap (λ w. victim w.parameters w.past) c.self.view_is
    ∙ sym (ap (λ b. if b then None else victim v.parameters v.past) (sym c.has_free_frame.ensures ∙ c.if-has_free_frame.false))
