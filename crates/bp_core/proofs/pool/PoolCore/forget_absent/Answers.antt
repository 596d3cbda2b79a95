use Rattle.std.proofs.Common.{sym, ◌∙◌}
use Rattle.bp_core.specs.Outcomes.IsQuiet.{discard_busy}
use Rattle.bp_core.proofs.KeepsDiscards.{keeps-forget}
use Rattle.bp_core.proofs.pool.PoolCore.forget_absent.Goals as goal

pub record_unchanged-requires-clause-quiet : goal.record_unchanged-requires-clause-quiet
record_unchanged-requires-clause-quiet g c = discard_busy c.args.page

pub invariant_of-self : goal.invariant_of-self
invariant_of-self g c =
    let u = c.forget.ensures in
    rw c.record.ensures (keeps-forget _ _ _ c.self.invariant _ c.self.view_is c.args.client c.args.page c.requires.client_in c.requires.page_in (sym c.is_loading.ensures ∙ c.if-is_loading.false) c.requires.room c.forget.new.self u.settings u.stamps u.others u.held u.latest u.places c.requires.away)
