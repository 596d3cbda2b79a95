use Rattle.std.proofs.Common.{sym, ◌∙◌, Ok}
use Rattle.bp_trail.specs.declared.entries.Call.TheVariants.{Fix}
use Rattle.bp_core.specs.declared.passes.Fix.TheVariants as fixing
use Rattle.bp_core.specs.Outcomes.{FixOutcome}
use Rattle.hojzmated_c.proofs.Sized.{sent_sized}
use Rattle.hojzmated_c.proofs.pool.Pool.fix.Goals as goal

pub send-requires : goal.send-requires
send-requires c =
    let ticket = c.in-WriteFirst.ticket in
    let h : FixOutcome c.self.inside.core c.args.client c.in-Some.page (Ok (fixing.WriteFirst ticket)) c.fix.new.self = rw c.in-WriteFirst.is at c.in_ok-pass.ensures.outcome in
    c.if-image-geometry.false ∙ c.geometry-2.ensures.size ∙ sym (sent_sized _ _ c.args.client (Fix c.in-Some.page) ticket.serial ticket.page ticket.image h.3)
