use Rattle.std.proofs.Common.{sym, ◌∙◌, Ok}
use Rattle.bp_trail.specs.declared.entries.Call.TheVariants.{Flush}
use Rattle.bp_core.specs.declared.passes.Flush.TheVariants as flushing
use Rattle.bp_core.specs.Outcomes.{FlushOutcome}
use Rattle.hojzmated_c.proofs.Sized.{sent_sized}
use Rattle.hojzmated_c.proofs.pool.Pool.flush.Goals as goal

pub send-requires : goal.send-requires
send-requires c =
    let ticket = c.in-WriteFirst.ticket in
    let h : FlushOutcome c.self.inside.core c.args.client c.in-Some.page (Ok (flushing.WriteFirst ticket)) c.flush.new.self = rw c.in-WriteFirst.is at c.in_ok-flush.ensures.outcome in
    c.if-image-geometry.false ∙ c.geometry-2.ensures.size ∙ sym (sent_sized _ _ c.args.client (Flush c.in-Some.page) ticket.serial ticket.page ticket.image h.4)
