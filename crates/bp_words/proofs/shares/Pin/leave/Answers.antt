use Rattle.std.proofs.Common.{rules, ap, arith, ◌+◌}
use Rattle.bp_words.proofs.Steps.{leave_kept}
use Rattle.bp_words.proofs.shares.Pin.leave.Goals as goal

pub fetch_sub-requires : goal.fetch_sub-requires
fetch_sub-requires c = (search rules, search rules, leave_kept _ _ 0 1 0 _ (ap (λ me. me.0.reads + (me.0.halves + me.0.strays)) c.self.invariant) (ap (λ me. me.0.pins + me.0.loose) c.self.invariant) (ap (λ me. me.0.writes) c.self.invariant) (ap (λ me. me.0.waits + (me.0.wants + me.0.queues)) c.self.invariant) (omega arith) (omega arith) (omega arith))
