use Rattle.std.proofs.Common.{ap, length, arith}
use Rattle.bp_replacer.proofs.YoungLaws.{queued_pushed}
use Rattle.bp_replacer.proofs.young.Young.wait.Goals as goal

pub invariant_of-self : goal.invariant_of-self
invariant_of-self c =
    let i = c.self.inside in
    queued_pushed i.since.items i.queue.pages c.push.new.self.pages c.args.seat c.args.time (omega (arith, c.requires, ap length c.self.view_is)) c.self.invariant c.push.ensures.pages
