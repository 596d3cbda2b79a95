use Rattle.std.proofs.Common.{refl, sym, ap, subst, arith}
use Rattle.bp_trail.specs.declared.entries.Reply.TheVariants.{Fixed}
use Rattle.bp_trail.specs.Trail.{Trail}
use Rattle.bp_keeper.specs.Kept.{Kept, read_end}
use Rattle.bp_trace.specs.KeptLines.{HasLines}
use Rattle.bp_trace.proofs.KeptLines.{still}
use Rattle.bp_trace.proofs.report_keeper.ReportKeeperKeeper.record_read_end.Goals as goal

pub invariant_of-self : goal.invariant_of-self
invariant_of-self c =
    let lines = c.self.inside.lines in
    let is = c.record_read_end.ensures in (
      subst (λ (past : Trail). HasLines past lines) (sym (ap (λ (k : Kept). k.past) is)) (still c.self.inside.counts.past c.args.ticket.client (read_end c.args.ticket c.args.image.now) (Fixed c.args.pass) lines c.self.invariant.0 refl (λ time client page. refl)),
      omega (arith, c.self.invariant.1, ap (λ (k : Kept). k.len) is),
      omega (arith, c.self.invariant.2, ap (λ (k : Kept). k.capacity) is),
    )
