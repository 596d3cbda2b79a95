use Rattle.std.proofs.Common.{refl, sym, ap, subst, arith}
use Rattle.bp_trail.specs.declared.entries.Reply.TheVariants.{Done}
use Rattle.bp_trail.specs.Trail.{Trail}
use Rattle.bp_keeper.specs.Kept.{Kept, write_by}
use Rattle.bp_trace.specs.KeptLines.{HasLines}
use Rattle.bp_trace.proofs.KeptLines.{still}
use Rattle.bp_trace.proofs.report_keeper.ReportKeeperKeeper.record_write.Goals as goal

pub invariant_of-self : goal.invariant_of-self
invariant_of-self c =
    let lines = c.self.inside.lines in
    let is = c.record_write.ensures in (
      subst (λ (past : Trail). HasLines past lines) (sym (ap (λ (k : Kept). k.past) is)) (still c.self.inside.counts.past c.args.pass.client (write_by c.args.pass c.args.offset c.args.bytes.now c.args.lsn) Done lines c.self.invariant.0 refl (λ time client page. refl)),
      omega (arith, c.self.invariant.1, ap (λ (k : Kept). k.len) is),
      omega (arith, c.self.invariant.2, ap (λ (k : Kept). k.capacity) is),
    )
