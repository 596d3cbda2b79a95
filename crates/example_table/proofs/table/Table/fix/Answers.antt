use Rattle.std.proofs.Common.{refl, subst}
use Rattle.bp_core.specs.CoreView.{CoreView}
use Rattle.bp_trail.specs.Legal.{Legal}
use Rattle.example_table.proofs.Tabling.{pool-fixes, page-quiet}
use Rattle.example_table.proofs.table.Table.fix.Goals as goal

pub returns-clause-goes : goal.returns-clause-goes
returns-clause-goes g c = λ table cut file start records synced calls log_calls commits pending is.
    pool-fixes g.S.LogStore.reads g.S.LogStore.writes g.S.LogStore.syncs g.P.Port.read_gives g.P.Port.write_gives g.P.Port.sync_gives table cut file start synced calls log_calls commits records pending c.args.self.now.pool c.args.self.now.log is c.fix-fixed.new.self _ (page-quiet c.args.self.now.pool c.fix-fixed.new.self c.args.page c.fix-fixed.result c.fix-fixed.ensures.outcome) c.fix-fixed.ensures.work (subst (λ (x : CoreView). Legal x.parameters x.past) c.core.ensures c.keeps_the_rules.ensures.legal) (refl, refl, refl)
