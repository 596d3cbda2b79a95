use Rattle.example_log.specs.Moments.{log_in, pages_in}
use Rattle.std.proofs.Common.{◌≡◌, ◌+◌, ◌++◌, ap, subst, refl, sym, ◌∙◌, true, false, length}
use Rattle.bp_trail.specs.declared.entries.Call.TheVariants.{Mark}
use Rattle.example_log.specs.Commits.{log_of}
use Rattle.example_log.proofs.LogFiles.{weaken}
use Rattle.example_table.specs.declared.table.TableFault.TheVariants.{Log, Pages}
use Rattle.example_table.specs.Faults.{DurableFault}
use Rattle.example_table.specs.Faults.DurableFault.{had_ended}
use Rattle.example_table.proofs.Openings.{fault-as}
use Rattle.example_table.proofs.Tabling.{mark-refused, sync-refused, table-stays, table-then, table-weaken, log-syncs, pool-same, pool-marks, step-refused, ok-not}
use Rattle.example_table.proofs.table.Table.make_durable.Goals as goal

pub returns-then-self-clause-goes : goal.returns-then-self-clause-goes
returns-then-self-clause-goes g c = λ table cut file start records synced calls log_calls commits pending is.
    table-stays g.S.LogStore.reads g.S.LogStore.writes g.S.LogStore.syncs g.P.Port.read_gives g.P.Port.write_gives g.P.Port.sync_gives table cut file start synced calls log_calls commits records pending c.args.self.now.pool c.args.self.now.log is _ (refl, refl, tt)

pub returns-in_err-sync-clause-goes : goal.returns-in_err-sync-clause-goes
returns-in_err-sync-clause-goes g c = λ table cut file start records synced calls log_calls commits pending is.
    table-weaken g.S.LogStore.reads g.S.LogStore.writes g.S.LogStore.syncs g.P.Port.read_gives g.P.Port.write_gives g.P.Port.sync_gives table cut file start _ _ _ _ calls log_calls _ _ (λ cs n left p. (p.0, p.1, ok-not c.from_residual.result _ c.from_residual.ensures.0))
    (log-syncs g.S.LogStore.reads g.S.LogStore.writes g.S.LogStore.syncs g.P.Port.read_gives g.P.Port.write_gives g.P.Port.sync_gives table cut file start synced calls log_calls commits records pending c.args.self.now.pool c.args.self.now.log is c.port.result.now c.port.ensures c.sync.new.self false c.if-self.false
    (weaken (g.S.LogStore.reads c.port.result.now) (g.S.LogStore.writes c.port.result.now) (g.S.LogStore.syncs c.port.result.now) c.args.self.now.log c.sync.new.self file start log_calls _ _ (λ l d p. (p.0, (λ e. absurd (cc), λ e. p.2))) (c.in_err-sync.ensures.life file start records log_calls (log_of table commits) is.file_is c.if-self.false)))

pub returns-in_err-mark-clause-goes : goal.returns-in_err-mark-clause-goes
returns-in_err-mark-clause-goes g c = λ table cut file start records synced calls log_calls commits pending is.
    (let s =
    log-syncs g.S.LogStore.reads g.S.LogStore.writes g.S.LogStore.syncs g.P.Port.read_gives g.P.Port.write_gives g.P.Port.sync_gives table cut file start synced calls log_calls commits records pending c.args.self.now.pool c.args.self.now.log is c.port.result.now c.port.ensures c.sync.new.self true c.if-self.false
    (weaken (g.S.LogStore.reads c.port.result.now) (g.S.LogStore.writes c.port.result.now) (g.S.LogStore.syncs c.port.result.now) c.args.self.now.log c.sync.new.self file start log_calls _ _ (λ l d p. (p.0, (λ e. p.1, λ e. absurd (cc)))) (c.in_ok-sync.ensures.life file start records log_calls (log_of table commits) is.file_is c.if-self.false)) in
    table-then g.S.LogStore.reads g.S.LogStore.writes g.S.LogStore.syncs g.P.Port.read_gives g.P.Port.write_gives g.P.Port.sync_gives table cut file start c.args.self.now.pool c.args.self.now.pool c.mark.new.self c.args.self.now.log c.sync.new.self c.sync.new.self calls log_calls _ _ s
    (pool-same g.S.LogStore.reads g.S.LogStore.writes g.S.LogStore.syncs g.P.Port.read_gives g.P.Port.write_gives g.P.Port.sync_gives table cut file start s.synced ((pages_in s.steps) ++ calls) ((log_in s.steps) ++ log_calls) s.commits s.durable s.pending c.args.self.now.pool c.sync.new.self s.is c.mark.new.self _
    (step-refused (Unit {0}) c.args.self.now.pool.core c.mark.new.self.core 0 (Mark c.new.result) c.in_err-mark.field-0.0 c.in_err-mark.ensures.outcome) c.in_err-mark.ensures.port.0 (s.is_so.0, s.is_so.1, ok-not c.from_residual-in_err-mark.result _ c.from_residual-in_err-mark.ensures.0)))

pub returns-clause-goes : goal.returns-clause-goes
returns-clause-goes g c = λ table cut file start records synced calls log_calls commits pending is.
    (let s =
    log-syncs g.S.LogStore.reads g.S.LogStore.writes g.S.LogStore.syncs g.P.Port.read_gives g.P.Port.write_gives g.P.Port.sync_gives table cut file start synced calls log_calls commits records pending c.args.self.now.pool c.args.self.now.log is c.port.result.now c.port.ensures c.sync.new.self true c.if-self.false
    (weaken (g.S.LogStore.reads c.port.result.now) (g.S.LogStore.writes c.port.result.now) (g.S.LogStore.syncs c.port.result.now) c.args.self.now.log c.sync.new.self file start log_calls _ _ (λ l d p. (p.0, (λ e. p.1, λ e. absurd (cc)))) (c.in_ok-sync.ensures.life file start records log_calls (log_of table commits) is.file_is c.if-self.false)) in
    let all : s.durable ≡ 1 + length s.commits = s.is_so.2 refl ∙ sym (ap (λ cs. 1 + length cs) s.is_so.0) in
    table-then g.S.LogStore.reads g.S.LogStore.writes g.S.LogStore.syncs g.P.Port.read_gives g.P.Port.write_gives g.P.Port.sync_gives table cut file start c.args.self.now.pool c.args.self.now.pool c.mark.new.self c.args.self.now.log c.sync.new.self c.sync.new.self calls log_calls _ _ s
    (table-weaken g.S.LogStore.reads g.S.LogStore.writes g.S.LogStore.syncs g.P.Port.read_gives g.P.Port.write_gives g.P.Port.sync_gives table cut file start _ _ _ _ ((pages_in s.steps) ++ calls) ((log_in s.steps) ++ log_calls) _ _ (λ cs n left p. (p.0 ∙ s.is_so.0, p.1 ∙ s.is_so.1, p.2 ∙ ap (λ cs. 1 + length cs) s.is_so.0))
    (pool-marks g.S.LogStore.reads g.S.LogStore.writes g.S.LogStore.syncs g.P.Port.read_gives g.P.Port.write_gives g.P.Port.sync_gives table cut file start s.synced ((pages_in s.steps) ++ calls) ((log_in s.steps) ++ log_calls) s.commits s.durable s.pending c.args.self.now.pool c.sync.new.self s.is c.mark.new.self c.new.result all
    (c.new.ensures ∙ c.saturating_sub.ensures) (c.in_ok-sync.ensures.ended.1 ∙ c.if-self.false) c.in_ok-mark.ensures.outcome.1 c.in_ok-mark.ensures.port.0)))

pub returns-then-self-clause-fault : goal.returns-then-self-clause-fault
returns-then-self-clause-fault g c = had_ended c.if-self.true refl

pub returns-in_err-sync-clause-fault : goal.returns-in_err-sync-clause-fault
returns-in_err-sync-clause-fault g c =
    fault-as c.from_residual.result (Log c.in_err-sync.field-0.0) (DurableFault g.S.LogStore.syncs c.args.self.now.pool c.args.self.now.log c.sync.new.self) c.from_residual.ensures.1
    (sync-refused g.S.LogStore.syncs c.args.self.now.pool c.args.self.now.log c.sync.new.self c.in_err-sync.field-0.0 c.in_err-sync.ensures.fault (subst (λ p. g.S.LogStore.syncs p c.args.self.now.log.store false c.sync.new.self.store) c.port.ensures c.in_err-sync.ensures.gives) c.in_err-sync.ensures.ended.0)

pub returns-in_err-mark-clause-fault : goal.returns-in_err-mark-clause-fault
returns-in_err-mark-clause-fault g c =
    fault-as c.from_residual-in_err-mark.result (Pages c.in_err-mark.field-0.0) (DurableFault g.S.LogStore.syncs c.args.self.now.pool c.args.self.now.log c.sync.new.self) c.from_residual-in_err-mark.ensures.1
    (mark-refused g.S.LogStore.syncs c.args.self.now.pool c.mark.new.self c.args.self.now.log c.sync.new.self c.new.result c.in_err-mark.field-0.0 c.in_err-mark.ensures.outcome)
