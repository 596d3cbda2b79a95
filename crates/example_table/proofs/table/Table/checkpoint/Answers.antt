use Rattle.example_log.specs.Moments.{log_in, pages_in}
use Rattle.std.proofs.lemmas.List.{length-replicate}
use Rattle.std.proofs.Common.{◌≡◌, ◌∙◌, Bool, vec_len, arith, ◌+◌, ◌++◌, [], max, refl, sym, ap, subst, ℕ, List, true, false, length}
use Rattle.example_log.specs.declared.log.LogFile.{LogFile}
use Rattle.example_log.specs.declared.log.LogFault.TheVariants.{Memory}
use Rattle.example_log.specs.LogFiles.{BeginFault}
use Rattle.example_table.specs.declared.table.TableFault.TheVariants.{Log}
use Rattle.example_table.specs.Faults.{CheckpointFault}
use Rattle.example_table.specs.Faults.CheckpointFault.{had_ended, sizes, no_memory, not_durable, not_saved, not_begun}
use Rattle.example_table.specs.Checkpoints.Checkpoints.{stopped}
use Rattle.example_log.specs.Heads.{head_of}
use Rattle.example_table.proofs.Checkpoints.{does-begin, does-move, does-not, durable-is}
use Rattle.example_table.proofs.Openings.{begins-log, fault-as}
use Rattle.example_table.proofs.Tabling.{table-next, table-stays, table-weaken}
use Rattle.example_table.proofs.Wholes.{none-imaged}
use Rattle.example_table.proofs.table.Table.checkpoint.Goals as goal

pub returns-then-self-clause-goes : goal.returns-then-self-clause-goes
returns-then-self-clause-goes g c = λ cut file other start records synced calls log_calls before commits is long size.
    stopped (table-stays g.S.LogStore.reads g.S.LogStore.writes g.S.LogStore.syncs g.P.Port.read_gives g.P.Port.write_gives g.P.Port.sync_gives (head_of c.args.self.now.log.size (g.P.Port.geometry_of c.args.self.now.pool.port) c.args.table.now) cut file start synced calls log_calls commits records [] c.args.self.now.pool c.args.self.now.log is _ (refl, refl)) refl

pub returns-then-spare-self-clause-goes : goal.returns-then-spare-self-clause-goes
returns-then-spare-self-clause-goes g c = λ cut file other start records synced calls log_calls before commits is long size.
    stopped (table-stays g.S.LogStore.reads g.S.LogStore.writes g.S.LogStore.syncs g.P.Port.read_gives g.P.Port.write_gives g.P.Port.sync_gives (head_of c.args.self.now.log.size (g.P.Port.geometry_of c.args.self.now.pool.port) c.args.table.now) cut file start synced calls log_calls commits records [] c.args.self.now.pool c.args.self.now.log is _ (refl, refl)) refl

pub returns-in_err-head-clause-goes : goal.returns-in_err-head-clause-goes
returns-in_err-head-clause-goes g c = λ cut file other start records synced calls log_calls before commits is long size.
    does-not g.S.LogStore.reads g.S.LogStore.writes g.S.LogStore.syncs g.P.Port.read_gives g.P.Port.write_gives g.P.Port.sync_gives (head_of c.args.self.now.log.size (g.P.Port.geometry_of c.args.self.now.pool.port) c.args.table.now) cut file start calls log_calls commits records c.args.self.now.pool c.args.self.now.pool c.args.self.now.log c.args.self.now.log c.args.spare.now c.args.spare.now other before c.from_residual.result c.from_residual.ensures.0
    (λ why. stopped (table-stays g.S.LogStore.reads g.S.LogStore.writes g.S.LogStore.syncs g.P.Port.read_gives g.P.Port.write_gives g.P.Port.sync_gives (head_of c.args.self.now.log.size (g.P.Port.geometry_of c.args.self.now.pool.port) c.args.table.now) cut file start synced calls log_calls commits records [] c.args.self.now.pool c.args.self.now.log is _ (refl, refl)) refl)

pub returns-in_err-make_durable-clause-goes : goal.returns-in_err-make_durable-clause-goes
returns-in_err-make_durable-clause-goes g c = λ cut file other start records synced calls log_calls before commits is long size.
    does-not g.S.LogStore.reads g.S.LogStore.writes g.S.LogStore.syncs g.P.Port.read_gives g.P.Port.write_gives g.P.Port.sync_gives (head_of c.args.self.now.log.size (g.P.Port.geometry_of c.args.self.now.pool.port) c.args.table.now) cut file start calls log_calls commits records c.args.self.now.pool c.make_durable.new.self.pool c.args.self.now.log c.make_durable.new.self.log c.args.spare.now c.args.spare.now other before c.from_residual-in_err-make_durable.result c.from_residual-in_err-make_durable.ensures.0
    (λ why. stopped (table-weaken g.S.LogStore.reads g.S.LogStore.writes g.S.LogStore.syncs g.P.Port.read_gives g.P.Port.write_gives g.P.Port.sync_gives (head_of c.args.self.now.log.size (g.P.Port.geometry_of c.args.self.now.pool.port) c.args.table.now) cut file start c.args.self.now.pool c.make_durable.new.self.pool c.args.self.now.log c.make_durable.new.self.log calls log_calls _ _ (λ cs n left p. (p.0, p.1)) (c.in_err-make_durable.ensures.goes (head_of c.args.self.now.log.size (g.P.Port.geometry_of c.args.self.now.pool.port) c.args.table.now) cut file start records synced calls log_calls commits [] is)) refl)

pub returns-in_err-save_pages-clause-goes : goal.returns-in_err-save_pages-clause-goes
returns-in_err-save_pages-clause-goes g c = λ cut file other start records synced calls log_calls before commits is long size.
    (let d = c.in_ok-make_durable.ensures.goes (head_of c.args.self.now.log.size (g.P.Port.geometry_of c.args.self.now.pool.port) c.args.table.now) cut file start records synced calls log_calls commits [] is in
    let is_durable = durable-is g.S.LogStore.reads g.S.LogStore.writes g.S.LogStore.syncs g.P.Port.read_gives g.P.Port.write_gives g.P.Port.sync_gives (head_of c.args.self.now.log.size (g.P.Port.geometry_of c.args.self.now.pool.port) c.args.table.now) cut file start calls log_calls commits c.args.self.now.pool c.make_durable.new.self.pool c.make_durable.new.self.pool c.args.self.now.log c.make_durable.new.self.log d in
    does-not g.S.LogStore.reads g.S.LogStore.writes g.S.LogStore.syncs g.P.Port.read_gives g.P.Port.write_gives g.P.Port.sync_gives (head_of c.args.self.now.log.size (g.P.Port.geometry_of c.args.self.now.pool.port) c.args.table.now) cut file start calls log_calls commits records c.args.self.now.pool c.save_pages.new.self.pool c.args.self.now.log c.save_pages.new.self.log c.args.spare.now c.args.spare.now other before c.from_residual-in_err-save_pages.result c.from_residual-in_err-save_pages.ensures.0
    (λ why. stopped (table-next g.S.LogStore.reads g.S.LogStore.writes g.S.LogStore.syncs g.P.Port.read_gives g.P.Port.write_gives g.P.Port.sync_gives (head_of c.args.self.now.log.size (g.P.Port.geometry_of c.args.self.now.pool.port) c.args.table.now) cut file start c.args.self.now.pool c.make_durable.new.self.pool c.save_pages.new.self.pool c.args.self.now.log c.make_durable.new.self.log c.save_pages.new.self.log calls log_calls _ (λ after n left. (after ≡ commits) × (left ≡ [])) d commits (1 + length commits) (sym d.is_so.0) (sym d.is_so.2)
    (c.in_err-save_pages.ensures.goes (head_of c.args.self.now.log.size (g.P.Port.geometry_of c.args.self.now.pool.port) c.args.table.now) cut file start (1 + length commits) d.synced ((pages_in d.steps) ++ calls) ((log_in d.steps) ++ log_calls) commits [] is_durable)) refl))

pub returns-in_err-begin-clause-goes : goal.returns-in_err-begin-clause-goes
returns-in_err-begin-clause-goes g c = λ cut file other start records synced calls log_calls before commits is long size.
    (let d = c.in_ok-make_durable.ensures.goes (head_of c.args.self.now.log.size (g.P.Port.geometry_of c.args.self.now.pool.port) c.args.table.now) cut file start records synced calls log_calls commits [] is in
    let is_durable = durable-is g.S.LogStore.reads g.S.LogStore.writes g.S.LogStore.syncs g.P.Port.read_gives g.P.Port.write_gives g.P.Port.sync_gives (head_of c.args.self.now.log.size (g.P.Port.geometry_of c.args.self.now.pool.port) c.args.table.now) cut file start calls log_calls commits c.args.self.now.pool c.make_durable.new.self.pool c.make_durable.new.self.pool c.args.self.now.log c.make_durable.new.self.log d in
    let h = c.in_ok-save_pages.ensures.saved (head_of c.args.self.now.log.size (g.P.Port.geometry_of c.args.self.now.pool.port) c.args.table.now) cut file start (1 + length commits) d.synced ((pages_in d.steps) ++ calls) ((log_in d.steps) ++ log_calls) commits [] is_durable c.in_ok-make_durable.ensures.alive in
    does-not g.S.LogStore.reads g.S.LogStore.writes g.S.LogStore.syncs g.P.Port.read_gives g.P.Port.write_gives g.P.Port.sync_gives (head_of c.args.self.now.log.size (g.P.Port.geometry_of c.args.self.now.pool.port) c.args.table.now) cut file start calls log_calls commits records c.args.self.now.pool c.save_pages.new.self.pool c.args.self.now.log c.save_pages.new.self.log c.args.spare.now c.begin.new.self other before c.from_residual-in_err-begin.result c.from_residual-in_err-begin.ensures.0
    (does-begin g.S.LogStore.reads g.S.LogStore.writes g.S.LogStore.syncs g.P.Port.read_gives g.P.Port.write_gives g.P.Port.sync_gives (head_of c.args.self.now.log.size (g.P.Port.geometry_of c.args.self.now.pool.port) c.args.table.now) cut file start calls log_calls commits records c.args.self.now.pool c.save_pages.new.self.pool c.args.self.now.log c.save_pages.new.self.log c.args.spare.now c.begin.new.self other before c.make_durable.new.self.pool c.make_durable.new.self.log d h c.in_ok-make_durable.ensures.alive c.port-2.result.now c.port-2.ensures
    c.max.result c.deref.result.now (c.max.ensures ∙ ap (λ (l : LogFile g.row.S.Denot). max l.next 1) c.in_ok-save_pages.ensures.log) (c.deref.ensures.value ∙ c.in_ok-head.ensures ∙ ap (λ d. head_of c.args.self.now.log.size d c.args.table.now) (c.geometry.ensures ∙ ap (λ p. g.P.Port.geometry_of p) c.port.ensures)) long size
    (begins-log (g.S.LogStore.reads c.port-2.result.now) (g.S.LogStore.writes c.port-2.result.now) (g.S.LogStore.syncs c.port-2.result.now) c.args.spare.now c.begin.new.self c.max.result c.deref.result.now false c.in_err-begin.ensures.begins) c.in_ok-save_pages.ensures.log))

pub returns-clause-goes : goal.returns-clause-goes
returns-clause-goes g c = λ cut file other start records synced calls log_calls before commits is long size.
    (let d = c.in_ok-make_durable.ensures.goes (head_of c.args.self.now.log.size (g.P.Port.geometry_of c.args.self.now.pool.port) c.args.table.now) cut file start records synced calls log_calls commits [] is in
    let is_durable = durable-is g.S.LogStore.reads g.S.LogStore.writes g.S.LogStore.syncs g.P.Port.read_gives g.P.Port.write_gives g.P.Port.sync_gives (head_of c.args.self.now.log.size (g.P.Port.geometry_of c.args.self.now.pool.port) c.args.table.now) cut file start calls log_calls commits c.args.self.now.pool c.make_durable.new.self.pool c.make_durable.new.self.pool c.args.self.now.log c.make_durable.new.self.log d in
    let h = c.in_ok-save_pages.ensures.saved (head_of c.args.self.now.log.size (g.P.Port.geometry_of c.args.self.now.pool.port) c.args.table.now) cut file start (1 + length commits) d.synced ((pages_in d.steps) ++ calls) ((log_in d.steps) ++ log_calls) commits [] is_durable c.in_ok-make_durable.ensures.alive in
    does-move g.S.LogStore.reads g.S.LogStore.writes g.S.LogStore.syncs g.P.Port.read_gives g.P.Port.write_gives g.P.Port.sync_gives (head_of c.args.self.now.log.size (g.P.Port.geometry_of c.args.self.now.pool.port) c.args.table.now) cut file start calls log_calls commits records c.args.self.now.pool c.save_pages.new.self.pool c.args.self.now.log c.swap.new.x c.args.spare.now c.swap.new.y other before c.make_durable.new.self.pool c.make_durable.new.self.log d h c.in_ok-make_durable.ensures.alive c.port-2.result.now c.port-2.ensures
    c.max.result c.deref.result.now (c.max.ensures ∙ ap (λ (l : LogFile g.row.S.Denot). max l.next 1) c.in_ok-save_pages.ensures.log) (c.deref.ensures.value ∙ c.in_ok-head.ensures ∙ ap (λ d. head_of c.args.self.now.log.size d c.args.table.now) (c.geometry.ensures ∙ ap (λ p. g.P.Port.geometry_of p) c.port.ensures)) long size
    c.begin.new.self (begins-log (g.S.LogStore.reads c.port-2.result.now) (g.S.LogStore.writes c.port-2.result.now) (g.S.LogStore.syncs c.port-2.result.now) c.args.spare.now c.begin.new.self c.max.result c.deref.result.now true c.in_ok-begin.ensures.begins) c.swap.ensures.x_after (c.swap.ensures.y_after ∙ c.in_ok-save_pages.ensures.log))

pub returns-clause-imaged : goal.returns-clause-imaged
returns-clause-imaged g c = (
  none-imaged c.fill.new.self.items _ (c.fill.ensures.items (λ y h. h)),
  (let before = ap (λ (fs : List Bool). length fs) (c.in_ok-save_pages.ensures.kept.0 ∙ c.in_ok-make_durable.ensures.kept.0) in
      omega (arith, before, ap (λ (fs : List Bool). length fs) (c.fill.ensures.items (λ y h. h)), length-replicate {A = Bool} (vec_len c.save_pages.new.self.imaged) false, c.save_pages.new.self.imaged.ok)),
)

pub returns-then-self-clause-fault : goal.returns-then-self-clause-fault
returns-then-self-clause-fault g c = had_ended c.if-self.true

pub returns-then-spare-self-clause-fault : goal.returns-then-spare-self-clause-fault
returns-then-spare-self-clause-fault g c = sizes c.if-spare-self.true

pub returns-in_err-head-clause-fault : goal.returns-in_err-head-clause-fault
returns-in_err-head-clause-fault g c = fault-as c.from_residual.result (Log Memory) (CheckpointFault g.S.LogStore.reads g.S.LogStore.writes g.S.LogStore.syncs g.P.Port.sync_gives c.args.self.now.is_ended c.args.self.now.pool c.args.self.now.pool c.args.self.now.log c.args.spare.now c.args.spare.now (head_of c.args.self.now.log.size (g.P.Port.geometry_of c.args.self.now.pool.port) c.args.table.now)) c.from_residual.ensures.1 (no_memory refl refl)

pub returns-in_err-make_durable-clause-fault : goal.returns-in_err-make_durable-clause-fault
returns-in_err-make_durable-clause-fault g c =
    fault-as c.from_residual-in_err-make_durable.result c.in_err-make_durable.field-0.0 (CheckpointFault g.S.LogStore.reads g.S.LogStore.writes g.S.LogStore.syncs g.P.Port.sync_gives c.args.self.now.is_ended c.args.self.now.pool c.make_durable.new.self.pool c.args.self.now.log c.args.spare.now c.args.spare.now (head_of c.args.self.now.log.size (g.P.Port.geometry_of c.args.self.now.pool.port) c.args.table.now)) c.from_residual-in_err-make_durable.ensures.1
    (not_durable c.make_durable.new.self.log c.in_err-make_durable.ensures.fault)

pub returns-in_err-save_pages-clause-fault : goal.returns-in_err-save_pages-clause-fault
returns-in_err-save_pages-clause-fault g c =
    fault-as c.from_residual-in_err-save_pages.result c.in_err-save_pages.field-0.0 (CheckpointFault g.S.LogStore.reads g.S.LogStore.writes g.S.LogStore.syncs g.P.Port.sync_gives c.args.self.now.is_ended c.args.self.now.pool c.save_pages.new.self.pool c.args.self.now.log c.args.spare.now c.args.spare.now (head_of c.args.self.now.log.size (g.P.Port.geometry_of c.args.self.now.pool.port) c.args.table.now)) c.from_residual-in_err-save_pages.ensures.1
    (not_saved c.in_err-save_pages.ensures.fault)

pub returns-in_err-begin-clause-fault : goal.returns-in_err-begin-clause-fault
returns-in_err-begin-clause-fault g c =
    fault-as c.from_residual-in_err-begin.result (Log c.in_err-begin.field-0.0) (CheckpointFault g.S.LogStore.reads g.S.LogStore.writes g.S.LogStore.syncs g.P.Port.sync_gives c.args.self.now.is_ended c.args.self.now.pool c.save_pages.new.self.pool c.args.self.now.log c.args.spare.now c.begin.new.self (head_of c.args.self.now.log.size (g.P.Port.geometry_of c.args.self.now.pool.port) c.args.table.now)) c.from_residual-in_err-begin.ensures.1
    (not_begun (subst (λ p. BeginFault (g.S.LogStore.reads p) (g.S.LogStore.writes p) (g.S.LogStore.syncs p) c.args.spare.now.size (max c.args.self.now.log.next 1) (head_of c.args.self.now.log.size (g.P.Port.geometry_of c.args.self.now.pool.port) c.args.table.now) c.args.spare.now.store c.begin.new.self.store c.in_err-begin.field-0.0) c.port-2.ensures
    (subst (λ (n : ℕ). BeginFault (g.S.LogStore.reads c.port-2.result.now) (g.S.LogStore.writes c.port-2.result.now) (g.S.LogStore.syncs c.port-2.result.now) c.args.spare.now.size n (head_of c.args.self.now.log.size (g.P.Port.geometry_of c.args.self.now.pool.port) c.args.table.now) c.args.spare.now.store c.begin.new.self.store c.in_err-begin.field-0.0)
    (c.max.ensures ∙ ap (λ (l : LogFile g.row.S.Denot). max l.next 1) c.in_ok-save_pages.ensures.log ∙ ap (λ (n : ℕ). max n 1) c.in_ok-make_durable.ensures.place.2)
    (subst (λ (t : List ℕ). BeginFault (g.S.LogStore.reads c.port-2.result.now) (g.S.LogStore.writes c.port-2.result.now) (g.S.LogStore.syncs c.port-2.result.now) c.args.spare.now.size c.max.result t c.args.spare.now.store c.begin.new.self.store c.in_err-begin.field-0.0) (c.deref.ensures.value ∙ c.in_ok-head.ensures ∙ ap (λ d. head_of c.args.self.now.log.size d c.args.table.now) (c.geometry.ensures ∙ ap (λ p. g.P.Port.geometry_of p) c.port.ensures)) c.in_err-begin.ensures.fault))))
