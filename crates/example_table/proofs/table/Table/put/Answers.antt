use Rattle.example_log.specs.Moments.{log_in, pages_in}
use Rattle.std.proofs.Common.{◌≡◌, ◌++◌, ◌∷◌, ap, ℕ, List, inl, inr, refl, subst, ◌∙◌}
use Rattle.bp_core.specs.Outcomes.{Adds}
use Rattle.bp_trail.specs.declared.entries.Call.TheVariants.{Write}
use Rattle.bp_trail.specs.declared.entries.Reply.TheVariants.{Done}
use Rattle.bp_trail.specs.Event.{Grant, grant}
use Rattle.example_table.proofs.Passes.{part-passes, unfix-passes}
use Rattle.example_table.specs.TableCalls.{under}
use Rattle.example_table.proofs.Tabling.{table-then, table-weaken, pool-same, pool-writes, pool-unfixes, part-written, part-refused, ok-not}
use Rattle.example_table.proofs.table.Table.put.Goals as goal

pub returns-in_err-pass-clause-goes : goal.returns-in_err-pass-clause-goes
returns-in_err-pass-clause-goes g c = λ older table cut file start records synced calls log_calls commits pending is told.
    table-weaken g.S.LogStore.reads g.S.LogStore.writes g.S.LogStore.syncs g.P.Port.read_gives g.P.Port.write_gives g.P.Port.sync_gives table cut file start _ _ _ _ calls log_calls _ _ (λ cs n left p. (p.0, inl p.1, ok-not c.from_residual.result _ c.from_residual.ensures.0)) (c.fix_page.ensures.goes table cut file start records synced calls log_calls commits pending is)

pub returns-in_err-written-clause-goes : goal.returns-in_err-written-clause-goes
returns-in_err-written-clause-goes g c = λ older table cut file start records synced calls log_calls commits pending is told.
    (let f = c.fix_page.ensures.goes table cut file start records synced calls log_calls commits pending is in
    let w = table-then g.S.LogStore.reads g.S.LogStore.writes g.S.LogStore.syncs g.P.Port.read_gives g.P.Port.write_gives g.P.Port.sync_gives table cut file start c.args.self.now.pool c.fix_page.new.self.pool c.write_from-written.new.self c.args.self.now.log c.fix_page.new.self.log c.fix_page.new.self.log calls log_calls _ (λ after n left. (after ≡ commits) × (left ≡ pending)) f
    (pool-same g.S.LogStore.reads g.S.LogStore.writes g.S.LogStore.syncs g.P.Port.read_gives g.P.Port.write_gives g.P.Port.sync_gives table cut file start f.synced ((pages_in f.steps) ++ calls) ((log_in f.steps) ++ log_calls) f.commits f.durable f.pending c.fix_page.new.self.pool c.fix_page.new.self.log f.is c.write_from-written.new.self _
    (part-refused c.fix_page.new.self.pool c.write_from-written.new.self c.in_ok-pass.pass c.args.change.now.offset c.bytes-bytes.result.now c.new.result c.in_err-written.field-0.0 c.in_err-written.ensures.outcome) c.write_from-written.ensures.port.0 f.is_so) in
    table-then g.S.LogStore.reads g.S.LogStore.writes g.S.LogStore.syncs g.P.Port.read_gives g.P.Port.write_gives g.P.Port.sync_gives table cut file start c.args.self.now.pool c.write_from-written.new.self c.unfix.new.self c.args.self.now.log c.fix_page.new.self.log c.fix_page.new.self.log calls log_calls _ _ w
    (pool-unfixes g.S.LogStore.reads g.S.LogStore.writes g.S.LogStore.syncs g.P.Port.read_gives g.P.Port.write_gives g.P.Port.sync_gives table cut file start w.synced ((pages_in w.steps) ++ calls) ((log_in w.steps) ++ log_calls) w.commits w.durable w.pending c.write_from-written.new.self c.fix_page.new.self.log w.is c.unfix.new.self _ c.in_ok-pass.pass c.unfix.result c.unfix.ensures.outcome c.unfix.ensures.port.0
    (w.is_so.0, inl w.is_so.1, ok-not _ _ c.from_residual-in_err-written.ensures.0)))

pub returns-clause-goes : goal.returns-clause-goes
returns-clause-goes g c = λ older table cut file start records synced calls log_calls commits pending is told.
    (let f = c.fix_page.ensures.goes table cut file start records synced calls log_calls commits pending is in
    let adds = (part-written c.fix_page.new.self.pool c.write_from-written.new.self c.args.change.now.offset _ _ _ c.in_ok-written.ensures.outcome).2 in
    let told₂ = f.is_so.1 ∙ told in
    let w = table-then g.S.LogStore.reads g.S.LogStore.writes g.S.LogStore.syncs g.P.Port.read_gives g.P.Port.write_gives g.P.Port.sync_gives table cut file start c.args.self.now.pool c.fix_page.new.self.pool c.write_from-written.new.self c.args.self.now.log c.fix_page.new.self.log c.fix_page.new.self.log calls log_calls _ (λ after n left. (after ≡ commits) × (left ≡ older)) f
    (pool-writes g.S.LogStore.reads g.S.LogStore.writes g.S.LogStore.syncs g.P.Port.read_gives g.P.Port.write_gives g.P.Port.sync_gives table cut file start f.synced ((pages_in f.steps) ++ calls) ((log_in f.steps) ++ log_calls) f.commits f.durable f.pending c.fix_page.new.self.pool c.fix_page.new.self.log f.is c.write_from-written.new.self _
    c.in_ok-pass.pass (under c.args.lsn c.args.change.now) older told₂ c.in_ok-pass.ensures.page
    (subst (λ (b : List ℕ). Adds c.fix_page.new.self.pool.core c.in_ok-pass.pass.client (Write c.in_ok-pass.pass.serial c.in_ok-pass.pass.page c.args.change.now.offset b c.args.lsn) Done c.write_from-written.new.self.core) c.bytes-bytes.ensures
    (subst (λ (n : ℕ). Adds c.fix_page.new.self.pool.core c.in_ok-pass.pass.client (Write c.in_ok-pass.pass.serial c.in_ok-pass.pass.page c.args.change.now.offset c.bytes-bytes.result.now n) Done c.write_from-written.new.self.core) c.new.ensures adds))
    c.write_from-written.ensures.port.0 (f.is_so.0, refl)) in
    table-then g.S.LogStore.reads g.S.LogStore.writes g.S.LogStore.syncs g.P.Port.read_gives g.P.Port.write_gives g.P.Port.sync_gives table cut file start c.args.self.now.pool c.write_from-written.new.self c.unfix.new.self c.args.self.now.log c.fix_page.new.self.log c.fix_page.new.self.log calls log_calls _ _ w
    (pool-unfixes g.S.LogStore.reads g.S.LogStore.writes g.S.LogStore.syncs g.P.Port.read_gives g.P.Port.write_gives g.P.Port.sync_gives table cut file start w.synced ((pages_in w.steps) ++ calls) ((log_in w.steps) ++ log_calls) w.commits w.durable w.pending c.write_from-written.new.self c.fix_page.new.self.log w.is c.unfix.new.self _ c.in_ok-pass.pass c.unfix.result c.unfix.ensures.outcome c.unfix.ensures.port.0
    (w.is_so.0, inr w.is_so.1, w.is_so.1)))

pub returns-in_err-written-clause-passes : goal.returns-in_err-written-clause-passes
returns-in_err-written-clause-passes g c = λ e.
    unfix-passes c.write_from-written.new.self.core c.unfix.new.self.core c.in_ok-pass.pass c.unfix.result
    (part-passes c.fix_page.new.self.pool c.write_from-written.new.self c.in_ok-pass.pass c.args.change.now.offset c.bytes-bytes.result.now c.new.result c.write_from-written.result c.write_from-written.ensures.outcome
    ∙ c.in_ok-pass.ensures.passes ∙ ap (λ (gs : List Grant). grant c.in_ok-pass.pass.client c.in_ok-pass.pass.page c.in_ok-pass.pass.serial ∷ gs) e) c.unfix.ensures.outcome

pub returns-clause-passes : goal.returns-clause-passes
returns-clause-passes g c = λ e.
    unfix-passes c.write_from-written.new.self.core c.unfix.new.self.core c.in_ok-pass.pass c.unfix.result
    (part-passes c.fix_page.new.self.pool c.write_from-written.new.self c.in_ok-pass.pass c.args.change.now.offset c.bytes-bytes.result.now c.new.result c.write_from-written.result c.write_from-written.ensures.outcome
    ∙ c.in_ok-pass.ensures.passes ∙ ap (λ (gs : List Grant). grant c.in_ok-pass.pass.client c.in_ok-pass.pass.page c.in_ok-pass.pass.serial ∷ gs) e) c.unfix.ensures.outcome
