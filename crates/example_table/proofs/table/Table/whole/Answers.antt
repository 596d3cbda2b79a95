use Rattle.example_log.specs.Moments.{log_in, pages_in}
use Rattle.std.proofs.Common.{◌≡◌, ◌∙◌, ◌++◌, ◌∷◌, [], List, reverse, refl, ap}
use Rattle.std.specs.Prelude.{IfOk}
use Rattle.bp_trail.specs.Parameters.{Parameters}
use Rattle.example_log.specs.Commits.{changes_of}
use Rattle.example_log.proofs.LogFiles.{err-if}
use Rattle.bp_trail.specs.Event.{Grant, grant}
use Rattle.example_table.proofs.Passes.{unfix-passes}
use Rattle.example_table.specs.Images.{IsWhole}
use Rattle.example_table.proofs.Tabling.{pool-unfixes, so-is, then-so}
use Rattle.example_table.proofs.Wholes.{whole-change-later, whole-made}
use Rattle.example_table.proofs.table.Table.whole.Goals as goal

pub returns-in_err-pass-clause-goes : goal.returns-in_err-pass-clause-goes
returns-in_err-pass-clause-goes g c = λ table cut file start records synced calls log_calls commits is.
    (c.fix_page.ensures.goes table cut file start records synced calls log_calls commits [] is, (err-if c.from_residual.result _ (Unit {0}) c.from_residual.ensures.0 tt).0)

pub returns-clause-goes : goal.returns-clause-goes
returns-clause-goes g c = λ table cut file start records synced calls log_calls commits is.
    (let f = c.fix_page.ensures.goes table cut file start records synced calls log_calls commits [] is in
    let h = pool-unfixes g.S.LogStore.reads g.S.LogStore.writes g.S.LogStore.syncs g.P.Port.read_gives g.P.Port.write_gives g.P.Port.sync_gives table cut file start f.synced ((pages_in f.steps) ++ calls) ((log_in f.steps) ++ log_calls) f.commits f.durable f.pending c.fix_page.new.self.pool c.fix_page.new.self.log f.is c.unfix.new.self (λ after n left. (after ≡ commits) × (left ≡ [])) c.in_ok-pass.pass c.unfix.result c.unfix.ensures.outcome c.unfix.ensures.port.0 f.is_so in
    then-so g.S.LogStore.reads g.S.LogStore.writes g.S.LogStore.syncs g.P.Port.read_gives g.P.Port.write_gives g.P.Port.sync_gives table cut file start calls log_calls c.args.self.now.pool c.fix_page.new.self.pool c.unfix.new.self c.args.self.now.log c.fix_page.new.self.log c.fix_page.new.self.log (λ after n left. (after ≡ commits) × (left ≡ [])) (λ after n left. (after ≡ commits) × (left ≡ [])) f f.commits refl h
    (λ cs after. IfOk c.whole_by-made.result (λ made. IsWhole c.args.self.now.pool.core.parameters.size (cs ++ calls) (reverse (changes_of (cut.commits ++ commits))) c.args.change.now made))
    (whole-change-later c.args.self.now.pool.core.parameters.size (pages_in h.steps) (pages_in f.steps) calls (reverse (changes_of (cut.commits ++ commits))) c.args.change.now c.whole_by-made.result
    (whole-made table cut file start f.synced ((pages_in f.steps) ++ calls) ((log_in f.steps) ++ log_calls) commits f.durable c.fix_page.new.self.pool c.fix_page.new.self.log
    (so-is g.S.LogStore.reads g.S.LogStore.writes g.S.LogStore.syncs g.P.Port.read_gives g.P.Port.write_gives g.P.Port.sync_gives table cut file start calls log_calls commits c.args.self.now.pool c.fix_page.new.self.pool c.args.self.now.log c.fix_page.new.self.log f)
    c.in_ok-pass.pass c.in_ok-pass.ensures.known c.args.change.now c.in_ok-pass.ensures.page c.args.self.now.pool.core.parameters.size (ap (λ (x : Parameters). x.size) f.parameters) c.whole_by-made.result c.whole_by-made.ensures.whole c.whole_by-made.ensures.long c.whole_by-made.ensures.fits)))

pub returns-clause-passes : goal.returns-clause-passes
returns-clause-passes g c = λ e.
    unfix-passes c.fix_page.new.self.pool.core c.unfix.new.self.core c.in_ok-pass.pass c.unfix.result (c.in_ok-pass.ensures.passes ∙ ap (λ (gs : List Grant). grant c.in_ok-pass.pass.client c.in_ok-pass.pass.page c.in_ok-pass.pass.serial ∷ gs) e) c.unfix.ensures.outcome
