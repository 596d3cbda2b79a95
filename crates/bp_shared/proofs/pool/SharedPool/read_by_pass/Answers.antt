-- A fix, and then one section more.
use Rattle.std.proofs.Common.{◌∙◌, ap, sym, inr}
use Rattle.std.proofs.lemmas.Result.{err_from_is_err_and}
use Rattle.bp_shared.proofs.Acting.{acted, all_more}
use Rattle.bp_shared.proofs.Fixing.{no_pass_asked}
use Rattle.bp_shared.proofs.Working.{why-of, read-and-unfix-work}
use Rattle.bp_shared.proofs.Writing.{work_seen}
use Rattle.bp_shared.proofs.pool.SharedPool.read_by_pass.Goals as goal

pub returns-in_err-pass-clause-held : goal.returns-in_err-pass-clause-held
returns-in_err-pass-clause-held g c unknown =
    let is = err_from_is_err_and c.from_residual.result c.from_residual.ensures.1 in
    no_pass_asked _ _ _ _ _ c.in_err-pass.ensures.fix.outcome (sym is.2 ∙ ap why-of (sym is.1 ∙ unknown))

pub returns-clause-keeps : goal.returns-clause-keeps
returns-clause-keeps g c =
    let fixed = c.in_ok-pass.ensures.fix.keeps in
    let done = c.read_and_unfix.ensures in
    record {
      client = done.client ∙ fixed.client;
      before = done.before ∙ fixed.before;
      acts = acted _ _ _ _ _ (all_more _ _ _ _ _ (inr fixed.acts) done.acted);
      roomy = λ was. done.roomy (fixed.roomy was);
    }

pub returns-clause-work : goal.returns-clause-work
returns-clause-work g c =
    let fixed = c.in_ok-pass.ensures in
    let done = c.read_and_unfix.ensures in
    read-and-unfix-work _ _ _ c.in_ok-pass.pass _ _ _ _ _ _ _ _ _ (work_seen _ _ c.args.session.now c.fix.new.session c.read_and_unfix.new.session _ _ _ _ done.acted.goes_on fixed.work) done.outcome
