-- What a sweep shows of how far it has come.
use Rattle.std.proofs.Common.{◌∙◌, ap, Some}
use Rattle.clap.specs.Walk.{texts}
use Rattle.bp_cli.specs.Asked.{asked_of, sweep_of}
use Rattle.bp_cli.specs.Words.{words_or_default}
use Rattle.bp_run.proofs.Stopping.{sweep_shown_or_kept}
use Rattle.bp_run.proofs.run.carry_out.Goals as goal

pub returns-in_ok-sweep_as_asked-in-Sweep-clause-err_kept : goal.returns-in_ok-sweep_as_asked-in-Sweep-clause-err_kept
returns-in_ok-sweep_as_asked-in-Sweep-clause-err_kept g c =
    sweep_shown_or_kept (g.O.Ports.watched c.args.ports.now) (words_or_default (texts c.args.words.now)) (sweep_of c.in-Sweep.sweep) c.args.err.now c.sweep_as_asked.new.err
    (c.in_ok-run.ensures.task.0 ∙ ap (λ task. Some (asked_of task)) c.in-Sweep.is) c.sweep_as_asked.ensures.err_kept

pub returns-in_err-sweep_as_asked-in-Sweep-clause-err_kept : goal.returns-in_err-sweep_as_asked-in-Sweep-clause-err_kept
returns-in_err-sweep_as_asked-in-Sweep-clause-err_kept g c =
    sweep_shown_or_kept (g.O.Ports.watched c.args.ports.now) (words_or_default (texts c.args.words.now)) (sweep_of c.in-Sweep.sweep) c.args.err.now c.sweep_as_asked.new.err
    (c.in_ok-run.ensures.task.0 ∙ ap (λ task. Some (asked_of task)) c.in-Sweep.is) c.sweep_as_asked.ensures.err_kept
