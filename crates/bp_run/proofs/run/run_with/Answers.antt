-- The status, and what is on the outputs then.
use Rattle.std.proofs.Common.{◌∙◌, inr, subst, ap}
use Rattle.std.specs.Io.KnownBytes.{Appends}
use Rattle.clap.specs.Walk.{texts}
use Rattle.bp_cli.specs.Ending.{message_of}
use Rattle.bp_cli.specs.declared.ending.Ending.TheVariants as ending
use Rattle.bp_cli.specs.Words.{words_or_default}
use Rattle.bp_run.proofs.Stopping.{does_no_help, ends_the_same, help_asked, is_version, kept_when, not_one, then_kept, zero_of, no_failure, no_picture}
use Rattle.bp_run.proofs.run.run_with.Goals as goal

pub returns-in-Ok-clause-answer : goal.returns-in-Ok-clause-answer
returns-in-Ok-clause-answer g c asks one =
    does_no_help g.O.Ports.ways g.O.T.Read.remaining g.O.P.Port.read_gives g.O.P.Port.write_gives (words_or_default (texts c.args.words.now)) (g.I.Read.remaining c.args.reader.now) c.in-Ok.status _ _ c.in-Ok.ensures.done asks

pub returns-in-Ok-clause-printed : goal.returns-in-Ok-clause-printed
returns-in-Ok-clause-printed g c asks none =
    absurd (does_no_help g.O.Ports.ways g.O.T.Read.remaining g.O.P.Port.read_gives g.O.P.Port.write_gives (words_or_default (texts c.args.words.now)) (g.I.Read.remaining c.args.reader.now) c.in-Ok.status _ _ c.in-Ok.ensures.done asks)

pub returns-in-Ok-clause-version : goal.returns-in-Ok-clause-version
returns-in-Ok-clause-version g c unasked asks none =
    absurd (does_no_help g.O.Ports.ways g.O.T.Read.remaining g.O.P.Port.read_gives g.O.P.Port.write_gives (words_or_default (texts c.args.words.now)) (g.I.Read.remaining c.args.reader.now) c.in-Ok.status _ _ c.in-Ok.ensures.done (inr asks))

pub returns-in-Err-clause-reported : goal.returns-in-Err-clause-reported
returns-in-Err-clause-reported g c unasked small =
    absurd (unasked (help_asked g.O.Ports.ways g.O.T.Read.remaining (words_or_default (texts c.args.words.now)) (g.I.Read.remaining c.args.reader.now) _ _ c.in-Err.stop.ending c.in-Err.ensures.ended
    (c.finish.ensures.help (zero_of c.finish.result c.finish.ensures.fault small)).0))

pub returns-in-Err-clause-answer : goal.returns-in-Err-clause-answer
returns-in-Err-clause-answer g c asks one = not_one c.finish.result c.finish.ensures.fault one

pub returns-in-Err-clause-printed : goal.returns-in-Err-clause-printed
returns-in-Err-clause-printed g c asks none =
    let said = c.finish.ensures.help none in
    let kept = c.in-Err.ensures.out_kept (no_failure c.in-Err.stop.ending said.0) (no_picture c.in-Err.stop.ending said.0) in
    record {
      text = message_of c.in-Err.stop.ending;
      written = subst (λ out. Appends (g.W.Write.contents out) (g.W.Write.contents c.finish.new.out) (message_of c.in-Err.stop.ending)) kept said.1;
    }

pub returns-in-Err-clause-version : goal.returns-in-Err-clause-version
returns-in-Err-clause-version g c unasked asks none =
    let said = c.finish.ensures.help none in
    let is = is_version g.O.Ports.ways g.O.T.Read.remaining (words_or_default (texts c.args.words.now)) (g.I.Read.remaining c.args.reader.now) _ _ c.in-Err.stop.ending c.in-Err.ensures.ended said.0 unasked in
    let kept = c.in-Err.ensures.out_kept (no_failure c.in-Err.stop.ending said.0) (no_picture c.in-Err.stop.ending said.0) in
    subst (λ out. Appends (g.W.Write.contents out) (g.W.Write.contents c.finish.new.out) (message_of ending.Version)) kept
    (subst (λ ended. Appends (g.W.Write.contents c.carry_out.new.out) (g.W.Write.contents c.finish.new.out) (message_of ended)) is said.1)

pub returns-in-Err-clause-ended : goal.returns-in-Err-clause-ended
returns-in-Err-clause-ended g c two = record {
  ended = c.in-Err.stop.ending;
  by = ends_the_same g.O.Ports.ways g.O.T.Read.remaining (words_or_default (texts c.args.words.now)) (g.I.Read.remaining c.args.reader.now) _ _ _ c.in-Err.stop.ending
      (λ no. ap g.W.Write.contents (c.finish.ensures.out_kept no)) c.in-Err.ensures.ended;
  out_kept = λ keeps. c.finish.ensures.out_kept (kept_when c.in-Err.stop.ending keeps).0 ∙ c.in-Err.ensures.out_kept (kept_when c.in-Err.stop.ending keeps).1 (kept_when c.in-Err.stop.ending keeps).2;
}

pub returns-in-Err-clause-err_kept : goal.returns-in-Err-clause-err_kept
returns-in-Err-clause-err_kept g c small = then_kept c.args.err.now c.carry_out.new.err c.finish.new.err c.carry_out.ensures.err_kept (c.finish.ensures.err_kept small)
