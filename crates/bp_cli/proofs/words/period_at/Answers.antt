use Rattle.std.proofs.Common.{◌∙◌, ap, List, ℕ, Option}
use Rattle.std.specs.Str.Parse.{ParsesUnsigned, ExplainsUnsignedError, HasUnsignedDigitsIfOk}
use Rattle.clap.specs.Words.{found_of, one_text}
use Rattle.clap.proofs.WalkLemmas.{one_text-rows}
use Rattle.bp_cli.specs.Words.{unsigned_of, ◌>>=◌}
use Rattle.bp_cli.proofs.Reading.{number_read}
use Rattle.bp_cli.proofs.words.period_at.Goals as goal

pub returns : goal.returns
returns c =
    number_read (λ bs r. ParsesUnsigned 64 10 bs r × ExplainsUnsignedError 10 bs r × HasUnsignedDigitsIfOk bs r)
    (one_text (found_of c.args.matches.now) c.args.id.now) c.get_one.result (λ t x g. g.0) c.get_one.ensures.none c.get_one.ensures.value
    ∙ ap (λ (text : Option (List ℕ)). text >>= unsigned_of) (one_text-rows (found_of c.args.matches.now) c.args.id.now)
