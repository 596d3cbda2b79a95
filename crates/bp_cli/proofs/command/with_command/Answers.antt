use Rattle.std.proofs.Common.{◌≡◌, ◌∙◌, false, ap}
use Rattle.std.proofs.lemmas.Result.{IfOk-at_ok, IfOk-weaker}
use Rattle.clap.specs.Simple.{new_shape}
use Rattle.clap.specs.Words.{AddsSubcommand, Shape, app_of, shape_of, with_subcommand}
use Rattle.clap.specs.declared.builder.command.Command.{Command}
use Rattle.clap.specs.declared.builder.command.Command.TheViews.{out-Command}
use Rattle.bp_cli.proofs.command.with_command.Goals as goal

pub returns-in-Ok : goal.returns-in-Ok
returns-in-Ok c = λ rules is local.
    let shape : Shape = record (new_shape c.args.name.now) { rules = rules } in
    IfOk-weaker c.subcommand.result (AddsSubcommand c.args.program c.in-Ok.command) (λ r. app_of r ≡ with_subcommand (app_of c.args.program) shape)
    (λ r adds. adds.shape (IfOk-at_ok (λ (c : Command). (out-Command c).has_globals ≡ false) c.in-Ok.is (c.command_of.ensures.local local))
    ∙ ap (with_subcommand (app_of c.args.program)) (IfOk-at_ok (λ (c : Command). shape_of c ≡ shape) c.in-Ok.is (c.command_of.ensures.shape rules is local)))
    c.subcommand.ensures
