-- Each command is added in turn.
use Rattle.std.proofs.Common.{◌≡◌, ◌∙◌, ap}
use Rattle.std.proofs.lemmas.Result.{IfOk-weaker}
use Rattle.clap.specs.Words.{App, app_of, with_subcommand}
use Rattle.bp_cli.specs.Command.{bpool_app, run_rules, run_shape, sweep_rules, sweep_shape, migrate_rules, migrate_shape, explain_rules, explain_shape}
use Rattle.bp_cli.proofs.command.bpool_command.Goals as goal

pub returns : goal.returns
returns c =
    let with_run = c.in_ok-with_run.ensures run_rules c.run_arguments-arguments.ensures.rules c.run_arguments-arguments.ensures.local ∙ ap (λ (a : App). with_subcommand a run_shape) c.in_ok-program.ensures in
    let with_sweep = c.in_ok-with_sweep.ensures sweep_rules c.sweep_arguments-arguments.ensures.rules c.sweep_arguments-arguments.ensures.local ∙ ap (λ (a : App). with_subcommand a sweep_shape) with_run in
    let with_migrate = c.in_ok-with_migrate.ensures migrate_rules c.migrate_arguments-arguments.ensures.rules c.migrate_arguments-arguments.ensures.local ∙ ap (λ (a : App). with_subcommand a migrate_shape) with_sweep in
    IfOk-weaker c.with_command-4.result (λ r. app_of r ≡ with_subcommand (app_of c.in_ok-with_migrate.with_migrate) explain_shape) (λ r. app_of r ≡ bpool_app)
    (λ r is. is ∙ ap (λ (a : App). with_subcommand a explain_shape) with_migrate)
    (c.with_command-4.ensures explain_rules c.explain_arguments-arguments.ensures.rules c.explain_arguments-arguments.ensures.local)
