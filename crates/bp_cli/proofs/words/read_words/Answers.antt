use Rattle.std.proofs.Common.{◌≡◌, ◌∙◌, ap, option_map, sym, subst, Err}
use Rattle.std.proofs.lemmas.Result.{err_from_is_err_and}
use Rattle.clap.specs.Faults.{is_simple_and_free}
use Rattle.clap.specs.Simple.{app_of}
use Rattle.clap.specs.Walk.{texts}
use Rattle.bp_cli.proofs.Accepted.{clap_faults, matches_told, no_order_is, task_is}
use Rattle.bp_cli.specs.Command.{bpool_app}
use Rattle.bp_cli.specs.Asked.{asked_of}
use Rattle.clap.specs.Words.{FailsBy}
use Rattle.bp_cli.specs.Words.{fault_in}
use Rattle.bp_cli.proofs.words.read_words.Goals as goal

pub returns-in_err-matches-clause-faults : goal.returns-in_err-matches-clause-faults
returns-in_err-matches-clause-faults c =
    let app_is : app_of c.in_ok-command.command ≡ bpool_app = c.in_ok-command.ensures in
    let is = err_from_is_err_and c.from_residual-in_err-matches.result c.from_residual-in_err-matches.ensures.1 in
    subst (FailsBy (fault_in (texts c.args.words.now))) (sym (is.1 ∙ ap Err is.2))
    (clap_faults (app_of c.in_ok-command.command) (texts c.args.words.now) c.in_err-matches.field-0.0 app_is (c.in_err-matches.ensures.kinds (ap is_simple_and_free app_is)))

pub returns-in-Some-clause-asked : goal.returns-in-Some-clause-asked
returns-in-Some-clause-asked c =
    let app_is : app_of c.in_ok-command.command ≡ bpool_app = c.in_ok-command.ensures in
    let is = matches_told (app_of c.in_ok-command.command) (texts c.args.words.now) c.in_ok-matches.matches app_is c.in_ok-matches.ensures.matches (c.in_ok-matches.ensures.kinds (ap is_simple_and_free app_is)) in
    (task_is asked_of c.in-Some.task (texts c.args.words.now) c.in_ok-matches.matches is (ap (option_map asked_of) (sym c.in-Some.is) ∙ c.in_ok-found.ensures)).0

pub returns-in-Some-clause-limits : goal.returns-in-Some-clause-limits
returns-in-Some-clause-limits c =
    let app_is : app_of c.in_ok-command.command ≡ bpool_app = c.in_ok-command.ensures in
    let is = matches_told (app_of c.in_ok-command.command) (texts c.args.words.now) c.in_ok-matches.matches app_is c.in_ok-matches.ensures.matches (c.in_ok-matches.ensures.kinds (ap is_simple_and_free app_is)) in
    (task_is asked_of c.in-Some.task (texts c.args.words.now) c.in_ok-matches.matches is (ap (option_map asked_of) (sym c.in-Some.is) ∙ c.in_ok-found.ensures)).1

pub returns-in-Some-clause-faults : goal.returns-in-Some-clause-faults
returns-in-Some-clause-faults c =
    let app_is : app_of c.in_ok-command.command ≡ bpool_app = c.in_ok-command.ensures in
    let is = matches_told (app_of c.in_ok-command.command) (texts c.args.words.now) c.in_ok-matches.matches app_is c.in_ok-matches.ensures.matches (c.in_ok-matches.ensures.kinds (ap is_simple_and_free app_is)) in
    (task_is asked_of c.in-Some.task (texts c.args.words.now) c.in_ok-matches.matches is (ap (option_map asked_of) (sym c.in-Some.is) ∙ c.in_ok-found.ensures)).2

pub returns-clause-faults : goal.returns-clause-faults
returns-clause-faults c =
    let app_is : app_of c.in_ok-command.command ≡ bpool_app = c.in_ok-command.ensures in
    let is = matches_told (app_of c.in_ok-command.command) (texts c.args.words.now) c.in_ok-matches.matches app_is c.in_ok-matches.ensures.matches (c.in_ok-matches.ensures.kinds (ap is_simple_and_free app_is)) in
    no_order_is (texts c.args.words.now) c.in_ok-matches.matches c.in_ok-names_nothing-in-None.field-0 is (ap (option_map asked_of) (sym c.in-None.is) ∙ c.in_ok-found.ensures)
    c.in_ok-names_nothing-in-None.ensures
