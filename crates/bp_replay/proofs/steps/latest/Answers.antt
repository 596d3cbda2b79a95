-- The passes at hand are those that the list leaves out.
use Rattle.std.proofs.Common.{◌∙◌, ap}
use Rattle.std.specs.Prelude.{find, reverse}
use Rattle.bp_scripts.specs.Script.{is_pass_of}
use Rattle.bp_replay.proofs.Stepping.{latest_found}
use Rattle.bp_replay.proofs.steps.latest.Goals as goal

pub returns : goal.returns
returns g c =
    latest_found c.args.held.now.passes c.args.client.now.session.said c.args.client.now.session.client c.args.page c.latest.result c.requires.held
    (c.latest.ensures ∙ ap (λ who. find (is_pass_of who c.args.page) (reverse c.args.held.now.passes)) c.client.ensures)
