use Rattle.std.proofs.Common.{rules, ◌≡◌, true, false, sym, ap, ◌∙◌}
use Rattle.bp_trail.specs.Event.{grant}
use Rattle.bp_trail.specs.Passes.{writes_out}
use Rattle.bp_trail.specs.Legal.{is_out}
use Rattle.bp_trail.specs.Saved.{written_since}
use Rattle.bp_check.specs.Pages.{rewritten}
use Rattle.bp_check.specs.Setups.{parameters_of}
use Rattle.bp_check.specs.Seen.{Seen}
use Rattle.bp_check.proofs.PageSteps.{written-since}
use Rattle.bp_check.proofs.judge.Judge.written_since.Goals as goal

pub returns-in-Some : goal.returns-in-Some
returns-in-Some c =
    let past = c.self.inside.told.past in
    let out : is_out (grant c.args._client c.args.page c.args._ticket) (writes_out past) ≡ true = ap (λ (t : Seen). is_out (grant c.args._client c.args.page c.args._ticket) (writes_out t.past)) c.self.view_is ∙ c.requires in
    let known : c.state.inside.is_rewritten ≡ rewritten past c.args.page = search rules in
    known ∙ sym (written-since (parameters_of c.self.inside.setup 0) past c.args._client c.args._ticket c.args.page c.self.invariant.legal out)
    ∙ ap (λ (t : Seen). written_since t.past c.args._ticket c.args.page) c.self.view_is

pub returns-in-None : goal.returns-in-None
returns-in-None c =
    let past = c.self.inside.told.past in
    let out : is_out (grant c.args._client c.args.page c.args._ticket) (writes_out past) ≡ true = ap (λ (t : Seen). is_out (grant c.args._client c.args.page c.args._ticket) (writes_out t.past)) c.self.view_is ∙ c.requires in
    let known : false ≡ rewritten past c.args.page = search rules in
    known ∙ sym (written-since (parameters_of c.self.inside.setup 0) past c.args._client c.args._ticket c.args.page c.self.invariant.legal out)
    ∙ ap (λ (t : Seen). written_since t.past c.args._ticket c.args.page) c.self.view_is
