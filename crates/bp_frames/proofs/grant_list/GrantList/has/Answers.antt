use Rattle.std.proofs.Common.{ap, sym, ◌∙◌}
use Rattle.bp_trail.specs.Event.{grant}
use Rattle.bp_trail.specs.Legal.{is_out}
use Rattle.bp_frames.proofs.Outstanding.{in-slots, out-read, out-nowhere}
use Rattle.bp_frames.proofs.grant_list.GrantList.has.Goals as goal

pub returns-then-not-self : goal.returns-then-not-self
returns-then-not-self c =
    c.is_among.ensures ∙ sym (in-slots c.args.client c.args.page c.args.serial c.self.inside.slots.items) ∙ ap (λ v. is_out (grant c.args.client c.args.page c.args.serial) v.out) c.self.view_is

pub returns-in-None : goal.returns-in-None
returns-in-None c =
    sym (out-nowhere c.args.client c.args.page c.args.serial c.self.inside.slots.items c.in-None.ensures) ∙ ap (λ v. is_out (grant c.args.client c.args.page c.args.serial) v.out) c.self.view_is

pub returns-in-Some : goal.returns-in-Some
returns-in-Some c =
    out-read c.args.client c.args.page c.args.serial c.self.inside.slots.items c.in-Some.place c.index.result.now c.in-Some.ensures c.index.ensures c.is_out_as.result c.is_out_as.ensures
    ∙ ap (λ v. is_out (grant c.args.client c.args.page c.args.serial) v.out) c.self.view_is
