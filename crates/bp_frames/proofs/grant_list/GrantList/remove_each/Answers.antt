use Rattle.std.proofs.Common.{ap, sym, ◌∙◌}
use Rattle.bp_trail.specs.Event.{grant}
use Rattle.bp_trail.specs.Legal.{is_out}
use Rattle.bp_frames.specs.GrantLists.{Given}
use Rattle.bp_frames.proofs.Outstanding.{in-slots}
use Rattle.bp_frames.proofs.grant_list.GrantList.remove_each.Goals as goal

pub returns-then-not-is_among-clause-was : goal.returns-then-not-is_among-clause-was
returns-then-not-is_among-clause-was c = sym c.if-not-is_among.true ∙ c.is_among.ensures ∙ sym (in-slots c.args.client c.args.page c.args.serial c.self.inside.slots.items) ∙ ap (λ (v : Given). is_out (grant c.args.client c.args.page c.args.serial) v.out) c.self.view_is

pub returns-clause-was : goal.returns-clause-was
returns-clause-was c = sym c.if-not-is_among.false ∙ c.is_among.ensures ∙ sym (in-slots c.args.client c.args.page c.args.serial c.self.inside.slots.items) ∙ ap (λ (v : Given). is_out (grant c.args.client c.args.page c.args.serial) v.out) c.self.view_is
