use Rattle.std.proofs.Common.{subst}
use Rattle.bp_trail.specs.Legal.{Legal}
use Rattle.bp_check.specs.Setups.{with_room}
use Rattle.bp_check.specs.Seen.{Seen}
use Rattle.bp_check.proofs.Rooms.{legal-there}
use Rattle.bp_check.proofs.judge.Judge.keeps_the_rules.Goals as goal

pub returns : goal.returns
returns c = λ room.
    subst (λ (t : Seen). Legal (with_room t.parameters room) t.past) c.self.view_is (legal-there c.self.inside.setup room c.self.inside.told.past c.self.invariant.legal)
