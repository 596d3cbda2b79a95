use Rattle.bp_references.proofs.RoomLaws.{room_left}
use Rattle.bp_references.proofs.laws.one_more_has_room.Goals as goal

pub returns : goal.returns
returns c = room_left
