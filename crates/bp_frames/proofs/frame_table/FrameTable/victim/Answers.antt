use Rattle.bp_frames.proofs.Seating.{once}
use Rattle.bp_frames.proofs.frame_table.FrameTable.victim.Goals as goal

pub victim-requires : goal.victim-requires
victim-requires c = once _ _ _ c.self.invariant.2
