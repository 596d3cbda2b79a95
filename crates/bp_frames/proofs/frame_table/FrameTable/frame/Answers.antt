use Rattle.std.proofs.Common.{arith}
use Rattle.std.proofs.lemmas.Bool.{eqb-true}
use Rattle.bp_frames.proofs.Tables.{slot-shown, frame-shown, frame-page}
use Rattle.bp_frames.proofs.frame_table.FrameTable.frame.Goals as goal

pub index-requires : goal.index-requires
index-requires c = let lt = slot-shown _ _ _ _ _ c.self.invariant.0 _ _ c.self.view_is c.args.slot.now c.requires in omega (arith, lt)

pub returns-clause-here : goal.returns-clause-here
returns-clause-here c = frame-shown _ _ _ _ _ c.self.invariant.0 _ _ c.self.view_is c.args.slot.now c.requires c.index.result.now c.index.ensures

pub returns-clause-page : goal.returns-clause-page
returns-clause-page c = eqb-true c.index.result.now.page c.args.slot.now.page (frame-page _ _ _ _ _ c.self.invariant.0 _ _ c.self.view_is c.args.slot.now c.requires c.index.result.now c.index.ensures)
