use Rattle.std.proofs.Common.{◌≡◌, vec_capacity}
use Rattle.std.specs.Prelude.{take}
use Rattle.bp_replay.specs.HeldLists.{passes_in}
use Rattle.bp_replay.proofs.held_list.copy_held.Given as goal

abbrev pub invariant-loop-slot : goal.invariant-loop-slot
invariant-loop-slot l = record {
  copied : l.notes.items ≡ passes_in (take l.slot-index l.slots);
  room : vec_capacity l.notes ≡ vec_capacity l.initial.notes;
}
