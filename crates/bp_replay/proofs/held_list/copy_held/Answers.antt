-- Each pass that is held is copied as its slot is met.
use Rattle.std.proofs.Common.{◌++◌, ◌∷◌, [], List, sym, ap, ◌∙◌, arith, length, if◌then◌else◌}
use Rattle.std.proofs.lemmas.List.{take_all}
use Rattle.bp_trail.specs.Event.{Grant}
use Rattle.bp_replay.specs.HeldLists.{passes_in}
use Rattle.bp_replay.proofs.HeldSlots.{passes-more, passes-room}
use Rattle.bp_replay.proofs.held_list.copy_held.Goals as goal

pub add_held-requires : goal.add_held-requires
add_held-requires c = record {
  room = λ held. omega (arith, passes-room c.args.slots.now c.loop-slot.slot-index c.slot-item.result (omega (arith, c.loop-slot-test.true)) c.slot-item.is held, ap length c.loop-slot.invariant.copied, c.loop-slot.notes.ok, c.loop-slot.invariant.room, c.requires.room);
}

pub loop-slot-preserved : goal.loop-slot-preserved
loop-slot-preserved c =
    let slot = c.slot-item.result in
    record {
      copied = c.add_held.ensures.notes ∙ ap (λ (gs : List Grant). gs ++ (if slot.is_held then slot.note ∷ [] else [])) c.loop-slot.invariant.copied
          ∙ sym (passes-more c.args.slots.now c.loop-slot.slot-index slot (omega (arith, c.loop-slot-test.true)) c.slot-item.is);
      room = c.add_held.ensures.capacity ∙ c.loop-slot.invariant.room;
    }

pub returns : goal.returns
returns c = record {
  notes = c.loop-slot.invariant.copied ∙ ap passes_in (take_all c.loop-slot.slot-index c.args.slots.now (omega (arith, c.loop-slot-test.false)));
}
