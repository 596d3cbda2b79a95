-- The newest slot of the key is marked, and the one before it takes its place in the table.
use Rattle.std.proofs.Common.{◌≡◌, false, Some, refl, ap, ◌∙◌, arith, is_some, if◌then◌else◌}
use Rattle.std.specs.HashMap.{get}
use Rattle.bp_replay.specs.declared.held_list.Slot.{Slot}
use Rattle.bp_replay.specs.HeldLists.{HeldValue, same_key}
use Rattle.bp_replay.proofs.HeldSlots.{marked-links, marked-newest, marked-passes, none-found, note-found, own-place, place-within, stands-at}
use Rattle.bp_replay.proofs.held_list.HeldList.take_latest.Goals as goal

-- the slot as it is left
abbrev left : Slot → Slot
left s = record { note = s.note; is_held = false; previous = s.previous }

pub returns-in_default-clause-note : goal.returns-in_default-clause-note
returns-in_default-clause-note c =
    none-found c.self.inside.latest c.self.inside.slots.items c.args.client c.args.page c.number.result c.place_of.result c.self.invariant.1 c.number.ensures c.place_of.ensures c.args.self.now (ap (λ (v : HeldValue). v.passes) c.self.view_is) c.in_default.is

pub index-requires : goal.index-requires
index-requires c =
    let within = place-within (c.args.client, c.args.page) c.self.inside.slots.items c.in-Some.place (stands-at c.self.inside.latest c.self.inside.slots.items c.args.client c.args.page c.number.result c.place_of.result c.self.invariant.1 c.number.ensures c.place_of.ensures c.in-Some.place c.in-Some.is) in
    omega (arith, within, c.self.inside.slots.ok)

pub index_mut-requires : goal.index_mut-requires
index_mut-requires c =
    let within = place-within (c.args.client, c.args.page) c.self.inside.slots.items c.in-Some.place (stands-at c.self.inside.latest c.self.inside.slots.items c.args.client c.args.page c.number.result c.place_of.result c.self.invariant.1 c.number.ensures c.place_of.ensures c.in-Some.place c.in-Some.is) in
    omega (arith, within, c.self.inside.slots.ok)

pub relink-requires : goal.relink-requires
relink-requires c =
    let found : get same_key c.self.inside.latest c.key_of.result ≡ Some c.in-Some.place = ap (get same_key c.self.inside.latest) c.key_of.ensures ∙ own-place c.self.inside.latest c.self.inside.slots.items c.args.client c.args.page c.number.result c.place_of.result c.self.invariant.1 c.number.ensures c.place_of.ensures c.in-Some.place c.index.result.now (left c.index_mut.result.now) c.in-Some.is c.index.ensures refl in
    record { there = ap is_some found }

pub invariant_of-self : goal.invariant_of-self
invariant_of-self c = (
  marked-links c.self.inside.latest c.self.inside.slots.items c.args.client c.args.page c.number.result c.place_of.result c.self.invariant.1 c.number.ensures c.place_of.ensures c.in-Some.place c.index.result.now (left c.index_mut.result.now) c.in-Some.is c.index.ensures refl c.self.invariant.0,
  marked-newest c.self.inside.latest c.self.inside.slots.items c.args.client c.args.page c.number.result c.place_of.result c.self.invariant.1 c.number.ensures c.place_of.ensures c.in-Some.place c.index.result.now (left c.index_mut.result.now) c.in-Some.is c.index.ensures refl c.self.invariant.0 c.relink.new.latest
      (λ q. c.relink.ensures.places q ∙ ap (λ k. if same_key k q then c.index.result.now.previous else get same_key c.self.inside.latest q) c.key_of.ensures),
)

pub returns-clause-note : goal.returns-clause-note
returns-clause-note c =
    note-found c.self.inside.latest c.self.inside.slots.items c.args.client c.args.page c.number.result c.place_of.result c.self.invariant.1 c.number.ensures c.place_of.ensures c.args.self.now c.in-Some.place c.index.result.now (ap (λ (v : HeldValue). v.passes) c.self.view_is) c.in-Some.is c.index.ensures

pub returns-clause-taken : goal.returns-clause-taken
returns-clause-taken c =
    marked-passes c.self.inside.latest c.self.inside.slots.items c.args.client c.args.page c.number.result c.place_of.result c.self.invariant.1 c.number.ensures c.place_of.ensures c.in-Some.place c.index.result.now (left c.index_mut.result.now) c.in-Some.is c.index.ensures refl c.args.self.now (ap (λ (v : HeldValue). v.passes) c.self.view_is) c.requires.differ

pub returns-clause-room : goal.returns-clause-room
returns-clause-room c = omega (arith, ap (λ (v : HeldValue). v.room) c.self.view_is, c.relink.ensures.spare)
