-- The newest slot of the key has the pass.
use Rattle.std.proofs.Common.{ap, arith}
use Rattle.bp_replay.specs.HeldLists.{HeldValue}
use Rattle.bp_replay.proofs.HeldSlots.{none-found, note-found, place-within, stands-at}
use Rattle.bp_replay.proofs.held_list.HeldList.latest.Goals as goal

pub returns-in_default : goal.returns-in_default
returns-in_default c =
    none-found c.self.inside.latest c.self.inside.slots.items c.args.client c.args.page c.number.result c.place_of.result c.self.invariant.1 c.number.ensures c.place_of.ensures c.args.self.now (ap (λ (v : HeldValue). v.passes) c.self.view_is) c.in_default.is

pub index-requires : goal.index-requires
index-requires c =
    let within = place-within (c.args.client, c.args.page) c.self.inside.slots.items c.in-Some.place (stands-at c.self.inside.latest c.self.inside.slots.items c.args.client c.args.page c.number.result c.place_of.result c.self.invariant.1 c.number.ensures c.place_of.ensures c.in-Some.place c.in-Some.is) in
    omega (arith, within, c.self.inside.slots.ok)

pub returns : goal.returns
returns c =
    note-found c.self.inside.latest c.self.inside.slots.items c.args.client c.args.page c.number.result c.place_of.result c.self.invariant.1 c.number.ensures c.place_of.ensures c.args.self.now c.in-Some.place c.index.result.now (ap (λ (v : HeldValue). v.passes) c.self.view_is) c.in-Some.is c.index.ensures
