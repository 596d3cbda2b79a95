use Rattle.std.proofs.Common.{◌+◌, ◌≤◌, refl, sym, ap, ◌∙◌, get_or, arith}
use Rattle.bp_replacer.specs.declared.histories.Block.{Block}
use Rattle.bp_replacer.proofs.KeptLaws.{bounded_shift}
use Rattle.bp_replacer.specs.Histories.{Blocks, time_of}
use Rattle.bp_replacer.proofs.HistoryLaws.{stamped_time}
use Rattle.bp_replacer.proofs.BlockSteps.{same_places, lends, lends_block, lends_sound, is, others, keeps, keeps_queue, after_fault}
use Rattle.bp_replacer.proofs.histories.Histories.fault_at.Goals as goal

pub unwrap-kept-requires : goal.unwrap-kept-requires
unwrap-kept-requires c = lends c.self.inside _ c.self.view_is c.self.invariant.0 _ _ _ c.requires.place c.slot.ensures _ c.get_mut.ensures.value

pub shift-requires-clause-fits : goal.shift-requires-clause-fits
shift-requires-clause-fits c = λ n lt.
    let sound = lends_sound c.self.inside _ c.self.view_is c.self.invariant.0 _ _ _ c.requires.place c.slot.ensures _ c.get_mut.ensures.value _ c.unwrap-kept.ensures in
    let was = lends_block c.self.inside _ c.self.view_is c.self.invariant.0 _ _ _ c.requires.place c.slot.ensures _ c.get_mut.ensures.value _ c.unwrap-kept.ensures in
    let by_now = c.requires.now.after_all c.args.page in
    let last = ap (λ (b : Block). b.last) was in
    omega (arith, sound.bounded.below_newest n lt, sound.bounded.below_last)

pub invariant_of-self : goal.invariant_of-self
invariant_of-self c =
    let sound = lends_sound c.self.inside _ c.self.view_is c.self.invariant.0 _ _ _ c.requires.place c.slot.ensures _ c.get_mut.ensures.value _ c.unwrap-kept.ensures in
    let was = lends_block c.self.inside _ c.self.view_is c.self.invariant.0 _ _ _ c.requires.place c.slot.ensures _ c.get_mut.ensures.value _ c.unwrap-kept.ensures in
    let by_now = c.requires.now.after_all c.args.page in
    let last = ap (λ (b : Block). b.last) was in
    let fits : get_or c.unwrap-kept.result.now.stamps 0 0 + 0 ≤ c.args.t = omega (arith, sound.bounded.below_last) in (
      keeps c.self.inside _ c.self.view_is c.self.invariant.0 _ _ _ c.requires.place c.slot.ensures _ c.get_mut.ensures.value _ c.unwrap-kept.ensures _ record {
        bounded = bounded_shift _ 0 _ _ _ _ c.shift.ensures sound.bounded fits;
        free_waits = sound.free_waits;
        waits_known = λ waits. omega (arith, c.requires.now.positive);
      },
      keeps_queue c.self.inside _ c.self.view_is c.self.invariant.0 _ _ _ c.requires.place c.slot.ensures _ c.get_mut.ensures.value _ c.unwrap-kept.ensures _ c.self.invariant.1 refl (omega arith),
    )

pub returns : goal.returns
returns c =
    let was = lends_block c.self.inside _ c.self.view_is c.self.invariant.0 _ _ _ c.requires.place c.slot.ensures _ c.get_mut.ensures.value _ c.unwrap-kept.ensures in
    let left : Block = record { held = c.unwrap-kept.result.now.held; waits = c.unwrap-kept.result.now.waits; last = c.args.t; stamps = c.shift.new.stamps } in
    record {
      stamps = λ refs timed has. after_fault c.self.inside _ c.self.view_is c.self.invariant.0 _ _ _ c.requires.place c.slot.ensures _ c.get_mut.ensures.value _ c.unwrap-kept.ensures _ _ (omega (arith, c.self.inside.settings.in_limits)) c.requires.now.positive refl refs timed has c.shift.ensures;
      last = ap time_of (is c.self.inside _ c.self.view_is c.self.invariant.0 _ _ _ c.requires.place c.slot.ensures _ c.get_mut.ensures.value _ c.unwrap-kept.ensures _) ∙ stamped_time left c.args.t c.shift.ensures.newest c.requires.now.positive;
      latest = ap (λ (b : Block). b.last) (is c.self.inside _ c.self.view_is c.self.invariant.0 _ _ _ c.requires.place c.slot.ensures _ c.get_mut.ensures.value _ c.unwrap-kept.ensures _);
      held = ap (λ (b : Block). b.held) (is c.self.inside _ c.self.view_is c.self.invariant.0 _ _ _ c.requires.place c.slot.ensures _ c.get_mut.ensures.value _ c.unwrap-kept.ensures _) ∙ sym (ap (λ (b : Block). b.held) was) ∙ c.requires.held;
      others = others c.self.inside _ c.self.view_is c.self.invariant.0 _ _ _ c.requires.place c.slot.ensures _ c.get_mut.ensures.value _ c.unwrap-kept.ensures _;
      settings = record { k = ap (λ (h : Blocks). h.k) c.self.view_is; correlated = ap (λ (h : Blocks). h.correlated) c.self.view_is; retained = ap (λ (h : Blocks). h.retained) c.self.view_is };
      places = same_places _ _ (ap (λ (h : Blocks). h.places) c.self.view_is);
    }
