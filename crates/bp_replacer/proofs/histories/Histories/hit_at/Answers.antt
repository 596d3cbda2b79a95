use Rattle.std.proofs.Common.{◌≡◌, ◌<◌, subst, ◌+◌, ◌-◌, ◌≤◌, refl, sym, ap, ◌∙◌, get_or, arith}
use Rattle.bp_replacer.specs.declared.histories.Block.{Block}
use Rattle.bp_references.specs.Shift.{IsBounded}
use Rattle.bp_replacer.proofs.KeptLaws.{bounded_shift, bounded_later}
use Rattle.bp_replacer.specs.Histories.{Blocks, time_of}
use Rattle.bp_replacer.proofs.HistoryLaws.{stamped_time, stamped}
use Rattle.bp_replacer.proofs.BlockSteps.{same_places, lends, lends_block, lends_sound, is, others, keeps, keeps_queue, after_late_hit, after_soon_hit}
use Rattle.bp_replacer.proofs.histories.Histories.hit_at.Goals as goal
use Rattle.bp_replacer.proofs.histories.Histories.hit_at.Goals.{then-t-kept, else-t-kept}

pub unwrap-kept-requires : goal.unwrap-kept-requires
unwrap-kept-requires c = lends c.self.inside _ c.self.view_is c.self.invariant.0 _ _ _ c.requires.place c.slot.ensures _ c.get_mut.ensures.value

pub overflow_sub-t : goal.overflow_sub-t
overflow_sub-t c =
    let was = lends_block c.self.inside _ c.self.view_is c.self.invariant.0 _ _ _ c.requires.place c.slot.ensures _ c.get_mut.ensures.value _ c.unwrap-kept.ensures in
    let by_now = c.requires.now.after_all c.args.page in
    let last = ap (λ (b : Block). b.last) was in
    omega arith

pub overflow_sub-width : goal.overflow_sub-width
overflow_sub-width c =
    let sound = lends_sound c.self.inside _ c.self.view_is c.self.invariant.0 _ _ _ c.requires.place c.slot.ensures _ c.get_mut.ensures.value _ c.unwrap-kept.ensures in
    omega (arith, sound.bounded.below_last)

pub shift-requires-clause-fits : goal.shift-requires-clause-fits
shift-requires-clause-fits c = λ n lt.
    let sound = lends_sound c.self.inside _ c.self.view_is c.self.invariant.0 _ _ _ c.requires.place c.slot.ensures _ c.get_mut.ensures.value _ c.unwrap-kept.ensures in
    let was = lends_block c.self.inside _ c.self.view_is c.self.invariant.0 _ _ _ c.requires.place c.slot.ensures _ c.get_mut.ensures.value _ c.unwrap-kept.ensures in
    let by_now = c.requires.now.after_all c.args.page in
    let last = ap (λ (b : Block). b.last) was in
    omega (arith, sound.bounded.below_newest n lt, sound.bounded.below_last)

pub invariant_of-self : goal.invariant_of-self
invariant_of-self c =
    let sound = lends_sound c.self.inside _ c.self.view_is c.self.invariant.0 _ _ _ c.requires.place c.slot.ensures _ c.get_mut.ensures.value _ c.unwrap-kept.ensures in
    let was = lends_block c.self.inside _ c.self.view_is c.self.invariant.0 _ _ _ c.requires.place c.slot.ensures _ c.get_mut.ensures.value _ c.unwrap-kept.ensures in
    let by_now = c.requires.now.after_all c.args.page in
    let last = ap (λ (b : Block). b.last) was in
    let bounded : IsBounded c.self.inside.settings.k c.if-t-kept.kept.stamps c.args.t = elim c.if-t-kept.branch [
      | then-t-kept w ↦
          let fits : get_or c.unwrap-kept.result.now.stamps 0 0 + (c.unwrap-kept.result.now.last - get_or c.unwrap-kept.result.now.stamps 0 0) ≤ c.args.t = omega (arith, sound.bounded.below_last) in
          rw (ap (λ (b : Block). b.stamps) w.kept-is) (bounded_shift _ _ _ _ _ _ w.shift.ensures sound.bounded fits)
      | else-t-kept w ↦ rw (ap (λ (b : Block). b.stamps) w.kept-is) (bounded_later _ _ _ c.args.t sound.bounded (omega arith))
    ] in
    let held : c.if-t-kept.kept.held ≡ c.unwrap-kept.result.now.held = elim c.if-t-kept.branch [
      | then-t-kept w ↦ ap (λ (b : Block). b.held) w.kept-is
      | else-t-kept w ↦ ap (λ (b : Block). b.held) w.kept-is
    ] in
    let waits : c.if-t-kept.kept.waits ≡ c.unwrap-kept.result.now.waits = elim c.if-t-kept.branch [
      | then-t-kept w ↦ ap (λ (b : Block). b.waits) w.kept-is
      | else-t-kept w ↦ ap (λ (b : Block). b.waits) w.kept-is
    ] in (
      keeps c.self.inside _ c.self.view_is c.self.invariant.0 _ _ _ c.requires.place c.slot.ensures _ c.get_mut.ensures.value _ c.unwrap-kept.ensures _ record {
        bounded = bounded;
        free_waits = rw (held, waits) sound.free_waits;
        waits_known = λ marked. omega (arith, c.requires.now.positive);
      },
      keeps_queue c.self.inside _ c.self.view_is c.self.invariant.0 _ _ _ c.requires.place c.slot.ensures _ c.get_mut.ensures.value _ c.unwrap-kept.ensures _ c.self.invariant.1 waits (omega arith),
    )

pub returns : goal.returns
returns c =
    let was = lends_block c.self.inside _ c.self.view_is c.self.invariant.0 _ _ _ c.requires.place c.slot.ensures _ c.get_mut.ensures.value _ c.unwrap-kept.ensures in
    let same : c.if-t-kept.kept.held ≡ c.unwrap-kept.result.now.held = elim c.if-t-kept.branch [
      | then-t-kept w ↦ ap (λ (b : Block). b.held) w.kept-is
      | else-t-kept w ↦ ap (λ (b : Block). b.held) w.kept-is
    ] in
    let left : Block = record { held = c.if-t-kept.kept.held; waits = c.if-t-kept.kept.waits; last = c.args.t; stamps = c.if-t-kept.kept.stamps } in
    let known : time_of left ≡ c.args.t = elim c.if-t-kept.branch [
      | then-t-kept w ↦ stamped_time left c.args.t (ap (λ (b : Block). get_or b.stamps 0 0) w.kept-is ∙ w.shift.ensures.newest) c.requires.now.positive
      | else-t-kept w ↦ stamped_time left (get_or c.unwrap-kept.result.now.stamps 0 0) (ap (λ (b : Block). get_or b.stamps 0 0) w.kept-is) (stamped c.unwrap-kept.result.now (subst (λ (b : Block). 0 < time_of b) was c.requires.known))
    ] in
    record {
      stamps = λ refs timed has. elim c.if-t-kept.branch [
        | then-t-kept w ↦ after_late_hit c.self.inside _ c.self.view_is c.self.invariant.0 _ _ _ c.requires.place c.slot.ensures _ c.get_mut.ensures.value _ c.unwrap-kept.ensures _ _ (omega (arith, c.self.inside.settings.in_limits)) c.requires.now.positive refl refs timed has c.requires.known (omega (arith, w.if-t-kept)) (rw (ap (λ (b : Block). b.stamps) w.kept-is) w.shift.ensures)
        | else-t-kept w ↦ after_soon_hit c.self.inside _ c.self.view_is c.self.invariant.0 _ _ _ c.requires.place c.slot.ensures _ c.get_mut.ensures.value _ c.unwrap-kept.ensures _ _ (omega (arith, c.self.inside.settings.in_limits)) c.requires.now.positive refl refs timed has c.requires.known (omega (arith, w.if-t-kept)) (ap (λ (b : Block). b.stamps) w.kept-is)
      ];
      last = ap time_of (is c.self.inside _ c.self.view_is c.self.invariant.0 _ _ _ c.requires.place c.slot.ensures _ c.get_mut.ensures.value _ c.unwrap-kept.ensures _) ∙ known;
      latest = ap (λ (b : Block). b.last) (is c.self.inside _ c.self.view_is c.self.invariant.0 _ _ _ c.requires.place c.slot.ensures _ c.get_mut.ensures.value _ c.unwrap-kept.ensures _);
      held = ap (λ (b : Block). b.held) (is c.self.inside _ c.self.view_is c.self.invariant.0 _ _ _ c.requires.place c.slot.ensures _ c.get_mut.ensures.value _ c.unwrap-kept.ensures _) ∙ same ∙ sym (ap (λ (b : Block). b.held) was) ∙ c.requires.held;
      others = others c.self.inside _ c.self.view_is c.self.invariant.0 _ _ _ c.requires.place c.slot.ensures _ c.get_mut.ensures.value _ c.unwrap-kept.ensures _;
      settings = record { k = ap (λ (h : Blocks). h.k) c.self.view_is; correlated = ap (λ (h : Blocks). h.correlated) c.self.view_is; retained = ap (λ (h : Blocks). h.retained) c.self.view_is };
      places = same_places _ _ (ap (λ (h : Blocks). h.places) c.self.view_is);
    }
