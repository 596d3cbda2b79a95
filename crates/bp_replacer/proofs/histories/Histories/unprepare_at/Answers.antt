use Rattle.std.proofs.Common.{◌≡◌, ◌≢◌, ℕ, false, true, ◌∷◌, None, Some, refl, sym, ap, ◌∙◌, subst, arith}
use Rattle.std.proofs.lemmas.Bool.{false≢true, false_from_ne_true, ne_eqb}
use Rattle.std.specs.Option.{is_some, option_copied_mut}
use Rattle.std.specs.List.Sorted.{IsPermutation}
use Rattle.bp_replacer.specs.declared.histories.Block.{Block}
use Rattle.bp_replacer.specs.declared.histories.Histories.TheInside.{Inside}
use Rattle.bp_replacer.specs.contracts.histories.Histories.{the_view}
use Rattle.bp_replacer.specs.Histories.{Blocks, KeepsPlaces, place_of}
use Rattle.bp_replacer.specs.Kept.{slot}
use Rattle.bp_replacer.proofs.KeptLaws.{number, Changes, kept_without, not_found}
use Rattle.bp_replacer.proofs.QueueLaws.{takes, has_room, queued_pushed, queued_removed}
use Rattle.bp_replacer.proofs.BlockSteps.{has_number, same_places, lends, lends_block, lends_sound, is, others, keeps, keeps_queue, same_stamps, others_same, gone, no_block_blank, sound_blank, blank_alike}
use Rattle.bp_replacer.proofs.histories.Histories.unprepare_at.Goals as goal

pub unwrap-kept-requires : goal.unwrap-kept-requires
unwrap-kept-requires c = lends c.self.inside _ c.self.view_is c.self.invariant.0 _ _ _ c.requires.place c.slot-slot.ensures _ c.get_mut.ensures.value

-- ---- where it begins to wait

pub push-requires : goal.push-requires
push-requires c = has_room _ _ _ c.self.invariant.0 _ c.self.invariant.1 _ _ (has_number c.self.inside _ c.self.view_is c.self.invariant.0 _ _ _ c.requires.place c.slot-slot.ensures) _ record { held = false; waits = true; last = c.unwrap-kept.result.now.last; stamps = c.unwrap-kept.result.now.stamps } (sym c.get_mut.ensures.value ∙ ap option_copied_mut c.unwrap-kept.ensures) c.if-not-kept.true refl

pub invariant_of-self-then-not-kept : goal.invariant_of-self-then-not-kept
invariant_of-self-then-not-kept c =
    let sound = lends_sound c.self.inside _ c.self.view_is c.self.invariant.0 _ _ _ c.requires.place c.slot-slot.ensures _ c.get_mut.ensures.value _ c.unwrap-kept.ensures in (
      keeps c.self.inside _ c.self.view_is c.self.invariant.0 _ _ _ c.requires.place c.slot-slot.ensures _ c.get_mut.ensures.value _ c.unwrap-kept.ensures _ record { bounded = sound.bounded; free_waits = λ free. refl; waits_known = λ waits. omega arith },
      queued_pushed _ _ _ c.self.invariant.0 _ c.self.invariant.1 _ _ (has_number c.self.inside _ c.self.view_is c.self.invariant.0 _ _ _ c.requires.place c.slot-slot.ensures) _ _ (sym c.get_mut.ensures.value ∙ ap option_copied_mut c.unwrap-kept.ensures) c.if-not-kept.true _ refl (subst (λ n. IsPermutation ((c.unwrap-kept.result.now.last, n) ∷ c.self.inside.waiting.pages) c.push.new.self.pages) c.number-then-not-kept.ensures c.push.ensures.pages) c.push.ensures.room,
    )

pub returns-then-not-kept-clause-held : goal.returns-then-not-kept-clause-held
returns-then-not-kept-clause-held c = ap (λ (b : Block). b.held) (is c.self.inside _ c.self.view_is c.self.invariant.0 _ _ _ c.requires.place c.slot-slot.ensures _ c.get_mut.ensures.value _ c.unwrap-kept.ensures _)

pub returns-then-not-kept-clause-stamps : goal.returns-then-not-kept-clause-stamps
returns-then-not-kept-clause-stamps c = same_stamps c.self.inside _ c.self.view_is c.self.invariant.0 _ _ _ c.requires.place c.slot-slot.ensures _ c.get_mut.ensures.value _ c.unwrap-kept.ensures _ refl refl

pub returns-then-not-kept-clause-vanishes : goal.returns-then-not-kept-clause-vanishes
returns-then-not-kept-clause-vanishes c = λ none. absurd (c.if-kept-eq0.false (sym (ap (λ (b : Block). b.last) (lends_block c.self.inside _ c.self.view_is c.self.invariant.0 _ _ _ c.requires.place c.slot-slot.ensures _ c.get_mut.ensures.value _ c.unwrap-kept.ensures)) ∙ none))

pub returns-then-not-kept-clause-others : goal.returns-then-not-kept-clause-others
returns-then-not-kept-clause-others c = others c.self.inside _ c.self.view_is c.self.invariant.0 _ _ _ c.requires.place c.slot-slot.ensures _ c.get_mut.ensures.value _ c.unwrap-kept.ensures _

-- ---- where it waits

pub invariant_of-self-else-not-kept : goal.invariant_of-self-else-not-kept
invariant_of-self-else-not-kept c =
    let sound = lends_sound c.self.inside _ c.self.view_is c.self.invariant.0 _ _ _ c.requires.place c.slot-slot.ensures _ c.get_mut.ensures.value _ c.unwrap-kept.ensures in
    (keeps c.self.inside _ c.self.view_is c.self.invariant.0 _ _ _ c.requires.place c.slot-slot.ensures _ c.get_mut.ensures.value _ c.unwrap-kept.ensures _ record { bounded = sound.bounded; free_waits = λ free. c.if-not-kept.false; waits_known = sound.waits_known }, keeps_queue c.self.inside _ c.self.view_is c.self.invariant.0 _ _ _ c.requires.place c.slot-slot.ensures _ c.get_mut.ensures.value _ c.unwrap-kept.ensures _ c.self.invariant.1 refl (omega arith))

pub returns-else-not-kept-clause-held : goal.returns-else-not-kept-clause-held
returns-else-not-kept-clause-held c = ap (λ (b : Block). b.held) (is c.self.inside _ c.self.view_is c.self.invariant.0 _ _ _ c.requires.place c.slot-slot.ensures _ c.get_mut.ensures.value _ c.unwrap-kept.ensures _)

pub returns-else-not-kept-clause-stamps : goal.returns-else-not-kept-clause-stamps
returns-else-not-kept-clause-stamps c = same_stamps c.self.inside _ c.self.view_is c.self.invariant.0 _ _ _ c.requires.place c.slot-slot.ensures _ c.get_mut.ensures.value _ c.unwrap-kept.ensures _ refl refl

pub returns-else-not-kept-clause-vanishes : goal.returns-else-not-kept-clause-vanishes
returns-else-not-kept-clause-vanishes c = λ none. absurd (c.if-kept-eq0.false (sym (ap (λ (b : Block). b.last) (lends_block c.self.inside _ c.self.view_is c.self.invariant.0 _ _ _ c.requires.place c.slot-slot.ensures _ c.get_mut.ensures.value _ c.unwrap-kept.ensures)) ∙ none))

pub returns-else-not-kept-clause-others : goal.returns-else-not-kept-clause-others
returns-else-not-kept-clause-others c = others c.self.inside _ c.self.view_is c.self.invariant.0 _ _ _ c.requires.place c.slot-slot.ensures _ c.get_mut.ensures.value _ c.unwrap-kept.ensures _

-- ---- where it has no stamps

others_stay : (c : goal.After-remove-then-kept-eq0) (q : ℕ) → q ≢ c.args.page → number c.remove.new.self.entries q ≡ number c.self.inside.places.entries q
others_stay c q other = c.remove.ensures.updates.2 q (ne_eqb c.number.result q (λ e. other (sym e ∙ c.number.ensures)))

place : (c : goal.After-remove-then-kept-eq0) → number c.self.inside.places.entries c.args.page ≡ Some c.slot-slot.result
place c = has_number c.self.inside _ c.self.view_is c.self.invariant.0 _ _ _ c.requires.place c.slot-slot.ensures

there : (c : goal.After-remove-then-kept-eq0) → slot c.self.inside.blocks.slots c.slot-slot.result ≡ Some c.unwrap-kept.result.now
there c = sym c.get_mut.ensures.value ∙ ap option_copied_mut c.unwrap-kept.ensures

none : (c : goal.After-remove-then-kept-eq0) → number c.remove.new.self.entries c.args.page ≡ None
none c = ap (λ n. number c.remove.new.self.entries n) (sym c.number.ensures) ∙ c.remove.ensures.updates.1

changes : (c : goal.After-remove-then-kept-eq0) → Changes c.self.inside.blocks.slots c.self.inside.places.entries c.remove-then-kept-eq0.new.self.slots c.remove.new.self.entries c.args.page c.slot-slot.result
changes c = rw c.remove-then-kept-eq0.ensures.slots (takes _ _ _ c.self.invariant.0 _ c.self.invariant.1 _ _ (place c) _ (there c) _ (others_stay c) (none c))

abbrev now : (c : goal.After-remove-then-kept-eq0) → Inside
now c = record { settings = c.self.inside.settings; places = c.remove.new.self; blocks = c.remove-then-kept-eq0.new.self; waiting = c.self.inside.waiting }

pub invariant_of-self : goal.invariant_of-self
invariant_of-self c =
    let sound = lends_sound c.self.inside _ c.self.view_is c.self.invariant.0 _ _ _ c.requires.place c.slot-slot.ensures _ c.get_mut.ensures.value _ c.unwrap-kept.ensures in
    let idle : c.unwrap-kept.result.now.waits ≡ false = false_from_ne_true _ (λ waits. absurd (omega (arith, sound.waits_known waits, c.if-kept-eq0.true))) in
    (kept_without _ _ _ _ _ _ (changes c) _ c.self.invariant.0 (none c), rw c.remove-then-kept-eq0.ensures.slots (queued_removed _ _ _ c.self.invariant.0 _ c.self.invariant.1 _ _ (place c) _ (there c) _ (others_stay c) (none c) idle))

pub returns-then-kept-eq0-clause-held : goal.returns-then-kept-eq0-clause-held
returns-then-kept-eq0-clause-held c = ap (λ (b : Block). b.held) (gone (now c) c.args.page (none c))

pub returns-then-kept-eq0-clause-stamps : goal.returns-then-kept-eq0-clause-stamps
returns-then-kept-eq0-clause-stamps c =
    let was = lends_block c.self.inside _ c.self.view_is c.self.invariant.0 _ _ _ c.requires.place c.slot-slot.ensures _ c.get_mut.ensures.value _ c.unwrap-kept.ensures in
    let sound = lends_sound c.self.inside _ c.self.view_is c.self.invariant.0 _ _ _ c.requires.place c.slot-slot.ensures _ c.get_mut.ensures.value _ c.unwrap-kept.ensures in
    blank_alike c.args.self.now (the_view (now c)) c.args.page (ap (λ (h : Blocks). h.k) c.self.view_is)
    (rw (gone (now c) c.args.page (none c)) (omega arith))
    (rw (was, ← c.self.view_is) (sound_blank _ _ sound c.if-kept-eq0.true))
    (rw (gone (now c) c.args.page (none c)) (no_block_blank _))

pub returns-then-kept-eq0-clause-vanishes : goal.returns-then-kept-eq0-clause-vanishes
returns-then-kept-eq0-clause-vanishes c = λ unknown. ap is_some (not_found c.remove-then-kept-eq0.new.self.slots c.remove.new.self.entries c.args.page (none c))

pub returns-then-kept-eq0-clause-others : goal.returns-then-kept-eq0-clause-others
returns-then-kept-eq0-clause-others c = others_same c.self.inside (now c) _ c.self.view_is refl _ _ (changes c)

pub returns-then-kept-eq0-clause-places : goal.returns-then-kept-eq0-clause-places
unfolding KeepsPlaces
returns-then-kept-eq0-clause-places c = λ q was held.
    let other : q ≢ c.args.page = λ same. false≢true (sym (ap (λ (b : Block). b.held) (gone (now c) q (ap (number c.remove.new.self.entries) same ∙ none c))) ∙ held) in
    (changes c).other_places q other ∙ ap (λ (h : Blocks). place_of h q) c.self.view_is

pub returns-then-not-kept-clause-places : goal.returns-then-not-kept-clause-places
returns-then-not-kept-clause-places c = same_places _ _ (ap (λ (h : Blocks). h.places) c.self.view_is)

pub returns-else-not-kept-clause-places : goal.returns-else-not-kept-clause-places
returns-else-not-kept-clause-places c = same_places _ _ (ap (λ (h : Blocks). h.places) c.self.view_is)
