use Rattle.std.proofs.Common.{◌≡◌, ◌≢◌, ℕ, zero, suc, None, Some, get_or, replicate, refl, sym, ap, ◌∙◌, arith}
use Rattle.std.proofs.lemmas.Bool.{false≢true, ne_eqb}
use Rattle.std.specs.Option.{option_copied_mut}
use Rattle.bp_replacer.specs.declared.histories.Block.{Block}
use Rattle.bp_replacer.specs.declared.histories.Histories.TheInside.{Inside}
use Rattle.bp_replacer.specs.contracts.histories.Histories.{the_view}
use Rattle.bp_replacer.specs.Histories.{Blocks, KeepsPlaces, place_of}
use Rattle.bp_replacer.specs.Kept.{slot}
use Rattle.bp_replacer.proofs.KeptLaws.{number, Changes, kept_without, not_found}
use Rattle.bp_replacer.proofs.QueueLaws.{takes, queued_removed}
use Rattle.bp_replacer.proofs.PurgeLaws.{has_none}
use Rattle.bp_replacer.proofs.BlockSteps.{has_number, same_places, lends, lends_sound, is, others, keeps, keeps_queue, others_same, gone, no_later, no_stamps_left}
use Rattle.bp_replacer.proofs.histories.Histories.forget_at.Goals as goal

pub unwrap-kept-requires : goal.unwrap-kept-requires
unwrap-kept-requires c = lends c.self.inside _ c.self.view_is c.self.invariant.0 _ _ _ c.requires.place c.slot-slot.ensures _ c.get_mut.ensures.value

-- ---- where it waits

zeros : (n count : ℕ) → ◌≡◌ {A = ℕ} (get_or (replicate count 0) n 0) 0
zeros n zero = refl
zeros zero (suc count) = refl
zeros (suc n) (suc count) = zeros n count

pub invariant_of-self : goal.invariant_of-self
invariant_of-self c =
    let sound = lends_sound c.self.inside _ c.self.view_is c.self.invariant.0 _ _ _ c.requires.place c.slot-slot.ensures _ c.get_mut.ensures.value _ c.unwrap-kept.ensures in (
      keeps c.self.inside _ c.self.view_is c.self.invariant.0 _ _ _ c.requires.place c.slot-slot.ensures _ c.get_mut.ensures.value _ c.unwrap-kept.ensures _ record {
        bounded = record { below_newest = λ n lt. omega (arith, zeros n 16); below_last = omega arith };
        free_waits = λ free. c.if-kept.true;
        waits_known = sound.waits_known;
      },
      keeps_queue c.self.inside _ c.self.view_is c.self.invariant.0 _ _ _ c.requires.place c.slot-slot.ensures _ c.get_mut.ensures.value _ c.unwrap-kept.ensures _ c.self.invariant.1 refl (omega arith),
    )

pub returns-then-kept-clause-held : goal.returns-then-kept-clause-held
returns-then-kept-clause-held c = ap (λ (b : Block). b.held) (is c.self.inside _ c.self.view_is c.self.invariant.0 _ _ _ c.requires.place c.slot-slot.ensures _ c.get_mut.ensures.value _ c.unwrap-kept.ensures _)

pub returns-then-kept-clause-stamps : goal.returns-then-kept-clause-stamps
returns-then-kept-clause-stamps c = no_stamps_left c.self.inside _ c.self.view_is c.self.invariant.0 _ _ _ c.requires.place c.slot-slot.ensures _ c.get_mut.ensures.value _ c.unwrap-kept.ensures _ (λ n. zeros n 16)

pub returns-then-kept-clause-latest : goal.returns-then-kept-clause-latest
returns-then-kept-clause-latest c = no_later c.self.inside _ c.self.view_is c.self.invariant.0 _ _ _ c.requires.place c.slot-slot.ensures _ c.get_mut.ensures.value _ c.unwrap-kept.ensures _ (omega arith)

pub returns-then-kept-clause-others : goal.returns-then-kept-clause-others
returns-then-kept-clause-others c = others c.self.inside _ c.self.view_is c.self.invariant.0 _ _ _ c.requires.place c.slot-slot.ensures _ c.get_mut.ensures.value _ c.unwrap-kept.ensures _

pub returns-then-kept-clause-places : goal.returns-then-kept-clause-places
returns-then-kept-clause-places c = same_places _ _ (ap (λ (h : Blocks). h.places) c.self.view_is)

-- ---- where it does not wait

others_stay : (c : goal.After-remove-2) (q : ℕ) → q ≢ c.args.page → number c.remove.new.self.entries q ≡ number c.self.inside.places.entries q
others_stay c q other = c.remove.ensures.updates.2 q (ne_eqb c.number.result q (λ e. other (sym e ∙ c.number.ensures)))

place : (c : goal.After-remove-2) → number c.self.inside.places.entries c.args.page ≡ Some c.slot-slot.result
place c = has_number c.self.inside _ c.self.view_is c.self.invariant.0 _ _ _ c.requires.place c.slot-slot.ensures

there : (c : goal.After-remove-2) → slot c.self.inside.blocks.slots c.slot-slot.result ≡ Some c.unwrap-kept.result.now
there c = sym c.get_mut.ensures.value ∙ ap option_copied_mut c.unwrap-kept.ensures

none : (c : goal.After-remove-2) → number c.remove.new.self.entries c.args.page ≡ None
none c = ap (λ n. number c.remove.new.self.entries n) (sym c.number.ensures) ∙ c.remove.ensures.updates.1

changes : (c : goal.After-remove-2) → Changes c.self.inside.blocks.slots c.self.inside.places.entries c.remove-2.new.self.slots c.remove.new.self.entries c.args.page c.slot-slot.result
changes c = rw c.remove-2.ensures.slots (takes _ _ _ c.self.invariant.0 _ c.self.invariant.1 _ _ (place c) _ (there c) _ (others_stay c) (none c))

abbrev now : (c : goal.After-remove-2) → Inside
now c = record { settings = c.self.inside.settings; places = c.remove.new.self; blocks = c.remove-2.new.self; waiting = c.self.inside.waiting }

pub invariant_of-self-2 : goal.invariant_of-self-2
invariant_of-self-2 c = (kept_without _ _ _ _ _ _ (changes c) _ c.self.invariant.0 (none c), rw c.remove-2.ensures.slots (queued_removed _ _ _ c.self.invariant.0 _ c.self.invariant.1 _ _ (place c) _ (there c) _ (others_stay c) (none c) c.if-kept.false))

pub returns-clause-held : goal.returns-clause-held
returns-clause-held c = ap (λ (b : Block). b.held) (gone (now c) c.args.page (none c))

pub returns-clause-stamps : goal.returns-clause-stamps
returns-clause-stamps c = has_none (the_view (now c)) c.args.page (not_found c.remove-2.new.self.slots c.remove.new.self.entries c.args.page (none c))

pub returns-clause-latest : goal.returns-clause-latest
returns-clause-latest c = rw (gone (now c) c.args.page (none c)) (omega arith)

pub returns-clause-others : goal.returns-clause-others
returns-clause-others c = others_same c.self.inside (now c) _ c.self.view_is refl _ _ (changes c)

pub returns-clause-places : goal.returns-clause-places
unfolding KeepsPlaces
returns-clause-places c = λ q was held.
    let other : q ≢ c.args.page = λ same. false≢true (sym (ap (λ (b : Block). b.held) (gone (now c) q (ap (number c.remove.new.self.entries) same ∙ none c))) ∙ held) in
    (changes c).other_places q other ∙ ap (λ (h : Blocks). place_of h q) c.self.view_is
