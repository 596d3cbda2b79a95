use Rattle.std.proofs.Common.{◌≡◌, ◌≢◌, ℕ, zero, suc, ◌≤◌, false, true, Some, None, IsSomeAnd, length, count_by, inl, inr, get_or, replicate, refl, sym, ap, ◌∙◌, subst, arith}
use Rattle.std.proofs.lemmas.Bool.{cases_eq, false≢true, ne_eqb}
use Rattle.slab.specs.Slab.{Slab}
use Rattle.bp_replacer.specs.declared.histories.Block.{Block}
use Rattle.bp_replacer.specs.declared.histories.Histories.TheInside.{Inside}
use Rattle.bp_replacer.specs.contracts.histories.Histories.{the_view}
use Rattle.bp_replacer.specs.Histories.{Blocks, KeepsPlaces, is_held, block_of, no_block, place_of}
use Rattle.bp_replacer.specs.Queue.{IsWaiting}
use Rattle.bp_replacer.specs.Kept.{slot, waits_in, IsSound, IsKept, IsQueued}
use Rattle.bp_replacer.proofs.QueueLaws.{count_alike, queued_after, queued_roomier}
use Rattle.bp_replacer.proofs.KeptLaws.{number, Changes, kept_with}
use Rattle.bp_replacer.proofs.BlockSteps.{same_places, lends, lends_sound, is, others, keeps, keeps_queue, same_stamps, others_same, gone, came, IsBlank, no_block_blank, blank_alike}
use Rattle.bp_replacer.proofs.histories.Histories.prepare_block.Goals as goal

pub unwrap-requires : goal.unwrap-requires
unwrap-requires c = lends c.self.inside _ c.self.view_is c.self.invariant.0 _ _ _ (sym c.place.ensures.place ∙ c.in-Some.is) c.slot.ensures _ c.get_mut.ensures.value

pub invariant_of-self : goal.invariant_of-self
invariant_of-self c =
    let sound = lends_sound c.self.inside _ c.self.view_is c.self.invariant.0 _ _ _ (sym c.place.ensures.place ∙ c.in-Some.is) c.slot.ensures _ c.get_mut.ensures.value _ c.unwrap.ensures in
    (keeps c.self.inside _ c.self.view_is c.self.invariant.0 _ _ _ (sym c.place.ensures.place ∙ c.in-Some.is) c.slot.ensures _ c.get_mut.ensures.value _ c.unwrap.ensures _ record { bounded = sound.bounded; free_waits = λ free. absurd (false≢true (sym free)); waits_known = sound.waits_known }, keeps_queue c.self.inside _ c.self.view_is c.self.invariant.0 _ _ _ (sym c.place.ensures.place ∙ c.in-Some.is) c.slot.ensures _ c.get_mut.ensures.value _ c.unwrap.ensures _ c.self.invariant.1 refl (omega arith))

pub returns-in-Some-clause-held : goal.returns-in-Some-clause-held
returns-in-Some-clause-held c = ap (λ (b : Block). b.held) (is c.self.inside _ c.self.view_is c.self.invariant.0 _ _ _ (sym c.place.ensures.place ∙ c.in-Some.is) c.slot.ensures _ c.get_mut.ensures.value _ c.unwrap.ensures _)

pub returns-in-Some-clause-stamps : goal.returns-in-Some-clause-stamps
returns-in-Some-clause-stamps c = same_stamps c.self.inside _ c.self.view_is c.self.invariant.0 _ _ _ (sym c.place.ensures.place ∙ c.in-Some.is) c.slot.ensures _ c.get_mut.ensures.value _ c.unwrap.ensures _ refl refl

pub returns-in-Some-clause-others : goal.returns-in-Some-clause-others
returns-in-Some-clause-others c = others c.self.inside _ c.self.view_is c.self.invariant.0 _ _ _ (sym c.place.ensures.place ∙ c.in-Some.is) c.slot.ensures _ c.get_mut.ensures.value _ c.unwrap.ensures _

-- ---- a new block

vacant : (c : goal.After-insert_reserved) → slot c.self.inside.blocks.slots c.insert_reserved.result ≡ None
vacant c = sym (ap (λ (s : Slab Block). slot s.slots c.insert_reserved.result) c.reserve.ensures.rest_kept) ∙ c.insert_reserved.ensures.was_vacant

changes : (c : goal.After-insert_reserved) → Changes c.self.inside.blocks.slots c.self.inside.places.entries c.insert_reserved.new.self.slots c.insert.new.self.entries c.args.page c.insert_reserved.result
changes c = record {
  other_places = λ q other. c.in-Ok.ensures.updates.2 q (ne_eqb c.number.result q (λ e. other (sym e ∙ c.number.ensures)));
  other_slots = λ n other. c.insert_reserved.ensures.updates.others n other ∙ ap (λ (s : Slab Block). slot s.slots n) c.reserve.ensures.rest_kept;
  not_shared = λ q other is. subst (λ o. IsSomeAnd o (IsSound c.self.inside.settings.k)) (vacant c) (c.self.invariant.0.sound q c.insert_reserved.result is);
}

abbrev now : (c : goal.After-insert_reserved) → Inside
now c = record { settings = c.self.inside.settings; places = c.insert.new.self; blocks = c.insert_reserved.new.self; waiting = c.reserve-2.new.self }

there : (c : goal.After-insert_reserved) → number c.insert.new.self.entries c.args.page ≡ Some c.insert_reserved.result
there c =
    let key : c.insert_reserved.result ≡ c.vacant_key-slot.result = c.insert_reserved.ensures.key ∙ ap (λ (s : Slab Block). s.vacant_key) c.reserve.ensures.rest_kept ∙ sym c.vacant_key-slot.ensures.value in
    ap (λ n. number c.insert.new.self.entries n) (sym c.number.ensures) ∙ c.in-Ok.ensures.updates.1 ∙ ap Some (sym key)

blank : (k : ℕ) → IsBlank k record { held = true; waits = false; last = 0; stamps = replicate 16 0 }
blank k = record { time = refl; stamps = λ n lt. at n 16 }
  where
    at : (n count : ℕ) → ◌≡◌ {A = ℕ} (get_or (replicate count 0) n 0) 0
    at n zero = refl
    at zero (suc count) = refl
    at (suc n) (suc count) = at n count

is_blank : (c : goal.After-insert_reserved) → IsBlank c.self.inside.settings.k (block_of (the_view (now c)) c.args.page)
is_blank c = rw (came (now c) c.args.page c.insert_reserved.result _ (there c) c.insert_reserved.ensures.updates.changed) (blank c.self.inside.settings.k)

-- it doesn't wait yet
marks : (c : goal.After-insert_reserved) (n : ℕ) → waits_in (slot c.insert_reserved.new.self.slots n) ≡ waits_in (slot c.self.inside.blocks.slots n)
marks c n = elim (cases_eq n c.insert_reserved.result) [
  | inl here ↦ rw (here, c.insert_reserved.ensures.updates.changed, vacant c) refl
  | inr other ↦ ap waits_in ((changes c).other_slots n other)
]

queued : (c : goal.After-insert_reserved) → IsQueued c.insert_reserved.new.self.slots c.insert.new.self.entries c.reserve-2.new.self
queued c =
    let same : c.reserve-2.new.self.pages ≡ c.self.inside.waiting.pages = c.reserve-2.ensures.pages in
    let few : length c.reserve-2.new.self.pages ≤ count_by waits_in c.insert_reserved.new.self.slots = rw (same, count_alike waits_in refl c.self.inside.blocks.slots c.insert_reserved.new.self.slots (marks c)) c.self.invariant.1.few in
    queued_after _ _ _ _ _ _ (changes c) _ c.reserve-2.new.self c.self.invariant.1
    (λ q by other waits. subst (λ pages. IsWaiting pages q by) (sym same) waits)
    (λ n d is found waits.
    let at_is : Some c.insert_reserved.result ≡ Some n = sym (there c) ∙ is in
    let at : c.insert_reserved.result ≡ n = cc in
    let both : Some record { held = true; waits = false; last = 0; stamps = replicate 16 0 } ≡ Some d = sym c.insert_reserved.ensures.updates.changed ∙ ap (slot c.insert_reserved.new.self.slots) at ∙ found in
    absurd (false≢true (ap (λ o. waits_in o) both ∙ waits)))
    few (omega (arith, c.in_ok-reserve.ensures.room, c.in_ok-reserve-2.ensures.room, c.insert_reserved.ensures.len))

pub invariant_of-self-2 : goal.invariant_of-self-2
invariant_of-self-2 c = (
  kept_with _ _ _ _ _ _ (changes c) _ c.self.invariant.0 _ (there c) c.insert_reserved.ensures.updates.changed record {
    bounded = record { below_newest = λ n lt. omega (arith, (blank c.self.inside.settings.k).stamps n lt); below_last = omega (arith, (blank c.self.inside.settings.k).stamps 0) };
    free_waits = λ free. absurd (false≢true (sym free));
    waits_known = λ waits. absurd (false≢true waits);
  },
  queued c,
)

pub returns-clause-held : goal.returns-clause-held
returns-clause-held c = ap (λ (b : Block). b.held) (came (now c) c.args.page c.insert_reserved.result _ (there c) c.insert_reserved.ensures.updates.changed)

pub returns-clause-stamps : goal.returns-clause-stamps
returns-clause-stamps c =
    let before : number c.self.inside.places.entries c.args.page ≡ None = subst (λ (h : Blocks). place_of h c.args.page ≡ None) (sym c.self.view_is) (sym c.place.ensures.place ∙ c.in_default.is) in
    let was : block_of c.args.self.now c.args.page ≡ no_block = subst (λ (h : Blocks). block_of h c.args.page ≡ no_block) c.self.view_is (gone c.self.inside c.args.page before) in
    let k = ap (λ (h : Blocks). h.k) c.self.view_is in
    let new : block_of (the_view (now c)) c.args.page ≡ record { held = true; waits = false; last = 0; stamps = replicate 16 0 } = came (now c) c.args.page c.insert_reserved.result _ (there c) c.insert_reserved.ensures.updates.changed in
    blank_alike c.args.self.now (the_view (now c)) c.args.page k (rw new (omega arith)) (rw was (no_block_blank _)) (rw (← k) (is_blank c))

pub returns-clause-others : goal.returns-clause-others
returns-clause-others c = others_same c.self.inside (now c) _ c.self.view_is refl _ _ (changes c)

pub returns-in-Some-clause-places : goal.returns-in-Some-clause-places
returns-in-Some-clause-places c = same_places _ _ (ap (λ (h : Blocks). h.places) c.self.view_is)

pub returns-clause-places : goal.returns-clause-places
unfolding KeepsPlaces
returns-clause-places c = λ q was held.
    let other : q ≢ c.args.page = λ same. false≢true (sym c.requires ∙ ap (λ p. is_held c.args.self.now p) (sym same) ∙ was) in
    (changes c).other_places q other ∙ ap (λ (h : Blocks). place_of h q) c.self.view_is

-- ---- where there is no memory

pub returns-then-slot-clause-places : goal.returns-then-slot-clause-places
returns-then-slot-clause-places c = same_places _ _ refl

pub returns-in_err-reserve-clause-places : goal.returns-in_err-reserve-clause-places
returns-in_err-reserve-clause-places c = same_places _ _ (ap (λ (h : Blocks). h.places) c.self.view_is)

pub returns-in_err-reserve-2-clause-places : goal.returns-in_err-reserve-2-clause-places
returns-in_err-reserve-2-clause-places c = same_places _ _ (ap (λ (h : Blocks). h.places) c.self.view_is)

pub returns-in_default-insert-clause-places : goal.returns-in_default-insert-clause-places
returns-in_default-insert-clause-places c = same_places _ _ (c.in_default-insert.ensures.err ∙ ap (λ (h : Blocks). h.places) c.self.view_is)

pub invariant_of-self-in_err-reserve : goal.invariant_of-self-in_err-reserve
invariant_of-self-in_err-reserve c =
    let i = c.self.inside in
    subst (λ slots. IsKept i.settings.k slots i.places.entries × IsQueued slots i.places.entries i.waiting)
    (sym (ap (λ (s : Slab Block). s.slots) c.reserve.ensures.rest_kept)) c.self.invariant

pub invariant_of-self-in_err-reserve-2 : goal.invariant_of-self-in_err-reserve-2
invariant_of-self-in_err-reserve-2 c =
    let i = c.self.inside in
    subst (λ slots. IsKept i.settings.k slots i.places.entries × IsQueued slots i.places.entries c.reserve-2.new.self)
    (sym (ap (λ (s : Slab Block). s.slots) c.reserve.ensures.rest_kept))
    (c.self.invariant.0, queued_roomier i.blocks.slots i.places.entries i.waiting c.reserve-2.new.self c.self.invariant.1 c.reserve-2.ensures.pages c.reserve-2.ensures.grows)

pub invariant_of-self-in_default-insert : goal.invariant_of-self-in_default-insert
invariant_of-self-in_default-insert c =
    let i = c.self.inside in
    subst (λ places. IsKept i.settings.k c.reserve.new.self.slots places × IsQueued c.reserve.new.self.slots places c.reserve-2.new.self)
    (sym c.in_default-insert.ensures.err)
    (subst (λ slots. IsKept i.settings.k slots i.places.entries × IsQueued slots i.places.entries c.reserve-2.new.self)
    (sym (ap (λ (s : Slab Block). s.slots) c.reserve.ensures.rest_kept))
    (c.self.invariant.0, queued_roomier i.blocks.slots i.places.entries i.waiting c.reserve-2.new.self c.self.invariant.1 c.reserve-2.ensures.pages c.reserve-2.ensures.grows))
