-- What histories show after one page's block is read, written, made or taken away.
use Rattle.std.proofs.Common.{◌≡◌, ◌≢◌, ℕ, zero, suc, ◌-◌, ◌<◌, ◌≤◌, ◌==◌, if◌then◌else◌, List, [], ◌∷◌, Option, Some, None, IsSome, unwrap_or, get_or, set, Bor, MutBor, refl, sym, ap, ◌∙◌, subst, inl, inr, arith}
use Rattle.std.proofs.lemmas.Bool.{cases_lt, lt-ltb, le-ltb}
use Rattle.std.specs.Option.{option_copied, option_copied_mut}
use Rattle.bp_replacer.specs.declared.histories.Block.{Block}
use Rattle.bp_replacer.specs.declared.histories.Histories.TheInside.{Inside}
use Rattle.bp_replacer.specs.contracts.histories.Histories.{the_view}
use Rattle.bp_references.specs.Burst.{Reference}
use Rattle.bp_references.specs.Burst.Reference.{hit, fault}
use Rattle.bp_references.specs.Stamp.{stamp, IsTimed}
use Rattle.bp_references.proofs.StampLaws.{no_stamps}
use Rattle.bp_references.specs.Shift.{IsShifted}
use Rattle.bp_replacer.specs.Histories.{Blocks, no_block, block_of, time_of, stamp_of, last_of, place_of, HasStampsOf, SameAt, SameStampsAt, KeepsPlaces}
use Rattle.bp_replacer.specs.Kept.{slot, IsSound, IsKept, IsQueued}
use Rattle.bp_replacer.proofs.HistoryLaws.{has_after_fault, has_after_late_hit, has_after_soon_hit, stamped, stamped_time, unstamped_time}
use Rattle.bp_replacer.proofs.PurgeLaws.{same_at}
use Rattle.bp_replacer.proofs.QueueLaws.{queued_written}
use Rattle.bp_replacer.proofs.KeptLaws.{number, Changes, others_stay, found, not_found, is_lent, is_there, was_sound, before, after, others_after, kept_after}

-- ---- a page's block changes

module _ (inside now : Inside) (value : Blocks) (view_is : the_view inside ≡ value) (k : now.settings.k ≡ inside.settings.k) (page at : ℕ) (changes : Changes inside.blocks.slots inside.places.entries now.blocks.slots now.places.entries page at) where
  pub others_same : (q : ℕ) → q ≢ page → SameAt value (the_view now) q
  others_same q other = subst (λ h. SameAt h (the_view now) q) view_is (same_at (the_view inside) (the_view now) k q (ap (λ o. unwrap_or o no_block) (others_stay inside.blocks.slots inside.places.entries now.blocks.slots now.places.entries page at changes q other)))

pub gone : (now : Inside) (page : ℕ) → number now.places.entries page ≡ None → block_of (the_view now) page ≡ no_block
gone now page none = ap (λ o. unwrap_or o no_block) (not_found now.blocks.slots now.places.entries page none)

pub came : (now : Inside) (page at : ℕ) (w : Block) → number now.places.entries page ≡ Some at → slot now.blocks.slots at ≡ Some w → block_of (the_view now) page ≡ w
came now page at w place there = ap (λ o. unwrap_or o no_block) (found now.blocks.slots now.places.entries page at w place there)

pub same_places : (a b : Blocks) → b.places ≡ a.places → KeepsPlaces a b
unfolding KeepsPlaces
same_places a b same page was held = ap (λ ps. number ps page) same

-- a block without a reference
pub record IsBlank (k : ℕ) (b : Block) : Type 0 where
  pub time : time_of b ≡ 0
  pub stamps : (n : ℕ) → n < k → get_or b.stamps n 0 ≡ 0

pub no_block_blank : (k : ℕ) → IsBlank k no_block
no_block_blank k = record { time = refl; stamps = λ n lt. refl }

pub sound_unstamped : (k : ℕ) (b : Block) → IsSound k b → get_or b.stamps 0 0 ≡ 0 → IsBlank k b
sound_unstamped k b sound none = record { time = unstamped_time b none; stamps = λ n lt. omega (arith, sound.bounded.below_newest n lt) }

pub sound_blank : (k : ℕ) (b : Block) → IsSound k b → b.last ≡ 0 → IsBlank k b
sound_blank k b sound none = sound_unstamped k b sound (omega (arith, sound.bounded.below_last))

pub blank_alike : (old new : Blocks) (page : ℕ) → new.k ≡ old.k → (block_of new page).last ≤ (block_of old page).last → IsBlank old.k (block_of old page) → IsBlank old.k (block_of new page) → SameStampsAt old new page
blank_alike old new page k less was is = record { last = is.time ∙ sym was.time; no_later = less; stamps = same }
  where
    same : (i : ℕ) → stamp_of new page i ≡ stamp_of old page i
    same zero = refl
    same (suc n) = rw k (elim (cases_lt n old.k) [
      | inl lt ↦ rw (lt-ltb n old.k lt) (is.stamps n lt ∙ sym (was.stamps n lt))
      | inr le ↦ rw (le-ltb n old.k le) refl
    ])

-- ---- a page's block is written

-- the histories with this block in a slot
abbrev pub with_block : Inside → ℕ → Block → Inside
with_block inside at w = record inside { blocks = record inside.blocks { slots = set inside.blocks.slots at (Some w) } }

module _ (inside : Inside) (value : Blocks) (view_is : the_view inside ≡ value) (kept : IsKept inside.settings.k inside.blocks.slots inside.places.entries) (page block at : ℕ) (place : place_of value page ≡ Some block) (at_is : at ≡ block) where
  pub has_number : number inside.places.entries page ≡ Some at
  has_number = subst (λ h. place_of h page ≡ Some at) (sym view_is) (place ∙ ap Some (sym at_is))

  pub lends : (o : Option (MutBor Block)) → option_copied_mut o ≡ slot inside.blocks.slots at → IsSome o
  lends = is_lent inside.settings.k inside.blocks.slots inside.places.entries kept page at has_number

  pub shows : (o : Option (Bor Block)) → option_copied o ≡ slot inside.blocks.slots at → IsSome o
  shows = is_there inside.settings.k inside.blocks.slots inside.places.entries kept page at has_number

  module _ (o : Option (Bor Block)) (value_is : option_copied o ≡ slot inside.blocks.slots at) (shown : Bor Block) (o_is : o ≡ Some shown) where
    pub shows_block : block_of value page ≡ shown.now
    shows_block = subst (λ h. block_of h page ≡ shown.now) view_is (before inside.settings.k inside.blocks.slots inside.places.entries kept page at has_number shown.now (sym value_is ∙ ap option_copied o_is))

  module _ (o : Option (MutBor Block)) (value_is : option_copied_mut o ≡ slot inside.blocks.slots at) (lent : MutBor Block) (o_is : o ≡ Some lent) where
    there : slot inside.blocks.slots at ≡ Some lent.now
    there = sym value_is ∙ ap option_copied_mut o_is

    was : block_of (the_view inside) page ≡ lent.now
    was = before inside.settings.k inside.blocks.slots inside.places.entries kept page at has_number lent.now there

    pub lends_block : block_of value page ≡ lent.now
    lends_block = subst (λ h. block_of h page ≡ lent.now) view_is was

    pub lends_sound : IsSound inside.settings.k lent.now
    lends_sound = was_sound inside.settings.k inside.blocks.slots inside.places.entries kept page at has_number lent.now there

    module _ (w : Block) where
      pub is : block_of (the_view (with_block inside at w)) page ≡ w
      is = after inside.settings.k inside.blocks.slots inside.places.entries kept page at has_number lent.now there w

      pub others : (q : ℕ) → q ≢ page → SameAt value (the_view (with_block inside at w)) q
      others q other = subst (λ h. SameAt h (the_view (with_block inside at w)) q) view_is (same_at (the_view inside) (the_view (with_block inside at w)) refl q (others_after inside.settings.k inside.blocks.slots inside.places.entries kept page at has_number lent.now there w q other))

      pub keeps : IsSound inside.settings.k w → IsKept inside.settings.k (set inside.blocks.slots at (Some w)) inside.places.entries
      keeps = kept_after inside.settings.k inside.blocks.slots inside.places.entries kept page at has_number lent.now there w

      pub keeps_queue : IsQueued inside.blocks.slots inside.places.entries inside.waiting → w.waits ≡ lent.now.waits → lent.now.last ≤ w.last → IsQueued (set inside.blocks.slots at (Some w)) inside.places.entries inside.waiting
      keeps_queue queued same later = queued_written inside.settings.k inside.blocks.slots inside.places.entries kept inside.waiting queued page at has_number lent.now w there same later

      -- the page's own stamps stay with the block's
      pub same_stamps : w.last ≡ lent.now.last → w.stamps ≡ lent.now.stamps → SameStampsAt value (the_view (with_block inside at w)) page
      same_stamps last stamps = subst (λ h. SameStampsAt h (the_view (with_block inside at w)) page) view_is record {
        last = ap time_of is ∙ (λ i. if get_or (stamps i) 0 0 == 0 then 0 else last i) ∙ sym (ap time_of was);
        no_later = omega (arith, last, ap (λ (b : Block). b.last) is, ap (λ (b : Block). b.last) was);
        stamps = at_place;
      }
        where
          at_place : (i : ℕ) → stamp_of (the_view (with_block inside at w)) page i ≡ stamp_of (the_view inside) page i
          at_place zero = refl
          at_place (suc n) = rw (is, was, stamps) refl

      pub no_later : w.last ≤ lent.now.last → (block_of (the_view (with_block inside at w)) page).last ≤ (block_of value page).last
      no_later less = omega (arith, less, ap (λ (b : Block). b.last) is, ap (λ (b : Block). b.last) lends_block)

      -- a block of absent stamps is one of no references
      pub no_stamps_left : ((n : ℕ) → get_or w.stamps n 0 ≡ 0) → HasStampsOf (the_view (with_block inside at w)) page []
      no_stamps_left absent = record { stamps = at_place; last = ap time_of is ∙ unstamped_time w (absent 0) }
        where
          at_place : (i : ℕ) → stamp_of (the_view (with_block inside at w)) page i ≡ stamp inside.settings.k inside.settings.correlated i []
          at_place zero = sym (no_stamps inside.settings.k inside.settings.correlated 0)
          at_place (suc n) = elim (cases_lt n inside.settings.k) [
            | inl lt ↦ rw (lt-ltb n inside.settings.k lt, is) (absent n) ∙ sym (no_stamps inside.settings.k inside.settings.correlated (suc n))
            | inr le ↦ rw (le-ltb n inside.settings.k le) refl ∙ sym (no_stamps inside.settings.k inside.settings.correlated (suc n))
          ]

      module _ (t : ℕ) (k_positive : 1 ≤ inside.settings.k) (positive : 1 ≤ t) (now : w.last ≡ t) (refs : List Reference) (timed : IsTimed refs) (has : HasStampsOf value page refs) where
        had : HasStampsOf (the_view inside) page refs
        had = subst (λ h. HasStampsOf h page refs) (sym view_is) has

        pub after_fault : IsShifted inside.settings.k 0 t lent.now.stamps w.stamps → HasStampsOf (the_view (with_block inside at w)) page (fault t ∷ refs)
        after_fault shifted = has_after_fault (the_view inside) (the_view (with_block inside at w)) refl refl k_positive page t lent.now w was is (stamped_time w t shifted.newest positive ∙ now) refs timed had shifted

        pub after_late_hit : 0 < last_of value page → inside.settings.correlated < t - lent.now.last → IsShifted inside.settings.k (lent.now.last - get_or lent.now.stamps 0 0) t lent.now.stamps w.stamps → HasStampsOf (the_view (with_block inside at w)) page (hit t ∷ refs)
        after_late_hit known late shifted = has_after_late_hit (the_view inside) (the_view (with_block inside at w)) refl refl k_positive page t lent.now w was is (stamped_time w t shifted.newest positive ∙ now) refs timed had (subst (λ (b : Block). 0 < time_of b) lends_block known) late shifted

        soon_time : 0 < last_of value page → w.stamps ≡ lent.now.stamps → time_of w ≡ w.last
        soon_time known same = stamped_time w (get_or lent.now.stamps 0 0) (ap (λ xs. get_or xs 0 0) same) (stamped lent.now (subst (λ (b : Block). 0 < time_of b) lends_block known))

        pub after_soon_hit : 0 < last_of value page → t - lent.now.last ≤ inside.settings.correlated → w.stamps ≡ lent.now.stamps → HasStampsOf (the_view (with_block inside at w)) page (hit t ∷ refs)
        after_soon_hit known soon same = has_after_soon_hit (the_view inside) (the_view (with_block inside at w)) refl refl k_positive page t lent.now w was is (soon_time known same ∙ now) refs timed had (subst (λ (b : Block). 0 < time_of b) lends_block known) soon same
