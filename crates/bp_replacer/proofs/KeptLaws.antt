-- Blocks in numbered slots: what a look-up finds, and what a change of one page's block leaves.
use Rattle.std.proofs.Common.{◌≡◌, ◌≢◌, ℕ, zero, suc, ◌+◌, ◌<◌, ◌≤◌, eqb, List, length, Option, Some, None, IsSome, IsSomeAnd, unwrap_or, get_or, set, Bor, MutBor, refl, sym, ap, ◌∙◌, subst, inl, inr, arith}
use Rattle.std.specs.Map.{lookup}
use Rattle.std.specs.Option.{is_some, option_map, option_copied, option_copied_mut}
use Rattle.std.proofs.lemmas.Bool.{cases_Bool, cases_eq}
use Rattle.std.proofs.lemmas.List.{get_or-set_same, get_or-set_other, get_or_past}
use Rattle.std.proofs.lemmas.Map.Made.{lookup-map_values}
use Rattle.std.proofs.lemmas.Option.{none-some}
use Rattle.std.specs.Prelude.{nat_eq}
use Rattle.bp_replacer.specs.declared.histories.Block.{Block}
use Rattle.bp_replacer.specs.Histories.{find_block, no_block}
use Rattle.bp_references.specs.Shift.{IsShifted, IsBounded}
use Rattle.bp_replacer.specs.Kept.{slot, blocks_in, IsSound, IsKept}

-- the number of a page's slot
abbrev pub number : List (ℕ × ℕ) → ℕ → Option ℕ
number places page = lookup (nat_eq page) places

-- ---- look-ups

abbrev block_in : List (Option Block) → ℕ → Block
block_in slots at = unwrap_or (slot slots at) no_block

pub find_in : (slots : List (Option Block)) (places : List (ℕ × ℕ)) (page : ℕ) → find_block (blocks_in slots places) page ≡ option_map (block_in slots) (number places page)
find_in slots places page = lookup-map_values (block_in slots) (nat_eq page) places

pub found : (slots : List (Option Block)) (places : List (ℕ × ℕ)) (page at : ℕ) (b : Block) → number places page ≡ Some at → slot slots at ≡ Some b → find_block (blocks_in slots places) page ≡ Some b
found slots places page at b place there = find_in slots places page ∙ ap (option_map (block_in slots)) place ∙ ap (λ o. Some (unwrap_or o no_block)) there

pub not_found : (slots : List (Option Block)) (places : List (ℕ × ℕ)) (page : ℕ) → number places page ≡ None → find_block (blocks_in slots places) page ≡ None
not_found slots places page none = find_in slots places page ∙ ap (option_map (block_in slots)) none

pub some_number : (slots : List (Option Block)) (places : List (ℕ × ℕ)) (page : ℕ) → is_some (number places page) ≡ is_some (find_block (blocks_in slots places) page)
some_number slots places page = go (number places page) refl
  where
    go : (o : Option ℕ) → number places page ≡ o → is_some o ≡ is_some (find_block (blocks_in slots places) page)
    go None none = ap is_some (sym (not_found slots places page none))
    go (Some at) place = ap is_some (sym (find_in slots places page ∙ ap (option_map (block_in slots)) place))

-- a slot with a block is there
pub within : (slots : List (Option Block)) (at : ℕ) (b : Block) → slot slots at ≡ Some b → at < length slots
within slots at b there = grind (arith, get_or_past)

-- ---- a change of one page's block

pub record Changes (slots : List (Option Block)) (places : List (ℕ × ℕ)) (slots' : List (Option Block)) (places' : List (ℕ × ℕ)) (page at : ℕ) : Type 0 where
  pub other_places : (q : ℕ) → q ≢ page → number places' q ≡ number places q
  pub other_slots : (n : ℕ) → n ≢ at → slot slots' n ≡ slot slots n
  pub not_shared : (q : ℕ) → q ≢ page → number places q ≢ Some at

same_number : (o : Option ℕ) (m n : ℕ) → o ≡ Some m → o ≡ Some n → m ≡ n
same_number o m n is was = cc

module _ (slots : List (Option Block)) (places : List (ℕ × ℕ)) (slots' : List (Option Block)) (places' : List (ℕ × ℕ)) (page at : ℕ) (changes : Changes slots places slots' places' page at) where
  -- what is found of another page stays
  pub others_stay : (q : ℕ) → q ≢ page → find_block (blocks_in slots' places') q ≡ find_block (blocks_in slots places) q
  others_stay q other = find_in slots' places' q ∙ ap (option_map (block_in slots')) (changes.other_places q other) ∙ go (number places q) refl ∙ sym (find_in slots places q)
    where
      go : (o : Option ℕ) → number places q ≡ o → option_map (block_in slots') o ≡ option_map (block_in slots) o
      go None none = refl
      go (Some n) is = ap (λ o. Some (unwrap_or o no_block)) (changes.other_slots n (λ same. changes.not_shared q other (is ∙ ap Some same)))

  module _ (k : ℕ) (kept : IsKept k slots places) where
    sound_other : (q n : ℕ) → q ≢ page → number places' q ≡ Some n → IsSomeAnd (slot slots' n) (IsSound k)
    sound_other q n other is =
        let was = sym (changes.other_places q other) ∙ is in
        subst (λ o. IsSomeAnd o (IsSound k)) (sym (changes.other_slots n (λ same. changes.not_shared q other (was ∙ ap Some same)))) (kept.sound q n was)

    -- the page has this block in that slot
    pub kept_with : (b : Block) → number places' page ≡ Some at → slot slots' at ≡ Some b → IsSound k b → IsKept k slots' places'
    kept_with b place there sound = record { sound = sound_at; apart = apart_at }
      where
        sound_at : (q n : ℕ) → number places' q ≡ Some n → IsSomeAnd (slot slots' n) (IsSound k)
        sound_at q n is = elim (cases_eq q page) [
          | inl same ↦
              let at_is : at ≡ n = same_number (number places' page) at n place (ap (number places') (sym same) ∙ is) in
              subst (λ o. IsSomeAnd o (IsSound k)) (sym (ap (slot slots') (sym at_is) ∙ there)) sound
          | inr other ↦ sound_other q n other is
        ]

        -- a page that has the changed number is the changed page
        mine : (q : ℕ) → number places' q ≡ Some at → q ≡ page
        mine q is = elim (cases_eq q page) [
          | inl same ↦ same
          | inr other ↦ absurd (changes.not_shared q other (sym (changes.other_places q other) ∙ is))
        ]

        apart_at : (p q n : ℕ) → number places' p ≡ Some n → number places' q ≡ Some n → p ≡ q
        apart_at p q n is also = elim (cases_eq p page) [
          | inl same ↦
              let at_is : n ≡ at = same_number (number places' page) n at (ap (number places') (sym same) ∙ is) place in
              same ∙ sym (mine q (also ∙ ap Some at_is))
          | inr other_p ↦ elim (cases_eq q page) [
            | inl same ↦
                let at_is : n ≡ at = same_number (number places' page) n at (ap (number places') (sym same) ∙ also) place in
                mine p (is ∙ ap Some at_is) ∙ sym same
            | inr other_q ↦ kept.apart p q n (sym (changes.other_places p other_p) ∙ is) (sym (changes.other_places q other_q) ∙ also)
          ]
        ]

    -- the page has no block
    pub kept_without : number places' page ≡ None → IsKept k slots' places'
    kept_without none = record { sound = sound_at; apart = apart_at }
      where
        other : (q n : ℕ) → number places' q ≡ Some n → q ≢ page
        other q n is same = none-some n (sym none ∙ ap (number places') (sym same) ∙ is)

        sound_at : (q n : ℕ) → number places' q ≡ Some n → IsSomeAnd (slot slots' n) (IsSound k)
        sound_at q n is = sound_other q n (other q n is) is

        apart_at : (p q n : ℕ) → number places' p ≡ Some n → number places' q ≡ Some n → p ≡ q
        apart_at p q n is also = kept.apart p q n (sym (changes.other_places p (other p n is)) ∙ is) (sym (changes.other_places q (other q n also)) ∙ also)

-- ---- a block is written over

-- the stamps after a shift
pub bounded_shift : (k width t last : ℕ) (old new : List ℕ) → IsShifted k width t old new → IsBounded k old last → get_or old 0 0 + width ≤ t → IsBounded k new t
bounded_shift k width t last old new shifted bounded fits = record { below_newest = below; below_last = omega (arith, shifted.newest) }
  where
    below : (n : ℕ) → n < k → get_or new n 0 ≤ get_or new 0 0
    below zero lt = omega arith
    below (suc n) lt = elim (cases_Bool (eqb (get_or old n 0) 0)) [
      | inl absent ↦ omega (arith, rw absent at (shifted.others n lt))
      | inr present ↦ omega (arith, rw present at (shifted.others n lt), shifted.newest, bounded.below_newest n (omega arith))
    ]

pub bounded_later : (k : ℕ) (stamps : List ℕ) (last t : ℕ) → IsBounded k stamps last → last ≤ t → IsBounded k stamps t
bounded_later k stamps last t bounded later = record { below_newest = bounded.below_newest; below_last = omega (arith, bounded.below_last) }

-- no other page has a page's number
pub unshared : (k : ℕ) (slots : List (Option Block)) (places : List (ℕ × ℕ)) → IsKept k slots places → (page at : ℕ) → number places page ≡ Some at → (q : ℕ) → q ≢ page → number places q ≢ Some at
unshared k slots places kept page at place q other is = other (kept.apart q page at is place)

module _ (k : ℕ) (slots : List (Option Block)) (places : List (ℕ × ℕ)) (kept : IsKept k slots places) (page at : ℕ) (place : number places page ≡ Some at) where
  -- the slot isn't empty
  pub is_lent : (o : Option (MutBor Block)) → option_copied_mut o ≡ slot slots at → IsSome o
  is_lent None same = absurd (subst (λ x. IsSomeAnd x (IsSound k)) (sym same) (kept.sound page at place))
  is_lent (Some lent) same = refl

  pub is_there : (o : Option (Bor Block)) → option_copied o ≡ slot slots at → IsSome o
  is_there None same = absurd (subst (λ x. IsSomeAnd x (IsSound k)) (sym same) (kept.sound page at place))
  is_there (Some lent) same = refl

  module _ (b : Block) (there : slot slots at ≡ Some b) where
    pub was_sound : IsSound k b
    was_sound = subst (λ o. IsSomeAnd o (IsSound k)) there (kept.sound page at place)

    pub before : unwrap_or (find_block (blocks_in slots places) page) no_block ≡ b
    before = ap (λ o. unwrap_or o no_block) (found slots places page at b place there)

    module _ (w : Block) where
      changed : Changes slots places (set slots at (Some w)) places page at
      changed = record {
        other_places = λ q other. refl;
        other_slots = λ n other. get_or-set_other slots at n (Some w) None other;
        not_shared = unshared k slots places kept page at place;
      }

      written : slot (set slots at (Some w)) at ≡ Some w
      written = get_or-set_same slots at (Some w) None (within slots at b there)

      pub after : unwrap_or (find_block (blocks_in (set slots at (Some w)) places) page) no_block ≡ w
      after = ap (λ o. unwrap_or o no_block) (found (set slots at (Some w)) places page at w place written)

      pub others_after : (q : ℕ) → q ≢ page → unwrap_or (find_block (blocks_in (set slots at (Some w)) places) q) no_block ≡ unwrap_or (find_block (blocks_in slots places) q) no_block
      others_after q other = ap (λ o. unwrap_or o no_block) (others_stay slots places (set slots at (Some w)) places page at changed q other)

      pub kept_after : IsSound k w → IsKept k (set slots at (Some w)) places
      kept_after sound = kept_with slots places (set slots at (Some w)) places page at changed k kept w place written sound
