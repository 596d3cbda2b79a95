-- The ghost steps of a board: it is made, it gets a line, and one of its lines is written. Assumes `Logic`.
use Rattle.std.proofs.Common.{◌≡◌, ℕ, zero, suc, ◌+◌, ◌<◌, List, [], ◌∷◌, ◌++◌, length, get_or, set, refl, sym, arith}
use mathlib.Core.Option.{some, some-injective, some-ne-none}
use lib.ListN.{get_elem?}
use seplogic.Ra.Ura.{Ura}
use base.Fraction.{full_share}
use base.Share.{quarter, three_quarters}
use base.Stored.{Gv}
use base.Logic.{SProp, ent, sep, ex, all, guard, upd, emp, via, all_e, upd_i}
use base.Fml.{Fml}
use types.Logic.{Logic, sem}
use types.Keyed.{entries_new, entries_take}
use types.Owned.{basic}
use types.Kit.{‵, raw, ◌⊛◌, given, later, ◌$◌, ◌∵◌, !, qed, move, split, join, fpick, fpack, pick, learn, check, show, suffices, settle, done, use0, use1, use2, rewrite, updating, await, now}
use types.Kit as Kit
use Rattle.bp_trail.specs.Trail.{Trail}
use Rattle.atomic_table.specs.Seated.{halved, seen, unused, roster}
use Rattle.atomic_table.proofs.Roster.{resets, Moved, moves}
use Rattle.bp_session_log.specs.Owned.{trail_coded, board_owns, line_owns}

-- what stands at a place of a list, in two ways of looking it up
pub found_within : {A : Type 0} (xs : List A) (n : ℕ) (x : A) → get_elem? xs n ≡ some x → n < length xs
found_within [] n x at = absurd (some-ne-none x (sym at))
found_within (y ∷ ys) zero x at = omega arith
found_within (y ∷ ys) (suc n) x at = let below = found_within ys n x at in omega arith

pub found_is : {A : Type 0} (xs : List A) (n : ℕ) (x d : A) → get_elem? xs n ≡ some x → get_or xs n d ≡ x
found_is [] n x d at = absurd (some-ne-none x (sym at))
found_is (y ∷ ys) zero x d at = some-injective y x at
found_is (y ∷ ys) (suc n) x d at = found_is ys n x d at

module _ {M : Type 1} {𝓤 : Ura M} (𝓛 : Logic 𝓤) where
  open 𝓛 use {H}

  abbrev Pr : Type 2
  Pr = SProp 𝓤

  abbrev ◌⊢◌ : Pr → Pr → Type 1
  P ⊢ Q = ent 𝓤 P Q

  abbrev ◌∗◌ : Pr → Pr → Pr
  P ∗ Q = sep 𝓤 P Q

  abbrev ⟦◌⟧ : Fml → Pr
  ⟦ P ⟧ = sem 𝓛 P

  infix 26 ◌⊢◌
  infixr 35 ◌∗◌
  abbrev c : Trail → Gv
  c = trail_coded.code

  pub begins : emp 𝓤 ⊢ H.⇛ (ex 𝓤 (λ (γ : ℕ). ⟦ board_owns γ [] ⟧))
  unfolding board_owns
  begins = qed 𝓛 [] ∵ updating ! $
      use0 𝓛 (later (Kit.some (λ (γ : ℕ). ‵ (unused c γ 0 [])))) (via 𝓤 _ (entries_new halved 𝓛 0 (λ _. (full_share, c []))) (basic 𝓛 (ex 𝓤 (λ (γ : ℕ). ⟦ unused c γ 0 [] ⟧)))) $
      await ! tt $ pick ! (λ γ. now ! $ show ! (λ (δ : ℕ). ⟦ roster c δ 0 [] ⟧) γ $ fpack ! Trail (unused c γ 0) [] $ done !)

  module _ (γ : ℕ) where
    abbrev L : ℕ → Trail → Fml
    L k v = seen c γ k quarter v

    abbrev R : ℕ → Trail → Fml
    R k v = seen c γ k three_quarters v

    abbrev At : ℕ → List Trail → Trail → ℕ → Pr
    At k vs u j = ⟦ roster c γ k (vs ++ u ∷ []) ⟧ ∗ ⟦ R j u ⟧

    -- the next key is taken
    joins_at : (vs : List Trail) (k j : ℕ) (u : Trail) → j ≡ k + length vs → ⟦ roster c γ k vs ⟧ ⊢ upd 𝓤 (At k vs u j)
    joins_at [] k j u e = let is : k ≡ j = omega arith in let Z : Pr = At k [] u j in
        qed 𝓛 (‵ (roster c γ k []) ∷ []) ∵ fpick ! (λ d. use1 𝓛 (‵ (seen c γ k full_share d) ⊛ ‵ (unused c γ (suc k) d)) (entries_take halved 𝓛 γ k (λ _. (full_share, c d))) $ split ! $
        use1 𝓛 (raw (upd 𝓤 (⟦ L k u ⟧ ∗ ⟦ R k u ⟧))) (resets 𝓛 trail_coded γ k d u) $ settle 𝓛 Z (‵ (L k u) ⊛ ‵ (R k u)) $ split ! $ suffices ! _ (upd_i 𝓤 Z) $
        rewrite ! 1 (λ (m : ℕ). ‵ (R m u)) is refl $ move ! (2 ∷ []) $ fpack ! Trail (unused c γ (suc k)) d $ move ! (1 ∷ 0 ∷ []) $ Kit.join ! $ done !)
    joins_at (w ∷ ws) k j u e = let Z : Pr = At k (w ∷ ws) u j in
        qed 𝓛 (‵ (L k w) ∷ ‵ (roster c γ (suc k) ws) ∷ []) ∵ move ! (1 ∷ []) $ use1 𝓛 (raw (upd 𝓤 (At (suc k) ws u j))) (joins_at ws (suc k) j u (omega arith)) $
        settle 𝓛 Z (‵ (roster c γ (suc k) (ws ++ u ∷ [])) ⊛ ‵ (R j u)) $ split ! $ suffices ! _ (upd_i 𝓤 Z) $ move ! (2 ∷ 0 ∷ []) $ Kit.join ! $ done !

    pub opens_line : (lists : List Trail) → ⟦ board_owns γ lists ⟧ ⊢ H.⇛ (⟦ board_owns γ (lists ++ [] ∷ []) ⟧ ∗ ⟦ line_owns γ (length lists) [] ⟧)
    unfolding board_owns line_owns
    opens_line lists = via 𝓤 _ (joins_at lists 0 (length lists) [] (omega arith)) (basic 𝓛 (At 0 lists [] (length lists)))

    pub writes : (lists : List Trail) (n : ℕ) (had list : Trail)
        → ⟦ board_owns γ lists ⟧ ∗ ⟦ line_owns γ n had ⟧ ⊢ H.⇛ (guard 𝓤 (get_elem? lists n ≡ some had) (⟦ board_owns γ (set lists n list) ⟧ ∗ ⟦ line_owns γ n list ⟧))
    unfolding board_owns line_owns
    writes lists n had list = let After : Pr = ⟦ roster c γ 0 (set lists n list) ⟧ ∗ ⟦ R n list ⟧ in
        qed 𝓛 (‵ (roster c γ 0 lists) ∷ ‵ (R n had) ∷ []) ∵ updating ! $
        use2 𝓛 (given (get_elem? lists n ≡ some had) (raw (all 𝓤 (Moved 𝓛 trail_coded γ 0 lists n n)))) (moves 𝓛 trail_coded γ lists 0 n n had (omega arith)) $ learn ! (λ at.
        use1 𝓛 (raw (upd 𝓤 After)) (all_e 𝓤 (Moved 𝓛 trail_coded γ 0 lists n n) list) $
        use1 𝓛 (later (‵ (roster c γ 0 (set lists n list)) ⊛ ‵ (R n list))) (basic 𝓛 After) $ await ! tt $ now ! $ check ! at $ done !)
