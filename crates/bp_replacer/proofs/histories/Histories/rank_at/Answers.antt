use Rattle.std.proofs.Common.{◌≡◌, ◌⊎◌, ℕ, zero, suc, ◌-◌, ◌<◌, ◌≤◌, get_or, refl, sym, ap, ◌∙◌, inl, inr, arith}
use Rattle.std.proofs.lemmas.Bool.{lt-ltb, le-ltb}
use Rattle.bp_replacer.specs.declared.histories.Block.{Block}
use Rattle.bp_replacer.specs.Histories.{Blocks, block_of, time_of, stamp_of}
use Rattle.bp_replacer.proofs.BlockSteps.{shows, shows_block}
use Rattle.bp_replacer.proofs.histories.Histories.rank_at.Goals.{then-i-ge1+then-i-self, else-i-ge1, else-i-ge1-via-then-i-ge1+else-i-self, else-i-ge1-via-else-i-ge1}
use Rattle.bp_replacer.proofs.histories.Histories.rank_at.Goals as goal

told : (h : Blocks) (page i : ℕ) (b : Block) → block_of h page ≡ b → 1 ≤ i → i ≤ h.k → get_or b.stamps (i - 1) 0 ≡ stamp_of h page i
told h page zero b is positive within = absurd (omega arith)
told h page (suc n) b is positive within = let same : suc n - 1 ≡ n = omega arith in rw (same, lt-ltb n h.k (omega arith), is) refl

untold : (h : Blocks) (page i : ℕ) → (i < 1) ⊎ (h.k < i) → 0 ≡ stamp_of h page i
untold h page zero out = refl
untold h page (suc n) (inl under) = absurd (omega arith)
untold h page (suc n) (inr past) = rw (le-ltb n h.k (omega arith)) refl

pub unwrap-kept-requires : goal.unwrap-kept-requires
unwrap-kept-requires c = shows c.self.inside _ c.self.view_is c.self.invariant.0 _ _ _ c.requires.place c.slot.ensures _ c.get.ensures

pub returns-clause-stamp : goal.returns-clause-stamp
returns-clause-stamp c =
    let was = shows_block c.self.inside _ c.self.view_is c.self.invariant.0 _ _ _ c.requires.place c.slot.ensures _ c.get.ensures _ c.unwrap-kept.ensures in
    let k = ap (λ (h : Blocks). h.k) c.self.view_is in
    elim c.if-i-ge1.branch [
      | then-i-ge1+then-i-self w ↦ w.stamp-is ∙ told c.args.self.now c.args.page c.args.i c.unwrap-kept.result.now was (omega arith) (omega arith)
      | else-i-ge1 w ↦ w.stamp-is ∙ elim w.else-i-ge1.branch [
        | else-i-ge1-via-then-i-ge1+else-i-self v ↦ untold c.args.self.now c.args.page c.args.i (inr (omega arith))
        | else-i-ge1-via-else-i-ge1 v ↦ untold c.args.self.now c.args.page c.args.i (inl (omega arith))
      ]
    ]

pub returns-clause-last : goal.returns-clause-last
returns-clause-last c =
    let was = shows_block c.self.inside _ c.self.view_is c.self.invariant.0 _ _ _ c.requires.place c.slot.ensures _ c.get.ensures _ c.unwrap-kept.ensures in
    c.time.ensures ∙ sym (ap time_of was)
