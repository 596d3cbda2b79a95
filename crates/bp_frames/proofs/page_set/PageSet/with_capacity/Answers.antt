use Rattle.std.proofs.Common.{◌≡◌, ℕ, ◌+◌, ◌/◌, List, [], ◌∷◌, ◌++◌, replicate, sym, ap, ◌∙◌, subst}
use Rattle.bp_frames.proofs.PageRows.{AreBuilt, built-first, built-more}
use Rattle.bp_frames.proofs.page_set.PageSet.with_capacity.Goals as goal

pub loop-words-init : goal.loop-words-init
loop-words-init c =
    let rows_are : c.push.new.self.items ≡ replicate (c.args.limit / 64 + 1) 0 ∷ [] = c.in_ok-push.ensures.items ∙ (λ i. c.new-rows.ensures.items i ++ c.in_ok-new.ensures i ∷ []) in
    subst (λ (rows : List (List ℕ)). AreBuilt c.args.limit rows (c.args.limit / 64 + 1)) (sym rows_are) (built-first c.args.limit c.requires)

pub loop-words-preserved : goal.loop-words-preserved
loop-words-preserved c =
    let rows_are : c.push-in-loop-words.new.self.items ≡ c.loop-words.rows.items ++ replicate (c.loop-words.words / 64 + 1) 0 ∷ [] = c.in_ok-push-2.ensures.items ∙ ap (λ (row : List ℕ). c.loop-words.rows.items ++ row ∷ []) c.in_ok-new-2.ensures in
    subst (λ (rows : List (List ℕ)). AreBuilt c.args.limit rows (c.loop-words.words / 64 + 1)) (sym rows_are) (built-more c.args.limit c.loop-words.rows.items c.loop-words.words c.loop-words.invariant)
