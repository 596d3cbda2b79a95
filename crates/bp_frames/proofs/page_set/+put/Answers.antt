use Rattle.std.proofs.Common.{◌≡◌, rules, sym, ℕ, ◌+◌, ◌/◌, ◌==◌, List, [], length, ap, ◌∙◌, arith}
use Rattle.std.specs.Prelude.{if◌then◌else◌}
use Rattle.std.proofs.lemmas.List.{get_or_default}
use Rattle.bp_frames.specs.PageSets.{holds, holds_any, row_at}
use Rattle.bp_frames.proofs.PageRows.{above-in_range, changed, row-here, row-other, row-lengths, rows-count, still-shaped, summed-above, summed-after, summed-ended}
use Rattle.bp_frames.proofs.page_set.+put.Goals as goal
use Rattle.bp_frames.proofs.page_set.+put.Goals.{else-has_any-had_any-via-then-has_any-had_any+else-level-rows, else-has_any-had_any-via-else-has_any-had_any}

pub returns-then-level-rows-clause-lengths : goal.returns-then-level-rows-clause-lengths
returns-then-level-rows-clause-lengths t c = λ k.
    let rows = c.args.rows.now in
    let row = get_or_default rows c.args.level c.index-rows-level.result [] c.requires.level in
    c.put-then-level-rows.ensures.lengths k
    ∙ row-lengths rows c.args.level c.args.at c.requires.shaped c.requires.summed c.requires.level c.put.new.self (c.put.ensures.length ∙ ap length row) (λ w other. c.put.ensures.others w other ∙ ap (λ (r : List ℕ). holds_any r w) row) k

pub returns-then-level-rows-clause-below : goal.returns-then-level-rows-clause-below
returns-then-level-rows-clause-below t c = λ k lt.
    let rows = c.args.rows.now in
    let row = get_or_default rows c.args.level c.index-rows-level.result [] c.requires.level in
    c.put-then-level-rows.ensures.below k (omega (arith, lt))
    ∙ row-other rows c.args.level c.args.at c.requires.shaped c.requires.summed c.requires.level c.put.new.self (c.put.ensures.length ∙ ap length row) (λ w other. c.put.ensures.others w other ∙ ap (λ (r : List ℕ). holds_any r w) row) k (λ e. absurd (omega (arith, e, lt)))

pub returns-then-level-rows-clause-put : goal.returns-then-level-rows-clause-put
returns-then-level-rows-clause-put t c = λ q.
    let rows = c.args.rows.now in
    let row = get_or_default rows c.args.level c.index-rows-level.result [] c.requires.level in
    ap (λ (r : List ℕ). holds r q) (c.put-then-level-rows.ensures.below c.args.level (omega arith))
    ∙ ap (λ (r : List ℕ). holds r q)
    (row-here rows c.args.level c.args.at c.requires.shaped c.requires.summed c.requires.level c.put.new.self (c.put.ensures.length ∙ ap length row) (λ w other. c.put.ensures.others w other ∙ ap (λ (r : List ℕ). holds_any r w) row))
    ∙ c.put.ensures.put q
    ∙ ap (λ (r : List ℕ). if q == c.args.at then c.args.is_in else holds r q) row

pub returns-then-level-rows-clause-summed : goal.returns-then-level-rows-clause-summed
returns-then-level-rows-clause-summed t c =
    let rows = c.args.rows.now in
    let after = c.put-then-level-rows in
    let row = get_or_default rows c.args.level c.index-rows-level.result [] c.requires.level in
    summed-after rows c.args.level c.args.at c.requires.shaped c.requires.summed c.requires.level c.put.new.self (c.put.ensures.length ∙ ap length row) (λ w other. c.put.ensures.others w other ∙ ap (λ (r : List ℕ). holds_any r w) row) after.new.rows after.ensures.count after.ensures.below
    (λ q. after.ensures.put q ∙ ap (λ b. if q == c.args.at / 64 then b else holds (row_at (changed rows c.args.level c.args.at c.requires.shaped c.requires.summed c.requires.level c.put.new.self (c.put.ensures.length ∙ ap length row) (λ w other. c.put.ensures.others w other ∙ ap (λ (r : List ℕ). holds_any r w) row)) (c.args.level + 1)) q) c.has_any-has_any.ensures)
    after.ensures.summed

-- ---- the row above

pub put-requires-then-level-rows : goal.put-requires-then-level-rows
put-requires-then-level-rows t c =
    let rows = c.args.rows.now in
    let row = get_or_default rows c.args.level c.index-rows-level.result [] c.requires.level in
    let shaped = still-shaped rows c.args.level c.args.at c.requires.shaped c.requires.summed c.requires.level c.put.new.self (c.put.ensures.length ∙ ap length row) (λ w other. c.put.ensures.others w other ∙ ap (λ (r : List ℕ). holds_any r w) row) in
    let summed = summed-above rows c.args.level c.args.at c.requires.shaped c.requires.summed c.requires.level c.put.new.self (c.put.ensures.length ∙ ap length row) (λ w other. c.put.ensures.others w other ∙ ap (λ (r : List ℕ). holds_any r w) row) in
    let within = above-in_range rows c.args.level c.args.at c.requires.shaped c.requires.summed c.requires.level c.put.new.self (c.put.ensures.length ∙ ap length row) (λ w other. c.put.ensures.others w other ∙ ap (λ (r : List ℕ). holds_any r w) row) (omega (arith, rows-count rows c.args.level c.args.at c.requires.shaped c.requires.summed c.requires.level c.put.new.self (c.put.ensures.length ∙ ap length row) (λ w other. c.put.ensures.others w other ∙ ap (λ (r : List ℕ). holds_any r w) row))) c.requires.at in
    (search rules, (search rules, (shaped, (summed, within))))

-- ---- no row above changes

pub returns-else-has_any-had_any-clause-put : goal.returns-else-has_any-had_any-clause-put
returns-else-has_any-had_any-clause-put t c = λ q.
    let rows = c.args.rows.now in
    let row = get_or_default rows c.args.level c.index-rows-level.result [] c.requires.level in
    ap (λ (r : List ℕ). holds r q)
    (row-here rows c.args.level c.args.at c.requires.shaped c.requires.summed c.requires.level c.put.new.self (c.put.ensures.length ∙ ap length row) (λ w other. c.put.ensures.others w other ∙ ap (λ (r : List ℕ). holds_any r w) row))
    ∙ c.put.ensures.put q
    ∙ ap (λ (r : List ℕ). if q == c.args.at then c.args.is_in else holds r q) row

pub returns-else-has_any-had_any-clause-summed : goal.returns-else-has_any-had_any-clause-summed
returns-else-has_any-had_any-clause-summed t c =
    let rows = c.args.rows.now in
    let row = get_or_default rows c.args.level c.index-rows-level.result [] c.requires.level in
    summed-ended rows c.args.level c.args.at c.requires.shaped c.requires.summed c.requires.level c.put.new.self (c.put.ensures.length ∙ ap length row) (λ w other. c.put.ensures.others w other ∙ ap (λ (r : List ℕ). holds_any r w) row) (λ more.
    let same : c.has_any-has_any.result ≡ c.has_any-had_any.result = elim c.else-has_any-had_any.branch [
      | else-has_any-had_any-via-then-has_any-had_any+else-level-rows w ↦ absurd (omega (arith, more, rows-count rows c.args.level c.args.at c.requires.shaped c.requires.summed c.requires.level c.put.new.self (c.put.ensures.length ∙ ap length row) (λ w other. c.put.ensures.others w other ∙ ap (λ (r : List ℕ). holds_any r w) row), w.if-level-rows.false))
      | else-has_any-had_any-via-else-has_any-had_any w ↦ search rules
    ] in
    sym c.has_any-has_any.ensures ∙ same ∙ c.has_any-had_any.ensures ∙ ap (λ (r : List ℕ). holds_any r (c.args.at / 64)) row)
