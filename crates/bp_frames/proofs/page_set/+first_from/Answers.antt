use Rattle.std.proofs.Common.{◌≡◌, ℕ, ◌/◌, ◌*◌, ◌%◌, ◌≤◌, ◌<◌, List, [], true, false, sym, ap, ◌∙◌, subst}
use Rattle.std.specs.Prelude.{IfSome, IfNone}
use Rattle.std.proofs.lemmas.List.{get_or_default}
use Rattle.bp_frames.specs.PageSets.{NoneFrom, holds, holds_any, row_at}
use Rattle.bp_frames.proofs.PageRows.{none-from, found-from, some-from}
use Rattle.bp_frames.proofs.page_set.+first_from.Goals as goal

pub returns-in_err-word-clause-none : goal.returns-in_err-word-clause-none
returns-in_err-word-clause-none t c =
    let rows = c.args.rows.now in
    let row = c.index-rows-level.is ∙ get_or_default rows c.args.level c.index-rows-level.result [] c.if-level-rows.false in
    rw c.from_residual.ensures (none-from rows c.args.level c.requires.shaped c.requires.summed c.if-level-rows.false c.args.from (λ q le same. ap (λ (r : List ℕ). holds r q) (sym row) ∙ c.in_default.ensures.none q le same) c.in_err-word.ensures.none)

pub returns-clause-found : goal.returns-clause-found
returns-clause-found t c =
    let rows = c.args.rows.now in
    let row = c.index-rows-level.is ∙ get_or_default rows c.args.level c.index-rows-level.result [] c.if-level-rows.false in
    let start = c.in_ok-word.word * 64 in
    let o = c.first_in-2.result in
    found-from rows c.args.level c.requires.shaped c.requires.summed c.if-level-rows.false c.args.from (λ q le same. ap (λ (r : List ℕ). holds r q) (sym row) ∙ c.in_default.ensures.none q le same) c.in_ok-word.word c.in_ok-word.ensures.found o c.first_in-2.ensures.not_before c.first_in-2.ensures.same_word
    (subst (λ (r : List ℕ). IfSome o (λ q. holds r q ≡ true)) row c.first_in-2.ensures.here)
    (subst (λ (r : List ℕ). IfSome o (λ q. (n : ℕ) → start ≤ n → n < q → holds r n ≡ false)) row c.first_in-2.ensures.none_between)

pub returns-clause-none : goal.returns-clause-none
returns-clause-none t c =
    let rows = c.args.rows.now in
    let row = c.index-rows-level.is ∙ get_or_default rows c.args.level c.index-rows-level.result [] c.if-level-rows.false in
    let start = c.in_ok-word.word * 64 in
    let o = c.first_in-2.result in
    some-from rows c.args.level c.requires.shaped c.requires.summed c.if-level-rows.false c.args.from (λ q le same. ap (λ (r : List ℕ). holds r q) (sym row) ∙ c.in_default.ensures.none q le same) c.in_ok-word.word c.in_ok-word.ensures.found
    (NoneFrom (holds (row_at rows c.args.level)) c.args.from) o
    (subst (λ (r : List ℕ). IfNone o (start % 64 ≡ 0 → holds_any r (start / 64) ≡ false)) row c.first_in-2.ensures.empty)
