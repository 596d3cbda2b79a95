-- Number after number.
use Rattle.std.proofs.Common.{◌∙◌, Bor, List, ℕ, [], Some, ap, sym}
use Rattle.std.proofs.lemmas.List.{append-nil, drop_all}
use Rattle.bp_trace.proofs.Listing.{and_then, and_then-none_yet, numbers_of, one_more_at}
use Rattle.bp_trace.proofs.number_lists.numbers_between.Goals as goal

abbrev no_part : Bor (List ℕ)
no_part = record { ref_ptr = (0, 0); now = [] }

pub loop-part-init : goal.loop-part-init
loop-part-init c =
    let parts = c.args.parts.now in
    sym (ap (λ (l : List ℕ). and_then l (numbers_of c.args.low c.args.high parts)) c.new-numbers.ensures.items ∙ and_then-none_yet (numbers_of c.args.low c.args.high parts))

pub loop-part-preserved : goal.loop-part-preserved
loop-part-preserved c =
    let at = c.loop-part in
    one_more_at c.args.low c.args.high c.in-Some.number at.part-index at.numbers.items c.push.new.self.items c.args.parts.now no_part c.loop-part-test.true
    (sym c.in-Some.ensures.number) c.in_ok-push.ensures.items at.invariant

pub returns : goal.returns
returns c =
    let at = c.loop-part in
    let parts = c.args.parts.now in
    sym (at.invariant
    ∙ ap (λ (l : List (Bor (List ℕ))). and_then at.numbers.items (numbers_of c.args.low c.args.high l)) (drop_all at.part-index parts c.loop-part-test.false)
    ∙ ap (λ (l : List ℕ). Some l) (append-nil at.numbers.items))
