-- Number after number.
use Rattle.std.proofs.Common.{ℕ, List, ◌++◌, ap, sym, arith}
use Rattle.bp_trace.specs.NumberLists.{doubled}
use Rattle.bp_trace.proofs.Ranges.{last_step, no_step, one_step}
use Rattle.bp_trace.proofs.number_lists.doubled.Goals as goal

pub loop-init : goal.loop-init
loop-init c = sym (ap (λ (l : List ℕ). l ++ doubled 64 c.args.first c.args.last) c.new-numbers.ensures.items)

pub returns-then-next-last : goal.returns-then-next-last
returns-then-next-last c =
    let at = c.loop in
    last_step at.counter at.next c.args.last (doubled 64 c.args.first c.args.last) at.numbers.items c.push.new.self.items (omega (arith, c.loop-test.true))
    (omega (arith, c.if-next-last.true)) c.in_ok-push.ensures.items at.invariant

pub loop-preserved : goal.loop-preserved
loop-preserved c =
    let at = c.loop in
    one_step at.counter at.next c.args.last (doubled 64 c.args.first c.args.last) at.numbers.items c.push-in-loop.new.self.items (omega (arith, c.loop-test.true))
    (omega (arith, c.if-next-last.false)) c.in_ok-push-2.ensures.items at.invariant

pub returns : goal.returns
returns c =
    let at = c.loop in
    no_step at.counter at.next c.args.last (doubled 64 c.args.first c.args.last) at.numbers.items (omega (arith, c.loop-test.false)) at.invariant
