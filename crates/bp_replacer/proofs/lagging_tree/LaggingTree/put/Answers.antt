use Rattle.std.proofs.Common.{◌<◌, length, sym, subst}
use Rattle.bp_replacer.proofs.YoungLaws.{put_both, put_waits}
use Rattle.bp_replacer.proofs.lagging_tree.LaggingTree.put.Goals as goal

pub invariant_of-self-then-not-wait_from : goal.invariant_of-self-then-not-wait_from
invariant_of-self-then-not-wait_from c =
    let i = c.self.inside in
    let in_range = subst (λ seats. c.args.seat < length seats) (sym c.self.view_is) c.requires in
    rw (c.put-then-not-wait_from.ensures, c.wait_from.ensures.refused c.if-not-wait_from.true, c.put.ensures) (put_both i.tree i.young i.seats i.hands c.args.seat c.args.entry in_range c.self.invariant)

pub invariant_of-self-else-not-wait_from : goal.invariant_of-self-else-not-wait_from
invariant_of-self-else-not-wait_from c =
    let i = c.self.inside in
    let in_range = subst (λ seats. c.args.seat < length seats) (sym c.self.view_is) c.requires in
    let e = c.wait_from.ensures in
    rw c.put.ensures (put_waits i.tree i.young i.seats i.hands c.args.seat c.args.entry in_range c.self.invariant c.wait_from.new.self 0 e.later (e.waits c.if-not-wait_from.false))
