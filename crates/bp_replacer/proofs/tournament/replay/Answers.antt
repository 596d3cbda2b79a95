use Rattle.std.proofs.Common.{◌≡◌, ◌∙◌, ◌+◌, ◌/◌, refl, sym, subst, length, inl, inr, arith}
use Rattle.bp_replacer.specs.Seats.{winner, seat_at}
use Rattle.bp_replacer.specs.Tree.{blocks, node}
use Rattle.bp_replacer.specs.Replay.{IsWonUpTo}
use Rattle.bp_replacer.proofs.TreeLaws.{block_some, block_within, node_changed, IsRenewed, renewed_beside, won_up, won_settled, won_at_root}
use Rattle.bp_replacer.proofs.tournament.replay.Goals as goal
use Rattle.bp_replacer.proofs.tournament.replay.Goals.{After-winner-first}

-- who comes first below the node above
known_above : (c : After-winner-first) → IsRenewed c.loop-at.nodes c.args.seats.now (c.loop-at.at / 2) c.winner-first.result
known_above c =
    let seats = c.args.seats.now in
    let v = c.loop-at.invariant in
    renewed_beside c.loop-at.nodes seats c.loop-at.at c.beside.result c.winner-first.result (omega (arith, c.beside.ensures))
    (elim c.winner-first.ensures.either [ inl a ↦ inl (a ∙ v.has) | inr b ↦ inr (b) ])
    (c.winner-first.ensures.first ∙ (λ i. winner (seat_at seats (v.has i)) (seat_at seats (node c.loop-at.nodes c.beside.result))))

pub bounds-nodes-at : goal.bounds-nodes-at
bounds-nodes-at c = omega (arith, c.requires.changed.leaves.size, block_within (length c.args.seats.now) c.args.seat c.requires.seat)

pub loop-at-init : goal.loop-at-init
loop-at-init c =
    let nodes = c.args.nodes.now in
    let seats = c.args.seats.now in
    let size = c.requires.changed.leaves.size in
    let half : blocks (length seats) ≡ length nodes / 2 = omega (arith, size) in
    record {
      positive = omega (arith, half, block_some (length seats));
      in_range = omega (arith, half, block_within (length seats) c.args.seat c.requires.seat);
      has = refl;
      changed = subst (λ n. IsWonUpTo nodes seats c.args.seat (n + c.args.seat / 16)) half c.requires.changed;
    }

pub loop-at-preserved : goal.loop-at-preserved
loop-at-preserved c =
    let v = c.loop-at.invariant in
    let renewed = known_above (goal.at.loop-at-preserved c).After-winner-first in
    record {
      positive = omega arith;
      in_range = omega arith;
      has = sym (node_changed c.loop-at.nodes (c.loop-at.at / 2) c.winner-first.result (omega (arith, v.changed.leaves.size)));
      changed = won_up c.loop-at.nodes c.args.seats.now c.args.seat c.loop-at.at c.requires.seat (omega arith) v.in_range v.changed c.winner-first.result renewed;
    }

pub returns : goal.returns
returns c = record { won = won_at_root c.loop-at.nodes c.args.seats.now c.args.seat c.loop-at.at (omega arith) c.loop-at.invariant.changed }

pub returns-then-nodes-at : goal.returns-then-nodes-at
returns-then-nodes-at c =
    let v = c.loop-at.invariant in
    let renewed = known_above (goal.at.returns-then-nodes-at c).After-winner-first in
    let same = c.if-nodes-at.true in
    record {
      won = won_settled c.loop-at.nodes c.args.seats.now c.args.seat c.loop-at.at c.requires.seat (omega arith) v.in_range v.changed c.winner-first.result renewed same c.if-first-seat.true;
    }
