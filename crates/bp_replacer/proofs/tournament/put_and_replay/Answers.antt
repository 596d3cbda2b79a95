use Rattle.std.proofs.Common.{◌≡◌, ◌≢◌, ◌∙◌, ℕ, ◌+◌, ◌/◌, ◌<◌, ap, sym, subst, set, length, None, arith}
use Rattle.std.proofs.lemmas.List.{get_or-set_other, length-set}
use Rattle.bp_replacer.specs.Seats.{seat_at}
use Rattle.bp_replacer.specs.Tree.{blocks, node, leaf_of, IsFirstBut}
use Rattle.bp_replacer.specs.Replay.{IsWonUpTo}
use Rattle.bp_replacer.proofs.TreeLaws.{block_within, first_before_put, won_put, won_already}
use Rattle.bp_replacer.proofs.tournament.put_and_replay.Goals as goal
use Rattle.bp_replacer.proofs.tournament.put_and_replay.Goals.{After-put}

-- one seat was changed
size : (c : After-put) → length c.put.new.self ≡ length c.args.seats.now
size c = ap length c.put.ensures ∙ length-set c.args.seats.now c.args.seat c.args.entry

others : (c : After-put) → (k : ℕ) → k ≢ c.args.seat → seat_at c.put.new.self k ≡ seat_at c.args.seats.now k
others c k apart = ap (λ seats. seat_at seats k) c.put.ensures ∙ get_or-set_other c.args.seats.now c.args.seat k c.args.entry None apart

-- in its leaf
leaf : (c : After-put) → leaf_of c.put.new.self c.args.seat ≡ length c.args.nodes.now / 2 + c.args.seat / 16
leaf c = omega (arith, c.requires.won.leaves.size, ap blocks (size c))

within : (c : After-put) → length c.args.nodes.now / 2 + c.args.seat / 16 < length c.args.nodes.now
within c = omega (arith, c.requires.won.leaves.size, block_within (length c.args.seats.now) c.args.seat c.requires.seat)

pub bounds-nodes-leaf : goal.bounds-nodes-leaf
bounds-nodes-leaf c = within (goal.at.bounds-nodes-leaf c).After-put

pub bounds-nodes-leaf-2 : goal.bounds-nodes-leaf-2
bounds-nodes-leaf-2 c = within (goal.at.bounds-nodes-leaf-2 c).After-put

pub first_again-first-requires-clause-others : goal.first_again-first-requires-clause-others
first_again-first-requires-clause-others c =
    let c' = (goal.at.first_again-first-requires-clause-others c).After-put in
    subst (λ n. IsFirstBut c.put.new.self c.args.seat (node c.args.nodes.now n)) (leaf c') (first_before_put c.args.nodes.now c.args.seats.now c.put.new.self c.args.seat c.requires.seat c.requires.won (size c') (others c'))

pub replay-requires-clause-changed : goal.replay-requires-clause-changed
replay-requires-clause-changed c =
    let c' = (goal.at.replay-requires-clause-changed c).After-put in
    let first = c.first_again-first.result in
    subst (λ n. IsWonUpTo (set c.args.nodes.now n first) c.put.new.self c.args.seat (leaf_of c.put.new.self c.args.seat)) (leaf c') (won_put c.args.nodes.now c.args.seats.now c.put.new.self c.args.seat c.requires.seat c.requires.won (size c') (others c') first c.first_again-first.ensures)

pub returns-then-first-known-clause-won : goal.returns-then-first-known-clause-won
returns-then-first-known-clause-won c =
    let c' = (goal.at.returns-then-first-known-clause-won c).After-put in
    let first = c.first_again-first.result in
    won_already c.args.nodes.now c.args.seats.now c.put.new.self c.args.seat c.requires.seat c.requires.won (size c') (others c') first c.first_again-first.ensures (c.if-first-known.true ∙ ap (node c.args.nodes.now) (sym (leaf c'))) c.if-first-seat.true
