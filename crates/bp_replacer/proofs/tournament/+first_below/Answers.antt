use Rattle.std.proofs.Common.{◌≡◌, ◌-◌, ◌/◌, ◌∙◌, ◌<◌, sym, subst, arith, length}
use Rattle.bp_references.specs.Candidates.{Candidate}
use Rattle.bp_replacer.specs.Seats.{seat_at}
use Rattle.bp_replacer.specs.Tree.{blocks, IsFirstIn, IsFirstBelow}
use Rattle.bp_replacer.proofs.TreeLaws.{aged_known, first_below_leaf, first_of_both}
use Rattle.bp_replacer.proofs.tournament.+first_below.Goals as goal

pub returns-then-is_aged : goal.returns-then-is_aged
returns-then-is_aged t c = record { first = aged_known c.args.nodes.now c.args.seats.now c.requires.won c.args.at c.args.time c.requires.positive (omega (arith, c.requires.in_range, c.requires.won.leaves.size)) (sym c.is_aged.ensures ∙ c.if-is_aged.true) }

pub returns-then-at-leaves : goal.returns-then-at-leaves
returns-then-at-leaves t c =
    let seats = c.args.seats.now in
    let half : length c.args.nodes.now / 2 ≡ blocks (length seats) = omega (arith, c.requires.won.leaves.size) in
    let found = seat_at seats c.first_aged.result in
    record {
      first = first_below_leaf seats (λ (e : Candidate). e.1 < c.args.time) c.args.at found (omega (arith, half, c.if-at-leaves.true)) (omega (arith, c.requires.in_range, c.requires.won.leaves.size))
          (subst (λ n. IsFirstIn seats (c.args.at - n) (λ (e : Candidate). e.1 < c.args.time) found) half c.first_aged.ensures);
    }

pub returns : goal.returns
returns t c =
    let seats = c.args.seats.now in
    record {
      first = subst (IsFirstBelow seats c.args.at (λ (e : Candidate). e.1 < c.args.time)) (sym c.winner.ensures.first)
          (first_of_both seats (λ (e : Candidate). e.1 < c.args.time) c.args.at (seat_at seats c.first_below-left.result) (seat_at seats c.first_below-right.result) (omega (arith, c.if-at-leaves.false, c.requires.won.leaves.size)) c.first_below-left.ensures.first c.first_below-right.ensures.first);
    }
