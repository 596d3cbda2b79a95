-- There are as many parts as names.
use Rattle.std.proofs.Common.{ap, arith, subst, length, vec_len}
use Rattle.bp_parts.specs.Making.{AreRows}
use Rattle.bp_parts.proofs.Dealing.{numbered_up_to}
use Rattle.bp_parts.proofs.Placing.{up_to_length}
use Rattle.bp_parts.proofs.making.make_parts.Goals as goal

pub gather-requires-clause-rows : goal.gather-requires-clause-rows
gather-requires-clause-rows g c = subst (λ n. AreRows n c.in_ok-parts.field-0.rows.items) c.requires.parts.1 c.in_ok-parts.ensures.rows

pub new-requires-2-clause-all : goal.new-requires-2-clause-all
new-requires-2-clause-all g c =
    omega (arith, ap length c.in_ok-parts.ensures.parts, up_to_length (λ part. part) (vec_len c.args.names), c.requires.parts.1, c.in_ok-parts.field-0.parts.ok)

pub new-requires-2-clause-numbered : goal.new-requires-2-clause-numbered
new-requires-2-clause-numbered g c = numbered_up_to (vec_len c.args.names) _ c.in_ok-parts.ensures.parts

pub returns-clause-room : goal.returns-clause-room
returns-clause-room g c = (omega (arith, c.in_ok-room.ensures.parts, c.len.ensures, c.requires.parts.1, c.requires.few), c.in_ok-room.ensures.clients)
