-- One client more.
use Rattle.std.proofs.Common.{◌≡◌, ◌∙◌, ap, arith, refl, [], length}
use Rattle.bp_shared.specs.Sessions.{new_session_of}
use Rattle.bp_parts.specs.Making.{new_in_parts}
use Rattle.bp_parts.proofs.Dealing.{own_row, parted_is}
use Rattle.bp_parts.proofs.Placing.{next_is, rest_are, up_to_length, up_to_more}
use Rattle.bp_parts.proofs.making.gather.Goals as goal

pub new-requires-clause-all : goal.new-requires-clause-all
new-requires-clause-all g c =
    let is = next_is (λ client row. row.items ≡ new_in_parts g.N.PartCount.parts client) c.loop-row.client _ _ c.in-Some.row c.loop-row.invariant.rest c.in-Some.ensures.steps.0 in
    omega (arith, ap length is, up_to_length (λ n. new_session_of n [] c.loop-row.client) g.N.PartCount.parts, c.in-Some.row.ok)

pub new-requires-clause-each : goal.new-requires-clause-each
new-requires-clause-each g c =
    own_row g.N.PartCount.parts c.loop-row.client _ (next_is (λ client row. row.items ≡ new_in_parts g.N.PartCount.parts client) c.loop-row.client _ _ c.in-Some.row c.loop-row.invariant.rest c.in-Some.ensures.steps.0)

pub loop-row-preserved : goal.loop-row-preserved
loop-row-preserved g c =
    let i = c.loop-row.invariant in
    let next = c.in-Some.ensures.steps.0 in
    let is = next_is (λ client row. row.items ≡ new_in_parts g.N.PartCount.parts client) c.loop-row.client _ _ c.in-Some.row i.rest next in
    record {
      rest = rest_are (λ client row. row.items ≡ new_in_parts g.N.PartCount.parts client) c.loop-row.client _ _ c.in-Some.row i.rest next;
      counted = omega (arith, i.counted, ap length next);
      made = up_to_more (λ client. record { client = client; sessions = new_in_parts g.N.PartCount.parts client }) c.loop-row.client _ _ _ c.new.result i.made c.in-Ok.ensures.items (parted_is c.new.result _ _ c.new.ensures.client (c.new.ensures.sessions ∙ is)) refl;
    }
