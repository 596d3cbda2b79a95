-- The parts below were asked, and those from here on are as they were.
use Rattle.std.proofs.Common.{◌≡◌, vec_len}
use Rattle.bp_shared.specs.Telling.{Sees}
use Rattle.bp_parts.specs.Parts.{AreSessionsOf}
use Rattle.bp_parts.proofs.Asking.{AsksSoFar}
use Rattle.bp_parts.proofs.pool.PartedPool.settle.Given as goal

abbrev pub invariant-loop-part : goal.invariant-loop-part
invariant-loop-part g l = record {
  count : vec_len l.session-inside.sessions ≡ g.N.PartCount.parts;
  own : AreSessionsOf l.session-inside.client l.session-inside.sessions.items;
  asked : AsksSoFar (Sees g.N.PartNames.parameters g.N.PartNames.past) l.part
      (record { client = l.initial.session-inside.client; sessions = l.initial.session-inside.sessions.items })
      (record { client = l.session-inside.client; sessions = l.session-inside.sessions.items });
}
