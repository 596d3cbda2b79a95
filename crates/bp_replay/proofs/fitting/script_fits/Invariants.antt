-- The rows so far fit.
use Rattle.std.proofs.Common.{◌≡◌, ◌<◌, take}
use Rattle.bp_trail.specs.Parameters.{Parameters}
use Rattle.bp_replay.specs.Scripts.{ScriptFits}
use Rattle.bp_replay.proofs.fitting.script_fits.Given as goal

abbrev pub invariant-loop-row : goal.invariant-loop-row
invariant-loop-row l = (p : Parameters) → p.pages ≡ l.geometry.pages → p.size ≡ l.geometry.size → l.client < p.clients → ScriptFits p l.client (take l.row-index l.script)
