-- The scripts so far fit.
use Rattle.std.proofs.Common.{◌<◌, ℕ, length}
use Rattle.bp_replay.specs.Scripts.{list_of, lists, ScriptFits}
use Rattle.bp_core.specs.Agreement.{parameters_with}
use Rattle.bp_replay.proofs.fitting.scripts_fit.Given as goal

abbrev pub invariant-loop-client : goal.invariant-loop-client
invariant-loop-client l = (c : ℕ) → c < l.client → ScriptFits (parameters_with l.config (length l.scripts)) c (list_of c (lists l.scripts))
