use Rattle.std.proofs.Common.{◌≡◌, ℕ, ◌++◌, take, reverse}
use Rattle.bp_trail.specs.Legal.{Legal}
use Rattle.bp_check.specs.Setups.{with_room}
use Rattle.bp_check.proofs.judge.Judge.go_on.Given as goal

abbrev pub invariant-loop-place : goal.invariant-loop-place
invariant-loop-place l = record {
  same : l.judge.parameters ≡ l.fn.self.parameters;
  so_far : l.judge.past ≡ reverse (take l.place l.piece) ++ l.fn.self.past;
  legal : (room : ℕ) → Legal (with_room l.fn.self.parameters room) l.judge.past;
}
