use Rattle.std.proofs.Common.{take}
use Rattle.bp_check.proofs.Choosing.{Best}
use Rattle.bp_check.proofs.judge.Judge.victim.Given as goal

abbrev pub invariant-loop-place : goal.invariant-loop-place
invariant-loop-place l = Best l.self.parameters l.self.past (take l.place l.self-inside.residents) l.first
