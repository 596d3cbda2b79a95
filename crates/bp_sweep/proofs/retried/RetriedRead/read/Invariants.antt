-- The calls so far were interrupted, and took nothing.
use Rattle.std.proofs.Common.{◌≡◌, length}
use Rattle.std.specs.Io.KnownBytes.{Keeps}
use Rattle.bp_sweep.proofs.retried.RetriedRead.read.Given as goal

abbrev pub invariant-loop : goal.invariant-loop
invariant-loop g l =
    Keeps (g.R.Read.remaining l.initial.self.reader) (g.R.Read.remaining l.self.reader)
    × (length l.buf ≡ length l.initial.buf)
