-- The sum so far, with the rest taken in, is the whole.
use Rattle.std.proofs.Common.{◌≡◌, drop}
use Rattle.example_log.specs.Frames.{summed}
use Rattle.example_log.proofs.frames.checksum.Given as goal

abbrev pub invariant-loop-byte : goal.invariant-loop-byte
invariant-loop-byte l = summed l.sum (drop l.byte-index l.payload) ≡ summed l.lsn l.payload
