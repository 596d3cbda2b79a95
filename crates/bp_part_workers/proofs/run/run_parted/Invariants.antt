-- The marks and the rings that were just made, and the parameters of the first core.
use Rattle.std.proofs.Common.{[], map, slice_index_or, length}
use Rattle.bp_mark.specs.Marks.{no_mark}
use Rattle.bp_shared.specs.Taking.{no_ring}
use Rattle.bp_part_workers.proofs.Naming.{no_core}
use Rattle.bp_part_workers.proofs.run.run_parted.Given as goal

abbrev pub ghosts-run_named-N-PartNames : goal.ghosts-run_named-N-PartNames
ghosts-run_named-N-PartNames g a = record {
  mark = λ i. slice_index_or (map (λ p. p.mark) a.names.items) i no_mark;
  parameters = (slice_index_or a.cores.items 0 no_core).parameters;
  before = [];
  past = [];
  ring = λ i. slice_index_or (map (λ p. p.ring) a.names.items) i no_ring;
}

abbrev pub ghosts-run_named-N-PartCount : goal.ghosts-run_named-N-PartCount
ghosts-run_named-N-PartCount g a = record { parts = length a.names.items }
