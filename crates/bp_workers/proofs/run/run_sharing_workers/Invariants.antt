-- The mark, the core and the ring that were just made.
use Rattle.bp_workers.proofs.run.run_sharing_workers.Given as goal

abbrev pub ghosts-run_named : goal.ghosts-run_named
ghosts-run_named g a = record {
  mark = a.parts.mark;
  parameters = a.core.parameters;
  before = a.core.before;
  past = a.core.past;
  ring = a.parts.ring;
}
