-- The pool that was just made.
use Rattle.tests_threads.proofs.waiting.run_together.Given as goal

abbrev pub ghosts-run_over : goal.ghosts-run_over
ghosts-run_over g a = record {
  mark = a.made.parts.mark;
  parameters = a.made.core.parameters;
  before = a.made.core.before;
  past = a.made.core.past;
  ring = a.made.parts.ring;
}
