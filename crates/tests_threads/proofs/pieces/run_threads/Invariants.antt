-- The pool that was just made.
use Rattle.tests_threads.proofs.pieces.run_threads.Given as goal

abbrev pub ghosts-see_over : goal.ghosts-see_over
ghosts-see_over g a = record {
  mark = a.made.parts.mark;
  parameters = a.made.core.parameters;
  before = a.made.core.before;
  past = a.made.core.past;
  ring = a.made.parts.ring;
}
