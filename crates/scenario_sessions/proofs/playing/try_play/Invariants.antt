-- The pool that was just made.
use Rattle.scenario_sessions.proofs.playing.try_play.Given as goal

abbrev pub ghosts-play_over : goal.ghosts-play_over
ghosts-play_over g a = record {
  mark = a.made.parts.mark;
  parameters = a.made.core.parameters;
  before = a.made.core.before;
  past = a.made.core.past;
  ring = a.made.parts.ring;
}
