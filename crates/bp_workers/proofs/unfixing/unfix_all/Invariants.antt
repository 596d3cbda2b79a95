-- What went back so far; fewer are held than are to be looked for.
use Rattle.std.proofs.Common.{◌≡◌, ◌-◌, ◌≤◌, length}
use Rattle.bp_trail.specs.HeldPasses.{held_passes}
use Rattle.bp_workers.specs.Giving.{GoBack}
use Rattle.bp_workers.proofs.unfixing.unfix_all.Given as goal

abbrev pub invariant-loop : goal.invariant-loop
invariant-loop g l = record {
  client : l.session.client ≡ l.initial.session.client;
  before : l.session.before ≡ l.initial.session.before;
  seen : l.session.seen ≡ l.initial.session.seen;
  back : GoBack l.initial.session.said l.session.said;
  fewer : length (held_passes l.session.said) ≤ length (held_passes l.initial.session.said) - l.counter;
}
