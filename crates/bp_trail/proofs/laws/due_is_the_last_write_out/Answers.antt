use Rattle.std.proofs.Common.{ap, ◌∙◌}
use Rattle.bp_trail.specs.Device.{due_among, all_known}
use Rattle.bp_trail.proofs.Sentences.{due-opening, due-begun}
use Rattle.bp_trail.proofs.laws.due_is_the_last_write_out.Goals as goal

pub returns-clause-opening : goal.returns-clause-opening
returns-clause-opening c = λ m past p. due-opening past (all_known m) past p

pub returns-clause-begun : goal.returns-clause-begun
returns-clause-begun c = λ m past later earlier e t p image is begins none. ap (λ s. due_among past (all_known m) s p) is ∙ due-begun past (all_known m) later earlier e t p image begins none
