use Rattle.bp_trail.proofs.Timed.{references-timed}
use Rattle.bp_trail.proofs.Sentences.{references-are, forgets-decides, known-none}
use Rattle.std.proofs.Common.{ap, sym, ◌∙◌}
use Rattle.std.proofs.lemmas.Bool.{true≢false, ltb-true, false_from_ne_true}
use Rattle.bp_trail.specs.References.{is_empty, references}
use Rattle.bp_trail.proofs.Ranges.{referred}
use Rattle.bp_trail.proofs.laws.references_since_the_last_forgetting.Goals as goal

pub returns-clause-references : goal.returns-clause-references
returns-clause-references c = references-are

pub returns-clause-forgets : goal.returns-clause-forgets
returns-clause-forgets c = forgets-decides

pub returns-clause-timed : goal.returns-clause-timed
returns-clause-timed c = λ p past q. (references-timed p past q).timed

pub returns-clause-by_now : goal.returns-clause-by_now
returns-clause-by_now c = λ p past q. (references-timed p past q).past

pub returns-clause-known : goal.returns-clause-known
returns-clause-known c = λ p past q l here none. true≢false (sym (ap is_empty none) ∙ (referred p past l).known q here)

pub returns-clause-in_range : goal.returns-clause-in_range
returns-clause-in_range c = λ p past q l some. ltb-true _ _ ((referred p past l).within q (false_from_ne_true _ (λ none. some (known-none (references p past q) none))))
