use Rattle.bp_trail.proofs.LegalLaws.{one-operation, writing-unsaved}
use Rattle.bp_trail.proofs.laws.one_device_operation_a_page.Goals as goal

pub returns-clause-one : goal.returns-clause-one
returns-clause-one c = one-operation

pub returns-clause-writing_is_unsaved : goal.returns-clause-writing_is_unsaved
returns-clause-writing_is_unsaved c = writing-unsaved
