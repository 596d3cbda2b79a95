use Rattle.bp_trail.specs.Event.{pass_back, read_ticket_back, write_ticket_back}
use Rattle.bp_trail.specs.Passes.{pass_of, read_ticket_of, write_ticket_of}
use Rattle.bp_trail.proofs.Given.{out-lasts}
use Rattle.bp_trail.proofs.laws.out_is_given_and_not_ended_since.Goals as goal

pub returns-clause-passes : goal.returns-clause-passes
returns-clause-passes c = λ past g. out-lasts g pass_of (λ e. pass_back e.call) past

pub returns-clause-reads : goal.returns-clause-reads
returns-clause-reads c = λ past g. out-lasts g read_ticket_of (λ e. read_ticket_back e.call) past

pub returns-clause-writes : goal.returns-clause-writes
returns-clause-writes c = λ past g. out-lasts g write_ticket_of (λ e. write_ticket_back e.call) past
