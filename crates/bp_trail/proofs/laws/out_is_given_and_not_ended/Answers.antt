use Rattle.bp_trail.specs.Passes.{pass_of, read_ticket_of, write_ticket_of}
use Rattle.bp_trail.specs.Event.{pass_back, read_ticket_back, write_ticket_back}
use Rattle.bp_trail.proofs.Given.{unended-is, out-decides, page-decides, fresh-passes, fresh-reads, fresh-writes}
use Rattle.std.proofs.Common.{ap}
use Rattle.bp_trail.specs.Lists.{count}
use Rattle.bp_trail.specs.Passes.{is_of}
use Rattle.bp_trail.proofs.laws.out_is_given_and_not_ended.Goals as goal

pub returns-clause-passes : goal.returns-clause-passes
returns-clause-passes c = λ p past g l. out-decides pass_of (λ e. pass_back e.call) past (fresh-passes p past l) g

pub returns-clause-reads : goal.returns-clause-reads
returns-clause-reads c = λ p past g l. out-decides read_ticket_of (λ e. read_ticket_back e.call) past (fresh-reads p past l) g

pub returns-clause-writes : goal.returns-clause-writes
returns-clause-writes c = λ p past g l. out-decides write_ticket_of (λ e. write_ticket_back e.call) past (fresh-writes p past l) g

pub returns-clause-list : goal.returns-clause-list
returns-clause-list c = λ p past l. unended-is pass_of (λ e. pass_back e.call) past (fresh-passes p past l)

pub returns-clause-loading : goal.returns-clause-loading
returns-clause-loading c = λ p past q l. page-decides read_ticket_of (λ e. read_ticket_back e.call) past (fresh-reads p past l) q

pub returns-clause-writing : goal.returns-clause-writing
returns-clause-writing c = λ p past q l. page-decides write_ticket_of (λ e. write_ticket_back e.call) past (fresh-writes p past l) q

pub returns-clause-pins : goal.returns-clause-pins
returns-clause-pins c = λ p past q l. ap (count (is_of q)) (unended-is pass_of (λ e. pass_back e.call) past (fresh-passes p past l))
