use Rattle.bp_trail.proofs.Sentences.{passes-count, tickets-count, passes-next, tickets-next, passes-new, tickets-new}
use Rattle.bp_trail.proofs.laws.serials_count_the_replies.Goals as goal

pub returns-clause-passes : goal.returns-clause-passes
returns-clause-passes c = passes-count

pub returns-clause-tickets : goal.returns-clause-tickets
returns-clause-tickets c = tickets-count

pub returns-clause-next_pass : goal.returns-clause-next_pass
returns-clause-next_pass c = passes-next

pub returns-clause-next_ticket : goal.returns-clause-next_ticket
returns-clause-next_ticket c = tickets-next

pub returns-clause-new_pass : goal.returns-clause-new_pass
returns-clause-new_pass c = passes-new

pub returns-clause-new_ticket : goal.returns-clause-new_ticket
returns-clause-new_ticket c = tickets-new
