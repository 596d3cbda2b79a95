use Rattle.bp_trail.proofs.Elements.{greatest-is}
use Rattle.bp_trail.proofs.Sentences.{unsaved-decides, page_lsn-greatest}
use Rattle.std.proofs.Common.{ap, sym}
use Rattle.bp_trail.specs.Lists.{some}
use Rattle.bp_trail.specs.Event.{begins, writes}
use Rattle.bp_trail.proofs.Elements.{after-last-only}
use Rattle.bp_trail.proofs.laws.unsaved_since_the_last_good_write_out.Goals as goal

pub returns-clause-unsaved : goal.returns-clause-unsaved
returns-clause-unsaved c = unsaved-decides

pub returns-clause-page_lsn : goal.returns-clause-page_lsn
returns-clause-page_lsn c = page_lsn-greatest

pub returns-clause-durable : goal.returns-clause-durable
returns-clause-durable c = λ past. greatest-is _

pub returns-clause-written_since : goal.returns-clause-written_since
returns-clause-written_since c = λ past newest t p after. ap (some (writes p)) (sym (after-last-only (λ e. begins t e.reply) past newest after))
