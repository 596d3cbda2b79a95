use Rattle.bp_parts.proofs.Flushing.{each_page}
use Rattle.bp_parts.proofs.laws.flush_all_of_parts_reaches_each_page.Goals as goal

pub returns : goal.returns
returns g c old new port after page flushed within = each_page _ g.N.PartCount.parts old new port after page flushed within
