use Rattle.bp_shared.proofs.Reaching.{each_reached, looked}
use Rattle.bp_shared.proofs.laws.flush_all_reaches_each_page.Goals as goal

pub returns : goal.returns
returns c = record { each = each_reached; looks = looked }
