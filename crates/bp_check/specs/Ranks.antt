-- What decides between candidates, as it is compared.
use Rattle.bp_trail.specs.Victim.{Rank as ARank}
use Rattle.bp_check.specs.declared.judge.choice.Rank.{Rank}

abbrev pub rank_of : Rank → ARank
rank_of r = record { stamp = r.stamp; last = r.last; page = r.page }
