use Rattle.hojzmated_c.proofs.Unsaved.{in-a-frame, has-a-first}
use Rattle.hojzmated_c.proofs.pool.Pool.next_unsaved.Goals as goal

pub unwrap-lsn-requires : goal.unwrap-lsn-requires
unwrap-lsn-requires c = in-a-frame _ _ c.keeps_the_rules.ensures.legal c.in-Some.page c.in-Some.ensures.2 c.resident_lsn.result c.resident_lsn.ensures.away

pub unwrap-first-requires : goal.unwrap-first-requires
unwrap-first-requires c = has-a-first c.self.inside.core.past c.in-Some.page c.in-Some.ensures.2 c.first_lsn.result c.first_lsn.ensures
