-- Nothing was told yet, and nothing posted.
use Rattle.std.proofs.Common.{rules, ◌∙◌}
use Rattle.bp_shared.proofs.Posting.{posted_none, views_name, views_empty}
use Rattle.bp_shared.proofs.locked_pool.LockedPool.new.Goals as goal

pub invariant_of-result-2 : goal.invariant_of-result-2
invariant_of-result-2 g c = (
  search rules,
  search rules,
  c.requires.shown,
  posted_none _ _ _ _ (views_name _ ∙ c.requires.rings) (views_empty _ c.requires.empty) c.requires.begins,
  c.requires.count,
  c.requires.earlier,
)
