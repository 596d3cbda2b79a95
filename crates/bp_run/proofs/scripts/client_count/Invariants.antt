-- The greatest so far, with that of the rows that are left.
use Rattle.std.proofs.Common.{◌≡◌, max, map, drop}
use Rattle.bp_trail.specs.Lists.{greatest}
use Rattle.bp_run.proofs.scripts.client_count.Given as goal

abbrev pub invariant-loop-row : goal.invariant-loop-row
invariant-loop-row l = max l.greatest (greatest (map (λ row. row.client) (drop l.row-index l.rows))) ≡ greatest (map (λ row. row.client) l.rows)
