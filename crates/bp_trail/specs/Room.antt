-- The entries that may still come.
use Rattle.std.specs.Prelude.{ℕ, ◌+◌, ◌-◌, ◌*◌, length}
use Rattle.bp_trail.specs.Parameters.{Parameters}
use Rattle.bp_trail.specs.Trail.{Trail}
use Rattle.bp_trail.specs.Passes.{passes_out, reads_out, writes_out}

-- the room less the entries kept and those that are owed: an unfix for each pass, an end for each
-- write ticket, an end and an unfix for each read ticket
abbrev pub free_keeping : Parameters → ℕ → Trail → ℕ
free_keeping c kept past =
    c.room - (kept + length (passes_out past) + length (writes_out past)
    + 2 * length (reads_out past))
