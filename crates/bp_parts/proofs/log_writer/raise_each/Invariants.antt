-- Those below are raised, those from here on are as they were.
use Rattle.std.proofs.Common.{◌≡◌, max, length}
use Rattle.bp_parts.specs.Logs.{AreEndsFrom}
use Rattle.bp_parts.proofs.log_writer.raise_each.Given as goal

abbrev pub invariant-loop-part : goal.invariant-loop-part
invariant-loop-part g l =
    (l.part-end ≡ length l.fn.ends.items) × (length l.ends.items ≡ length l.fn.ends.items)
    × AreEndsFrom g.N.PartNames.mark (max l.fn.frontier l.lsn) 0 l.part l.ends.items
    × AreEndsFrom g.N.PartNames.mark l.fn.frontier l.part l.part-end l.ends.items
