use Rattle.std.proofs.Common.{◌≡◌, reverse, take, length}
use Rattle.bp_trail.specs.Recovery.{AllFit, records_from, redo}
use Rattle.bp_trail.proofs.records.redo_page.Given as goal

abbrev pub invariant-loop-change : goal.invariant-loop-change
invariant-loop-change l = record {
  image : l.image ≡ redo l.from (reverse (take l.change-index l.log)) l.page l.fn.image;
  fit : AllFit (length l.fn.image) (records_from l.from (reverse (take l.change-index l.log)) l.page);
  same : length l.image ≡ length l.fn.image;
}
