use Rattle.std.proofs.Common.{◌≡◌, vec_len}
use Rattle.bp_ports.specs.WholeFiles.{Copies}
use Rattle.bp_ports.proofs.migration.migrate_watched.Given as goal

-- the pages so far
abbrev pub invariant-loop-page : goal.invariant-loop-page
invariant-loop-page g l =
    Copies l.page l.geometry.size (g.I.Read.remaining l.initial.reader) (g.I.Read.remaining l.reader) (g.W.Write.contents l.initial.writer) (g.W.Write.contents l.writer)
    × (vec_len l.buffer ≡ l.geometry.size)
