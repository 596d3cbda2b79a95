-- A mark, its log end and its readers as contracts see them.
use Rattle.std.specs.Prelude.{ℕ, []}
use Rattle.atomic_table.specs.Seated.{TableId}

-- the name by which a mark is told from every other
abbrev pub MarkName : Type 0
MarkName = TableId

-- the name of no mark
abbrev pub no_mark : MarkName
no_mark =
    record {
      words = 0;
      slots = 0;
      views_name = 0;
      atom = 0;
      block = 0;
      offset = 0;
      slot_names = [];
    }

-- the log end of a mark, and the greatest LSN that it has raised
pub record LogEndValue : Type 0 where
  pub mark : MarkName
  pub frontier : ℕ

-- a reader of a mark, and the greatest LSN that it has seen
pub record ReaderValue : Type 0 where
  pub mark : MarkName
  pub seen : ℕ
