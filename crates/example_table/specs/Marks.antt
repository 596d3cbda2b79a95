-- What a table notes of its pages and of itself.
use Rattle.std.specs.Prelude.{◌≡◌}
use Rattle.example_table.specs.declared.table.Table.{Table}

-- the log has images of the same pages, and the table has ended where it had
abbrev pub KeepsMarks : {S P : Type 0} → Table S P → Table S P → Type 0
KeepsMarks old new = (new.imaged.items ≡ old.imaged.items) × (new.is_ended ≡ old.is_ended)
