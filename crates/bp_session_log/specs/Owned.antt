-- What a board and its lines own: one name, and under it a key for each line. The board has a part
-- of each key with its list, and the line has the rest of it, with the same list. So both agree,
-- and either list changes only with both at hand.
use Rattle.std.specs.Prelude.{ℕ, List}
use base.Stored.{Coded, coded_list}
use base.Share.{three_quarters}
use base.Fml.{Fml}
use Rattle.atomic_table.specs.Seated.{roster, seen}
use Rattle.bp_trail.specs.Trail.{Trail}
use Rattle.bp_trail.specs.contracts.entries.Entry.{the_row}

abbrev pub trail_coded : Coded Trail
trail_coded = coded_list (the_row).coded

unfoldable pub board_owns : ℕ → List Trail → Fml
board_owns name lists = roster trail_coded.code name 0 lists

unfoldable pub line_owns : ℕ → ℕ → Trail → Fml
line_owns name number list = seen trail_coded.code name number three_quarters list
