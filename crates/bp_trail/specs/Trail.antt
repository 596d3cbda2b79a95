-- A list of entries, newest first: the entries before one are those that follow it in the list.
use Rattle.std.specs.Prelude.{List}
use Rattle.bp_trail.specs.declared.entries.Entry.{Entry}

abbrev pub Trail : Type 0
Trail = List Entry
