-- The passes that clients hold, and how one goes back.
use Rattle.std.specs.Prelude.{List, reverse}
use Rattle.bp_trail.specs.declared.entries.Entry.{Entry}
use Rattle.bp_trail.specs.declared.entries.Call.TheVariants.{Unfix}
use Rattle.bp_trail.specs.declared.entries.Reply.TheVariants.{Done}
use Rattle.bp_trail.specs.Event.{Grant}
use Rattle.bp_trail.specs.Trail.{Trail}
use Rattle.bp_trail.specs.Passes.{passes_out}
use Rattle.bp_trail.specs.Pieces.{by}

-- the passes out, in the order taken
abbrev pub held_passes : Trail → List Grant
held_passes past = reverse (passes_out past)

abbrev pub unfix_of : Grant → Entry
unfix_of g = by g.client (Unfix g.serial g.page) Done
