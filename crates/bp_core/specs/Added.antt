-- What a piece of entries adds to a core, and how it ends.
use Rattle.std.specs.Prelude.{◌≡◌, [], ◌∷◌, ◌++◌, Option}
use Rattle.bp_trail.specs.declared.entries.Reply.{Reply}
use Rattle.bp_trail.specs.Lists.{and_given}
use Rattle.bp_trail.specs.Event.{Grant}
use Rattle.bp_trail.specs.Trail.{Trail}
use Rattle.bp_trail.specs.Passes.{passes_out}
use Rattle.bp_core.specs.CoreView.{CoreView}

-- the core with more entries, newest first
abbrev pub with_piece : CoreView → Trail → CoreView
with_piece core piece = record core { past = piece ++ core.past }

-- whatever was out before the piece is out after it, with the pass that it gave
abbrev pub Gives : Trail → Option Grant → Type 0
Gives piece given = (said : Trail) → passes_out (piece ++ said) ≡ and_given given (passes_out said)

-- the newest entry has this reply
abbrev pub Ends : Reply → Trail → Type 0
Ends reply [] = ⊥
Ends reply (e ∷ older) = e.reply ≡ reply
