-- The passes of a table's pool that are out.
use Rattle.std.specs.Prelude.{◌≡◌, [], ◌∷◌, Result, Ok, Err}
use Rattle.bp_core.specs.declared.passes.Pass.{Pass}
use Rattle.bp_device.specs.Owned.{OwnedView}
use Rattle.bp_trail.specs.Event.{grant}
use Rattle.bp_trail.specs.Passes.{passes_out}

-- those that were
abbrev pub KeepsPasses : {P : Type 0} → OwnedView P → OwnedView P → Type 0
KeepsPasses old new = passes_out new.core.past ≡ passes_out old.core.past

-- and the one of a page that was fixed
abbrev pub AddsPass : {P E : Type 0} → OwnedView P → Result Pass E → OwnedView P → Type 0
AddsPass old (Ok pass) new =
    passes_out new.core.past ≡ grant pass.client pass.page pass.serial ∷ passes_out old.core.past
AddsPass old (Err why) new = KeepsPasses old new

-- none, where none was
abbrev pub GivesBack : {P : Type 0} → OwnedView P → OwnedView P → Type 0
GivesBack old new = passes_out old.core.past ≡ [] → passes_out new.core.past ≡ []
