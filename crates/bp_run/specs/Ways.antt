-- How the page files and the traces of runs are opened, and pictures written.
use Rattle.std.specs.Prelude.{ℕ, Bool, List, Option, Result, Vec}
use Rattle.std.specs.declared.alloc.Global.{Global}
use Rattle.clap.specs.Words.{Text}
use Rattle.bp_page.specs.declared.limits.Geometry.{Geometry}
use Rattle.bp_page.specs.declared.slots.Format.{Format}
use Rattle.bp_ports.specs.declared.files.OpenFault.{OpenFault}

-- What is said of it by whoever opens them. Three relations have the results that calls gave: of a
-- page file that was to be opened by a word, with pages of so many bytes in a version; of so many
-- ports to it; and of the trace at a path. A fourth has bytes that were to be written into the file
-- at a path, and whether they were. Of an open page file it is said how many pages it has in
-- memory, where its word names that, which geometry it has, and whether its pages stand with their
-- numbers.
pub record Ways (F P T : Type 0) : Type 1 where
  pub opens : Text → ℕ → Format → Result F OpenFault → Type 0
  pub memory : F → Option ℕ
  pub geometry : F → Geometry
  pub headed : F → Bool
  pub connects : F → ℕ → Result (Vec P Global) OpenFault → Type 0
  pub traces : Text → Option T → Type 0
  pub saves : Text → List ℕ → Bool → Type 0
