-- Where a migration may fail.
use Rattle.std.specs.Prelude.{◌≡◌, ℕ, ◌<◌, ◌≤◌, List, length, All, Option}
use Rattle.std.specs.Io.KnownBytes.{Consumes}
use Rattle.bp_page.specs.declared.limits.Geometry.{Geometry}
use Rattle.bp_ports.specs.declared.migration.MigrateFault.{MigrateFault}
use Rattle.bp_ports.specs.declared.migration.MigrateFault.TheVariants.{Write}
use Rattle.bp_ports.specs.WholeFiles.{raw_file}

-- where it is the writer that failed, this holds
abbrev pub OnWriteFault : MigrateFault → Type 0 → Type 0
OnWriteFault Write fact = fact
OnWriteFault _ fact = Unit {0}

-- the first pages of so many were read, one at least, and no more
pub record ReadsSome (pages size : ℕ) (unread left : Option (List ℕ)) : Type 0 where
  pub images : List (List ℕ)
  pub some : 0 < length images
  pub few : length images ≤ pages
  pub sized : All (λ image. length image ≡ size) images
  pub read : Consumes unread left (raw_file images)

abbrev pub ReadsAFront : Geometry → Option (List ℕ) → Option (List ℕ) → Type 0
ReadsAFront g unread left = ReadsSome g.pages g.size unread left
