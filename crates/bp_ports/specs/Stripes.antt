-- Stripes of a page file: each n-th page of it, and what a port to one reads and writes.
use Rattle.std.specs.Prelude.{◌≡◌, ◌≢◌, ℕ, ◌+◌, ◌*◌, ◌<◌, ◌≤◌, List, length, Option, Result}
use Rattle.bp_page.specs.declared.refusals.PortFault.{PortFault}
use Rattle.bp_ports.specs.Ports.{PortView, ReadsPage, WritesPage}
use Rattle.bp_ports.specs.Files.{Transfer, StoreSync, FoundWithLsn, ReadsSlot, WritesSlot, SyncsStore, place_of}

-- how many stripes a file has
pub record IsParts (parts : ℕ) : Type 0 where
  pub some_parts : 1 ≤ parts
  pub few_parts : parts ≤ 64

-- what a caller sees of a port to stripes: a port to the file, whose pages are those of the stripe;
-- how many stripes there are, and which of them it shows
pub record StripedView (S : Type 0) : Type 0 where
  pub file : PortView S
  pub parts : ℕ
  pub part : ℕ

-- the same port, turned to another stripe
abbrev pub turned : {S : Type 0} → ℕ → StripedView S → StripedView S
turned part port = record { file = port.file; parts = port.parts; part = part }

-- page q of stripe i of n is page q * n + i of the file
abbrev pub whole_page : {S : Type 0} → StripedView S → ℕ → ℕ
whole_page port page = page * port.parts + port.part

-- it shows the same stripe
abbrev pub IsSameStripe : {S : Type 0} → StripedView S → StripedView S → Type 0
IsSameStripe port after = (after.parts ≡ port.parts) × (after.part ≡ port.part)

-- a read, and a write, by a port to a stripe: what one by a port to a page file is of a page that
-- the stripe has, in the slot of the page of the file that it is; a page that the stripe lacks is a
-- failure, and the store is not asked
abbrev pub ReadsStriped : {S : Type 0} → Transfer S → StripedView S → ℕ
    → Result (List ℕ) PortFault → StripedView S → Type 0
ReadsStriped reads port page found after =
    IsSameStripe port after
    × ReadsPage port.file page found after.file
    × (port.file.device.pages ≤ page → after.file.store ≡ port.file.store)
    × (page < port.file.device.pages
    → ReadsSlot reads port.file (whole_page port page) found after.file)

-- the same, and the page LSN is told
abbrev pub ReadsStripedLsn : {S : Type 0} → Transfer S → StripedView S → ℕ
    → Result (Option ℕ × List ℕ) PortFault → StripedView S → Type 0
ReadsStripedLsn reads port page found after =
    IsSameStripe port after
    × ReadsPage port.file page found after.file
    × (port.file.device.pages ≤ page → after.file.store ≡ port.file.store)
    × (page < port.file.device.pages → FoundWithLsn reads port.file.headed (whole_page port page)
    (place_of port.file (whole_page port page)) port.file.store found after.file.store)

abbrev pub WritesStriped : {S : Type 0} → Transfer S → StripedView S → ℕ → List ℕ → ℕ
    → Result (Unit {0}) PortFault → StripedView S → Type 0
WritesStriped writes port page image lsn written after =
    IsSameStripe port after
    × WritesPage port.file page image written after.file
    × (port.file.device.pages ≤ page → after.file.store ≡ port.file.store)
    × (length image ≢ port.file.device.size → after.file.store ≡ port.file.store)
    × (page < port.file.device.pages → length image ≡ port.file.device.size
    → WritesSlot writes port.file (whole_page port page) image lsn written after.file)

-- a sync is one of the whole file
abbrev pub SyncsStriped : {S : Type 0} → StoreSync S → StripedView S → Result (Unit {0}) PortFault
    → StripedView S → Type 0
SyncsStriped syncs port synced after =
    IsSameStripe port after × SyncsStore syncs port.file synced after.file
