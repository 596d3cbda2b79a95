-- Files that are page files, and what a port to one reads and writes.
use Rattle.std.specs.Prelude.{◌≡◌, ◌≢◌, ◌⊎◌, ℕ, Bool, true, false, ◌+◌, ◌*◌, ◌<◌, ◌≤◌, ◌/◌, ◌%◌, List, length, Option, is_some, unwrap_or, Result, Ok, Err}
use Rattle.std.specs.Result.{is_ok}
use Rattle.bp_page.specs.Slots.{raw_slot, headed_slot, page_in}
use Rattle.bp_page.specs.declared.refusals.PortFault.{PortFault}
use Rattle.bp_page.specs.declared.slots.Format.{Format}
use Rattle.bp_page.specs.declared.slots.Format.TheVariants.{Plain, Headed}
use Rattle.bp_page.specs.declared.refusals.PortFault.TheVariants.{Device, Memory, WrongPage}
use Rattle.bp_page.specs.declared.refusals.Refusal.TheVariants.{BadLength}
use Rattle.bp_ports.specs.declared.files.OpenFault.{OpenFault}
use Rattle.bp_ports.specs.declared.files.OpenFault.TheVariants as open_fault
use Rattle.bp_ports.specs.Ports.{PortView, ReadsPage, WritesPage, Syncs}

-- a length of whole pages of this size: one at least, and no more than a file may have
pub record IsFileLength (size bytes : ℕ) : Type 0 where
  pub whole : bytes % size ≡ 0
  pub some_pages : 1 ≤ bytes / size
  pub few_pages : bytes / size ≤ 1048576

-- why a page file is not opened: its length, or what the system answers
abbrev pub IsOpenFault : OpenFault → Type 0
IsOpenFault fault =
    (fault ≡ open_fault.Refused BadLength) ⊎ (fault ≡ open_fault.Port Device)
    ⊎ (fault ≡ open_fault.Port Memory)

-- what stands in a page's slot, where pages stand with their numbers or not
abbrev pub slot_of : Bool → ℕ → ℕ → List ℕ → List ℕ
slot_of false page lsn image = raw_slot image
slot_of true page lsn image = headed_slot page lsn image

-- the bytes of a slot, and the byte at which a page's slot begins
abbrev pub slot_length : Bool → ℕ → ℕ
slot_length false size = size
slot_length true size = 16 + size

abbrev pub place_of : {S : Type 0} → PortView S → ℕ → ℕ
place_of port page = page * slot_length port.headed port.device.size

-- the bytes that a port keeps for a slot: none where a slot is the image
abbrev pub room_of : Format → ℕ → ℕ
room_of Plain size = 0
room_of Headed size = 16 + size

-- a call of a store: as it was, the byte from which on it was asked, the bytes that were read or
-- written there, whether all of them were, and the store as it is
abbrev pub Transfer : Type 0 → Type 1
Transfer S = S → ℕ → List ℕ → Bool → S → Type 0

-- what a read gives of a page whose slot begins at this byte: the image in the slot that was read
-- there; or that another page's number is in it, which is told before memory is asked for. Memory
-- for an image that is its slot is asked for before anything is read. The device fails only where
-- the store does
abbrev pub FoundIn : {S : Type 0} → Transfer S → Bool → ℕ → ℕ → S → Result (List ℕ) PortFault → S
    → Type 0
FoundIn reads headed page start store (Ok image) after =
    (lsn : ℕ) × reads store start (slot_of headed page lsn image) true after
FoundIn reads true page start store (Err WrongPage) after =
    (slot : List ℕ) × reads store start slot true after × (page_in slot ≢ page)
FoundIn reads true page start store (Err Memory) after =
    (slot : List ℕ) × reads store start slot true after × (page_in slot ≡ page)
FoundIn reads false page start store (Err Memory) after = after ≡ store
FoundIn reads headed page start store (Err Device) after =
    (slot : List ℕ) × reads store start slot false after
FoundIn reads headed page start store (Err fault) after = ⊥

-- the same with the page LSN that stands with the image, or none where none does
abbrev pub FoundWithLsn : {S : Type 0} → Transfer S → Bool → ℕ → ℕ → S
    → Result (Option ℕ × List ℕ) PortFault → S → Type 0
FoundWithLsn reads headed page start store (Ok found) after =
    reads store start (slot_of headed page (unwrap_or found.0 0) found.1) true after
    × (is_some found.0 ≡ headed)
FoundWithLsn reads headed page start store (Err fault) after =
    FoundIn reads headed page start store (Err fault) after

-- what a write of a page gives, whose slot begins at this byte: all of the slot is written there,
-- or the store fails
abbrev pub WrittenBy : {S : Type 0} → Transfer S → ℕ → S → List ℕ → Result (Unit {0}) PortFault → S
    → Type 0
WrittenBy writes start store slot (Ok done) after = writes store start slot true after
WrittenBy writes start store slot (Err fault) after = writes store start slot false after

-- a read, and a write, of a slot in its place
abbrev pub ReadsSlot : {S : Type 0} → Transfer S → PortView S → ℕ → Result (List ℕ) PortFault
    → PortView S → Type 0
ReadsSlot reads port page found after =
    FoundIn reads port.headed page (place_of port page) port.store found after.store

abbrev pub WritesSlot : {S : Type 0} → Transfer S → PortView S → ℕ → List ℕ → ℕ
    → Result (Unit {0}) PortFault → PortView S → Type 0
WritesSlot writes port page image lsn written after =
    WrittenBy writes (place_of port page) port.store (slot_of port.headed page lsn image) written
    after.store

-- a read, and a write, by a port to a page file in a store: one call of the store, and none where
-- the page, or the image, is none of the file's
abbrev pub ReadsStore : {S : Type 0} → Transfer S → PortView S → ℕ → Result (List ℕ) PortFault
    → PortView S → Type 0
ReadsStore reads port page found after =
    ReadsPage port page found after
    × (port.device.pages ≤ page → after.store ≡ port.store)
    × (page < port.device.pages → ReadsSlot reads port page found after)

-- the same, and the page LSN is told
abbrev pub ReadsWithLsn : {S : Type 0} → Transfer S → PortView S → ℕ
    → Result (Option ℕ × List ℕ) PortFault → PortView S → Type 0
ReadsWithLsn reads port page found after =
    ReadsPage port page found after
    × (port.device.pages ≤ page → after.store ≡ port.store)
    × (page < port.device.pages →
    FoundWithLsn reads port.headed page (place_of port page) port.store found after.store)

abbrev pub WritesStore : {S : Type 0} → Transfer S → PortView S → ℕ → List ℕ → ℕ
    → Result (Unit {0}) PortFault → PortView S → Type 0
WritesStore writes port page image lsn written after =
    WritesPage port page image written after
    × (port.device.pages ≤ page → after.store ≡ port.store)
    × (length image ≢ port.device.size → after.store ≡ port.store)
    × (page < port.device.pages → length image ≡ port.device.size →
    WritesSlot writes port page image lsn written after)

-- a sync of a store: as it was, whether the sync was good, and the store as it is
abbrev pub StoreSync : Type 0 → Type 1
StoreSync S = S → Bool → S → Type 0

-- a sync by such a port: one of the store, which is as good as that one
abbrev pub SyncsStore : {S : Type 0} → StoreSync S → PortView S → Result (Unit {0}) PortFault
    → PortView S → Type 0
SyncsStore syncs port synced after =
    Syncs port synced after × syncs port.store (is_ok synced) after.store

-- of a file, std does not say what stands in it
abbrev pub any_transfer : {S : Type 0} → Transfer S
any_transfer store start bytes done after = Unit {0}

abbrev pub any_sync : {S : Type 0} → StoreSync S
any_sync store done after = Unit {0}

abbrev pub ReadsFile : {S : Type 0} → PortView S → ℕ → Result (List ℕ) PortFault → PortView S
    → Type 0
ReadsFile port page found after = ReadsStore any_transfer port page found after

abbrev pub WritesFile : {S : Type 0} → PortView S → ℕ → List ℕ → ℕ → Result (Unit {0}) PortFault
    → PortView S → Type 0
WritesFile port page image lsn written after =
    WritesStore any_transfer port page image lsn written after

abbrev pub SyncsFile : {S : Type 0} → PortView S → Result (Unit {0}) PortFault → PortView S
    → Type 0
SyncsFile port synced after = SyncsStore any_sync port synced after
