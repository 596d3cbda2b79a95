-- The calls of a device and of two files beside it, in one list, newest first, and what holds at each
-- moment between them.
use Rattle.std.specs.Prelude.{◌≡◌, List, [], ◌∷◌}
use Rattle.bp_ports.specs.Files.{Transfer, StoreSync}
use Rattle.example_log.specs.Disk.{DeviceCall, Reads, Writes, Syncs, Does}
use Rattle.example_log.specs.Files.{FileCall, FileDoes}

-- a call of the device, of the log's file, or of the other file
pub data Step : Type 0 where
  OfPages : DeviceCall → Step
  OfLog : FileCall → Step
  OfSpare : FileCall → Step

-- the calls of each
abbrev pub pages_in : List Step → List DeviceCall
pages_in [] = []
pages_in (Step.OfPages call ∷ older) = call ∷ pages_in older
pages_in (_ ∷ older) = pages_in older

abbrev pub log_in : List Step → List FileCall
log_in [] = []
log_in (Step.OfLog call ∷ older) = call ∷ log_in older
log_in (_ ∷ older) = log_in older

abbrev pub spare_in : List Step → List FileCall
spare_in [] = []
spare_in (Step.OfSpare call ∷ older) = call ∷ spare_in older
spare_in (_ ∷ older) = spare_in older

-- a device and both files, as they stand
pub record Stores (P S : Type 0) : Type 0 where
  pub port : P
  pub log : S
  pub spare : S

-- These calls, one after the other, led from the stores as they were to the stores as they are. A file
-- is shown how the device stands, so a call of it stands in the list where it was made
abbrev pub Made : {P S : Type 0} → Reads P → Writes P → Syncs P → (P → Transfer S) → (P → Transfer S)
    → (P → StoreSync S) → Stores P S → List Step → Stores P S → Type 0
Made page_reads page_writes page_syncs reads writes syncs old [] new = new ≡ old
Made {P} {S} page_reads page_writes page_syncs reads writes syncs old (Step.OfPages call ∷ older) new =
    (mid : Stores P S) × Made page_reads page_writes page_syncs reads writes syncs old older mid
    × Does page_reads page_writes page_syncs mid.port call new.port
    × (new.log ≡ mid.log) × (new.spare ≡ mid.spare)
Made {P} {S} page_reads page_writes page_syncs reads writes syncs old (Step.OfLog call ∷ older) new =
    (mid : Stores P S) × Made page_reads page_writes page_syncs reads writes syncs old older mid
    × FileDoes (reads mid.port) (writes mid.port) (syncs mid.port) mid.log call new.log
    × (new.port ≡ mid.port) × (new.spare ≡ mid.spare)
Made {P} {S} page_reads page_writes page_syncs reads writes syncs old (Step.OfSpare call ∷ older) new =
    (mid : Stores P S) × Made page_reads page_writes page_syncs reads writes syncs old older mid
    × FileDoes (reads mid.port) (writes mid.port) (syncs mid.port) mid.spare call new.spare
    × (new.port ≡ mid.port) × (new.log ≡ mid.log)

-- so of the calls so far at each moment: before the first of these calls, and after each
abbrev pub AtEach : {A : Type 0} → (List A → Type 0) → List A → Type 0
AtEach So [] = So []
AtEach So (call ∷ older) = So (call ∷ older) × AtEach So older
