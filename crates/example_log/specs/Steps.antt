-- What each step of redo does with its device. A log is newest first, and so are calls.
use Rattle.std.specs.Prelude.{◌≡◌, ◌≢◌, ℕ, ◌+◌, Bool, true, false, List, [], ◌∷◌, ◌++◌, length, map, Result, Ok, Err}
use Rattle.bp_page.specs.declared.refusals.Refusal.{Refusal}
use Rattle.bp_trail.specs.declared.records.LogRecord.{LogRecord}
use Rattle.bp_page.specs.declared.refusals.PortFault.{PortFault}
use Rattle.bp_trail.specs.Lists.{greatest}
use Rattle.bp_trail.specs.Recovery.{AllFit, HasFullImage, redo, records_from}
use Rattle.example_log.specs.Disk.{DeviceCall, Writes}

-- the image of page p into which its records go: any, where one of them has all bytes, and nothing is
-- read; else the one that was read
pub data Begins (size from : ℕ) (log : List LogRecord) (p : ℕ)
    : List DeviceCall → Result (List ℕ) Refusal → Type 0 where
  anew : {image : List ℕ} → HasFullImage size (records_from from log p) → length image ≡ size
      → Begins size from log p [] (Ok image)
  read : {image : List ℕ} → length image ≡ size
      → Begins size from log p (DeviceCall.Read p image ∷ []) (Ok image)
  not_read : {why : Refusal} → Begins size from log p (DeviceCall.NotRead p ∷ []) (Err why)
  no_memory : {why : Refusal} → Begins size from log p [] (Err why)

-- redo of page p: nothing, where the log has no record of it; or it stopped before it wrote; or it
-- wrote what redo makes
pub data Redoes (size from : ℕ) (log : List LogRecord) (p : ℕ) : List DeviceCall → Bool → Type 0 where
  no_record : records_from from log p ≡ [] → Redoes size from log p [] true
  stopped : {calls : List DeviceCall} {begun : Result (List ℕ) Refusal}
      → Begins size from log p calls begun → Redoes size from log p calls false
  written : {calls : List DeviceCall} {image : List ℕ} (good : Bool)
      → Begins size from log p calls (Ok image) → records_from from log p ≢ []
      → AllFit size (records_from from log p)
      → Redoes size from log p (DeviceCall.Write p (redo from log p image) good ∷ calls) good

-- the greatest LSN of records, or 0
abbrev pub last_lsn : List LogRecord → ℕ
last_lsn log = greatest (map (λ r. r.lsn) log)

-- the last call was a write of page p under the greatest LSN of these records
abbrev pub Stamped : {P : Type 0} → Writes P → ℕ → List LogRecord → P → Type 0
Stamped {P} writes p log after =
    (before : P) × (image : List ℕ) × (written : Result (Unit {0}) PortFault)
    × writes before p image (last_lsn log) written after

-- redo of so many pages, from page 0 on
pub data RedoesEach (size from : ℕ) (log : List LogRecord) : ℕ → List DeviceCall → Type 0 where
  no_page : RedoesEach size from log 0 []
  next : {p : ℕ} {calls older : List DeviceCall} → RedoesEach size from log p older
      → Redoes size from log p calls true → RedoesEach size from log (p + 1) (calls ++ older)
