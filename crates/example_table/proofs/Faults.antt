-- Why a call of a table is refused.
use Rattle.std.proofs.Common.{◌≡◌, inl, inr, refl, ap, subst, ◌∙◌, ℕ, Bool, false, List, [], ◌∷◌, ◌++◌, length, map, arith}
use Rattle.std.specs.Prelude.{Result, Ok, Err, IfErr, slice_index_or}
use Rattle.bp_ports.specs.Files.{Transfer}
use Rattle.bp_trail.specs.declared.records.LogRecord.{LogRecord}
use Rattle.example_log.specs.declared.log.LogFile.{LogFile}
use Rattle.example_log.specs.declared.log.LogFault.{LogFault}
use Rattle.example_log.specs.declared.log.LogFault.TheVariants.{Full}
use Rattle.example_log.specs.Commits.{change_bytes, payload_of}
use Rattle.example_log.specs.Frames.{frame}
use Rattle.example_log.specs.LogFiles.{AppendFault, SamePlace}
use Rattle.example_log.specs.LogFiles.AppendFault.{has_ended, no_memory, no_lsn, no_room, failed}
use Rattle.example_table.specs.declared.table.TableFault.{TableFault}
use Rattle.example_table.specs.declared.table.TableFault.TheVariants.{Log}
use Rattle.example_table.specs.Faults.{IsFullFor, LacksRoom}
use Rattle.example_table.specs.Images.{AreImagedOnce}
use Rattle.example_table.specs.TableCalls.{under}

-- a payload tells no LSN
payload-plain : (lsn : ℕ) (changes : List LogRecord) → payload_of (map (under lsn) changes) ≡ payload_of changes
payload-plain lsn [] = refl
payload-plain lsn (r ∷ changes) = ap (λ (t : List ℕ). change_bytes r ++ t) (payload-plain lsn changes)

append-full : {S : Type 0} (writes : Transfer S) (old new : LogFile S) (payload : List ℕ) (fault : LogFault) → AppendFault writes old payload new fault → Log fault ≡ Log Full → LacksRoom old payload
append-full writes old new payload _ (has_ended e same) full = absurd (cc)
append-full writes old new payload _ (no_memory e same) full = absurd (cc)
append-full writes old new payload _ (no_lsn e le same) full = inl (omega arith)
append-full writes old new payload _ (no_room e lt same) full = inr lt
append-full writes old new payload _ (failed room ended gave) full = absurd (cc)

pub full-of : {S : Type 0} (writes : Transfer S) (old new : LogFile S) (payload : List ℕ) (lsn : ℕ) (changes : List LogRecord) (fault : LogFault) → payload ≡ payload_of (map (under lsn) changes) → AppendFault writes old payload new fault → Log fault ≡ Log Full → LacksRoom old (payload_of changes)
full-of writes old new payload lsn changes fault told why full = subst (LacksRoom old) (told ∙ payload-plain lsn changes) (append-full writes old new payload fault why full)

moved-room : {S : Type 0} (old mid : LogFile S) (payload : List ℕ) → SamePlace old mid → LacksRoom mid payload → LacksRoom old payload
moved-room old mid payload same (inl late) = inl (omega (arith, same.2))
moved-room old mid payload same (inr small) = inr (omega (arith, same.0, same.1, ap (λ (n : ℕ). length (frame n payload)) same.2))

pub full-after : {S : Type 0} (size : ℕ) (flags : List Bool) (old mid : LogFile S) (changes made : List LogRecord) (result : Result ℕ TableFault) → SamePlace old mid → AreImagedOnce size (λ p. slice_index_or flags p false) changes made
    → IfErr result (λ why. why ≡ Log Full → LacksRoom mid (payload_of made)) → IfErr result (λ why. why ≡ Log Full → IsFullFor size flags old changes)
full-after size flags old mid changes made (Ok lsn) same once h = tt
full-after size flags old mid changes made (Err why) same once h = λ full. (made, once, moved-room old mid (payload_of made) same (h full))
