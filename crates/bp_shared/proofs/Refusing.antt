-- Why the core refuses an event: for want of room.
use Rattle.std.proofs.Common.{◌≡◌, sym, ◌∙◌, ap, subst, ℕ, true, false, List, Result, Ok, Err, inl, inr}
use Rattle.bp_page.specs.declared.refusals.Refusal.{Refusal}
use Rattle.bp_page.specs.declared.refusals.Refusal.TheVariants as refusal
use Rattle.bp_trail.specs.declared.entries.Call.{Call}
use Rattle.bp_trail.specs.declared.entries.Call.TheVariants.{Mark, Flush}
use Rattle.bp_trail.specs.Parameters.{Parameters}
use Rattle.bp_core.specs.declared.passes.Pass.{Pass}
use Rattle.bp_core.specs.CoreView.{CoreView, LacksRoomFor}
use Rattle.bp_core.specs.Outcomes.{TakesMemory, pass_is_out, StepOutcome, ReadOutcome, ReadIntoOutcome, WriteOutcome}
use Rattle.bp_session_log.specs.declared.pending.Flush.{Flush as Flushing}
use Rattle.bp_page.specs.declared.refusals.PortFault.{PortFault}
use Rattle.bp_trail.specs.declared.ends.Ended.{Ended}
use Rattle.bp_trail.specs.Trail.{Trail}
use Rattle.bp_core.specs.declared.passes.ReadTicket.{ReadTicket}
use Rattle.bp_core.specs.declared.passes.WriteTicket.{WriteTicket}
use Rattle.bp_core.specs.Work.{Reads, Writes}
use Rattle.bp_session_log.specs.Turns.{EndReadOutcome, EndWriteOutcome, LoadOutcome, WriteOutOutcome}
use Rattle.bp_session_log.specs.Causes.{Looks, AsksFlush}
use Rattle.bp_shared.specs.Keeping.{WantsMemory}
use Rattle.bp_shared.proofs.Stepping.{err}
use Rattle.bp_shared.proofs.Working.{why-of}

-- the core had no room for so many entries, and got none
abbrev pub Full : ℕ → CoreView → CoreView → Type 0
Full n core after = LacksRoomFor n core × (after ≡ core)

pub read_full : (core after : CoreView) (pass : Pass) (r : Result (List ℕ) Refusal) → ReadOutcome core pass r after → r ≡ Err refusal.TrailFull → Full 1 core after
read_full core after pass r h is = subst (λ x. ReadOutcome core pass x after) is h

pub read_into_full : {A : Type 0} (core after : CoreView) (pass : Pass) (offset : ℕ) (before bytes : List ℕ) (r : Result A Refusal) → ReadIntoOutcome core pass offset before r bytes after → r ≡ Err refusal.TrailFull → Full 1 core after
read_into_full core after pass offset before bytes r h is = (subst (λ x. ReadIntoOutcome core pass offset before x bytes after) is h).0

pub write_full : {A : Type 0} (core after : CoreView) (pass : Pass) (offset : ℕ) (bytes : List ℕ) (lsn : ℕ) (r : Result A Refusal) → WriteOutcome core pass offset bytes lsn r after → r ≡ Err refusal.TrailFull → Full 1 core after
write_full core after pass offset bytes lsn r h is = subst (λ x. WriteOutcome core pass offset bytes lsn x after) is h

-- an image that there is no memory for is that of a pass that is out
pub read_wants : (core after : CoreView) (pass : Pass) (r : Result (List ℕ) Refusal) (seen : Trail) → ReadOutcome core pass r after → seen ≡ after.past → r ≡ Err refusal.OutOfMemory → pass_is_out pass seen ≡ true
read_wants core after pass r seen h is refused =
    let o = subst (λ x. ReadOutcome core pass x after) refused h in
    subst (λ s. pass_is_out pass s ≡ true) (sym (is ∙ ap (λ (v : CoreView). v.past) o.2)) o.1

-- the end of device work wants no room
pub load_not_full : {A : Type 0} (reads : Reads A) (ticket : ReadTicket) (r : Result Pass Refusal) (said after : Trail) (port kept : A) → LoadOutcome reads ticket r said after port kept → r ≡ Err refusal.TrailFull → ⊥
load_not_full reads ticket r said after port kept o is = go o.read (subst (λ x. EndReadOutcome ticket o.read x said after) is o.ended)
  where
    go : (read : Result (List ℕ) PortFault) → EndReadOutcome ticket read (Err refusal.TrailFull) said after → ⊥
    go (Ok image) h = h
    go (Err fault) h = h

pub write_not_full : {A : Type 0} (writes : Writes A) (ticket : WriteTicket) (r : Result Ended Refusal) (said after : Trail) (port kept : A) → WriteOutOutcome writes ticket r said after port kept → r ≡ Err refusal.TrailFull → ⊥
write_not_full writes ticket r said after port kept o is = go o.written (subst (λ x. EndWriteOutcome ticket o.written x said after) is o.ended)
  where
    go : (written : Result (Unit {0}) PortFault) → EndWriteOutcome ticket written (Err refusal.TrailFull) said after → ⊥
    go (Ok done) h = h
    go (Err fault) h = h

-- nor memory
pub load_wants_none : {A : Type 0} (reads : Reads A) (ticket : ReadTicket) (r : Result Pass Refusal) (said after : Trail) (port kept : A) → LoadOutcome reads ticket r said after port kept → r ≡ Err refusal.OutOfMemory → ⊥
load_wants_none reads ticket r said after port kept o is = go o.read (subst (λ x. EndReadOutcome ticket o.read x said after) is o.ended)
  where
    go : (read : Result (List ℕ) PortFault) → EndReadOutcome ticket read (Err refusal.OutOfMemory) said after → ⊥
    go (Ok image) h = h
    go (Err fault) h = h

pub write_wants_none : {A : Type 0} (writes : Writes A) (ticket : WriteTicket) (r : Result Ended Refusal) (said after : Trail) (port kept : A) → WriteOutOutcome writes ticket r said after port kept → r ≡ Err refusal.OutOfMemory → ⊥
write_wants_none writes ticket r said after port kept o is = go o.written (subst (λ x. EndWriteOutcome ticket o.written x said after) is o.ended)
  where
    go : (written : Result (Unit {0}) PortFault) → EndWriteOutcome ticket written (Err refusal.OutOfMemory) said after → ⊥
    go (Ok done) h = h
    go (Err fault) h = h

-- a refusal is the same for another answer
pub same_why : {A B : Type 0} {why other : Refusal} → err A why ≡ err A other → err B why ≡ err B other
same_why {A} {B} h = ap (λ r. err B r) (ap why-of h)
