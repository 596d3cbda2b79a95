-- The page LSN with which a call's write-outs reach the device.
use Rattle.std.specs.Prelude.{◌≡◌, ℕ, List, ◌∷◌, Result, Ok}
use Rattle.bp_page.specs.declared.refusals.Refusal.{Refusal}
use Rattle.bp_trail.specs.declared.entries.Call.{Call}
use Rattle.bp_trail.specs.declared.entries.Reply.TheVariants.{WriteFirst}
use Rattle.bp_trail.specs.Pieces.{by}
use Rattle.bp_trail.specs.Saved.{page_lsn}
use Rattle.bp_trail.specs.Trail.{Trail}
use Rattle.bp_core.specs.Work.{Writes}
use Rattle.bp_session_log.specs.declared.pending.Fix.{Fix as Fixing}
use Rattle.bp_session_log.specs.declared.pending.Fix.TheVariants as fixing
use Rattle.bp_session_log.specs.declared.pending.Flush.{Flush as Flushing}
use Rattle.bp_session_log.specs.declared.pending.Flush.TheVariants as flushing
use Rattle.bp_shared.specs.Sessions.{SessionValue}
use Rattle.bp_shared.specs.Telling.{GoesOnFrom}

-- after the first of these trails, and in the second, the client began a write-out of the page with
-- this image, and the page had this LSN then
pub record Began (client : ℕ) (from seen : Trail) (page : ℕ) (image : List ℕ) (lsn : ℕ)
    : Type 0 where
  pub call : Call
  pub ticket : ℕ
  pub before : Trail
  pub since : GoesOnFrom from before
  pub within : GoesOnFrom (by client call (WriteFirst ticket page image) ∷ before) seen
  pub lsn_is : lsn ≡ page_lsn before page

-- a write with the LSN that its page had when the session began the write-out, between these two
abbrev pub WithLsnSeen : {A : Type 0} → SessionValue → SessionValue → Writes A → Writes A
WithLsnSeen old new writes port page image lsn written after =
    Began old.client old.seen new.seen page image lsn × writes port page image lsn written after

-- one turn, where it begins a write-out
abbrev pub FixBegins : ℕ → Trail → Result Fixing Refusal → Trail → Type 0
FixBegins client from (Ok (fixing.WriteFirst ticket)) seen =
    Began client from seen ticket.page ticket.image ticket.lsn
FixBegins client from _ seen = Unit {0}

abbrev pub FlushBegins : ℕ → Trail → Result Flushing Refusal → Trail → Type 0
FlushBegins client from (Ok (flushing.WriteFirst ticket)) seen =
    Began client from seen ticket.page ticket.image ticket.lsn
FlushBegins client from _ seen = Unit {0}
