-- How pieces grow, entry by entry.
use Rattle.std.proofs.Common.{List, ◌≡◌, refl, sym, ◌∙◌, ap, subst, ℕ, [], ◌∷◌, ◌++◌, true, false, Option, Some, None, Result, Ok, Err}
use Rattle.std.specs.Prelude.{IsErrAnd}
use Rattle.bp_page.specs.declared.refusals.Refusal.{Refusal}
use Rattle.bp_page.specs.declared.refusals.Refusal.TheVariants as refusal
use Rattle.bp_page.specs.declared.refusals.PortFault.{PortFault}
use Rattle.bp_page.specs.declared.refusals.PortFault.TheVariants as fault
use Rattle.bp_core.specs.declared.passes.Pass.{Pass}
use Rattle.bp_core.specs.declared.passes.ReadTicket.{ReadTicket}
use Rattle.bp_core.specs.declared.passes.WriteTicket.{WriteTicket}
use Rattle.bp_core.specs.declared.passes.Fix.{Fix as Fixing}
use Rattle.bp_core.specs.declared.passes.Fix.TheVariants as fixing
use Rattle.bp_core.specs.declared.passes.Flush.TheVariants as flushing
use Rattle.bp_trail.specs.declared.ends.Ended.{Ended}
use Rattle.bp_trail.specs.declared.ends.Ended.TheVariants as ended
use Rattle.bp_trail.specs.declared.entries.Call.{Call}
use Rattle.bp_trail.specs.declared.entries.Call.TheVariants.{Fix, ReadEnd, WriteEnd, Flush}
use Rattle.bp_trail.specs.declared.entries.Reply.{Reply}
use Rattle.bp_trail.specs.declared.entries.Reply.TheVariants.{Hit, Load, WriteFirst, NoVictim, NeedLog, Busy, Fixed, ReadFailed, WrongPage, WriteFailed, Cleaned, StillDirty, Clean, Absent}
use Rattle.bp_trail.specs.Lists.{and_given, without}
use Rattle.bp_trail.specs.Event.{page_of, pass_given, pass_back}
use Rattle.bp_trail.specs.Trail.{Trail}
use Rattle.bp_trail.specs.Passes.{passes_out}
use Rattle.bp_trail.specs.Ends.{read_refusal, read_failure, ended_reply, flushed_reply}
use Rattle.bp_core.specs.CoreView.{CoreView, with_entry}
use Rattle.bp_core.specs.Outcomes.{FixOutcome, FlushOutcome}
use Rattle.bp_trail.specs.Pieces.{by, FixGoesOn, FixPiece, FlushGoesOn, FlushPiece}
use Rattle.bp_trail.specs.Pieces.Manner.{driver}
use Rattle.bp_trail.specs.Pieces.Outcome.{accepted, refused}
use Rattle.bp_trail.specs.Pieces.FixGoesOn.{cleaned as on_cleaned, still_dirty as on_still_dirty}
use Rattle.bp_trail.specs.Pieces.FixPiece.{hit as fix_hit, fixed as fix_fixed, no_victim as fix_no_victim, need_log as fix_need_log, busy as fix_busy, read_failed as fix_read_failed, wrong_page as fix_wrong_page, write_failed as fix_write_failed, no_room as fix_no_room, no_memory as fix_no_memory}
use Rattle.bp_trail.specs.Pieces.FlushGoesOn.{begins as flush_begins}
use Rattle.bp_trail.specs.Pieces.FlushPiece.{clean as flush_clean, absent as flush_absent, cleaned as flush_cleaned, still_dirty as flush_still_dirty, need_log as flush_need_log, busy as flush_busy, write_failed as flush_write_failed, no_room as flush_no_room, no_memory as flush_no_memory}
use Rattle.bp_trail.specs.declared.ends.Flushed.{Flushed}
use Rattle.bp_trail.specs.declared.ends.Flushed.TheVariants as flushed
use Rattle.bp_device.specs.Drivers.{AddsPiece, DrivesFix, DrivesFlush, LoadOutcome, SaveOutcome, SavingOutcome}

-- no entry yet
pub adds-none : (core : CoreView) (P : Trail → Type 0) → P [] → AddsPiece core P None core
adds-none core P p = record { piece = []; is = refl; of_row = p; gives = λ said. refl }

-- the same entries, seen otherwise
pub adds-as : (old new later : CoreView) (P Q : Trail → Type 0) → AddsPiece old P None new → later ≡ new → ((piece : Trail) → P piece → Q piece) → AddsPiece old Q None later
adds-as old new later P Q a same as_q = record { piece = a.piece; is = same ∙ a.is; of_row = as_q a.piece a.of_row; gives = a.gives }

-- one more entry, of a call that gives no pass back
pub adds-entry : (old mid new : CoreView) (P Q : Trail → Type 0) (client : ℕ) (call : Call) (reply : Reply) → AddsPiece old P None mid → pass_back call ≡ None
    → new ≡ with_entry mid client call reply → ((piece : Trail) → P piece → Q (by client call reply ∷ piece)) → AddsPiece old Q (pass_given client (page_of call) reply) new
adds-entry old mid new P Q client call reply a keeps is as_q = record {
  piece = by client call reply ∷ a.piece;
  is = is ∙ ap (λ core. with_entry core client call reply) a.is;
  of_row = as_q a.piece a.of_row;
  gives = λ said. ap (λ o. and_given (pass_given client (page_of call) reply) (without (λ g. g.serial) o (passes_out (a.piece ++ said)))) keeps
      ∙ ap (λ out. and_given (pass_given client (page_of call) reply) out) (a.gives said);
}

abbrev pub Waits : CoreView → ℕ → ℕ → CoreView → Type 0
Waits old client page now = AddsPiece old (FixGoesOn driver client page) None now

-- a fix that waits with one more entry: its read, or the write-out of a victim, has begun
abbrev pub Began : ℕ → ℕ → Reply → Trail → Type 0
Began client page reply piece = (older : Trail) × (piece ≡ by client (Fix page) reply ∷ older) × FixGoesOn driver client page older

pub hit-drives : (old mid new : CoreView) (client page : ℕ) (pass : Pass) → Waits old client page mid → FixOutcome mid client page (Ok (fixing.Hit pass)) new → DrivesFix old client page (Ok pass) new
hit-drives old mid new client page pass waits h =
    (h.1, h.2, adds-entry old mid new _ _ client (Fix page) (Hit pass.serial) waits refl h.3.is (λ piece on. fix_hit pass.serial on))

began : (old mid new : CoreView) (client page : ℕ) (reply : Reply) → Waits old client page mid → new ≡ with_entry mid client (Fix page) reply → pass_given client page reply ≡ None
    → AddsPiece old (Began client page reply) None new
began old mid new client page reply waits is none =
    subst (λ given. AddsPiece old (Began client page reply) given new) none (adds-entry old mid new _ (Began client page reply) client (Fix page) reply waits refl is (λ piece on. (piece, refl, on)))

pub load-drives : (old mid read new : CoreView) (client page : ℕ) (ticket : ReadTicket) (evicted : Option ℕ) (found : Result (List ℕ) PortFault) (result : Result Pass Refusal) → Waits old client page mid
    → FixOutcome mid client page (Ok (fixing.Load ticket evicted)) read → LoadOutcome read ticket found result new → DrivesFix old client page result new
load-drives old mid read new client page ticket evicted (Ok image) (Ok pass) waits h l = (
  l.0 ∙ h.1,
  l.1 ∙ h.2,
  adds-entry old read new _ _ client (ReadEnd ticket.serial page (Some image)) (Fixed pass.serial) (began old mid read client page (Load ticket.serial evicted) waits h.3.is refl) refl is
      (λ piece on. subst (λ whole. FixPiece driver client page (by client (ReadEnd ticket.serial page (Some image)) (Fixed pass.serial) ∷ whole) accepted) (sym on.1) (fix_fixed ticket.serial pass.serial evicted image on.2)),
)
  where
    is : new ≡ with_entry read client (ReadEnd ticket.serial page (Some image)) (Fixed pass.serial)
    is = l.2 ∙ ap (λ who. with_entry read who (ReadEnd ticket.serial ticket.page (Some image)) (Fixed pass.serial)) h.1 ∙ ap (λ p. with_entry read client (ReadEnd ticket.serial p (Some image)) (Fixed pass.serial)) h.2
load-drives old mid read new client page ticket evicted (Err why) (Err r) waits h l = subst (λ r. DrivesFix old client page (Err r) new) (sym l.0) (go why is)
  where
    is : new ≡ with_entry read client (ReadEnd ticket.serial page None) (read_failure why)
    is = l.1 ∙ ap (λ who. with_entry read who (ReadEnd ticket.serial ticket.page None) (read_failure why)) h.1 ∙ ap (λ p. with_entry read client (ReadEnd ticket.serial p None) (read_failure why)) h.2

    ended : (reply : Reply) (number : ℕ) → pass_given client page reply ≡ None → new ≡ with_entry read client (ReadEnd ticket.serial page None) reply
        → ((older : Trail) → FixGoesOn driver client page older → FixPiece driver client page (by client (ReadEnd ticket.serial page None) reply ∷ by client (Fix page) (Load ticket.serial evicted) ∷ older) (refused number))
        → AddsPiece old (λ piece. FixPiece driver client page piece (refused number)) None new
    ended reply number none is of_row =
        subst (λ given. AddsPiece old (λ piece. FixPiece driver client page piece (refused number)) given new) none
        (adds-entry old read new _ _ client (ReadEnd ticket.serial page None) reply (began old mid read client page (Load ticket.serial evicted) waits h.3.is refl) refl is
        (λ piece on. subst (λ whole. FixPiece driver client page (by client (ReadEnd ticket.serial page None) reply ∷ whole) (refused number)) (sym on.1) (of_row on.0 on.2)))

    go : (f : PortFault) → new ≡ with_entry read client (ReadEnd ticket.serial page None) (read_failure f) → DrivesFix old client page (Err (read_refusal f)) new
    go fault.WrongPage is = ended WrongPage 19 refl is (λ older on. fix_wrong_page ticket.serial evicted on)
    go _ is = ended ReadFailed 17 refl is (λ older on. fix_read_failed ticket.serial evicted on)
load-drives old mid read new client page ticket evicted _ _ waits h l = absurd l

pub save-waits : (old mid written new : CoreView) (client page : ℕ) (ticket : WriteTicket) (end : Ended) → Waits old client page mid
    → FixOutcome mid client page (Ok (fixing.WriteFirst ticket)) written → SaveOutcome written ticket (Ok end) new → Waits old client page new
save-waits old mid written new client page ticket end waits h s = go end s
  where
    ticketed : (reply : Reply) → new ≡ with_entry written ticket.client (WriteEnd ticket.serial ticket.page true) reply → new ≡ with_entry written client (WriteEnd ticket.serial ticket.page true) reply
    ticketed reply is = is ∙ ap (λ who. with_entry written who (WriteEnd ticket.serial ticket.page true) reply) h.1

    begun : AddsPiece old (Began client page (WriteFirst ticket.serial ticket.page ticket.image)) None written
    begun = began old mid written client page (WriteFirst ticket.serial ticket.page ticket.image) waits h.3.is refl

    go : (end : Ended) → SaveOutcome written ticket (Ok end) new → Waits old client page new
    go ended.Cleaned s = adds-entry old written new _ _ client (WriteEnd ticket.serial ticket.page true) Cleaned begun refl (ticketed Cleaned s.is)
        (λ piece on. subst (λ whole. FixGoesOn driver client page (by client (WriteEnd ticket.serial ticket.page true) Cleaned ∷ whole)) (sym on.1) (on_cleaned ticket.serial ticket.page ticket.image on.2))
    go ended.StillDirty s = adds-entry old written new _ _ client (WriteEnd ticket.serial ticket.page true) StillDirty begun refl (ticketed StillDirty s.is)
        (λ piece on. subst (λ whole. FixGoesOn driver client page (by client (WriteEnd ticket.serial ticket.page true) StillDirty ∷ whole)) (sym on.1) (on_still_dirty ticket.serial ticket.page ticket.image on.2))

pub save-drives : (old mid written new : CoreView) (client page : ℕ) (ticket : WriteTicket) (r : Refusal) → Waits old client page mid
    → FixOutcome mid client page (Ok (fixing.WriteFirst ticket)) written → SaveOutcome written ticket (Err r) new → DrivesFix old client page (Err r) new
save-drives old mid written new client page ticket r waits h s =
    subst (λ r. DrivesFix old client page (Err r) new) (sym s.0)
    (adds-entry old written new _ _ client (WriteEnd ticket.serial ticket.page false) WriteFailed (began old mid written client page (WriteFirst ticket.serial ticket.page ticket.image) waits h.3.is refl) refl is
    (λ piece on. subst (λ whole. FixPiece driver client page (by client (WriteEnd ticket.serial ticket.page false) WriteFailed ∷ whole) (refused 18)) (sym on.1) (fix_write_failed ticket.serial ticket.page ticket.image on.2)))
  where
    is : new ≡ with_entry written client (WriteEnd ticket.serial ticket.page false) WriteFailed
    is = s.1.is ∙ ap (λ who. with_entry written who (WriteEnd ticket.serial ticket.page false) WriteFailed) h.1

pub refusal-drives : (old mid new : CoreView) (client page : ℕ) (r : Refusal) → Waits old client page mid → FixOutcome mid client page (Err r) new → DrivesFix old client page (Err r) new
refusal-drives old mid new client page refusal.NoVictim waits h = adds-entry old mid new _ _ client (Fix page) NoVictim waits refl h.1.is (λ piece on. fix_no_victim on)
refusal-drives old mid new client page (refusal.NeedLog lsn) waits h = adds-entry old mid new _ _ client (Fix page) (NeedLog lsn) waits refl h.1.is (λ piece on. fix_need_log lsn on)
refusal-drives old mid new client page refusal.Busy waits h = adds-entry old mid new _ _ client (Fix page) Busy waits refl h.1.is (λ piece on. fix_busy refl on)
refusal-drives old mid new client page refusal.TrailFull waits h = adds-as old mid new _ _ waits h.1 (λ piece on. fix_no_room on)
refusal-drives old mid new client page refusal.OutOfMemory waits h = adds-as old mid new _ _ waits h.1 (λ piece on. fix_no_memory on)
refusal-drives old mid new client page _ waits h = absurd h

-- the refusal that a `?` hands on
pub handed_on : {A : Type 0} (result : Result A Refusal) (why : Refusal) → IsErrAnd result (λ r. r ≡ why) → result ≡ Err why
handed_on (Ok done) why is = absurd is
handed_on (Err r) why is = ap Err is

-- any fix that asks for no write-out
pub fix-drives : (old mid new : CoreView) (client page : ℕ) (result : Result Fixing Refusal) → Waits old client page mid → FixOutcome mid client page result new
    → ((ticket : WriteTicket) → result ≡ Ok (fixing.WriteFirst ticket) → ⊥) → SavingOutcome old client page result new
fix-drives old mid new client page (Ok (fixing.Hit pass)) waits h other = hit-drives old mid new client page pass waits h
fix-drives old mid new client page (Ok (fixing.Load ticket evicted)) waits h other = (mid, waits, h)
fix-drives old mid new client page (Ok (fixing.WriteFirst ticket)) waits h other = absurd (other ticket refl)
fix-drives old mid new client page (Err why) waits h other = refusal-drives old mid new client page why waits h

-- a flush that has begun its write-out
abbrev pub BeganFlush : ℕ → ℕ → Reply → Trail → Type 0
BeganFlush client page reply piece = (older : Trail) × (piece ≡ by client (Flush page) reply ∷ older) × FlushGoesOn driver client page older

flush-entry : (old new : CoreView) (client page : ℕ) (reply : Reply) (P : Trail → Type 0) → new ≡ with_entry old client (Flush page) reply → pass_given client page reply ≡ None
    → ((piece : Trail) → FlushGoesOn driver client page piece → P (by client (Flush page) reply ∷ piece)) → AddsPiece old P None new
flush-entry old new client page reply P is none as_p =
    subst (λ given. AddsPiece old P given new) none (adds-entry old old new (FlushGoesOn driver client page) P client (Flush page) reply (adds-none old _ flush_begins) refl is as_p)

pub clean-drives : (old new : CoreView) (client page : ℕ) → FlushOutcome old client page (Ok flushing.Clean) new → DrivesFlush old client page (Ok flushed.Clean) new
clean-drives old new client page h = flush-entry old new client page Clean _ h.1.is refl (λ piece on. (flush_clean on, refl))

pub absent-drives : (old new : CoreView) (client page : ℕ) → FlushOutcome old client page (Ok flushing.Absent) new → DrivesFlush old client page (Ok flushed.Absent) new
absent-drives old new client page h = flush-entry old new client page Absent _ h.1.is refl (λ piece on. (flush_absent on, refl))

pub saved-drives : (old written new : CoreView) (client page : ℕ) (ticket : WriteTicket) (end : Ended) (f : Flushed) → ended_reply end ≡ flushed_reply f → FlushOutcome old client page (Ok (flushing.WriteFirst ticket)) written
    → SaveOutcome written ticket (Ok end) new → DrivesFlush old client page (Ok f) new
saved-drives old written new client page ticket end f same h s = go end same s
  where
    ticketed : (reply : Reply) → new ≡ with_entry written ticket.client (WriteEnd ticket.serial ticket.page true) reply → new ≡ with_entry written client (WriteEnd ticket.serial page true) reply
    ticketed reply is = is ∙ ap (λ who. with_entry written who (WriteEnd ticket.serial ticket.page true) reply) h.1 ∙ ap (λ p. with_entry written client (WriteEnd ticket.serial p true) reply) h.2

    begun : AddsPiece old (BeganFlush client page (WriteFirst ticket.serial page ticket.image)) None written
    begun = flush-entry old written client page (WriteFirst ticket.serial page ticket.image) _ (h.4.is ∙ ap (λ p. with_entry old client (Flush page) (WriteFirst ticket.serial p ticket.image)) h.2) refl (λ piece on. (piece, refl, on))

    go : (end : Ended) → ended_reply end ≡ flushed_reply f → SaveOutcome written ticket (Ok end) new → DrivesFlush old client page (Ok f) new
    go ended.Cleaned same s = adds-entry old written new _ _ client (WriteEnd ticket.serial page true) Cleaned begun refl (ticketed Cleaned s.is)
        (λ piece on. (subst (λ whole. FlushPiece driver client page (by client (WriteEnd ticket.serial page true) Cleaned ∷ whole) accepted) (sym on.1) (flush_cleaned ticket.serial ticket.image on.2), same))
    go ended.StillDirty same s = adds-entry old written new _ _ client (WriteEnd ticket.serial page true) StillDirty begun refl (ticketed StillDirty s.is)
        (λ piece on. (subst (λ whole. FlushPiece driver client page (by client (WriteEnd ticket.serial page true) StillDirty ∷ whole) accepted) (sym on.1) (flush_still_dirty ticket.serial ticket.image on.2), same))

pub save-flush-drives : (old written new : CoreView) (client page : ℕ) (ticket : WriteTicket) (r : Refusal) → FlushOutcome old client page (Ok (flushing.WriteFirst ticket)) written
    → SaveOutcome written ticket (Err r) new → DrivesFlush old client page (Err r) new
save-flush-drives old written new client page ticket r h s =
    subst (λ r. DrivesFlush old client page (Err r) new) (sym s.0)
    (adds-entry old written new _ _ client (WriteEnd ticket.serial page false) WriteFailed begun refl is
    (λ piece on. subst (λ whole. FlushPiece driver client page (by client (WriteEnd ticket.serial page false) WriteFailed ∷ whole) (refused 18)) (sym on.1) (flush_write_failed ticket.serial ticket.image on.2)))
  where
    begun : AddsPiece old (BeganFlush client page (WriteFirst ticket.serial page ticket.image)) None written
    begun = flush-entry old written client page (WriteFirst ticket.serial page ticket.image) _ (h.4.is ∙ ap (λ p. with_entry old client (Flush page) (WriteFirst ticket.serial p ticket.image)) h.2) refl (λ piece on. (piece, refl, on))

    is : new ≡ with_entry written client (WriteEnd ticket.serial page false) WriteFailed
    is = s.1.is ∙ ap (λ who. with_entry written who (WriteEnd ticket.serial ticket.page false) WriteFailed) h.1 ∙ ap (λ p. with_entry written client (WriteEnd ticket.serial p false) WriteFailed) h.2

pub flush-refusal-drives : (old new : CoreView) (client page : ℕ) (r : Refusal) → FlushOutcome old client page (Err r) new → DrivesFlush old client page (Err r) new
flush-refusal-drives old new client page (refusal.NeedLog lsn) h = flush-entry old new client page (NeedLog lsn) _ h.1.is refl (λ piece on. flush_need_log lsn on)
flush-refusal-drives old new client page refusal.Busy h = flush-entry old new client page Busy _ h.1.is refl (λ piece on. flush_busy refl on)
flush-refusal-drives old new client page refusal.TrailFull h = adds-as old old new (FlushGoesOn driver client page) _ (adds-none old _ flush_begins) h.1 (λ piece on. flush_no_room on)
flush-refusal-drives old new client page refusal.OutOfMemory h = adds-as old old new (FlushGoesOn driver client page) _ (adds-none old _ flush_begins) h.1 (λ piece on. flush_no_memory on)
flush-refusal-drives old new client page _ h = absurd h
