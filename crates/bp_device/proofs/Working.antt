-- How the device's work grows, entry by entry.
use Rattle.std.proofs.Common.{List, ◌≡◌, refl, sym, ◌∙◌, ap, subst, ℕ, true, false, [], ◌∷◌, ◌++◌, append_assoc, Some, None, Result, Ok, Err}
use Rattle.std.specs.Result.{is_ok}
use Rattle.bp_page.specs.declared.refusals.Refusal.{Refusal}
use Rattle.bp_page.specs.declared.refusals.Refusal.TheVariants as refusal
use Rattle.bp_page.specs.declared.refusals.PortFault.{PortFault}
use Rattle.bp_core.specs.declared.passes.Pass.{Pass}
use Rattle.bp_core.specs.declared.passes.ReadTicket.{ReadTicket}
use Rattle.bp_core.specs.declared.passes.WriteTicket.{WriteTicket}
use Rattle.bp_core.specs.declared.passes.Fix.{Fix as Fixing}
use Rattle.bp_core.specs.declared.passes.Fix.TheVariants as fixing
use Rattle.bp_core.specs.declared.passes.Flush.TheVariants as flushing
use Rattle.bp_trail.specs.declared.ends.Ended.{Ended}
use Rattle.bp_trail.specs.declared.entries.Call.{Call}
use Rattle.bp_trail.specs.declared.entries.Call.TheVariants.{Fix, ReadEnd, WriteEnd, Flush}
use Rattle.bp_trail.specs.declared.entries.Reply.{Reply}
use Rattle.bp_trail.specs.declared.entries.Reply.TheVariants.{Hit, Load, WriteFirst, NoVictim, NeedLog, Busy, Fixed, WriteFailed}
use Rattle.bp_trail.specs.Saved.{page_lsn}
use Rattle.bp_trail.specs.Pieces.{by}
use Rattle.bp_trail.specs.Ends.{read_failure, ended_reply}
use Rattle.bp_core.specs.CoreView.{CoreView, with_entry}
use Rattle.bp_core.specs.Outcomes.{FixOutcome, FlushOutcome}
use Rattle.bp_device.specs.Drivers.{LoadOutcome, SaveOutcome, NoRead}
use Rattle.bp_core.specs.Added.{with_piece, Ends}
use Rattle.bp_trail.specs.Trail.{Trail}
use Rattle.bp_core.specs.Work.{Reads, Writes, Works, WorksThrough, DoesWork}

module _ {A : Type 0} (reads : Reads A) (writes : Writes A) where
  pub none-yet : (core : CoreView) (port : A) → DoesWork reads writes core port core port
  none-yet core port = record { piece = []; is = refl; through = refl }

  -- one more entry
  pub one-more : (old mid new : CoreView) (port now after : A) (client : ℕ) (call : Call) (reply : Reply) → DoesWork reads writes old port mid now → new ≡ with_entry mid client call reply
      → Works reads writes mid.past call reply now after → DoesWork reads writes old port new after
  one-more old mid new port now after client call reply d is w = record {
    piece = by client call reply ∷ d.piece;
    is = is ∙ ap (λ core. with_entry core client call reply) d.is;
    through = (now, d.through, subst (λ (core : CoreView). Works reads writes core.past call reply now after) d.is w);
  }

  pub same-as : (old mid new : CoreView) (port now : A) → DoesWork reads writes old port mid now → new ≡ mid → DoesWork reads writes old port new now
  same-as old mid new port now d is = record { piece = d.piece; is = is ∙ d.is; through = d.through }

  pub through-append : (past xs ys : Trail) (port now after : A) → WorksThrough reads writes past ys port now → WorksThrough reads writes (ys ++ past) xs now after → WorksThrough reads writes past (xs ++ ys) port after
  through-append past [] ys port now after d e = subst (λ a. WorksThrough reads writes past ys port a) (sym e) d
  through-append past (x ∷ xs) ys port now after d e =
      (e.0, through-append past xs ys port now e.0 d e.1, subst (λ es. Works reads writes es x.call x.reply e.0 after) (sym (append_assoc xs ys past)) e.2)

  pub work-join : (old mid new : CoreView) (port now after : A) → DoesWork reads writes old port mid now → DoesWork reads writes mid now new after → DoesWork reads writes old port new after
  work-join old mid new port now after d e = record {
    piece = e.piece ++ d.piece;
    is = e.is ∙ ap (λ core. with_piece core e.piece) d.is ∙ ap (λ es. record old { past = es }) (sym (append_assoc e.piece d.piece old.past));
    through = through-append old.past e.piece d.piece port now after d.through (subst (λ es. WorksThrough reads writes es e.piece now after) (ap (λ core. core.past) d.is) e.through);
  }

  -- a fix, whatever it answers
  pub fixed-work : (old mid new : CoreView) (port now : A) (client page : ℕ) (result : Result Fixing Refusal) → DoesWork reads writes old port mid now → FixOutcome mid client page result new
      → DoesWork reads writes old port new now
  fixed-work old mid new port now client page (Ok (fixing.Hit pass)) d h = one-more old mid new port now now client (Fix page) (Hit pass.serial) d h.3.is refl
  fixed-work old mid new port now client page (Ok (fixing.Load ticket evicted)) d h = one-more old mid new port now now client (Fix page) (Load ticket.serial evicted) d h.3.is refl
  fixed-work old mid new port now client page (Ok (fixing.WriteFirst ticket)) d h = one-more old mid new port now now client (Fix page) (WriteFirst ticket.serial ticket.page ticket.image) d h.3.is refl
  fixed-work old mid new port now client page (Err refusal.NoVictim) d h = one-more old mid new port now now client (Fix page) NoVictim d h.1.is refl
  fixed-work old mid new port now client page (Err (refusal.NeedLog lsn)) d h = one-more old mid new port now now client (Fix page) (NeedLog lsn) d h.1.is refl
  fixed-work old mid new port now client page (Err refusal.Busy) d h = one-more old mid new port now now client (Fix page) Busy d h.1.is refl
  fixed-work old mid new port now client page (Err refusal.TrailFull) d h = same-as old mid new port now d h.1
  fixed-work old mid new port now client page (Err refusal.OutOfMemory) d h = same-as old mid new port now d h.1
  fixed-work old mid new port now client page (Err _) d h = absurd h

  -- a flush that was refused
  pub refused-flush-work : (old new : CoreView) (port : A) (client page : ℕ) (why : Refusal) → FlushOutcome old client page (Err why) new → DoesWork reads writes old port new port
  refused-flush-work old new port client page (refusal.NeedLog lsn) h = one-more old old new port port port client (Flush page) (NeedLog lsn) (none-yet old port) h.1.is refl
  refused-flush-work old new port client page refusal.Busy h = one-more old old new port port port client (Flush page) Busy (none-yet old port) h.1.is refl
  refused-flush-work old new port client page refusal.TrailFull h = same-as old old new port port (none-yet old port) h.1
  refused-flush-work old new port client page refusal.OutOfMemory h = same-as old old new port port (none-yet old port) h.1
  refused-flush-work old new port client page _ h = absurd h

  -- the read of a load, and its end
  pub loaded-work : (old read new : CoreView) (port now after : A) (ticket : ReadTicket) (found : Result (List ℕ) PortFault) (result : Result Pass Refusal)
      → DoesWork reads writes old port read now → LoadOutcome read ticket found result new → reads now ticket.page found after → DoesWork reads writes old port new after
  loaded-work old read new port now after ticket (Ok image) (Ok pass) d l gave =
      one-more old read new port now after ticket.client (ReadEnd ticket.serial ticket.page (Some image)) (Fixed pass.serial) d l.2
      (record { found = Ok image; gave = gave; image_is = refl; answered = tt })
  loaded-work old read new port now after ticket (Err fault) (Err why) d l gave =
      one-more old read new port now after ticket.client (ReadEnd ticket.serial ticket.page None) (read_failure fault) d l.1
      (record { found = Err fault; gave = gave; image_is = refl; answered = refl })
  loaded-work old read new port now after ticket (Ok image) (Err why) d l gave = absurd l
  loaded-work old read new port now after ticket (Err fault) (Ok pass) d l gave = absurd l

  -- what was written is the ticket's
  abbrev pub Writes-ticket : A → WriteTicket → Result (Unit {0}) PortFault → A → Type 0
  Writes-ticket port ticket written after = (p : ℕ) × (image : List ℕ) × (lsn : ℕ) × (p ≡ ticket.page) × (image ≡ ticket.image) × (lsn ≡ ticket.lsn) × writes port p image lsn written after

  gave-ticket : (port after : A) (ticket : WriteTicket) (written : Result (Unit {0}) PortFault) → Writes-ticket port ticket written after → writes port ticket.page ticket.image ticket.lsn written after
  gave-ticket port after ticket written w =
      subst (λ n. writes port ticket.page ticket.image n written after) w.5
      (subst (λ i. writes port ticket.page i w.2 written after) w.4 (subst (λ q. writes port q w.1 w.2 written after) w.3 w.6))

  -- the write of a write-out that has just begun, and its end
  written-work : (old begun new : CoreView) (port now after : A) (ticket : WriteTicket) (written : Result (Unit {0}) PortFault) (result : Result Ended Refusal)
      → DoesWork reads writes old port begun now → Ends (WriteFirst ticket.serial ticket.page ticket.image) begun.past → ticket.lsn ≡ page_lsn begun.past ticket.page
      → SaveOutcome begun ticket result new → is_ok result ≡ is_ok written → writes now ticket.page ticket.image ticket.lsn written after → DoesWork reads writes old port new after
  written-work old begun new port now after ticket written (Ok how) d began lsn s good gave =
      one-more old begun new port now after ticket.client (WriteEnd ticket.serial ticket.page true) (ended_reply how) d s.is
      (record { image = ticket.image; began = began; written = written; gave = subst (λ n. writes now ticket.page ticket.image n written after) lsn gave; good_is = good })
  written-work old begun new port now after ticket written (Err why) d began lsn s good gave =
      one-more old begun new port now after ticket.client (WriteEnd ticket.serial ticket.page false) WriteFailed d s.1.is
      (record { image = ticket.image; began = began; written = written; gave = subst (λ n. writes now ticket.page ticket.image n written after) lsn gave; good_is = good })

  -- that of a fix's victim
  pub victim-work : (old mid begun new : CoreView) (port now after : A) (client page : ℕ) (ticket : WriteTicket) (written : Result (Unit {0}) PortFault) (result : Result Ended Refusal)
      → DoesWork reads writes old port mid now → FixOutcome mid client page (Ok (fixing.WriteFirst ticket)) begun → SaveOutcome begun ticket result new → is_ok result ≡ is_ok written
      → Writes-ticket now ticket written after → DoesWork reads writes old port new after
  victim-work old mid begun new port now after client page ticket written result d h s good gave =
      written-work old begun new port now after ticket written result
      (fixed-work old mid begun port now client page (Ok (fixing.WriteFirst ticket)) d h)
      (subst (λ (core : CoreView). Ends (WriteFirst ticket.serial ticket.page ticket.image) core.past) (sym h.3.is) refl)
      (h.2 ∙ ap (λ (core : CoreView). page_lsn core.past ticket.page) (sym h.3.is)) s good (gave-ticket now after ticket written gave)

  -- and that of a flush
  pub flushed-work : (old begun new : CoreView) (port after : A) (client page : ℕ) (ticket : WriteTicket) (written : Result (Unit {0}) PortFault) (result : Result Ended Refusal)
      → FlushOutcome old client page (Ok (flushing.WriteFirst ticket)) begun → SaveOutcome begun ticket result new → is_ok result ≡ is_ok written
      → Writes-ticket port ticket written after → DoesWork reads writes old port new after
  flushed-work old begun new port after client page ticket written result h s good gave =
      written-work old begun new port port after ticket written result
      (one-more old old begun port port port client (Flush page) (WriteFirst ticket.serial ticket.page ticket.image) (none-yet old port) h.4.is refl)
      (subst (λ (core : CoreView). Ends (WriteFirst ticket.serial ticket.page ticket.image) core.past) (sym h.4.is) refl)
      (h.3 ∙ ap (λ (core : CoreView). page_lsn core.past ticket.page) (sym h.4.is)) s good (gave-ticket port after ticket written gave)

-- the same work, where each read is one of these others too
module _ {A : Type 0} (reads others : Reads A) (writes : Writes A) (as_read : (port : A) (page : ℕ) (found : Result (List ℕ) PortFault) (after : A) → reads port page found after → others port page found after) where
  works-as : (past : Trail) (call : Call) (reply : Reply) (port after : A) → Works reads writes past call reply port after → Works others writes past call reply port after
  works-as past (ReadEnd ticket page image) reply port after w =
      record { found = w.found; gave = as_read port page w.found after w.gave; image_is = w.image_is; answered = w.answered }
  works-as past (WriteEnd ticket page good) reply port after w = w
  works-as past _ reply port after w = w

  through-as : (past piece : Trail) (port after : A) → WorksThrough reads writes past piece port after → WorksThrough others writes past piece port after
  through-as past [] port after w = w
  through-as past (e ∷ older) port after w = (w.0, through-as past older port w.0 w.1, works-as (older ++ past) e.call e.reply w.0 after w.2)

  pub work-as : (old new : CoreView) (port after : A) → DoesWork reads writes old port new after → DoesWork others writes old port new after
  work-as old new port after d = record { piece = d.piece; is = d.is; through = through-as old.past d.piece port after d.through }

-- of what reads nothing, whatever reads are
pub no-read-work : {A : Type 0} (others : Reads A) (writes : Writes A) (old new : CoreView) (port after : A) → DoesWork NoRead writes old port new after → DoesWork others writes old port new after
no-read-work others writes old new port after d = work-as NoRead others writes (λ p page found q none. absurd none) old new port after d
