-- A flush, turn by turn.
use Rattle.std.proofs.Common.{◌≡◌, ◌≢◌, refl, sym, ap, ◌∙◌, ℕ, true, false, [], ◌∷◌, ◌++◌, append_assoc, None, Result, Ok, Err}
use Rattle.bp_page.specs.declared.refusals.Refusal.{Refusal}
use Rattle.bp_page.specs.declared.refusals.Refusal.TheVariants as refusal
use Rattle.bp_page.specs.declared.refusals.PortFault.{PortFault}
use Rattle.bp_trail.specs.declared.entries.Entry.{Entry}
use Rattle.bp_trail.specs.declared.entries.Call.TheVariants.{Flush, WriteEnd}
use Rattle.bp_trail.specs.declared.entries.Reply.TheVariants.{WriteFirst, NeedLog, Busy, Cleaned, StillDirty, WriteFailed, Clean, Absent}
use Rattle.bp_core.specs.declared.passes.WriteTicket.{WriteTicket}
use Rattle.bp_session_log.specs.declared.pending.Flush.{Flush as Flushing}
use Rattle.bp_session_log.specs.declared.pending.Flush.TheVariants as flushing
use Rattle.bp_trail.specs.declared.ends.Ended.{Ended}
use Rattle.bp_trail.specs.declared.ends.Ended.TheVariants as ended
use Rattle.bp_trail.specs.Trail.{Trail}
use Rattle.bp_trail.specs.Pieces.{by, FlushGoesOn}
use Rattle.bp_trail.specs.Pieces.Manner.{session}
use Rattle.bp_trail.specs.Pieces.FlushGoesOn.{begins, marked, waited}
use Rattle.bp_trail.specs.Pieces.FlushPiece.{clean, absent, cleaned, still_dirty, need_log, write_failed, lost_write, no_room, no_memory}
use Rattle.bp_trail.specs.declared.ends.Flushed.{Flushed}
use Rattle.bp_trail.specs.declared.ends.Flushed.TheVariants as flushed
use Rattle.bp_session_log.specs.Turns.{FlushTurn, EndWriteOutcome, WriteOutOutcome}
use Rattle.bp_shared.proofs.Turning.{FlushWaits, FlushTurns, flush_marked}
use Rattle.bp_shared.specs.Sessions.{FlushSaid}
use Rattle.bp_core.specs.Added.{Gives}
use Rattle.bp_trail.specs.Ends.{ended_reply, flushed_reply}
use Rattle.bp_core.specs.Work.{Writes}

goes_on-append : (client page : ℕ) (xs ys : Trail) → FlushGoesOn session client page xs → FlushGoesOn session client page ys → FlushGoesOn session client page (xs ++ ys)
goes_on-append client page _ ys begins q = q
goes_on-append client page _ ys (marked lsn i p) q = marked lsn i (goes_on-append client page _ ys p q)
goes_on-append client page _ ys (waited i p) q = waited i (goes_on-append client page _ ys p q)

gives_none : (client page : ℕ) (piece : Trail) → FlushGoesOn session client page piece → Gives piece None
gives_none client page _ begins = λ said. refl
gives_none client page _ (marked lsn i p) = gives_none client page _ p
gives_none client page _ (waited i p) = gives_none client page _ p

pub flush_waits_none : (client page : ℕ) (said : Trail) → FlushWaits client page said said
flush_waits_none client page said = record { piece = []; goes_on = begins; grows = refl }

waits_more : (client page : ℕ) (said mid after : Trail) → FlushWaits client page said mid → FlushWaits client page mid after → FlushWaits client page said after
waits_more client page said mid after w v =
    record {
      piece = v.piece ++ w.piece;
      goes_on = goes_on-append client page v.piece w.piece v.goes_on w.goes_on;
      grows = v.grows ∙ ap (λ es. v.piece ++ es) w.grows ∙ sym (append_assoc v.piece w.piece said);
    }

pub flush_turn_more : (client page : ℕ) (answer : Result Flushing Refusal) (said mid after : Trail) → FlushWaits client page said mid → FlushTurn client page answer mid after → FlushTurns client page answer said after
flush_turn_more client page answer said mid after w t = record { marked = t.marked; waits = waits_more client page said mid t.marked w (flush_marked client page mid t.marked t.marks); asks = t.asks }

pub clean_said : (client page : ℕ) (said after : Trail) → FlushTurns client page (Ok flushing.Clean) said after → FlushSaid client page (Ok flushed.Clean) said after
clean_said client page said after t =
    let w = t.waits in
    let e = by client (Flush page) Clean in record { piece = e ∷ w.piece; grows = t.asks ∙ ap (λ es. e ∷ es) w.grows; of_row = (clean w.goes_on, refl); gives = gives_none client page w.piece w.goes_on }

pub absent_said : (client page : ℕ) (said after : Trail) → FlushTurns client page (Ok flushing.Absent) said after → FlushSaid client page (Ok flushed.Absent) said after
absent_said client page said after t =
    let w = t.waits in
    let e = by client (Flush page) Absent in record { piece = e ∷ w.piece; grows = t.asks ∙ ap (λ es. e ∷ es) w.grows; of_row = (absent w.goes_on, refl); gives = gives_none client page w.piece w.goes_on }

pub flush_busy_waits : (client page : ℕ) (said after : Trail) → FlushTurns client page (Err refusal.Busy) said after → FlushWaits client page said after
flush_busy_waits client page said after t =
    let e = by client (Flush page) Busy in
    record { piece = e ∷ t.waits.piece; goes_on = waited refl t.waits.goes_on; grows = t.asks.1 ∙ ap (λ es. e ∷ es) t.waits.grows }

pub flush_refused_said : (client page : ℕ) (why : Refusal) (said after : Trail) → why ≢ refusal.Busy → FlushTurns client page (Err why) said after → FlushSaid client page (Err why) said after
flush_refused_said client page (refusal.NeedLog lsn) said after not t =
    let w = t.waits in
    let e = by client (Flush page) (NeedLog lsn) in record { piece = e ∷ w.piece; grows = t.asks.1 ∙ ap (λ es. e ∷ es) w.grows; of_row = (need_log lsn w.goes_on, refl); gives = gives_none client page w.piece w.goes_on }
flush_refused_said client page refusal.Busy said after not t = absurd (not refl)
flush_refused_said client page refusal.TrailFull said after not t =
    let w = t.waits in record { piece = w.piece; grows = t.asks.1 ∙ w.grows; of_row = (no_room w.goes_on, tt); gives = gives_none client page w.piece w.goes_on }
flush_refused_said client page refusal.OutOfMemory said after not t =
    let w = t.waits in record { piece = w.piece; grows = t.asks.1 ∙ w.grows; of_row = (no_memory w.goes_on, tt); gives = gives_none client page w.piece w.goes_on }
flush_refused_said client page _ said after not t = absurd (let no : false ≡ true = t.asks.0 in cc)

module _ (client page : ℕ) (ticket : WriteTicket) (said mid after : Trail) (t : FlushTurns client page (Ok (flushing.WriteFirst ticket)) said mid) where
  abbrev w : FlushWaits client page said t.marked
  w = t.waits

  abbrev e : Entry
  e = by client (Flush page) (WriteFirst ticket.serial page ticket.image)

  grown : mid ≡ e ∷ (w.piece ++ said)
  grown = t.asks.2 ∙ ap (λ p. by client (Flush page) (WriteFirst ticket.serial p ticket.image) ∷ t.marked) t.asks.1 ∙ ap (λ es. e ∷ es) w.grows

  ended_said : (how : Ended) (answer : Flushed) (written : Result (Unit {0}) PortFault) → flushed_reply answer ≡ ended_reply how → EndWriteOutcome ticket written (Ok how) mid after → FlushSaid client page (Ok answer) said after
  ended_said ended.Cleaned answer (Ok done) is h =
      let end = λ (c p : ℕ). by c (WriteEnd ticket.serial p true) Cleaned in
      record {
        piece = end client page ∷ e ∷ w.piece;
        grows = h ∙ ap (λ c. end c ticket.page ∷ mid) t.asks.0 ∙ ap (λ p. end client p ∷ mid) t.asks.1 ∙ ap (λ es. end client page ∷ es) grown;
        of_row = (cleaned ticket.serial ticket.image w.goes_on, sym is);
        gives = gives_none client page w.piece w.goes_on;
      }
  ended_said ended.StillDirty answer (Ok done) is h =
      let end = λ (c p : ℕ). by c (WriteEnd ticket.serial p true) StillDirty in
      record {
        piece = end client page ∷ e ∷ w.piece;
        grows = h ∙ ap (λ c. end c ticket.page ∷ mid) t.asks.0 ∙ ap (λ p. end client p ∷ mid) t.asks.1 ∙ ap (λ es. end client page ∷ es) grown;
        of_row = (still_dirty ticket.serial ticket.image w.goes_on, sym is);
        gives = gives_none client page w.piece w.goes_on;
      }
  ended_said how answer (Err fault) is h = absurd h

  lost_said : (written : Result (Unit {0}) PortFault) (why : Refusal) → EndWriteOutcome ticket written (Err why) mid after → FlushSaid client page (Err why) said after
  lost_said (Err fault) refusal.WriteFailed h =
      let end = λ (c p : ℕ). by c (WriteEnd ticket.serial p false) WriteFailed in
      record {
        piece = end client page ∷ e ∷ w.piece;
        grows = h ∙ ap (λ c. end c ticket.page ∷ mid) t.asks.0 ∙ ap (λ p. end client p ∷ mid) t.asks.1 ∙ ap (λ es. end client page ∷ es) grown;
        of_row = (write_failed ticket.serial ticket.image w.goes_on, tt);
        gives = gives_none client page w.piece w.goes_on;
      }
  lost_said (Ok done) refusal.UnknownTicket h = record { piece = e ∷ w.piece; grows = h ∙ grown; of_row = (lost_write ticket.serial ticket.image refl w.goes_on, tt); gives = gives_none client page w.piece w.goes_on }
  lost_said (Err fault) refusal.UnknownTicket h = record { piece = e ∷ w.piece; grows = h ∙ grown; of_row = (lost_write ticket.serial ticket.image refl w.goes_on, tt); gives = gives_none client page w.piece w.goes_on }
  lost_said _ _ h = absurd h

pub flushed_said : {A : Type 0} (writes : Writes A) (port kept : A) (client page : ℕ) (ticket : WriteTicket) (how : Ended) (answer : Flushed) (said mid after : Trail) → FlushTurns client page (Ok (flushing.WriteFirst ticket)) said mid → flushed_reply answer ≡ ended_reply how
    → WriteOutOutcome writes ticket (Ok how) mid after port kept → FlushSaid client page (Ok answer) said after
flushed_said writes port kept client page ticket how answer said mid after t is o = ended_said client page ticket said mid after t how answer o.written is o.ended

pub unflushed_said : {A : Type 0} (writes : Writes A) (port kept : A) (client page : ℕ) (ticket : WriteTicket) (why : Refusal) (said mid after : Trail) → FlushTurns client page (Ok (flushing.WriteFirst ticket)) said mid → WriteOutOutcome writes ticket (Err why) mid after port kept → FlushSaid client page (Err why) said after
unflushed_said writes port kept client page ticket why said mid after t o = lost_said client page ticket said mid after t o.written why o.ended
