-- How the device's work grows with a session's list, entry by entry.
use Rattle.std.proofs.Common.{◌≡◌, ◌≢◌, refl, sym, ap, subst, ◌∙◌, ℕ, true, false, List, [], ◌∷◌, ◌++◌, append_assoc, Option, Some, None, Result, Ok, Err, inl, inr}
use Rattle.std.proofs.lemmas.Bool.{true≢false}
use Rattle.bp_page.specs.declared.refusals.Refusal.{Refusal}
use Rattle.bp_page.specs.declared.refusals.Refusal.TheVariants as refusal
use Rattle.bp_page.specs.declared.refusals.PortFault.{PortFault}
use Rattle.bp_page.specs.declared.refusals.PortFault.TheVariants as fault
use Rattle.bp_trail.specs.Ends.{read_refusal, read_failure, ended_reply}
use Rattle.bp_trail.specs.declared.entries.Call.{Call}
use Rattle.bp_trail.specs.declared.entries.Call.TheVariants.{Mark, Fix, ReadEnd, WriteEnd, Read, Unfix, Flush}
use Rattle.bp_trail.specs.declared.entries.Reply.{Reply}
use Rattle.bp_trail.specs.declared.entries.Reply.TheVariants.{Done, Hit, Load, WriteFirst, Fixed, ReadFailed, WrongPage, WriteFailed, Clean, Absent, Content}
use Rattle.bp_trail.specs.Trail.{Trail}
use Rattle.bp_trail.specs.Pieces.{by}
use Rattle.bp_core.specs.declared.passes.Pass.{Pass}
use Rattle.bp_core.specs.declared.passes.ReadTicket.{ReadTicket}
use Rattle.bp_core.specs.declared.passes.WriteTicket.{WriteTicket}
use Rattle.bp_trail.specs.declared.ends.Ended.{Ended}
use Rattle.bp_session_log.specs.declared.pending.Fix.{Fix as Fixing}
use Rattle.bp_session_log.specs.declared.pending.Fix.TheVariants as fixing
use Rattle.bp_session_log.specs.declared.pending.Flush.{Flush as Flushing}
use Rattle.bp_session_log.specs.declared.pending.Flush.TheVariants as flushing
use Rattle.bp_session_log.specs.Turns.{fix_refuses, flush_refuses, FixTurn, FlushTurn, MarksOnce, refusal_reply, and_told, EndReadOutcome, EndWriteOutcome, LoadOutcome, WriteOutOutcome}
use Rattle.bp_core.specs.Added.{Ends}
use Rattle.bp_core.specs.Work.{Reads, Writes, Works, WorksThrough}
use Rattle.bp_shared.proofs.Stepping.{err}
use Rattle.bp_session_log.specs.Turns.{ReadSaid, ReadIntoSaid}
use Rattle.bp_shared.specs.Sessions.{WithSomeLsn, DoesWorkSaid, ReadAndUnfixSaid}

-- the reply of a failed read, by its refusal
failed : (why : PortFault) → read_refusal why ≡ refusal.ReadFailed → ReadFailed ≡ read_failure why
failed fault.WrongPage h = absurd (let no : refusal.WrongPage ≡ refusal.ReadFailed = h in cc)
failed fault.Device h = refl
failed fault.Memory h = refl

wrong : (why : PortFault) → read_refusal why ≡ refusal.WrongPage → WrongPage ≡ read_failure why
wrong fault.WrongPage h = refl
wrong fault.Device h = absurd (let no : refusal.ReadFailed ≡ refusal.WrongPage = h in cc)
wrong fault.Memory h = absurd (let no : refusal.ReadFailed ≡ refusal.WrongPage = h in cc)

pub ok-is-no-err : {A : Type 0} (x : A) (why : Refusal) → Ok x ≢ err A why
ok-is-no-err x why is = cc

module _ {A : Type 0} (reads : Reads A) (writes : Writes A) where
  pub none-yet : (said : Trail) (port : A) → DoesWorkSaid reads writes said said port port
  none-yet said port = record { piece = []; grows = refl; through = refl }

  one-more : (said mid after : Trail) (port now kept : A) (client : ℕ) (call : Call) (reply : Reply) → DoesWorkSaid reads writes said mid port now → after ≡ by client call reply ∷ mid
      → Works reads (WithSomeLsn writes) mid call reply now kept → DoesWorkSaid reads writes said after port kept
  one-more said mid after port now kept client call reply w is work = record {
    piece = by client call reply ∷ w.piece;
    grows = is ∙ ap (λ es. by client call reply ∷ es) w.grows;
    through = (now, w.through, subst (λ past. Works reads (WithSomeLsn writes) past call reply now kept) w.grows work);
  }

  same-as : (said mid after : Trail) (port now : A) → DoesWorkSaid reads writes said mid port now → after ≡ mid → DoesWorkSaid reads writes said after port now
  same-as said mid after port now w is = record { piece = w.piece; grows = is ∙ w.grows; through = w.through }

  marked-work : (client : ℕ) (said mid after : Trail) (port now : A) → DoesWorkSaid reads writes said mid port now → MarksOnce client mid after → DoesWorkSaid reads writes said after port now
  marked-work client said mid after port now w (inl same) = same-as said mid after port now w same
  marked-work client said mid after port now w (inr m) = one-more said mid after port now now client (Mark m.0) Done w m.1 refl

  told-fix : (client page : ℕ) (reply : Option Reply) (said mid after : Trail) (port now : A) → DoesWorkSaid reads writes said mid port now → after ≡ and_told client (Fix page) reply mid
      → DoesWorkSaid reads writes said after port now
  told-fix client page None said mid after port now w is = same-as said mid after port now w is
  told-fix client page (Some reply) said mid after port now w is = one-more said mid after port now now client (Fix page) reply w is refl

  told-flush : (client page : ℕ) (reply : Option Reply) (said mid after : Trail) (port now : A) → DoesWorkSaid reads writes said mid port now → after ≡ and_told client (Flush page) reply mid
      → DoesWorkSaid reads writes said after port now
  told-flush client page None said mid after port now w is = same-as said mid after port now w is
  told-flush client page (Some reply) said mid after port now w is = one-more said mid after port now now client (Flush page) reply w is refl

  -- a turn has no work
  pub fix-turn-work : (client page : ℕ) (answer : Result Fixing Refusal) (said mid after : Trail) (port now : A) → DoesWorkSaid reads writes said mid port now → FixTurn client page answer mid after
      → DoesWorkSaid reads writes said after port now
  fix-turn-work client page (Ok (fixing.Hit pass)) said mid after port now w t =
      one-more said t.marked after port now now client (Fix page) (Hit pass.serial) (marked-work client said mid t.marked port now w t.marks) t.asks.2 refl
  fix-turn-work client page (Ok (fixing.Load ticket evicted)) said mid after port now w t =
      one-more said t.marked after port now now client (Fix page) (Load ticket.serial evicted) (marked-work client said mid t.marked port now w t.marks) t.asks.2 refl
  fix-turn-work client page (Ok (fixing.WriteFirst ticket)) said mid after port now w t =
      one-more said t.marked after port now now client (Fix page) (WriteFirst ticket.serial ticket.page ticket.image) (marked-work client said mid t.marked port now w t.marks) t.asks.1 refl
  fix-turn-work client page (Err why) said mid after port now w t =
      told-fix client page (refusal_reply why) said t.marked after port now (marked-work client said mid t.marked port now w t.marks) t.asks.1

  pub flush-turn-work : (client page : ℕ) (answer : Result Flushing Refusal) (said mid after : Trail) (port now : A) → DoesWorkSaid reads writes said mid port now → FlushTurn client page answer mid after
      → DoesWorkSaid reads writes said after port now
  flush-turn-work client page (Ok flushing.Clean) said mid after port now w t =
      one-more said t.marked after port now now client (Flush page) Clean (marked-work client said mid t.marked port now w t.marks) t.asks refl
  flush-turn-work client page (Ok flushing.Absent) said mid after port now w t =
      one-more said t.marked after port now now client (Flush page) Absent (marked-work client said mid t.marked port now w t.marks) t.asks refl
  flush-turn-work client page (Ok (flushing.WriteFirst ticket)) said mid after port now w t =
      one-more said t.marked after port now now client (Flush page) (WriteFirst ticket.serial ticket.page ticket.image) (marked-work client said mid t.marked port now w t.marks) t.asks.2 refl
  flush-turn-work client page (Err why) said mid after port now w t =
      told-flush client page (refusal_reply why) said t.marked after port now (marked-work client said mid t.marked port now w t.marks) t.asks.1

  -- the read of a load, and its end
  pub load-work : (ticket : ReadTicket) (answer : Result Pass Refusal) (said mid after : Trail) (port now kept : A) → DoesWorkSaid reads writes said mid port now → LoadOutcome reads ticket answer mid after now kept
      → (answer ≡ Err refusal.UnknownTicket → ⊥) → DoesWorkSaid reads writes said after port kept
  load-work ticket answer said mid after port now kept w l known = go l.read answer l.gave l.ended known
    where
      go : (read : Result (List ℕ) PortFault) (answer : Result Pass Refusal) → reads now ticket.page read kept → EndReadOutcome ticket read answer mid after → (answer ≡ Err refusal.UnknownTicket → ⊥)
          → DoesWorkSaid reads writes said after port kept
      go (Ok image) (Ok pass) gave h not =
          one-more said mid after port now kept ticket.client (ReadEnd ticket.serial ticket.page (Some image)) (Fixed pass.serial) w h.2 (record { found = Ok image; gave = gave; image_is = refl; answered = tt })
      go (Err why) (Err refusal.ReadFailed) gave h not =
          one-more said mid after port now kept ticket.client (ReadEnd ticket.serial ticket.page None) ReadFailed w h.1 (record { found = Err why; gave = gave; image_is = refl; answered = failed why h.0 })
      go (Err why) (Err refusal.WrongPage) gave h not =
          one-more said mid after port now kept ticket.client (ReadEnd ticket.serial ticket.page None) WrongPage w h.1 (record { found = Err why; gave = gave; image_is = refl; answered = wrong why h.0 })
      go (Ok image) (Err refusal.UnknownTicket) gave h not = absurd (not refl)
      go (Err why) (Err refusal.UnknownTicket) gave h not = absurd (not refl)
      go _ _ gave h not = absurd h

  -- the write of a write-out that has just begun, and its end
  pub write-work : (ticket : WriteTicket) (answer : Result Ended Refusal) (said mid after : Trail) (port now kept : A) → DoesWorkSaid reads writes said mid port now
      → Ends (WriteFirst ticket.serial ticket.page ticket.image) mid → WriteOutOutcome writes ticket answer mid after now kept → (answer ≡ Err refusal.UnknownTicket → ⊥) → DoesWorkSaid reads writes said after port kept
  write-work ticket answer said mid after port now kept w began o known = go o.written answer o.gave o.ended known
    where
      go : (written : Result (Unit {0}) PortFault) (answer : Result Ended Refusal) → writes now ticket.page ticket.image ticket.lsn written kept → EndWriteOutcome ticket written answer mid after
          → (answer ≡ Err refusal.UnknownTicket → ⊥) → DoesWorkSaid reads writes said after port kept
      go (Ok done) (Ok how) gave h not =
          one-more said mid after port now kept ticket.client (WriteEnd ticket.serial ticket.page true) (ended_reply how) w h (record { image = ticket.image; began = began; written = Ok done; gave = (ticket.lsn, gave); good_is = refl })
      go (Err why) (Err refusal.WriteFailed) gave h not =
          one-more said mid after port now kept ticket.client (WriteEnd ticket.serial ticket.page false) WriteFailed w h (record { image = ticket.image; began = began; written = Err why; gave = (ticket.lsn, gave); good_is = refl })
      go (Ok done) (Err refusal.UnknownTicket) gave h not = absurd (not refl)
      go (Err why) (Err refusal.UnknownTicket) gave h not = absurd (not refl)
      go _ _ gave h not = absurd h

  -- a read and an unfix have none
  told-read : (client : ℕ) (pass : Pass) (answer : Result (List ℕ) Refusal) (said mid after : Trail) (port now : A) → DoesWorkSaid reads writes said mid port now → ReadSaid client pass answer mid after → DoesWorkSaid reads writes said after port now
  told-read client pass (Ok image) said mid after port now w h = one-more said mid after port now now client (Read pass.serial pass.page) (Content image) w h.1 refl
  told-read client pass (Err refusal.UnknownPass) said mid after port now w h = same-as said mid after port now w h
  told-read client pass (Err refusal.TrailFull) said mid after port now w h = same-as said mid after port now w h.1
  told-read client pass (Err refusal.OutOfMemory) said mid after port now w h = same-as said mid after port now w h.1
  told-read client pass (Err _) said mid after port now w h = absurd h

  told-read-into : {B : Type 0} (client : ℕ) (pass : Pass) (offset : ℕ) (before : List ℕ) (answer : Result B Refusal) (bytes : List ℕ) (said mid after : Trail) (port now : A) → DoesWorkSaid reads writes said mid port now
      → ReadIntoSaid client pass offset before answer bytes mid after → DoesWorkSaid reads writes said after port now
  told-read-into client pass offset before (Ok done) bytes said mid after port now w h = told-read client pass (Ok h.0) said mid after port now w h.1
  told-read-into client pass offset before (Err why) bytes said mid after port now w h = told-read client pass (Err why) said mid after port now w h.0

  pub read-and-unfix-work : {B : Type 0} (client : ℕ) (pass : Pass) (offset : ℕ) (before : List ℕ) (answer : Result B Refusal) (bytes : List ℕ) (said mid after : Trail) (port now : A) → DoesWorkSaid reads writes said mid port now
      → ReadAndUnfixSaid client pass offset before answer bytes mid after → DoesWorkSaid reads writes said after port now
  read-and-unfix-work client pass offset before answer bytes said mid after port now w h =
      one-more said h.0 after port now now client (Unfix pass.serial pass.page) Done (told-read-into client pass offset before answer bytes said mid h.0 port now w h.1) h.2 refl

-- one after the other
module _ {A : Type 0} (reads : Reads A) (writes : Writes A) where
  works-append : (past p q : Trail) (port now kept : A) → WorksThrough reads writes past p port now → WorksThrough reads writes (p ++ past) q now kept → WorksThrough reads writes past (q ++ p) port kept
  works-append past p [] port now kept first then = subst (λ k. WorksThrough reads writes past p port k) (sym then) first
  works-append past p (e ∷ q) port now kept first then =
      (then.0, works-append past p q port now then.0 first then.1, subst (λ es. Works reads writes es e.call e.reply then.0 kept) (sym (append_assoc q p past)) then.2)

module _ {A : Type 0} (reads : Reads A) (writes : Writes A) where
  pub work-on : (said mid after : Trail) (port now kept : A) → DoesWorkSaid reads writes said mid port now → DoesWorkSaid reads writes mid after now kept → DoesWorkSaid reads writes said after port kept
  work-on said mid after port now kept w v = record {
    piece = v.piece ++ w.piece;
    grows = v.grows ∙ ap (λ es. v.piece ++ es) w.grows ∙ sym (append_assoc v.piece w.piece said);
    through = works-append reads (WithSomeLsn writes) said w.piece v.piece port now kept w.through
        (subst (λ es. WorksThrough reads (WithSomeLsn writes) es v.piece now kept) w.grows v.through);
  }

-- a turn that has begun a write-out ends with that
pub began-by-fix : (client page : ℕ) (ticket : WriteTicket) (mid after : Trail) → FixTurn client page (Ok (fixing.WriteFirst ticket)) mid after → Ends (WriteFirst ticket.serial ticket.page ticket.image) after
began-by-fix client page ticket mid after t = subst (λ es. Ends (WriteFirst ticket.serial ticket.page ticket.image) es) (sym t.asks.1) refl

pub began-by-flush : (client page : ℕ) (ticket : WriteTicket) (mid after : Trail) → FlushTurn client page (Ok (flushing.WriteFirst ticket)) mid after → Ends (WriteFirst ticket.serial ticket.page ticket.image) after
began-by-flush client page ticket mid after t = subst (λ es. Ends (WriteFirst ticket.serial ticket.page ticket.image) es) (sym t.asks.2) refl

abbrev pub why-of : {A : Type 0} → Result A Refusal → Refusal
why-of (Ok done) = refusal.NoVictim
why-of (Err why) = why

-- no event is refused for a ticket
pub known-fix : (A : Type 0) (why : Refusal) → fix_refuses why ≡ true → err A why ≢ err A refusal.UnknownTicket
known-fix A why refuses is = true≢false (sym refuses ∙ ap fix_refuses (ap why-of is))

pub known-flush : (A : Type 0) (why : Refusal) → flush_refuses why ≡ true → err A why ≢ err A refusal.UnknownTicket
known-flush A why refuses is = true≢false (sym refuses ∙ ap flush_refuses (ap why-of is))

-- a ticket that was unknown for one answer was so for another
pub unerr : {A B : Type 0} {why : Refusal} → err A why ≡ err A refusal.UnknownTicket → err B why ≡ err B refusal.UnknownTicket
unerr {A} {B} h = ap (λ r. err B r) (ap why-of h)
