-- What each step of a session's call adds to its list.
use Rattle.std.specs.Prelude.{◌≡◌, ◌⊎◌, ◌≤◌, ◌<◌, ℕ, Bool, true, false, List, ◌∷◌, Option, Some, None, Result, Ok, Err}
use Rattle.std.specs.Prelude.{length, take, drop}
use Rattle.bp_page.specs.declared.refusals.Refusal.{Refusal}
use Rattle.bp_page.specs.declared.refusals.Refusal.TheVariants as refusal
use Rattle.bp_page.specs.declared.refusals.PortFault.{PortFault}
use Rattle.bp_trail.specs.Ends.{read_refusal, ended_reply, discarded_reply}
use Rattle.bp_core.specs.declared.passes.Pass.{Pass}
use Rattle.bp_core.specs.declared.passes.ReadTicket.{ReadTicket}
use Rattle.bp_core.specs.declared.passes.WriteTicket.{WriteTicket}
use Rattle.bp_session_log.specs.declared.pending.Fix.{Fix as Fixing}
use Rattle.bp_session_log.specs.declared.pending.Fix.TheVariants as fixing
use Rattle.bp_session_log.specs.declared.pending.Flush.{Flush as Flushing}
use Rattle.bp_session_log.specs.declared.pending.Flush.TheVariants as flushing
use Rattle.bp_trail.specs.declared.ends.Ended.{Ended}
use Rattle.bp_trail.specs.declared.ends.Discarded.{Discarded}
use Rattle.bp_trail.specs.declared.entries.Call.{Call}
use Rattle.bp_trail.specs.declared.entries.Call.TheVariants.{Mark, Fix, ReadEnd, WriteEnd, Flush, Discard, Tick, Read, Write, Unfix, Purge}
use Rattle.bp_trail.specs.declared.entries.Reply.{Reply}
use Rattle.bp_trail.specs.declared.entries.Reply.TheVariants.{Done, Hit, Load, WriteFirst, NoVictim, NeedLog, Busy, Fixed, ReadFailed, WrongPage, WriteFailed, Clean, Absent, Pinned, Content, Forgot}
use Rattle.bp_trail.specs.Event.{Grant, grant}
use Rattle.bp_trail.specs.Trail.{Trail}
use Rattle.bp_trail.specs.Clock.{durable}
use Rattle.bp_core.specs.CoreView.{CoreView}
use Rattle.bp_trail.specs.Pieces.{by}
use Rattle.bp_core.specs.Work.{Reads, Writes}

-- the list has a mark more
abbrev pub Marked : ℕ → ℕ → Trail → Trail → Type 0
Marked client lsn said after = after ≡ by client (Mark lsn) Done ∷ said

-- a look that saw this LSN: a mark of it exactly where it is above what the core knows to be
-- durable
abbrev pub LookOutcome : {A : Type 0} → ℕ → CoreView → ℕ → Result A Refusal → Trail → Trail → Type 0
LookOutcome client core seen (Ok done) said after =
    ((seen ≤ durable core.past) × (after ≡ said))
    ⊎ ((durable core.past < seen) × Marked client seen said after)
LookOutcome client core seen (Err refusal.TrailFull) said after =
    (durable core.past < seen) × (after ≡ said)
LookOutcome client core seen (Err _) said after = ⊥

-- at most one mark
abbrev pub MarksOnce : ℕ → Trail → Trail → Type 0
MarksOnce client said after = (after ≡ said) ⊎ ((lsn : ℕ) × Marked client lsn said after)

-- a refusal that is an entry's reply
abbrev pub refusal_reply : Refusal → Option Reply
refusal_reply refusal.NoVictim = Some NoVictim
refusal_reply (refusal.NeedLog lsn) = Some (NeedLog lsn)
refusal_reply refusal.Busy = Some Busy
refusal_reply refusal.Pinned = Some Pinned
refusal_reply _ = None

abbrev pub and_told : ℕ → Call → Option Reply → Trail → Trail
and_told client call None said = said
and_told client call (Some reply) said = by client call reply ∷ said

-- the refusals of one event
abbrev pub flush_refuses : Refusal → Bool
flush_refuses (refusal.NeedLog lsn) = true
flush_refuses refusal.Busy = true
flush_refuses refusal.TrailFull = true
flush_refuses refusal.OutOfMemory = true
flush_refuses _ = false

abbrev pub discard_refuses : Refusal → Bool
discard_refuses refusal.Busy = true
discard_refuses refusal.Pinned = true
discard_refuses refusal.TrailFull = true
discard_refuses refusal.OutOfMemory = true
discard_refuses _ = false

abbrev pub fix_refuses : Refusal → Bool
fix_refuses refusal.NoVictim = true
fix_refuses why = flush_refuses why

-- one fix event
abbrev pub AskFixOutcome : ℕ → ℕ → Result Fixing Refusal → Trail → Trail → Type 0
AskFixOutcome client page (Ok (fixing.Hit pass)) said after =
    (pass.client ≡ client) × (pass.page ≡ page)
    × (after ≡ by client (Fix page) (Hit pass.serial) ∷ said)
AskFixOutcome client page (Ok (fixing.Load ticket evicted)) said after =
    (ticket.client ≡ client) × (ticket.page ≡ page)
    × (after ≡ by client (Fix page) (Load ticket.serial evicted) ∷ said)
AskFixOutcome client page (Ok (fixing.WriteFirst ticket)) said after =
    (ticket.client ≡ client)
    × (after ≡ by client (Fix page) (WriteFirst ticket.serial ticket.page ticket.image) ∷ said)
AskFixOutcome client page (Err why) said after =
    (fix_refuses why ≡ true) × (after ≡ and_told client (Fix page) (refusal_reply why) said)

-- how much it takes of the room for passes, and of the places for copies of images
abbrev pub passes_taken : Result Fixing Refusal → ℕ
passes_taken (Ok how) = 1
passes_taken (Err why) = 0

abbrev pub places_taken : Result Fixing Refusal → ℕ
places_taken (Ok (fixing.Hit pass)) = 0
places_taken (Ok _) = 1
places_taken (Err why) = 0

-- one flush event
abbrev pub AskFlushOutcome : ℕ → ℕ → Result Flushing Refusal → Trail → Trail → Type 0
AskFlushOutcome client page (Ok flushing.Clean) said after =
    after ≡ by client (Flush page) Clean ∷ said
AskFlushOutcome client page (Ok flushing.Absent) said after =
    after ≡ by client (Flush page) Absent ∷ said
AskFlushOutcome client page (Ok (flushing.WriteFirst ticket)) said after =
    (ticket.client ≡ client) × (ticket.page ≡ page)
    × (after ≡ by client (Flush page) (WriteFirst ticket.serial ticket.page ticket.image) ∷ said)
AskFlushOutcome client page (Err why) said after =
    (flush_refuses why ≡ true) × (after ≡ and_told client (Flush page) (refusal_reply why) said)

-- how much it takes of either
abbrev pub tickets_taken : Result Flushing Refusal → ℕ
tickets_taken (Ok (flushing.WriteFirst ticket)) = 1
tickets_taken _ = 0

-- one discard event, for which nobody looks at the mark
abbrev pub DiscardTurn : ℕ → ℕ → Result Discarded Refusal → Trail → Trail → Type 0
DiscardTurn client page (Ok how) said after =
    after ≡ by client (Discard page) (discarded_reply how) ∷ said
DiscardTurn client page (Err why) said after =
    (discard_refuses why ≡ true) × (after ≡ and_told client (Discard page) (refusal_reply why) said)

-- calls of one event: the entry with the reply that the call answers, or a refusal and no entry; a
-- pass is the client's own, or refused
abbrev pub ReadSaid : ℕ → Pass → Result (List ℕ) Refusal → Trail → Trail → Type 0
ReadSaid client pass (Ok image) said after =
    (pass.client ≡ client) × (after ≡ by client (Read pass.serial pass.page) (Content image) ∷ said)
ReadSaid client pass (Err refusal.UnknownPass) said after = after ≡ said
ReadSaid client pass (Err refusal.TrailFull) said after = (pass.client ≡ client) × (after ≡ said)
ReadSaid client pass (Err refusal.OutOfMemory) said after = (pass.client ≡ client) × (after ≡ said)
ReadSaid client pass (Err _) said after = ⊥

-- the same, with so many bytes of the image from the offset on in place of those that were there; a
-- refusal leaves these
abbrev pub ReadIntoSaid : {A : Type 0} → ℕ → Pass → ℕ → List ℕ → Result A Refusal → List ℕ → Trail
    → Trail → Type 0
ReadIntoSaid client pass offset before (Ok done) bytes said after =
    (image : List ℕ) × ReadSaid client pass (Ok image) said after
    × (bytes ≡ take (length before) (drop offset image))
ReadIntoSaid client pass offset before (Err why) bytes said after =
    ReadSaid client pass (Err why) said after × (bytes ≡ before)

-- the entries of a page that is fixed, read and unfixed at once
abbrev pub and_read : ℕ → ℕ → ℕ → List ℕ → Trail → Trail
and_read client page n image said =
    by client (Unfix n page) Done
    ∷ by client (Read n page) (Content image)
    ∷ by client (Fix page) (Hit n) ∷ said

-- a look at a page that is in a frame has them, and bytes of the image from the offset on in place of
-- those that were there; where the page is in none, and where it is refused, it leaves both
abbrev pub ReadResidentTurn : ℕ → ℕ → ℕ → List ℕ → Result (Option Grant) Refusal → List ℕ → Trail
    → Trail → Type 0
ReadResidentTurn client page offset before (Ok (Some pass)) bytes said after =
    (image : List ℕ) × (pass ≡ grant client page pass.serial)
    × (after ≡ and_read client page pass.serial image said)
    × (bytes ≡ take (length before) (drop offset image))
ReadResidentTurn client page offset before (Ok None) bytes said after =
    (after ≡ said) × (bytes ≡ before)
ReadResidentTurn client page offset before (Err refusal.TrailFull) bytes said after =
    (after ≡ said) × (bytes ≡ before)
ReadResidentTurn client page offset before (Err refusal.OutOfMemory) bytes said after =
    (after ≡ said) × (bytes ≡ before)
ReadResidentTurn client page offset before (Err _) bytes said after = ⊥

abbrev pub WriteSaid : {A : Type 0} → ℕ → Pass → ℕ → List ℕ → ℕ → Result A Refusal → Trail → Trail
    → Type 0
WriteSaid client pass offset bytes lsn (Ok done) said after =
    (pass.client ≡ client)
    × (after ≡ by client (Write pass.serial pass.page offset bytes lsn) Done ∷ said)
WriteSaid client pass offset bytes lsn (Err refusal.UnknownPass) said after = after ≡ said
WriteSaid client pass offset bytes lsn (Err refusal.TrailFull) said after =
    (pass.client ≡ client) × (after ≡ said)
WriteSaid client pass offset bytes lsn (Err refusal.OutOfMemory) said after =
    (pass.client ≡ client) × (after ≡ said)
WriteSaid client pass offset bytes lsn (Err _) said after = ⊥

abbrev pub TickSaid : {A : Type 0} → ℕ → ℕ → Result A Refusal → Trail → Trail → Type 0
TickSaid client n (Ok done) said after = after ≡ by client (Tick n) Done ∷ said
TickSaid client n (Err refusal.TrailFull) said after = after ≡ said
TickSaid client n (Err refusal.ClockFull) said after = after ≡ said
TickSaid client n (Err refusal.OutOfMemory) said after = after ≡ said
TickSaid client n (Err _) said after = ⊥

abbrev pub PurgeSaid : ℕ → Result ℕ Refusal → Trail → Trail → Type 0
PurgeSaid client (Ok n) said after = after ≡ by client Purge (Forgot n) ∷ said
PurgeSaid client (Err refusal.TrailFull) said after = after ≡ said
PurgeSaid client (Err refusal.OutOfMemory) said after = after ≡ said
PurgeSaid client (Err _) said after = ⊥

-- one turn, which is one critical section: at most one mark, and then the event
pub record FixTurn (client page : ℕ) (answer : Result Fixing Refusal)
    (said after : Trail) : Type 0 where
  pub marked : Trail
  pub marks : MarksOnce client said marked
  pub asks : AskFixOutcome client page answer marked after

pub record FlushTurn (client page : ℕ) (answer : Result Flushing Refusal)
    (said after : Trail) : Type 0 where
  pub marked : Trail
  pub marks : MarksOnce client said marked
  pub asks : AskFlushOutcome client page answer marked after

-- the end of a read, by what was read; a ticket that the pool does not know leaves no entry
abbrev pub EndReadOutcome : ReadTicket → Result (List ℕ) PortFault → Result Pass Refusal → Trail
    → Trail → Type 0
EndReadOutcome ticket (Ok image) (Ok pass) said after =
    (pass.client ≡ ticket.client) × (pass.page ≡ ticket.page)
    × (after ≡ by ticket.client (ReadEnd ticket.serial ticket.page (Some image)) (Fixed pass.serial)
    ∷ said)
EndReadOutcome ticket (Err fault) (Err refusal.ReadFailed) said after =
    (read_refusal fault ≡ refusal.ReadFailed)
    × (after ≡ by ticket.client (ReadEnd ticket.serial ticket.page None) ReadFailed ∷ said)
EndReadOutcome ticket (Err fault) (Err refusal.WrongPage) said after =
    (read_refusal fault ≡ refusal.WrongPage)
    × (after ≡ by ticket.client (ReadEnd ticket.serial ticket.page None) WrongPage ∷ said)
EndReadOutcome ticket read (Err refusal.UnknownTicket) said after = after ≡ said
EndReadOutcome ticket _ _ said after = ⊥

-- the end of a write-out, likewise
abbrev pub EndWriteOutcome : {A : Type 0} → WriteTicket → Result A PortFault → Result Ended Refusal
    → Trail → Trail → Type 0
EndWriteOutcome ticket (Ok done) (Ok how) said after =
    after ≡ by ticket.client (WriteEnd ticket.serial ticket.page true) (ended_reply how) ∷ said
EndWriteOutcome ticket (Err fault) (Err refusal.WriteFailed) said after =
    after ≡ by ticket.client (WriteEnd ticket.serial ticket.page false) WriteFailed ∷ said
EndWriteOutcome ticket write (Err refusal.UnknownTicket) said after = after ≡ said
EndWriteOutcome ticket _ _ said after = ⊥

-- the ticket's page was read, or its page written with its image and its page LSN, and the end of
-- that has this answer; what a port says of its reads and writes leads from it, as it was, to it,
-- as it is
pub record LoadOutcome {A : Type 0} (reads : Reads A) (ticket : ReadTicket)
    (answer : Result Pass Refusal) (said after : Trail) (port kept : A) : Type 0 where
  pub read : Result (List ℕ) PortFault
  pub gave : reads port ticket.page read kept
  pub ended : EndReadOutcome ticket read answer said after

pub record WriteOutOutcome {A : Type 0} (writes : Writes A) (ticket : WriteTicket)
    (answer : Result Ended Refusal) (said after : Trail) (port kept : A) : Type 0 where
  pub written : Result (Unit {0}) PortFault
  pub gave : writes port ticket.page ticket.image ticket.lsn written kept
  pub ended : EndWriteOutcome ticket written answer said after
