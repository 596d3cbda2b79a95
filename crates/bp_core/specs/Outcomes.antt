-- What each call answers and leaves.
use Rattle.std.specs.Prelude.{◌≡◌, ℕ, ◌+◌, ◌^◌, ◌<◌, ◌≤◌, Bool, true, false, List, [], ◌++◌, ◌⊎◌}
use Rattle.std.specs.Prelude.{reverse, Option, Some, None, Result, Ok, Err, length, take, drop}
use Rattle.bp_page.specs.declared.refusals.Refusal.{Refusal}
use Rattle.bp_page.specs.declared.refusals.Refusal.TheVariants as refusal
use Rattle.bp_page.specs.declared.refusals.PortFault.{PortFault}
use Rattle.bp_trail.specs.Parameters.{Parameters}
use Rattle.bp_trail.specs.Event.{Grant, grant}
use Rattle.bp_trail.specs.Clock.{clock}
use Rattle.bp_trail.specs.Images.{held}
use Rattle.bp_trail.specs.Places.{resident}
use Rattle.bp_trail.specs.Passes.{passes, tickets, passes_out, reads_out, writes_out}
use Rattle.bp_trail.specs.Saved.{page_lsn}
use Rattle.bp_trail.specs.Legal.{is_out, Legal}
use Rattle.bp_trail.specs.PageMap.{has_free_frame, reply_of}
use Rattle.bp_trail.specs.Trail.{Trail}
use Rattle.bp_trail.specs.Cuts.{LeadsOn}
use Rattle.bp_trail.specs.declared.entries.Entry.{Entry}
use Rattle.bp_trail.specs.Ends.{read_refusal, read_failure, ended_reply}
use Rattle.bp_core.specs.CoreView.{CoreView, opening, EachPast, with_entry, HasRoomFor}
use Rattle.bp_core.specs.CoreView.{LacksRoomFor}
use Rattle.bp_trail.specs.declared.entries.Call.{Call}
use Rattle.bp_trail.specs.declared.entries.Call.TheVariants.{Tick, Fix, ReadEnd, WriteEnd, Read}
use Rattle.bp_trail.specs.declared.entries.Call.TheVariants.{Write, Unfix, Flush, Discard, Purge}
use Rattle.bp_trail.specs.declared.entries.Reply.{Reply}
use Rattle.bp_trail.specs.declared.entries.Reply.TheVariants.{Done, Hit, Load, WriteFirst, NoVictim}
use Rattle.bp_trail.specs.declared.entries.Reply.TheVariants.{NeedLog, Busy, Fixed}
use Rattle.bp_trail.specs.declared.entries.Reply.TheVariants.{WriteFailed, Content}
use Rattle.bp_trail.specs.declared.entries.Reply.TheVariants.{Clean, Absent, Discarded, Pinned, Forgot}
use Rattle.bp_core.specs.declared.passes.Pass.{Pass}
use Rattle.bp_core.specs.declared.passes.ReadTicket.{ReadTicket}
use Rattle.bp_core.specs.declared.passes.WriteTicket.{WriteTicket}
use Rattle.bp_core.specs.declared.passes.Fix.{Fix as Fixing}
use Rattle.bp_core.specs.declared.passes.Fix.TheVariants as fixing
use Rattle.bp_core.specs.declared.passes.Flush.{Flush as Flushing}
use Rattle.bp_core.specs.declared.passes.Flush.TheVariants as flushing
use Rattle.bp_trail.specs.declared.ends.Ended.{Ended}
use Rattle.bp_trail.specs.declared.ends.Discarded.{Discarded as Discarding}
use Rattle.bp_trail.specs.declared.ends.Discarded.TheVariants as discarding
use Rattle.bp_core.specs.declared.passes.EndRefusal.{EndRefusal}
use Rattle.bp_core.specs.declared.passes.EndRefusal.TheVariants as end_refusal

-- the replies for which memory is taken: for a pass, for a ticket and the page's history, for the
-- image that goes out
abbrev pub takes_memory : Reply → Bool
takes_memory (Hit pass) = true
takes_memory (Load ticket victim) = true
takes_memory (WriteFirst ticket page image) = true
takes_memory _ = false

-- the lawful reply to a call is one of them
abbrev pub TakesMemory : Call → CoreView → Type 0
TakesMemory call core =
    EachPast core (λ past. takes_memory (reply_of core.parameters past call) ≡ true)

-- some frame holds no page, and none is to be read into it; or there is none such
abbrev pub HasFreeFrame : CoreView → Type 0
HasFreeFrame core = EachPast core (λ past. has_free_frame core.parameters past ≡ true)

abbrev pub IsFull : CoreView → Type 0
IsFull core = EachPast core (λ past. has_free_frame core.parameters past ≡ false)

-- the lawful reply to a call
abbrev pub IsReply : CoreView → Call → Reply → Type 0
IsReply core call reply = EachPast core (λ past. reply ≡ reply_of core.parameters past call)

-- one more entry, of a legal trail
pub record Adds (old : CoreView) (client : ℕ) (call : Call) (reply : Reply) (new : CoreView)
    : Type 0 where
  pub is : new ≡ with_entry old client call reply
  pub legal : EachPast new (Legal new.parameters)

-- a pass or ticket is out where it was given so and not given back
abbrev pub pass_is_out : Pass → Trail → Bool
pass_is_out pass past = is_out (grant pass.client pass.page pass.serial) (passes_out past)

abbrev pub read_is_out : ReadTicket → Trail → Bool
read_is_out ticket past = is_out (grant ticket.client ticket.page ticket.serial) (reads_out past)

abbrev pub write_is_out : WriteTicket → Trail → Bool
write_is_out ticket past = is_out (grant ticket.client ticket.page ticket.serial) (writes_out past)

abbrev pub KnowsPass : CoreView → Pass → Type 0
KnowsPass core pass = EachPast core (λ past. pass_is_out pass past ≡ true)

abbrev pub LacksPass : CoreView → Pass → Type 0
LacksPass core pass = EachPast core (λ past. pass_is_out pass past ≡ false)

abbrev pub KnowsRead : CoreView → ReadTicket → Type 0
KnowsRead core ticket = EachPast core (λ past. read_is_out ticket past ≡ true)

abbrev pub LacksRead : CoreView → ReadTicket → Type 0
LacksRead core ticket = EachPast core (λ past. read_is_out ticket past ≡ false)

abbrev pub KnowsWrite : CoreView → WriteTicket → Type 0
KnowsWrite core ticket = EachPast core (λ past. write_is_out ticket past ≡ true)

abbrev pub LacksWrite : CoreView → WriteTicket → Type 0
LacksWrite core ticket = EachPast core (λ past. write_is_out ticket past ≡ false)

-- an entry that changes nothing but the trail
pub data IsQuiet : Call → Reply → Type 0 where
  fix_busy : (p : ℕ) → IsQuiet (Fix p) Busy
  fix_none : (p : ℕ) → IsQuiet (Fix p) NoVictim
  fix_log : (p lsn : ℕ) → IsQuiet (Fix p) (NeedLog lsn)
  flush_busy : (p : ℕ) → IsQuiet (Flush p) Busy
  flush_absent : (p : ℕ) → IsQuiet (Flush p) Absent
  flush_clean : (p : ℕ) → IsQuiet (Flush p) Clean
  flush_log : (p lsn : ℕ) → IsQuiet (Flush p) (NeedLog lsn)
  discard_busy : (p : ℕ) → IsQuiet (Discard p) Busy
  discard_pinned : (p : ℕ) → IsQuiet (Discard p) Pinned
  page_read : (n p : ℕ) (image : List ℕ) → IsQuiet (Read n p) (Content image)

-- the calls by which a write-out begins
pub data IsBegin : Call → Type 0 where
  by_fix : (p : ℕ) → IsBegin (Fix p)
  by_flush : (p : ℕ) → IsBegin (Flush p)

abbrev pub BeginOutcome : CoreView → ℕ → Call → ℕ → Result WriteTicket Refusal → CoreView → Type 0
BeginOutcome old client call page (Ok ticket) new =
    (ticket.client ≡ client) × (ticket.page ≡ page)
    × EachPast old (λ past. ticket.lsn ≡ page_lsn past page)
    × Adds old client call (WriteFirst ticket.serial ticket.page ticket.image) new
BeginOutcome old client call page (Err refusal.OutOfMemory) new = new ≡ old
BeginOutcome old client call page (Err _) new = ⊥

-- what a core may be made with, whose keeper has room for so many entries at most
pub record IsFitUpTo (most_room : ℕ) (c : Parameters) : Type 0 where
  pub frames : 1 ≤ c.frames
  pub few_frames : c.frames ≤ 65536
  pub clients : 1 ≤ c.clients
  pub few_clients : c.clients ≤ 64
  pub room : 1 ≤ c.room
  pub small_room : c.room ≤ most_room

-- and one whose keeper has the entries in memory
abbrev pub IsFit : Parameters → Type 0
IsFit c = IsFitUpTo 16777216 c

abbrev pub NewOutcome : ℕ → Parameters → Result CoreView Refusal → Type 0
NewOutcome most_room c (Ok core) =
    IsFitUpTo most_room c × (core ≡ record { parameters = c; before = []; past = [] })
NewOutcome most_room c (Err refusal.BadSettings) = ¬ IsFitUpTo most_room c
NewOutcome most_room c (Err refusal.OutOfMemory) = IsFitUpTo most_room c
NewOutcome most_room c (Err _) = ⊥

-- the trail is handed out, and the next one opens where it led
pub record Cuts (old : CoreView) (entries : List Entry) (new : CoreView) : Type 0 where
  pub is : new ≡ record old { before = old.past }
  pub whole : reverse entries ++ old.before ≡ old.past
  pub few_passes : EachPast old (λ past. passes past ≤ 2 ^ 62)
  pub few_tickets : EachPast old (λ past. tickets past ≤ 2 ^ 62)
  pub leads_on : LeadsOn old.parameters (opening old) (reverse entries) (opening new)
  pub legal : EachPast new (Legal new.parameters)

abbrev pub CutRefused : CoreView → Refusal → CoreView → Type 0
CutRefused old refusal.ClockFull new =
    EachPast old (λ past. (2 ^ 62 < passes past) ⊎ (2 ^ 62 < tickets past)) × (new ≡ old)
CutRefused old refusal.OutOfMemory new =
    EachPast old (λ past. passes past ≤ 2 ^ 62) × EachPast old (λ past. tickets past ≤ 2 ^ 62)
    × (new ≡ old)
CutRefused old _ new = ⊥

-- a call that is refused for want of room alone
abbrev pub StepOutcome : {A : Type 0} → CoreView → ℕ → Call → Result A Refusal → CoreView → Type 0
StepOutcome old client call (Ok done) new = HasRoomFor 1 old × Adds old client call Done new
StepOutcome old client call (Err refusal.TrailFull) new = LacksRoomFor 1 old × (new ≡ old)
StepOutcome old client call (Err _) new = ⊥

abbrev pub TickOutcome : {A : Type 0} → CoreView → ℕ → ℕ → Result A Refusal → CoreView → Type 0
TickOutcome old client n (Ok done) new =
    HasRoomFor 1 old × EachPast old (λ past. clock past + n ≤ 2 ^ 62)
    × Adds old client (Tick n) Done new
TickOutcome old client n (Err refusal.TrailFull) new = LacksRoomFor 1 old × (new ≡ old)
TickOutcome old client n (Err refusal.ClockFull) new =
    HasRoomFor 1 old × EachPast old (λ past. 2 ^ 62 < clock past + n) × (new ≡ old)
TickOutcome old client n (Err _) new = ⊥

abbrev pub FixOutcome : CoreView → ℕ → ℕ → Result Fixing Refusal → CoreView → Type 0
FixOutcome old client page (Ok (fixing.Hit pass)) new =
    HasRoomFor 3 old × (pass.client ≡ client) × (pass.page ≡ page)
    × Adds old client (Fix page) (Hit pass.serial) new
FixOutcome old client page (Ok (fixing.Load ticket evicted)) new =
    HasRoomFor 3 old × (ticket.client ≡ client) × (ticket.page ≡ page)
    × Adds old client (Fix page) (Load ticket.serial evicted) new
FixOutcome old client page (Ok (fixing.WriteFirst ticket)) new =
    HasRoomFor 3 old × (ticket.client ≡ client)
    × EachPast old (λ past. ticket.lsn ≡ page_lsn past ticket.page)
    × Adds old client (Fix page) (WriteFirst ticket.serial ticket.page ticket.image) new
FixOutcome old client page (Err refusal.NoVictim) new =
    HasRoomFor 3 old × Adds old client (Fix page) NoVictim new
FixOutcome old client page (Err (refusal.NeedLog lsn)) new =
    HasRoomFor 3 old × Adds old client (Fix page) (NeedLog lsn) new
FixOutcome old client page (Err refusal.Busy) new =
    HasRoomFor 3 old × Adds old client (Fix page) Busy new
FixOutcome old client page (Err refusal.TrailFull) new = LacksRoomFor 3 old × (new ≡ old)
FixOutcome old client page (Err refusal.OutOfMemory) new = HasRoomFor 3 old × (new ≡ old)
FixOutcome old client page (Err _) new = ⊥

abbrev pub FlushOutcome : CoreView → ℕ → ℕ → Result Flushing Refusal → CoreView → Type 0
FlushOutcome old client page (Ok flushing.Clean) new =
    HasRoomFor 2 old × Adds old client (Flush page) Clean new
FlushOutcome old client page (Ok flushing.Absent) new =
    HasRoomFor 2 old × Adds old client (Flush page) Absent new
FlushOutcome old client page (Ok (flushing.WriteFirst ticket)) new =
    HasRoomFor 2 old × (ticket.client ≡ client) × (ticket.page ≡ page)
    × EachPast old (λ past. ticket.lsn ≡ page_lsn past ticket.page)
    × Adds old client (Flush page) (WriteFirst ticket.serial ticket.page ticket.image) new
FlushOutcome old client page (Err (refusal.NeedLog lsn)) new =
    HasRoomFor 2 old × Adds old client (Flush page) (NeedLog lsn) new
FlushOutcome old client page (Err refusal.Busy) new =
    HasRoomFor 2 old × Adds old client (Flush page) Busy new
FlushOutcome old client page (Err refusal.TrailFull) new = LacksRoomFor 2 old × (new ≡ old)
FlushOutcome old client page (Err refusal.OutOfMemory) new = HasRoomFor 2 old × (new ≡ old)
FlushOutcome old client page (Err _) new = ⊥

abbrev pub DiscardOutcome : CoreView → ℕ → ℕ → Result Discarding Refusal → CoreView → Type 0
DiscardOutcome old client page (Ok discarding.Left) new =
    HasRoomFor 1 old × Adds old client (Discard page) Discarded new
DiscardOutcome old client page (Ok discarding.Absent) new =
    HasRoomFor 1 old × Adds old client (Discard page) Absent new
DiscardOutcome old client page (Err refusal.Pinned) new =
    HasRoomFor 1 old × Adds old client (Discard page) Pinned new
DiscardOutcome old client page (Err refusal.Busy) new =
    HasRoomFor 1 old × Adds old client (Discard page) Busy new
DiscardOutcome old client page (Err refusal.TrailFull) new = LacksRoomFor 1 old × (new ≡ old)
DiscardOutcome old client page (Err _) new = ⊥

abbrev pub ReadEndOutcome : CoreView → ReadTicket → Result (List ℕ) PortFault
    → Result Pass (EndRefusal ReadTicket (Result (List ℕ) PortFault)) → CoreView → Type 0
ReadEndOutcome old ticket (Ok image) (Ok pass) new =
    (pass.client ≡ ticket.client) × (pass.page ≡ ticket.page) × KnowsRead old ticket
    × Adds old ticket.client (ReadEnd ticket.serial ticket.page (Some image)) (Fixed pass.serial)
    new
ReadEndOutcome old ticket (Err fault) (Err (end_refusal.Failed why)) new =
    (why ≡ read_refusal fault) × KnowsRead old ticket
    × Adds old ticket.client (ReadEnd ticket.serial ticket.page None) (read_failure fault) new
ReadEndOutcome old ticket outcome (Err (end_refusal.Unknown same back)) new =
    (same ≡ ticket) × (back ≡ outcome) × LacksRead old ticket × (new ≡ old)
ReadEndOutcome old ticket _ _ new = ⊥

abbrev pub WriteEndOutcome : CoreView → WriteTicket → Result (Unit {0}) PortFault
    → Result Ended (EndRefusal WriteTicket (Result (Unit {0}) PortFault)) → CoreView → Type 0
WriteEndOutcome old ticket (Ok done) (Ok how) new =
    KnowsWrite old ticket
    × Adds old ticket.client (WriteEnd ticket.serial ticket.page true) (ended_reply how) new
WriteEndOutcome old ticket (Err fault) (Err (end_refusal.Failed refusal.WriteFailed)) new =
    KnowsWrite old ticket
    × Adds old ticket.client (WriteEnd ticket.serial ticket.page false) WriteFailed new
WriteEndOutcome old ticket outcome (Err (end_refusal.Unknown same back)) new =
    (same ≡ ticket) × (back ≡ outcome) × LacksWrite old ticket × (new ≡ old)
WriteEndOutcome old ticket _ _ new = ⊥

-- the same ends, by what their tickets were given as
abbrev pub ReadEndByOutcome : CoreView → Grant → Result (List ℕ) PortFault
    → Result Pass (EndRefusal Grant (Result (List ℕ) PortFault)) → CoreView → Type 0
ReadEndByOutcome old ticket (Ok image) (Ok pass) new =
    (pass.client ≡ ticket.client) × (pass.page ≡ ticket.page)
    × EachPast old (λ past. is_out ticket (reads_out past) ≡ true)
    × Adds old ticket.client (ReadEnd ticket.serial ticket.page (Some image)) (Fixed pass.serial)
    new
ReadEndByOutcome old ticket (Err fault) (Err (end_refusal.Failed why)) new =
    (why ≡ read_refusal fault) × EachPast old (λ past. is_out ticket (reads_out past) ≡ true)
    × Adds old ticket.client (ReadEnd ticket.serial ticket.page None) (read_failure fault) new
ReadEndByOutcome old ticket outcome (Err (end_refusal.Unknown same back)) new =
    (same ≡ ticket) × (back ≡ outcome)
    × EachPast old (λ past. is_out ticket (reads_out past) ≡ false) × (new ≡ old)
ReadEndByOutcome old ticket _ _ new = ⊥

abbrev pub WriteEndByOutcome : CoreView → Grant → Result (Unit {0}) PortFault
    → Result Ended (EndRefusal Grant (Result (Unit {0}) PortFault)) → CoreView → Type 0
WriteEndByOutcome old ticket (Ok done) (Ok how) new =
    EachPast old (λ past. is_out ticket (writes_out past) ≡ true)
    × Adds old ticket.client (WriteEnd ticket.serial ticket.page true) (ended_reply how) new
WriteEndByOutcome old ticket (Err fault) (Err (end_refusal.Failed refusal.WriteFailed)) new =
    EachPast old (λ past. is_out ticket (writes_out past) ≡ true)
    × Adds old ticket.client (WriteEnd ticket.serial ticket.page false) WriteFailed new
WriteEndByOutcome old ticket outcome (Err (end_refusal.Unknown same back)) new =
    (same ≡ ticket) × (back ≡ outcome)
    × EachPast old (λ past. is_out ticket (writes_out past) ≡ false) × (new ≡ old)
WriteEndByOutcome old ticket _ _ new = ⊥

abbrev pub ReadOutcome : CoreView → Pass → Result (List ℕ) Refusal → CoreView → Type 0
ReadOutcome old pass (Ok image) new =
    HasRoomFor 1 old × KnowsPass old pass
    × Adds old pass.client (Read pass.serial pass.page) (Content image) new
ReadOutcome old pass (Err refusal.UnknownPass) new =
    HasRoomFor 1 old × LacksPass old pass × (new ≡ old)
ReadOutcome old pass (Err refusal.TrailFull) new = LacksRoomFor 1 old × (new ≡ old)
ReadOutcome old pass (Err refusal.OutOfMemory) new =
    HasRoomFor 1 old × KnowsPass old pass × (new ≡ old)
ReadOutcome old pass (Err _) new = ⊥

-- the same, of the image held, with so many of its bytes from the offset on in place of those that
-- were there; a refusal leaves these
abbrev pub ReadIntoOutcome : {A : Type 0} → CoreView → Pass → ℕ → List ℕ → Result A Refusal
    → List ℕ → CoreView → Type 0
ReadIntoOutcome old pass offset before (Ok done) after new =
    EachPast old (λ past. ReadOutcome old pass (Ok (held past pass.page)) new
    × (after ≡ take (length before) (drop offset (held past pass.page))))
ReadIntoOutcome old pass offset before (Err why) after new =
    ReadOutcome old pass (Err why) new × (after ≡ before)

-- the entries of a page that is fixed, read and unfixed at once
abbrev pub with_read : CoreView → ℕ → ℕ → ℕ → List ℕ → CoreView
with_read core client page n image =
    with_entry
    (with_entry (with_entry core client (Fix page) (Hit n)) client (Read n page) (Content image))
    client (Unfix n page) Done

-- a page that is in a frame was: the pass came back, and bytes of the image held stand in place of
-- those that were there; where it is in none, and where that is refused, nothing changes
abbrev pub ReadResidentOutcome : CoreView → ℕ → ℕ → ℕ → List ℕ → Result (Option Grant) Refusal
    → List ℕ → CoreView → Type 0
ReadResidentOutcome old client page offset before (Ok (Some pass)) after new =
    EachPast old (λ past. HasRoomFor 3 old × (resident past page ≡ true)
    × (pass ≡ grant client page pass.serial)
    × (new ≡ with_read old client page pass.serial (held past page))
    × EachPast new (Legal new.parameters)
    × (after ≡ take (length before) (drop offset (held past page))))
ReadResidentOutcome old client page offset before (Ok None) after new =
    HasRoomFor 3 old × EachPast old (λ past. resident past page ≡ false) × (after ≡ before)
    × (new ≡ old)
ReadResidentOutcome old client page offset before (Err refusal.TrailFull) after new =
    LacksRoomFor 3 old × (after ≡ before) × (new ≡ old)
ReadResidentOutcome old client page offset before (Err refusal.OutOfMemory) after new =
    HasRoomFor 3 old × EachPast old (λ past. resident past page ≡ true) × (after ≡ before)
    × (new ≡ old)
ReadResidentOutcome old client page offset before (Err _) after new = ⊥

abbrev pub WriteOutcome : {A : Type 0} → CoreView → Pass → ℕ → List ℕ → ℕ → Result A Refusal
    → CoreView → Type 0
WriteOutcome old pass offset bytes lsn (Ok done) new =
    HasRoomFor 1 old × KnowsPass old pass
    × Adds old pass.client (Write pass.serial pass.page offset bytes lsn) Done new
WriteOutcome old pass offset bytes lsn (Err refusal.UnknownPass) new =
    HasRoomFor 1 old × LacksPass old pass × (new ≡ old)
WriteOutcome old pass offset bytes lsn (Err refusal.TrailFull) new =
    LacksRoomFor 1 old × (new ≡ old)
WriteOutcome old pass offset bytes lsn (Err refusal.OutOfMemory) new =
    HasRoomFor 1 old × KnowsPass old pass × (new ≡ old)
WriteOutcome old pass offset bytes lsn (Err _) new = ⊥

abbrev pub UnfixOutcome : {A : Type 0} → CoreView → Pass → Result A Pass → CoreView → Type 0
UnfixOutcome old pass (Ok done) new =
    KnowsPass old pass × Adds old pass.client (Unfix pass.serial pass.page) Done new
UnfixOutcome old pass (Err same) new = (same ≡ pass) × LacksPass old pass × (new ≡ old)

abbrev pub PurgeOutcome : CoreView → ℕ → Result ℕ Refusal → CoreView → Type 0
PurgeOutcome old client (Ok n) new = HasRoomFor 1 old × Adds old client Purge (Forgot n) new
PurgeOutcome old client (Err refusal.TrailFull) new = LacksRoomFor 1 old × (new ≡ old)
PurgeOutcome old client (Err _) new = ⊥
