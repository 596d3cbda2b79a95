-- What a fix and a flush by a driver add to its core.
use Rattle.std.specs.Prelude.{◌≡◌, ℕ, List, true, false, Option, Some, None, IsSomeAnd, Result, Ok}
use Rattle.std.specs.Prelude.{Err}
use Rattle.bp_page.specs.declared.refusals.Refusal.{Refusal}
use Rattle.bp_page.specs.declared.refusals.Refusal.TheVariants as refusal
use Rattle.bp_page.specs.declared.refusals.Refusal.TheVariants.{WriteFailed as WriteRefused}
use Rattle.bp_page.specs.declared.refusals.PortFault.{PortFault}
use Rattle.bp_page.specs.Refusals.{number_of}
use Rattle.bp_core.specs.declared.passes.Pass.{Pass}
use Rattle.bp_core.specs.declared.passes.ReadTicket.{ReadTicket}
use Rattle.bp_core.specs.declared.passes.WriteTicket.{WriteTicket}
use Rattle.bp_trail.specs.declared.ends.Ended.{Ended}
use Rattle.bp_core.specs.declared.passes.Fix.{Fix as Fixing}
use Rattle.bp_core.specs.declared.passes.Fix.TheVariants as fixing
use Rattle.bp_trail.specs.declared.entries.Call.{Call}
use Rattle.bp_trail.specs.declared.entries.Call.TheVariants.{Fix, ReadEnd, WriteEnd}
use Rattle.bp_trail.specs.declared.entries.Reply.{Reply}
use Rattle.bp_trail.specs.declared.entries.Reply.TheVariants.{Busy, Fixed, NeedLog, NoVictim}
use Rattle.bp_trail.specs.declared.entries.Reply.TheVariants.{ReadFailed, WriteFailed, WrongPage}
use Rattle.bp_trail.specs.Event.{Grant, grant}
use Rattle.bp_trail.specs.Trail.{Trail}
use Rattle.bp_trail.specs.Ends.{read_refusal, read_failure, ended_reply, flushed_reply}
use Rattle.bp_core.specs.CoreView.{CoreView, with_entry, HasRoomFor, LacksRoomFor}
use Rattle.bp_core.specs.Outcomes.{Adds, FixOutcome, TakesMemory}
use Rattle.bp_core.specs.Added.{with_piece, Gives, Ends}
use Rattle.bp_trail.specs.Pieces.{FixGoesOn, FixPiece, FlushPiece}
use Rattle.bp_trail.specs.Pieces.Manner.{driver}
use Rattle.bp_trail.specs.Pieces.Outcome.{accepted, refused}
use Rattle.bp_trail.specs.declared.ends.Flushed.{Flushed}

-- a piece was added that is as P says
pub record AddsPiece (old : CoreView) (P : Trail → Type 0) (given : Option Grant)
    (new : CoreView) : Type 0 where
  pub piece : Trail
  pub is : new ≡ with_piece old piece
  pub of_row : P piece
  pub gives : Gives piece given

abbrev pub DrivesFix : CoreView → ℕ → ℕ → Result Pass Refusal → CoreView → Type 0
DrivesFix old client page (Ok pass) new =
    (pass.client ≡ client) × (pass.page ≡ page)
    × AddsPiece old (λ piece. FixPiece driver client page piece accepted)
    (Some (grant client page pass.serial)) new
DrivesFix old client page (Err refusal) new =
    AddsPiece old (λ piece. FixPiece driver client page piece (refused (number_of refusal))) None
    new

abbrev pub DrivesFlush : CoreView → ℕ → ℕ → Result Flushed Refusal → CoreView → Type 0
DrivesFlush old client page (Ok flushed) new =
    AddsPiece old (λ piece. FlushPiece driver client page piece accepted
    × Ends (flushed_reply flushed) piece) None new
DrivesFlush old client page (Err refusal) new =
    AddsPiece old (λ piece. FlushPiece driver client page piece (refused (number_of refusal))) None
    new

-- for how many entries the core is to have room where a driver fixes or flushes
abbrev pub room_of : Call → ℕ
room_of (Fix page) = 3
room_of _ = 2

-- the reply of the entry by which a driver's fix or flush is refused so, if it is by one
abbrev pub reply_of_refusal : Refusal → Option Reply
reply_of_refusal refusal.NoVictim = Some NoVictim
reply_of_refusal (refusal.NeedLog lsn) = Some (NeedLog lsn)
reply_of_refusal refusal.Busy = Some Busy
reply_of_refusal refusal.ReadFailed = Some ReadFailed
reply_of_refusal refusal.WrongPage = Some WrongPage
reply_of_refusal refusal.WriteFailed = Some WriteFailed
reply_of_refusal _ = None

-- why a driver's fix or flush is refused, by the core that it leaves: 20 where that has less room
-- than the call wants, 22 where it has as much and the call takes memory, and any other refusal
-- where it is the reply of the newest entry
abbrev pub IsCaused : Call → Refusal → CoreView → Type 0
IsCaused call refusal.TrailFull core = LacksRoomFor (room_of call) core
IsCaused call refusal.OutOfMemory core = HasRoomFor (room_of call) core × TakesMemory call core
IsCaused call why core = IsSomeAnd (reply_of_refusal why) (λ reply. Ends reply core.past)

-- of what has its device read nothing
abbrev pub NoRead : {A : Type 0} → A → ℕ → Result (List ℕ) PortFault → A → Type 0
NoRead port page found after = ⊥

-- the end of a read or of a write-out whose ticket is known
abbrev pub LoadOutcome : CoreView → ReadTicket → Result (List ℕ) PortFault → Result Pass Refusal
    → CoreView → Type 0
LoadOutcome old ticket (Ok image) (Ok pass) new =
    (pass.client ≡ ticket.client) × (pass.page ≡ ticket.page)
    × (new ≡ with_entry old ticket.client (ReadEnd ticket.serial ticket.page (Some image))
    (Fixed pass.serial))
LoadOutcome old ticket (Err fault) (Err refusal) new =
    (refusal ≡ read_refusal fault)
    × (new ≡ with_entry old ticket.client (ReadEnd ticket.serial ticket.page None)
    (read_failure fault))
LoadOutcome old ticket _ _ new = ⊥

abbrev pub SaveOutcome : CoreView → WriteTicket → Result Ended Refusal → CoreView → Type 0
SaveOutcome old ticket (Ok ended) new =
    Adds old ticket.client (WriteEnd ticket.serial ticket.page true) (ended_reply ended) new
SaveOutcome old ticket (Err refusal) new =
    (refusal ≡ WriteRefused)
    × Adds old ticket.client (WriteEnd ticket.serial ticket.page false) WriteFailed new

-- a fix, made again once an unsaved victim was written out: it gives a pass or a ticket to read, or
-- it is refused
abbrev pub SavingOutcome : CoreView → ℕ → ℕ → Result Fixing Refusal → CoreView → Type 0
SavingOutcome old client page (Ok (fixing.Hit pass)) new = DrivesFix old client page (Ok pass) new
SavingOutcome old client page (Ok (fixing.Load ticket evicted)) new =
    (mid : CoreView) × AddsPiece old (FixGoesOn driver client page) None mid
    × FixOutcome mid client page (Ok (fixing.Load ticket evicted)) new
SavingOutcome old client page (Ok (fixing.WriteFirst ticket)) new = ⊥
SavingOutcome old client page (Err refusal) new = DrivesFix old client page (Err refusal) new
