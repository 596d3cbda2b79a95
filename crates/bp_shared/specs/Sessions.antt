-- What a session's call adds to the session's list, newest first, by what it answers.
use Rattle.std.specs.Prelude.{◌≡◌, ◌≢◌, ◌⊎◌, ℕ, ◌+◌, ◌^◌, ◌≤◌, zero, suc, Bool, true, false, List, [], ◌∷◌, ◌++◌, Option, Some, None, Result, Ok, Err, length, take, drop, vec_len, vec_capacity}
use Rattle.bp_page.specs.declared.refusals.Refusal.{Refusal}
use Rattle.bp_page.specs.Refusals.{number_of}
use Rattle.bp_page.specs.declared.refusals.Refusal.TheVariants as refusal
use Rattle.bp_core.specs.declared.passes.Pass.{Pass}
use Rattle.bp_trail.specs.declared.entries.Call.TheVariants.{Unfix}
use Rattle.bp_trail.specs.declared.entries.Reply.TheVariants.{Done, NeedLog}
use Rattle.std.specs.declared.vec.Vec.{Vec}
use Rattle.bp_trail.specs.declared.entries.Entry.{Entry}
use Rattle.bp_trail.specs.Event.{Grant, grant}
use Rattle.bp_trail.specs.Trail.{Trail}
use Rattle.bp_core.specs.Outcomes.{pass_is_out}
use Rattle.bp_trail.specs.Pieces.{by, FixPiece, FlushPiece, DiscardPiece}
use Rattle.bp_trail.specs.Pieces.Manner.{session}
use Rattle.bp_trail.specs.Pieces.Outcome.{accepted, refused}
use Rattle.bp_session_log.specs.Books.{owed}
use Rattle.bp_session_log.specs.Turns.{ReadIntoSaid, and_read}
use Rattle.bp_trail.specs.declared.ends.Flushed.{Flushed}
use Rattle.bp_trail.specs.declared.ends.Discarded.{Discarded}
use Rattle.bp_core.specs.Added.{Gives, Ends}
use Rattle.bp_trail.specs.Ends.{flushed_reply, discarded_reply}
use Rattle.bp_core.specs.Work.{Reads, Writes, WorksThrough}

-- the number of its pool, where several stand side by side; whose session it is, and its list: what
-- cuts handed out, and all of it; the pool's trail as a call of the session saw it last; in how many
-- places of its ring it knows no pass; for how many entries the list has room beyond all that it
-- owes, for how many passes, and for how many copies of images; and for how many copies there is a
-- place
pub record SessionValue : Type 0 where
  pub part : ℕ
  pub client : ℕ
  pub before : Trail
  pub said : Trail
  pub seen : Trail
  pub free : ℕ
  pub room : ℕ
  pub passes : ℕ
  pub copies : ℕ
  pub places : ℕ

-- there is room for so many passes more than the session holds, and there are places for two copies
-- of images: so much a fix or a read may want of what a silent session keeps for itself
abbrev pub IsRoomyFor : ℕ → SessionValue → Type 0
IsRoomyFor n s = (n ≤ s.passes) × (2 ≤ s.places)

abbrev pub IsRoomy : SessionValue → Type 0
IsRoomy s = IsRoomyFor 1 s

-- the list has so many entries that it might not be counted any further
abbrev pub IsLong : SessionValue → Type 0
IsLong s = 2 ^ 61 ≤ length s.said

-- a session of the pool of this number that said nothing, and saw of it the trail that it was made
-- with, with 32 free places in its ring
abbrev pub new_session_of : ℕ → Trail → ℕ → SessionValue
new_session_of part start client =
    record {
      part = part;
      client = client;
      before = [];
      said = [];
      seen = start;
      free = 32;
      room = 0;
      passes = 0;
      copies = 0;
      places = 0;
    }

-- and one of a pool that stands alone
abbrev pub new_session : Trail → ℕ → SessionValue
new_session start client = new_session_of 0 start client

-- a new session for each client, in order
abbrev pub new_sessions_of : ℕ → Trail → ℕ → List SessionValue
new_sessions_of part start zero = []
new_sessions_of part start (suc n) =
    new_sessions_of part start n ++ new_session_of part start n ∷ []

abbrev pub new_sessions : Trail → ℕ → List SessionValue
new_sessions start n = new_sessions_of 0 start n

-- what the list had was handed out, and all else goes on
abbrev pub IsCut : SessionValue → SessionValue → Type 0
IsCut old new =
    new ≡ record old { before = old.said; room = new.room; copies = new.copies }

-- a list that was handed out has the memory that it had
abbrev pub KeepsMemory : {A : Type 0} → SessionValue → Vec Entry A → Type 0
KeepsMemory old list = vec_capacity list ≡ old.room + (vec_len list + owed old.said)

-- the list has one more piece, which is as P says
pub record Says (P : Trail → Type 0) (given : Option Grant) (said after : Trail) : Type 0 where
  pub piece : Trail
  pub grows : after ≡ piece ++ said
  pub of_row : P piece
  pub gives : Gives piece given

-- the LSN of a refusal is that of the piece's last reply
abbrev pub Repeats : Refusal → Trail → Type 0
Repeats (refusal.NeedLog lsn) piece = Ends (NeedLog lsn) piece
Repeats _ piece = Unit {0}

abbrev pub FixSaid : ℕ → ℕ → Result Pass Refusal → Trail → Trail → Type 0
FixSaid client page (Ok pass) said after =
    (pass.client ≡ client) × (pass.page ≡ page)
    × Says (λ piece. FixPiece session client page piece accepted)
    (Some (grant client page pass.serial)) said after
FixSaid client page (Err why) said after =
    Says (λ piece. FixPiece session client page piece (refused (number_of why)) × Repeats why piece)
    None said after

-- bytes of a pass's page were read, and then the pass was given back
abbrev pub ReadAndUnfixSaid : {A : Type 0} → ℕ → Pass → ℕ → List ℕ → Result A Refusal → List ℕ
    → Trail → Trail → Type 0
ReadAndUnfixSaid client pass offset before answer bytes said after =
    (read : Trail) × ReadIntoSaid client pass offset before answer bytes said read
    × (after ≡ by client (Unfix pass.serial pass.page) Done ∷ read)

-- a page was fixed, and with the pass read and given back; or the fix was refused, which is all, and
-- leaves the bytes
abbrev pub PageReadSaid : {A : Type 0} → ℕ → ℕ → ℕ → List ℕ → Result A Refusal → List ℕ → Trail
    → Trail → Type 0
PageReadSaid client page offset before answer bytes said after =
    ((pass : Pass) × (fixed : Trail) × FixSaid client page (Ok pass) said fixed
    × ReadAndUnfixSaid client pass offset before answer bytes fixed after)
    ⊎ ((why : Refusal) × (answer ≡ Err why) × FixSaid client page (Err why) said after
    × (bytes ≡ before))

-- one section for it: where the page is in a frame the list gets the three events, and the bytes are
-- those of the image; if it is in none, or the section is refused, both stay
abbrev pub LookSaid : ℕ → ℕ → ℕ → List ℕ → Result Bool Refusal → List ℕ → Trail → Trail → Type 0
LookSaid client page offset before (Ok true) bytes said after =
    (n : ℕ) × (image : List ℕ) × (after ≡ and_read client page n image said)
    × (bytes ≡ take (length before) (drop offset image))
LookSaid client page offset before (Ok false) bytes said after = (after ≡ said) × (bytes ≡ before)
LookSaid client page offset before (Err refusal.TrailFull) bytes said after =
    (after ≡ said) × (bytes ≡ before)
LookSaid client page offset before (Err refusal.OutOfMemory) bytes said after =
    (after ≡ said) × (bytes ≡ before)
LookSaid client page offset before (Err _) bytes said after = ⊥

abbrev pub FlushSaid : ℕ → ℕ → Result Flushed Refusal → Trail → Trail → Type 0
FlushSaid client page (Ok how) said after =
    Says (λ piece. FlushPiece session client page piece accepted × Ends (flushed_reply how) piece)
    None said after
FlushSaid client page (Err why) said after =
    Says (λ piece. FlushPiece session client page piece (refused (number_of why))
    × Repeats why piece) None said after

abbrev pub DiscardSaid : ℕ → ℕ → Result Discarded Refusal → Trail → Trail → Type 0
DiscardSaid client page (Ok how) said after =
    Says (λ piece. DiscardPiece session client page piece accepted
    × Ends (discarded_reply how) piece) None said after
DiscardSaid client page (Err why) said after =
    Says (λ piece. DiscardPiece session client page piece (refused (number_of why))) None said after

-- a write with some page LSN, of which the relation may tell
abbrev pub WithSomeLsn : {A : Type 0} → Writes A → Writes A
WithSomeLsn writes port page image hidden written after =
    (lsn : ℕ) × writes port page image lsn written after

-- the device did the work of the entries that the list got, in their order, and nothing else
pub record DoesWorkSaid {A : Type 0} (reads : Reads A) (writes : Writes A) (said after : Trail)
    (port kept : A) : Type 0 where
  pub piece : Trail
  pub grows : after ≡ piece ++ said
  pub through : WorksThrough reads (WithSomeLsn writes) said piece port kept

-- the pass is another client's, or the session's list was not given it, or gave it back
abbrev pub LacksOwn : Pass → SessionValue → Type 0
LacksOwn pass s = (pass.client ≢ s.client) ⊎ (pass_is_out pass s.said ≡ false)

-- a pass that the list leaves out is posted, or finds the ring full: then the session knew of no
-- free place, and nothing changes; any other is unknown
abbrev pub UnfixSaid : {A : Type 0} → SessionValue → Pass → Result A (Pass × Refusal) → SessionValue
    → Type 0
UnfixSaid old pass (Ok done) new =
    (pass_is_out pass old.said ≡ true) × (pass.client ≡ old.client)
    × (new.said ≡ by old.client (Unfix pass.serial pass.page) Done ∷ old.said)
    × (old.free ≤ new.free + 1) × (new.part ≡ old.part)
UnfixSaid old pass (Err (back, refusal.UnknownPass)) new =
    (pass_is_out pass old.said ≡ false) × (back ≡ pass) × (new ≡ old)
UnfixSaid old pass (Err (back, refusal.RingFull)) new =
    (pass_is_out pass old.said ≡ true) × (back ≡ pass) × (new ≡ old) × (old.free ≡ 0)
UnfixSaid old pass (Err (back, _)) new = ⊥
