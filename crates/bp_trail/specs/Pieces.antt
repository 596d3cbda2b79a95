-- The entries that one row of a script makes: its piece, newest first.
use Rattle.std.specs.Prelude.{◌≡◌, ℕ, Bool, true, false, IsTrue, List, [], ◌∷◌, Option, Some, None, Result, Ok, Err, Contains}
use Rattle.bp_page.specs.declared.refusals.Refusal.{Refusal}
use Rattle.bp_page.specs.Refusals.{number_of}
use Rattle.bp_trail.specs.declared.entries.Entry.{Entry}
use Rattle.bp_trail.specs.declared.entries.Call.{Call}
use Rattle.bp_trail.specs.declared.entries.Call.TheVariants.{Mark, Fix, ReadEnd, WriteEnd, Flush, Discard}
use Rattle.bp_trail.specs.declared.entries.Reply.{Reply}
use Rattle.bp_trail.specs.declared.entries.Reply.TheVariants.{Done, Hit, Load, WriteFirst, NoVictim, NeedLog, Busy, Fixed, ReadFailed, WrongPage, Cleaned, StillDirty, WriteFailed, Clean, Absent, Discarded, Pinned}
use Rattle.bp_trail.specs.Trail.{Trail}

-- a session shares its pool: it marks, waits where a page is busy, and may lose a ticket; a driver
-- has its core alone
pub data Manner : Type 0 where
  session : Manner
  driver : Manner

abbrev pub in_session : Manner → Bool
in_session session = true
in_session driver = false

-- how a row ended
pub data Outcome : Type 0 where
  accepted : Outcome
  refused : ℕ → Outcome

abbrev pub outcome_of : {A : Type 0} → Result A Refusal → Outcome
outcome_of (Ok done) = accepted
outcome_of (Err refusal) = refused (number_of refusal)

abbrev pub by : ℕ → Call → Reply → Entry
by client call reply = record { client = client; call = call; reply = reply }

-- a fix that is not answered yet: nothing was asked, or a mark was made, or the page was busy, or a
-- victim was written out first
pub data FixGoesOn (m : Manner) (client page : ℕ) : Trail → Type 0 where
  begins : FixGoesOn m client page []
  marked : {older : Trail} (lsn : ℕ) → IsTrue (in_session m) → FixGoesOn m client page older
      → FixGoesOn m client page (by client (Mark lsn) Done ∷ older)
  waited : {older : Trail} → IsTrue (in_session m) → FixGoesOn m client page older
      → FixGoesOn m client page (by client (Fix page) Busy ∷ older)
  cleaned : {older : Trail} (ticket victim : ℕ) (image : List ℕ) → FixGoesOn m client page older
      → FixGoesOn m client page
      (by client (WriteEnd ticket victim true) Cleaned
      ∷ by client (Fix page) (WriteFirst ticket victim image) ∷ older)
  still_dirty : {older : Trail} (ticket victim : ℕ) (image : List ℕ) → FixGoesOn m client page older
      → FixGoesOn m client page
      (by client (WriteEnd ticket victim true) StillDirty
      ∷ by client (Fix page) (WriteFirst ticket victim image) ∷ older)

-- the piece of a fix: it ends in a pass, or in a refusal
pub data FixPiece (m : Manner) (client page : ℕ) : Trail → Outcome → Type 0 where
  hit : {older : Trail} (pass : ℕ) → FixGoesOn m client page older
      → FixPiece m client page (by client (Fix page) (Hit pass) ∷ older) accepted
  fixed : {older : Trail} (ticket pass : ℕ) (evicted : Option ℕ) (image : List ℕ)
      → FixGoesOn m client page older
      → FixPiece m client page
      (by client (ReadEnd ticket page (Some image)) (Fixed pass)
      ∷ by client (Fix page) (Load ticket evicted) ∷ older) accepted
  no_victim : {older : Trail} → FixGoesOn m client page older
      → FixPiece m client page (by client (Fix page) NoVictim ∷ older) (refused 11)
  need_log : {older : Trail} (lsn : ℕ) → FixGoesOn m client page older
      → FixPiece m client page (by client (Fix page) (NeedLog lsn) ∷ older) (refused 12)
  busy : {older : Trail} → m ≡ driver → FixGoesOn m client page older
      → FixPiece m client page (by client (Fix page) Busy ∷ older) (refused 13)
  read_failed : {older : Trail} (ticket : ℕ) (evicted : Option ℕ) → FixGoesOn m client page older
      → FixPiece m client page
      (by client (ReadEnd ticket page None) ReadFailed ∷ by client (Fix page) (Load ticket evicted)
      ∷ older) (refused 17)
  wrong_page : {older : Trail} (ticket : ℕ) (evicted : Option ℕ) → FixGoesOn m client page older
      → FixPiece m client page
      (by client (ReadEnd ticket page None) WrongPage ∷ by client (Fix page) (Load ticket evicted)
      ∷ older) (refused 19)
  write_failed : {older : Trail} (ticket victim : ℕ) (image : List ℕ)
      → FixGoesOn m client page older
      → FixPiece m client page
      (by client (WriteEnd ticket victim false) WriteFailed
      ∷ by client (Fix page) (WriteFirst ticket victim image) ∷ older) (refused 18)
  lost_read : {older : Trail} (ticket : ℕ) (evicted : Option ℕ) → IsTrue (in_session m)
      → FixGoesOn m client page older
      → FixPiece m client page (by client (Fix page) (Load ticket evicted) ∷ older) (refused 16)
  lost_write : {older : Trail} (ticket victim : ℕ) (image : List ℕ) → IsTrue (in_session m)
      → FixGoesOn m client page older
      → FixPiece m client page (by client (Fix page) (WriteFirst ticket victim image) ∷ older)
      (refused 16)
  no_room : {older : Trail} → FixGoesOn m client page older
      → FixPiece m client page older (refused 20)
  no_memory : {older : Trail} → FixGoesOn m client page older
      → FixPiece m client page older (refused 22)

-- a flush that is not answered yet
pub data FlushGoesOn (m : Manner) (client page : ℕ) : Trail → Type 0 where
  begins : FlushGoesOn m client page []
  marked : {older : Trail} (lsn : ℕ) → IsTrue (in_session m) → FlushGoesOn m client page older
      → FlushGoesOn m client page (by client (Mark lsn) Done ∷ older)
  waited : {older : Trail} → IsTrue (in_session m) → FlushGoesOn m client page older
      → FlushGoesOn m client page (by client (Flush page) Busy ∷ older)

-- the piece of a flush
pub data FlushPiece (m : Manner) (client page : ℕ) : Trail → Outcome → Type 0 where
  clean : {older : Trail} → FlushGoesOn m client page older
      → FlushPiece m client page (by client (Flush page) Clean ∷ older) accepted
  absent : {older : Trail} → FlushGoesOn m client page older
      → FlushPiece m client page (by client (Flush page) Absent ∷ older) accepted
  cleaned : {older : Trail} (ticket : ℕ) (image : List ℕ) → FlushGoesOn m client page older
      → FlushPiece m client page
      (by client (WriteEnd ticket page true) Cleaned
      ∷ by client (Flush page) (WriteFirst ticket page image) ∷ older) accepted
  still_dirty : {older : Trail} (ticket : ℕ) (image : List ℕ) → FlushGoesOn m client page older
      → FlushPiece m client page
      (by client (WriteEnd ticket page true) StillDirty
      ∷ by client (Flush page) (WriteFirst ticket page image) ∷ older) accepted
  need_log : {older : Trail} (lsn : ℕ) → FlushGoesOn m client page older
      → FlushPiece m client page (by client (Flush page) (NeedLog lsn) ∷ older) (refused 12)
  busy : {older : Trail} → m ≡ driver → FlushGoesOn m client page older
      → FlushPiece m client page (by client (Flush page) Busy ∷ older) (refused 13)
  write_failed : {older : Trail} (ticket : ℕ) (image : List ℕ) → FlushGoesOn m client page older
      → FlushPiece m client page
      (by client (WriteEnd ticket page false) WriteFailed
      ∷ by client (Flush page) (WriteFirst ticket page image) ∷ older) (refused 18)
  lost_write : {older : Trail} (ticket : ℕ) (image : List ℕ) → IsTrue (in_session m)
      → FlushGoesOn m client page older
      → FlushPiece m client page (by client (Flush page) (WriteFirst ticket page image) ∷ older)
      (refused 16)
  no_room : {older : Trail} → FlushGoesOn m client page older
      → FlushPiece m client page older (refused 20)
  no_memory : {older : Trail} → FlushGoesOn m client page older
      → FlushPiece m client page older (refused 22)

-- a discard that is not answered yet: a session waits where the page is busy
pub data DiscardGoesOn (m : Manner) (client page : ℕ) : Trail → Type 0 where
  begins : DiscardGoesOn m client page []
  waited : {older : Trail} → IsTrue (in_session m) → DiscardGoesOn m client page older
      → DiscardGoesOn m client page (by client (Discard page) Busy ∷ older)

-- the piece of a discard
pub data DiscardPiece (m : Manner) (client page : ℕ) : Trail → Outcome → Type 0 where
  discarded : {older : Trail} → DiscardGoesOn m client page older
      → DiscardPiece m client page (by client (Discard page) Discarded ∷ older) accepted
  absent : {older : Trail} → DiscardGoesOn m client page older
      → DiscardPiece m client page (by client (Discard page) Absent ∷ older) accepted
  pinned : {older : Trail} → DiscardGoesOn m client page older
      → DiscardPiece m client page (by client (Discard page) Pinned ∷ older) (refused 25)
  busy : {older : Trail} → m ≡ driver → DiscardGoesOn m client page older
      → DiscardPiece m client page (by client (Discard page) Busy ∷ older) (refused 13)
  no_room : {older : Trail} → DiscardGoesOn m client page older
      → DiscardPiece m client page older (refused 20)
  no_memory : {older : Trail} → DiscardGoesOn m client page older
      → DiscardPiece m client page older (refused 22)

-- the piece of a row of one call: that entry, or none where the call was refused with one of these
-- numbers
abbrev pub OneCall : List ℕ → ℕ → Call → Trail → Outcome → Type 0
OneCall numbers client call piece accepted = (reply : Reply) × (piece ≡ by client call reply ∷ [])
OneCall numbers client call piece (refused n) = Contains numbers n × (piece ≡ [])
