-- What a log with a receipt says of its pool's trail, and where redo begins by it.
use Rattle.std.specs.Prelude.{ℕ, ◌<◌, ◌≤◌, Bool, ◌&&◌, ◌==◌, ◌++◌, IsTrue, IsFalse}
use Rattle.bp_trail.specs.declared.entries.Entry.{Entry}
use Rattle.bp_trail.specs.Event.{is_write, lsn_of}
use Rattle.bp_trail.specs.Lists.{some, EachEntry}
use Rattle.bp_trail.specs.Recovery.{IsRedoPoint}
use Rattle.bp_trail.specs.Trail.{Trail}

-- a write under this LSN
abbrev pub writes_under : ℕ → Entry → Bool
writes_under lsn e = is_write e.call && (lsn_of e.call == lsn)

-- the trail has the write of each record, up to that of this LSN
abbrev pub HasWrites : ℕ → Trail → Type 0
HasWrites last seen = (lsn : ℕ) → 0 < lsn → lsn ≤ last → IsTrue (some (writes_under lsn) seen)

-- each write is of a record of its own, whose LSN is 1 or more
abbrev pub HasItsRecord : Trail → Entry → Type 0
HasItsRecord before e =
    IsTrue (is_write e.call)
    → (0 < lsn_of e.call) × IsFalse (some (writes_under (lsn_of e.call)) before)

abbrev pub HaveTheirRecords : Trail → Type 0
HaveTheirRecords past = EachEntry HasItsRecord past

-- redo may begin there after a crash at any later time, whatever comes after what was seen
abbrev pub RedoMayBegin : ℕ → Trail → Type 0
RedoMayBegin from seen =
    (late : Trail) (p : ℕ) → HaveTheirRecords (late ++ seen)
    → IsRedoPoint from seen (late ++ seen) p
