-- What the makers of an event promise, and why a core refuses one.
use Rattle.std.specs.Prelude.{◌≡◌, ℕ, ◌+◌, ◌^◌, ◌<◌, ◌≤◌, true, ◌++◌, length, All}
use Rattle.bp_page.specs.declared.refusals.Refusal.{Refusal}
use Rattle.bp_page.specs.declared.refusals.Refusal.TheVariants as refusal
use Rattle.bp_trail.specs.Clock.{clock}
use Rattle.bp_trail.specs.declared.entries.Call.{Call}
use Rattle.bp_trail.specs.declared.entries.Call.TheVariants.{Fix, Flush}
use Rattle.bp_trail.specs.PageMap.{reply_of}
use Rattle.bp_trail.specs.Parameters.{Parameters}
use Rattle.bp_trail.specs.Room.{free_keeping}
use Rattle.bp_trail.specs.Trail.{Trail}
use Rattle.bp_core.specs.CoreView.{CoreView}
use Rattle.bp_core.specs.Outcomes.{takes_memory}
use Rattle.bp_session_log.specs.declared.book.Room.{Room}
use Rattle.bp_session_log.specs.Books.{BookValue, SameOwner}

-- the core and its client's book got the same entries, all of them the client's, by which no pass went
-- back; and all else stays but the room
pub record Makes (core : CoreView) (book : BookValue) (left : CoreView) (kept : BookValue)
    : Type 0 where
  pub owner : SameOwner book kept
  pub piece : Trail
  pub is : left ≡ record core { past = piece ++ core.past }
  pub grows : kept.said ≡ piece ++ book.said
  pub own : All (λ e. e.client ≡ book.client) piece

-- there is so much room for entries, passes and copies
pub record Suffices (room : Room) (entries passes copies : ℕ) : Type 0 where
  pub for_entries : room.entries ≤ entries
  pub for_passes : room.passes ≤ passes
  pub for_copies : room.copies ≤ copies

-- the room for one entry with no image
abbrev pub for_one_entry : Room
for_one_entry = record { entries = 1; passes = 0; copies = 0 }

-- the room for a mark and a fix, for the end and the unfix that are owed then, and for one pass more
abbrev pub for_fix : Room
for_fix = record { entries = 4; passes = 2; copies = 2 }

-- and for a flush
abbrev pub for_flush : Room
for_flush = record { entries = 4; passes = 1; copies = 2 }

-- the entries of a trail, and what is owed after them, leave less room than for so many more
abbrev pub FillsRoom : ℕ → Parameters → Trail → Type 0
FillsRoom n c past = free_keeping c (length past) past < n

-- the lawful reply to this call, after these entries, takes memory
abbrev pub WantsMemory : Call → Parameters → Trail → Type 0
WantsMemory call c past = takes_memory (reply_of c past call) ≡ true

-- why each event is refused, by the trail that the core had then
abbrev pub TickCause : ℕ → Refusal → Parameters → Trail → Type 0
TickCause n refusal.TrailFull c past = FillsRoom 1 c past
TickCause n refusal.ClockFull c past = 2 ^ 62 < clock past + n
TickCause n _ c past = ⊥

abbrev pub PurgeCause : Refusal → Parameters → Trail → Type 0
PurgeCause refusal.TrailFull c past = FillsRoom 1 c past
PurgeCause _ c past = ⊥

abbrev pub DiscardCause : Refusal → Parameters → Trail → Type 0
DiscardCause refusal.TrailFull c past = FillsRoom 1 c past
DiscardCause refusal.Busy c past = Unit {0}
DiscardCause refusal.Pinned c past = Unit {0}
DiscardCause _ c past = ⊥

abbrev pub FixCause : ℕ → Refusal → Parameters → Trail → Type 0
FixCause page refusal.TrailFull c past = FillsRoom 3 c past
FixCause page refusal.OutOfMemory c past = WantsMemory (Fix page) c past
FixCause page refusal.NoVictim c past = Unit {0}
FixCause page (refusal.NeedLog lsn) c past = Unit {0}
FixCause page refusal.Busy c past = Unit {0}
FixCause page _ c past = ⊥

abbrev pub FlushCause : ℕ → Refusal → Parameters → Trail → Type 0
FlushCause page refusal.TrailFull c past = FillsRoom 2 c past
FlushCause page refusal.OutOfMemory c past = WantsMemory (Flush page) c past
FlushCause page (refusal.NeedLog lsn) c past = Unit {0}
FlushCause page refusal.Busy c past = Unit {0}
FlushCause page _ c past = ⊥
