-- What each call of a session promises, beside what it does with a device and a caller's bytes. A pool in parts
-- promises the same of the session in the part.
use Rattle.std.specs.Prelude.{◌≡◌, ◌≢◌, ◌⊎◌, ℕ, Bool, false, true, List, ◌+◌, ◌^◌, ◌<◌, Result, Err, IfErr, IsOk}
use Rattle.bp_page.specs.declared.refusals.Refusal.{Refusal}
use Rattle.bp_page.specs.declared.refusals.Refusal.TheVariants as refusal
use Rattle.bp_core.specs.declared.passes.Pass.{Pass}
use Rattle.bp_trail.specs.declared.ends.Flushed.{Flushed}
use Rattle.bp_trail.specs.declared.ends.Discarded.{Discarded}
use Rattle.bp_trail.specs.declared.ends.NotFlushed.{NotFlushed}
use Rattle.bp_trail.specs.declared.entries.Call.TheVariants as call
use Rattle.bp_trail.specs.Clock.{clock}
use Rattle.bp_core.specs.Outcomes.{pass_is_out}
use Rattle.bp_trail.specs.Parameters.{Parameters}
use Rattle.bp_trail.specs.Trail.{Trail}
use Rattle.bp_session_log.specs.Turns.{TickSaid, PurgeSaid, ReadSaid}
use Rattle.bp_shared.specs.Sessions.{SessionValue, FixSaid, FlushSaid, DiscardSaid, IsLong, IsRoomy, IsRoomyFor, LacksOwn}
use Rattle.bp_shared.specs.FlushAll.{FlushAllSaid}
use Rattle.bp_shared.specs.Keeping.{Acted, IsReadAtOnce, KeepsSession, FillsRoom, WantsMemory}

-- a fix of the page with this number
pub record FixesIn (refuses : Bool) (c : Parameters) (start : Trail) (page : ℕ)
    (given : Result Pass Refusal) (old new : SessionValue) : Type 0 where
  pub keeps : KeepsSession c start given old new
  pub outcome : FixSaid old.client page given old.said new.said
  pub room : given ≡ Err refusal.TrailFull → FillsRoom 3 c new.seen
  pub memory : refuses ≡ false → IsRoomyFor 2 old → given ≡ Err refusal.OutOfMemory
      → IsLong new ⊎ WantsMemory (call.Fix page) c new.seen
  pub roomy : given ≢ Err refusal.OutOfMemory → IsRoomy new
  pub known : given ≢ Err refusal.UnknownTicket

-- a read of bytes of that page, but for what it answers
pub record PageReadsIn {A : Type 0} (refuses : Bool) (c : Parameters) (start : Trail) (page : ℕ)
    (given : Result A Refusal) (old new : SessionValue) : Type 0 where
  pub keeps : KeepsSession c start given old new
  pub at_once : IsOk given → IsReadAtOnce start page old new
  pub room : given ≡ Err refusal.TrailFull → FillsRoom 3 c new.seen
  pub memory : refuses ≡ false → IsRoomyFor 2 old → given ≡ Err refusal.OutOfMemory
      → IsLong new ⊎ WantsMemory (call.Fix page) c new.seen
  pub roomy : given ≢ Err refusal.OutOfMemory → IsRoomy new
  pub known : given ≢ Err refusal.UnknownTicket
  pub held : given ≢ Err refusal.UnknownPass

-- a flush of it
pub record FlushesIn (refuses : Bool) (c : Parameters) (start : Trail) (page : ℕ)
    (given : Result Flushed Refusal) (old new : SessionValue) : Type 0 where
  pub keeps : KeepsSession c start given old new
  pub outcome : FlushSaid old.client page given old.said new.said
  pub room : given ≡ Err refusal.TrailFull → FillsRoom 2 c new.seen
  pub memory : refuses ≡ false → IsRoomy old → given ≡ Err refusal.OutOfMemory
      → IsLong new ⊎ WantsMemory (call.Flush page) c new.seen
  pub roomy : given ≢ Err refusal.OutOfMemory → IsRoomy new
  pub known : given ≢ Err refusal.UnknownTicket

-- a discard of it
pub record DiscardsIn (refuses : Bool) (c : Parameters) (start : Trail) (page : ℕ)
    (given : Result Discarded Refusal) (old new : SessionValue) : Type 0 where
  pub keeps : KeepsSession c start given old new
  pub outcome : DiscardSaid old.client page given old.said new.said
  pub room : given ≡ Err refusal.TrailFull → FillsRoom 1 c new.seen
  pub memory : refuses ≡ false → given ≡ Err refusal.OutOfMemory → IsLong new

-- a flush of each unsaved page
pub record FlushesAllIn {A : Type 0} (refuses : Bool) (c : Parameters) (start : Trail)
    (given : Result A NotFlushed) (old new : SessionValue) : Type 0 where
  pub client : new.client ≡ old.client
  pub before : new.before ≡ old.before
  pub acted : Acted c start old new
  pub roomy : IsRoomy old → IsRoomy new
  pub outcome : FlushAllSaid (record { parameters = c; start = start }) given old new
  pub known : IfErr given (λ stop. stop.why ≢ refusal.UnknownTicket)
  pub room : IfErr given (λ stop. stop.why ≡ refusal.TrailFull → FillsRoom 2 c new.seen)
  pub memory : refuses ≡ false → IsRoomy old → IfErr given (λ stop.
      stop.why ≡ refusal.OutOfMemory
      → IsLong new ⊎ WantsMemory (call.Flush stop.page) c new.seen)

-- so many ticks of the clock
pub record TicksIn {A : Type 0} (refuses : Bool) (c : Parameters) (start : Trail) (n : ℕ)
    (given : Result A Refusal) (old new : SessionValue) : Type 0 where
  pub keeps : KeepsSession c start given old new
  pub outcome : TickSaid old.client n given old.said new.said
  pub room : given ≡ Err refusal.TrailFull → FillsRoom 1 c new.seen
  pub clock_full : given ≡ Err refusal.ClockFull → 2 ^ 62 < clock new.seen + n
  pub memory : refuses ≡ false → given ≡ Err refusal.OutOfMemory → IsLong new

-- a purge of old references
pub record PurgesIn (refuses : Bool) (c : Parameters) (start : Trail) (given : Result ℕ Refusal)
    (old new : SessionValue) : Type 0 where
  pub keeps : KeepsSession c start given old new
  pub outcome : PurgeSaid old.client given old.said new.said
  pub room : given ≡ Err refusal.TrailFull → FillsRoom 1 c new.seen
  pub memory : refuses ≡ false → given ≡ Err refusal.OutOfMemory → IsLong new

-- a read of a whole image by a pass
pub record ReadsIn (refuses : Bool) (c : Parameters) (start : Trail) (pass : Pass)
    (given : Result (List ℕ) Refusal) (old new : SessionValue) : Type 0 where
  pub keeps : KeepsSession c start given old new
  pub stranger : pass.client ≢ old.client → given ≡ Err refusal.UnknownPass
  pub unknown : given ≡ Err refusal.UnknownPass → LacksOwn pass old
  pub outcome : ReadSaid old.client pass given old.said new.said
  pub room : given ≡ Err refusal.TrailFull → FillsRoom 1 c new.seen
  pub memory : refuses ≡ false → IsRoomy old → given ≡ Err refusal.OutOfMemory
      → IsLong new ⊎ pass_is_out pass new.seen ≡ true

-- a read or a write by a pass, but for what it answers
pub record LooksIn {A : Type 0} (refuses : Bool) (c : Parameters) (start : Trail) (pass : Pass)
    (given : Result A Refusal) (old new : SessionValue) : Type 0 where
  pub keeps : KeepsSession c start given old new
  pub stranger : pass.client ≢ old.client → given ≡ Err refusal.UnknownPass
  pub unknown : given ≡ Err refusal.UnknownPass → LacksOwn pass old
  pub room : given ≡ Err refusal.TrailFull → FillsRoom 1 c new.seen
  pub memory : refuses ≡ false → IsRoomy old → given ≡ Err refusal.OutOfMemory → IsLong new
