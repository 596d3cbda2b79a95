-- What a pool had its device do: its entries, the calls of the device, and the entries when the last
-- good sync came before which none had failed. Each list is newest first.
use Rattle.std.specs.Prelude.{◌≡◌, ℕ, Bool, true, false, not, ◌&&◌, if◌then◌else◌, List, [], ◌∷◌, Some, None}
use Rattle.bp_trail.specs.declared.entries.Entry.{Entry}
use Rattle.bp_trail.specs.declared.entries.Call.{Call}
use Rattle.bp_trail.specs.declared.entries.Call.TheVariants.{ReadEnd, WriteEnd}
use Rattle.bp_trail.specs.declared.entries.Reply.TheVariants.{WriteFirst}
use Rattle.bp_trail.specs.Lists.{some}
use Rattle.bp_trail.specs.Trail.{Trail}
use Rattle.example_log.specs.Disk.{DeviceCall, sync_failed}

-- the entry ends what the device did
abbrev pub ends_work : Call → Bool
ends_work (ReadEnd ticket p image) = true
ends_work (WriteEnd ticket p good) = true
ends_work _ = false

-- From entries and calls on, all of which were durable. Each read and each write of the device is one
-- call, which an entry ends, and a write goes out as it began.
pub data PoolFrom (begun : Trail) (begun_calls : List DeviceCall)
    : Trail → List DeviceCall → Trail → Type 0 where
  opened : PoolFrom begun begun_calls begun begun_calls begun
  entered : {past synced : Trail} {calls : List DeviceCall} (e : Entry) → ends_work e.call ≡ false
      → PoolFrom begun begun_calls past calls synced → PoolFrom begun begun_calls (e ∷ past) calls synced
  read : {past synced : Trail} {calls : List DeviceCall} (e : Entry) (ticket p : ℕ) (image : List ℕ)
      → e.call ≡ ReadEnd ticket p (Some image) → PoolFrom begun begun_calls past calls synced
      → PoolFrom begun begun_calls (e ∷ past) (DeviceCall.Read p image ∷ calls) synced
  not_read : {past synced : Trail} {calls : List DeviceCall} (e : Entry) (ticket p : ℕ)
      → e.call ≡ ReadEnd ticket p None → PoolFrom begun begun_calls past calls synced
      → PoolFrom begun begun_calls (e ∷ past) (DeviceCall.NotRead p ∷ calls) synced
  wrote : {older synced : Trail} {calls : List DeviceCall} (e f : Entry) (ticket p : ℕ)
      (image : List ℕ) (good : Bool) → e.call ≡ WriteEnd ticket p good
      → f.reply ≡ WriteFirst ticket p image → PoolFrom begun begun_calls (f ∷ older) calls synced
      → PoolFrom begun begun_calls (e ∷ f ∷ older) (DeviceCall.Write p image good ∷ calls) synced
  was_synced : {past synced : Trail} {calls : List DeviceCall} (good : Bool)
      → PoolFrom begun begun_calls past calls synced
      → PoolFrom begun begun_calls past (DeviceCall.Sync good ∷ calls)
      (if good && not (some sync_failed calls) then past else synced)

-- from nothing on
abbrev pub PoolLife : Trail → List DeviceCall → Trail → Type 0
PoolLife = PoolFrom [] []
