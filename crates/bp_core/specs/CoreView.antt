-- What a caller sees of a core: what it was made with, and its entries so far, newest first. Those
-- that cuts have handed out are among them; the others are its trail. None of those that were
-- handed out is kept.
use Rattle.std.specs.Prelude.{ℕ, ◌-◌, ◌≤◌, ◌<◌, ◌∷◌, length}
use Rattle.bp_trail.specs.declared.entries.Call.{Call}
use Rattle.bp_trail.specs.declared.entries.Reply.{Reply}
use Rattle.bp_trail.specs.Parameters.{Parameters}
use Rattle.bp_trail.specs.Trail.{Trail}
use Rattle.bp_trail.specs.Room.{free_keeping}
use Rattle.bp_trail.specs.Standing.{Standing, standing}

pub record CoreView : Type 0 where
  pub parameters : Parameters
  pub before : Trail
  pub past : Trail

-- where its trail opens
abbrev pub opening : CoreView → Standing
opening core = standing core.parameters core.before

-- P holds of the entries so far
abbrev pub EachPast : CoreView → (Trail → Type 0) → Type 0
EachPast core P = P core.past

-- the same core with one more entry
abbrev pub with_entry : CoreView → ℕ → Call → Reply → CoreView
with_entry core client call reply =
    record core { past = record { client = client; call = call; reply = reply } ∷ core.past }

-- the room that is left after these entries, of which only those of the trail take any
abbrev pub room_after : CoreView → Trail → ℕ
room_after core past = free_keeping core.parameters (length core.past - length core.before) past

abbrev pub HasRoomFor : ℕ → CoreView → Type 0
HasRoomFor n core = EachPast core (λ past. n ≤ room_after core past)

abbrev pub LacksRoomFor : ℕ → CoreView → Type 0
LacksRoomFor n core = EachPast core (λ past. room_after core past < n)
