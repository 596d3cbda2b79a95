-- What a list of passes held is seen as, and how its slots and its table stand for it.
use Rattle.std.specs.Prelude.{◌≡◌, ℕ, Bool, true, ◌&&◌, ◌==◌, if◌then◌else◌, List, [], ◌∷◌, length}
use Rattle.std.specs.Prelude.{Option, Some, None}
use Rattle.std.specs.HashMap.{HashMap, get}
use Rattle.bp_trail.specs.Event.{Grant}
use Rattle.bp_scripts.specs.Script.{is_pass_of}
use Rattle.bp_replay.specs.declared.held_list.Slot.{Slot}

-- the passes, in the order taken, and how many more the list takes with no memory taken
pub record HeldValue : Type 0 where
  pub passes : List Grant
  pub room : ℕ

-- the passes of these slots that are held, in their order
abbrev pub passes_in : List Slot → List Grant
passes_in [] = []
passes_in (s ∷ ss) = if s.is_held then s.note ∷ passes_in ss else passes_in ss

-- a key is a client and a page
abbrev pub same_key : ℕ × ℕ → ℕ × ℕ → Bool
same_key k q = (k.0 == q.0) && (k.1 == q.1)

-- the slot's pass is held, and is of this key
abbrev pub has_pass_of : ℕ × ℕ → Slot → Bool
has_pass_of k s = s.is_held && is_pass_of k.0 k.1 s.note

-- where the newest slot stands that has a pass of this key; here and below the slots come newest
-- first
abbrev pub newest_of : ℕ × ℕ → List Slot → Option ℕ
newest_of k [] = None
newest_of k (s ∷ older) = if has_pass_of k s then Some (length older) else newest_of k older

-- each slot whose pass is held says where the newest of its key stands among those older than
-- itself
abbrev pub AreLinked : List Slot → Type 0
AreLinked [] = Unit {0}
AreLinked (s ∷ older) =
    (s.is_held ≡ true → s.previous ≡ newest_of (s.note.client, s.note.page) older)
    × AreLinked older

-- the table says of each key where the newest slot stands that has a pass of it
abbrev pub FindsNewest : {S : Type 0} → HashMap (ℕ × ℕ) ℕ S → List Slot → Type 0
FindsNewest latest slots = (k : ℕ × ℕ) → get same_key latest k ≡ newest_of k slots
