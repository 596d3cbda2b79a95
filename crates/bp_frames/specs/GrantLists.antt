-- What a list of passes or tickets is seen as: those that are out, newest first, and which more may
-- be given.
use Rattle.std.specs.Prelude.{◌≡◌, ℕ, ◌+◌, ◌-◌, ◌<◌, ◌≤◌, max, Bool, true, false, List, [], ◌∷◌, length, reverse, slice_index_or}
use Rattle.std.specs.Prelude.{if◌then◌else◌}
use Rattle.bp_frames.specs.declared.grant_list.Slot.{Slot}
use Rattle.bp_frames.specs.Rising.{IsRisingBy}
use Rattle.bp_trail.specs.Event.{Grant, grant}

-- the passes or tickets that are out, how many more may be given with no memory taken, and from
-- which serial number on
pub record Given : Type 0 where
  pub out : List Grant
  pub room : ℕ
  pub next : ℕ

abbrev pub with_grant : Given → ℕ → ℕ → ℕ → Given
with_grant given client page serial =
    record given {
      out = grant client page serial ∷ given.out;
      room = given.room - 1;
      next = serial + 1;
    }

-- what the one may give, the other may give
pub record GivesAsMuch (one other : Given) : Type 0 where
  pub room : one.room ≤ other.room
  pub next : other.next ≤ one.next

-- the grants that are out, of these slots
abbrev pub grants_out : List Slot → List Grant
grants_out [] = []
grants_out (s ∷ ss) = if s.is_out then s.grant ∷ grants_out ss else grants_out ss

-- the number above those of these slots
abbrev pub above : List Slot → ℕ
above [] = 0
above (s ∷ ss) = max (s.grant.serial + 1) (above ss)

-- what slots come to, beside so much room
abbrev pub given_by : List Slot → ℕ → Given
given_by slots room = record { out = reverse (grants_out slots); room = room; next = above slots }

-- the numbers of the slots rise, if that is said of them
abbrev pub MayRise : Bool → List Slot → Type 0
MayRise is_rising slots = is_rising ≡ true → IsRisingBy (λ (s : Slot). s.grant.serial) slots

-- slots, in the order of their numbers if that is said of them, so many of which have a grant that
-- is out
abbrev pub AreInOrder : List Slot → ℕ → Bool → Type 0
AreInOrder slots count is_rising =
    MayRise is_rising slots × (count ≡ length (grants_out slots))

-- where the first slot stands whose grant is out, or the end
pub record IsFirstOut (slots : List Slot) (first : ℕ) : Type 0 where
  pub within : first ≤ length slots
  pub left : (k : ℕ) (d : Slot) → k < first → (slice_index_or slots k d).is_out ≡ false
  pub out : (d : Slot) → first < length slots → (slice_index_or slots first d).is_out ≡ true
