-- The records of a log as bytes. A record is a payload under an LSN, and its frame has a length and a
-- checksum before it.
use Rattle.std.specs.Prelude.{◌≢◌, ℕ, ◌+◌, ◌*◌, ◌%◌, ◌^◌, ◌<◌, ◌≤◌, List, [], ◌∷◌, ◌++◌, length}
use Rattle.std.specs.Int.{w64, to_le_bytes}

-- bytes, taken into a sum one after the other
abbrev pub summed : ℕ → List ℕ → ℕ
summed sum [] = sum
summed sum (b ∷ bytes) = summed ((sum * 1099511628211 % 2 ^ 64 + b) % 2 ^ 64) bytes

-- a number in eight bytes, little end first
unfoldable pub number : ℕ → List ℕ
number n = to_le_bytes w64 n

unfoldable pub checksum : ℕ → List ℕ → ℕ
checksum lsn payload = summed lsn payload

abbrev pub frame : ℕ → List ℕ → List ℕ
frame lsn payload =
    number (length payload) ++ (number lsn ++ (number (checksum lsn payload) ++ payload))

-- those of records whose LSNs go up by one
abbrev pub frames : ℕ → List (List ℕ) → List ℕ
frames lsn [] = []
frames lsn (payload ∷ later) = frame lsn payload ++ frames (lsn + 1) later

-- what a frame may tell: no LSN is 0, so that zeros are no frame
pub record IsRecord (lsn : ℕ) (payload : List ℕ) : Type 0 where
  pub positive : 1 ≤ lsn
  pub fits : lsn < 2 ^ 64
  pub size : length payload < 2 ^ 64

-- no record stands at the front: it is cut off, or its checksum is wrong
abbrev pub NoFrame : List ℕ → Type 0
NoFrame bytes =
    (lsn : ℕ) (payload rest : List ℕ) → IsRecord lsn payload → bytes ≢ frame lsn payload ++ rest
