-- The numbers that a list says, as `64,256,1024` or `16..1024` does.
use Rattle.std.specs.Prelude.{◌≡◌, ℕ, zero, suc, ◌+◌, ◌-◌, ◌*◌, ◌<◌, ◌≤◌, ◌==◌, ◌&&◌, ◌||◌, min, nat_le, nat_lt, if◌then◌else◌, Bool, false, List, [], ◌∷◌, get_or, length, Option, Some, None}
use Rattle.std.specs.Option.{option_map_or}
use Rattle.std.specs.List.{after_first, before_first, list_any, position_or_len, slice_split}
use Rattle.bp_trace.specs.Numbers.{number_in}

abbrev pub from_to : ℕ → ℕ → Option ℕ → Option ℕ
from_to low high None = None
from_to low high (Some n) = if nat_le low n && nat_le n high then Some n else None

-- the number that a text says, if it says one from low to high
abbrev pub number_between : ℕ → ℕ → List ℕ → Option ℕ
number_between low high text = from_to low high (number_in text)

-- the most numbers of a list
abbrev pub most_listed : ℕ
most_listed = 64

-- ---- numbers with commas

-- the parts of a text between its commas
abbrev pub parts_of : List ℕ → List (List ℕ)
parts_of = slice_split (λ b. b == 44)

abbrev pub before : Option ℕ → Option (List ℕ) → Option (List ℕ)
before (Some n) (Some rest) = Some (n ∷ rest)
before _ _ = None

-- the numbers that texts say, if each says one from low to high
abbrev pub numbers_between : ℕ → ℕ → List (List ℕ) → Option (List ℕ)
numbers_between low high [] = Some []
numbers_between low high (part ∷ parts) =
    before (number_between low high part) (numbers_between low high parts)

-- whether a number stands twice
abbrev pub has_repeats : List ℕ → Bool
has_repeats [] = false
has_repeats (n ∷ later) = list_any (λ m. m == n) later || has_repeats later

abbrev pub unrepeated : Option (List ℕ) → Option (List ℕ)
unrepeated None = None
unrepeated (Some numbers) = if has_repeats numbers then None else Some numbers

-- the numbers that a text says with a comma between two: not too many, and no two equal
abbrev pub with_commas : ℕ → ℕ → List ℕ → Option (List ℕ)
with_commas low high text =
    let parts = parts_of text in
    if nat_le (length parts) most_listed then unrepeated (numbers_between low high parts) else None

-- ---- a range

abbrev pub is_dot : ℕ → Bool
is_dot b = b == 46

-- what stands before the first dot of a text, and what stands after it
abbrev pub cut : List ℕ → Option (List ℕ × List ℕ)
cut text =
    if nat_lt (position_or_len is_dot text) (length text)
    then Some (before_first is_dot text, after_first is_dot text)
    else None

abbrev pub next_dot : List ℕ → Option (List ℕ × List ℕ) → Option (List ℕ × List ℕ)
next_dot first (Some p) = if length p.0 == 0 then Some (first, p.1) else None
next_dot first None = None

-- what stands before and after the two dots of a range, which are the first of the text, with
-- nothing between
abbrev pub ends_of : List ℕ → Option (List ℕ × List ℕ)
ends_of text = option_map_or (λ p. next_dot p.0 (cut p.1)) (cut text) None

-- the numbers from the first on, each the double of the one before, as long as they are below the
-- last, and then the last: at most so many
unfoldable pub doubled : ℕ → ℕ → ℕ → List ℕ
doubled zero first last = []
doubled (suc most) first last =
    if nat_lt first last then first ∷ doubled most (first * 2) last else last ∷ []

-- those of a range with these ends, of which 0 is not the first
abbrev pub range_of : Option ℕ → Option ℕ → Option (List ℕ)
range_of (Some first) (Some last) =
    if (first == 0) || nat_lt last first then None else Some (doubled most_listed first last)
range_of _ _ = None

-- the numbers of a range with these ends
abbrev pub range_between : ℕ → ℕ → List ℕ → List ℕ → Option (List ℕ)
range_between low high first last =
    range_of (number_between low high first) (number_between low high last)

-- ---- either

abbrev pub range_or : ℕ → ℕ → List ℕ → Option (List ℕ × List ℕ) → Option (List ℕ)
range_or low high text (Some ends) = range_between low high ends.0 ends.1
range_or low high text None = with_commas low high text

-- the numbers that a list says, each from low to high: those of a range, or with a comma between
-- two
abbrev pub numbers_listed : ℕ → ℕ → List ℕ → Option (List ℕ)
numbers_listed low high text = range_or low high text (ends_of text)

-- ---- what a range has

-- both its ends, and each number but the first is the double of the one before, or the last where
-- the double is above
pub record IsRange (first last : ℕ) (numbers : List ℕ) : Type 0 where
  pub some : 1 ≤ length numbers
  pub few : length numbers ≤ most_listed
  pub begins : get_or numbers 0 0 ≡ first
  pub ends : get_or numbers (length numbers - 1) 0 ≡ last
  pub below : (i : ℕ) → i + 1 < length numbers → get_or numbers i 0 < last
  pub doubles : (i : ℕ) → i + 1 < length numbers
      → get_or numbers (i + 1) 0 ≡ min (get_or numbers i 0 * 2) last
