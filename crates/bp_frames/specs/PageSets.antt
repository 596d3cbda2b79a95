-- Sets of numbers that tell which of them comes next.
use Rattle.std.specs.Prelude.{◌≡◌, ℕ, ◌+◌, ◌*◌, ◌/◌, ◌%◌, ◌^◌, ◌<◌, ◌≤◌, Bool, true, false, not}
use Rattle.std.specs.Prelude.{◌==◌, List, [], length, slice_index, slice_index_or}
use Rattle.std.specs.Int.{bit_at}

-- the first number from another on that passes
pub record IsNext (passes : ℕ → Bool) (from next : ℕ) : Type 0 where
  pub not_before : from ≤ next
  pub here : passes next ≡ true
  pub none_between : (q : ℕ) → from ≤ q → q < next → passes q ≡ false

-- none of the numbers from this one on passes
abbrev pub NoneFrom : (ℕ → Bool) → ℕ → Type 0
NoneFrom passes from = (q : ℕ) → from ≤ q → passes q ≡ false

-- ---- rows of bits, in words of 64

-- the bit of a number is 1 in a word, and in a row
abbrev pub is_set : ℕ → ℕ → Bool
is_set word bit = bit_at word bit == 1

abbrev pub holds : List ℕ → ℕ → Bool
holds row number = is_set (slice_index row (number / 64)) (number % 64)

-- some bit of a word of a row is 1
abbrev pub holds_any : List ℕ → ℕ → Bool
holds_any row word = not (slice_index row word == 0)

-- a set of numbers below a limit, by the row of their bits
pub record Numbers : Type 0 where
  pub limit : ℕ
  pub row : List ℕ

abbrev pub has : Numbers → ℕ → Bool
has numbers number = holds numbers.row number

abbrev pub row_at : List (List ℕ) → ℕ → List ℕ
row_at rows level = slice_index_or rows level []

-- from this row on, each row above another has the bits of those words that have any
abbrev pub AreSummed : List (List ℕ) → ℕ → Type 0
AreSummed rows from =
    (level word : ℕ) → from ≤ level → level + 1 < length rows
    → holds (row_at rows (level + 1)) word ≡ holds_any (row_at rows level) word

-- rows that end with one word, each wide enough for the words of the one below it
pub record AreShaped (rows : List (List ℕ)) : Type 0 where
  pub some : 0 < length rows
  pub wide : (level : ℕ) → level + 1 < length rows
      → length (row_at rows level) ≤ 64 * length (row_at rows (level + 1))
  pub page_lsn : (level : ℕ) → level + 1 ≡ length rows → length (row_at rows level) ≤ 1
  pub few : (level : ℕ) → length (row_at rows level) < 2 ^ 48

pub record ArePageRows (limit : ℕ) (rows : List (List ℕ)) : Type 0 where
  pub shaped : AreShaped rows
  pub summed : AreSummed rows 0
  pub within : limit ≤ 64 * length (row_at rows 0)
