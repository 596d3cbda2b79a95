-- The numbers of a trace.
use Rattle.std.specs.Prelude.{ℕ, ◌^◌, nat_le, ◌&&◌, if◌then◌else◌, List, length, Option, Some, None}
use Rattle.std.specs.Char.{is_ascii_digit}
use Rattle.std.specs.List.{list_all}
use Rattle.std.specs.Str.Parse.{digits_value}

-- the number that a text of digits alone says
unfoldable pub digits_in : List ℕ → Option ℕ
digits_in text = if list_all is_ascii_digit text then Some (digits_value 10 text) else None

abbrev pub at_most : ℕ → Option ℕ → Option ℕ
at_most limit None = None
at_most limit (Some n) = if nat_le n limit then Some n else None

-- the number that a text says, if it says one: 1 to 19 decimal digits with a value of at most
-- 2 ^ 62
unfoldable pub number_in : List ℕ → Option ℕ
number_in text =
    if nat_le 1 (length text) && nat_le (length text) 19 then at_most (2 ^ 62) (digits_in text)
    else None
