-- A text as one line.
use Rattle.std.specs.Prelude.{ℕ, ◌==◌, ◌&&◌, nat_le, not, if◌then◌else◌, Bool, List, chars, drop, encode_utf8_all, length, map, take_while, codes}
use Rattle.std.specs.Char.{is_ascii_whitespace, is_control}
use Rattle.std.specs.List.{join_by, list_all, prefix_len}
use Rattle.std.specs.Str.Lines.{lines}

-- a line without the white space at its start
abbrev pub unindented : List ℕ → List ℕ
unindented line = drop (prefix_len is_ascii_whitespace line) line

abbrev pub is_filled : List ℕ → Bool
is_filled line = not (length line == 0)

-- the lines before the first empty one
abbrev pub first_lines : List ℕ → List (List ℕ)
first_lines text = take_while is_filled (map unindented (lines text))

-- the same, with a space between two
abbrev pub first_paragraph : List ℕ → List ℕ
first_paragraph text = join_by (λ line. line) (codes " ") (first_lines text)

-- the same character, or a question mark in place of a control character
abbrev pub plain_char : ℕ → ℕ
plain_char c = if is_control c then 63 else c

abbrev pub plain : List ℕ → List ℕ
plain text = encode_utf8_all (map plain_char (chars text))

-- no byte is a line end, or another control character of ASCII
abbrev pub is_plain_byte : ℕ → Bool
is_plain_byte b = nat_le 32 b && not (b == 127)

abbrev pub is_line : List ℕ → Bool
is_line text = list_all is_plain_byte text
