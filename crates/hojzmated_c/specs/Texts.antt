-- What the number of a refusal says.
use Rattle.std.specs.Prelude.{ℕ, ◌==◌, if◌then◌else◌, List, ◌++◌, take, drop, length, codes}
use Rattle.std.specs.Option.{unwrap_or}
use Rattle.bp_page.specs.Explained.{explanation_of}

-- the text of each number, as bytes: that of its refusal, but for two that the header words
-- otherwise, and four that it adds; 52 comes from the calls that stand before these, in bindings/c
unfoldable pub text_of : ℕ → List ℕ
text_of number =
    if number == 0 then codes "done"
    else if number == 1 then codes "the number of pages or the page size is out of its limits"
    else if number == 12 then codes "the log must first be durable up to the LSN that is told"
    else if number == 50 then codes "the handle has no core"
    else if number == 51 then codes "the handle has a core already"
    else if number == 52 then codes "a pointer is null"
    else unwrap_or (explanation_of number) (codes "unknown number")

-- a buffer with as much of a text as it has room for
abbrev pub begun_with : List ℕ → List ℕ → List ℕ
begun_with text buffer = take (length buffer) text ++ drop (length text) buffer
