-- The lines of a text.
use Rattle.std.specs.Prelude.{◌≡◌, ℕ, zero, suc, ◌+◌, ◌<◌, List, [], ◌∷◌, map, length, Option, Some, None, Result, Ok, Err}
use Rattle.std.specs.Io.BufRead.{take_through, drop_through, strip_last}
use Rattle.bp_sweep.specs.declared.faults.ReferenceFault.{ReferenceFault}
use Rattle.bp_sweep.specs.Dense.{Pages}
use Rattle.bp_sweep.specs.References.{Answers, IsOutside, Said, text_said}

-- the first line of a text, without its end
abbrev pub line_in : List ℕ → List ℕ
line_in text = strip_last 13 (strip_last 10 (take_through 10 text))

-- what follows it
abbrev pub after_line : List ℕ → List ℕ
after_line text = drop_through 10 text

-- the lines of a text, as many as n
unfoldable pub lines_from : ℕ → List ℕ → List (List ℕ)
lines_from zero text = []
lines_from (suc n) [] = []
lines_from (suc n) (c ∷ text) = line_in (c ∷ text) ∷ lines_from n (after_line (c ∷ text))

-- every line of a text
abbrev pub lines_in : List ℕ → List (List ℕ)
lines_in text = lines_from (length text + 1) text

-- what each line says
abbrev pub lines_said : List ℕ → List Said
lines_said text = map text_said (lines_in text)

-- what is found at the next line: no more, or what it says
abbrev pub FindsLine : List ℕ → Result (Option Said) ReferenceFault → Type 0
FindsLine text (Ok None) = text ≡ []
FindsLine text (Ok (Some said)) = (0 < length text) × (said ≡ text_said (line_in text))
FindsLine text (Err fault) = IsOutside fault

-- what reading a text answers that has a number a line
abbrev pub IsList : Result Pages ReferenceFault → List ℕ → Type 0
IsList result text = Answers 1 (lines_said text) result
