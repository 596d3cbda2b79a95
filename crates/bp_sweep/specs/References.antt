-- The references of a list, of which each line or record says a number, or why it says none.
use Rattle.std.specs.Prelude.{◌≡◌, ◌⊎◌, ℕ, ◌+◌, ◌<◌, ◌≤◌, List, ◌∷◌, ◌++◌, map, length, ok_or, None, Result, Ok, Err}
use Rattle.bp_trace.specs.declared.faults.InputFault.{InputFault}
use Rattle.bp_trace.specs.declared.faults.InputFault.TheVariants.{BadNumber, OutOfMemory, ReadFault, TooLong, TooManyPages}
use Rattle.bp_trace.specs.Numbers.{number_in}
use Rattle.bp_sweep.specs.declared.faults.ReferenceFault.{ReferenceFault}
use Rattle.bp_sweep.specs.Dense.{AreDense, Pages, most_numbers, page_of}

-- the most references of a list
abbrev pub most_references : ℕ
most_references = 268435456

-- what a line or a record says
abbrev pub Said : Type 0
Said = Result ℕ InputFault

-- what a text says that is to be a number
abbrev pub text_said : List ℕ → Said
text_said text = ok_or (number_in text) BadNumber

-- the reader failed, or memory was refused
abbrev pub IsOutside : ReferenceFault → Type 0
IsOutside fault = (fault.why ≡ ReadFault) ⊎ (fault.why ≡ OutOfMemory)

-- why what is said is no reference, where so many came before it, of these different numbers
pub data IsFaulty (count : ℕ) (seen : List ℕ) : Said → InputFault → Type 0 where
  too_long : {said : Said} → most_references ≤ count → IsFaulty count seen said TooLong
  no_number : {why : InputFault} → count < most_references → IsFaulty count seen (Err why) why
  too_many : {n : ℕ} → count < most_references → page_of n seen ≡ None → most_numbers ≤ length seen
      → IsFaulty count seen (Ok n) TooManyPages

-- all of them say numbers, and these are the references
pub record AreOf (said : List Said) (references : Pages) : Type 0 where
  pub numbers : List ℕ
  pub seen : List ℕ
  pub all : said ≡ map Ok numbers
  pub dense : AreDense numbers references.pages seen
  pub different : references.different ≡ length seen
  pub few : length numbers ≤ most_references
  pub few_different : length seen ≤ most_numbers

-- the first of them that is no reference, where the first of all has this line: those before it are
-- references
pub record StopsAt (line : ℕ) (said : List Said) (fault : ReferenceFault) : Type 0 where
  pub numbers : List ℕ
  pub pages : List ℕ
  pub seen : List ℕ
  pub found : Said
  pub later : List Said
  pub split : said ≡ map Ok numbers ++ found ∷ later
  pub dense : AreDense numbers pages seen
  pub few : length numbers ≤ most_references
  pub few_different : length seen ≤ most_numbers
  pub line_is : fault.line ≡ line + length numbers
  pub why : IsFaulty (length numbers) seen found fault.why

-- what reading all of them answers
abbrev pub Answers : ℕ → List Said → Result Pages ReferenceFault → Type 0
Answers line said (Ok references) = AreOf said references
Answers line said (Err fault) = IsOutside fault ⊎ StopsAt line said fault
