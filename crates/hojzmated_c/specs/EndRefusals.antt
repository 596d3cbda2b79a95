-- The numbers of the refusals of an end.
use Rattle.std.specs.Prelude.{ℕ}
use Rattle.bp_page.specs.Refusals.{number_of}
use Rattle.bp_core.specs.declared.passes.EndRefusal.{EndRefusal}
use Rattle.bp_core.specs.declared.passes.EndRefusal.TheVariants.{Unknown, Failed}

-- an unknown ticket is 16
abbrev pub number_of_end : {T R : Type 0} → EndRefusal T R → ℕ
number_of_end (Unknown ticket result) = 16
number_of_end (Failed refusal) = number_of refusal
