-- What the bursts are: the references cut before each that opens a burst, and nowhere else.
use Rattle.std.specs.Prelude.{◌≡◌, ℕ, IsTrue, IsFalse, List, [], ◌∷◌, ◌++◌}
use Rattle.bp_references.specs.Burst.{Reference, Burst, opens_burst}

-- all references of some bursts
abbrev pub joined : List Burst → List Reference
joined [] = []
joined (newest ∷ older) = newest ++ joined older

-- the oldest of these references opens a burst, and no other does; the references in `older` came
-- before them
abbrev pub IsBurst : ℕ → Burst → List Reference → Type 0
IsBurst correlated [] older = ⊥
IsBurst correlated (r ∷ []) older = IsTrue (opens_burst correlated r older)
IsBurst correlated (r ∷ q ∷ burst) older =
    IsFalse (opens_burst correlated r (q ∷ burst ++ older)) × IsBurst correlated (q ∷ burst) older

abbrev pub AreBursts : ℕ → List Burst → Type 0
AreBursts correlated [] = Unit {0}
AreBursts correlated (newest ∷ older) =
    IsBurst correlated newest (joined older) × AreBursts correlated older

-- joined again, the pieces are the references in their order, and each is a burst
pub record IsCut (correlated : ℕ) (references : List Reference) (pieces : List Burst) : Type 0 where
  pub joined_again : joined pieces ≡ references
  pub are_bursts : AreBursts correlated pieces
