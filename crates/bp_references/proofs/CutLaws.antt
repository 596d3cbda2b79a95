-- The bursts are the one way to cut the references.
use Rattle.std.proofs.Common.{◌≡◌, ℕ, Bool, true, false, List, [], ◌∷◌, ◌++◌, refl, sym, ap, ◌∙◌}
use Rattle.std.proofs.lemmas.Bool.{true≢false}
use Rattle.bp_references.specs.Burst.{Reference, Burst, opens_burst, add_reference, bursts}
use Rattle.bp_references.specs.Burst.Reference.{hit, fault}
use Rattle.bp_references.specs.Cut.{joined, IsBurst, AreBursts, IsCut}

joined_with : (opens : Bool) (r : Reference) (all : List Burst) → joined (add_reference opens r all) ≡ r ∷ joined all
joined_with true r all = refl
joined_with false r [] = refl
joined_with false r (newest ∷ older) = refl

joined_bursts : (c : ℕ) (references : List Reference) → joined (bursts c references) ≡ references
joined_bursts c [] = refl
joined_bursts c (r ∷ older) = joined_with (opens_burst c r older) r (bursts c older) ∙ ap (λ rs. r ∷ rs) (joined_bursts c older)

-- the first reference of all opens a burst
first_opens : (c : ℕ) (r : Reference) → opens_burst c r [] ≡ true
first_opens c (hit t) = refl
first_opens c (fault t) = refl

-- one more reference makes bursts of bursts
are_bursts_with : (c : ℕ) (opens : Bool) (r : Reference) (all : List Burst) → opens_burst c r (joined all) ≡ opens → AreBursts c all → AreBursts c (add_reference opens r all)
are_bursts_with c true r all is are = (is, are)
are_bursts_with c false r [] is are = absurd (true≢false (sym (first_opens c r) ∙ is))
are_bursts_with c false r ([] ∷ older) is are = absurd are.0
are_bursts_with c false r ((q ∷ newest) ∷ older) is are = ((is, are.0), are.1)

are_bursts : (c : ℕ) (references : List Reference) → AreBursts c (bursts c references)
are_bursts c [] = tt
are_bursts c (r ∷ older) = are_bursts_with c (opens_burst c r older) r (bursts c older) (ap (opens_burst c r) (joined_bursts c older)) (are_bursts c older)

pub bursts_cut : (c : ℕ) (references : List Reference) → IsCut c references (bursts c references)
bursts_cut c references = record { joined_again = joined_bursts c references; are_bursts = are_bursts c references }

-- pieces that are bursts are those that their references are cut into, the newest of them too
newest_piece : (c : ℕ) (newest : Burst) (older : List Burst) → bursts c (joined older) ≡ older → IsBurst c newest (joined older) → bursts c (newest ++ joined older) ≡ newest ∷ older
newest_piece c [] older is burst = absurd burst
newest_piece c (r ∷ []) older is burst = ap (λ opens. add_reference opens r (bursts c (joined older))) burst ∙ ap (λ all. (r ∷ []) ∷ all) is
newest_piece c (r ∷ q ∷ rest) older is burst =
    ap (λ opens. add_reference opens r (bursts c (q ∷ rest ++ joined older))) burst.0
    ∙ ap (add_reference false r) (newest_piece c (q ∷ rest) older is burst.1)

bursts_of_pieces : (c : ℕ) (pieces : List Burst) → AreBursts c pieces → bursts c (joined pieces) ≡ pieces
bursts_of_pieces c [] are = refl
bursts_of_pieces c (newest ∷ older) are = newest_piece c newest older (bursts_of_pieces c older are.1) are.0

pub one_cut : (c : ℕ) (references : List Reference) (pieces : List Burst) → IsCut c references pieces → pieces ≡ bursts c references
one_cut c references pieces cut = sym (bursts_of_pieces c pieces cut.are_bursts) ∙ ap (bursts c) cut.joined_again
