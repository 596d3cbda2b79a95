-- Lists, place by place.
use Rattle.std.specs.Prelude.{ℕ, zero, suc, ◌<◌, List, [], ◌∷◌, ◌++◌, length, slice_index_or}

-- each place has what it is to have
abbrev pub AtEachPlace : {A : Type 0} → (ℕ → A → Type 0) → List A → Type 0
AtEachPlace {A} Is xs = (i : ℕ) (d : A) → i < length xs → Is i (slice_index_or xs i d)

-- what each number below one gives, in order
abbrev pub up_to : {A : Type 0} → (ℕ → A) → ℕ → List A
up_to f zero = []
up_to f (suc n) = up_to f n ++ f n ∷ []
