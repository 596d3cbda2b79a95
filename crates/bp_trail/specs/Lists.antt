-- Words on lists. A trail is newest first, so that what stands before an element follows it in the
-- list.
--     total ns, greatest ns      the sum of numbers, and the greatest, or 0
--     some p xs, every p xs, count p xs      some element passes, each does, and how many do
--     EachEntry P xs      P of each element and what stands before it
--     after_last p xs      the elements after the last that passes p, or all where none does
--     since start stop xs      some element passes start, and no later one passes stop
--     least_since value stop xs      the least value of such elements, if one has any
--     outstanding key gives ends xs      what elements gave and no later one ended, newest first;
--                                        one ends all that have its key
use Rattle.std.specs.Prelude.{ℕ, ◌+◌, min, max, Bool, true, false, not, ◌&&◌, ◌||◌, ◌==◌, if◌then◌else◌, List, [], ◌∷◌, filter, length, Option, Some, None}
use Rattle.std.specs.List.{list_any}

abbrev pub total : List ℕ → ℕ
total [] = 0
total (n ∷ ns) = n + total ns

abbrev pub greatest : List ℕ → ℕ
greatest [] = 0
greatest (n ∷ ns) = max n (greatest ns)

abbrev pub some : {X : Type 0} → (X → Bool) → List X → Bool
some p xs = list_any p xs

abbrev pub every : {X : Type 0} → (X → Bool) → List X → Bool
every p [] = true
every p (x ∷ xs) = p x && every p xs

abbrev pub count : {X : Type 0} → (X → Bool) → List X → ℕ
count p xs = length (filter p xs)

abbrev pub after_last : {X : Type 0} → (X → Bool) → List X → List X
after_last p [] = []
after_last p (x ∷ xs) = if p x then [] else x ∷ after_last p xs

abbrev pub since : {X : Type 0} → (X → Bool) → (X → Bool) → List X → Bool
since start stop [] = false
since start stop (x ∷ xs) = start x || (not (stop x) && since start stop xs)

-- one number more, of which the least is asked
abbrev pub or_less : Option ℕ → Option ℕ → Option ℕ
or_less None least = least
or_less (Some n) None = Some n
or_less (Some n) (Some least) = Some (min n least)

abbrev pub least_since : {X : Type 0} → (X → Option ℕ) → (X → Bool) → List X → Option ℕ
least_since value stop [] = None
least_since value stop (x ∷ xs) =
    or_less (value x) (if stop x then None else least_since value stop xs)

-- one more, if there is one; and those without the key that is ended, if one is
abbrev pub and_given : {Y : Type 0} → Option Y → List Y → List Y
and_given None ys = ys
and_given (Some y) ys = y ∷ ys

abbrev pub without : {Y : Type 0} → (Y → ℕ) → Option ℕ → List Y → List Y
without key None ys = ys
without key (Some n) ys = filter (λ y. not (key y == n)) ys

abbrev pub outstanding : {X Y : Type 0} → (Y → ℕ) → (X → Option Y) → (X → Option ℕ) → List X
    → List Y
outstanding key gives ends [] = []
outstanding key gives ends (x ∷ xs) =
    and_given (gives x) (without key (ends x) (outstanding key gives ends xs))

-- P of each element and what stands before it
abbrev pub EachEntry : {X : Type 0} → (List X → X → Type 0) → List X → Type 0
EachEntry P [] = Unit {0}
EachEntry P (x ∷ xs) = record { here : P xs x; before : EachEntry P xs }
