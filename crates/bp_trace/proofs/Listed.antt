-- The numbers that a list says are within its limits; there is one, and there are not too many.
use Rattle.std.proofs.Common.{◌≡◌, ℕ, zero, suc, ◌*◌, ◌≤◌, ◌==◌, ◌&&◌, ◌||◌, nat_le, nat_lt, if◌then◌else◌, true, false, Bool, refl, sym, subst, List, [], ◌∷◌, length, All, Option, Some, None, arith}
use Rattle.std.proofs.lemmas.Bool.{leb-true, ltb-true}
use Rattle.std.proofs.lemmas.List.Elements.{All-cons, All-nil}
use Rattle.std.proofs.lemmas.List.Splits.{length-slice_split}
use Rattle.bp_trace.specs.Numbers.{number_in}
use Rattle.bp_trace.specs.NumberLists.{before, doubled, ends_of, from_to, has_repeats, most_listed, number_between, numbers_between, numbers_listed, parts_of, range_of, range_or, unrepeated}
use Rattle.bp_trace.proofs.Ranges.{count}

-- what holds of each number, and how many there are
abbrev AreEach : (ℕ → Type 0) → ℕ → List ℕ → Type 0
AreEach P count numbers = All P numbers × (length numbers ≡ count)

between_are : (P : ℕ → Type 0) (low high : ℕ) → ((n : ℕ) → low ≤ n → n ≤ high → P n) → (parts : List (List ℕ)) (numbers : List ℕ)
    → numbers_between low high parts ≡ Some numbers → AreEach P (length parts) numbers
between_are P low high fits [] numbers e =
    let same : numbers ≡ [] = cc in
    subst (λ (l : List ℕ). AreEach P 0 l) (sym same) (All-nil P, refl)
between_are P low high fits (part ∷ parts) numbers e = go (number_in part) (numbers_between low high parts) e (between_are P low high fits parts)
  where
    go-within : (n : ℕ) (a b : Bool) → nat_le low n ≡ a → nat_le n high ≡ b → (rest : Option (List ℕ)) → before (if a && b then Some n else None) rest ≡ Some numbers
        → ((others : List ℕ) → rest ≡ Some others → AreEach P (length parts) others) → AreEach P (length (part ∷ parts)) numbers
    go-within n true true least most (Some others) e later =
        let same : n ∷ others ≡ numbers = cc in
        let below = later others refl in
        let count : length (n ∷ others) ≡ length (part ∷ parts) = omega (arith, below.1) in
        subst (λ (l : List ℕ). AreEach P (length (part ∷ parts)) l) same
        (All-cons P n others (fits n (leb-true low n least) (leb-true n high most)) below.0, count)
    go-within n true true least most None e later = cc
    go-within n true false least most rest e later = cc
    go-within n false b least most rest e later = cc

    go : (o : Option ℕ) (rest : Option (List ℕ)) → before (from_to low high o) rest ≡ Some numbers
        → ((others : List ℕ) → rest ≡ Some others → AreEach P (length parts) others) → AreEach P (length (part ∷ parts)) numbers
    go None rest e later = cc
    go (Some n) rest e later = go-within n (nat_le low n) (nat_le n high) refl refl rest e later

-- each number has what those from low to high have, there is one, and there are not too many
abbrev pub AreListed : (ℕ → Type 0) → List ℕ → Type 0
AreListed P numbers = All P numbers × (1 ≤ length numbers) × (length numbers ≤ most_listed)

-- ---- numbers with commas

unrepeated_are : (o : Option (List ℕ)) (numbers : List ℕ) → unrepeated o ≡ Some numbers → o ≡ Some numbers
unrepeated_are None numbers e = cc
unrepeated_are (Some found) numbers e = go (has_repeats found) e
  where
    go : (b : Bool) → (if b then None else Some found) ≡ Some numbers → Some found ≡ Some numbers
    go true e = cc
    go false e = e

commas_are : (P : ℕ → Type 0) (low high : ℕ) → ((n : ℕ) → low ≤ n → n ≤ high → P n) → (text numbers : List ℕ)
    → range_or low high text None ≡ Some numbers → AreListed P numbers
commas_are P low high fits text numbers e = go (nat_le (length (parts_of text)) most_listed) refl e
  where
    go : (b : Bool) → nat_le (length (parts_of text)) most_listed ≡ b → (if b then unrepeated (numbers_between low high (parts_of text)) else None) ≡ Some numbers
        → AreListed P numbers
    go true few e =
        let found = between_are P low high fits (parts_of text) numbers (unrepeated_are (numbers_between low high (parts_of text)) numbers e) in
        let whole = length-slice_split (λ b. b == 44) text in
        (found.0, omega (arith, found.1, whole), omega (arith, found.1, leb-true (length (parts_of text)) most_listed few))
    go false few e = cc

-- ---- a range

doubled_are : (P : ℕ → Type 0) (low high last : ℕ) → ((n : ℕ) → low ≤ n → n ≤ high → P n) → low ≤ last → last ≤ high → (most first : ℕ) → low ≤ first
    → All P (doubled most first last)
unfolding doubled
doubled_are P low high last fits least within zero first some = All-nil P
doubled_are P low high last fits least within (suc most) first some =
    go (nat_lt first last) refl (doubled_are P low high last fits least within most (first * 2) (omega (arith, some)))
  where
    go : (b : Bool) → nat_lt first last ≡ b → All P (doubled most (first * 2) last) → All P (if b then first ∷ doubled most (first * 2) last else last ∷ [])
    go true is later =
        let under = ltb-true first last is in
        All-cons P first (doubled most (first * 2) last) (fits first some (omega (arith, under, within))) later
    go false is later = All-cons P last [] (fits last least within) (All-nil P)

some_doubled : (most first last : ℕ) → 1 ≤ length (doubled (suc most) first last)
unfolding doubled
some_doubled most first last = go (nat_lt first last)
  where
    go : (b : Bool) → 1 ≤ length (if b then first ∷ doubled most (first * 2) last else last ∷ [])
    go true = omega arith
    go false = omega arith

-- a number that a text says is within the limits
within : (low high : ℕ) (o : Option ℕ) (n : ℕ) → from_to low high o ≡ Some n → (low ≤ n) × (n ≤ high)
within low high None n e = cc
within low high (Some m) n e = go (nat_le low m) (nat_le m high) refl refl e
  where
    go : (a b : Bool) → nat_le low m ≡ a → nat_le m high ≡ b → (if a && b then Some m else None) ≡ Some n → (low ≤ n) × (n ≤ high)
    go true true least most e =
        let same : m ≡ n = cc in
        subst (λ (k : ℕ). (low ≤ k) × (k ≤ high)) same (leb-true low m least, leb-true m high most)
    go true false least most e = cc
    go false b least most e = cc

range_are : (P : ℕ → Type 0) (low high : ℕ) → ((n : ℕ) → low ≤ n → n ≤ high → P n) → (from to : List ℕ) (numbers : List ℕ)
    → range_of (number_between low high from) (number_between low high to) ≡ Some numbers → AreListed P numbers
range_are P low high fits from to numbers e = go (number_between low high from) (number_between low high to) refl refl e
  where
    go-order : (first last : ℕ) → (low ≤ first) × (first ≤ high) → (low ≤ last) × (last ≤ high) → (b : Bool)
        → (if b then None else Some (doubled most_listed first last)) ≡ Some numbers → AreListed P numbers
    go-order first last a b true e = cc
    go-order first last a b false e =
        let same : doubled most_listed first last ≡ numbers = cc in
        subst (λ (l : List ℕ). AreListed P l) same
        (doubled_are P low high last fits b.0 b.1 most_listed first a.0, some_doubled 63 first last, count most_listed first last)

    go : (first last : Option ℕ) → number_between low high from ≡ first → number_between low high to ≡ last → range_of first last ≡ Some numbers → AreListed P numbers
    go (Some first) (Some last) f l e =
        go-order first last (within low high (number_in from) first f) (within low high (number_in to) last l) ((first == 0) || nat_lt last first) e
    go (Some first) None f l e = cc
    go None last f l e = cc

-- ---- either

pub listed_are : (P : ℕ → Type 0) (low high : ℕ) → ((n : ℕ) → low ≤ n → n ≤ high → P n) → (text numbers : List ℕ)
    → numbers_listed low high text ≡ Some numbers → AreListed P numbers
listed_are P low high fits text numbers e = go (ends_of text) e
  where
    go : (o : Option (List ℕ × List ℕ)) → range_or low high text o ≡ Some numbers → AreListed P numbers
    go (Some ends) e = range_are P low high fits ends.0 ends.1 numbers e
    go None e = commas_are P low high fits text numbers e
