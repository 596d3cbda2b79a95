-- Numbers made dense: each has a page, and pages are numbered from 0 as their numbers come first.
use Rattle.std.specs.Prelude.{◌≡◌, ℕ, ◌<◌, ◌≤◌, ◌==◌, if◌then◌else◌, List, [], ◌∷◌, ◌++◌, length, All, Option, Some, None, Result, Ok, Err, nat_eq}
use Rattle.std.specs.HashMap.{HashMap, get, hash_map_len}
use Rattle.bp_trace.specs.declared.faults.InputFault.{InputFault}
use Rattle.bp_trace.specs.declared.faults.InputFault.TheVariants as input_fault

-- the most different numbers
abbrev pub most_numbers : ℕ
most_numbers = 1048576

-- the page of a number, where these different ones came before, the newest first: as many as came
-- before it
abbrev pub page_of : ℕ → List ℕ → Option ℕ
page_of n [] = None
page_of n (m ∷ before) = if m == n then Some (length before) else page_of n before

-- the page of the number that comes next, and the different ones after it
pub data ComesNext (n : ℕ) (seen : List ℕ) : ℕ → List ℕ → Type 0 where
  again : {page : ℕ} → page_of n seen ≡ Some page → ComesNext n seen page seen
  first : page_of n seen ≡ None → ComesNext n seen (length seen) (n ∷ seen)

-- the pages of numbers, and the different ones of these, the newest first
pub data AreDense : List ℕ → List ℕ → List ℕ → Type 0 where
  none : AreDense [] [] []
  one_more : {numbers pages seen newer : List ℕ} {n page : ℕ} → AreDense numbers pages seen
      → ComesNext n seen page newer → AreDense (numbers ++ n ∷ []) (pages ++ page ∷ []) newer

-- what contracts see of references: the page of each, and how many different pages there are
pub record Pages : Type 0 where
  pub pages : List ℕ
  pub different : ℕ

-- each page is one of so many, and there are not too many
pub record ArePages (pages : List ℕ) (different : ℕ) : Type 0 where
  pub below : All (λ page. page < different) pages
  pub few : different ≤ most_numbers

-- a map has the page of each of the different numbers, and there are not too many
pub record IsIndex {S : Type 0} (places : HashMap ℕ ℕ S) (seen : List ℕ) : Type 0 where
  pub pages : (n : ℕ) → get nat_eq places n ≡ page_of n seen
  pub count : hash_map_len places ≡ length seen
  pub few : length seen ≤ most_numbers

-- the page of a number that comes next and the map with it, or why it has none
abbrev pub PlacesNumber : {S : Type 0} → ℕ → List ℕ → Result ℕ InputFault → HashMap ℕ ℕ S → Type 0
PlacesNumber n seen (Ok page) places =
    (newer : List ℕ) × ComesNext n seen page newer × IsIndex places newer
PlacesNumber n seen (Err input_fault.TooManyPages) places =
    (page_of n seen ≡ None) × (most_numbers ≤ length seen)
PlacesNumber n seen (Err input_fault.OutOfMemory) places = Unit {0}
PlacesNumber n seen (Err _) places = ⊥
