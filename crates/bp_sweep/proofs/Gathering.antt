-- One number after the other comes in.
use Rattle.std.proofs.Common.{◌≡◌, refl, sym, ◌∙◌, ap, subst, ℕ, ◌+◌, ◌<◌, ◌≤◌, arith, cond, nat_eq, List, [], ◌∷◌, ◌++◌, length, length-append, append-nil, map, All, Some, None, Ok, Err, ◌⊎◌, inl, inr, HashMap, hash_map_len}
use Rattle.std.specs.HashMap.{get}
use Rattle.bp_trace.specs.declared.faults.InputFault.{InputFault}
use Rattle.bp_trace.specs.declared.faults.InputFault.TheVariants as input_fault
use Rattle.bp_sweep.specs.declared.dense.Gathered.{Gathered}
use Rattle.bp_sweep.specs.declared.faults.ReferenceFault.{ReferenceFault}
use Rattle.bp_sweep.specs.Dense.{AreDense, ArePages, ComesNext, IsIndex, PlacesNumber, most_numbers, page_of}
use Rattle.bp_sweep.specs.Dense.AreDense.{one_more}
use Rattle.bp_sweep.specs.Dense.ComesNext.{again, first}
use Rattle.bp_sweep.specs.References.{Answers, IsFaulty, IsOutside, Said, most_references}
use Rattle.bp_sweep.specs.References.IsFaulty.{too_long, no_number, too_many}
use Rattle.bp_sweep.specs.Gathering.{Gathers, Holds, IsGathered, pages_gathered}
use Rattle.bp_sweep.proofs.DenseNumbers.{dense-below, dense-count}

-- ---- the map

module _ {S : Type 0} (old new : HashMap ℕ ℕ S) (n page : ℕ) (seen : List ℕ) (index : IsIndex old seen) where
  -- a number that came before
  pub finds : get nat_eq old n ≡ Some page → ComesNext n seen page seen
  finds found = again (sym (index.pages n) ∙ found)

  pub misses : get nat_eq old n ≡ None → page_of n seen ≡ None
  misses found = sym (index.pages n) ∙ found

  -- a number that is new
  pub adds : get nat_eq old n ≡ None → page ≡ hash_map_len old → ComesNext n seen page (n ∷ seen)
  adds found is = subst (λ p. ComesNext n seen p (n ∷ seen)) (sym (is ∙ index.count)) (first (misses found))

  pub index-more : page ≡ hash_map_len old → page < most_numbers → ((q : ℕ) → get nat_eq new q ≡ cond (nat_eq n q) (Some page) (get nat_eq old q)) → hash_map_len new ≡ hash_map_len old + 1 → IsIndex new (n ∷ seen)
  index-more is below updates more = record {
    pages = λ q. updates q ∙ ap (λ p. cond (nat_eq n q) (Some p) (get nat_eq old q)) (is ∙ index.count) ∙ ap (λ o. cond (nat_eq n q) (Some (length seen)) o) (index.pages q);
    count = omega (arith, more, index.count);
    few = omega (arith, is, below, index.count);
  }

-- ---- what is gathered

pub holds-count : (g : Gathered) (numbers seen : List ℕ) → Holds g numbers seen → length g.pages.items ≡ length numbers
holds-count g numbers seen holds = dense-count numbers g.pages.items seen holds.dense

-- a number has no page
pub place-fails : {S : Type 0} (line n : ℕ) (numbers seen : List ℕ) (said : Said) (why : InputFault) (places : HashMap ℕ ℕ S) (fault : ReferenceFault) → length numbers < most_references → said ≡ Ok n → PlacesNumber n seen (Err why) places
    → fault.line ≡ line → fault.why ≡ why → IsOutside fault ⊎ ((fault.line ≡ line) × IsFaulty (length numbers) seen said fault.why)
place-fails line n numbers seen said input_fault.TooManyPages places fault few is placed at because =
    inr (at, subst (λ s. IsFaulty (length numbers) seen s fault.why) (sym is) (subst (λ r. IsFaulty (length numbers) seen (Ok n) r) (sym because) (too_many few placed.0 placed.1)))
place-fails line n numbers seen said input_fault.OutOfMemory places fault few is placed at because = inl (inr because)
place-fails line n numbers seen said _ places fault few is placed at because = absurd placed

-- a line says no number
pub says-none : (line : ℕ) (numbers seen : List ℕ) (said : Said) (why : InputFault) (fault : ReferenceFault) → length numbers < most_references → said ≡ Err why → fault.line ≡ line → fault.why ≡ why
    → IsOutside fault ⊎ ((fault.line ≡ line) × IsFaulty (length numbers) seen said fault.why)
says-none line numbers seen said why fault few is at because =
    inr (at, subst (λ s. IsFaulty (length numbers) seen s fault.why) (sym is) (subst (λ r. IsFaulty (length numbers) seen (Err why) r) (sym because) (no_number few)))

-- a line after the most references
pub says-too-much : (line : ℕ) (numbers seen : List ℕ) (said : Said) (fault : ReferenceFault) → most_references ≤ length numbers → fault.line ≡ line → fault.why ≡ input_fault.TooLong
    → IsOutside fault ⊎ ((fault.line ≡ line) × IsFaulty (length numbers) seen said fault.why)
says-too-much line numbers seen said fault many at because = inr (at, subst (λ r. IsFaulty (length numbers) seen said r) (sym because) (too_long many))

-- a number more
pub holds-more : (old new : Gathered) (numbers seen newer : List ℕ) (n page : ℕ) → Holds old numbers seen → length old.pages.items < most_references → ComesNext n seen page newer → IsIndex new.places newer
    → new.pages.items ≡ old.pages.items ++ page ∷ [] → Holds new (numbers ++ n ∷ []) newer
holds-more old new numbers seen newer n page holds few comes index pages = record {
  dense = subst (λ ps. AreDense (numbers ++ n ∷ []) ps newer) (sym pages) (one_more holds.dense comes);
  index = index;
  few = omega (arith, few, holds-count old numbers seen holds, length-append numbers (n ∷ []));
}

-- the pages of what is gathered
pub gathered-pages : (g : Gathered) → IsGathered g → ArePages g.pages.items (hash_map_len g.places)
gathered-pages g (numbers, seen, holds) = record {
  below = subst (λ d. All (λ page. page < d) g.pages.items) (sym holds.index.count) (dense-below numbers g.pages.items seen holds.dense);
  few = omega (arith, holds.index.count, holds.index.few);
}

-- ---- what all of them say

-- with one that says a number more, before what is left
pub said-more : (numbers : List ℕ) (n : ℕ) (later : List Said) → map Ok numbers ++ Ok n ∷ later ≡ map Ok (numbers ++ n ∷ []) ++ later
said-more [] n later = refl
said-more (m ∷ numbers) n later = ap (λ all. Ok m ∷ all) (said-more numbers n later)

-- all said numbers
pub gathers-all : (line : ℕ) (all : List Said) (g : Gathered) (numbers seen : List ℕ) → Holds g numbers seen → all ≡ map Ok numbers ++ [] → Answers line all (Ok (pages_gathered g))
gathers-all line all g numbers seen holds is = record {
  numbers = numbers;
  seen = seen;
  all = is ∙ append-nil (map Ok numbers);
  dense = holds.dense;
  different = holds.index.count;
  few = holds.few;
  few_different = holds.index.few;
}

-- one of them is no reference
pub gathers-fault : (line at : ℕ) (all later : List Said) (said : Said) (old new : Gathered) (numbers seen : List ℕ) (fault : ReferenceFault) → Holds old numbers seen → all ≡ map Ok numbers ++ said ∷ later → at ≡ line + length numbers
    → Gathers numbers seen at said (Err fault) new → Answers line all (Err fault)
gathers-fault line at all later said old new numbers seen fault holds split at_is (inl outside) = inl outside
gathers-fault line at all later said old new numbers seen fault holds split at_is (inr (at_line, why)) = inr (record {
  numbers = numbers;
  pages = old.pages.items;
  seen = seen;
  found = said;
  later = later;
  split = split;
  dense = holds.dense;
  few = holds.few;
  few_different = holds.index.few;
  line_is = at_line ∙ at_is;
  why = why;
})
