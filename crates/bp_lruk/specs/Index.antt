-- The two lists of an index of candidates.
use Rattle.std.specs.Prelude.{◌≡◌, ℕ, ◌<◌, ◌≤◌, nat_lt, Bool, false, IsTrue, List, length, slice_index_or, filter_map, AllPairs}
use Rattle.std.specs.Option.{option_map}
use Rattle.bp_lruk.specs.declared.page_index.PageEntry.{PageEntry}
use Rattle.bp_references.specs.Candidates.{Candidate, is_before, find_entry}

-- each comes before those after it, in the order of replacement
abbrev pub IsInOrder : List Candidate → Type 0
IsInOrder es = AllPairs (λ a b. IsTrue (is_before a b)) es

-- where x stands or would go: after those that come before it
pub record IsPlaceFor (es : List Candidate) (x : Candidate) (at : ℕ) : Type 0 where
  pub in_range : at ≤ length es
  pub before : (k : ℕ) (d : Candidate) → k < at → IsTrue (is_before (slice_index_or es k d) x)
  pub not_before : (k : ℕ) (d : Candidate) → at ≤ k → k < length es
      → is_before (slice_index_or es k d) x ≡ false

-- ---- by page numbers

abbrev pub has_lower_page : PageEntry → PageEntry → Bool
has_lower_page a b = nat_lt a.page b.page

abbrev pub IsByPage : List PageEntry → Type 0
IsByPage es = AllPairs (λ a b. IsTrue (has_lower_page a b)) es

-- the candidates of such a list: those pages that have not left
abbrev pub entered_in : List PageEntry → List Candidate
entered_in es = filter_map (λ e. option_map (λ p. (p.0, p.1, e.page)) e.entered) es

-- where no entry has the page: those of lower pages stand before, and the others after
pub record IsGapFor (es : List PageEntry) (page at : ℕ) : Type 0 where
  pub in_range : at ≤ length es
  pub lower : (k : ℕ) (d : PageEntry) → k < at → (slice_index_or es k d).page < page
  pub higher : (k : ℕ) (d : PageEntry) → at ≤ k → k < length es
      → page < (slice_index_or es k d).page

-- what a list by page numbers shows: the candidates in it, and how many there may be
pub record Listed : Type 0 where
  pub frames : ℕ
  pub entries : List Candidate

-- both lists have the same candidates
pub record AreAlike (order by_page : List Candidate) : Type 0 where
  pub agree : (page : ℕ) → find_entry by_page page ≡ find_entry order page
  pub as_many : length by_page ≡ length order
