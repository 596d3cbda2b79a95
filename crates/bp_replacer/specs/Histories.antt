-- The stamps of all pages.
use Rattle.std.specs.Prelude.{◌≡◌, ◌≢◌, ◌∷◌, ℕ, zero, suc, ◌-◌, ◌≤◌, ◌&&◌, ◌==◌, nat_lt, nat_eq, Bool, true, false, not, List, [], Option, unwrap_or, slice_index, if◌then◌else◌}
use Rattle.std.specs.Option.{is_some}
use Rattle.std.specs.Map.{lookup}
use Rattle.bp_replacer.specs.declared.histories.Block.{Block}
use Rattle.bp_references.specs.Burst.{Reference, last_time}
use Rattle.bp_references.specs.Stamp.{stamp, IsTimed}

-- what is kept: the settings, a block for each page that is held or has a history, in any order,
-- and the number of each page's block
pub record Blocks : Type 0 where
  pub k : ℕ
  pub correlated : ℕ
  pub retained : ℕ
  pub entries : List (ℕ × Block)
  pub places : List (ℕ × ℕ)

-- the block of a page
abbrev pub find_block : List (ℕ × Block) → ℕ → Option Block
find_block entries page = lookup (nat_eq page) entries

abbrev pub has_block : Blocks → ℕ → Bool
has_block h page = is_some (find_block h.entries page)

-- the number of a page's block
abbrev pub place_of : Blocks → ℕ → Option ℕ
place_of h page = lookup (nat_eq page) h.places

-- what a page without a block has
abbrev pub no_block : Block
no_block = record { held = false; waits = false; last = 0; stamps = [] }

-- what is kept of a page
abbrev pub block_of : Blocks → ℕ → Block
block_of h page = unwrap_or (find_block h.entries page) no_block

-- whether the page may not be forgotten
abbrev pub is_held : Blocks → ℕ → Bool
is_held h page = (block_of h page).held

-- the time of the newest reference that a block has, or 0 where it has none. A page that was
-- forgotten while it waits to be purged keeps its block, without stamps
abbrev pub time_of : Block → ℕ
time_of b = if slice_index b.stamps 0 == 0 then 0 else b.last

-- the time of the page's newest reference, or 0 where it has no history
abbrev pub last_of : Blocks → ℕ → ℕ
last_of h page = time_of (block_of h page)

-- the time of the newest reference that the page's block ever had, forgotten or not
abbrev pub latest_of : Blocks → ℕ → ℕ
latest_of h page = (block_of h page).last

-- the page's i-th stamp, newest first and from 1, or 0 where it has none
abbrev pub stamp_of : Blocks → ℕ → ℕ → ℕ
stamp_of h page zero = 0
stamp_of h page (suc n) = if nat_lt n h.k then slice_index (block_of h page).stamps n else 0

-- a time from 1 that no reference is after
pub record IsNow (h : Blocks) (t : ℕ) : Type 0 where
  pub positive : 1 ≤ t
  pub after_all : (page : ℕ) → latest_of h page ≤ t

-- the page's stamps and last time are those of these references
pub record HasStampsOf (h : Blocks) (page : ℕ) (refs : List Reference) : Type 0 where
  pub stamps : (i : ℕ) → stamp_of h page i ≡ stamp h.k h.correlated i refs
  pub last : last_of h page ≡ last_time refs

-- the page's stamps and last time stay
pub record SameStampsAt (old new : Blocks) (page : ℕ) : Type 0 where
  pub last : last_of new page ≡ last_of old page
  pub no_later : latest_of new page ≤ latest_of old page
  pub stamps : (i : ℕ) → stamp_of new page i ≡ stamp_of old page i

-- the page stays as it is
pub record SameAt (old new : Blocks) (page : ℕ) : Type 0 where
  pub held : is_held new page ≡ is_held old page
  pub last : last_of new page ≡ last_of old page
  pub no_later : latest_of new page ≤ latest_of old page
  pub stamps : (i : ℕ) → stamp_of new page i ≡ stamp_of old page i

-- the settings stay
pub record SameSettings (old new : Blocks) : Type 0 where
  pub k : new.k ≡ old.k
  pub correlated : new.correlated ≡ old.correlated
  pub retained : new.retained ≡ old.retained

-- a page that stays held keeps its block where it is; `unfoldable`, so that it costs no proof that
-- doesn't ask for it
unfoldable pub KeepsPlaces : Blocks → Blocks → Type 0
KeepsPlaces old new =
    (page : ℕ) → is_held old page ≡ true → is_held new page ≡ true
    → place_of new page ≡ place_of old page

-- a held page is referenced at t: its stamps are those with that reference, it stays held, and all
-- else stays
pub record AddsReference (kind : ℕ → Reference) (t page : ℕ) (old new : Blocks) : Type 0 where
  pub stamps : (refs : List Reference) → IsTimed refs → HasStampsOf old page refs
      → HasStampsOf new page (kind t ∷ refs)
  pub last : last_of new page ≡ t
  pub latest : latest_of new page ≡ t
  pub held : is_held new page ≡ true
  pub others : (q : ℕ) → q ≢ page → SameAt old new q
  pub settings : SameSettings old new
  pub places : KeepsPlaces old new

-- whether a purge at t forgets a page with this block: it isn't held, has a history, and was last
-- referenced more than the retained period ago
abbrev pub is_outdated : ℕ → ℕ → Block → Bool
is_outdated retained t b = not b.held && (nat_lt 0 (time_of b) && nat_lt retained (t - time_of b))

-- whether a purge at t forgets the page
abbrev pub forgets : Blocks → ℕ → ℕ → Bool
forgets h t page = is_outdated h.retained t (block_of h page)
