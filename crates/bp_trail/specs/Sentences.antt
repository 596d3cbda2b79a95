-- The definitions once more, each as one sentence over the whole list of entries. The laws of
-- src/laws.rt tie to it what is computed entry by entry.
use Rattle.std.specs.Prelude.{◌≡◌, ℕ, ◌-◌, ◌<◌, ◌≤◌, ◌==◌, Bool, true, false, not, ◌&&◌, ◌||◌, if◌then◌else◌, IsTrue, IsFalse, ⊤, List, [], ◌∷◌, ◌++◌, filter, filter_map, Contains, Option, Some, None}
use Rattle.std.specs.Option.{option_map_or}
use Rattle.bp_references.specs.Burst.{Reference}
use Rattle.bp_references.specs.Burst.Reference.{hit, fault}
use Rattle.bp_trail.specs.declared.entries.Entry.{Entry}
use Rattle.bp_trail.specs.declared.entries.Call.TheVariants.{Fix, WriteEnd}
use Rattle.bp_trail.specs.declared.entries.Reply.{Reply}
use Rattle.bp_trail.specs.declared.entries.Reply.TheVariants.{Hit, Load, WriteFirst, Fixed, Cleaned}
use Rattle.bp_trail.specs.Parameters.{Parameters}
use Rattle.bp_trail.specs.Lists.{some, after_last}
use Rattle.bp_trail.specs.Event.{Grant, same_grant, page_of, evicted, left, hits, loads, writes, discards, is_purge, ends_well}
use Rattle.bp_trail.specs.Trail.{Trail}
use Rattle.bp_trail.specs.Clock.{clock}
use Rattle.bp_trail.specs.Passes.{pins}
use Rattle.bp_trail.specs.Places.{resident, loading, writing}
use Rattle.bp_trail.specs.References.{references, forgets, last}
use Rattle.bp_trail.specs.Victim.{rank, before}
use Rattle.bp_trail.specs.Pieces.{by}

-- an entry that passes start, and no later one passes stop
pub record Lasts (start stop : Entry → Bool) (past : Trail) : Type 0 where
  pub later : Trail
  pub entry : Entry
  pub earlier : Trail
  pub stands : past ≡ later ++ entry ∷ earlier
  pub starts : IsTrue (start entry)
  pub lasts : IsFalse (some stop later)

-- the newest elements, none of which passes p; what is before them begins with one that does, if
-- there is any
abbrev pub FirstPasses : {X : Type 0} → (X → Bool) → List X → Type 0
FirstPasses p [] = ⊤
FirstPasses p (x ∷ xs) = IsTrue (p x)

pub record AreAfterLast {X : Type 0} (p : X → Bool) (xs newest : List X) : Type 0 where
  pub rest : List X
  pub stands : xs ≡ newest ++ rest
  pub none : IsFalse (some p newest)
  pub last : FirstPasses p rest

-- one of the numbers, and no other is greater; 0 where there are none
pub record IsGreatest (numbers : List ℕ) (greatest : ℕ) : Type 0 where
  pub bound : (n : ℕ) → Contains numbers n → n ≤ greatest
  pub reached : 0 < greatest → Contains numbers greatest

-- ---- passes, tickets and places

abbrev pub evicts : ℕ → Entry → Bool
evicts p e = option_map_or (λ v. v == p) (evicted e.reply) false

-- an entry has p leave its frame: it evicts p, or discards it
abbrev pub leaves : ℕ → Entry → Bool
leaves p e = option_map_or (λ v. v == p) (left (page_of e.call) e.reply) false

-- an entry gives back this pass or ticket
abbrev pub gives_back : (Entry → Option ℕ) → Grant → Entry → Bool
gives_back ends g e = option_map_or (λ n. g.serial == n) (ends e) false

-- an entry gives this pass or ticket
abbrev pub gives_it : (Entry → Option Grant) → Grant → Entry → Bool
gives_it gives g e = option_map_or (same_grant g) (gives e) false

-- it was given, and no later entry gives it back
abbrev pub IsGivenSince : (Entry → Option Grant) → (Entry → Option ℕ) → Trail → Grant → Type 0
IsGivenSince gives ends past g = Lasts (gives_it gives g) (gives_back ends g) past

-- what was given and no entry gives back
abbrev pub unended : (Entry → Option Grant) → (Entry → Option ℕ) → Trail → List Grant
unended gives ends past = filter (λ g. not (some (gives_back ends g) past)) (filter_map gives past)

pub record IsUnended (gives : Entry → Option Grant) (ends : Entry → Option ℕ) (past : Trail)
    (g : Grant) : Type 0 where
  pub entry : Entry
  pub stands : Contains past entry
  pub given : gives entry ≡ Some g
  pub not_ended : IsFalse (some (gives_back ends g) past)

-- one of page p is
pub record HasUnended (gives : Entry → Option Grant) (ends : Entry → Option ℕ) (past : Trail)
    (p : ℕ) : Type 0 where
  pub thing : Grant
  pub of_page : thing.page ≡ p
  pub unended : IsUnended gives ends past thing

-- the serial number of the pass that a reply gives
abbrev pub pass_number : Reply → Option ℕ
pass_number (Hit n) = Some n
pass_number (Fixed n) = Some n
pass_number _ = None

abbrev pub gives_pass : Entry → Bool
gives_pass e = option_map_or (λ n. true) (pass_number e.reply) false

abbrev pub begins_operation : Reply → Bool
begins_operation (Load t victim) = true
begins_operation (WriteFirst t p image) = true
begins_operation _ = false

-- a number that an entry gives is the next one, and one that no entry before it gave
abbrev pub IsNext : (Entry → Option ℕ) → (Trail → ℕ) → Trail → Entry → Type 0
IsNext number next past e = (n : ℕ) → number e ≡ Some n → n ≡ next past

abbrev pub IsNew : (Entry → Option ℕ) → Trail → Entry → Type 0
IsNew number past e =
    (n : ℕ) (d : Entry) → number e ≡ Some n → Contains past d → number d ≡ Some n → ⊥

-- ---- references

-- each entry with those before it
abbrev pub with_before : Trail → List (Entry × Trail)
with_before [] = []
with_before (e ∷ past) = (e, past) ∷ with_before past

-- a hit or a good read end of p, with the clock at it
abbrev pub reference_at : ℕ → Entry × Trail → Option Reference
reference_at p at =
    if hits p at.0 then Some (hit (clock at.1)) else if loads p at.0 then Some (fault (clock at.1))
    else None

-- a discard of p, or a purge that forgot p
abbrev pub forgot_at : Parameters → ℕ → Entry × Trail → Bool
forgot_at c p at =
    discards p at.0 || (is_purge at.0.call && forgets c at.1 p (references c at.1 p))

-- the hits and good read ends after p was last forgotten
abbrev pub references_since : Parameters → Trail → ℕ → List Reference
references_since c past p =
    filter_map (reference_at p) (after_last (forgot_at c p) (with_before past))

-- a purge after past forgets p
pub record IsForgotten (c : Parameters) (past : Trail) (p : ℕ) : Type 0 where
  pub known : references c past p ≡ [] → ⊥
  pub not_resident : IsFalse (resident past p)
  pub not_loading : IsFalse (loading past p)
  pub old : c.retained < clock past - last c past p

-- ---- the victim

pub record IsCandidate (c : Parameters) (past : Trail) (p : ℕ) : Type 0 where
  pub here : IsTrue (resident past p)
  pub unpinned : pins past p ≡ 0
  pub not_writing : IsFalse (writing past p)
  pub old : c.correlated < clock past - last c past p

-- a candidate that comes before every other
pub record IsFirst (c : Parameters) (past : Trail) (v : ℕ) : Type 0 where
  pub eligible : IsCandidate c past v
  pub first : (q : ℕ) → IsCandidate c past q → (q ≡ v → ⊥)
      → IsTrue (before (rank c past v) (rank c past q))

-- ---- write-outs

-- a write of p after which p was not discarded, and that no good write-out of p began after: none
-- that begins later has a good end with its ticket
pub record IsUnsaved (past : Trail) (p : ℕ) : Type 0 where
  pub later : Trail
  pub entry : Entry
  pub earlier : Trail
  pub stands : past ≡ later ++ entry ∷ earlier
  pub writes : IsTrue (writes p entry)
  pub not_discarded : IsFalse (some (discards p) later)
  pub not_saved : (begin : Entry) (t : ℕ) (image : List ℕ) → Contains later begin
      → begin.reply ≡ WriteFirst t p image → IsFalse (some (λ e. ends_well t e.call) past)

-- ---- the second fix

-- a fix of p has its victim v written out first, and that ends well: nobody else acts
abbrev pub victim_begun : ℕ → ℕ → ℕ → ℕ → List ℕ → Trail → Trail
victim_begun client p t v image past = by client (Fix p) (WriteFirst t v image) ∷ past

abbrev pub victim_saved : ℕ → ℕ → ℕ → ℕ → List ℕ → Trail → Trail
victim_saved client p t v image past =
    by client (WriteEnd t v true) Cleaned ∷ victim_begun client p t v image past
