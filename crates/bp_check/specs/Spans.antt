-- The bursts of a page's references, as far as stamps need them. Each list here is newest first.
use Rattle.std.specs.Prelude.{ℕ, ◌-◌, nat_lt, Bool, not, ◌&&◌, ◌||◌, ◌==◌, List, [], ◌∷◌, map, reverse, slice_index_or, if◌then◌else◌}
use Rattle.std.specs.declared.vec.Vec.{Vec}
use Rattle.bp_references.specs.Burst.{Reference, Burst, bursts, first_time, last_time, is_opened_by_hit}
use Rattle.bp_trail.specs.Event.{Grant}
use Rattle.bp_trail.specs.Lists.{some}
use Rattle.bp_trail.specs.Passes.{is_of}
use Rattle.bp_check.specs.declared.spans.Span.{Span}

-- the times of a burst's oldest and newest reference, and whether the oldest is a hit
abbrev pub span : Burst → Span
span burst =
    record { first = first_time burst; last = last_time burst; by_hit = is_opened_by_hit burst }

-- the spans of the bursts of some references
abbrev pub spans : ℕ → List Reference → List Span
spans correlated references = map span (bursts correlated references)

-- one reference more: it opens a burst, or stands in the newest one
abbrev pub with_reference : ℕ → Bool → ℕ → List Span → List Span
with_reference correlated by_hit t [] = record { first = t; last = t; by_hit = by_hit } ∷ []
with_reference correlated by_hit t (newest ∷ older) =
    if by_hit && not (nat_lt correlated (t - newest.last)) then record newest { last = t } ∷ older
    else record { first = t; last = t; by_hit = by_hit } ∷ newest ∷ older

-- the time of the newest reference, or 0
abbrev pub last_of : List Span → ℕ
last_of [] = 0
last_of (newest ∷ older) = newest.last

abbrev pub has_none : List Span → Bool
has_none [] = Bool.true
has_none (newest ∷ older) = Bool.false

-- of a table by pages, whose lists are in the order of time, the list of one page, newest first
abbrev pub spans_at : {A : Type 0} → List (Vec Span A) → ℕ → List Span
spans_at table p = reverse (slice_index_or (map (λ v. v.items) table) p [])

-- a purge forgets a page of these spans, where these pages are resident and these read tickets are
-- out
abbrev pub outdated : ℕ → ℕ → List ℕ → List Grant → ℕ → List Span → Bool
outdated retained now residents reads p known =
    not (has_none known)
    && (not (some (λ q. q == p) residents || some (is_of p) reads)
    && nat_lt retained (now - last_of known))
