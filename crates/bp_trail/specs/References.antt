-- The references of a page, and its stamps.
use Rattle.std.specs.Prelude.{ℕ, ◌-◌, nat_lt, Bool, true, false, not, ◌&&◌, ◌||◌, if◌then◌else◌, List, [], ◌∷◌}
use Rattle.bp_references.specs.Burst.{Reference, last_time}
use Rattle.bp_references.specs.Burst.Reference.{hit, fault}
use Rattle.bp_references.specs.Stamp.{stamp}
use Rattle.bp_trail.specs.declared.entries.Entry.{Entry}
use Rattle.bp_trail.specs.Parameters.{Parameters}
use Rattle.bp_trail.specs.Trail.{Trail}
use Rattle.bp_references.specs.Numbers.{count_below}
use Rattle.bp_trail.specs.Event.{hits, loads, discards, is_purge}
use Rattle.bp_trail.specs.Clock.{clock}
use Rattle.bp_trail.specs.Places.{resident, loading}

abbrev pub is_empty : List Reference → Bool
is_empty [] = true
is_empty (r ∷ older) = false

-- a purge after past forgets p, whose references are these: p is away, and its last reference is
-- older than the retained period
abbrev pub forgets : Parameters → Trail → ℕ → List Reference → Bool
forgets c past p known =
    not (is_empty known)
    && (not (resident past p || loading past p) && nat_lt c.retained (clock past - last_time known))

-- the references of p after the entry e, where past stands before it and gave the ones known
abbrev pub references_with : Parameters → Entry → Trail → ℕ → List Reference → List Reference
references_with c e past p known =
    if hits p e then hit (clock past) ∷ known
    else if loads p e then fault (clock past) ∷ known
    else if discards p e then []
    else if is_purge e.call && forgets c past p known then []
    else known

abbrev pub references : Parameters → Trail → ℕ → List Reference
references c [] p = []
references c (e ∷ past) p = references_with c e past p (references c past p)

-- how many pages a purge after past forgets
abbrev pub forgotten : Parameters → Trail → ℕ
forgotten c past = count_below (λ p. forgets c past p (references c past p)) c.pages

abbrev pub last : Parameters → Trail → ℕ → ℕ
last c past p = last_time (references c past p)

abbrev pub hist : Parameters → Trail → ℕ → ℕ → ℕ
hist c past p i = stamp c.k c.correlated i (references c past p)
