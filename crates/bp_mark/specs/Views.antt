-- What a seat of the durable mark knows, and how each kind of step changes it.
use Rattle.std.specs.Prelude.{◌≡◌, ℕ, ◌≤◌, max, IfSome, Some, None}
use Rattle.std.specs.Option.{option_map}
use Rattle.atomic_table.specs.Table.{Me, Step}
use Rattle.bp_mark.specs.declared.views.View.{View}

-- the log end's view: its frontier, and what it has taken in of a reader
abbrev pub log_end : ℕ → ℕ → View
log_end frontier seen = record { frontier = Some frontier; seen = seen }

-- a reader's view: what it has seen
abbrev pub reader : ℕ → View
reader seen = record { frontier = None; seen = seen }

-- the frontier becomes the greater of itself and the LSN
abbrev pub raised : ℕ → View → View
raised lsn v =
    record { frontier = option_map (λ frontier. max frontier lsn) v.frontier; seen = v.seen }

-- what was seen becomes what was found
abbrev pub looked : ℕ → View → View
looked found v = record { frontier = v.frontier; seen = found }

-- the first of two views, after it took in what the other has seen
abbrev pub joined : View → View → View
joined v other = record { frontier = v.frontier; seen = max v.seen other.seen }

-- what a raise tells
abbrev pub Raises : Step ℕ → Me ℕ View → ℕ → Me ℕ View → Type 0
Raises step before found after = after ≡ (raised step.first before.0, before.1)

-- what a look tells: no less is found than was seen before
abbrev pub Looks : Step ℕ → Me ℕ View → ℕ → Me ℕ View → Type 0
Looks step before found after =
    (after ≡ (looked found before.0, before.1)) × (before.0.seen ≤ found)

-- what a look of the log end tells: its frontier is found, and that is no less than what it took in of
-- readers, which it then forgets
abbrev pub Bounds : Step ℕ → Me ℕ View → ℕ → Me ℕ View → Type 0
Bounds step before found after =
    (after ≡ (record { frontier = before.0.frontier; seen = 0 }, before.1))
    × (before.0.seen ≤ found) × IfSome before.0.frontier (λ frontier. frontier ≡ found)
