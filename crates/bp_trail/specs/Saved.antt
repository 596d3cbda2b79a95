-- Which writes of a page have not reached the device, how far the log must be durable for them (the
-- page LSN), and from where on the log is needed to make them again.
use Rattle.std.specs.Prelude.{◌≡◌, false, ℕ, ◌≤◌, Bool, ◌&&◌, ◌||◌, ◌==◌, Option, Some, None, filter_map}
use Rattle.bp_trail.specs.declared.entries.Entry.{Entry}
use Rattle.bp_trail.specs.declared.entries.Reply.{Reply}
use Rattle.bp_trail.specs.declared.entries.Reply.TheVariants.{WriteFirst}
use Rattle.bp_trail.specs.Trail.{Trail}
use Rattle.bp_trail.specs.Lists.{greatest, some, after_last, since, least_since}
use Rattle.bp_trail.specs.Event.{ends_well, begins, discards, loads, writes, lsn_written}

-- a write-out of p begins, and has ended well in past
abbrev pub began_saving : Trail → ℕ → Reply → Bool
began_saving past p (WriteFirst t q image) = (q == p) && some (λ e. ends_well t e.call) past
began_saving past p _ = false

-- no write of p before this entry is left to save: a write-out of p begins that ended well, or p is
-- discarded
abbrev pub settles : Trail → ℕ → Entry → Bool
settles past p e = discards p e || began_saving past p e.reply

-- some write of p has no good write-out of p that began after it, and no discard of p after it
abbrev pub unsaved : Trail → ℕ → Bool
unsaved past p = since (writes p) (settles past p) past

-- a write of p stands after the begin of the write-out with this ticket
abbrev pub written_since : Trail → ℕ → ℕ → Bool
written_since past ticket p = some (writes p) (after_last (λ e. begins ticket e.reply) past)

-- the greatest LSN of the writes of p since it was loaded
abbrev pub page_lsn : Trail → ℕ → ℕ
page_lsn past p = greatest (filter_map (lsn_written p) (after_last (loads p) past))

-- the least LSN of the writes of p that leave it unsaved; none where p is saved
abbrev pub first_lsn : Trail → ℕ → Option ℕ
first_lsn past p = least_since (lsn_written p) (settles past p) past

-- the least of these of all pages: where redo has to begin; none where each page is saved
abbrev pub IsRedoFrom : Trail → Option ℕ → Type 0
IsRedoFrom past (Some lsn) =
    ((p : ℕ) × (first_lsn past p ≡ Some lsn))
    × ((p later : ℕ) → first_lsn past p ≡ Some later → lsn ≤ later)
IsRedoFrom past None = (p : ℕ) → first_lsn past p ≡ None
