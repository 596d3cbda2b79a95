-- What is kept of one page, and what an entry does to it.
use Rattle.std.specs.Prelude.{ℕ, max, unwrap_or, Bool, false, not, ◌&&◌, ◌||◌, ◌==◌, if◌then◌else◌, List, [], Option, Some, None, slice_index_or}
use Rattle.bp_trail.specs.declared.entries.Entry.{Entry}
use Rattle.bp_trail.specs.declared.entries.Call.{Call}
use Rattle.bp_trail.specs.declared.entries.Call.TheVariants.{WriteEnd}
use Rattle.bp_trail.specs.declared.entries.Reply.{Reply}
use Rattle.bp_trail.specs.declared.entries.Reply.TheVariants.{WriteFirst}
use Rattle.bp_trail.specs.Trail.{Trail}
use Rattle.bp_trail.specs.Lists.{since}
use Rattle.bp_trail.specs.Event.{begins_of, discards, loads, writes, lsn_written, written, image_read}
use Rattle.bp_trail.specs.Saved.{unsaved, page_lsn}
use Rattle.bp_trail.specs.Images.{held}

pub record PageSeen : Type 0 where
  pub image : List ℕ
  pub page_lsn : ℕ
  pub is_unsaved : Bool
  pub is_rewritten : Bool

abbrev pub blank : PageSeen
blank = record { image = []; page_lsn = 0; is_unsaved = false; is_rewritten = false }

-- of a table by pages, what is kept of one page
abbrev pub seen_at : List PageSeen → ℕ → PageSeen
seen_at pages p = slice_index_or pages p blank

-- a write of p stands after the newest begin of a write-out of p, and after its newest discard
abbrev pub rewritten : Trail → ℕ → Bool
rewritten past p = since (writes p) (λ e. discards p e || begins_of p e.reply) past

-- what the entries say of the page
abbrev pub seen_of : Trail → ℕ → PageSeen
seen_of past p = record {
  image = held past p;
  page_lsn = page_lsn past p;
  is_unsaved = unsaved past p;
  is_rewritten = rewritten past p;
}

-- a write-out of p ends well
abbrev pub saves : ℕ → Call → Bool
saves p (WriteEnd t q good) = good && (q == p)
saves p _ = false

-- the page of which a write-out begins
abbrev pub begun : Reply → Option ℕ
begun (WriteFirst t p image) = Some p
begun _ = None

-- what an entry makes of the page's image and page LSN
abbrev pub content_after : ℕ → Entry → PageSeen → PageSeen
content_after p e s = record s {
  image = if loads p e then image_read e.call else written p e s.image;
  page_lsn = if loads p e then 0 else max (unwrap_or (lsn_written p e) 0) s.page_lsn;
}

-- a page that is written out well is unsaved as far as it was written since that began
abbrev pub unsaved_after : ℕ → Entry → PageSeen → Bool
unsaved_after p e s =
    if saves p e.call then s.is_rewritten else writes p e || (not (discards p e) && s.is_unsaved)

abbrev pub rewritten_after : ℕ → Entry → PageSeen → Bool
rewritten_after p e s =
    writes p e || (not (discards p e || begins_of p e.reply) && s.is_rewritten)

abbrev pub seen_after : ℕ → Entry → PageSeen → PageSeen
seen_after p e s = record (content_after p e s) {
  is_unsaved = unsaved_after p e s;
  is_rewritten = rewritten_after p e s;
}

-- the entry may change what is kept of p
abbrev pub touches : ℕ → Entry → Bool
touches p e =
    loads p e || (writes p e || (discards p e || (saves p e.call || begins_of p e.reply)))
