-- The lines of a report, as bytes. A number is printed in decimal, without leading zeros.
use Rattle.std.specs.Prelude.{ℕ, List, [], ◌++◌, codes, take, Some}
use Rattle.std.specs.Fmt.{decimal}
use Rattle.hex.specs.Hex.{encode_lower}
use Rattle.bp_trail.specs.declared.entries.Entry.{Entry}
use Rattle.bp_trail.specs.declared.entries.Reply.{Reply}
use Rattle.bp_trail.specs.declared.entries.Reply.TheVariants.{Load, Cleaned, StillDirty, Content, Discarded}
use Rattle.bp_scripts.specs.declared.rows.Refused.{Refused}
use Rattle.bp_trail.specs.Event.{page_of}

-- a page left its frame for another
abbrev pub evict_line : ℕ → ℕ → List ℕ
evict_line time page = codes "evict " ++ decimal time ++ codes " " ++ decimal page ++ codes "\n"

-- a page left its frame as it was discarded
abbrev pub discard_line : ℕ → ℕ → List ℕ
discard_line time page =
    codes "discard " ++ decimal time ++ codes " " ++ decimal page ++ codes "\n"

-- a write-out of a page ended well
abbrev pub out_line : ℕ → ℕ → List ℕ
out_line time page = codes "out " ++ decimal time ++ codes " " ++ decimal page ++ codes "\n"

-- a client read a page; of its image the first 16 bytes, in lower case hex
unfoldable pub read_line : ℕ → ℕ → List ℕ → List ℕ
read_line client page image =
    codes "read " ++ decimal client ++ codes " " ++ decimal page ++ codes " "
    ++ encode_lower (take 16 image) ++ codes "\n"

-- the line of a reply at a time, to a client's call on a page; most replies have none
abbrev pub line_of : ℕ → ℕ → ℕ → Reply → List ℕ
line_of time client page (Load ticket (Some victim)) = evict_line time victim
line_of time client page Discarded = discard_line time page
line_of time client page Cleaned = out_line time page
line_of time client page StillDirty = out_line time page
line_of time client page (Content image) = read_line client page image
line_of time client page _ = []

abbrev pub event_line : ℕ → Entry → List ℕ
event_line time e = line_of time e.client (page_of e.call) e.reply

-- the line of a refused row
abbrev pub refused_line : Refused → List ℕ
refused_line r =
    codes "row " ++ decimal r.row ++ codes " refused " ++ decimal r.number ++ codes "\n"
