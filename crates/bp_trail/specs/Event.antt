-- What one entry does.
use Rattle.std.specs.Prelude.{Option, None, ℕ, Bool, true, false, ◌&&◌, ◌==◌, if◌then◌else◌, List, [], Some}
use Rattle.bp_page.specs.Patched.{patched}
use Rattle.bp_trail.specs.declared.entries.Grant.{Grant as GivenGrant}
use Rattle.bp_trail.specs.declared.entries.Entry.{Entry}
use Rattle.bp_trail.specs.declared.entries.Call.{Call}
use Rattle.bp_trail.specs.declared.entries.Call.TheVariants.{Tick, Mark, Fix, ReadEnd, WriteEnd, Read, Write, Unfix, Flush, Discard, Purge}
use Rattle.bp_trail.specs.declared.entries.Reply.{Reply}
use Rattle.bp_trail.specs.declared.entries.Reply.TheVariants.{Hit, Load, WriteFirst, Fixed, Absent, Discarded}

-- a pass or a ticket: whose it is, of which page, with which serial number
abbrev pub Grant : Type 0
Grant = GivenGrant

abbrev pub grant : ℕ → ℕ → ℕ → Grant
grant c p n = record { client = c; page = p; serial = n }

abbrev pub same_grant : Grant → Grant → Bool
same_grant a b = (a.client == b.client) && ((a.page == b.page) && (a.serial == b.serial))

-- the page that a call names
abbrev pub page_of : Call → ℕ
page_of (Fix p) = p
page_of (ReadEnd t p image) = p
page_of (WriteEnd t p good) = p
page_of (Read n p) = p
page_of (Write n p offset bytes lsn) = p
page_of (Unfix n p) = p
page_of (Flush p) = p
page_of (Discard p) = p
page_of _ = 0

-- the clock's steps, and the LSN that is marked durable
abbrev pub ticks : Call → Option ℕ
ticks (Tick n) = Some n
ticks _ = None

abbrev pub marked : Call → Option ℕ
marked (Mark lsn) = Some lsn
marked _ = None

-- the pass or ticket that a reply gives to a client, of the page that the call named or that is
-- written out
abbrev pub pass_given : ℕ → ℕ → Reply → Option Grant
pass_given c p (Hit n) = Some (grant c p n)
pass_given c p (Fixed n) = Some (grant c p n)
pass_given c p _ = None

abbrev pub read_ticket_given : ℕ → ℕ → Reply → Option Grant
read_ticket_given c p (Load t victim) = Some (grant c p t)
read_ticket_given c p _ = None

abbrev pub write_ticket_given : ℕ → Reply → Option Grant
write_ticket_given c (WriteFirst t p image) = Some (grant c p t)
write_ticket_given c _ = None

-- the serial number of a ticket of either kind
abbrev pub ticket_given : Reply → Option ℕ
ticket_given (Load t victim) = Some t
ticket_given (WriteFirst t p image) = Some t
ticket_given _ = None

-- the serial number of what a call gives back
abbrev pub pass_back : Call → Option ℕ
pass_back (Unfix n p) = Some n
pass_back _ = None

abbrev pub read_ticket_back : Call → Option ℕ
read_ticket_back (ReadEnd t p image) = Some t
read_ticket_back _ = None

abbrev pub write_ticket_back : Call → Option ℕ
write_ticket_back (WriteEnd t p good) = Some t
write_ticket_back _ = None

-- a write-out with this ticket ended well
abbrev pub ends_well : ℕ → Call → Bool
ends_well t (WriteEnd u p good) = good && (t == u)
ends_well t _ = false

-- a write-out with this ticket begins, and one of this page does
abbrev pub begins : ℕ → Reply → Bool
begins t (WriteFirst u p image) = u == t
begins t _ = false

abbrev pub begins_of : ℕ → Reply → Bool
begins_of p (WriteFirst u q image) = q == p
begins_of p _ = false

-- the page whose read ended well, the page that is evicted, and the page that leaves its frame, as
-- it is evicted or discarded
abbrev pub loaded : ℕ → Reply → Option ℕ
loaded p (Fixed n) = Some p
loaded p _ = None

abbrev pub evicted : Reply → Option ℕ
evicted (Load t v) = v
evicted _ = None

abbrev pub left : ℕ → Reply → Option ℕ
left p (Load t v) = v
left p Discarded = Some p
left p _ = None

abbrev pub is_hit_reply : Reply → Bool
is_hit_reply (Hit n) = true
is_hit_reply _ = false

abbrev pub is_fixed_reply : Reply → Bool
is_fixed_reply (Fixed n) = true
is_fixed_reply _ = false

abbrev pub is_purge : Call → Bool
is_purge Purge = true
is_purge _ = false

abbrev pub is_discard : Call → Bool
is_discard (Discard p) = true
is_discard _ = false

-- the page left its frame by the call, or was in none
abbrev pub is_away_reply : Reply → Bool
is_away_reply Discarded = true
is_away_reply Absent = true
is_away_reply _ = false

-- a discard of p that was done: after it p is in no frame
abbrev pub discards : ℕ → Entry → Bool
discards p e = is_away_reply e.reply && (is_discard e.call && (page_of e.call == p))

abbrev pub hits : ℕ → Entry → Bool
hits p e = is_hit_reply e.reply && (page_of e.call == p)

abbrev pub loads : ℕ → Entry → Bool
loads p e = is_fixed_reply e.reply && (page_of e.call == p)

-- writes of a page
abbrev pub is_write : Call → Bool
is_write (Write n p offset bytes lsn) = true
is_write _ = false

abbrev pub writes : ℕ → Entry → Bool
writes p e = is_write e.call && (page_of e.call == p)

abbrev pub lsn_of : Call → ℕ
lsn_of (Write n p offset bytes lsn) = lsn
lsn_of _ = 0

abbrev pub lsn_written : ℕ → Entry → Option ℕ
lsn_written p e = if writes p e then Some (lsn_of e.call) else None

abbrev pub patched_by : Call → List ℕ → List ℕ
patched_by (Write n p offset bytes lsn) image = patched offset bytes image
patched_by _ image = image

-- the image of p after an entry that found it as `image`
abbrev pub written : ℕ → Entry → List ℕ → List ℕ
written p e image = if writes p e then patched_by e.call image else image

-- the image that a read brought in, or none
abbrev pub image_read : Call → List ℕ
image_read (ReadEnd t p (Some image)) = image
image_read _ = []
