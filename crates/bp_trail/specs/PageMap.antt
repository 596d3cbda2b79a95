-- The lawful reply to a call after a trail.
use Rattle.std.specs.Prelude.{◌≡◌, ◌⊎◌, ℕ, ◌+◌, ◌==◌, nat_lt, Bool, true, false, not, if◌then◌else◌, List, length, Option, Some, None}
use Rattle.bp_trail.specs.declared.entries.Call.{Call}
use Rattle.bp_trail.specs.declared.entries.Call.TheVariants.{Tick, Mark, Fix, ReadEnd, WriteEnd, Read, Write, Unfix, Flush, Discard, Purge}
use Rattle.bp_trail.specs.declared.entries.Reply.{Reply}
use Rattle.bp_trail.specs.declared.entries.Reply.TheVariants.{Done, Hit, Load, WriteFirst, NoVictim, NeedLog, Busy, Fixed, ReadFailed, WrongPage, Cleaned, StillDirty, WriteFailed, Content, Clean, Absent, Discarded, Pinned, Forgot}
use Rattle.bp_trail.specs.Parameters.{Parameters}
use Rattle.bp_trail.specs.Trail.{Trail}
use Rattle.bp_trail.specs.Clock.{durable}
use Rattle.bp_trail.specs.Passes.{passes, tickets, reads_out, pins}
use Rattle.bp_trail.specs.Places.{residents, resident, loading, writing}
use Rattle.bp_trail.specs.Saved.{unsaved, written_since, page_lsn}
use Rattle.bp_trail.specs.Images.{held}
use Rattle.bp_trail.specs.References.{forgotten}
use Rattle.bp_trail.specs.Victim.{victim}

abbrev pub has_free_frame : Parameters → Trail → Bool
has_free_frame c past = nat_lt (length (residents past) + length (reads_out past)) c.frames

-- the page whose frame a fix takes for a page that is away: none where a frame is free, and none
-- where no page may leave
abbrev pub next_victim : Parameters → Trail → Option ℕ
next_victim c past = if has_free_frame c past then None else victim c past

-- a write-out of p, once the log is durable as far as p's writes
abbrev pub write_out_reply : Trail → ℕ → Reply
write_out_reply past p =
    if nat_lt (durable past) (page_lsn past p) then NeedLog (page_lsn past p)
    else WriteFirst (tickets past) p (held past p)

abbrev pub replace_reply : Trail → Option ℕ → Reply
replace_reply past None = NoVictim
replace_reply past (Some v) =
    if unsaved past v then write_out_reply past v else Load (tickets past) (Some v)

abbrev pub fix_reply : Parameters → Trail → ℕ → Reply
fix_reply c past p =
    if loading past p then Busy
    else if resident past p then Hit (passes past)
    else if has_free_frame c past then Load (tickets past) None
    else replace_reply past (victim c past)

abbrev pub flush_reply : Trail → ℕ → Reply
flush_reply past p =
    if loading past p then Busy
    else if not (resident past p) then Absent
    else if writing past p then Busy
    else if unsaved past p then write_out_reply past p
    else Clean

abbrev pub discard_reply : Trail → ℕ → Reply
discard_reply past p =
    if loading past p then Busy
    else if not (resident past p) then Absent
    else if writing past p then Busy
    else if pins past p == 0 then Discarded
    else Pinned

abbrev pub write_end_reply : Trail → ℕ → ℕ → Bool → Reply
write_end_reply past t p false = WriteFailed
write_end_reply past t p true = if written_since past t p then StillDirty else Cleaned

abbrev pub read_end_reply : Trail → Option (List ℕ) → Reply
read_end_reply past None = ReadFailed
read_end_reply past (Some image) = Fixed (passes past)

abbrev pub reply_of : Parameters → Trail → Call → Reply
reply_of c past (Fix p) = fix_reply c past p
reply_of c past (Flush p) = flush_reply past p
reply_of c past (Discard p) = discard_reply past p
reply_of c past (ReadEnd t p image) = read_end_reply past image
reply_of c past (WriteEnd t p good) = write_end_reply past t p good
reply_of c past (Read n p) = Content (held past p)
reply_of c past Purge = Forgot (forgotten c past)
reply_of c past (Tick n) = Done
reply_of c past (Mark lsn) = Done
reply_of c past (Write n p offset bytes lsn) = Done
reply_of c past (Unfix n p) = Done

-- a read that ended without an image may have found another page in its page's place
pub data FindsWrongPage : Call → Reply → Type 0 where
  another_page : (t p : ℕ) → FindsWrongPage (ReadEnd t p None) WrongPage

-- the replies that the call may have: the one of `reply_of`, or that the read found another page
abbrev pub MayReply : Parameters → Trail → Call → Reply → Type 0
MayReply c past call reply = (reply ≡ reply_of c past call) ⊎ FindsWrongPage call reply
