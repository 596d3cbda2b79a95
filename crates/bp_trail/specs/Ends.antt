-- How device work ends, by its reply.
use Rattle.bp_page.specs.declared.refusals.Refusal.{Refusal}
use Rattle.bp_page.specs.declared.refusals.Refusal.TheVariants as refusal
use Rattle.bp_page.specs.declared.refusals.PortFault.{PortFault}
use Rattle.bp_page.specs.declared.refusals.PortFault.TheVariants as fault
use Rattle.bp_trail.specs.declared.entries.Reply.{Reply}
use Rattle.bp_trail.specs.declared.entries.Reply.TheVariants as reply
use Rattle.bp_trail.specs.declared.ends.Ended.{Ended}
use Rattle.bp_trail.specs.declared.ends.Ended.TheVariants as ended
use Rattle.bp_trail.specs.declared.ends.Flushed.{Flushed}
use Rattle.bp_trail.specs.declared.ends.Flushed.TheVariants as flushed
use Rattle.bp_trail.specs.declared.ends.Discarded.{Discarded}
use Rattle.bp_trail.specs.declared.ends.Discarded.TheVariants as discarded

-- why the end of a read that failed is refused, by its fault
abbrev pub read_refusal : PortFault → Refusal
read_refusal fault.WrongPage = refusal.WrongPage
read_refusal _ = refusal.ReadFailed

-- the reply of its entry
abbrev pub read_failure : PortFault → Reply
read_failure fault.WrongPage = reply.WrongPage
read_failure _ = reply.ReadFailed

-- the replies by which a write-out, a flush and a discard end
abbrev pub ended_reply : Ended → Reply
ended_reply ended.Cleaned = reply.Cleaned
ended_reply ended.StillDirty = reply.StillDirty

abbrev pub flushed_reply : Flushed → Reply
flushed_reply flushed.Clean = reply.Clean
flushed_reply flushed.Absent = reply.Absent
flushed_reply flushed.Cleaned = reply.Cleaned
flushed_reply flushed.StillDirty = reply.StillDirty

abbrev pub discarded_reply : Discarded → Reply
discarded_reply discarded.Left = reply.Discarded
discarded_reply discarded.Absent = reply.Absent
