-- Legal trails: each call could be made, and has a lawful reply.
use Rattle.std.specs.Prelude.{ℕ, ◌+◌, ◌^◌, nat_lt, nat_le, Bool, true, ◌&&◌, ◌==◌, List, length, Option, Some, None, IsTrue}
use Rattle.bp_trail.specs.declared.entries.Entry.{Entry}
use Rattle.bp_trail.specs.declared.entries.Call.{Call}
use Rattle.bp_trail.specs.declared.entries.Call.TheVariants.{Tick, Mark, Fix, ReadEnd, WriteEnd, Read, Write, Unfix, Flush, Discard, Purge}
use Rattle.bp_trail.specs.Parameters.{Parameters}
use Rattle.bp_trail.specs.Lists.{some, EachEntry}
use Rattle.bp_trail.specs.Event.{Grant, grant, same_grant}
use Rattle.bp_trail.specs.Trail.{Trail}
use Rattle.bp_trail.specs.Clock.{clock}
use Rattle.bp_trail.specs.Passes.{passes_out, reads_out, writes_out}
use Rattle.bp_trail.specs.PageMap.{MayReply}

abbrev pub is_out : Grant → List Grant → Bool
is_out g grants = some (same_grant g) grants

abbrev pub has_size : Parameters → Option (List ℕ) → Bool
has_size c None = true
has_size c (Some image) = length image == c.size

-- the client may make this call after the trail: what it names is out, and in range
abbrev pub allowed : Parameters → Trail → ℕ → Call → Bool
allowed c past who (Tick n) = nat_le (clock past + n) (2 ^ 62)
allowed c past who (Mark lsn) = true
allowed c past who (Fix p) = nat_lt p c.pages
allowed c past who (Flush p) = nat_lt p c.pages
allowed c past who (Discard p) = nat_lt p c.pages
allowed c past who (ReadEnd t p image) = is_out (grant who p t) (reads_out past) && has_size c image
allowed c past who (WriteEnd t p good) = is_out (grant who p t) (writes_out past)
allowed c past who (Read n p) = is_out (grant who p n) (passes_out past)
allowed c past who (Write n p offset bytes lsn) =
    is_out (grant who p n) (passes_out past) && nat_le (offset + length bytes) c.size
allowed c past who (Unfix n p) = is_out (grant who p n) (passes_out past)
allowed c past who Purge = true

pub record IsLawful (c : Parameters) (past : Trail) (e : Entry) : Type 0 where
  pub client : IsTrue (nat_lt e.client c.clients)
  pub allowed : IsTrue (allowed c past e.client e.call)
  pub reply : MayReply c past e.call e.reply

abbrev pub Legal : Parameters → Trail → Type 0
Legal c past = EachEntry (IsLawful c) past
