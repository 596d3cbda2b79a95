-- What a flush of all parts does, part after part.
use Rattle.std.specs.Prelude.{ℕ, ◌+◌, Bool, Result, Ok, Err, slice_index_or}
use Rattle.bp_trail.specs.declared.ends.NotFlushed.{NotFlushed}
use Rattle.bp_trail.specs.Parameters.{Parameters}
use Rattle.bp_trail.specs.Trail.{Trail}
use Rattle.bp_ports.specs.Files.{Transfer}
use Rattle.bp_ports.specs.Stripes.{StripedView, ReadsStriped, WritesStriped, turned}
use Rattle.bp_shared.specs.FlushAll.{Pool, Reaches}
use Rattle.bp_shared.specs.Sessions.{SessionValue, DoesWorkSaid}
use Rattle.bp_shared.specs.Writing.{WithLsnSeen}
use Rattle.bp_shared.specs.Calls.{FlushesAllIn}
use Rattle.bp_parts.specs.Parts.{PartedValue, InPart, page_in_part, part_of}

-- what its pool has: whether it refuses memory, its parameters and the trail that it began with;
-- and how a store reads and writes
pub record Flushing (S : Type 0) : Type 1 where
  pub refuses : Bool
  pub parameters : Parameters
  pub start : Trail
  pub reads : Transfer S
  pub writes : Transfer S

-- each unsaved page of one part was flushed, or this one was not, and the device did the work in
-- that part's stripe
abbrev pub FlushesPart : {S A : Type 0} → Flushing S → ℕ → Result A NotFlushed → PartedValue
    → StripedView S → PartedValue → StripedView S → Type 0
FlushesPart o part result old port new after =
    InPart part old new (λ was is. FlushesAllIn o.refuses o.parameters o.start result was is
    × DoesWorkSaid (ReadsStriped o.reads) (WithLsnSeen was is (WritesStriped o.writes))
    was.said is.said (turned part port) after)

-- so many parts were flushed, one after the other
pub data FlushesParts {S : Type 0} (o : Flushing S) (old : PartedValue) (port : StripedView S)
    : ℕ → PartedValue → StripedView S → Type 0 where
  none : FlushesParts o old port 0 old port
  part : {n : ℕ} {mid new : PartedValue} {now after : StripedView S}
      → FlushesParts o old port n mid now
      → FlushesPart {A = Unit {0}} o n (Ok tt) mid now new after
      → FlushesParts o old port (n + 1) new after

-- all were, or it ended at the first where a page was refused
abbrev pub FlushesAllParts : {S : Type 0} → Flushing S → ℕ → Result (Unit {0}) (ℕ × NotFlushed)
    → PartedValue → StripedView S → PartedValue → StripedView S → Type 0
FlushesAllParts o parts (Ok done) old port new after = FlushesParts o old port parts new after
FlushesAllParts {S} o parts (Err (n, stop)) old port new after =
    (mid : PartedValue) × (now : StripedView S) × FlushesParts o old port n mid now
    × FlushesPart {A = Unit {0}} o n (Err stop) mid now new after

-- between these two the client's session in the page's part looked at that part's trail, and the page
-- was not unsaved in it, or a flush of the page was answered
abbrev pub ReachesInPart : Pool → ℕ → ℕ → PartedValue → PartedValue → Type 0
ReachesInPart o parts page old new =
    (d : SessionValue) → Reaches o (page_in_part parts page)
    (slice_index_or old.sessions (part_of parts page) d)
    (slice_index_or new.sessions (part_of parts page) d)
