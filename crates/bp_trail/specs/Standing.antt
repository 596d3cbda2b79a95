-- Where a trail leaves the pool: all that the replies to later calls depend on.
use Rattle.std.specs.Prelude.{ℕ, zero, suc, Bool, true, false, List, [], ◌∷◌, map, Option, Some, None}
use Rattle.bp_trail.specs.Parameters.{Parameters}
use Rattle.bp_trail.specs.Event.{Grant}
use Rattle.bp_trail.specs.Trail.{Trail}
use Rattle.bp_trail.specs.Clock.{clock, durable}
use Rattle.bp_trail.specs.Passes.{passes, tickets, passes_out, reads_out, writes_out}
use Rattle.bp_trail.specs.Places.{resident}
use Rattle.bp_trail.specs.Saved.{unsaved, written_since, page_lsn}
use Rattle.bp_trail.specs.Images.{held}
use Rattle.bp_trail.specs.References.{last, hist}

-- f of n numbers from a
abbrev pub each_from : {X : Type 0} → (ℕ → X) → ℕ → ℕ → List X
each_from f a zero = []
each_from f a (suc n) = f a ∷ each_from f (suc a) n

-- what a resident page holds
pub record Content : Type 0 where
  pub image : List ℕ
  pub page_lsn : ℕ

pub record PageStanding : Type 0 where
  pub stamps : List ℕ
  pub last : ℕ
  pub content : Option Content
  pub unsaved : Bool

-- a write-out in flight, and whether its page was written since it began
pub record WriteOut : Type 0 where
  pub ticket : Grant
  pub rewritten : Bool

pub record Standing : Type 0 where
  pub clock : ℕ
  pub durable : ℕ
  -- the next serial numbers
  pub passes : ℕ
  pub tickets : ℕ
  -- what clients hold, the newest first
  pub passes_out : List Grant
  pub reads_out : List Grant
  pub writes_out : List WriteOut
  -- each page of the file, in order
  pub pages : List PageStanding

abbrev pub content_if : Bool → Content → Option Content
content_if true content = Some content
content_if false content = None

abbrev pub content : Trail → ℕ → Content
content s p = record { image = held s p; page_lsn = page_lsn s p }

abbrev pub content_of : Trail → ℕ → Option Content
content_of s p = content_if (resident s p) (content s p)

abbrev pub page_standing : Parameters → Trail → ℕ → PageStanding
page_standing c s p = record {
  stamps = each_from (hist c s p) 1 c.k;
  last = last c s p;
  content = content_of s p;
  unsaved = unsaved s p;
}

abbrev pub write_out : Trail → Grant → WriteOut
write_out s g = record { ticket = g; rewritten = written_since s g.serial g.page }

abbrev pub standing : Parameters → Trail → Standing
standing c s = record {
  clock = clock s;
  durable = durable s;
  passes = passes s;
  tickets = tickets s;
  passes_out = passes_out s;
  reads_out = reads_out s;
  writes_out = map (write_out s) (writes_out s);
  pages = each_from (page_standing c s) 0 c.pages;
}
