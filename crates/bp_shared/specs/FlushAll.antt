-- What a flush of each unsaved page adds to a session's list, and what it saw of the trail.
use Rattle.std.specs.Prelude.{◌≡◌, ℕ, ◌+◌, false, Option, Some, None, Result, Ok, Err}
use Rattle.bp_page.specs.declared.refusals.Refusal.{Refusal}
use Rattle.bp_trail.specs.Parameters.{Parameters}
use Rattle.bp_trail.specs.Trail.{Trail}
use Rattle.bp_trail.specs.Saved.{unsaved}
use Rattle.bp_trail.specs.declared.ends.Flushed.{Flushed}
use Rattle.bp_trail.specs.declared.ends.NotFlushed.{NotFlushed}
use Rattle.bp_core.specs.Unsaved.{FindsUnsaved}
use Rattle.bp_shared.specs.Sessions.{SessionValue, FlushSaid}
use Rattle.bp_shared.specs.Telling.{GoesOnFrom, Sees}

-- with which parameters a pool was made, and what the trail had then
pub record Pool : Type 0 where
  pub parameters : Parameters
  pub start : Trail

-- the session saw the trail, in which this is the first unsaved page from the number on
pub record Finds (o : Pool) (old : SessionValue) (from : ℕ) (page : Option ℕ) (new : SessionValue)
    : Type 0 where
  pub sees : Sees o.parameters o.start old new
  pub found : FindsUnsaved o.parameters.pages from new.seen page

-- a page was flushed, which added to the session's list, and saw more of the trail
pub record Flushes (page : ℕ) (answer : Result Flushed Refusal) (old new : SessionValue)
    : Type 0 where
  pub client : new.client ≡ old.client
  pub seen : GoesOnFrom old.seen new.seen
  pub said : FlushSaid old.client page answer old.said new.said

-- unsaved pages were flushed, one after the other: each was the first from where the one before it
-- ended, and the next is to be looked for from this number on
pub data FlushesEach (o : Pool) (old : SessionValue) : ℕ → SessionValue → Type 0 where
  none : FlushesEach o old 0 old
  page : {from : ℕ} {mid new : SessionValue} (page : ℕ) (how : Flushed) (found : SessionValue)
      → FlushesEach o old from mid → Finds o mid from (Some page) found
      → Flushes page (Ok how) found new → FlushesEach o old (page + 1) new

-- after the last of them no page was found
pub record FlushedAll (o : Pool) (old new : SessionValue) : Type 0 where
  pub next : ℕ
  pub mid : SessionValue
  pub flushed : FlushesEach o old next mid
  pub none_left : Finds o mid next None new

-- the flush of a page that was found was refused
pub record StoppedAt (o : Pool) (stop : NotFlushed) (old new : SessionValue) : Type 0 where
  pub next : ℕ
  pub mid : SessionValue
  pub found : SessionValue
  pub flushed : FlushesEach o old next mid
  pub finds : Finds o mid next (Some stop.page) found
  pub refused : Flushes stop.page (Err stop.why) found new

abbrev pub FlushAllSaid : {A : Type 0} → Pool → Result A NotFlushed → SessionValue → SessionValue
    → Type 0
FlushAllSaid o (Ok done) old new = FlushedAll o old new
FlushAllSaid o (Err stop) old new = StoppedAt o stop old new

-- the session later on: its client is the same, and its list and what it saw go on
pub record Later (old new : SessionValue) : Type 0 where
  pub client : new.client ≡ old.client
  pub said : GoesOnFrom old.said new.said
  pub seen : GoesOnFrom old.seen new.seen

-- between these two the session looked at the trail, and the page was not unsaved in it, or a flush
-- of the page was answered
pub data Reaches (o : Pool) (page : ℕ) (old new : SessionValue) : Type 0 where
  saved : (was mid : SessionValue) → Later old was → Sees o.parameters o.start was mid
      → unsaved mid.seen page ≡ false → Later mid new → Reaches o page old new
  flushed : (how : Flushed) (mid after : SessionValue) → Later old mid
      → Flushes page (Ok how) mid after → Later after new → Reaches o page old new
