-- What a flush of each unsaved page does.
use Rattle.std.specs.Prelude.{ℕ, ◌+◌, Some, Result, Ok, Err}
use Rattle.bp_trail.specs.declared.ends.Flushed.{Flushed}
use Rattle.bp_core.specs.CoreView.{CoreView}
use Rattle.bp_core.specs.Unsaved.{AreSaved, FindsUnsaved}
use Rattle.bp_trail.specs.declared.ends.NotFlushed.{NotFlushed}
use Rattle.bp_device.specs.Drivers.{DrivesFlush}

-- unsaved pages were flushed, one after the other: each was the first from where the one before it
-- ended, and the next is to be looked for from this number on
pub data FlushesEach (client : ℕ) (old : CoreView) : ℕ → CoreView → Type 0 where
  none : FlushesEach client old 0 old
  page : {from : ℕ} {mid new : CoreView} (page : ℕ) (how : Flushed)
      → FlushesEach client old from mid
      → FindsUnsaved mid.parameters.pages from mid.past (Some page)
      → DrivesFlush mid client page (Ok how) new → FlushesEach client old (page + 1) new

-- no page is left unsaved
pub record FlushedAll (client : ℕ) (old new : CoreView) : Type 0 where
  pub next : ℕ
  pub flushed : FlushesEach client old next new
  pub saved : AreSaved 0 new.parameters.pages new.past

-- the flush of a page was refused, and the pages before it are saved
pub record StoppedAt (client : ℕ) (old : CoreView) (stop : NotFlushed) (new : CoreView)
    : Type 0 where
  pub next : ℕ
  pub mid : CoreView
  pub flushed : FlushesEach client old next mid
  pub found : FindsUnsaved mid.parameters.pages next mid.past (Some stop.page)
  pub refused : DrivesFlush mid client stop.page (Err stop.why) new
  pub saved : AreSaved 0 stop.page new.past

abbrev pub FlushesAll : ℕ → CoreView → Result (Unit {0}) NotFlushed → CoreView → Type 0
FlushesAll client old (Ok done) new = FlushedAll client old new
FlushesAll client old (Err stop) new = StoppedAt client old stop new
