-- Two trails that leave the pool in the same state: nothing that a later call can see tells them apart.
use Rattle.std.specs.Prelude.{◌≡◌, ℕ, true}
use Rattle.bp_trail.specs.Parameters.{Parameters}
use Rattle.bp_trail.specs.Event.{grant}
use Rattle.bp_trail.specs.Trail.{Trail}
use Rattle.bp_trail.specs.Clock.{clock, durable}
use Rattle.bp_trail.specs.Passes.{passes, tickets, passes_out, reads_out, writes_out}
use Rattle.bp_trail.specs.Places.{resident}
use Rattle.bp_trail.specs.Saved.{unsaved, written_since, page_lsn}
use Rattle.bp_trail.specs.Images.{held}
use Rattle.bp_trail.specs.References.{last, hist}
use Rattle.bp_trail.specs.Legal.{is_out}

pub record SameStanding (c : Parameters) (s t : Trail) : Type 0 where
  -- the clock, the log, and the next serial numbers
  pub time : clock s ≡ clock t
  pub mark : durable s ≡ durable t
  pub next_pass : passes s ≡ passes t
  pub next_ticket : tickets s ≡ tickets t
  -- what clients hold, the newest first
  pub passes_held : passes_out s ≡ passes_out t
  pub reads_held : reads_out s ≡ reads_out t
  pub writes_held : writes_out s ≡ writes_out t
  -- each page
  pub places : (p : ℕ) → resident s p ≡ resident t p
  pub images : (p : ℕ) → resident s p ≡ true → held s p ≡ held t p
  pub tops : (p : ℕ) → resident s p ≡ true → page_lsn s p ≡ page_lsn t p
  pub changed : (p : ℕ) → unsaved s p ≡ unsaved t p
  pub lasts : (p : ℕ) → last c s p ≡ last c t p
  pub stamps : (p i : ℕ) → hist c s p i ≡ hist c t p i
  -- each write-out in flight
  pub rewritten : (who p n : ℕ) → is_out (grant who p n) (writes_out s) ≡ true → written_since s n p ≡ written_since t n p
