-- Passes that went back: those that a locked core took from a ring.
use Rattle.std.specs.Prelude.{◌≡◌, ◌≢◌, ◌⊎◌, ℕ, suc, ◌≤◌, ◌<◌, Bool, true, false, List, [], ◌∷◌, ◌++◌, length, reverse, All}
use denote.RawPtr.{Ptr, null_ptr}
use Rattle.rtrb.specs.declared.producer.Producer.{Producer}
use Rattle.rtrb.specs.declared.consumer.Consumer.{Consumer}
use Rattle.rtrb.specs.Ring.{received, known_items}
use Rattle.bp_trail.specs.Event.{Grant}
use Rattle.bp_trail.specs.Trail.{Trail}
use Rattle.bp_trail.specs.Passes.{passes_out}
use Rattle.bp_trail.specs.Legal.{is_out}
use Rattle.bp_trail.specs.HeldPasses.{unfix_of}

-- the name by which a ring is told from every other
pub record RingName : Type 0 where
  pub words : Ptr
  pub slots : Ptr
  pub names : ℕ × (ℕ × ℕ)

abbrev pub no_name : RingName
no_name = record { words = null_ptr; slots = null_ptr; names = (0, (0, 0)) }

abbrev pub ring_of : {T A P : Type 0} → Producer T A P → RingName
ring_of ring = record { words = ring.end.words; slots = ring.end.slots; names = ring.end.names }

abbrev pub ring_at : {T A P : Type 0} → Consumer T A P → RingName
ring_at ring = record { words = ring.end.words; slots = ring.end.slots; names = ring.end.names }

-- a ring as its taking end sees it: its name, the passes that came out, oldest first, and those that
-- it saw in the ring
pub record RingView : Type 0 where
  pub name : RingName
  pub received : List Grant
  pub waiting : List Grant

abbrev pub ring_view : {A P : Type 0} → Consumer Grant A P → RingView
ring_view ring =
    record { name = ring_at ring; received = received ring; waiting = known_items ring }

-- in none of the rings a pass is known to wait
abbrev pub NoneWaits : List RingView → Type 0
NoneWaits rings = All (λ (r : RingView). r.waiting ≡ []) rings

-- the pass is not the client's, or not out
abbrev pub IsNotOut : ℕ → Trail → Grant → Type 0
IsNotOut client past g = (g.client ≢ client) ⊎ (is_out g (passes_out past) ≡ false)

-- of the passes that wait none can go back: there is none, or the front one is not out
abbrev pub IsStopped : ℕ → Trail → List Grant → Type 0
IsStopped client past [] = Unit {0}
IsStopped client past (g ∷ waiting) = IsNotOut client past g

-- the front one of the passes that wait left the ring and went back
pub record TakesFront (client : ℕ) (ring ring_after : RingView) (start past : Trail) : Type 0 where
  pub same : ring_after.name ≡ ring.name
  pub front : Grant
  pub left : ring.waiting ≡ front ∷ ring_after.waiting
  pub gave : ring_after.received ≡ ring.received ++ front ∷ []
  pub own : front.client ≡ client
  pub out : is_out front (passes_out start) ≡ true
  pub back : past ≡ unfix_of front ∷ start

-- it did, or it cannot go back, and all is as it was
abbrev pub FrontGoesBack : ℕ → RingView → RingView → Trail → Bool → Trail → Type 0
FrontGoesBack client ring ring_after start true past = TakesFront client ring ring_after start past
FrontGoesBack client ring ring_after start false past =
    (past ≡ start) × (ring_after ≡ ring) × IsStopped client start ring.waiting

-- the passes that were taken from a client's ring, newest first, went back, each in its turn
pub data GoBack (client : ℕ) (start : Trail) : List Grant → Trail → Type 0 where
  none_taken : GoBack client start [] start
  next_taken : {taken : List Grant} {past : Trail} (g : Grant) → GoBack client start taken past
      → g.client ≡ client → is_out g (passes_out past) ≡ true
      → GoBack client start (g ∷ taken) (unfix_of g ∷ past)

-- of the passes that are known to wait in a client's ring some went back, at most so many, in order;
-- where they were fewer, no more can go back
pub record DrainsKnown (most client : ℕ) (ring ring_after : RingView) (start past : Trail)
    : Type 0 where
  pub same : ring_after.name ≡ ring.name
  pub taken : List Grant
  pub few : length taken ≤ most
  pub gave : ring_after.received ≡ ring.received ++ reverse taken
  pub left : ring.waiting ≡ reverse taken ++ ring_after.waiting
  pub stopped : length taken < most → IsStopped client past ring_after.waiting
  pub go_back : GoBack client start taken past

-- a client's ring was drained: what it gave, at most so many passes, went back in order, and where
-- it gave fewer, no more that it shows can go back
pub record DrainsRing (most client : ℕ) (ring ring_after : RingView) (start past : Trail)
    : Type 0 where
  pub same : ring_after.name ≡ ring.name
  pub taken : List Grant
  pub few : length taken ≤ most
  pub gave : ring_after.received ≡ ring.received ++ reverse taken
  pub stopped : length taken < most → IsStopped client past ring_after.waiting
  pub go_back : GoBack client start taken past

-- each ring was drained, of this client and those after it: the first one, and then the others
pub data DrainsRings (most : ℕ) : (client : ℕ) (rings rings_after : List RingView)
    (start past : Trail) → Type 0 where
  none_left : {client : ℕ} {past : Trail} → DrainsRings most client [] [] past past
  next_ring : {client : ℕ} {ring ring_after : RingView} {rings rings_after : List RingView}
      {start mid past : Trail}
      → DrainsRing most client ring ring_after start mid
      → DrainsRings most (suc client) rings rings_after mid past
      → DrainsRings most client (ring ∷ rings) (ring_after ∷ rings_after) start past
