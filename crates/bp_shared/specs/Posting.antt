-- The passes that clients post by their rings, and what of them the trail has.
use Rattle.std.specs.Prelude.{◌≡◌, ℕ, suc, ◌==◌, not, List, [], ◌∷◌, ◌++◌, map, reverse, filter, filter_map, All, if◌then◌else◌}
use Rattle.rtrb.specs.declared.producer.Producer.{Producer}
use Rattle.rtrb.specs.declared.consumer.Consumer.{Consumer}
use Rattle.rtrb.specs.Ring.{sent, received, known_free, producer_capacity}
use Rattle.bp_trail.specs.Event.{Grant}
use Rattle.bp_trail.specs.Lists.{some}
use Rattle.bp_trail.specs.Trail.{Trail}
use Rattle.bp_trail.specs.Passes.{pass_of}
use Rattle.bp_trail.specs.HeldPasses.{unfix_of}
use Rattle.bp_trail.specs.Clients.{of_client}
use Rattle.bp_core.specs.CoreView.{CoreView}
use Rattle.bp_session_log.specs.Books.{unfixes}
use Rattle.bp_session_log.specs.Rings.{RingName, RingView, ring_of, ring_at}
use Rattle.bp_shared.specs.Telling.{told}

-- the passes that a client gave back, newest first
abbrev pub unfixed : ℕ → Trail → List Grant
unfixed client past = unfixes (of_client client past)

-- the passes that came out of a client's ring, newest first; the first ring is that of this client
abbrev pub came_out : ℕ → List RingView → ℕ → List Grant
came_out first [] client = []
came_out first (ring ∷ rings) client =
    if client == first then reverse ring.received else came_out (suc first) rings client

-- the rings have these names, and since the pool was made each client gave back what came out of its
-- ring, in order: all of it, and nothing else
pub record IsPosted (names : List RingName) (start : Trail) (rings : List RingView) (past : Trail)
    : Type 0 where
  pub names_are : map (λ (r : RingView). r.name) rings ≡ names
  pub since : Trail
  pub goes_on : past ≡ since ++ start
  pub all : (c : ℕ) → unfixed c since ≡ came_out 0 rings c

-- no pass went through the ring, which has 32 places, all of them free
abbrev pub IsUnused : {A P : Type 0} → Producer Grant A P → Type 0
IsUnused ring = (sent ring ≡ []) × (known_free ring ≡ 32) × (producer_capacity ring ≡ 32)

-- two lists of the ends of rings, that of the one and the other side in the same order, through
-- which nothing went
pub record AreRings {A B P Q : Type 0} (producers : List (Producer Grant A P))
    (consumers : List (Consumer Grant B Q)) : Type 0 where
  pub same : map ring_at consumers ≡ map ring_of producers
  pub unused : All IsUnused producers
  pub empty : All (λ ring. received ring ≡ []) consumers

-- since the pool was made, the client gave back the passes that it posted: all of them, in that
-- order, and no other
pub record IsUnfixedBy (start past : Trail) (client : ℕ) (posted : List Grant) : Type 0 where
  pub since : Trail
  pub goes_on : past ≡ since ++ start
  pub all : unfixed client since ≡ posted

-- the core took passes of a client back, and did nothing else
pub record TakesBack (client : ℕ) (old new : CoreView) : Type 0 where
  pub passes : List Grant
  pub own : All (λ g. g.client ≡ client) passes
  pub is : new ≡ record old { past = map unfix_of passes ++ old.past }

-- the passes that a client holds by its list: those that it was given and did not give back
abbrev pub held_by : Trail → List Grant
held_by said =
    filter (λ g. not (some (λ back. back.serial == g.serial) (unfixes said)))
    (filter_map pass_of (told said))
