-- The trail of a pool, as it is taken piece by piece.
use Rattle.std.specs.Prelude.{◌≡◌, ◌⊎◌, ℕ, ◌+◌, ◌<◌, ◌^◌, ◌≤◌, List, [], ◌∷◌, ◌++◌, length, reverse}
use Rattle.std.specs.declared.vec.Vec.{Vec}
use Rattle.rtrb.specs.declared.producer.Producer.{Producer}
use Rattle.rtrb.specs.Ring.{sent, known_free, producer_capacity}
use Rattle.bp_trail.specs.declared.entries.Entry.{Entry}
use Rattle.bp_trail.specs.Parameters.{Parameters}
use Rattle.bp_trail.specs.Trail.{Trail}
use Rattle.bp_trail.specs.Passes.{passes, tickets}
use Rattle.bp_trail.specs.Cuts.{LeadsOn}
use Rattle.bp_trail.specs.Legal.{Legal}
use Rattle.bp_trail.specs.Standing.{standing}
use Rattle.bp_core.specs.CoreView.{CoreView}
use Rattle.bp_core.specs.Outcomes.{Cuts}
use Rattle.bp_session_log.specs.Rings.{RingName, no_name, ring_of}
use Rattle.bp_shared.specs.Locked.{LockedValue}

-- the names of what is made before a pool: the ring by which its trail is taken, the boards of its
-- sessions, for their lists and for what they saw of the trail, and the ring of each session, in the
-- order of their clients
pub record PoolRing : Type 0 where
  pub trail : RingName
  pub board : ℕ
  pub seen : ℕ
  pub rings : List RingName

-- the names of nothing
abbrev pub no_ring : PoolRing
no_ring = record { trail = no_name; board = 0; seen = 0; rings = [] }

-- no piece waits in the ring, which has room for one
abbrev pub IsEmptied : {T A P : Type 0} → Producer T A P → Type 0
IsEmptied pieces = (producer_capacity pieces ≡ 1) × (known_free pieces ≡ 1)

-- the number of the pool; the entries so far, newest first: those from before the pool, and those
-- of the pieces that were taken; and how many pieces these are
pub record TakerValue : Type 0 where
  pub part : ℕ
  pub past : Trail
  pub pieces : ℕ

-- the entries of some pieces, each of which is in order, after those before them
abbrev pub after_pieces : {A : Type 0} → Trail → List (Vec Entry A) → Trail
after_pieces before [] = before
after_pieces before (piece ∷ pieces) = after_pieces (reverse piece.items ++ before) pieces

-- what the core handed out went through the ring, in order
pub record IsHandedOut {A B P : Type 0} (ring : RingName) (before : Trail)
    (pieces : Producer (Vec Entry A) B P)
    (core : CoreView) : Type 0 where
  pub ring_is : ring_of pieces ≡ ring
  pub emptied : IsEmptied pieces
  pub pieces_are : core.before ≡ after_pieces before (sent pieces)

-- the piece comes next: it is one more, and goes on lawfully from where those before it led
pub record ComesNext (c : Parameters) (had : TakerValue) (entries : List Entry)
    (has : TakerValue) : Type 0 where
  pub one_more : has.pieces ≡ had.pieces + 1
  pub joins : has.past ≡ reverse entries ++ had.past
  pub leads_on : LeadsOn c (standing c had.past) (reverse entries) (standing c has.past)
  pub legal : Legal c has.past

-- the core's entries, which fit its room and go on lawfully from all that its taker had, gave more
-- than 2^62 passes or tickets
pub record GaveTooMany (c : Parameters) (had : TakerValue) : Type 0 where
  pub past : Trail
  pub piece : Trail
  pub goes_on : past ≡ piece ++ had.past
  pub fits : length piece ≤ c.room
  pub legal : Legal c past
  pub many : (2 ^ 62 < passes past) ⊎ (2 ^ 62 < tickets past)

-- the core was cut, and its taker, which had all that was handed out, got exactly that piece
pub record HandsOut (old : LockedValue) (had : TakerValue) (entries : List Entry)
    (new : LockedValue) (has : TakerValue) : Type 0 where
  pub cuts : Cuts old.core entries new.core
  pub rings_stay : new.rings ≡ old.rings
  pub ends_stay : new.ends ≡ old.ends
  pub had_all : had.past ≡ old.core.before
  pub takes : has.past ≡ reverse entries ++ had.past
