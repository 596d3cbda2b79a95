-- What a session has of the names of its pool, where what is behind the lock has the same.
use Rattle.std.proofs.Common.{◌≡◌, subst, ℕ, slice_index_or}
use Rattle.bp_trail.specs.Trail.{Trail}
use Rattle.bp_session_log.specs.Rings.{RingName}
use Rattle.bp_session_log.specs.declared.boards.Line.{Line}
use Rattle.bp_shared.specs.Taking.{PoolRing}
use Rattle.bp_shared.specs.Telling.{IsLineOf}

pub own_line : (theirs ours : PoolRing) (line : Line) (client : ℕ) (said : Trail) → theirs ≡ ours → IsLineOf theirs.board line client said → IsLineOf ours.board line client said
own_line theirs ours line client said same is = subst (λ (r : PoolRing). IsLineOf r.board line client said) same is

pub own_ring : (theirs ours : PoolRing) (client : ℕ) (ring : RingName) → theirs ≡ ours → slice_index_or theirs.rings client ring ≡ ring → slice_index_or ours.rings client ring ≡ ring
own_ring theirs ours client ring same is = subst (λ (r : PoolRing). slice_index_or r.rings client ring ≡ ring) same is
