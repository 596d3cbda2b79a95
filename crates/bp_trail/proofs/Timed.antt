-- The references of a page come in the order of time, and none is later than the clock.
use Rattle.std.proofs.Common.{ℕ, ◌≤◌, Bool, true, false, ◌&&◌, if◌then◌else◌, List, [], ◌∷◌, arith}
use Rattle.bp_references.specs.Burst.{Reference, last_time}
use Rattle.bp_references.specs.Burst.Reference.{hit, fault}
use Rattle.bp_references.specs.Stamp.{IsTimed}
use Rattle.bp_trail.specs.Parameters.{Parameters}
use Rattle.bp_trail.specs.Event.{hits, loads, discards, is_purge, ticks}
use Rattle.bp_trail.specs.Trail.{Trail}
use Rattle.bp_trail.specs.Clock.{clock}
use Rattle.bp_trail.specs.References.{references, forgets}
use Rattle.bp_trail.proofs.Lists.{total-with}

pub record Timed (now : ℕ) (known : List Reference) : Type 0 where
  pub timed : IsTimed known
  pub past : last_time known ≤ now

pub references-timed : (c : Parameters) (past : Trail) (p : ℕ) → Timed (clock past) (references c past p)
references-timed c [] p = record { timed = tt; past = omega arith }
references-timed c (e ∷ past) p = go (hits p e) (loads p e) (discards p e) (is_purge e.call && forgets c past p (references c past p)) (references-timed c past p)
  where
    later : clock past ≤ clock (e ∷ past)
    later = let t = total-with (λ d. ticks d.call) e past in omega arith

    go : (h l d f : Bool) → Timed (clock past) (references c past p)
        → Timed (clock (e ∷ past)) (if h then hit (clock past) ∷ references c past p else if l then fault (clock past) ∷ references c past p else if d then [] else if f then [] else references c past p)
    go true l d f k = record { timed = record { from_one = omega arith; not_before = k.past; older = k.timed }; past = later }
    go false true d f k = record { timed = record { from_one = omega arith; not_before = k.past; older = k.timed }; past = later }
    go false false true f k = record { timed = tt; past = omega arith }
    go false false false true k = record { timed = tt; past = omega arith }
    go false false false false k = record { timed = k.timed; past = let p = k.past in let q = later in omega arith }
