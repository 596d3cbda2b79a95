-- The page that LRU-K replaces.
use Rattle.std.specs.Prelude.{IsTrue, IsFalse, ℕ, ◌-◌, nat_lt, Bool, not, ◌&&◌, ◌==◌, List, filter, find, Option}
use Rattle.bp_references.specs.Distance.{backward_distance as distance_back}
use Rattle.bp_references.specs.Candidates.{is_before}
use Rattle.bp_trail.specs.Parameters.{Parameters}
use Rattle.bp_trail.specs.Trail.{Trail}
use Rattle.bp_trail.specs.Lists.{every}
use Rattle.bp_trail.specs.Clock.{clock}
use Rattle.bp_trail.specs.Passes.{pins}
use Rattle.bp_trail.specs.Places.{residents, resident, writing}
use Rattle.bp_trail.specs.References.{hist, last}

-- the distance back to the K-th newest reference; none where there are fewer
abbrev pub backward_distance : Parameters → Trail → ℕ → Option ℕ
backward_distance c past p = distance_back (clock past) (hist c past p c.k)

-- what decides between candidates, part by part
pub record Rank : Type 0 where
  pub stamp : ℕ
  pub last : ℕ
  pub page : ℕ

abbrev pub rank : Parameters → Trail → ℕ → Rank
rank c past p = record { stamp = hist c past p c.k; last = last c past p; page = p }

abbrev pub before : Rank → Rank → Bool
before a b = is_before (a.stamp, a.last, a.page) (b.stamp, b.last, b.page)

abbrev pub candidate : Parameters → Trail → ℕ → Bool
candidate c past p =
    resident past p
    && ((pins past p == 0)
    && (not (writing past p) && nat_lt c.correlated (clock past - last c past p)))

abbrev pub candidates : Parameters → Trail → List ℕ
candidates c past = filter (candidate c past) (residents past)

-- the candidate that no other comes before
abbrev pub victim : Parameters → Trail → Option ℕ
victim c past =
    find (λ v. every (λ q. not (before (rank c past q) (rank c past v))) (candidates c past))
    (candidates c past)

-- the same as a relation: a candidate that no candidate comes before
pub record IsVictim (c : Parameters) (past : Trail) (v : ℕ) : Type 0 where
  pub eligible : IsTrue (candidate c past v)
  pub first : (q : ℕ) → IsTrue (candidate c past q)
      → IsFalse (before (rank c past q) (rank c past v))
