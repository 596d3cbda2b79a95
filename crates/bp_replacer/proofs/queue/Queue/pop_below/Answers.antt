use Rattle.std.proofs.Common.{◌≡◌, ℕ, zero, suc, ◌<◌, ◌≤◌, false, List, [], ◌∷◌, length, get_or, map, refl, subst, heap_items, arith}
use Rattle.std.specs.declared.cmp.Ordering.{Ordering}
use Rattle.std.specs.declared.cmp.Ordering.TheVariants.{Less, Equal, Greater}
use Rattle.std.specs.declared.cmp.Reverse.{Reverse}
use Rattle.std.specs.Ordering.{is_lt, ordering_then}
use Rattle.std.specs.BinaryHeap.{IsUpperBound}
use Rattle.std.specs.List.Sorted.{IsPermutation}
use Rattle.std.proofs.HeapSift.{at_most}
use Rattle.std.proofs.lemmas.List.Sorted.{IsPermutation-map}
use Rattle.bp_replacer.specs.Queue.{Waiting, by_time}
use Rattle.bp_replacer.proofs.queue.Queue.pop_below.Goals as goal

first_not_lt : (a b : Ordering) → is_lt (ordering_then a b) ≡ false → is_lt a ≡ false
first_not_lt Less b e = e
first_not_lt Equal b e = refl
first_not_lt Greater b e = e

-- no page waits since before the first
none_before : (x : Reverse (ℕ × ℕ)) (xs : List (Reverse (ℕ × ℕ))) (bound : ℕ) → IsUpperBound by_time x xs → bound ≤ x.0.0 → (k : ℕ) (d : ℕ × ℕ) → k < length (map (λ (e : Reverse (ℕ × ℕ)). e.0) xs) → bound ≤ (get_or (map (λ (e : Reverse (ℕ × ℕ)). e.0) xs) k d).0
none_before x [] bound above le k d lt = absurd (omega arith)
none_before x (y ∷ ys) bound above le zero d lt = omega (arith, at_most y.0.0 x.0.0 (first_not_lt _ _ above.0))
none_before x (y ∷ ys) bound above le (suc k) d lt = none_before x ys bound above.1 le k d (omega arith)

pub returns-then-first-bound-clause-none_below : goal.returns-then-first-bound-clause-none_below
returns-then-first-bound-clause-none_below c = subst (λ (w : Waiting). (k : ℕ) (d : ℕ × ℕ) → k < length w.pages → c.args.bound ≤ (get_or w.pages k d).0) c.self.view_is (none_before c.in-Some.first.now (heap_items c.self.inside.pages) c.args.bound (c.in-Some.ensures.greatest c.self.invariant.heap) (omega arith))

pub returns-clause-taken : goal.returns-clause-taken
returns-clause-taken c = subst (λ (w : Waiting). IsPermutation w.pages (c.in-Some-pop.first.0 ∷ map (λ (e : Reverse (ℕ × ℕ)). e.0) (heap_items c.pop.new.self))) c.self.view_is (IsPermutation-map (λ (e : Reverse (ℕ × ℕ)). e.0) _ _ c.in-Some-pop.ensures.permutation)
