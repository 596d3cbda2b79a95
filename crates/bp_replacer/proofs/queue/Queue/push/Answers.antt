use Rattle.std.proofs.Common.{ℕ, ◌∷◌, map, subst, heap_items}
use Rattle.std.specs.List.Sorted.{IsPermutation}
use Rattle.std.proofs.lemmas.List.Sorted.{IsPermutation-map}
use Rattle.std.specs.declared.cmp.Reverse.{Reverse}
use Rattle.bp_replacer.specs.Queue.{Waiting}
use Rattle.bp_replacer.proofs.queue.Queue.push.Goals as goal

pub returns-clause-pages : goal.returns-clause-pages
returns-clause-pages c = subst (λ (w : Waiting). IsPermutation ((c.args.time, c.args.page) ∷ w.pages) (map (λ e. e.0) (heap_items c.push.new.self))) c.self.view_is (IsPermutation-map (λ (e : Reverse (ℕ × ℕ)). e.0) _ _ c.in-Ok.ensures.permutation)
