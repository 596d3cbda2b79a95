use Rattle.std.proofs.Common.{◌≡◌, Some, sym, subst}
use Rattle.std.specs.List.{Contains}
use Rattle.bp_references.specs.Candidates.{Entered, entry_of}
use Rattle.bp_lruk.proofs.IndexLaws.{found_contains, contains_found}
use Rattle.bp_lruk.proofs.candidates.Candidates.ordered.Goals as goal

pub returns-clause-all : goal.returns-clause-all
returns-clause-all c = λ e. (
  λ entered. subst (λ es. Contains es e) (sym c.deref.ensures.value) (found_contains c.self.inside.order.items e (subst (λ (h : Entered). entry_of h e.2 ≡ Some (e.0, e.1)) (sym c.self.view_is) entered)),
  λ there. subst (λ (h : Entered). entry_of h e.2 ≡ Some (e.0, e.1)) c.self.view_is (contains_found c.self.inside.order.items e c.self.invariant.1 (subst (λ es. Contains es e) c.deref.ensures.value there)),
)
