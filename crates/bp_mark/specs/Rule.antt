-- The rule of the durable mark, which holds between any two steps.
use Rattle.std.specs.Prelude.{◌≡◌, ℕ, ◌≤◌, List, [], ◌∷◌, IfSome}
use mathlib.Core.Option.{some}
use lib.ListN.{get_elem?}
use Rattle.atomic_table.specs.Table.{State}
use Rattle.bp_mark.specs.declared.views.View.{View}

-- the view has seen no more than the word; only seat 0 has a frontier, and it is the word
pub record Fits (word seat : ℕ) (v : View) : Type 0 where
  pub seen : v.seen ≤ word
  pub frontier : IfSome v.frontier (λ frontier. (seat ≡ 0) × (frontier ≡ word))

-- each seat's view fits the word
abbrev pub AllFit : ℕ → List View → Type 0
AllFit word views = (seat : ℕ) (v : View) → get_elem? views seat ≡ some v → Fits word seat v

-- there is one word, and each view fits it
pub record MarkRule (s : State ℕ View) : Type 0 where
  pub word : ℕ
  pub one_word : s.words ≡ word ∷ []
  pub views : AllFit word s.views
