-- The rule of a frame, which holds between any two steps.
use Rattle.std.specs.Prelude.{◌≡◌, ℕ, ◌+◌, ◌/◌, ◌%◌, ◌<◌, ◌≤◌, true, List, [], ◌∷◌, Some, None}
use mathlib.Core.Option.{some}
use lib.ListN.{get_elem?}
use Rattle.atomic_table.specs.Table.{State}
use Rattle.bp_words.specs.declared.views.View.{View}
use Rattle.bp_words.specs.Fields.{some_of}
use Rattle.bp_words.specs.Views.{uses, blind, waiting, in_readers, in_pins}

-- a number of each view, added up
abbrev pub total : (View → ℕ) → List View → ℕ
total f [] = 0
total f (v ∷ vs) = f v + total f vs

-- whether the page's pass is out
abbrev pub out_of : ℕ → ℕ
out_of word = word / 4398046511104 % 2

-- the word counts what all seats have in it, and says whether threads wait, of which there is one queue; nobody reads
-- beside a writer; and no count can go over, since each thread has at most one share in the word of which it does not
-- know yet whether it is one
pub record Sound (views : List View) (word : ℕ) : Type 0 where
  pub readers : word % 1048576 ≡ total in_readers views
  pub pins : word / 1048576 % 1048576 ≡ total in_pins views
  pub writers : word / 1099511627776 % 2 ≡ total (λ v. v.writes) views
  pub staying : word / 8796093022208 % 2 ≤ out_of word
  pub alone : 0 < total (λ v. v.writes) views → total (λ v. v.reads) views ≡ 0
  pub few : total (λ v. v.reads + v.waits) views ≤ 786431
  pub few_pins : total (λ v. v.pins + v.halves) views ≤ 786431
  pub tickets : total (λ v. v.tickets) views ≤ 262143
  pub queued : word / 2199023255552 % 2 ≡ some_of (total waiting views)
  pub one_queue : total (λ v. v.queues) views ≤ 1

-- a seat with a share knows the page, whose pass is out; each share of which nothing is known yet, and each wait to
-- read, has a ticket; who waits does so in the queue; the keeper has seat 0, and knows the page if its pass is out
pub record Fits (pass page seat : ℕ) (v : View) : Type 0 where
  pub used : 0 < uses v → (pass ≡ 1) × (v.page ≡ Some page)
  pub blind : blind v ≤ v.tickets
  pub queue : 0 < waiting v → v.queues ≡ 1
  pub keeper : v.tends ≡ true → (seat ≡ 0) × (v.stored ≡ page)
  pub out : v.tends ≡ true → pass ≡ 1 → v.page ≡ Some page
  pub home : v.tends ≡ true → pass ≡ 0 → v.page ≡ None

abbrev pub AllFit : ℕ → ℕ → List View → Type 0
AllFit out page views =
    (seat : ℕ) (v : View) → get_elem? views seat ≡ some v → Fits out page seat v

pub record FrameRule (s : State ℕ View) : Type 0 where
  pub word : ℕ
  pub page : ℕ
  pub words : s.words ≡ word ∷ page ∷ []
  pub sound : Sound s.views word
  pub fit : AllFit (out_of word) page s.views
