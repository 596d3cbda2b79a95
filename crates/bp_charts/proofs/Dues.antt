-- When pages are due.
use Rattle.std.proofs.Common.{◌≡◌, refl, sym, ap, ◌∙◌, ℕ, zero, suc, ◌+◌, ◌-◌, ◌<◌, ◌≤◌, arith, ◌==◌, List, [], ◌∷◌, length, drop, slice_index, slice_set, ◌⊎◌, inl, inr, add-one, drop-cons}
use Rattle.std.proofs.lemmas.Bool.{cases_eq, eq-eqb, ne_eqb}
use Rattle.std.proofs.lemmas.Grind.{get_or-set_at}
use Rattle.std.proofs.lemmas.List.{get_or-set_other}
use Rattle.bp_charts.specs.Due.{due, due_from}

pub due-here : (page : ℕ) (later : List ℕ) → due page (page ∷ later) ≡ 0
due-here page later = rw (eq-eqb page page refl) refl

pub due-later : (page other : ℕ) (later : List ℕ) → (page ≡ other → ⊥) → due page (other ∷ later) ≡ due page later + 1
due-later page other later apart = rw (ne_eqb page other apart) refl

-- two pages are never due together
pub due-same : (a b : ℕ) (later : List ℕ) → due a later ≡ due b later → a ≡ b
due-same a b [] is = is
due-same a b (page ∷ later) is = go (cases_eq a page) (cases_eq b page) (due-same a b later)
  where
    go : (a ≡ page) ⊎ (a ≡ page → ⊥) → (b ≡ page) ⊎ (b ≡ page → ⊥) → (due a later ≡ due b later → a ≡ b) → a ≡ b
    go (inl x) (inl y) more = x ∙ sym y
    go (inl x) (inr y) more = let here = ap (λ p. due p (page ∷ later)) x ∙ due-here page later in absurd (omega (arith, is, here, due-later b page later y))
    go (inr x) (inl y) more = let here = ap (λ p. due p (page ∷ later)) y ∙ due-here page later in absurd (omega (arith, is, here, due-later a page later x))
    go (inr x) (inr y) more = more (omega (arith, is, due-later a page later x, due-later b page later y))

-- so they are told apart by when they are due
pub due-tells : (from a b : ℕ) (later : List ℕ) → ((from + due a later) == (from + due b later)) ≡ (a == b)
due-tells from a b later = go (cases_eq a b)
  where
    go : (a ≡ b) ⊎ (a ≡ b → ⊥) → ((from + due a later) == (from + due b later)) ≡ (a == b)
    go (inl x) = eq-eqb (from + due a later) (from + due b later) (ap (λ p. from + due p later) x) ∙ sym (eq-eqb a b x)
    go (inr x) = ne_eqb (from + due a later) (from + due b later) (λ e. x (due-same a b later (omega (arith, e)))) ∙ sym (ne_eqb a b x)

-- ---- by the index of a reference

pub cut-at : (references : List ℕ) (i : ℕ) → i < length references → drop i references ≡ slice_index references i ∷ drop (i + 1) references
cut-at references i within = rw add-one (drop-cons references i 0 within)

pub due-now : (references : List ℕ) (i : ℕ) → i < length references → due_from i (slice_index references i) references ≡ i
due-now references i within =
    let here = ap (due (slice_index references i)) (cut-at references i within) ∙ due-here (slice_index references i) (drop (i + 1) references) in omega (arith, here)

pub due-not_now : (references : List ℕ) (i page : ℕ) → i < length references → (page ≡ slice_index references i → ⊥) → due_from i page references ≡ due_from (i + 1) page references
due-not_now references i page within apart =
    let here = ap (due page) (cut-at references i within) ∙ due-later page (slice_index references i) (drop (i + 1) references) apart in omega (arith, here)

pub due-at_end : (references : List ℕ) (page : ℕ) → due_from (length references) page references ≡ length references + page
due-at_end references page = ap (λ later. length references + due page later) (none references)
  where
    none : (xs : List ℕ) → drop (length xs) xs ≡ []
    none [] = refl
    none (x ∷ xs) = none xs

pub none-left : (references : List ℕ) (i : ℕ) → length references ≤ i → drop i references ≡ []
none-left [] zero over = refl
none-left [] (suc i) over = refl
none-left (x ∷ xs) zero over = absurd (omega arith)
none-left (x ∷ xs) (suc i) over = none-left xs i (omega arith)

-- ---- the references from the last to the first

module _ (references latest : List ℕ) (step pages : ℕ) (within : step < length references) (all : length latest ≡ pages) (inside : slice_index references (length references - 1 - step) < pages)
    (known : (page : ℕ) → page < pages → slice_index latest page ≡ due_from (length references - step) page references) where
  abbrev pub here : ℕ
  here = length references - 1 - step

  abbrev pub page_here : ℕ
  page_here = slice_index references here

  below : here < length references
  below = omega (arith, within)

  one-more : length references - step ≡ here + 1
  one-more = omega (arith, within)

  one-less : here ≡ length references - (step + 1)
  one-less = omega (arith, within)

  pub latest-next : (page : ℕ) → page < pages → slice_index (slice_set latest page_here here) page ≡ due_from (length references - (step + 1)) page references
  latest-next page low = go (cases_eq page page_here)
    where
      go : (page ≡ page_here) ⊎ (page ≡ page_here → ⊥) → slice_index (slice_set latest page_here here) page ≡ due_from (length references - (step + 1)) page references
      go (inl e) = get_or-set_at latest page_here page here 0 e (omega (arith, all, inside)) ∙ sym (due-now references here below) ∙ ap (λ p. due_from here p references) (sym e) ∙ ap (λ i. due_from i page references) one-less
      go (inr n) = get_or-set_other latest page_here page here 0 n ∙ known page low ∙ ap (λ i. due_from i page references) one-more ∙ sym (due-not_now references here page below n) ∙ ap (λ i. due_from i page references) one-less

  pub times-next : (times : List ℕ) (time : ℕ) → time ≡ slice_index latest page_here → length times ≡ length references
      → ((i : ℕ) → length references - step ≤ i → i < length references → slice_index times i ≡ due_from (i + 1) (slice_index references i) references)
      → (i : ℕ) → length references - (step + 1) ≤ i → i < length references → slice_index (slice_set times here time) i ≡ due_from (i + 1) (slice_index references i) references
  times-next times time is same told i from to = go (cases_eq i here)
    where
      go : (i ≡ here) ⊎ (i ≡ here → ⊥) → slice_index (slice_set times here time) i ≡ due_from (i + 1) (slice_index references i) references
      go (inl e) = get_or-set_at times here i time 0 e (omega (arith, same, below)) ∙ is ∙ known page_here inside ∙ ap (λ k. due_from k page_here references) one-more ∙ ap (λ k. due_from (k + 1) (slice_index references k) references) (sym e)
      go (inr n) = get_or-set_other times here i time 0 n ∙ told i (lower (cases_eq i here)) to
        where
          lower : (i ≡ here) ⊎ (i ≡ here → ⊥) → length references - step ≤ i
          lower (inl e) = absurd (n e)
          lower (inr m) = omega (arith, m, from, one-less, one-more)
