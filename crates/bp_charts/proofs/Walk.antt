-- How the keys stand for the pages in frames, from one reference to the next.
use Rattle.std.proofs.Common.{◌≡◌, refl, sym, ap, ◌∙◌, subst, ℕ, ◌+◌, ◌-◌, ◌<◌, ◌≤◌, arith, Bool, true, false, ◌==◌, if◌then◌else◌, List, [], ◌∷◌, ◌⊎◌, inl, inr}
use Rattle.std.proofs.lemmas.Bool.{cases_eq, eq-eqb, ne_eqb, eqb-false, true≢false}
use Rattle.bp_charts.specs.declared.farthest.Optimum.{Optimum}
use Rattle.bp_charts.specs.Due.{due}
use Rattle.bp_charts.specs.Optimum.{Held, nothing_held, with_one, without_one, IsLast, nobody_counted, one_hit, one_load, one_exchange, Comes}
use Rattle.bp_charts.specs.Optimum.Comes.{ends, hit, load, exchange}
use Rattle.bp_charts.specs.Keys.{IsGreatest, Steps}
use Rattle.bp_charts.specs.Keys.Steps.{a_hit, a_load, an_exchange}
use Rattle.bp_charts.proofs.Dues.{due-here, due-later, due-same, due-tells}

-- the pages whose keys are there, before these references, the first of which has this index
abbrev pub pages_at : ℕ → List ℕ → Held → Held
pages_at i rest keys = record { has = λ page. keys.has (i + due page rest); count = keys.count }

abbrev pub plus : Optimum → Optimum → Optimum
plus a b = record { hits = a.hits + b.hits; faults = a.faults + b.faults; evictions = a.evictions + b.evictions }

-- so far the references came to these counts
pub record Stands (frames : ℕ) (references : List ℕ) (i : ℕ) (rest : List ℕ) (keys : Held) (counts : Optimum) : Type 0 where
  pub known : (key : ℕ) → keys.has key ≡ true → (page : ℕ) × (key ≡ i + due page rest)
  pub so_far : (c : Optimum) → Comes frames (pages_at i rest keys) rest c → Comes frames nothing_held references (plus counts c)

pub stands-start : (frames : ℕ) (references : List ℕ) (keys : Held) (counts : Optimum) → ((key : ℕ) → keys.has key ≡ false) → keys.count ≡ 0 → counts ≡ nobody_counted → Stands frames references 0 references keys counts
stands-start frames references keys counts none zero new = record {
  known = λ key is. absurd (true≢false (sym is ∙ none key));
  so_far = λ c comes. subst (Comes frames nothing_held references) (same c) (subst (λ held. Comes frames held references c) empty comes);
}
  where
    empty : pages_at 0 references keys ≡ nothing_held
    empty = λ j. record { has = λ page. none (0 + due page references) j; count = zero j }

    plus_none : (n : ℕ) → n ≡ 0 + n
    plus_none n = omega arith

    same : (c : Optimum) → c ≡ plus counts c
    same c = subst (λ counts. c ≡ plus counts c) (sym new) (λ j. record { hits = plus_none c.hits j; faults = plus_none c.faults j; evictions = plus_none c.evictions j })

pub stands-end : (frames : ℕ) (references : List ℕ) (i : ℕ) (rest : List ℕ) (keys : Held) (counts : Optimum) → rest ≡ [] → Stands frames references i rest keys counts → Comes frames nothing_held references counts
stands-end frames references i rest keys counts over h =
    subst (Comes frames nothing_held references) (λ j. record { hits = none counts.hits j; faults = none counts.faults j; evictions = none counts.evictions j })
    (h.so_far nobody_counted (subst (λ rest. Comes frames (pages_at i rest keys) rest nobody_counted) (sym over) ends))
  where
    none : (n : ℕ) → n + 0 ≡ n
    none n = omega arith

module _ (frames : ℕ) (references : List ℕ) (i page : ℕ) (later : List ℕ) (old : Held) (before : Optimum) (h : Stands frames references i (page ∷ later) old before) where
  here : i + due page (page ∷ later) ≡ i
  here = let d = due-here page later in omega (arith, d)

  not-here : (other : ℕ) → (page == other) ≡ false → i + due other (page ∷ later) ≡ i + 1 + due other later
  not-here other apart = let d = due-later other page later (λ e. eqb-false page other apart (sym e)) in omega (arith, d)

  -- a key that was there, and is not this reference's, is still that of a page
  other-key : (key : ℕ) → old.has key ≡ true → (key ≡ i → ⊥) → (p : ℕ) × (key ≡ i + 1 + due p later) × ((page == p) ≡ false)
  other-key key is apart =
      let of = h.known key is in
      let ne : page ≡ of.0 → ⊥ = λ e. apart (of.1 ∙ ap (λ p. i + due p (page ∷ later)) (sym e) ∙ here) in
      (of.0, of.1 ∙ not-here of.0 (ne_eqb page of.0 ne), ne_eqb page of.0 ne)

  under : (b x y : Bool) → (b ≡ false → x ≡ y) → (if b then true else x) ≡ (if b then true else y)
  under true x y same = refl
  under false x y same = same refl

  dropping : (a b x y : Bool) → a ≡ b → x ≡ y → (if a then false else x) ≡ (if b then false else y)
  dropping a b x y p q = λ j. if p j then false else q j

  choosing : (a b x : Bool) → a ≡ b → (if a then true else x) ≡ (if b then true else x)
  choosing a b x p = λ j. if p j then true else x

  -- the next key is there for the page, and another for a page that was there
  known-next : (next key : ℕ) → next ≡ i + 1 + due page later → (next ≡ key) ⊎ ((key ≡ i → ⊥) × (old.has key ≡ true)) → (p : ℕ) × (key ≡ i + 1 + due p later)
  known-next next key is (inl same) = (page, sym same ∙ is)
  known-next next key is (inr other) = let of = other-key key other.1 other.0 in (of.0, of.1)

  after-hit : (next : ℕ) → next ≡ i + 1 + due page later → old.has i ≡ true → 0 < old.count → Stands frames references (i + 1) later (with_one next (without_one i old)) (one_hit before)
  after-hit next is found some = record {
    known = λ key there. known-next next key is (split key (cases_eq next key) (cases_eq i key) there);
    so_far = λ c comes. subst (Comes frames nothing_held references) (count c) (h.so_far (one_hit c) (hit (ap old.has here ∙ found) (subst (λ held. Comes frames held later c) same comes)));
  }
    where
      split : (key : ℕ) → (next ≡ key) ⊎ (next ≡ key → ⊥) → (i ≡ key) ⊎ (i ≡ key → ⊥) → (with_one next (without_one i old)).has key ≡ true → (next ≡ key) ⊎ ((key ≡ i → ⊥) × (old.has key ≡ true))
      split key (inl e) d there = inl e
      split key (inr n) (inl e) there = absurd (true≢false (sym there ∙ (rw (ne_eqb next key n, eq-eqb i key e) refl)))
      split key (inr n) (inr m) there = inr ((λ e. m (sym e)), (let t : (with_one next (without_one i old)).has key ≡ old.has key = rw (ne_eqb next key n, ne_eqb i key m) refl in sym t ∙ there))

      at : (p : ℕ) → (page ≡ p) ⊎ (page ≡ p → ⊥) → (with_one next (without_one i old)).has (i + 1 + due p later) ≡ old.has (i + due p (page ∷ later))
      at p (inl e) = choosing (next == (i + 1 + due p later)) true _ (eq-eqb next (i + 1 + due p later) (is ∙ ap (λ q. i + 1 + due q later) e)) ∙ sym (ap (λ q. old.has (i + due q (page ∷ later))) (sym e) ∙ ap old.has here ∙ found)
      at p (inr n) = rw (ne_eqb next (i + 1 + due p later) (λ e. n (due-same page p later (omega (arith, e, is)))), ne_eqb i (i + 1 + due p later) (λ e. absurd (omega (arith, e)))) (ap old.has (sym (not-here p (ne_eqb page p n))))

      counted : old.count - 1 + 1 ≡ old.count
      counted = omega (arith, some)

      same : pages_at (i + 1) later (with_one next (without_one i old)) ≡ pages_at i (page ∷ later) old
      same = λ j. record { has = λ p. at p (cases_eq page p) j; count = counted j }

      more : (a b : ℕ) → a + (b + 1) ≡ (a + 1) + b
      more a b = omega arith

      count : (c : Optimum) → plus before (one_hit c) ≡ plus (one_hit before) c
      count c = λ j. record { hits = more before.hits c.hits j; faults = before.faults + c.faults; evictions = before.evictions + c.evictions }

  after-load : (next : ℕ) → next ≡ i + 1 + due page later → old.has i ≡ false → old.count < frames → Stands frames references (i + 1) later (with_one next old) (one_load before)
  after-load next is away room = record {
    known = λ key there. known-next next key is (split key (cases_eq next key) there);
    so_far = λ c comes. subst (Comes frames nothing_held references) (count c) (h.so_far (one_load c) (load (ap old.has here ∙ away) room (subst (λ held. Comes frames held later c) same comes)));
  }
    where
      split : (key : ℕ) → (next ≡ key) ⊎ (next ≡ key → ⊥) → (with_one next old).has key ≡ true → (next ≡ key) ⊎ ((key ≡ i → ⊥) × (old.has key ≡ true))
      split key (inl e) there = inl e
      split key (inr n) there =
          let t : (with_one next old).has key ≡ old.has key = rw (ne_eqb next key n) refl in
          let is_there : old.has key ≡ true = sym t ∙ there in
          inr ((λ e. true≢false (sym is_there ∙ ap old.has e ∙ away)), is_there)

      at : (p : ℕ) → (with_one next old).has (i + 1 + due p later) ≡ (with_one page (pages_at i (page ∷ later) old)).has p
      at p = choosing (next == (i + 1 + due p later)) (page == p) _ (ap (λ n. n == (i + 1 + due p later)) is ∙ due-tells (i + 1) page p later)
          ∙ under (page == p) (old.has (i + 1 + due p later)) (old.has (i + due p (page ∷ later))) (λ apart. ap old.has (sym (not-here p apart)))

      same : pages_at (i + 1) later (with_one next old) ≡ with_one page (pages_at i (page ∷ later) old)
      same = λ j. record { has = λ p. at p j; count = old.count + 1 }

      more : (a b : ℕ) → a + (b + 1) ≡ (a + 1) + b
      more a b = omega arith

      count : (c : Optimum) → plus before (one_load c) ≡ plus (one_load before) c
      count c = λ j. record { hits = before.hits + c.hits; faults = more before.faults c.faults j; evictions = before.evictions + c.evictions }

  after-exchange : (next victim : ℕ) → next ≡ i + 1 + due page later → old.has i ≡ false → frames ≤ old.count → IsGreatest old victim
      → Stands frames references (i + 1) later (with_one next (without_one victim old)) (one_exchange before)
  after-exchange next victim is away full greatest = record {
    known = λ key there. known-next next key is (split key (cases_eq next key) (cases_eq victim key) there);
    so_far = λ c comes. subst (Comes frames nothing_held references) (count c) (h.so_far (one_exchange c) (exchange (ap old.has here ∙ away) full last (subst (λ held. Comes frames held later c) same comes)));
  }
    where
      not-now : (key : ℕ) → old.has key ≡ true → key ≡ i → ⊥
      not-now key there e = true≢false (sym there ∙ ap old.has e ∙ away)

      leaves : (p : ℕ) × (victim ≡ i + 1 + due p later) × ((page == p) ≡ false)
      leaves = other-key victim greatest.here (not-now victim greatest.here)

      split : (key : ℕ) → (next ≡ key) ⊎ (next ≡ key → ⊥) → (victim ≡ key) ⊎ (victim ≡ key → ⊥) → (with_one next (without_one victim old)).has key ≡ true → (next ≡ key) ⊎ ((key ≡ i → ⊥) × (old.has key ≡ true))
      split key (inl e) d there = inl e
      split key (inr n) (inl e) there = absurd (true≢false (sym there ∙ (rw (ne_eqb next key n, eq-eqb victim key e) refl)))
      split key (inr n) (inr m) there =
          let t : (with_one next (without_one victim old)).has key ≡ old.has key = rw (ne_eqb next key n, ne_eqb victim key m) refl in
          let is_there : old.has key ≡ true = sym t ∙ there in
          inr (not-now key is_there, is_there)

      last : IsLast (pages_at i (page ∷ later) old) later leaves.0
      last = record {
        here = ap old.has (not-here leaves.0 leaves.2 ∙ sym leaves.1) ∙ greatest.here;
        last = λ other there.
            let low = greatest.greatest (i + due other (page ∷ later)) there in
            let apart : (page == other) ≡ false = ne_eqb page other (λ e. not-now (i + due other (page ∷ later)) there (ap (λ p. i + due p (page ∷ later)) (sym e) ∙ here)) in
            let key = not-here other apart in
            let out = leaves.1 in
            omega (arith, low, key, out);
      }

      at : (p : ℕ) → (with_one next (without_one victim old)).has (i + 1 + due p later) ≡ (with_one page (without_one leaves.0 (pages_at i (page ∷ later) old))).has p
      at p = choosing (next == (i + 1 + due p later)) (page == p) _ (ap (λ n. n == (i + 1 + due p later)) is ∙ due-tells (i + 1) page p later)
          ∙ under (page == p) _ _ (λ apart. dropping (victim == (i + 1 + due p later)) (leaves.0 == p) (old.has (i + 1 + due p later)) (old.has (i + due p (page ∷ later)))
          (ap (λ n. n == (i + 1 + due p later)) leaves.1 ∙ due-tells (i + 1) leaves.0 p later) (ap old.has (sym (not-here p apart))))

      same : pages_at (i + 1) later (with_one next (without_one victim old)) ≡ with_one page (without_one leaves.0 (pages_at i (page ∷ later) old))
      same = λ j. record { has = λ p. at p j; count = old.count - 1 + 1 }

      more : (a b : ℕ) → a + (b + 1) ≡ (a + 1) + b
      more a b = omega arith

      count : (c : Optimum) → plus before (one_exchange c) ≡ plus (one_exchange before) c
      count c = λ j. record { hits = before.hits + c.hits; faults = more before.faults c.faults j; evictions = more before.evictions c.evictions j }

  pub stands-next : (next : ℕ) (new : Held) (after : Optimum) → next ≡ i + 1 + due page later → Steps frames i next old new before after → Stands frames references (i + 1) later new after
  stands-next next new after is (a_hit found some moved counted) = subst (λ keys. Stands frames references (i + 1) later keys after) (sym moved) (subst (Stands frames references (i + 1) later (with_one next (without_one i old))) (sym counted) (after-hit next is found some))
  stands-next next new after is (a_load away room moved counted) = subst (λ keys. Stands frames references (i + 1) later keys after) (sym moved) (subst (Stands frames references (i + 1) later (with_one next old)) (sym counted) (after-load next is away room))
  stands-next next new after is (an_exchange victim away full greatest moved counted) =
      subst (λ keys. Stands frames references (i + 1) later keys after) (sym moved) (subst (Stands frames references (i + 1) later (with_one next (without_one victim old))) (sym counted) (after-exchange next victim is away full greatest))

  -- the next key of the page is not there yet
  pub next-fresh : (next : ℕ) → next ≡ i + 1 + due page later → old.has next ≡ false
  next-fresh next is = by (old.has next) refl
    where
      by : (b : Bool) → old.has next ≡ b → old.has next ≡ false
      by false e = e
      by true e =
          let of = other-key next e (λ same. absurd (omega (arith, is, same))) in
          absurd (eqb-false page of.0 of.2 (due-same page of.0 later (let same = of.1 in omega (arith, is, same))))
