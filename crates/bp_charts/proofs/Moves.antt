-- What the calls of a set do to its keys.
use Rattle.std.proofs.Common.{◌≡◌, refl, sym, ap, ◌∙◌, subst, ℕ, ◌+◌, ◌-◌, ◌≤◌, arith, Bool, true, false, not, ◌==◌, if◌then◌else◌, cond, IsTrue, length}
use Rattle.std.proofs.lemmas.Grind.{common_steps}
use Rattle.std.proofs.lemmas.Map.Keys.{ge_from_not_lt}
use Rattle.std.specs.Ordering.{nat_cmp}
use Rattle.std.specs.BTreeMap.{is_at}
use Rattle.std.specs.List.{list_any}
use Rattle.std.specs.BTreeSet.{BTreeSet, contains, btree_set_len, Updates, IsUpperBound}
use Rattle.bp_charts.specs.declared.farthest.Optimum.{Optimum}
use Rattle.bp_charts.specs.Optimum.{Held, with_one, without_one}
use Rattle.bp_charts.specs.Keys.{keys_of, IsGreatest, Steps}
use Rattle.bp_charts.specs.Keys.Steps.{a_hit, a_load, an_exchange}

abbrev Keys : Type 0
Keys = BTreeSet ℕ

at-key : (key other : ℕ) → is_at (nat_cmp key) other ≡ (key == other)
at-key key other = grind (arith, common_steps)

pub inserts : (old new : Keys) (key : ℕ) → Updates nat_cmp old new key true → contains nat_cmp old key ≡ false → btree_set_len new ≡ btree_set_len old + (if not (contains nat_cmp old key) then 1 else 0) → keys_of new ≡ with_one key (keys_of old)
inserts old new key u fresh len = λ j. record { has = λ other. at other j; count = grown j }
  where
    at : (other : ℕ) → contains nat_cmp new other ≡ (with_one key (keys_of old)).has other
    at other = u.0 other ∙ ap (λ b. cond b true (contains nat_cmp old other)) (at-key key other)

    grown : btree_set_len new ≡ btree_set_len old + 1
    grown = len ∙ ap (λ b. btree_set_len old + (if not b then 1 else 0)) fresh

pub removes : (old new : Keys) (key : ℕ) → Updates nat_cmp old new key false → btree_set_len new + 1 ≡ btree_set_len old → keys_of new ≡ without_one key (keys_of old)
removes old new key u len = λ j. record { has = λ other. at other j; count = less j }
  where
    at : (other : ℕ) → contains nat_cmp new other ≡ (without_one key (keys_of old)).has other
    at other = u.0 other ∙ ap (λ b. cond b false (contains nat_cmp old other)) (at-key key other)

    less : btree_set_len new ≡ btree_set_len old - 1
    less = omega (arith, len)

pub greatest-of : (keys : Keys) (key : ℕ) → IsTrue (contains nat_cmp keys key) → IsUpperBound nat_cmp keys key → IsGreatest (keys_of keys) key
greatest-of keys key there bound = record { here = there; greatest = λ other is. ge_from_not_lt key other (bound other is) }

-- what was away is away when a key has gone
pub stays-away : (old : Held) (gone key : ℕ) → old.has key ≡ false → (without_one gone old).has key ≡ false
stays-away old gone key away = by (gone == key)
  where
    by : (b : Bool) → (if b then false else old.has key) ≡ false
    by true = refl
    by false = away

-- each count grows by one at most
abbrev pub Grows : Optimum → Optimum → Type 0
Grows before after = (after.hits ≤ before.hits + 1) × (after.faults ≤ before.faults + 1) × (after.evictions ≤ before.evictions + 1)

pub steps-grow : (frames now next : ℕ) (old new : Held) (before after : Optimum) → Steps frames now next old new before after → Grows before after
steps-grow frames now next old new before after (a_hit found some moved counted) = subst (Grows before) (sym counted) (omega arith, omega arith, omega arith)
steps-grow frames now next old new before after (a_load away room moved counted) = subst (Grows before) (sym counted) (omega arith, omega arith, omega arith)
steps-grow frames now next old new before after (an_exchange victim away full greatest moved counted) = subst (Grows before) (sym counted) (omega arith, omega arith, omega arith)

-- the same keys are the same
pub unmoved : (old new : Keys) → new.keys ≡ old.keys → keys_of new ≡ keys_of old
unmoved old new same = λ j. record { has = λ key. list_any (is_at (nat_cmp key)) (same j); count = length (same j) }
