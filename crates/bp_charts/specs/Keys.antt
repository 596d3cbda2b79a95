-- The pages in frames, each known by when it is due.
use Rattle.std.specs.Prelude.{◌≡◌, ℕ, ◌<◌, ◌≤◌, true, false}
use Rattle.std.specs.Ordering.{nat_cmp}
use Rattle.std.specs.BTreeSet.{BTreeSet, btree_set_len, contains}
use Rattle.bp_charts.specs.declared.farthest.Optimum.{Optimum}
use Rattle.bp_charts.specs.Optimum.{Held, with_one, without_one, one_hit, one_load, one_exchange}

abbrev pub keys_of : BTreeSet ℕ → Held
keys_of s = record { has = contains nat_cmp s; count = btree_set_len s }

-- the key is there, and none that is there is greater
pub record IsGreatest (keys : Held) (key : ℕ) : Type 0 where
  pub here : keys.has key ≡ true
  pub greatest : (other : ℕ) → keys.has other ≡ true → other ≤ key

-- the greatest key is gone
abbrev pub DropsLast : Held → Held → Type 0
DropsLast old new = (last : ℕ) × IsGreatest old last × (new ≡ without_one last old)

-- what becomes of the keys by a reference
pub data Steps (frames now next : ℕ) (old new : Held) (before after : Optimum) : Type 0 where
  a_hit : old.has now ≡ true → 0 < old.count → new ≡ with_one next (without_one now old)
      → after ≡ one_hit before → Steps frames now next old new before after
  a_load : old.has now ≡ false → old.count < frames → new ≡ with_one next old
      → after ≡ one_load before → Steps frames now next old new before after
  an_exchange : (victim : ℕ) → old.has now ≡ false → frames ≤ old.count → IsGreatest old victim
      → new ≡ with_one next (without_one victim old) → after ≡ one_exchange before
      → Steps frames now next old new before after
