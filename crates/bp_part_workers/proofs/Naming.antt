-- The names of the parts are those of the marks and the rings that were made.
use Rattle.std.proofs.Common.{◌≡◌, sym, ap, subst, ℕ, ◌<◌, All, List, [], length, map, slice_index_or}
use Rattle.std.proofs.lemmas.List.{get_or-map}
use Rattle.bp_trail.specs.Parameters.{Parameters}
use Rattle.bp_core.specs.CoreView.{CoreView}
use Rattle.bp_mark.specs.Marks.{no_mark}
use Rattle.bp_shared.specs.declared.parts.Parts.{Parts}
use Rattle.bp_shared.specs.Locked.{no_parameters}
use Rattle.bp_shared.specs.Taking.{no_ring}
use Rattle.bp_parts.specs.Making.{AreNamed, IsNewCore, IsUnnamed}

abbrev pub no_core : CoreView
no_core = record { parameters = no_parameters; before = []; past = [] }

-- the parameters of the first core are those of all
pub first_parameters : (p : Parameters) (cores : List CoreView) → All (IsNewCore p) cores → 0 < length cores → (slice_index_or cores 0 no_core).parameters ≡ p
first_parameters p cores are some = ap (λ (c : CoreView). c.parameters) (are 0 no_core some)

pub are_named : (clients own : ℕ) (names : List Parts) → All (IsUnnamed clients) names → own ≡ clients → AreNamed (λ i. slice_index_or (map (λ (p : Parts). p.mark) names) i no_mark) (λ i. slice_index_or (map (λ (p : Parts). p.ring) names) i no_ring) own names
are_named clients own names are same i d below = record {
  mark_is = sym (get_or-map (λ (p : Parts). p.mark) names i d no_mark below);
  ring_is = sym (get_or-map (λ (p : Parts). p.ring) names i d no_ring below);
  unnamed = subst (λ n. IsUnnamed n (slice_index_or names i d)) (sym same) (are i d below);
}

-- cores that are new with some parameters are so with the first one's
pub new_cores_are : (p : Parameters) (cores : List CoreView) → All (IsNewCore p) cores → 0 < length cores → All (IsNewCore (slice_index_or cores 0 no_core).parameters) cores
new_cores_are p cores are some = subst (λ q. All (IsNewCore q) cores) (sym (first_parameters p cores are some)) are
