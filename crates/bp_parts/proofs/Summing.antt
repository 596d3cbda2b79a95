-- One part's counts more.
use Rattle.std.proofs.Common.{◌≡◌, refl, sym, ap, subst, ℕ, ◌+◌, ◌<◌, List, [], length, slice_set, arith}
use Rattle.std.proofs.lemmas.Grind.{get_or-set_at}
use Rattle.std.proofs.lemmas.List.{get_or-set_other}
use Rattle.bp_core.specs.Counts.{AreCounts}
use Rattle.bp_core.specs.declared.stats.Stats.{Stats}
use Rattle.bp_shared.specs.Sessions.{SessionValue, new_session}
use Rattle.bp_parts.specs.Redo.{seen_in}
use Rattle.bp_parts.specs.Sums.{SumsUp, both_stats}
use Rattle.bp_parts.specs.Sums.SumsUp.{none, part}

-- what the first parts count stays where they saw the same
still : (xs ys : List SessionValue) (m : ℕ) (total : Stats) → ((i : ℕ) → i < m → seen_in ys i ≡ seen_in xs i) → SumsUp xs m total → SumsUp ys m total
still xs ys m total same none = none
still xs ys m total same (part {n} {sum} own before counts) =
    part own (still xs ys n sum (λ i below. same i (omega (arith, below))) before) (subst (λ t. AreCounts t own) (sym (same n (omega arith))) counts)

pub sums_more : (n : ℕ) (xs : List SessionValue) (is : SessionValue) (sum own : Stats) → n < length xs → SumsUp xs n sum → AreCounts is.seen own → SumsUp (slice_set xs n is) (n + 1) (both_stats sum own)
sums_more n xs is sum own within before counts =
    part own
    (still xs (slice_set xs n is) n sum (λ i below. ap (λ (s : SessionValue). s.seen) (get_or-set_other xs n i is (new_session [] 0) (λ same. absurd (omega (arith, below, same))))) before)
    (subst (λ t. AreCounts t own) (sym (ap (λ (s : SessionValue). s.seen) (get_or-set_at xs n n is (new_session [] 0) refl within))) counts)
