-- The log ends are raised one after the other.
use Rattle.std.proofs.Common.{◌≡◌, ◌⊎◌, inl, inr, sym, ap, ◌∙◌, ℕ, ◌+◌, ◌<◌, List, length, slice_index_or, slice_set, arith}
use Rattle.std.proofs.Math.Nat.{eq-or-lt_of_le}
use Rattle.std.proofs.lemmas.Grind.{get_or-set_at}
use Rattle.std.proofs.lemmas.List.{get_or-set_other}
use Rattle.bp_mark.specs.Marks.{MarkName, LogEndValue}
use Rattle.bp_parts.specs.Logs.{AreEndsFrom}

-- one more is
pub ends_more : (mark : ℕ → MarkName) (frontier n : ℕ) (xs : List LogEndValue) (e : LogEndValue) → n < length xs → AreEndsFrom mark frontier 0 n xs → e ≡ record { mark = mark n; frontier = frontier } → AreEndsFrom mark frontier 0 (n + 1) (slice_set xs n e)
ends_more mark frontier n xs e below are is i d from before = go (eq-or-lt_of_le (omega (arith, before)))
  where
    go : (i ≡ n) ⊎ (i < n) → slice_index_or (slice_set xs n e) i d ≡ record { mark = mark i; frontier = frontier }
    go (inl same) = get_or-set_at xs n i e d same below ∙ is ∙ ap (λ k. record { mark = mark k; frontier = frontier }) (sym same)
    go (inr less) = get_or-set_other xs n i e d (λ same. absurd (omega (arith, less, same))) ∙ are i d (omega arith) less

-- those after it are as they were
pub ends_left : (mark : ℕ → MarkName) (frontier n end : ℕ) (xs : List LogEndValue) (e : LogEndValue) → AreEndsFrom mark frontier n end xs → AreEndsFrom mark frontier (n + 1) end (slice_set xs n e)
ends_left mark frontier n end xs e are i d from before = get_or-set_other xs n i e d (λ same. absurd (omega (arith, same, from))) ∙ are i d (omega (arith, from)) before
