use Rattle.std.proofs.Common.{◌≡◌, ℕ, suc, ◌+◌, ◌<◌, ◌≤◌, get_or, eqb, if◌then◌else◌}
use Rattle.bp_replacer.proofs.histories.shift.Given as goal

-- the stamps from place i on are those that stood one place before them, and the others have not moved yet
abbrev pub invariant-loop-i : goal.invariant-loop-i
invariant-loop-i l = record {
  positive : 1 ≤ l.i;
  in_range : l.i ≤ l.k;
  moved : (n : ℕ) → l.i ≤ suc n → suc n < l.k → get_or l.stamps (suc n) 0 ≡ (if eqb (get_or l.initial.stamps n 0) 0 then 0 else get_or l.initial.stamps n 0 + l.width);
  kept : (n : ℕ) → n < l.i → get_or l.stamps n 0 ≡ get_or l.initial.stamps n 0;
}

abbrev pub decreases-loop-i : goal.decreases-loop-i
decreases-loop-i l = l.i
