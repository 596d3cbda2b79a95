-- A pass over a tree of winners: it copies block by block, and then goes from the last node to the root.
use Rattle.std.proofs.Common.{◌≡◌, ◌≢◌, ◌⊎◌, ℕ, ◌+◌, ◌*◌, ◌<◌, ◌≤◌, Bool, true, false, List, length, set, Option, Some, None, refl, sym, ap, ◌∙◌, subst, inl, inr, arith}
use Rattle.std.proofs.lemmas.Bool.{cases_eq}
use Rattle.std.proofs.lemmas.List.{length-set, get_or-set_same, get_or-set_other, get_or_past}
use Rattle.bp_references.specs.Candidates.{Candidate}
use Rattle.bp_replacer.specs.Seats.{winner, seat_at}
use Rattle.bp_replacer.specs.Tree.{blocks, node, HasLeaves, IsWon, IsFromBelow, IsTournament}
use Rattle.bp_replacer.specs.Replay.{IsWonFrom}
use Rattle.bp_replacer.specs.Young.{since, AreYoung, IsLater, WaitsAnew, AreAnew, IsKnown}
use Rattle.bp_replacer.proofs.TreeLaws.{node_changed, node_kept, leaves_kept, IsRenewed}
use Rattle.bp_replacer.proofs.YoungLaws.{later_others, later_length}

-- before the first step
pub none_yet : (nodes : List ℕ) (seats : List (Option Candidate)) (at : ℕ) → HasLeaves nodes seats → blocks (length seats) ≤ at → IsWonFrom nodes seats at
none_yet nodes seats at leaves past = record {
  leaves = leaves;
  from_below = λ i le from lt. absurd (omega arith);
  won = λ i le from lt. absurd (omega arith);
}

-- after the last one
pub won_from_root : (nodes : List ℕ) (seats : List (Option Candidate)) (at : ℕ) → at < 2 → IsWonFrom nodes seats at → IsTournament nodes seats
won_from_root nodes seats at root w = record {
  leaves = w.leaves;
  from_below = λ i le lt. w.from_below i le (omega arith) lt;
  won = λ i le lt. w.won i le (omega arith) lt;
}

-- one more node got the winner of the two below it
module _ (nodes : List ℕ) (seats : List (Option Candidate)) (more at found : ℕ) (next : at + 1 ≡ more) (some : 1 ≤ at) (inside : at < blocks (length seats)) (w : IsWonFrom nodes seats more) (renewed : IsRenewed nodes seats at found) where
  kept : (k : ℕ) → k ≢ at → node (set nodes at found) k ≡ node nodes k
  kept k apart = node_kept nodes at found k apart

  own : node (set nodes at found) at ≡ found
  own = node_changed nodes at found (omega (arith, w.leaves.size))

  own_had : IsFromBelow (set nodes at found) at
  own_had = elim renewed.had [
    | inl left ↦ inl (kept (2 * at) (omega arith) ∙ left ∙ sym own)
    | inr right ↦ inr (kept (2 * at + 1) (omega arith) ∙ right ∙ sym own)
  ]

  own_won : IsWon (set nodes at found) seats at
  own_won =
      ap (seat_at seats) own ∙ renewed.won
      ∙ (λ j. winner (seat_at seats (sym (kept (2 * at) (omega arith)) j)) (seat_at seats (sym (kept (2 * at + 1) (omega arith)) j)))

  pub won_next : IsWonFrom (set nodes at found) seats at
  won_next = record {
    leaves = leaves_kept nodes seats at found inside w.leaves;
    from_below = λ i le from lt. elim (cases_eq i at) [
      | inl here ↦ subst (IsFromBelow (set nodes at found)) (sym here) own_had
      | inr apart ↦ elim (w.from_below i le (omega arith) lt) [
        | inl left ↦ inl (kept (2 * i) (omega arith) ∙ left ∙ sym (kept i apart))
        | inr right ↦ inr (kept (2 * i + 1) (omega arith) ∙ right ∙ sym (kept i apart))
      ]
    ];
    won = λ i le from lt. elim (cases_eq i at) [
      | inl here ↦ subst (IsWon (set nodes at found) seats) (sym here) own_won
      | inr apart ↦
          ap (seat_at seats) (kept i apart) ∙ w.won i le (omega arith) lt
          ∙ (λ j. winner (seat_at seats (sym (kept (2 * i) (omega arith)) j)) (seat_at seats (sym (kept (2 * i + 1) (omega arith)) j)))
    ];
  }

-- ---- one seat is copied, or waits

module _ (known known' seats : List (Option Candidate)) (times times' : List ℕ) (seat time : ℕ) (waits : Bool) (kept : Option Candidate) (lt : seat < length seats) (len : length known ≡ length seats) (many : length times ≡ length seats) (none : since times seat ≡ 0) (put : known' ≡ set known seat kept) (young : waits ≡ true → AreYoung (since times' seat) (seat_at seats seat)) (refused : waits ≡ false → times' ≡ times) (later : IsLater time seat times times') (which : ((waits ≡ true) × (kept ≡ None)) ⊎ ((waits ≡ false) × (kept ≡ seat_at seats seat))) where
  own_seat : seat_at known' seat ≡ kept
  own_seat = ap (λ ss. seat_at ss seat) put ∙ get_or-set_same known seat kept None (omega (arith, len, lt))

  pub copy_apart : (k : ℕ) → k ≢ seat → seat_at known' k ≡ seat_at known k
  copy_apart k other = ap (λ ss. seat_at ss k) put ∙ get_or-set_other known seat k kept None other

  pub copy_length : length known' ≡ length seats
  copy_length = ap length put ∙ length-set known seat kept ∙ len

  -- who waits is young, and who does not wait is none
  nobody_else : waits ≡ true → since times' seat ≡ 0 → (here : Option Candidate) → seat_at seats seat ≡ here → None ≡ here
  nobody_else waited zero_there None is = refl
  nobody_else waited zero_there (Some x) is = (let some = (young waited x is).some in absurd (omega (arith, some, zero_there)))

  own_known : IsKnown (seat_at known' seat) (since times' seat) (seat_at seats seat)
  own_known = elim which [
    | inl waited ↦ (λ zero_there. own_seat ∙ waited.1 ∙ nobody_else waited.0 zero_there (seat_at seats seat) refl, λ some. own_seat ∙ waited.1)
    | inr stays ↦ (λ zero_there. own_seat ∙ stays.1, λ some. absurd (omega (arith, some, none, ap (λ ts. since ts seat) (refused stays.0))))
  ]

  own_anew : WaitsAnew time (since times' seat) (seat_at seats seat)
  own_anew = elim which [
    | inl waited ↦ elim later.times_are [
      | inl same ↦ inl (ap (λ ts. since ts seat) same ∙ none)
      | inr one ↦ inr (omega (arith, later.late, ap (λ ts. since ts seat) one ∙ get_or-set_same times seat later.from 0 (omega (arith, many, lt))), young waited.0)
    ]
    | inr stays ↦ inl (ap (λ ts. since ts seat) (refused stays.0) ∙ none)
  ]

  pub copy_anew : AreAnew time times seats → AreAnew time times' seats
  copy_anew a = record {
    as_many = later_length time seat times times' later ∙ many;
    anew = λ k. elim (cases_eq k seat) [
      | inl is ↦ subst (λ n. WaitsAnew time (since times' n) (seat_at seats n)) (sym is) own_anew
      | inr other ↦ subst (λ n. WaitsAnew time n (seat_at seats k)) (sym (later_others time seat times times' later k other)) (a.anew k)
    ];
  }

  pub copy_known : (from : ℕ) → ((k : ℕ) → from ≤ k → k < seat → IsKnown (seat_at known k) (since times k) (seat_at seats k)) → (k : ℕ) → from ≤ k → k < seat + 1 → IsKnown (seat_at known' k) (since times' k) (seat_at seats k)
  copy_known from is k le less = elim (cases_eq k seat) [
    | inl here ↦ subst (λ n. IsKnown (seat_at known' n) (since times' n) (seat_at seats n)) (sym here) own_known
    | inr other ↦ rw (copy_apart k other, later_others time seat times times' later k other) (is k le (omega arith))
  ]

-- at a number past the seats
pub known_past : (known seats : List (Option Candidate)) (times : List ℕ) (k : ℕ) → length known ≡ length seats → length seats ≤ k → IsKnown (seat_at known k) (since times k) (seat_at seats k)
known_past known seats times k len past = (λ _. get_or_past known k None (omega (arith, len)) ∙ sym (get_or_past seats k None past), λ _. get_or_past known k None (omega (arith, len)))
