-- A tree of winners over blocks of seats: what its nodes know is right.
use Rattle.std.proofs.Common.{◌≡◌, ◌≢◌, ◌⊎◌, ℕ, zero, suc, ◌+◌, ◌*◌, ◌-◌, ◌/◌, ◌<◌, ◌≤◌, true, List, length, set, Option, Some, None, refl, sym, ap, ◌∙◌, subst, inl, inr, arith}
use Rattle.std.proofs.lemmas.Bool.{cases_eq, cases_lt}
use Rattle.std.proofs.lemmas.List.{get_or-set_same, get_or-set_other, get_or_past, length-set}
use Rattle.bp_references.specs.Candidates.{Candidate}
use Rattle.bp_replacer.specs.Seats.{winner, seat_at, LeadsAll, IsFirst}
use Rattle.bp_replacer.specs.Tree.{blocks, is_aged, node, IsFirstOfBlock, IsFirstBut, IsFirstIn, HasLeaves, IsWon, IsFromBelow, IsTournament, above, IsBelow, leaf_of, IsFirstBelow}
use Rattle.bp_replacer.specs.Replay.{IsUntold, IsWonUpTo}
use Rattle.bp_replacer.proofs.SeatLaws.{winner_is, winner_swapped, leads_left, leads_right, leads_later, seat_within}
use Rattle.bp_replacer.proofs.BlockLaws.{nobody_before, aged_some}

-- ---- above and below

above_half : (steps i : ℕ) → above steps (i / 2) ≡ above steps i / 2
above_half zero i = refl
above_half (suc steps) i = ap (λ k. k / 2) (above_half steps i)

above_less : (steps i : ℕ) → above steps i ≤ i
above_less zero i = omega arith
above_less (suc steps) i = omega (arith, above_less steps i)

-- all stand below the node 1
below_root : (fuel i : ℕ) → 1 ≤ i → i ≤ fuel → IsBelow 1 i
below_root zero i le enough = absurd (omega arith)
below_root (suc fuel) i le enough = elim (cases_eq i 1) [
  | inl one ↦ (zero, one)
  | inr more ↦ (let up = below_root fuel (i / 2) (omega arith) (omega arith) in (suc up.0, sym (above_half up.0 i) ∙ up.1))
]

-- what stands below a node, and is not that node, stands below one of the two under it
below_either : (i j : ℕ) → IsBelow i j → i ≢ j → IsBelow (2 * i) j ⊎ IsBelow (2 * i + 1) j
below_either i j b other = go b.0 b.1
  where
    go : (steps : ℕ) → above steps j ≡ i → IsBelow (2 * i) j ⊎ IsBelow (2 * i + 1) j
    go zero is = absurd (other (sym is))
    go (suc steps) is = elim (cases_eq (above steps j) (2 * i)) [
      | inl even ↦ inl (steps, even)
      | inr odd ↦ inr (steps, omega arith)
    ]

below_left : (i j : ℕ) → IsBelow (2 * i) j → IsBelow i j
below_left i j b = (suc b.0, (let up = b.1 in omega arith))

below_right : (i j : ℕ) → IsBelow (2 * i + 1) j → IsBelow i j
below_right i j b = (suc b.0, (let up = b.1 in omega arith))

-- no leaf stands below another
below_leaf : (n i j : ℕ) → n ≤ i → j < 2 * n → IsBelow i j → i ≡ j
below_leaf n i j le lt b = go b.0 b.1
  where
    go : (steps : ℕ) → above steps j ≡ i → i ≡ j
    go zero is = sym is
    go (suc steps) is = absurd (omega (arith, above_less steps j))

-- ---- up from a seat

-- each step halves
way_falls : (few more j : ℕ) → few < more → above more j ≤ above few j / 2
way_falls few zero j lt = absurd (omega arith)
way_falls few (suc more) j lt = elim (cases_eq few more) [
  | inl is ↦ subst (λ k. above k j / 2 ≤ above few j / 2) is (omega arith)
  | inr apart ↦ omega (arith, way_falls few more j (omega arith))
]

-- ---- the nodes

-- a node is changed
pub node_changed : (nodes : List ℕ) (at w : ℕ) → at < length nodes → node (set nodes at w) at ≡ w
node_changed nodes at w lt = get_or-set_same nodes at w 0 lt

pub node_kept : (nodes : List ℕ) (at w i : ℕ) → i ≢ at → node (set nodes at w) i ≡ node nodes i
node_kept nodes at w i other = get_or-set_other nodes at i w 0 other

-- ---- the leaves

pub block_within : (n k : ℕ) → k < n → k / 16 < blocks n
unfolding blocks
block_within n k lt = omega arith

pub block_some : (n : ℕ) → 1 ≤ blocks n
unfolding blocks
block_some n = omega arith

pub leaf_first : (nodes : List ℕ) (seats : List (Option Candidate)) (i : ℕ) → HasLeaves nodes seats → blocks (length seats) ≤ i → i < 2 * blocks (length seats) → IsFirstOfBlock seats (i - blocks (length seats)) (node nodes i)
leaf_first nodes seats i l ge lt =
    let place : blocks (length seats) + (i - blocks (length seats)) ≡ i = omega arith in
    subst (λ j. IsFirstOfBlock seats (i - blocks (length seats)) (node nodes j)) place (l.firsts (i - blocks (length seats)) (omega arith))

-- another node is changed
pub leaves_kept : (nodes : List ℕ) (seats : List (Option Candidate)) (at w : ℕ) → at < blocks (length seats) → HasLeaves nodes seats → HasLeaves (set nodes at w) seats
leaves_kept nodes seats at w lt l = record {
  size = length-set nodes at w ∙ l.size;
  firsts = λ b inside. subst (IsFirstOfBlock seats b) (sym (node_kept nodes at w (blocks (length seats) + b) (omega arith))) (l.firsts b inside);
}

-- nothing is changed in a block
pub first_elsewhere : (seats seats' : List (Option Candidate)) (b s : ℕ) → length seats' ≡ length seats → ((k : ℕ) → k / 16 ≡ b → seat_at seats' k ≡ seat_at seats k) → IsFirstOfBlock seats b s → IsFirstOfBlock seats' b s
first_elsewhere seats seats' b s len same f = record {
  inside = λ lt. f.inside (omega (arith, len));
  first = λ k here. (λ j. winner (own j) (same k here j)) ∙ f.first k here ∙ sym own;
}
  where
    own : seat_at seats' s ≡ seat_at seats s
    own = elim (cases_lt s (length seats)) [
      | inl lt ↦ same s (f.inside lt)
      | inr ge ↦ get_or_past seats' s None (omega (arith, len)) ∙ sym (get_or_past seats s None ge)
    ]

-- only nodes above a seat have its number, if those below the node `up` have what they have from below
had_on_way : (nodes : List ℕ) (seats : List (Option Candidate)) (seat up : ℕ) → seat < length seats → HasLeaves nodes seats → IsBelow up (leaf_of seats seat) → ((i : ℕ) → 1 ≤ i → i < blocks (length seats) → i ≢ up → IsFromBelow nodes i) → (fuel i : ℕ) → 1 ≤ i → i < 2 * blocks (length seats) → 2 * blocks (length seats) ≤ i + fuel → node nodes i ≡ seat → IsBelow i (leaf_of seats seat)
had_on_way nodes seats seat up lt leaves on_way from_below zero i le in_range enough has = absurd (omega arith)
had_on_way nodes seats seat up lt leaves on_way from_below (suc fuel) i le in_range enough has = elim (cases_lt i (blocks (length seats))) [
  | inr ge ↦ (let inside = (leaf_first nodes seats i leaves ge in_range).inside (omega (arith, has)) in (zero, omega (arith, inside, ap (λ k. k / 16) has)))
  | inl inner ↦ elim (cases_eq i up) [
    | inl is ↦ subst (λ k. IsBelow k (leaf_of seats seat)) (sym is) on_way
    | inr apart ↦ elim (from_below i le inner apart) [
      | inl left ↦ below_left i (leaf_of seats seat) (had_on_way nodes seats seat up lt leaves on_way from_below fuel (2 * i) (omega arith) (omega arith) (omega arith) (left ∙ has))
      | inr right ↦ below_right i (leaf_of seats seat) (had_on_way nodes seats seat up lt leaves on_way from_below fuel (2 * i + 1) (omega arith) (omega arith) (omega arith) (right ∙ has))
    ]
  ]
]

-- ---- a change of one seat goes up

-- a node got the winner of the two below it
pub record IsRenewed (nodes : List ℕ) (seats : List (Option Candidate)) (i w : ℕ) : Type 0 where
  pub had : (node nodes (2 * i) ≡ w) ⊎ (node nodes (2 * i + 1) ≡ w)
  pub won : seat_at seats w ≡ winner (seat_at seats (node nodes (2 * i))) (seat_at seats (node nodes (2 * i + 1)))

-- with no node above, all are won
pub won_at_root : (nodes : List ℕ) (seats : List (Option Candidate)) (seat at : ℕ) → at < 2 → IsWonUpTo nodes seats seat at → IsTournament nodes seats
won_at_root nodes seats seat at root w = record {
  leaves = w.leaves;
  from_below = λ i le lt. w.from_below i le lt (omega arith);
  won = λ i le lt. w.won i le lt (omega arith) (inl (omega arith));
}

-- a seat is changed
module _ (nodes : List ℕ) (seats seats' : List (Option Candidate)) (seat : ℕ) (in_range : seat < length seats) (t : IsTournament nodes seats) (len : length seats' ≡ length seats) (others : (k : ℕ) → k ≢ seat → seat_at seats' k ≡ seat_at seats k) where
  abbrev leaf : ℕ
  leaf = leaf_of seats' seat

  same_blocks : blocks (length seats') ≡ blocks (length seats)
  same_blocks = ap blocks len

  leaf_within : leaf < length nodes
  leaf_within = omega (arith, same_blocks, t.leaves.size, block_within (length seats) seat in_range)

  -- the first that its block had, and this seat was not it
  pub first_before_put : IsFirstBut seats' seat (node nodes leaf)
  first_before_put = record {
    inside = λ lt. known.inside (omega (arith, len));
    first = λ k here other apart. (λ j. winner (others (node nodes leaf) apart j) (others k other j)) ∙ known.first k here ∙ sym (others (node nodes leaf) apart);
  }
    where
      known : IsFirstOfBlock seats (seat / 16) (node nodes leaf)
      known = subst (λ n. IsFirstOfBlock seats (seat / 16) (node nodes (n + seat / 16))) (sym same_blocks) (t.leaves.firsts (seat / 16) (block_within (length seats) seat in_range))

  -- another leaf is right still
  other_leaf : (b : ℕ) → b < blocks (length seats') → b ≢ seat / 16 → IsFirstOfBlock seats' b (node nodes (blocks (length seats') + b))
  other_leaf b lt apart = subst (λ n. IsFirstOfBlock seats' b (node nodes (n + b))) (sym same_blocks) (first_elsewhere seats seats' b (node nodes (blocks (length seats) + b)) len (λ k here. others k (λ is. apart (sym here ∙ ap (λ n. n / 16) is))) (t.leaves.firsts b (omega (arith, same_blocks))))

  -- so is a node that was not told of the seat
  still_won : (i : ℕ) → 1 ≤ i → i < blocks (length seats') → IsUntold nodes seat i → IsWon nodes seats' i
  still_won i le lt untold =
      let own : node nodes i ≢ seat = λ has. elim (t.from_below i le (omega (arith, same_blocks))) [ inl left ↦ untold.0 (left ∙ has) | inr right ↦ untold.1 (right ∙ has) ] in
      others (node nodes i) own ∙ t.won i le (omega (arith, same_blocks))
      ∙ (λ j. winner (sym (others (node nodes (2 * i)) untold.0) j) (sym (others (node nodes (2 * i + 1)) untold.1) j))

  module _ (found : ℕ) (first : IsFirstOfBlock seats' (seat / 16) found) where
    leaves_put : HasLeaves (set nodes leaf found) seats'
    leaves_put = record {
      size = length-set nodes leaf found ∙ t.leaves.size ∙ sym (ap (λ n. 2 * n) same_blocks);
      firsts = λ b lt. elim (cases_eq b (seat / 16)) [
        | inl is ↦ subst (λ c. IsFirstOfBlock seats' c (node (set nodes leaf found) (blocks (length seats') + c))) (sym is) (subst (IsFirstOfBlock seats' (seat / 16)) (sym (node_changed nodes leaf found leaf_within)) first)
        | inr apart ↦ subst (IsFirstOfBlock seats' b) (sym (node_kept nodes leaf found (blocks (length seats') + b) (omega arith))) (other_leaf b lt apart)
      ];
    }

    pub won_put : IsWonUpTo (set nodes leaf found) seats' seat leaf
    won_put = record {
      leaves = leaves_put;
      on_way = (zero, refl);
      from_below = λ i le lt apart. elim (t.from_below i le (omega (arith, same_blocks))) [
        | inl left ↦ inl (kept (2 * i) (omega arith) ∙ left ∙ sym (kept i (omega arith)))
        | inr right ↦ inr (kept (2 * i + 1) (omega arith) ∙ right ∙ sym (kept i (omega arith)))
      ];
      won = λ i le lt apart why. elim why [
        | inl past ↦ absurd (omega arith)
        | inr untold ↦
            ap (seat_at seats') (kept i (omega arith))
            ∙ still_won i le lt (λ has. untold.0 (kept (2 * i) (omega arith) ∙ has), λ has. untold.1 (kept (2 * i + 1) (omega arith) ∙ has))
            ∙ (λ j. winner (seat_at seats' (sym (kept (2 * i) (omega arith)) j)) (seat_at seats' (sym (kept (2 * i + 1) (omega arith)) j)))
      ];
    }
      where
        kept : (k : ℕ) → k ≢ leaf → node (set nodes leaf found) k ≡ node nodes k
        kept k apart = node_kept nodes leaf found k apart

    -- the leaf has this number already, and it is not that of the seat: so no node has that
    pub won_already : found ≡ node nodes leaf → found ≢ seat → IsTournament nodes seats'
    won_already same unknown = record {
      leaves = record {
        size = t.leaves.size ∙ sym (ap (λ n. 2 * n) same_blocks);
        firsts = λ b lt. elim (cases_eq b (seat / 16)) [
          | inl is ↦ subst (λ c. IsFirstOfBlock seats' c (node nodes (blocks (length seats') + c))) (sym is) (subst (IsFirstOfBlock seats' (seat / 16)) same first)
          | inr apart ↦ other_leaf b lt apart
        ];
      };
      from_below = λ i le lt. t.from_below i le (omega (arith, same_blocks));
      won = λ i le lt. still_won i le lt (none_has (2 * blocks (length seats)) (2 * i) (omega arith) (omega (arith, same_blocks)) (omega arith), none_has (2 * blocks (length seats)) (2 * i + 1) (omega arith) (omega (arith, same_blocks)) (omega arith));
    }
      where
        none_has : (fuel i : ℕ) → 1 ≤ i → i < 2 * blocks (length seats) → 2 * blocks (length seats) ≤ i + fuel → node nodes i ≢ seat
        none_has zero i le lt enough has = absurd (omega arith)
        none_has (suc fuel) i le lt enough has = elim (cases_lt i (blocks (length seats))) [
          | inr ge ↦
              let inside = (leaf_first nodes seats i t.leaves ge lt).inside (omega (arith, has)) in
              let here : i ≡ leaf = omega (arith, inside, ap (λ k. k / 16) has, same_blocks) in
              unknown (same ∙ ap (node nodes) (sym here) ∙ has)
          | inl inner ↦ elim (t.from_below i le inner) [
            | inl left ↦ none_has fuel (2 * i) (omega arith) (omega arith) (omega arith) (left ∙ has)
            | inr right ↦ none_has fuel (2 * i + 1) (omega arith) (omega arith) (omega arith) (right ∙ has)
          ]
        ]

module _ (nodes : List ℕ) (seats : List (Option Candidate)) (seat at : ℕ) (in_range : seat < length seats) (some : 2 ≤ at) (below : at < 2 * blocks (length seats)) (w : IsWonUpTo nodes seats seat at) where
  abbrev way : ℕ → ℕ
  way steps = above steps (leaf_of seats seat)

  up_on_way : IsBelow (at / 2) (leaf_of seats seat)
  up_on_way = (suc w.on_way.0, ap (λ k. k / 2) w.on_way.1)

  leaf_in : leaf_of seats seat < 2 * blocks (length seats)
  leaf_in = omega (arith, block_within (length seats) seat in_range)

  on_way : (c : ℕ) → 1 ≤ c → c < 2 * blocks (length seats) → node nodes c ≡ seat → IsBelow c (leaf_of seats seat)
  on_way c le range has = had_on_way nodes seats seat (at / 2) in_range w.leaves up_on_way w.from_below (2 * blocks (length seats)) c le range (omega arith) has

  -- the node above is made so
  pub won_up : (found : ℕ) → IsRenewed nodes seats (at / 2) found → IsWonUpTo (set nodes (at / 2) found) seats seat (at / 2)
  won_up found renewed = record {
    leaves = leaves_kept nodes seats (at / 2) found (omega arith) w.leaves;
    on_way = up_on_way;
    from_below = λ i le lt other. elim (cases_eq i (at / 2)) [
      | inl here ↦ subst (IsFromBelow (set nodes (at / 2) found)) (sym here) own_had
      | inr apart ↦ elim (w.from_below i le lt apart) [
        | inl left ↦ inl (kept (2 * i) (omega arith) ∙ left ∙ sym (kept i apart))
        | inr right ↦ inr (kept (2 * i + 1) (omega arith) ∙ right ∙ sym (kept i apart))
      ]
    ];
    won = λ i le lt other why. elim (cases_eq i (at / 2)) [
      | inl here ↦ subst (IsWon (set nodes (at / 2) found) seats) (sym here) own_won
      | inr apart ↦
          ap (seat_at seats) (kept i apart) ∙ w.won i le lt apart (reason i le lt apart (omega arith) (omega arith) why)
          ∙ (λ j. winner (seat_at seats (sym (kept (2 * i) (omega arith)) j)) (seat_at seats (sym (kept (2 * i + 1) (omega arith)) j)))
    ];
  }
    where
      kept : (k : ℕ) → k ≢ at / 2 → node (set nodes (at / 2) found) k ≡ node nodes k
      kept k apart = node_kept nodes (at / 2) found k apart

      own : node (set nodes (at / 2) found) (at / 2) ≡ found
      own = node_changed nodes (at / 2) found (omega (arith, w.leaves.size))

      own_had : IsFromBelow (set nodes (at / 2) found) (at / 2)
      own_had = elim renewed.had [
        | inl left ↦ inl (kept (2 * (at / 2)) (omega arith) ∙ left ∙ sym own)
        | inr right ↦ inr (kept (2 * (at / 2) + 1) (omega arith) ∙ right ∙ sym own)
      ]

      own_won : IsWon (set nodes (at / 2) found) seats (at / 2)
      own_won =
          ap (seat_at seats) own ∙ renewed.won
          ∙ (λ j. winner (seat_at seats (sym (kept (2 * (at / 2)) (omega arith)) j)) (seat_at seats (sym (kept (2 * (at / 2) + 1) (omega arith)) j)))

      -- what stands between the two is not above the seat
      between : (i c : ℕ) → 1 ≤ i → c / 2 ≡ i → c < 2 * blocks (length seats) → at / 2 < i → i < at → node nodes c ≡ seat → ⊥
      between i c le half range more less has =
          let on = on_way c (omega arith) range has in
          elim (cases_lt on.0 w.on_way.0) [
            | inl lt ↦ omega (arith, way_falls on.0 w.on_way.0 (leaf_of seats seat) lt, on.1, w.on_way.1)
            | inr ge ↦ elim (cases_eq w.on_way.0 on.0) [
              | inl is ↦ (let same : at ≡ c = sym w.on_way.1 ∙ ap way is ∙ on.1 in omega arith)
              | inr apart ↦ omega (arith, way_falls w.on_way.0 on.0 (leaf_of seats seat) (omega arith), on.1, w.on_way.1)
            ]
          ]

      reason : (i : ℕ) → 1 ≤ i → i < blocks (length seats) → i ≢ at / 2 → 2 * i ≢ at / 2 → 2 * i + 1 ≢ at / 2 → (at / 2 ≤ i) ⊎ IsUntold (set nodes (at / 2) found) seat i → (at ≤ i) ⊎ IsUntold nodes seat i
      reason i le lt apart left right (inr untold) = inr (λ has. untold.0 (kept (2 * i) left ∙ has), λ has. untold.1 (kept (2 * i + 1) right ∙ has))
      reason i le lt apart left right (inl from) = elim (cases_lt i at) [
        | inr past ↦ inl past
        | inl less ↦ inr (between i (2 * i) le (omega arith) (omega arith) (omega arith) less, between i (2 * i + 1) le (omega arith) (omega arith) (omega arith) less)
      ]

  -- the node above has this number already, and it is not that of the seat: so no node above it has that either
  pub won_settled : (found : ℕ) → IsRenewed nodes seats (at / 2) found → node nodes (at / 2) ≡ found → found ≢ seat → IsTournament nodes seats
  won_settled found renewed same unknown = record {
    leaves = w.leaves;
    from_below = from_below;
    won = λ i le lt. elim (cases_eq i (at / 2)) [
      | inl here ↦ subst (IsWon nodes seats) (sym here) (ap (seat_at seats) same ∙ renewed.won)
      | inr apart ↦ w.won i le lt apart (elim (cases_lt i at) [
        | inr past ↦ inl past
        | inl less ↦ inr (untold i (2 * i) le (omega arith) (omega arith) apart less, untold i (2 * i + 1) le (omega arith) (omega arith) apart less)
      ])
    ];
  }
    where
      from_below : (i : ℕ) → 1 ≤ i → i < blocks (length seats) → IsFromBelow nodes i
      from_below i le lt = elim (cases_eq i (at / 2)) [
        | inl here ↦ subst (IsFromBelow nodes) (sym here) (elim renewed.had [ inl left ↦ inl (left ∙ sym same) | inr right ↦ inr (right ∙ sym same) ])
        | inr apart ↦ w.from_below i le lt apart
      ]

      -- of the nodes on the way, the one below
      next_on_way : (steps c : ℕ) → 1 ≤ way (suc steps) → c / 2 ≡ way (suc steps) → c < 2 * blocks (length seats) → node nodes c ≡ seat → node nodes (way steps) ≡ seat
      next_on_way steps c le half range has =
          let on = on_way c (omega arith) range has in
          elim (cases_lt on.0 steps) [
            | inl lt ↦ absurd (omega (arith, way_falls on.0 steps (leaf_of seats seat) lt, on.1))
            | inr ge ↦ elim (cases_eq on.0 steps) [
              | inl is ↦ subst (λ k. node nodes k ≡ seat) (sym on.1 ∙ ap way is) has
              | inr apart ↦ absurd (omega (arith, way_falls steps on.0 (leaf_of seats seat) (omega arith), on.1))
            ]
          ]

      never : (steps : ℕ) → w.on_way.0 < steps → 1 ≤ way steps → node nodes (way steps) ≢ seat
      never zero lt le has = absurd (omega arith)
      never (suc steps) lt le has = elim (cases_eq w.on_way.0 steps) [
        | inl is ↦ unknown (sym same ∙ subst (λ k. node nodes k ≡ seat) (ap (λ k. way k / 2) (sym is) ∙ ap (λ k. k / 2) w.on_way.1) has)
        | inr apart ↦ never steps (omega arith) (omega arith) (elim (from_below (way (suc steps)) le (omega (arith, way_falls zero (suc steps) (leaf_of seats seat) (omega arith), leaf_in))) [
          | inl left ↦ next_on_way steps (2 * way (suc steps)) le (omega arith) (omega (arith, way_falls zero (suc steps) (leaf_of seats seat) (omega arith), leaf_in)) (left ∙ has)
          | inr right ↦ next_on_way steps (2 * way (suc steps) + 1) le (omega arith) (omega (arith, way_falls zero (suc steps) (leaf_of seats seat) (omega arith), leaf_in)) (right ∙ has)
        ])
      ]

      untold : (i c : ℕ) → 1 ≤ i → c / 2 ≡ i → c < 2 * blocks (length seats) → i ≢ at / 2 → i < at → node nodes c ≢ seat
      untold i c le half range apart less has =
          let on = on_way c (omega arith) range has in
          elim (cases_lt w.on_way.0 on.0) [
            | inl lt ↦ never on.0 lt (omega (arith, on.1)) (subst (λ k. node nodes k ≡ seat) (sym on.1) has)
            | inr ge ↦ elim (cases_eq on.0 w.on_way.0) [
              | inl is ↦ (let same_node : at ≡ c = sym w.on_way.1 ∙ ap way (sym is) ∙ on.1 in apart (omega arith))
              | inr before ↦ omega (arith, way_falls on.0 w.on_way.0 (leaf_of seats seat) (omega arith), on.1, w.on_way.1)
            ]
          ]

-- of two nodes beside one another
pub renewed_beside : (nodes : List ℕ) (seats : List (Option Candidate)) (at other found : ℕ) → at + other ≡ 4 * (at / 2) + 1 → (found ≡ node nodes at) ⊎ (found ≡ node nodes other) → seat_at seats found ≡ winner (seat_at seats (node nodes at)) (seat_at seats (node nodes other)) → IsRenewed nodes seats (at / 2) found
renewed_beside nodes seats at other found are had won = elim (cases_eq (2 * (at / 2)) at) [
  | inl even ↦
      let right : other ≡ 2 * (at / 2) + 1 = omega arith in
      record {
        had = elim had [ inl a ↦ inl (ap (node nodes) even ∙ sym a) | inr b ↦ inr (ap (node nodes) (sym right) ∙ sym b) ];
        won = won ∙ (λ j. winner (seat_at seats (node nodes (sym even j))) (seat_at seats (node nodes (right j))));
      }
  | inr odd ↦
      let left : other ≡ 2 * (at / 2) = omega arith in
      let right : at ≡ 2 * (at / 2) + 1 = omega arith in
      record {
        had = elim had [ inl a ↦ inr (ap (node nodes) (sym right) ∙ sym a) | inr b ↦ inl (ap (node nodes) (sym left) ∙ sym b) ];
        won = won ∙ winner_swapped (seat_at seats (node nodes at)) (seat_at seats (node nodes other)) ∙ (λ j. winner (seat_at seats (node nodes (left j))) (seat_at seats (node nodes (right j))));
      }
]

-- ---- the first below a node

module _ (seats : List (Option Candidate)) (P : Candidate → Type 0) where
  -- of the two nodes under it
  pub first_of_both : (i : ℕ) (a b : Option Candidate) → i < blocks (length seats) → IsFirstBelow seats (2 * i) P a → IsFirstBelow seats (2 * i + 1) P b → IsFirstBelow seats i P (winner a b)
  first_of_both i a b lt left right = record {
    there = λ x is. elim (winner_is a b) [
      | inl first ↦ (let at = left.there x (sym first ∙ is) in (at.0, below_left i (leaf_of seats at.0) at.1, at.2, at.3))
      | inr first ↦ (let at = right.there x (sym first ∙ is) in (at.0, below_right i (leaf_of seats at.0) at.1, at.2, at.3))
    ];
    none_before = λ k x below is holds. elim (below_either i (leaf_of seats k) below (omega arith)) [
      | inl under ↦ leads_later (winner a b) a (Some x) (leads_left a b) (left.none_before k x under is holds)
      | inr under ↦ leads_later (winner a b) b (Some x) (leads_right a b) (right.none_before k x under is holds)
    ];
  }

  -- of a leaf
  pub first_below_leaf : (i : ℕ) (first : Option Candidate) → blocks (length seats) ≤ i → i < 2 * blocks (length seats) → IsFirstIn seats (i - blocks (length seats)) P first → IsFirstBelow seats i P first
  first_below_leaf i first ge lt f = record {
    there = λ x is. (let at = f.there x is in (at.0, (zero, omega (arith, at.1)), at.2, at.3));
    none_before = λ k x below is holds.
        let within = block_within (length seats) k (seat_within seats k x is) in
        let same : i ≡ leaf_of seats k = below_leaf (blocks (length seats)) i (leaf_of seats k) ge (omega (arith, within)) below in
        f.none_before k x (omega (arith, same)) is holds;
  }

  -- below the root stand all
  pub first_of_all : (first : Option Candidate) → IsFirstBelow seats 1 P first → IsFirst seats P first
  first_of_all first f = record {
    there = λ x is. (let at = f.there x is in (at.0, at.2, at.3));
    none_before = λ k x is holds. f.none_before k x (below_root (leaf_of seats k) (leaf_of seats k) (omega (arith, block_some (length seats))) (omega arith)) is holds;
  }

-- who comes first of some comes first of fewer, if asked for among them
first_of_fewer : (seats : List (Option Candidate)) (P Q : Candidate → Type 0) (i : ℕ) (first : Option Candidate) → ((x : Candidate) → Q x → P x) → ((x : Candidate) → first ≡ Some x → Q x) → IsFirstBelow seats i P first → IsFirstBelow seats i Q first
first_of_fewer seats P Q i first fewer holds f = record {
  there = λ x is. (let at = f.there x is in (at.0, at.1, at.2, holds x is));
  none_before = λ k x below is q. f.none_before k x below is (fewer x q);
}

-- ---- what a node has is right

-- nobody in the block comes before the first of it
first_in_block : (seats : List (Option Candidate)) (b s : ℕ) → IsFirstOfBlock seats b s → IsFirstIn seats b (λ x. Unit {0}) (seat_at seats s)
first_in_block seats b s f = record {
  there = λ x is. (s, f.inside (seat_within seats s x is), is, tt);
  none_before = λ k x here is _. ap (winner (seat_at seats s)) (sym is) ∙ f.first k here;
}

module _ (nodes : List ℕ) (seats : List (Option Candidate)) (t : IsTournament nodes seats) where
  -- the first of all
  first_known : (fuel i : ℕ) → 1 ≤ i → i < 2 * blocks (length seats) → 2 * blocks (length seats) ≤ i + fuel → IsFirstBelow seats i (λ x. Unit {0}) (seat_at seats (node nodes i))
  first_known zero i le lt enough = absurd (omega arith)
  first_known (suc fuel) i le lt enough = elim (cases_lt i (blocks (length seats))) [
    | inr ge ↦ first_below_leaf seats (λ x. Unit {0}) i (seat_at seats (node nodes i)) ge lt (first_in_block seats (i - blocks (length seats)) (node nodes i) (leaf_first nodes seats i t.leaves ge lt))
    | inl inner ↦
        let left = first_known fuel (2 * i) (omega arith) (omega arith) (omega arith) in
        let right = first_known fuel (2 * i + 1) (omega arith) (omega arith) (omega arith) in
        subst (IsFirstBelow seats i (λ x. Unit {0})) (sym (t.won i le inner)) (first_of_both seats (λ x. Unit {0}) i _ _ inner left right)
  ]

  pub root_leads : LeadsAll seats (seat_at seats (node nodes 1))
  root_leads k = go (seat_at seats k) refl
    where
      root : Option Candidate
      root = seat_at seats (node nodes 1)

      go : (e : Option Candidate) → seat_at seats k ≡ e → winner root e ≡ root
      go None is = nobody_before root
      go (Some x) is =
          let some = block_some (length seats) in
          (first_of_all seats (λ x. Unit {0}) root (first_known (2 * blocks (length seats)) 1 (omega arith) (omega (arith, some)) (omega arith))).none_before k x is tt

  -- and the first of those last referenced before a time, where it was
  pub aged_known : (i time : ℕ) → 1 ≤ i → i < 2 * blocks (length seats) → is_aged time (seat_at seats (node nodes i)) ≡ true → IsFirstBelow seats i (λ x. x.1 < time) (seat_at seats (node nodes i))
  aged_known i time le lt aged = first_of_fewer seats (λ x. Unit {0}) (λ x. x.1 < time) i (seat_at seats (node nodes i)) (λ x _. tt) (aged_some time (seat_at seats (node nodes i)) aged) (first_known (2 * blocks (length seats)) i le lt (omega arith))
