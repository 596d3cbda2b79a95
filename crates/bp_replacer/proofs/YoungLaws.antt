-- Those who wait to come of age, apart from a tree that lags behind the others.
use Rattle.std.proofs.Common.{◌≡◌, ◌≢◌, ◌∙◌, ◌⊎◌, ℕ, zero, suc, ◌+◌, ◌<◌, ◌≤◌, nat_lt, if◌then◌else◌, true, false, List, [], ◌∷◌, length, get_or, set, replicate, Contains, Option, Some, None, refl, sym, ap, subst, inl, inr, arith}
use Rattle.std.specs.List.Sorted.{IsPermutation}
use Rattle.std.proofs.lemmas.Bool.{cases_Bool, cases_eq}
use Rattle.std.proofs.lemmas.Bool.Decides.{nat_tests}
use Rattle.std.proofs.lemmas.Option.{none-some}
use Rattle.std.proofs.lemmas.List.{get_or-set_same, get_or-set_other, get_or_past, length-set, length-replicate}
use Rattle.std.proofs.lemmas.List.Sorted.{Contains-permutation}
use Rattle.bp_references.specs.Candidates.{Candidate}
use Rattle.bp_replacer.specs.Seats.{winner, seat_at, LeadsAll, IsFirst, IsFirstAt, same_seat, Lags}
use Rattle.bp_replacer.specs.Hands.{InHand, IsFree, IsExchanged, IsHeld}
use Rattle.bp_replacer.specs.Young.{since, AreQueued, NoneBelow, AreYoung, Covers, AreCovered, IsLater, AreAnew, AreKnown, IsSettled, stray, astray}
use Rattle.bp_replacer.proofs.HandLaws.{in_hand_or_free, free_not_in_hand, exchanged_free, exchanged_apart}
use Rattle.bp_replacer.proofs.SeatLaws.{leads_left, leads_right, leads_later, winner_is, winner_from_not_before}
use Rattle.bp_replacer.proofs.LaggingLaws.{alike_seats, itself, nobody_lags, settled_lags}

-- ---- the queue

-- one that was taken out of a list, where another is looked for
left_there : (pages pages' : List (ℕ × ℕ)) (e x : ℕ × ℕ) → IsPermutation pages (e ∷ pages') → (e ≡ x → ⊥) → Contains pages x → Contains pages' x
left_there pages pages' e x taken other there = go (Contains-permutation _ _ _ taken there)
  where
    at_index : (i : ℕ) → i < length (e ∷ pages') → get_or (e ∷ pages') i x ≡ x → Contains pages' x
    at_index zero lt is = absurd (other is)
    at_index (suc i) lt is = (i, omega arith, is)

    go : Contains (e ∷ pages') x → Contains pages' x
    go there = at_index there.0 there.1 there.2

pub queued_pushed : (times : List ℕ) (pages pages' : List (ℕ × ℕ)) (seat time : ℕ) → seat < length times → AreQueued times pages → IsPermutation ((time, seat) ∷ pages) pages' → AreQueued (set times seat time) pages'
queued_pushed times pages pages' seat time lt queued pushed k waits = elim (cases_eq k seat) [
  | inl same ↦
      let is : since (set times seat time) k ≡ time = ap (since (set times seat time)) same ∙ get_or-set_same times seat time 0 lt in
      subst (λ (p : ℕ × ℕ). Contains pages' p) (λ i. (sym is i, sym same i)) (Contains-permutation _ _ _ pushed (0, omega arith, refl))
  | inr other ↦
      let is : since (set times seat time) k ≡ since times k = get_or-set_other times seat k time 0 other in
      let there = queued k (omega (arith, is, waits)) in
      subst (λ (p : ℕ × ℕ). Contains pages' p) (λ i. (sym is i, k)) (Contains-permutation _ _ _ pushed (suc there.0, omega (arith, there.1), there.2))
]

-- it waited since that time
pub queued_taken : (times : List ℕ) (pages pages' : List (ℕ × ℕ)) (time seat : ℕ) → seat < length times → AreQueued times pages → IsPermutation pages ((time, seat) ∷ pages') → AreQueued (set times seat 0) pages'
queued_taken times pages pages' time seat lt queued taken k waits = elim (cases_eq k seat) [
  | inl same ↦ absurd (omega (arith, waits, ap (since (set times seat 0)) same ∙ get_or-set_same times seat 0 0 lt))
  | inr other ↦
      let is : since (set times seat 0) k ≡ since times k = get_or-set_other times seat k 0 0 other in
      let there = queued k (omega (arith, is, waits)) in
      subst (λ (p : ℕ × ℕ). Contains pages' p) (λ i. (sym is i, k)) (left_there pages pages' (time, seat) (since times k, k) taken (λ e. other (sym (ap (λ (p : ℕ × ℕ). p.1) e))) there)
]

-- it waits no more, or since another time
pub queued_stale : (times : List ℕ) (pages pages' : List (ℕ × ℕ)) (e : ℕ × ℕ) → (0 < since times e.1 → since times e.1 ≢ e.0) → AreQueued times pages → IsPermutation pages (e ∷ pages') → AreQueued times pages'
queued_stale times pages pages' e stale queued taken k waits =
    left_there pages pages' e (since times k, k) taken (λ is.
    let seat : e.1 ≡ k = ap (λ (p : ℕ × ℕ). p.1) is in
    let time : e.0 ≡ since times k = ap (λ (p : ℕ × ℕ). p.0) is in
    stale (subst (λ n. 0 < since times n) (sym seat) waits) (ap (since times) seat ∙ sym time)) (queued k waits)

pub none_waits : (size : ℕ) (pages : List (ℕ × ℕ)) → AreQueued (replicate size 0) pages
none_waits size pages k waits = absurd (omega (arith, waits, zero_there size k))
  where
    zero_there : (size k : ℕ) → since (replicate size 0) k ≡ 0
    zero_there zero k = refl
    zero_there (suc size) zero = refl
    zero_there (suc size) (suc k) = zero_there size k

-- ---- how many wait since before a time

abbrev pub early : ℕ → ℕ → ℕ
early time n = if nat_lt 0 n then (if nat_lt n time then 1 else 0) else 0

abbrev pub count_early : ℕ → List ℕ → ℕ
count_early time [] = 0
count_early time (n ∷ times) = early time n + count_early time times

pub count_set : (time : ℕ) (times : List ℕ) (k n : ℕ) → k < length times → count_early time (set times k n) + early time (since times k) ≡ count_early time times + early time n
count_set time [] k n lt = absurd (omega arith)
count_set time (t ∷ times) zero n lt = omega arith
count_set time (t ∷ times) (suc k) n lt = (let rest = count_set time times k n (omega arith) in omega (arith, rest))

-- ---- one seat changed

-- every other seat is as it was
pub covered_after : (known known' : List (Option Candidate)) (times times' : List ℕ) (seats seats' : List (Option Candidate)) (seat : ℕ) (hands : List ℕ) → length known' ≡ length seats' → length times' ≡ length seats' → ((k : ℕ) → k ≢ seat → seat_at known' k ≡ seat_at known k) → ((k : ℕ) → k ≢ seat → since times' k ≡ since times k) → ((k : ℕ) → k ≢ seat → seat_at seats' k ≡ seat_at seats k) → ((k : ℕ) → IsFree hands k → k ≢ seat → Covers (seat_at known k) (since times k) (seat_at seats k)) → (IsFree hands seat → Covers (seat_at known' seat) (since times' seat) (seat_at seats' seat)) → AreCovered known' times' seats' hands
covered_after known known' times times' seats seats' seat hands len many same_known same_times same_seats others own = record {
  length_is = len;
  as_many = many;
  covers = λ k free. elim (cases_eq k seat) [
    | inl same ↦ subst (λ n. Covers (seat_at known' n) (since times' n) (seat_at seats' n)) (sym same) (own (subst (IsFree hands) same free))
    | inr other ↦ rw (same_known k other, same_times k other, same_seats k other) (others k free other)
  ];
}

pub later_others : (time seat : ℕ) (times times' : List ℕ) → IsLater time seat times times' → (k : ℕ) → k ≢ seat → since times' k ≡ since times k
later_others time seat times times' l k other = elim l.times_are [
  | inl same ↦ ap (λ ts. since ts k) same
  | inr one ↦ ap (λ ts. since ts k) one ∙ get_or-set_other times seat k l.from 0 other
]

pub later_length : (time seat : ℕ) (times times' : List ℕ) → IsLater time seat times times' → length times' ≡ length times
later_length time seat times times' l = elim l.times_are [
  | inl same ↦ ap length same
  | inr one ↦ ap length one ∙ length-set times seat l.from
]

-- none waits since before the time yet
pub later_none_below : (time seat : ℕ) (times times' : List ℕ) → IsLater time seat times times' → NoneBelow times time → seat < length times → NoneBelow times' time
later_none_below time seat times times' l none lt k waits = elim l.times_are [
  | inl same ↦ subst (λ ts. NoneBelow ts time) (sym same) none k waits
  | inr one ↦ elim (cases_eq k seat) [
    | inl here ↦ omega (arith, l.late, ap (since times') here ∙ ap (λ ts. since ts seat) one ∙ get_or-set_same times seat l.from 0 lt)
    | inr other ↦ (let is = ap (λ ts. since ts k) one ∙ get_or-set_other times seat k l.from 0 other in omega (arith, is, waits, none k (omega (arith, is, waits))))
  ]
]

-- ---- who waits, by what is read

pub since_is : (times : List ℕ) (k d : ℕ) → k < length times → get_or times k d ≡ since times k
since_is [] k d lt = absurd (omega arith)
since_is (t ∷ times) zero d lt = refl
since_is (t ∷ times) (suc k) d lt = since_is times k d (omega arith)

pub since_past : (times : List ℕ) (k : ℕ) → length times ≤ k → since times k ≡ 0
since_past [] k le = refl
since_past (t ∷ times) zero le = absurd (omega arith)
since_past (t ∷ times) (suc k) le = since_past times k (omega arith)

-- ---- who comes first

module _ (known : List (Option Candidate)) (times : List ℕ) (seats : List (Option Candidate)) (hands : List ℕ) (c : AreCovered known times seats hands) (time : ℕ) (none : NoneBelow times time) where
  -- whoever stands here, and is old enough, comes after the first that is known
  known_leads : (first : Option Candidate) → IsFirst known (λ x. x.1 < time) first → (k : ℕ) (y : Candidate) → IsFree hands k → seat_at seats k ≡ Some y → y.1 < time → winner first (Some y) ≡ first
  known_leads first f k y free here old = elim (c.covers k free) [
    | inl lags ↦ after (seat_at known k) refl lags
    | inr waits ↦ (let young = waits y here in absurd (omega (arith, old, young.early, none k young.some)))
  ]
    where
      after : (at : Option Candidate) → seat_at known k ≡ at → Lags at (seat_at seats k) → winner first (Some y) ≡ first
      after None is lags = absurd (none-some y (sym lags ∙ here))
      after (Some x) is lags =
          let le = lags.no_earlier y here in
          leads_later first (Some x) (Some y) (f.none_before k x is (omega (arith, le, old))) (winner_from_not_before x y (lags.not_before y here))

  -- the first of those that are known, if it stands here, and the first in hand
  with_hand : (first held : Option Candidate) → IsFirst known (λ x. x.1 < time) first → ((x : Candidate) → first ≡ Some x → (k : ℕ) × (seat_at seats k ≡ Some x) × (x.1 < time)) → IsHeld seats hands 4 time held → IsFirst seats (λ x. x.1 < time) (winner first held)
  with_hand first held f there h = record {
    there = λ x is. elim (winner_is first held) [
      | inl which ↦ there x (sym which ∙ is)
      | inr which ↦ h.there x (sym which ∙ is)
    ];
    none_before = λ k y here old. elim (in_hand_or_free hands k) [
      | inl there ↦ leads_later (winner first held) held (Some y) (leads_right first held) (h.none_before there.0 there.1 y (subst (λ n. seat_at seats n ≡ Some y) (sym there.2) here) old)
      | inr free ↦ leads_later (winner first held) first (Some y) (leads_left first held) (known_leads first f k y free here old)
    ];
  }

  -- the first that is known, where it stands here too
  pub first_stands : (seat : ℕ) (a b held : Option Candidate) → IsFirstAt known (λ x. x.1 < time) seat → a ≡ seat_at known seat → b ≡ seat_at seats seat → same_seat a b ≡ true → IsHeld seats hands 4 time held → IsFirst seats (λ x. x.1 < time) (winner b held)
  first_stands seat a b held f is_a is_b same h =
      let is : a ≡ b = alike_seats a b same in
      let first : IsFirst known (λ x. x.1 < time) b = subst (IsFirst known (λ x. x.1 < time)) (sym is_a ∙ is) f.first in
      with_hand b held first (λ x stands. (seat, sym is_b ∙ stands, (first.there x stands).2)) h

  -- the first in hand, where it comes before all that are known
  pub held_first : (root held : Option Candidate) → LeadsAll known root → winner held root ≡ held → IsHeld seats hands 4 time held → IsFirst seats (λ x. x.1 < time) held
  held_first root held l before h = record {
    there = h.there;
    none_before = λ k y here old. elim (in_hand_or_free hands k) [
      | inl there ↦ h.none_before there.0 there.1 y (subst (λ n. seat_at seats n ≡ Some y) (sym there.2) here) old
      | inr free ↦ elim (c.covers k free) [
        | inl lags ↦ after k y here (seat_at known k) refl lags
        | inr waits ↦ (let young = waits y here in absurd (omega (arith, old, young.early, none k young.some)))
      ]
    ];
  }
    where
      after : (k : ℕ) (y : Candidate) → seat_at seats k ≡ Some y → (at : Option Candidate) → seat_at known k ≡ at → Lags at (seat_at seats k) → winner held (Some y) ≡ held
      after k y here None is lags = absurd (none-some y (sym lags ∙ here))
      after k y here (Some x) is lags =
          let behind : winner root (Some x) ≡ root = subst (λ e. winner root e ≡ root) is (l k) in
          leads_later held root (Some y) before (leads_later root (Some x) (Some y) behind (winner_from_not_before x y (lags.not_before y here)))

  pub hand_alone : (held : Option Candidate) → IsFirst known (λ x. x.1 < time) None → IsHeld seats hands 4 time held → IsFirst seats (λ x. x.1 < time) held
  hand_alone held f h = with_hand None held f (λ x is. absurd (none-some x is)) h

-- ---- one seat is settled, or each

early_late : (time n : ℕ) → time ≤ n → early time n ≡ 0
early_late time n le = elim (cases_Bool (nat_lt 0 n)) [
  | inr none ↦ rw none refl
  | inl some ↦ (let not : nat_lt n time ≡ false = grind (arith, nat_tests) in rw (some, not) refl)
]

-- all wait anew
anew_early : (time : ℕ) (times : List ℕ) → ((k : ℕ) → (since times k ≡ 0) ⊎ (time ≤ since times k)) → count_early time times ≡ 0
anew_early time [] anew = refl
anew_early time (t ∷ times) anew =
    let rest = anew_early time times (λ k. anew (suc k)) in
    let own : early time t ≡ 0 = elim (anew zero) [ inl none ↦ none_early time t none | inr late ↦ early_late time t late ] in
    omega (arith, rest, own)
  where
    none_early : (time n : ℕ) → n ≡ 0 → early time n ≡ 0
    none_early time n none = rw none refl

late_or_not : (time : ℕ) (times : List ℕ) (seats : List (Option Candidate)) → AreAnew time times seats → (k : ℕ) → (since times k ≡ 0) ⊎ (time ≤ since times k)
late_or_not time times seats a k = elim (a.anew k) [ inl none ↦ inl none | inr young ↦ inr young.0 ]

anew_covers : (known : List (Option Candidate)) (time : ℕ) (times : List ℕ) (seats : List (Option Candidate)) → AreAnew time times seats → AreKnown known times seats → (k : ℕ) → Covers (seat_at known k) (since times k) (seat_at seats k)
anew_covers known time times seats a is k = elim (a.anew k) [
  | inl none ↦ inl (subst (λ e. Lags e (seat_at seats k)) (sym ((is.known_is k).0 none)) (settled_lags (seat_at seats k)))
  | inr young ↦ inr young.1
]

at_home : (here : Option Candidate) → stray here here ≡ 0
at_home None = refl
at_home (Some x) = rw (itself (Some x)) refl

none_astray : (known seats : List (Option Candidate)) → ((k : ℕ) → (seat_at known k ≡ None) ⊎ (seat_at known k ≡ seat_at seats k)) → astray known seats ≡ 0
none_astray [] seats home = refl
none_astray (x ∷ known) [] home = refl
none_astray (x ∷ known) (s ∷ seats) home =
    let rest = none_astray known seats (λ k. home (suc k)) in
    let own : stray x s ≡ 0 = elim (home zero) [ inl none ↦ ap (λ e. stray e s) none | inr same ↦ ap (λ e. stray e s) same ∙ at_home s ] in
    omega (arith, rest, own)

known_home : (known : List (Option Candidate)) (times : List ℕ) (seats : List (Option Candidate)) → AreKnown known times seats → (k : ℕ) → (seat_at known k ≡ None) ⊎ (seat_at known k ≡ seat_at seats k)
known_home known times seats is k = elim (cases_eq (since times k) 0) [
  | inl none ↦ inr ((is.known_is k).0 none)
  | inr some ↦ inl ((is.known_is k).1 (omega arith))
]

settling_le : (known seats : List (Option Candidate)) (k : ℕ) (e : Option Candidate) → stray e (seat_at seats k) ≡ 0 → astray (set known k e) seats ≤ astray known seats
settling_le [] seats k e none = omega arith
settling_le (x ∷ known) [] zero e none = omega arith
settling_le (x ∷ known) [] (suc k) e none = omega arith
settling_le (x ∷ known) (s ∷ seats) zero e none = omega (arith, none)
settling_le (x ∷ known) (s ∷ seats) (suc k) e none = (let rest = settling_le known seats k e none in omega (arith, rest))

module _ (known : List (Option Candidate)) (times : List ℕ) (seats : List (Option Candidate)) (seat time : ℕ) (known' : List (Option Candidate)) (times' : List ℕ) (len : length known ≡ length seats) (many : length times ≡ length seats) (settled : IsSettled known times seats seat time known' times') where
  -- every other one is covered
  pub settled_covered : (hands : List ℕ) → ((k : ℕ) → IsFree hands k → k ≢ seat → Covers (seat_at known k) (since times k) (seat_at seats k)) → AreCovered known' times' seats hands
  settled_covered hands others = elim settled [
    | inl at ↦ elim at.1 [
      | inr apart ↦ covered_after known known' times times' seats seats seat hands
          (ap length apart.known_is ∙ length-set known seat None ∙ len) (later_length time seat times times' apart.later ∙ many)
          (λ k other. ap (λ ss. seat_at ss k) apart.known_is ∙ get_or-set_other known seat k None None other)
          (later_others time seat times times' apart.later) (λ k other. refl) others (λ free. inr apart.young)
      | inl one ↦ covered_after known known' times times' seats seats seat hands
          (ap length one.1 ∙ length-set known seat (seat_at seats seat) ∙ len) (ap length one.0 ∙ many)
          (λ k other. ap (λ ss. seat_at ss k) one.1 ∙ get_or-set_other known seat k (seat_at seats seat) None other)
          (λ k other. ap (λ ts. since ts k) one.0) (λ k other. refl) others
          (λ free. inl (subst (λ e. Lags e (seat_at seats seat)) (sym (ap (λ ss. seat_at ss seat) one.1 ∙ get_or-set_same known seat (seat_at seats seat) None (omega (arith, len, at.0)))) (settled_lags (seat_at seats seat))))
    ]
    | inr rest ↦ elim rest [
      | inl all ↦ record {
        length_is = all.1.length_is;
        as_many = all.0.as_many;
        covers = λ k free. anew_covers known' time times' seats all.0 all.1 k;
      }
      | inr past ↦ covered_after known known' times times' seats seats seat hands
          (ap length past.2 ∙ len) (ap length past.1 ∙ many)
          (λ k other. ap (λ ss. seat_at ss k) past.2) (λ k other. ap (λ ts. since ts k) past.1) (λ k other. refl) others
          (λ free. inl (subst (λ e. Lags (seat_at known' seat) e) (sym (get_or_past seats seat None past.0)) (nobody_lags (seat_at known' seat))))
    ]
  ]

  pub settled_none_below : NoneBelow times time → NoneBelow times' time
  settled_none_below none = elim settled [
    | inl at ↦ elim at.1 [
      | inr apart ↦ later_none_below time seat times times' apart.later none (omega (arith, many, at.0))
      | inl one ↦ subst (λ ts. NoneBelow ts time) (sym one.0) none
    ]
    | inr rest ↦ elim rest [
      | inl all ↦ λ k waits. elim (late_or_not time times' seats all.0 k) [ inl not ↦ absurd (omega (arith, waits, not)) | inr late ↦ late ]
      | inr past ↦ subst (λ ts. NoneBelow ts time) (sym past.1) none
    ]
  ]

  -- no more wait since before the time
  pub settled_early : count_early time times' ≤ count_early time times
  settled_early = elim settled [
    | inl at ↦ elim at.1 [
      | inl one ↦ omega (arith, ap (count_early time) one.0)
      | inr apart ↦ elim apart.later.times_are [
        | inl same ↦ omega (arith, ap (count_early time) same)
        | inr one ↦ (let counted = count_set time times seat apart.later.from (omega (arith, many, at.0)) in let late = early_late time apart.later.from apart.later.late in omega (arith, ap (count_early time) one, counted, late))
      ]
    ]
    | inr rest ↦ elim rest [
      | inl all ↦ omega (arith, anew_early time times' (late_or_not time times' seats all.0))
      | inr past ↦ omega (arith, ap (count_early time) past.1)
    ]
  ]

  -- no more are known who do not stand there
  pub settled_no_more : astray known' seats ≤ astray known seats
  settled_no_more = elim settled [
    | inl at ↦ elim at.1 [
      | inr apart ↦ subst (λ ss. astray ss seats ≤ astray known seats) (sym apart.known_is) (settling_le known seats seat None refl)
      | inl one ↦ subst (λ ss. astray ss seats ≤ astray known seats) (sym one.1) (settling_le known seats seat (seat_at seats seat) (at_home (seat_at seats seat)))
    ]
    | inr rest ↦ elim rest [
      | inl all ↦ omega (arith, none_astray known' seats (known_home known' times' seats all.1))
      | inr past ↦ omega (arith, ap (λ ss. astray ss seats) past.2)
    ]
  ]

  -- fewer are known who do not stand there
  pub settled_less : (a b : Option Candidate) → seat < length seats → a ≡ seat_at known seat → b ≡ seat_at seats seat → seat_at known seat ≢ None → same_seat a b ≡ false → astray known' seats < astray known seats
  settled_less a b lt is_a is_b stands differ =
      let other : same_seat (seat_at known seat) (seat_at seats seat) ≡ false = (λ i. same_seat (sym is_a i) (sym is_b i)) ∙ differ in
      let less : (e : Option Candidate) → stray e (seat_at seats seat) ≡ 0 → astray (set known seat e) seats < astray known seats = λ e none. settling known seats seat e len lt stands other none in
      elim settled [
        | inl at ↦ elim at.1 [
          | inr apart ↦ subst (λ ss. astray ss seats < astray known seats) (sym apart.known_is) (less None refl)
          | inl one ↦ subst (λ ss. astray ss seats < astray known seats) (sym one.1) (less (seat_at seats seat) (at_home (seat_at seats seat)))
        ]
        | inr rest ↦ elim rest [
          | inl all ↦ omega (arith, less None refl, none_astray known' seats (known_home known' times' seats all.1))
          | inr past ↦ absurd (omega (arith, lt, past.0))
        ]
      ]
    where
      one_astray : (known here : Option Candidate) → known ≢ None → same_seat known here ≡ false → stray known here ≡ 1
      one_astray None here stands differ = absurd (stands refl)
      one_astray (Some x) here stands differ = rw differ refl

      settling : (known seats : List (Option Candidate)) (k : ℕ) (e : Option Candidate) → length known ≡ length seats → k < length seats → seat_at known k ≢ None → same_seat (seat_at known k) (seat_at seats k) ≡ false → stray e (seat_at seats k) ≡ 0 → astray (set known k e) seats < astray known seats
      settling [] [] k e len lt stands differ none = absurd (omega arith)
      settling [] (s ∷ seats) k e len lt stands differ none = absurd (omega arith)
      settling (x ∷ known) [] k e len lt stands differ none = absurd (omega arith)
      settling (x ∷ known) (s ∷ seats) zero e len lt stands differ none = omega (arith, none, one_astray x s stands differ)
      settling (x ∷ known) (s ∷ seats) (suc k) e len lt stands differ none = (let less = settling known seats k e (omega arith) (omega arith) stands differ none in omega (arith, less))

-- one that waited is taken out, and comes into hand for another: every other one is covered
pub taken_others : (known : List (Option Candidate)) (times times' : List ℕ) (seats : List (Option Candidate)) (seat : ℕ) (hands hands' : List ℕ) (other : ℕ) → times' ≡ set times seat 0 → AreCovered known times seats hands → IsExchanged hands seat hands' other → (k : ℕ) → IsFree hands' k → k ≢ other → Covers (seat_at known k) (since times' k) (seat_at seats k)
taken_others known times times' seats seat hands hands' other is c x k free apart =
    rw (is, get_or-set_other times seat k 0 0 (exchanged_apart hands seat hands' other x k free apart)) (c.covers k (exchanged_free hands seat hands' other x k free apart))

pub taken_less : (times times' : List ℕ) (seat time : ℕ) → seat < length times → 0 < since times seat → since times seat < time → times' ≡ set times seat 0 → count_early time times' < count_early time times
taken_less times times' seat time lt some below is =
    let counted = count_set time times seat 0 lt in
    let some_is : nat_lt 0 (since times seat) ≡ true = grind (arith, nat_tests) in
    let below_is : nat_lt (since times seat) time ≡ true = grind (arith, nat_tests) in
    let one : early time (since times seat) ≡ 1 = rw (some_is, below_is) refl in
    omega (arith, ap (count_early time) is, counted, one)

-- ---- one enters, or leaves

module _ (known : List (Option Candidate)) (times : List ℕ) (seats : List (Option Candidate)) (hands : List ℕ) (seat : ℕ) (e : Option Candidate) (lt : seat < length seats) (c : AreCovered known times seats hands) where
  same_length : length seats ≡ length (set seats seat e)
  same_length = sym (length-set seats seat e)

  here : seat_at (set seats seat e) seat ≡ e
  here = get_or-set_same seats seat e None lt

  -- the seat alone
  put_alone : (IsFree hands seat → Covers (seat_at known seat) (since times seat) e) → AreCovered known times (set seats seat e) hands
  put_alone own = covered_after known known times times seats (set seats seat e) seat hands (c.length_is ∙ same_length) (c.as_many ∙ same_length) (λ k other. refl) (λ k other. refl) (λ k other. get_or-set_other seats seat k e None other) (λ k free other. c.covers k free) (λ free. subst (Covers (seat_at known seat) (since times seat)) (sym here) (own free))

  pub put_held : InHand hands seat → AreCovered known times (set seats seat e) hands
  put_held there = put_alone (λ free. absurd (free_not_in_hand hands seat there free))

  pub put_lags : Lags (seat_at known seat) e → AreCovered known times (set seats seat e) hands
  put_lags may = put_alone (λ free. inl may)

  pub put_both : AreCovered (set known seat e) times (set seats seat e) hands
  put_both = covered_after known (set known seat e) times times seats (set seats seat e) seat hands (length-set known seat e ∙ c.length_is ∙ same_length) (c.as_many ∙ same_length) (λ k other. get_or-set_other known seat k e None other) (λ k other. refl) (λ k other. get_or-set_other seats seat k e None other) (λ k free other. c.covers k free) (λ free. inl (rw (get_or-set_same known seat e None (omega (arith, c.length_is, lt)), here) (settled_lags e)))

  pub put_waits : (times' : List ℕ) (time : ℕ) → IsLater time seat times times' → AreYoung (since times' seat) e → AreCovered known times' (set seats seat e) hands
  put_waits times' time later young = covered_after known known times times' seats (set seats seat e) seat hands (c.length_is ∙ same_length) (later_length time seat times times' later ∙ c.as_many ∙ same_length) (λ k other. refl) (later_others time seat times times' later) (λ k other. get_or-set_other seats seat k e None other) (λ k free other. c.covers k free) (λ free. inr (subst (AreYoung (since times' seat)) (sym here) young))

pub none_covered : (n : ℕ) (hands : List ℕ) → AreCovered (replicate n None) (replicate n 0) (replicate n None) hands
none_covered n hands = record {
  length_is = refl;
  as_many = length-replicate n 0 ∙ sym (length-replicate n None);
  covers = λ k free. inl (settled_lags (seat_at (replicate n None) k));
}
