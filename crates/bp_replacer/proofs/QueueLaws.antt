-- The queue of the pages that are not held, after one page's block changes.
use Rattle.std.proofs.Common.{◌≡◌, ◌≢◌, ℕ, zero, suc, ◌+◌, ◌<◌, ◌≤◌, Bool, true, false, cond, List, [], ◌∷◌, length, count_by, get_or, set, Option, Some, None, is_some, Contains, refl, sym, ap, ◌∙◌, subst, inl, inr, arith}
use Rattle.std.specs.List.Sorted.{IsPermutation}
use Rattle.std.proofs.lemmas.Bool.{cases_Bool, cases_eq, false≢true}
use Rattle.std.proofs.lemmas.Option.{none-some}
use Rattle.std.proofs.lemmas.List.{get_or-set_same, get_or-set_other}
use Rattle.std.proofs.lemmas.List.Sums.{sum_by-set, sum_by-cons}
use Rattle.std.proofs.lemmas.List.Sorted.{Contains-permutation, length_permutation}
use Rattle.bp_replacer.specs.declared.histories.Block.{Block}
use Rattle.bp_replacer.specs.Queue.{Waiting, IsWaiting}
use Rattle.bp_replacer.specs.Kept.{slot, waits_in, IsKept, IsQueued}
use Rattle.bp_replacer.proofs.KeptLaws.{number, Changes, unshared, within}

-- ---- counts of slots

counted : (Option Block → Bool) → Option Block → ℕ
counted p o = cond (p o) 1 0

pub count_set : (p : Option Block → Bool) (slots : List (Option Block)) (at : ℕ) (was is : Option Block) → at < length slots → slot slots at ≡ was → count_by p (set slots at is) + cond (p was) 1 0 ≡ count_by p slots + cond (p is) 1 0
count_set p slots at was is lt there = rw (← there) (sum_by-set (λ o. cond (p o) 1 0) slots at is None lt)

-- the same, where it is known what passes
count_step : (p : Option Block → Bool) (slots : List (Option Block)) (at : ℕ) (was is : Option Block) → at < length slots → slot slots at ≡ was → (x y : ℕ) → cond (p was) 1 0 ≡ x → cond (p is) 1 0 ≡ y → count_by p (set slots at is) + x ≡ count_by p slots + y
count_step p slots at was is lt there x y x_is y_is =
    ap (λ n. count_by p (set slots at is) + n) (sym x_is) ∙ count_set p slots at was is lt there ∙ ap (λ n. count_by p slots + n) y_is

pub count_cons : (p : Option Block → Bool) (o : Option Block) (slots : List (Option Block)) → count_by p (o ∷ slots) ≡ cond (p o) 1 0 + count_by p slots
count_cons p o slots = sum_by-cons (λ o. cond (p o) 1 0) o slots

-- as many slots pass where the same slots pass
pub count_alike : (p : Option Block → Bool) → p None ≡ false → (xs ys : List (Option Block)) → ((n : ℕ) → p (slot ys n) ≡ p (slot xs n)) → count_by p ys ≡ count_by p xs
count_alike p none [] [] same = refl
count_alike p none [] (y ∷ ys) same =
    let head : p y ≡ false = same 0 ∙ none in
    count_cons p y ys ∙ rw head (omega (arith, count_alike p none [] ys (λ n. same (suc n))))
count_alike p none (x ∷ xs) [] same =
    let head : p x ≡ false = sym (same 0) ∙ none in
    sym (count_cons p x xs ∙ rw head (omega (arith, count_alike p none xs [] (λ n. same (suc n)))))
count_alike p none (x ∷ xs) (y ∷ ys) same = count_cons p y ys ∙ rw (same 0, count_alike p none xs ys (λ n. same (suc n))) (sym (count_cons p x xs))

waits_le_some : (o : Option Block) → cond (waits_in o) 1 0 ≤ cond (is_some o) 1 0
waits_le_some None = omega arith
waits_le_some (Some b) = elim (cases_Bool b.waits) [
  | inl marked ↦ rw marked (omega arith)
  | inr idle ↦ rw idle (omega arith)
]

pub waits_le : (slots : List (Option Block)) → count_by waits_in slots ≤ count_by is_some slots
waits_le [] = omega arith
waits_le (o ∷ slots) = omega (arith, waits_le slots, waits_le_some o, count_cons waits_in o slots, count_cons is_some o slots)

-- ---- one page's block changes

module _ (slots : List (Option Block)) (places : List (ℕ × ℕ)) (slots' : List (Option Block)) (places' : List (ℕ × ℕ)) (page at : ℕ) (changes : Changes slots places slots' places' page at) (queue queue' : Waiting) (queued : IsQueued slots places queue) where
  pub queued_after : ((q by : ℕ) → q ≢ page → IsWaiting queue.pages q by → IsWaiting queue'.pages q by)
      → ((n : ℕ) (b : Block) → number places' page ≡ Some n → slot slots' n ≡ Some b → b.waits ≡ true → IsWaiting queue'.pages page b.last)
      → length queue'.pages ≤ count_by waits_in slots' → count_by is_some slots' ≤ queue'.room → IsQueued slots' places' queue'
  queued_after others own few room = record { waiting = waiting; few = few; room = room }
    where
      waiting : (q n : ℕ) (b : Block) → number places' q ≡ Some n → slot slots' n ≡ Some b → b.waits ≡ true → IsWaiting queue'.pages q b.last
      waiting q n b is there waits = elim (cases_eq q page) [
        | inl same ↦ subst (λ x. IsWaiting queue'.pages x b.last) (sym same) (own n b (ap (number places') (sym same) ∙ is) there waits)
        | inr other ↦
            let was = sym (changes.other_places q other) ∙ is in
            let apart : n ≢ at = λ same. changes.not_shared q other (was ∙ ap Some same) in
            others q b.last other (queued.waiting q n b was (sym (changes.other_slots n apart) ∙ there) waits)
      ]

-- ---- what waits

pub waits_later : (pages : List (ℕ × ℕ)) (page by later : ℕ) → by ≤ later → IsWaiting pages page by → IsWaiting pages page later
waits_later pages page by later le waits = (waits.0, omega (arith, waits.1), waits.2)

pub waits_pushed : (pages pages' : List (ℕ × ℕ)) (time page q by : ℕ) → IsPermutation ((time, page) ∷ pages) pages' → IsWaiting pages q by → IsWaiting pages' q by
waits_pushed pages pages' time page q by pushed waits = (waits.0, waits.1, Contains-permutation _ _ _ pushed (suc waits.2.0, omega (arith, waits.2.1), waits.2.2))

pub waits_itself : (pages pages' : List (ℕ × ℕ)) (time page : ℕ) → IsPermutation ((time, page) ∷ pages) pages' → IsWaiting pages' page time
waits_itself pages pages' time page pushed = (time, omega arith, Contains-permutation _ _ _ pushed (0, omega arith, refl))

-- what is taken out was another page's
pub waits_left : (pages pages' : List (ℕ × ℕ)) (e : ℕ × ℕ) (q by : ℕ) → IsPermutation pages (e ∷ pages') → q ≢ e.1 → IsWaiting pages q by → IsWaiting pages' q by
waits_left pages pages' e q by taken other waits = (waits.0, waits.1, go (Contains-permutation _ _ _ taken waits.2))
  where
    at_index : (i : ℕ) → i < length (e ∷ pages') → get_or (e ∷ pages') i (waits.0, q) ≡ (waits.0, q) → Contains pages' (waits.0, q)
    at_index zero lt is = absurd (other (sym (ap (λ p. p.1) is)))
    at_index (suc i) lt is = (i, omega arith, is)

    go : Contains (e ∷ pages') (waits.0, q) → Contains pages' (waits.0, q)
    go there = at_index there.0 there.1 there.2

-- ---- a block is written over

module _ (k : ℕ) (slots : List (Option Block)) (places : List (ℕ × ℕ)) (kept : IsKept k slots places) (queue : Waiting) (queued : IsQueued slots places queue) (page at : ℕ) (place : number places page ≡ Some at) (b w : Block) (there : slot slots at ≡ Some b) where
  changed : Changes slots places (set slots at (Some w)) places page at
  changed = record {
    other_places = λ q other. refl;
    other_slots = λ n other. get_or-set_other slots at n (Some w) None other;
    not_shared = unshared k slots places kept page at place;
  }

  written : slot (set slots at (Some w)) at ≡ Some w
  written = get_or-set_same slots at (Some w) None (within slots at b there)

  own_block : (n : ℕ) (d : Block) → number places page ≡ Some n → slot (set slots at (Some w)) n ≡ Some d → w ≡ d
  own_block n d is found = go n is found
    where
      go : (n : ℕ) → number places page ≡ Some n → slot (set slots at (Some w)) n ≡ Some d → w ≡ d
      go n is found =
          let same : Some at ≡ Some n = sym place ∙ is in
          let at_is : at ≡ n = cc in
          let both : Some w ≡ Some d = sym written ∙ ap (slot (set slots at (Some w))) at_is ∙ found in
          cc

  some_same : count_by is_some (set slots at (Some w)) ≡ count_by is_some slots
  some_same = omega (arith, count_set is_some slots at (Some b) (Some w) (within slots at b there) there)

  marks : w.waits ≡ b.waits → (n : ℕ) → waits_in (slot (set slots at (Some w)) n) ≡ waits_in (slot slots n)
  marks same n = elim (cases_eq n at) [
    | inl here ↦ rw (here, written, there) same
    | inr other ↦ ap waits_in (get_or-set_other slots at n (Some w) None other)
  ]

  marks_same : w.waits ≡ b.waits → count_by waits_in (set slots at (Some w)) ≡ count_by waits_in slots
  marks_same same = count_alike waits_in refl slots (set slots at (Some w)) (marks same)

  -- it stays marked as it was
  pub queued_written : w.waits ≡ b.waits → b.last ≤ w.last → IsQueued (set slots at (Some w)) places queue
  queued_written same later = queued_after slots places (set slots at (Some w)) places page at changed queue queue queued
      (λ q by other waits. waits)
      (λ n d is found waits.
      let own = own_block n d is found in
      let was : b.waits ≡ true = sym same ∙ ap (λ (x : Block). x.waits) own ∙ waits in
      subst (λ (x : Block). IsWaiting queue.pages page x.last) own (waits_later queue.pages page b.last w.last later (queued.waiting page at b place there was)))
      (rw (marks_same same) queued.few)
      (rw some_same queued.room)

  -- its page was taken out of the queue
  module _ (queue' : Waiting) (e : ℕ × ℕ) (of : e.1 ≡ page) (taken : IsPermutation queue.pages (e ∷ queue'.pages)) (room : queue'.room ≡ queue.room) where
    left : (q by : ℕ) → q ≢ page → IsWaiting queue.pages q by → IsWaiting queue'.pages q by
    left q by other waits = waits_left queue.pages queue'.pages e q by taken (λ same. other (same ∙ of)) waits

    one_less : length queue.pages ≡ length queue'.pages + 1
    one_less = omega (arith, length_permutation _ _ taken)

    fewer_marks : w.waits ≡ false → count_by waits_in slots ≤ count_by waits_in (set slots at (Some w)) + 1
    fewer_marks idle = elim (cases_Bool b.waits) [
      | inl marked ↦ omega (arith, count_step waits_in slots at (Some b) (Some w) (within slots at b there) there 1 0 (ap (λ t. cond t 1 0) marked) (ap (λ t. cond t 1 0) idle))
      | inr unmarked ↦ omega (arith, count_step waits_in slots at (Some b) (Some w) (within slots at b there) there 0 0 (ap (λ t. cond t 1 0) unmarked) (ap (λ t. cond t 1 0) idle))
    ]

    -- and it waits no more
    pub queued_unmarked : w.waits ≡ false → IsQueued (set slots at (Some w)) places queue'
    queued_unmarked idle = queued_after slots places (set slots at (Some w)) places page at changed queue queue' queued left
        (λ n d is found waits. absurd (false≢true (sym idle ∙ ap (λ (x : Block). x.waits) (own_block n d is found) ∙ waits)))
        (omega (arith, one_less, fewer_marks idle, queued.few)) (omega (arith, some_same, queued.room))

    pub room_again : length queue'.pages < queue'.room
    room_again = omega (arith, one_less, queued.few, waits_le slots, queued.room)

    -- and it waits again
    pub queued_again : (queue'' : Waiting) → w.waits ≡ b.waits → IsPermutation ((w.last, page) ∷ queue'.pages) queue''.pages → queue'.room ≤ queue''.room → IsQueued (set slots at (Some w)) places queue''
    queued_again queue'' same pushed grown = queued_after slots places (set slots at (Some w)) places page at changed queue queue'' queued
        (λ q by other waits. waits_pushed queue'.pages queue''.pages w.last page q by pushed (left q by other waits))
        (λ n d is found waits. subst (λ (x : Block). IsWaiting queue''.pages page x.last) (own_block n d is found) (waits_itself queue'.pages queue''.pages w.last page pushed))
        (omega (arith, one_less, marks_same same, queued.few, length_permutation _ _ pushed)) (omega (arith, some_same, queued.room))

  -- it begins to wait
  module _ (idle : b.waits ≡ false) where
    more : w.waits ≡ true → count_by waits_in (set slots at (Some w)) ≡ count_by waits_in slots + 1
    more marked = omega (arith, count_step waits_in slots at (Some b) (Some w) (within slots at b there) there 0 1 (ap (λ t. cond t 1 0) idle) (ap (λ t. cond t 1 0) marked))

    pub has_room : w.waits ≡ true → length queue.pages < queue.room
    has_room marked = omega (arith, more marked, waits_le (set slots at (Some w)), some_same, queued.few, queued.room)

    pub queued_pushed : (queue' : Waiting) → w.waits ≡ true → IsPermutation ((w.last, page) ∷ queue.pages) queue'.pages → queue.room ≤ queue'.room → IsQueued (set slots at (Some w)) places queue'
    queued_pushed queue' marked pushed room = queued_after slots places (set slots at (Some w)) places page at changed queue queue' queued
        (λ q by other waits. waits_pushed queue.pages queue'.pages w.last page q by pushed waits)
        (λ n d is found waits. subst (λ (x : Block). IsWaiting queue'.pages page x.last) (own_block n d is found) (waits_itself queue.pages queue'.pages w.last page pushed))
        (omega (arith, more marked, queued.few, length_permutation _ _ pushed))
        (omega (arith, some_same, queued.room))

-- ---- a block is taken away

module _ (k : ℕ) (slots : List (Option Block)) (places : List (ℕ × ℕ)) (kept : IsKept k slots places) (queue : Waiting) (queued : IsQueued slots places queue) (page at : ℕ) (place : number places page ≡ Some at) (b : Block) (there : slot slots at ≡ Some b) (places' : List (ℕ × ℕ)) (others : (q : ℕ) → q ≢ page → number places' q ≡ number places q) (none : number places' page ≡ None) where
  -- it was written back before
  same : List (Option Block)
  same = set slots at (Some b)

  lent : slot (set slots at (Some b)) at ≡ Some b
  lent = get_or-set_same slots at (Some b) None (within slots at b there)

  pub takes : Changes slots places (set (set slots at (Some b)) at None) places' page at
  takes = record {
    other_places = others;
    other_slots = λ n other. get_or-set_other (set slots at (Some b)) at n None None other ∙ get_or-set_other slots at n (Some b) None other;
    not_shared = unshared k slots places kept page at place;
  }

  count_less : (p : Option Block → Bool) (x : ℕ) → cond (p (Some b)) 1 0 ≡ x → p None ≡ false → count_by p (set (set slots at (Some b)) at None) + x ≡ count_by p slots
  count_less p x x_is empty = omega (arith, count_step p slots at (Some b) (Some b) (within slots at b there) there x x x_is x_is, count_step p (set slots at (Some b)) at (Some b) None (within (set slots at (Some b)) at b lent) lent x 0 x_is (ap (λ t. cond t 1 0) empty))

  fewer : count_by is_some (set (set slots at (Some b)) at None) ≤ count_by is_some slots
  fewer = omega (arith, count_less is_some 1 refl refl)

  own_none : (queue' : Waiting) (n : ℕ) (d : Block) → number places' page ≡ Some n → slot (set (set slots at (Some b)) at None) n ≡ Some d → d.waits ≡ true → IsWaiting queue'.pages page d.last
  own_none queue' n d is found waits = absurd (none-some n (sym none ∙ is))

  at_most_one : count_by waits_in slots ≤ count_by waits_in (set (set slots at (Some b)) at None) + 1
  at_most_one = elim (cases_Bool b.waits) [
    | inl marked ↦ omega (arith, count_less waits_in 1 (ap (λ t. cond t 1 0) marked) refl)
    | inr idle ↦ omega (arith, count_less waits_in 0 (ap (λ t. cond t 1 0) idle) refl)
  ]

  -- it did not wait
  pub queued_removed : b.waits ≡ false → IsQueued (set (set slots at (Some b)) at None) places' queue
  queued_removed idle =
      queued_after slots places (set (set slots at (Some b)) at None) places' page at takes queue queue queued (λ q by other waits. waits) (own_none queue)
      (omega (arith, count_less waits_in 0 (ap (λ t. cond t 1 0) idle) refl, queued.few)) (omega (arith, fewer, queued.room))

  -- it was taken out of the queue
  pub queued_forgotten : (queue' : Waiting) (e : ℕ × ℕ) → e.1 ≡ page → IsPermutation queue.pages (e ∷ queue'.pages) → queue'.room ≡ queue.room → IsQueued (set (set slots at (Some b)) at None) places' queue'
  queued_forgotten queue' e of taken room =
      queued_after slots places (set (set slots at (Some b)) at None) places' page at takes queue queue' queued
      (λ q by other waits. waits_left queue.pages queue'.pages e q by taken (λ same. other (same ∙ of)) waits) (own_none queue')
      (omega (arith, at_most_one, queued.few, length_permutation _ _ taken)) (omega (arith, fewer, queued.room))

-- a queue of the same pages, with more room
pub queued_roomier : (slots : List (Option Block)) (places : List (ℕ × ℕ)) (queue queue' : Waiting) → IsQueued slots places queue → queue'.pages ≡ queue.pages → queue.room ≤ queue'.room → IsQueued slots places queue'
queued_roomier slots places queue queue' queued same more = record {
  waiting = λ page at b is found waits. subst (λ pages. IsWaiting pages page b.last) (sym same) (queued.waiting page at b is found waits);
  few = rw same queued.few;
  room = omega (arith, queued.room, more);
}

-- a page without a block was taken out of the queue
pub queued_nobody : (slots : List (Option Block)) (places : List (ℕ × ℕ)) (queue queue' : Waiting) (e : ℕ × ℕ) → IsQueued slots places queue → number places e.1 ≡ None → IsPermutation queue.pages (e ∷ queue'.pages) → queue'.room ≡ queue.room → IsQueued slots places queue'
queued_nobody slots places queue queue' e queued none taken room = record {
  waiting = λ q at b is there waits. waits_left queue.pages queue'.pages e q b.last taken (λ same. none-some at (sym none ∙ ap (number places) (sym same) ∙ is)) (queued.waiting q at b is there waits);
  few = omega (arith, queued.few, length_permutation _ _ taken);
  room = omega (arith, queued.room);
}
