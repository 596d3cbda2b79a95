-- The latch of a page, step by step: that somebody comes for those that wait, and for how long they wait.
use Rattle.std.proofs.Common.{◌≡◌, ◌≢◌, ◌⊎◌, ℕ, zero, suc, ◌+◌, ◌-◌, ◌<◌, ◌≤◌, Bool, true, false, Option, Some, None, refl, sym, ap, ◌∙◌, subst, inl, inr, ⊎_elim, arith}
use mathlib.Core.Logic.{dite}
use native.Mathlib.Decide.{ℕ_discrete}
use Rattle.bp_words.specs.declared.waiters.Waiters.{Waiters}
use Rattle.bp_words.specs.declared.waiters.Place.{Place}
use Rattle.bp_words.specs.declared.waiters.Place.TheVariants.{Readers, Writer}
use Rattle.bp_words.specs.Fields.{Fields, IsLatched, IsFree, some_of}
use Rattle.bp_words.specs.Waiters.{readers_of, writers_of, all_of, IsLetIn, IsDue, ReadersAreNext, WriterIsNext, WriterIsEarly, without_readers, without_writer, told, first_since, first_writer, Enters, HandsOver, Looks}
use Rattle.bp_words.specs.Waiters.Enters.{last_writer, first_readers, second_readers}
use Rattle.bp_words.specs.Waiters.HandsOver.{nobody_waits, lets_readers_in, readers_wait_on, lets_writer_in, writer_waits_on, wakes_writer}
use Rattle.bp_words.specs.Waiters.Looks.{sleeps_on, is_behind, takes, finds_it_taken}
use Rattle.bp_words.specs.Latch.{Latch, latch_of, IsAwaited, Step, Way, Heard}
use Rattle.bp_words.specs.Latch.Step.{comes, leaves, enters, hands_over, looks}
use Rattle.bp_words.specs.Latch.Way.{here, on}
use Rattle.bp_words.proofs.Steps.{not_yes, some_is}

not_no : true ≡ false → ⊥
not_no e = not_yes (sym e)

-- A latch is what it has.
heard_at : (m : Latch) (q : Waiters) (f : Fields) → m.waiters ≡ q → m.word ≡ f → Heard (latch_of q f m.calls) → Heard m
heard_at m q f eq ef h = subst (λ (x : Waiters × Fields). Heard (latch_of x.0 x.1 m.calls)) (λ i. (sym eq i, sym ef i)) h

-- The first: nobody waits.
pub heard_first : (l : Latch) → all_of l.waiters ≡ 0 → l.waiters.is_awake ≡ false → l.waiters.let_in ≤ l.waiters.writers → l.word.queued ≡ 0 → l.word.closed ≡ 0 → Heard l
heard_first l none asleep order queued closed = record {
  told = queued ∙ sym (ap some_of none);
  free = λ _. closed;
  behind = λ some. absurd (omega arith);
  shut = λ some _. absurd (omega arith);
  awake = λ is. absurd (not_yes (sym asleep ∙ is));
  order = order;
  heard = λ some. absurd (omega arith);
}

-- Nobody waits in another way, and the flags of the word are the same.
same_queue : (l : Latch) (f : Fields) (calls : ℕ) → Heard l → f.queued ≡ l.word.queued → f.closed ≡ l.word.closed
    → (0 < all_of l.waiters → (0 < f.readers + f.writers + calls) ⊎ ((l.waiters.is_awake ≡ true) × (l.waiters.first ≡ 0))) → Heard (latch_of l.waiters f calls)
same_queue l f calls h queued closed heard = record {
  told = queued ∙ h.told;
  free = λ none. closed ∙ h.free none;
  behind = λ some. closed ∙ h.behind some;
  shut = λ some asleep. closed ∙ h.shut some asleep;
  awake = h.awake;
  order = h.order;
  heard = heard;
}

heard_comes : (l m : Latch) → Heard l → m.calls ≡ l.calls → m.word.queued ≡ l.word.queued → m.word.closed ≡ l.word.closed → l.word.readers ≤ m.word.readers
    → (m.word.writers ≡ l.word.writers) ⊎ ((m.word.writers ≡ 1) × (l.word.closed ≡ 0)) → Heard (latch_of l.waiters m.word m.calls)
heard_comes l m h calls queued closed more writers = same_queue l m.word m.calls h queued closed (λ some. ⊎_elim
    (λ (has : 0 < l.word.readers + l.word.writers + l.calls). ⊎_elim
    (λ (same : m.word.writers ≡ l.word.writers). inl (omega arith))
    (λ (took : (m.word.writers ≡ 1) × (l.word.closed ≡ 0)). let one = took.0 in inl (omega arith))
    writers)
    (λ (woken : (l.waiters.is_awake ≡ true) × (l.waiters.first ≡ 0)). inr woken)
    (h.heard some))

heard_leaves : (l m : Latch) → Heard l → m.word.queued ≡ l.word.queued → m.word.closed ≡ l.word.closed
    → (IsAwaited m.word → m.calls ≡ l.calls + 1) → (¬ (IsAwaited m.word) → m.calls ≡ l.calls) → Heard (latch_of l.waiters m.word m.calls)
heard_leaves l m h queued closed awaited not = same_queue l m.word m.calls h queued closed (λ some. dite (ℕ_discrete (m.word.readers + m.word.writers) 0)
    (λ gone. let calls = awaited (queued ∙ h.told ∙ some_is _ some, λ latched. absurd (omega arith)) in inl (omega arith))
    (λ has. inl (omega arith)))

-- A thread enters where the latch is not free.
latched_or_waited : (l : Latch) (latch : ℕ) → Heard l → ¬ (IsFree latch l.word) → all_of l.waiters ≡ 0 → 0 < l.word.readers + l.word.writers
latched_or_waited l latch h taken none = dite (ℕ_discrete (l.word.readers + l.word.writers) 0)
    (λ gone. absurd (taken (omega arith, h.free none, λ _. omega arith)))
    (λ has. omega arith)

still_heard : (l : Latch) (latch : ℕ) → Heard l → ¬ (IsFree latch l.word) → (0 < l.word.readers + l.word.writers + l.calls) ⊎ ((l.waiters.is_awake ≡ true) × (l.waiters.first ≡ 0))
still_heard l latch h taken = dite (ℕ_discrete (all_of l.waiters) 0)
    (λ none. let has = latched_or_waited l latch h taken none in inl (omega arith))
    (λ some. h.heard (omega arith))

heard_enters : (now latch : ℕ) (place : Option Place) (l m : Latch) → Heard l → ¬ (IsFree latch l.word) → m.calls ≡ l.calls → Enters now latch l.waiters l.word m.waiters m.word place → Heard m
heard_enters now latch place l m h taken calls (last_writer is then word place_is) =
    let order = h.order in
    let q' : Waiters = record l.waiters { writers = l.waiters.writers + 1; since = first_since (writers_of l.waiters) l.waiters.since now } in
    heard_at m q' (record l.word { queued = 1; closed = 1 }) then word (record {
      told = sym (some_is _ (omega arith));
      free = λ none. absurd (omega arith);
      behind = λ _. refl;
      shut = λ _ _. refl;
      awake = λ _. omega arith;
      order = omega arith;
      heard = λ _. ⊎_elim
          (λ (has : 0 < l.word.readers + l.word.writers + l.calls). inl (omega arith))
          (λ (woken : (l.waiters.is_awake ≡ true) × (l.waiters.first ≡ 0)). inr woken)
          (still_heard l latch h taken);
    })
heard_enters now latch place l m h taken calls (first_readers is written then word place_is) =
    let order = h.order in
    let q' : Waiters = record l.waiters { first = l.waiters.first + 1 } in
    heard_at m q' (record l.word { queued = 1; closed = 1 }) then word (record {
      told = sym (some_is _ (omega arith));
      free = λ none. absurd (omega arith);
      behind = λ _. refl;
      shut = λ _ _. refl;
      awake = h.awake;
      order = order;
      heard = λ _. inl (omega arith);
    })
heard_enters now latch place l m h taken calls (second_readers is unwritten then word place_is) =
    let order = h.order in
    let q' : Waiters = record l.waiters { second = l.waiters.second + 1 } in
    heard_at m q' (record l.word { queued = 1; closed = 1 }) then word (record {
      told = sym (some_is _ (omega arith));
      free = λ none. absurd (omega arith);
      behind = λ _. refl;
      shut = λ _ _. refl;
      awake = h.awake;
      order = order;
      heard = λ _. ⊎_elim
          (λ (has : 0 < l.word.readers + l.word.writers + l.calls). inl (omega arith))
          (λ (woken : (l.waiters.is_awake ≡ true) × (l.waiters.first ≡ 0)). inr woken)
          (still_heard l latch h taken);
    })

-- The first writer is let in.
heard_writer_in : (now : ℕ) (l : Latch) (calls : ℕ) → Heard l → l.waiters.let_in < l.waiters.writers
    → Heard (latch_of (without_writer now l.waiters) (told (without_writer now l.waiters) (record l.word { writers = 1 })) calls)
heard_writer_in now l calls h some_writer = record {
  told = refl;
  free = λ none. ap some_of none;
  behind = λ some. some_is _ (omega arith);
  shut = λ some _. some_is _ some;
  awake = λ is. absurd (not_yes is);
  order = omega arith;
  heard = λ _. inl (omega arith);
}

heard_hands : (now : ℕ) (place : Option Place) (l m : Latch) → Heard l → HandsOver now l.waiters l.word m.waiters m.word place → Heard m
heard_hands now place l m h (nobody_waits none then word place_is) =
    heard_at m l.waiters l.word then word (same_queue l l.word m.calls h refl refl (λ some. absurd (omega arith)))
heard_hands now place l m h (lets_readers_in next unwritten then word place_is) =
    let q' : Waiters = without_readers l.waiters in
    let f : Fields = record l.word { readers = l.word.readers + readers_of l.waiters } in
    let some_reader : 0 < readers_of l.waiters = ⊎_elim
    (λ (first : 0 < l.waiters.first). let P : ℕ → Type 0 = λ n. 0 < n in omega arith)
    (λ (rest : (writers_of l.waiters ≡ 0) × (0 < l.waiters.second)). let second = rest.1 in omega arith)
    next in
    heard_at m q' (told q' f) then (word ∙ ap (λ (u : Waiters). told u f) then) (record {
      told = refl;
      free = λ none. ap some_of none;
      behind = λ some. absurd (omega arith);
      shut = λ some _. some_is _ some;
      awake = h.awake;
      order = h.order;
      heard = λ _. inl (omega arith);
    })
heard_hands now place l m h (readers_wait_on next written then word place_is) =
    heard_at m l.waiters l.word then word (same_queue l l.word m.calls h refl refl (λ some. inl (omega arith)))
heard_hands now place l m h (lets_writer_in next free then word place_is) =
    let some_writer = next.1 in
    heard_at m (without_writer now l.waiters) (told (without_writer now l.waiters) (record l.word { writers = 1 })) then
    (word ∙ ap (λ (u : Waiters). told u (record l.word { writers = 1 })) then)
    (heard_writer_in now l m.calls h (omega arith))
heard_hands now place l m h (writer_waits_on next latched then word place_is) =
    let some_writer = next.1 in
    heard_at m l.waiters (told l.waiters l.word) then word (record {
      told = refl;
      free = λ none. ap some_of none;
      behind = λ some. some_is _ (omega arith);
      shut = λ some _. some_is _ some;
      awake = h.awake;
      order = h.order;
      heard = λ _. inl (omega arith);
    })
heard_hands now place l m h (wakes_writer early then word place_is) =
    let none_first = early.0 in
    let none_second = early.1 in
    heard_at m (record l.waiters { is_awake = true }) (record l.word { closed = 0 }) then word (record {
      told = h.told;
      free = λ _. refl;
      behind = λ some. absurd (omega arith);
      shut = λ _ asleep. absurd (not_no asleep);
      awake = λ _. early.2;
      order = h.order;
      heard = λ _. inr (refl, early.0);
    })

heard_looks : (now ticket : ℕ) (l m : Latch) → Heard l → ticket < l.waiters.writers → m.calls ≡ l.calls → Looks now ticket l.waiters l.word m.waiters m.word → Heard m
heard_looks now ticket l m h mine calls (sleeps_on why then word) =
    heard_at m l.waiters l.word then word (same_queue l l.word m.calls h refl refl (λ some. ⊎_elim
    (λ (has : 0 < l.word.readers + l.word.writers + l.calls). inl (omega arith))
    (λ (woken : (l.waiters.is_awake ≡ true) × (l.waiters.first ≡ 0)). inr woken)
    (h.heard some)))
heard_looks now ticket l m h mine calls (is_behind is woken first then word) =
    heard_at m (record l.waiters { is_awake = false }) l.word then word (record {
      told = h.told;
      free = h.free;
      behind = h.behind;
      shut = λ _ _. h.behind (omega arith);
      awake = λ e. absurd (not_yes e);
      order = h.order;
      heard = λ some. ⊎_elim
          (λ (has : 0 < l.word.readers + l.word.writers + l.calls). inl (omega arith))
          (λ (other : (l.waiters.is_awake ≡ true) × (l.waiters.first ≡ 0)). let none = other.1 in absurd (omega arith))
          (h.heard some);
    })
heard_looks now ticket l m h mine calls (takes is woken first free then word) =
    heard_at m (without_writer now l.waiters) (told (without_writer now l.waiters) (record l.word { writers = 1 })) then
    (word ∙ ap (λ (u : Waiters). told u (record l.word { writers = 1 })) then)
    (heard_writer_in now l m.calls h (omega arith))
heard_looks now ticket l m h mine calls (finds_it_taken is woken first latched then word) =
    heard_at m (record l.waiters { is_awake = false }) (record l.word { queued = 1; closed = 1 }) then word (record {
      told = sym (some_is _ (omega arith));
      free = λ none. absurd (omega arith);
      behind = λ _. refl;
      shut = λ _ _. refl;
      awake = λ e. absurd (not_yes e);
      order = h.order;
      heard = λ _. inl (omega arith);
    })

pub heard_step : (now : ℕ) (l m : Latch) → Step now l m → Heard l → Heard m
heard_step now l m (comes then calls queued closed more writers) h = heard_at m l.waiters m.word then refl (heard_comes l m h calls queued closed more writers)
heard_step now l m (leaves then queued closed less fewer awaited not) h = heard_at m l.waiters m.word then refl (heard_leaves l m h queued closed awaited not)
heard_step now l m (enters latch place taken calls how) h = heard_enters now latch place l m h taken calls how
heard_step now l m (hands_over place calls how) h = heard_hands now place l m h how
heard_step now l m (looks ticket mine calls how) h = heard_looks now ticket l m h mine calls how

pub heard_way : (from : ℕ) (l m : Latch) → Way from l m → Heard l → Heard m
heard_way from l _ here h = h
heard_way from l _ (on m n now late way step) h = heard_step now m n step (heard_way from l m way h)

-- ---- The changes of the word

pub reads_step : (now : ℕ) (q : Waiters) (f : Fields) (calls pins joins : ℕ) → Step now (latch_of q f calls) (latch_of q (record f { readers = f.readers + 1; pins = pins; joins = joins }) calls)
reads_step now q f calls pins joins = comes refl refl refl refl (omega arith) (inl refl)

pub writes_step : (now : ℕ) (q : Waiters) (f : Fields) (calls pins joins : ℕ) → IsFree 1099511627776 f → Step now (latch_of q f calls) (latch_of q (record f { writers = 1; pins = pins; joins = joins }) calls)
writes_step now q f calls pins joins free = comes refl refl refl refl (omega arith) (inr (refl, free.1))

pub pins_step : (now : ℕ) (q : Waiters) (f : Fields) (calls pins out stays joins : ℕ) → Step now (latch_of q f calls) (latch_of q (record f { pins = pins; out = out; stays = stays; joins = joins }) calls)
pins_step now q f calls pins out stays joins = comes refl refl refl refl (omega arith) (inl refl)

pub leaves_step : (now : ℕ) (q : Waiters) (f : Fields) (calls readers writers pins : ℕ) → readers ≤ f.readers → writers ≤ f.writers
    → let left = record f { readers = readers; writers = writers; pins = pins } in (IsAwaited left → Step now (latch_of q f calls) (latch_of q left (calls + 1))) × (¬ (IsAwaited left) → Step now (latch_of q f calls) (latch_of q left calls))
leaves_step now q f calls readers writers pins less fewer =
    ((λ awaited. leaves refl refl refl less fewer (λ _. refl) (λ not. absurd (not awaited))), (λ not. leaves refl refl refl less fewer (λ awaited. absurd (not awaited)) (λ _. refl)))
