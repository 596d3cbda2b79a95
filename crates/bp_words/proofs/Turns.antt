-- Who is let in, who is woken, and how long the others wait.
use Rattle.std.proofs.Common.{◌≡◌, ◌≢◌, ◌⊎◌, ℕ, zero, suc, ◌+◌, ◌-◌, ◌<◌, ◌≤◌, Bool, true, false, Option, Some, None, refl, sym, ap, ◌∙◌, subst, inl, inr, ⊎_elim, arith}
use mathlib.Core.Logic.{dite}
use native.Mathlib.Decide.{ℕ_discrete}
use Rattle.bp_words.specs.declared.waiters.Waiters.{Waiters}
use Rattle.bp_words.specs.declared.waiters.Place.{Place}
use Rattle.bp_words.specs.declared.waiters.Place.TheVariants.{Readers, Writer}
use Rattle.bp_words.specs.Fields.{Fields, IsLatched, some_of}
use Rattle.bp_words.specs.Waiters.{readers_of, writers_of, all_of, IsLetIn, IsDue, ReadersAreNext, WriterIsNext, WriterIsEarly, without_readers, without_writer, told, first_since, first_writer, Enters, HandsOver, Looks}
use Rattle.bp_words.specs.Waiters.Enters.{last_writer, first_readers, second_readers}
use Rattle.bp_words.specs.Waiters.HandsOver.{nobody_waits, lets_readers_in, readers_wait_on, lets_writer_in, writer_waits_on, wakes_writer}
use Rattle.bp_words.specs.Waiters.Looks.{sleeps_on, is_behind, takes, finds_it_taken}
use Rattle.bp_words.specs.Latch.{Latch, latch_of, Step, Way, Heard}
use Rattle.bp_words.specs.Latch.Step.{comes, leaves, enters, hands_over, looks}
use Rattle.bp_words.specs.Latch.Way.{here, on}
use Rattle.bp_words.proofs.Steps.{not_yes, some_is}
use Rattle.bp_words.proofs.Latch.{heard_step, heard_way}

-- ---- Who is let in

-- At an equal queue.
let_in_at : (sleeper : Place) (q then : Waiters) → then ≡ q → IsLetIn sleeper q → IsLetIn sleeper then
let_in_at sleeper q then is = subst (IsLetIn sleeper) (sym is)

pub first_in : (now : ℕ) (q then : Waiters) (f word : Fields) (place : Option Place) → HandsOver now q f then word place → ¬ (IsLatched f) → 0 < all_of q
    → ((IsLetIn (Readers q.turns) then) × (word.readers ≡ f.readers + readers_of q) × (readers_of then ≡ 0)) ⊎ ((IsLetIn (Writer q.let_in) then) × (word.writers ≡ 1)) ⊎ (WriterIsEarly now q × (then.is_awake ≡ true) × (word.closed ≡ 0))
first_in now q then f word place (nobody_waits none t w p) free some = absurd (omega arith)
first_in now q then f word place (lets_readers_in next unwritten t w p) free some =
    inl (let_in_at (Readers q.turns) (without_readers q) then t (omega arith), ap (λ (u : Fields). u.readers) w, ap readers_of t)
first_in now q then f word place (readers_wait_on next written t w p) free some = absurd (free (omega arith))
first_in now q then f word place (lets_writer_in next unlatched t w p) free some =
    inr (inl (let_in_at (Writer q.let_in) (without_writer now q) then t (omega arith), ap (λ (u : Fields). u.writers) w))
first_in now q then f word place (writer_waits_on next latched t w p) free some = absurd (free latched)
first_in now q then f word place (wakes_writer early t w p) free some =
    inr (inr (early, ap (λ (u : Waiters). u.is_awake) t, ap (λ (u : Fields). u.closed) w))

pub first_looks : (now : ℕ) (q then : Waiters) (f word : Fields) → Looks now q.let_in q f then word → q.is_awake ≡ true → q.first ≡ 0 → ¬ (IsLatched f) → (IsLetIn (Writer q.let_in) then) × (word.writers ≡ 1)
first_looks now q then f word (sleeps_on why t w) awake none free = absurd (not_yes (sym (why refl) ∙ awake))
first_looks now q then f word (is_behind is woken first t w) awake none free = absurd (omega arith)
first_looks now q then f word (takes is woken first unlatched t w) awake none free =
    (let_in_at (Writer q.let_in) (without_writer now q) then t (omega arith), ap (λ (u : Fields). u.writers) w)
first_looks now q then f word (finds_it_taken is woken first latched t w) awake none free = absurd (free latched)

-- ---- Who is woken

unmoved_in : (sleeper : Place) (q then : Waiters) {A : Type 0} → then.turns ≡ q.turns → then.let_in ≡ q.let_in → ¬ (IsLetIn sleeper q) → IsLetIn sleeper then → A
unmoved_in (Readers turn) q then turns let_in out is = absurd (out (omega arith))
unmoved_in (Writer ticket) q then turns let_in out is = absurd (out (omega arith))

readers_woken : (sleeper : Place) (q then : Waiters) → then.turns ≡ q.turns + 1 → then.let_in ≡ q.let_in → ¬ (IsLetIn sleeper q) → IsLetIn sleeper then → sleeper ≡ Readers q.turns
readers_woken (Readers turn) q then turns let_in out is = ap Readers (omega arith)
readers_woken (Writer ticket) q then turns let_in out is = absurd (out (omega arith))

writer_woken : (sleeper : Place) (q then : Waiters) → then.turns ≡ q.turns → then.let_in ≡ q.let_in + 1 → ¬ (IsLetIn sleeper q) → IsLetIn sleeper then → sleeper ≡ Writer q.let_in
writer_woken (Readers turn) q then turns let_in out is = absurd (out (omega arith))
writer_woken (Writer ticket) q then turns let_in out is = ap Writer (omega arith)

abbrev turns_of : Waiters → ℕ
turns_of q = q.turns

abbrev let_in_of : Waiters → ℕ
let_in_of q = q.let_in

pub hands_woken : (now : ℕ) (q then : Waiters) (f word : Fields) (place : Option Place) (sleeper : Place) → HandsOver now q f then word place → ¬ (IsLetIn sleeper q) → IsLetIn sleeper then → place ≡ Some sleeper
hands_woken now q then f word place sleeper (nobody_waits none t w p) out is = unmoved_in sleeper q then (ap turns_of t) (ap let_in_of t) out is
hands_woken now q then f word place sleeper (lets_readers_in next unwritten t w p) out is = p ∙ ap Some (sym (readers_woken sleeper q then (ap turns_of t) (ap let_in_of t) out is))
hands_woken now q then f word place sleeper (readers_wait_on next written t w p) out is = unmoved_in sleeper q then (ap turns_of t) (ap let_in_of t) out is
hands_woken now q then f word place sleeper (lets_writer_in next unlatched t w p) out is = p ∙ ap Some (sym (writer_woken sleeper q then (ap turns_of t) (ap let_in_of t) out is))
hands_woken now q then f word place sleeper (writer_waits_on next latched t w p) out is = unmoved_in sleeper q then (ap turns_of t) (ap let_in_of t) out is
hands_woken now q then f word place sleeper (wakes_writer early t w p) out is = unmoved_in sleeper q then (ap turns_of t) (ap let_in_of t) out is

abbrev awake_of : Waiters → Bool
awake_of q = q.is_awake

pub woken_to_look : (now : ℕ) (q then : Waiters) (f word : Fields) (place : Option Place) → HandsOver now q f then word place → q.is_awake ≡ false → then.is_awake ≡ true → place ≡ Some (Writer q.let_in)
woken_to_look now q then f word place (nobody_waits none t w p) asleep awake = absurd (not_yes (sym asleep ∙ (sym (ap awake_of t) ∙ awake)))
woken_to_look now q then f word place (lets_readers_in next unwritten t w p) asleep awake = absurd (not_yes (sym asleep ∙ (sym (ap awake_of t) ∙ awake)))
woken_to_look now q then f word place (readers_wait_on next written t w p) asleep awake = absurd (not_yes (sym asleep ∙ (sym (ap awake_of t) ∙ awake)))
woken_to_look now q then f word place (lets_writer_in next unlatched t w p) asleep awake = absurd (not_yes (sym (ap awake_of t) ∙ awake))
woken_to_look now q then f word place (writer_waits_on next latched t w p) asleep awake = absurd (not_yes (sym asleep ∙ (sym (ap awake_of t) ∙ awake)))
woken_to_look now q then f word place (wakes_writer early t w p) asleep awake = p ∙ ap (first_writer q) asleep

pub looks_for_itself : (now ticket : ℕ) (q then : Waiters) (f word : Fields) (sleeper : Place) → Looks now ticket q f then word → ¬ (IsLetIn sleeper q) → IsLetIn sleeper then → sleeper ≡ Writer ticket
looks_for_itself now ticket q then f word sleeper (sleeps_on why t w) out is = unmoved_in sleeper q then (ap turns_of t) (ap let_in_of t) out is
looks_for_itself now ticket q then f word sleeper (is_behind at woken first t w) out is = unmoved_in sleeper q then (ap turns_of t) (ap let_in_of t) out is
looks_for_itself now ticket q then f word sleeper (takes at woken first unlatched t w) out is = writer_woken sleeper q then (ap turns_of t) (ap let_in_of t) out is ∙ ap Writer at
looks_for_itself now ticket q then f word sleeper (finds_it_taken at woken first latched t w) out is = unmoved_in sleeper q then (ap turns_of t) (ap let_in_of t) out is

-- ---- How long a reader waits

-- What a step makes of those that wait: until readers are let in none of them goes, and a writer that is let in has
-- those that waited behind it go before the next one.
record Moves (q then : Waiters) : Type 0 where
  turns : q.turns ≤ then.turns
  let_in : q.let_in ≤ then.let_in
  readers : then.turns ≡ q.turns → readers_of q ≤ readers_of then
  passed : then.turns ≡ q.turns → 0 < readers_of q → then.let_in + (1 - then.first) ≤ q.let_in + (1 - q.first)

moves_at : (q then goal : Waiters) → then ≡ goal → Moves q goal → Moves q then
moves_at q then goal is = subst (Moves q) (sym is)

moves_not : (q : Waiters) → Moves q q
moves_not q = record { turns = omega arith; let_in = omega arith; readers = λ _. omega arith; passed = λ _ _. omega arith }

moves_writer : (now : ℕ) (q : Waiters) → q.first ≡ 0 → Moves q (without_writer now q)
moves_writer now q none = record { turns = omega arith; let_in = omega arith; readers = λ _. omega arith; passed = λ _ some. omega arith }

moves_enters : (now latch : ℕ) (q then : Waiters) (f word : Fields) (place : Option Place) → Enters now latch q f then word place → Moves q then
moves_enters now latch q then f word place (last_writer is t w p) =
    moves_at q then (record q { writers = q.writers + 1; since = first_since (writers_of q) q.since now }) t (record { turns = omega arith; let_in = omega arith; readers = λ _. omega arith; passed = λ _ _. omega arith })
moves_enters now latch q then f word place (first_readers is written t w p) =
    moves_at q then (record q { first = q.first + 1 }) t (record { turns = omega arith; let_in = omega arith; readers = λ _. omega arith; passed = λ _ _. omega arith })
moves_enters now latch q then f word place (second_readers is unwritten t w p) =
    moves_at q then (record q { second = q.second + 1 }) t (record { turns = omega arith; let_in = omega arith; readers = λ _. omega arith; passed = λ _ _. omega arith })

moves_hands : (now : ℕ) (q then : Waiters) (f word : Fields) (place : Option Place) → HandsOver now q f then word place → Moves q then
moves_hands now q then f word place (nobody_waits none t w p) = moves_at q then q t (moves_not q)
moves_hands now q then f word place (lets_readers_in next unwritten t w p) =
    moves_at q then (without_readers q) t (record { turns = omega arith; let_in = omega arith; readers = λ same. absurd (omega arith); passed = λ same _. absurd (omega arith) })
moves_hands now q then f word place (readers_wait_on next written t w p) = moves_at q then q t (moves_not q)
moves_hands now q then f word place (lets_writer_in next unlatched t w p) = moves_at q then (without_writer now q) t (moves_writer now q next.0)
moves_hands now q then f word place (writer_waits_on next latched t w p) = moves_at q then q t (moves_not q)
moves_hands now q then f word place (wakes_writer early t w p) =
    moves_at q then (record q { is_awake = true }) t (record { turns = omega arith; let_in = omega arith; readers = λ _. omega arith; passed = λ _ _. omega arith })

moves_looks : (now ticket : ℕ) (q then : Waiters) (f word : Fields) → Looks now ticket q f then word → Moves q then
moves_looks now ticket q then f word (sleeps_on why t w) = moves_at q then q t (moves_not q)
moves_looks now ticket q then f word (is_behind is woken first t w) =
    moves_at q then (record q { is_awake = false }) t (record { turns = omega arith; let_in = omega arith; readers = λ _. omega arith; passed = λ _ _. omega arith })
moves_looks now ticket q then f word (takes is woken first unlatched t w) = moves_at q then (without_writer now q) t (moves_writer now q first)
moves_looks now ticket q then f word (finds_it_taken is woken first latched t w) =
    moves_at q then (record q { is_awake = false }) t (record { turns = omega arith; let_in = omega arith; readers = λ _. omega arith; passed = λ _ _. omega arith })

moves : (now : ℕ) (l m : Latch) → Step now l m → Moves l.waiters m.waiters
moves now l m (comes then calls queued closed more writers) = moves_at l.waiters m.waiters l.waiters then (moves_not l.waiters)
moves now l m (leaves then queued closed less fewer awaited not) = moves_at l.waiters m.waiters l.waiters then (moves_not l.waiters)
moves now l m (enters latch place taken calls how) = moves_enters now latch l.waiters m.waiters l.word m.word place how
moves now l m (hands_over place calls how) = moves_hands now l.waiters m.waiters l.word m.word place how
moves now l m (looks ticket mine calls how) = moves_looks now ticket l.waiters m.waiters l.word m.word how

moves_on : (q then last : Waiters) → Moves q then → Moves then last → Moves q last
moves_on q then last a b =
    let t1 = a.turns in
    let t2 = b.turns in
    let l1 = a.let_in in
    let l2 = b.let_in in record {
      turns = omega arith;
      let_in = omega arith;
      readers = λ same. let r1 = a.readers (omega arith) in let r2 = b.readers (omega arith) in omega arith;
      passed = λ same some. let r1 = a.readers (omega arith) in let p1 = a.passed (omega arith) some in let p2 = b.passed (omega arith) (omega arith) in omega arith;
    }

moves_way : (from : ℕ) (l m : Latch) → Way from l m → Moves l.waiters m.waiters
moves_way from l _ here = moves_not l.waiters
moves_way from l _ (on m n now late way step) = moves_on l.waiters m.waiters n.waiters (moves_way from l m way) (moves now m n step)

pub reader_waits : (from : ℕ) (l m : Latch) → Heard l → Way from l m → 0 < readers_of l.waiters → m.waiters.turns ≡ l.waiters.turns
    → (m.word.closed ≡ 1) × (m.waiters.let_in ≤ l.waiters.let_in + 1) × (0 < l.waiters.first → m.waiters.let_in ≡ l.waiters.let_in)
reader_waits from l m h way some same =
    let all = moves_way from l m way in
    let readers = all.readers same in
    let passed = all.passed same some in
    let order = all.let_in in
    ((heard_way from l m way h).behind (omega arith), omega arith, λ first. omega arith)

-- ---- How long a writer waits that is due

-- There is a turn of readers to come before the first writer where a writer has the latch, or readers are next.
abbrev turns_before : Latch → ℕ
turns_before l = 1 - (1 - (l.word.writers + l.waiters.first))

record Shut (l m : Latch) : Type 0 where
  let_in : l.waiters.let_in ≤ m.waiters.let_in
  closed : m.waiters.let_in ≡ l.waiters.let_in → m.word.closed ≡ 1
  since : m.waiters.let_in ≡ l.waiters.let_in → m.waiters.since ≡ l.waiters.since
  some : m.waiters.let_in ≡ l.waiters.let_in → writers_of l.waiters ≤ writers_of m.waiters
  turns : m.waiters.let_in ≡ l.waiters.let_in → l.waiters.turns ≤ m.waiters.turns
  before : m.waiters.let_in ≡ l.waiters.let_in → m.waiters.turns + turns_before m ≤ l.waiters.turns + turns_before l

shut_at : (l m : Latch) (q : Waiters) (f : Fields) → m.waiters ≡ q → m.word ≡ f → Shut l (latch_of q f m.calls) → Shut l m
shut_at l m q f eq ef h = subst (λ (x : Waiters × Fields). Shut l (latch_of x.0 x.1 m.calls)) (λ i. (sym eq i, sym ef i)) h

-- The queue is the same, and no writer comes.
shut_same : (l : Latch) (f : Fields) (calls : ℕ) → f.closed ≡ 1 → f.writers ≤ l.word.writers → Shut l (latch_of l.waiters f calls)
shut_same l f calls closed fewer = record { let_in = omega arith; closed = λ _. closed; since = λ _. refl; some = λ _. omega arith; turns = λ _. omega arith; before = λ _. omega arith }

shut_let_in : (l : Latch) (q : Waiters) (f : Fields) (calls : ℕ) → q.let_in ≡ l.waiters.let_in + 1 → Shut l (latch_of q f calls)
shut_let_in l q f calls up = record { let_in = omega arith; closed = λ same. absurd (omega arith); since = λ same. absurd (omega arith); some = λ same. absurd (omega arith); turns = λ same. absurd (omega arith); before = λ same. absurd (omega arith) }

later_since : (others since now : ℕ) → 0 < others → first_since others since now ≡ since
later_since zero since now some = absurd (omega arith)
later_since (suc others) since now some = refl

shut_enters : (now latch : ℕ) (place : Option Place) (l m : Latch) → 0 < writers_of l.waiters → Enters now latch l.waiters l.word m.waiters m.word place → Shut l m
shut_enters now latch place l m some (last_writer is t w p) =
    shut_at l m (record l.waiters { writers = l.waiters.writers + 1; since = first_since (writers_of l.waiters) l.waiters.since now }) (record l.word { queued = 1; closed = 1 }) t w
    (record { let_in = omega arith; closed = λ _. refl; since = λ _. later_since _ _ _ some; some = λ _. omega arith; turns = λ _. omega arith; before = λ _. omega arith })
shut_enters now latch place l m some (first_readers is written t w p) =
    shut_at l m (record l.waiters { first = l.waiters.first + 1 }) (record l.word { queued = 1; closed = 1 }) t w
    (record { let_in = omega arith; closed = λ _. refl; since = λ _. refl; some = λ _. omega arith; turns = λ _. omega arith; before = λ _. omega arith })
shut_enters now latch place l m some (second_readers is unwritten t w p) =
    shut_at l m (record l.waiters { second = l.waiters.second + 1 }) (record l.word { queued = 1; closed = 1 }) t w
    (record { let_in = omega arith; closed = λ _. refl; since = λ _. refl; some = λ _. omega arith; turns = λ _. omega arith; before = λ _. omega arith })

shut_hands : (now : ℕ) (place : Option Place) (l m : Latch) → 0 < writers_of l.waiters → IsDue now l.waiters → (0 < readers_of l.waiters → l.word.closed ≡ 1) → HandsOver now l.waiters l.word m.waiters m.word place → Shut l m
shut_hands now place l m some due closed (nobody_waits none t w p) = absurd (omega arith)
shut_hands now place l m some due closed (lets_readers_in next unwritten t w p) =
    let q' : Waiters = without_readers l.waiters in
    let f : Fields = record l.word { readers = l.word.readers + readers_of l.waiters } in
    let first : 0 < l.waiters.first = ⊎_elim
    (λ (first : 0 < l.waiters.first). let P : ℕ → Type 0 = λ n. 0 < n in first)
    (λ (rest : (writers_of l.waiters ≡ 0) × (0 < l.waiters.second)). let none = rest.0 in absurd (omega arith))
    next in
    shut_at l m q' (told q' f) t (w ∙ ap (λ (u : Waiters). told u f) t)
    (record { let_in = omega arith; closed = λ _. some_is _ (omega arith); since = λ _. refl; some = λ _. omega arith; turns = λ _. omega arith; before = λ _. omega arith })
shut_hands now place l m some due closed (readers_wait_on next written t w p) =
    let some_reader : 0 < readers_of l.waiters = ⊎_elim
    (λ (first : 0 < l.waiters.first). omega arith)
    (λ (rest : (writers_of l.waiters ≡ 0) × (0 < l.waiters.second)). let second = rest.1 in omega arith)
    next in
    shut_at l m l.waiters l.word t w (shut_same l l.word m.calls (closed some_reader) (omega arith))
shut_hands now place l m some due closed (lets_writer_in next unlatched t w p) =
    shut_at l m (without_writer now l.waiters) m.word t refl (shut_let_in l (without_writer now l.waiters) m.word m.calls refl)
shut_hands now place l m some due closed (writer_waits_on next latched t w p) =
    shut_at l m l.waiters (told l.waiters l.word) t w (shut_same l (told l.waiters l.word) m.calls (some_is _ (omega arith)) (omega arith))
shut_hands now place l m some due closed (wakes_writer early t w p) = let less = early.3 in absurd (omega arith)

shut_looks : (now ticket : ℕ) (l m : Latch) → l.word.closed ≡ 1 → Looks now ticket l.waiters l.word m.waiters m.word → Shut l m
shut_looks now ticket l m closed (sleeps_on why t w) = shut_at l m l.waiters l.word t w (shut_same l l.word m.calls closed (omega arith))
shut_looks now ticket l m closed (is_behind is woken first t w) =
    shut_at l m (record l.waiters { is_awake = false }) l.word t w
    (record { let_in = omega arith; closed = λ _. closed; since = λ _. refl; some = λ _. omega arith; turns = λ _. omega arith; before = λ _. omega arith })
shut_looks now ticket l m closed (takes is woken first unlatched t w) =
    shut_at l m (without_writer now l.waiters) m.word t refl (shut_let_in l (without_writer now l.waiters) m.word m.calls refl)
shut_looks now ticket l m closed (finds_it_taken is woken first latched t w) =
    shut_at l m (record l.waiters { is_awake = false }) (record l.word { queued = 1; closed = 1 }) t w
    (record { let_in = omega arith; closed = λ _. refl; since = λ _. refl; some = λ _. omega arith; turns = λ _. omega arith; before = λ _. omega arith })

shut_step : (now : ℕ) (l m : Latch) → 0 < writers_of l.waiters → IsDue now l.waiters → l.word.closed ≡ 1 → Step now l m → Shut l m
shut_step now l m some due closed (comes t calls queued kept more writers) =
    let fewer : m.word.writers ≤ l.word.writers = ⊎_elim
    (λ (same : m.word.writers ≡ l.word.writers). omega arith)
    (λ (took : (m.word.writers ≡ 1) × (l.word.closed ≡ 0)). let open_word = took.1 in absurd (omega arith))
    writers in
    shut_at l m l.waiters m.word t refl (shut_same l m.word m.calls (kept ∙ closed) fewer)
shut_step now l m some due closed (leaves t queued kept less fewer awaited not) = shut_at l m l.waiters m.word t refl (shut_same l m.word m.calls (kept ∙ closed) fewer)
shut_step now l m some due closed (enters latch place taken calls how) = shut_enters now latch place l m some how
shut_step now l m some due closed (hands_over place calls how) = shut_hands now place l m some due (λ _. closed) how
shut_step now l m some due closed (looks ticket mine calls how) = shut_looks now ticket l m closed how

pub due_closes : (now : ℕ) (l m : Latch) (place : Option Place) → Heard l → HandsOver now l.waiters l.word m.waiters m.word place → 0 < writers_of l.waiters → IsDue now l.waiters → m.waiters.let_in ≡ l.waiters.let_in → m.word.closed ≡ 1
due_closes now l m place h how some due same = (shut_hands now place l m some due h.behind how).closed same

shut_on : (now : ℕ) (l m n : Latch) → 0 < writers_of l.waiters → IsDue now l.waiters → Shut l m → Moves m.waiters n.waiters → (m.waiters.let_in ≡ l.waiters.let_in → Shut m n) → Shut l n
shut_on now l m n some due a moved b =
    let l1 = a.let_in in
    let l2 = moved.let_in in record {
      let_in = omega arith;
      closed = λ same. (b (omega arith)).closed (omega arith);
      since = λ same. (b (omega arith)).since (omega arith) ∙ a.since (omega arith);
      some = λ same. let s1 = a.some (omega arith) in let s2 = (b (omega arith)).some (omega arith) in omega arith;
      turns = λ same. let t1 = a.turns (omega arith) in let t2 = (b (omega arith)).turns (omega arith) in omega arith;
      before = λ same. let b1 = a.before (omega arith) in let b2 = (b (omega arith)).before (omega arith) in omega arith;
    }

shut_way : (from : ℕ) (l m : Latch) → 0 < writers_of l.waiters → IsDue from l.waiters → l.word.closed ≡ 1 → Way from l m → Shut l m
shut_way from l _ some due closed here = shut_same l l.word l.calls closed (omega arith)
shut_way from l _ some due closed (on m n now late way step) =
    let before : Shut l m = shut_way from l m some due closed way in
    shut_on now l m n some (omega arith) before (moves now m n step) (λ same.
    let more = before.some same in
    let since = before.since same in
    shut_step now m n (omega arith) (omega arith) (before.closed same) step)

pub due_stays : (from : ℕ) (l m : Latch) → Heard l → Way from l m → 0 < writers_of l.waiters → IsDue from l.waiters → l.word.closed ≡ 1 → m.waiters.let_in ≡ l.waiters.let_in
    → (m.word.closed ≡ 1) × (m.waiters.turns ≤ l.waiters.turns + 1) × (l.word.writers + l.waiters.first ≡ 0 → m.waiters.turns ≡ l.waiters.turns)
due_stays from l m h way some due closed same =
    let all = shut_way from l m some due closed way in
    let before = all.before same in
    let turns = all.turns same in
    (all.closed same, omega arith, λ none. omega arith)
