-- A latch that threads wait for, step by step. All of it computes.
use Rattle.std.proofs.Common.{◌≡◌, ◌⊎◌, ℕ, ◌+◌, ◌-◌, ◌<◌, ◌≤◌, Bool, true, false, Option, Some, None, refl, sym, inl, inr, ⊎_elim, arith}
use Rattle.bp_words.specs.declared.waiters.Waiters.{Waiters}
use Rattle.bp_words.specs.declared.waiters.Place.{Place}
use Rattle.bp_words.specs.declared.waiters.Place.TheVariants.{Readers, Writer}
use Rattle.bp_words.specs.Fields.{Fields, IsFree}
use Rattle.bp_words.specs.Waiters.{readers_of, writers_of, IsLetIn, IsDue, Enters, HandsOver, Looks}
use Rattle.bp_words.specs.Waiters.Enters.{last_writer, first_readers, second_readers}
use Rattle.bp_words.specs.Waiters.HandsOver.{lets_readers_in, lets_writer_in, writer_waits_on, wakes_writer}
use Rattle.bp_words.specs.Waiters.Looks.{takes, finds_it_taken}
use Rattle.bp_words.specs.Latch.{Latch, latch_of, Step, Way, Heard}
use Rattle.bp_words.specs.Latch.Step.{comes, leaves, enters, hands_over, looks}
use Rattle.bp_words.specs.Latch.Way.{here, on}
use Rattle.bp_words.proofs.Latch.{heard_first, heard_way}
use Rattle.bp_words.proofs.Turns.{reader_waits, due_stays}

-- so many readers and writers, and what the word says of those that wait
abbrev word : ℕ → ℕ → ℕ → ℕ → Fields
word r w q c = record { readers = r; pins = 3; writers = w; queued = q; out = 1; stays = 0; closed = c; joins = 0 }

abbrev nobody : Waiters
nobody = record { writers = 0; let_in = 0; since = 0; is_awake = false; first = 0; second = 0; turns = 0 }

-- ---- Two readers and two writers wait

-- one reads; a writer waits for it, then a reader, then another writer
abbrev read : Latch
read = latch_of nobody (word 1 0 0 0) 0

abbrev writer_came : Latch
writer_came = latch_of (record nobody { writers = 1; since = 1000 }) (word 1 0 1 1) 0

abbrev reader_came : Latch
reader_came = latch_of (record nobody { writers = 1; since = 1000; second = 1 }) (word 1 0 1 1) 0

abbrev second_came : Latch
second_came = latch_of (record nobody { writers = 2; since = 1000; second = 1 }) (word 1 0 1 1) 0

-- the latch is let go, and handed over to the first writer, since a reader waits behind it
abbrev let_go : Latch
let_go = latch_of (record nobody { writers = 2; since = 1000; second = 1 }) (word 0 0 1 1) 1

abbrev written : Latch
written = latch_of (record nobody { writers = 2; let_in = 1; since = 1400; first = 1 }) (word 0 1 1 1) 0

-- a reader that comes now goes before the other writer too
abbrev joined : Latch
joined = latch_of (record nobody { writers = 2; let_in = 1; since = 1400; first = 2 }) (word 0 1 1 1) 0

abbrev left : Latch
left = latch_of (record nobody { writers = 2; let_in = 1; since = 1400; first = 2 }) (word 0 0 1 1) 1

-- both readers are let in at once, and the writer waits on
abbrev both : Latch
both = latch_of (record nobody { writers = 2; let_in = 1; since = 1400; turns = 1 }) (word 2 0 1 1) 0

taken : (latch : ℕ) → ¬ (IsFree latch (word 1 0 1 1))
taken latch is = let closed = is.1 in omega arith

comes_to_read : Step 1200 writer_came reader_came
comes_to_read = enters 1 (Some (Readers 0)) (taken 1) refl (second_readers refl refl refl refl refl)

comes_to_write : Step 1300 reader_came second_came
comes_to_write = enters 1099511627776 (Some (Writer 1)) (taken 1099511627776) refl (last_writer refl refl refl refl)

lets_go : Step 1300 second_came let_go
lets_go = leaves refl refl refl (omega arith) (omega arith) (λ _. refl) (λ not. absurd (not (refl, λ latched. omega arith)))

is_handed_over : Step 1400 let_go written
is_handed_over = hands_over (Some (Writer 0)) refl (lets_writer_in (refl, omega arith, inl (omega arith)) (λ latched. omega arith) refl refl refl)

one_more_reader : Step 1500 written joined
one_more_reader = enters 1 (Some (Readers 0)) (λ is. let one = is.0 in omega arith) refl (first_readers refl refl refl refl refl)

leaves_too : Step 1600 joined left
leaves_too = leaves refl refl refl (omega arith) (omega arith) (λ _. refl) (λ not. absurd (not (refl, λ latched. omega arith)))

both_are_let_in : Step 1700 left both
both_are_let_in = hands_over (Some (Readers 0)) refl (lets_readers_in (inl (omega arith)) refl refl refl refl)

way : Way 1000 reader_came left
way = on joined left 1600 (omega arith) (on written joined 1500 (omega arith) (on let_go written 1400 (omega arith) (on second_came let_go 1300 (omega arith) (on reader_came second_came 1300 (omega arith) here comes_to_write) lets_go) is_handed_over) one_more_reader) leaves_too

-- somebody comes for them at each step
reader_heard : Heard reader_came
reader_heard = record { told = refl; free = λ none. omega arith; behind = λ _. refl; shut = λ _ _. refl; awake = λ is. absurd (no is); order = omega arith; heard = λ _. inl (omega arith) }
  where
    no : false ≡ true → ⊥
    no is = let z : ◌≡◌ {A = ℕ} 0 1 = cc in omega arith

pub left_heard : Heard left
left_heard = heard_way 1000 reader_came left way reader_heard

-- The reader has waited for one writer, as it may, and is let in by the next hand-over, with the one that came later.
pub one_writer_passed : left.waiters.let_in ≡ reader_came.waiters.let_in + 1
one_writer_passed = refl

pub let_in_then : IsLetIn (Readers 0) both.waiters
let_in_then = omega arith

-- ---- A latch that nobody would come for

-- A writer waits, asleep; nobody has the latch, and nobody is to hand it over.
abbrev lost : Latch
lost = latch_of (record nobody { writers = 1; since = 1000 }) (word 0 0 1 1) 0

pub not_heard : ¬ (Heard lost)
not_heard h = ⊎_elim (λ (has : 0 < 0). omega arith) (λ (woken : (false ≡ true) × (0 ≡ 0)). no woken.0) (h.heard (omega arith))
  where
    no : false ≡ true → ⊥
    no is = let z : ◌≡◌ {A = ℕ} 0 1 = cc in omega arith

-- ---- A writer that is awake, and is passed by another until it is due

abbrev alone : Latch
alone = latch_of (record nobody { writers = 1; since = 1000 }) (word 0 0 1 1) 1

-- it is woken, and the word is open
abbrev woken : Latch
woken = latch_of (record nobody { writers = 1; since = 1000; is_awake = true }) (word 0 0 1 0) 0

-- another is faster
abbrev passed : Latch
passed = latch_of (record nobody { writers = 1; since = 1000; is_awake = true }) (word 0 1 1 0) 0

-- and it finds the latch taken: now nobody is
abbrev closed : Latch
closed = latch_of (record nobody { writers = 1; since = 1000 }) (word 0 1 1 1) 0

abbrev free : Latch
free = latch_of (record nobody { writers = 1; since = 1000 }) (word 0 0 1 1) 1

-- half a millisecond later the latch is handed over
abbrev had : Latch
had = latch_of (record nobody { writers = 1; let_in = 1; since = 501000 }) (word 0 1 0 0) 0

wakes : Step 2000 alone woken
wakes = hands_over (Some (Writer 0)) refl (wakes_writer (refl, refl, omega arith, omega arith) refl refl refl)

is_faster : Step 2000 woken passed
is_faster = comes refl refl refl refl (omega arith) (inr (refl, refl))

finds_it : Step 60000 passed closed
finds_it = looks 0 (omega arith) refl (finds_it_taken refl refl refl (omega arith) refl refl)

goes : Step 70000 closed free
goes = leaves refl refl refl (omega arith) (omega arith) (λ _. refl) (λ not. absurd (not (refl, λ latched. omega arith)))

-- Too early it would be woken once more; at that time it has the latch.
pub too_early : ¬ (IsDue 500999 free.waiters)
too_early due = omega arith

pub is_due : IsDue 501000 free.waiters
is_due = omega arith

pub has_it : Step 501000 free had
has_it = hands_over (Some (Writer 0)) refl (lets_writer_in (refl, omega arith, inr (omega arith)) (λ latched. omega arith) refl refl refl)
