-- Who waits for the latch of a page, who of them gets it next, and who is woken.
use Rattle.std.specs.Prelude.{◌≡◌, ℕ, zero, suc, ◌+◌, ◌-◌, ◌<◌, ◌≤◌, ◌⊎◌, Bool, true, false, Option, Some, None}
use Rattle.bp_words.specs.declared.waiters.Waiters.{Waiters}
use Rattle.bp_words.specs.declared.waiters.Place.{Place}
use Rattle.bp_words.specs.declared.waiters.Place.TheVariants.{Readers, Writer}
use Rattle.bp_words.specs.Fields.{Fields, IsLatched, some_of}

-- so many readers wait, so many writers, and so many threads
abbrev pub readers_of : Waiters → ℕ
readers_of q = q.first + q.second

abbrev pub writers_of : Waiters → ℕ
writers_of q = q.writers - q.let_in

abbrev pub all_of : Waiters → ℕ
all_of q = readers_of q + writers_of q

-- who sleeps there has got the latch
abbrev pub IsLetIn : Place → Waiters → Type 0
IsLetIn (Readers turn) q = turn < q.turns
IsLetIn (Writer ticket) q = ticket < q.let_in

-- readers are next: those that go before each writer, or all, once no writer waits
abbrev pub ReadersAreNext : Waiters → Type 0
ReadersAreNext q = (0 < q.first) ⊎ ((writers_of q ≡ 0) × (0 < q.second))

-- the first writer has been the first for half a millisecond
abbrev pub IsDue : ℕ → Waiters → Type 0
IsDue now q = 500000 ≤ now - q.since

-- the first writer is next, before whoever comes: readers wait behind it, or it is due
abbrev pub WriterIsNext : ℕ → Waiters → Type 0
WriterIsNext now q = (q.first ≡ 0) × (0 < writers_of q) × ((0 < q.second) ⊎ IsDue now q)

-- the first writer is next, but who comes may be before it: writers alone wait, and it is not due
abbrev pub WriterIsEarly : ℕ → Waiters → Type 0
WriterIsEarly now q = (q.first ≡ 0) × (q.second ≡ 0) × (0 < writers_of q) × (now - q.since < 500000)

-- once all readers have got the latch
abbrev pub without_readers : Waiters → Waiters
without_readers q = record q { first = 0; second = 0; turns = q.turns + 1 }

-- once the first writer has got it, at that time: readers that waited behind it go before the next one
abbrev pub without_writer : ℕ → Waiters → Waiters
without_writer now q = record q { let_in = q.let_in + 1; since = now; is_awake = false; first = q.second; second = 0 }

-- a word that says whether these wait: who comes stands behind them
abbrev pub told : Waiters → Fields → Fields
told q f = record f { queued = some_of (all_of q); closed = some_of (all_of q) }

-- a writer that comes is the first if none waits
abbrev pub first_since : ℕ → ℕ → ℕ → ℕ
first_since zero since now = now
first_since (suc others) since now = since

-- where a thread comes to wait for a latch, which is 1 for a shared one: a writer behind all writers, and a reader
-- before any writer that waits if one has the latch, else behind the first
pub data Enters (now latch : ℕ) (q : Waiters) (f : Fields) (then : Waiters) (word : Fields) (place : Option Place) : Type 0 where
  last_writer : latch ≡ 1099511627776 → then ≡ record q { writers = q.writers + 1; since = first_since (writers_of q) q.since now }
      → word ≡ record f { queued = 1; closed = 1 } → place ≡ Some (Writer q.writers) → Enters now latch q f then word place
  first_readers : latch ≡ 1 → f.writers ≡ 1 → then ≡ record q { first = q.first + 1 }
      → word ≡ record f { queued = 1; closed = 1 } → place ≡ Some (Readers q.turns) → Enters now latch q f then word place
  second_readers : latch ≡ 1 → f.writers ≡ 0 → then ≡ record q { second = q.second + 1 }
      → word ≡ record f { queued = 1; closed = 1 } → place ≡ Some (Readers q.turns) → Enters now latch q f then word place

-- where the first writer sleeps, if it is not awake
abbrev pub first_writer : Waiters → Bool → Option Place
first_writer q true = None
first_writer q false = Some (Writer q.let_in)

-- what a hand-over makes of those that wait and of the word, and where those sleep that it wakes
pub data HandsOver (now : ℕ) (q : Waiters) (f : Fields) (then : Waiters) (word : Fields) (place : Option Place) : Type 0 where
  nobody_waits : all_of q ≡ 0 → then ≡ q → word ≡ f → place ≡ None → HandsOver now q f then word place
  lets_readers_in : ReadersAreNext q → f.writers ≡ 0 → then ≡ without_readers q
      → word ≡ told then (record f { readers = f.readers + readers_of q }) → place ≡ Some (Readers q.turns) → HandsOver now q f then word place
  readers_wait_on : ReadersAreNext q → f.writers ≡ 1 → then ≡ q → word ≡ f → place ≡ None → HandsOver now q f then word place
  lets_writer_in : WriterIsNext now q → ¬ (IsLatched f) → then ≡ without_writer now q
      → word ≡ told then (record f { writers = 1 }) → place ≡ Some (Writer q.let_in) → HandsOver now q f then word place
  writer_waits_on : WriterIsNext now q → IsLatched f → then ≡ q → word ≡ told q f → place ≡ None → HandsOver now q f then word place
  wakes_writer : WriterIsEarly now q → then ≡ record q { is_awake = true } → word ≡ record f { closed = 0 }
      → place ≡ first_writer q q.is_awake → HandsOver now q f then word place

-- what a writer makes of them that woke with this ticket: it takes the latch if it is the first, was woken to look, no
-- readers are before it and nobody has the latch
pub data Looks (now ticket : ℕ) (q : Waiters) (f : Fields) (then : Waiters) (word : Fields) : Type 0 where
  sleeps_on : (q.let_in ≡ ticket → q.is_awake ≡ false) → then ≡ q → word ≡ f → Looks now ticket q f then word
  is_behind : q.let_in ≡ ticket → q.is_awake ≡ true → 0 < q.first → then ≡ record q { is_awake = false } → word ≡ f → Looks now ticket q f then word
  takes : q.let_in ≡ ticket → q.is_awake ≡ true → q.first ≡ 0 → ¬ (IsLatched f) → then ≡ without_writer now q
      → word ≡ told then (record f { writers = 1 }) → Looks now ticket q f then word
  finds_it_taken : q.let_in ≡ ticket → q.is_awake ≡ true → q.first ≡ 0 → IsLatched f → then ≡ record q { is_awake = false }
      → word ≡ record f { queued = 1; closed = 1 } → Looks now ticket q f then word
