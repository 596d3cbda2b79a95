-- The latch of a page, step by step: who waits for it, what its word says, and who is to hand it over.
use Rattle.std.specs.Prelude.{◌≡◌, ℕ, ◌+◌, ◌<◌, ◌≤◌, ◌⊎◌, true, false, Option}
use Rattle.bp_words.specs.declared.waiters.Waiters.{Waiters}
use Rattle.bp_words.specs.declared.waiters.Place.{Place}
use Rattle.bp_words.specs.Fields.{Fields, IsLatched, IsFree, some_of}
use Rattle.bp_words.specs.Waiters.{readers_of, writers_of, all_of, Enters, HandsOver, Looks}

-- who waits, the word, and the number of threads that let the latch go and are to hand it over
pub record Latch : Type 0 where
  pub waiters : Waiters
  pub word : Fields
  pub calls : ℕ

abbrev pub latch_of : Waiters → Fields → ℕ → Latch
latch_of q f calls = record { waiters = q; word = f; calls = calls }

-- threads wait, and nobody has a latch
abbrev pub IsAwaited : Fields → Type 0
IsAwaited f = (f.queued ≡ 1) × ¬ (IsLatched f)

-- what a thread does at a time. It comes: a share is added, or what is so of pins and of the pass changes, and who takes
-- the exclusive latch finds the word open. It leaves: shares go, and it is to hand over where it finds the latch
-- awaited. It enters the queue where the latch is not free. It hands over. Or it woke as a writer and looks.
pub data Step (now : ℕ) (l m : Latch) : Type 0 where
  comes : m.waiters ≡ l.waiters → m.calls ≡ l.calls → m.word.queued ≡ l.word.queued → m.word.closed ≡ l.word.closed
      → l.word.readers ≤ m.word.readers → (m.word.writers ≡ l.word.writers) ⊎ ((m.word.writers ≡ 1) × (l.word.closed ≡ 0)) → Step now l m
  leaves : m.waiters ≡ l.waiters → m.word.queued ≡ l.word.queued → m.word.closed ≡ l.word.closed
      → m.word.readers ≤ l.word.readers → m.word.writers ≤ l.word.writers
      → (IsAwaited m.word → m.calls ≡ l.calls + 1) → (¬ (IsAwaited m.word) → m.calls ≡ l.calls) → Step now l m
  enters : (latch : ℕ) (place : Option Place) → ¬ (IsFree latch l.word) → m.calls ≡ l.calls
      → Enters now latch l.waiters l.word m.waiters m.word place → Step now l m
  hands_over : (place : Option Place) → l.calls ≡ m.calls + 1
      → HandsOver now l.waiters l.word m.waiters m.word place → Step now l m
  looks : (ticket : ℕ) → ticket < l.waiters.writers → m.calls ≡ l.calls
      → Looks now ticket l.waiters l.word m.waiters m.word → Step now l m

-- one step after another, none before a time
pub data Way (from : ℕ) (l : Latch) : Latch → Type 0 where
  here : Way from l l
  on : (m n : Latch) (now : ℕ) → from ≤ now → Way from l m → Step now m n → Way from l n

-- the word says whether threads wait. Who comes stands behind them, but not behind writers of which the first is awake.
-- And while threads wait somebody lets them in: one that has a latch, one that is to hand over, or that writer, if no
-- readers go before it
pub record Heard (l : Latch) : Type 0 where
  pub told : l.word.queued ≡ some_of (all_of l.waiters)
  pub free : all_of l.waiters ≡ 0 → l.word.closed ≡ 0
  pub behind : 0 < readers_of l.waiters → l.word.closed ≡ 1
  pub shut : 0 < all_of l.waiters → l.waiters.is_awake ≡ false → l.word.closed ≡ 1
  pub awake : l.waiters.is_awake ≡ true → 0 < writers_of l.waiters
  pub order : l.waiters.let_in ≤ l.waiters.writers
  pub heard : 0 < all_of l.waiters
      → (0 < l.word.readers + l.word.writers + l.calls) ⊎ ((l.waiters.is_awake ≡ true) × (l.waiters.first ≡ 0))
