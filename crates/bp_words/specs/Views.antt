-- What a seat of a frame knows, and how each kind of step changes it.
use Rattle.std.specs.Prelude.{◌≡◌, ◌≢◌, ℕ, ◌+◌, ◌-◌, ◌<◌, ◌≤◌, true, false, Option, Some, None}
use Rattle.bp_words.specs.Shares.{given}
use Rattle.bp_words.specs.Fields.{fields, IsReadable, IsPinnable, some_of}
use Rattle.atomic_table.specs.Table.{Me, Step}
use Rattle.bp_words.specs.declared.views.View.{View}

-- a seat that is not the keeper's, with so many shares that read, keep the page alone, say nothing, pin, say nothing,
-- write, and with so many tickets
abbrev pub guest : ℕ → ℕ → ℕ → ℕ → ℕ → ℕ → ℕ → Option ℕ → View
guest r h s p l w t page =
    record {
      reads = r;
      halves = h;
      strays = s;
      pins = p;
      loose = l;
      writes = w;
      tickets = t;
      waits = 0;
      wants = 0;
      queues = 0;
      tends = false;
      page = page;
      stored = 0;
    }

-- a seat with a ticket and no share
abbrev pub idle : View
idle = guest 0 0 0 0 0 0 1 None

-- a seat with shares that read, pin and write a page
abbrev pub held : ℕ → ℕ → ℕ → ℕ → View
held r p w page = guest r 0 0 p 0 w 0 (Some page)

-- a seat with nothing
abbrev pub spent : View
spent = guest 0 0 0 0 0 0 0 None

-- the keeper, with so many pins and tickets: the page to which it gave the frame, and the number that it stored last
abbrev pub keeper : ℕ → ℕ → Option ℕ → ℕ → View
keeper p t page stored =
    record {
      reads = 0;
      halves = 0;
      strays = 0;
      pins = p;
      loose = 0;
      writes = 0;
      tickets = t;
      waits = 0;
      wants = 0;
      queues = 0;
      tends = true;
      page = page;
      stored = stored;
    }

-- the first seat: a keeper with so many tickets, which gave the frame to no page and has the queue too
abbrev pub founder : ℕ → View
founder t = record (keeper 0 t None 0) { queues = 1 }

-- the queue: so many threads wait for a shared latch and for the exclusive one, and so many readers were let in; so
-- many came in beside these, and such a share that writes is there; each of these threads has its pin and its ticket
abbrev pub queue : ℕ → ℕ → ℕ → ℕ → ℕ → Option ℕ → View
queue n m g e w page =
    record {
      reads = g;
      halves = 0;
      strays = 0;
      pins = n + m + g + e;
      loose = 0;
      writes = w;
      tickets = n + m + g + e;
      waits = n;
      wants = m;
      queues = 1;
      tends = false;
      page = page;
      stored = 0;
    }

-- all that wait
abbrev pub waiting : View → ℕ
waiting v = v.waits + v.wants

-- all shares of a seat that keep the page in the frame
abbrev pub uses : View → ℕ
uses v = v.reads + v.halves + v.pins + v.writes

-- what takes a ticket
abbrev pub blind : View → ℕ
blind v = v.halves + v.strays + v.loose + v.waits

-- what a seat has in the fields of the word
abbrev pub in_readers : View → ℕ
in_readers v = v.reads + (v.halves + v.strays)

abbrev pub in_pins : View → ℕ
in_pins v = v.pins + v.loose

-- a share was added to the readers: it reads the page, or keeps it alone, or says nothing
abbrev pub ComesToRead : Step ℕ → Me ℕ View → ℕ → Me ℕ View → Type 0
ComesToRead step before found after =
    (IsReadable (fields found) → (page : ℕ) × (after ≡ (guest 1 0 0 0 0 0 1 (Some page), before.1)))
    × (¬ (IsReadable (fields found)) → IsPinnable (fields found)
    → (page : ℕ) × (after ≡ (guest 0 1 0 0 0 0 1 (Some page), before.1)))
    × (¬ (IsPinnable (fields found)) → after ≡ (guest 0 0 1 0 0 0 1 None, before.1))

-- a share was added to the pins: it pins the page, or says nothing
abbrev pub ComesToPin : Step ℕ → Me ℕ View → ℕ → Me ℕ View → Type 0
ComesToPin step before found after =
    (IsPinnable (fields found) → (page : ℕ) × (after ≡ (guest 0 0 0 1 0 0 1 (Some page), before.1)))
    × (¬ (IsPinnable (fields found)) → after ≡ (guest 0 0 0 0 1 0 1 None, before.1))

-- if the word was as expected, the seat has such shares in place of those that it had; else nothing changed
abbrev pub Turns : ℕ → ℕ → ℕ → Step ℕ → Me ℕ View → ℕ → Me ℕ View → Type 0
Turns r p w step before found after =
    (found ≡ step.first → after ≡ (held r p w (given before.0.page), before.1))
    × (found ≢ step.first → after ≡ before)

-- if the word was as expected, a pin has such a latch beside it; else nothing changed
abbrev pub Adds : ℕ → ℕ → Step ℕ → Me ℕ View → ℕ → Me ℕ View → Type 0
Adds r w step before found after =
    (found ≡ step.first → after ≡ (held r 1 w (given before.0.page), before.1))
    × (found ≢ step.first → after ≡ before)

-- if the word was as expected, a thread with a ticket has the share that writes too; else nothing changed
abbrev pub ComesAlone : Step ℕ → Me ℕ View → ℕ → Me ℕ View → Type 0
ComesAlone step before found after =
    (found ≡ step.first → (page : ℕ) × (after ≡ (guest 0 0 0 0 0 1 1 (Some page), before.1)))
    × (found ≢ step.first → after ≡ before)

-- a share that kept the page alone pins it
abbrev pub TurnsToPin : Step ℕ → Me ℕ View → ℕ → Me ℕ View → Type 0
TurnsToPin step before found after =
    after ≡ (guest 0 0 0 1 0 0 1 before.0.page, before.1)

-- what is found is the page of the seat's shares
abbrev pub Looks : Step ℕ → Me ℕ View → ℕ → Me ℕ View → Type 0
Looks step before found after =
    (after ≡ before) × (0 < uses before.0 → before.0.page ≡ Some found)

-- the seat has no share, and its tickets
abbrev pub Leaves : Step ℕ → Me ℕ View → ℕ → Me ℕ View → Type 0
Leaves step before found after =
    after ≡ (guest 0 0 0 0 0 0 before.0.tickets None, before.1)

-- the seat is as it was
abbrev pub Stays : Step ℕ → Me ℕ View → ℕ → Me ℕ View → Type 0
Stays step before found after = after ≡ before

-- what is found has the seat's shares; the pass is out if it has one, and wherever it is to stay
abbrev pub Finds : Step ℕ → Me ℕ View → ℕ → Me ℕ View → Type 0
Finds step before found after =
    (after ≡ before) × (in_readers before.0 ≤ (fields found).readers) × (in_pins before.0 ≤ (fields found).pins)
    × (0 < uses before.0 → (fields found).out ≡ 1) × ((fields found).stays ≤ (fields found).out)

-- the pass is not out, so a pin fits
abbrev pub FindsHome : Step ℕ → Me ℕ View → ℕ → Me ℕ View → Type 0
FindsHome step before found after =
    (after ≡ before) × ((fields found).out ≡ 0) × ((fields found).stays ≡ 0) × ((fields found).pins + 1 < 1048576)

-- the keeper stored the number
abbrev pub Stores : Step ℕ → Me ℕ View → ℕ → Me ℕ View → Type 0
Stores step before found after = after ≡ (keeper 0 before.0.tickets None step.first, before.1)

-- if the word was as expected, the frame is given to the page whose number was stored, and pinned; else nothing changed
abbrev pub Begins : Step ℕ → Me ℕ View → ℕ → Me ℕ View → Type 0
Begins step before found after =
    (found ≡ step.first → after ≡ (keeper 1 before.0.tickets (Some before.0.stored) before.0.stored, before.1))
    × (found ≢ step.first → after ≡ before)

-- if the word was as expected, the frame is given to no page; else nothing changed
abbrev pub Ends : Step ℕ → Me ℕ View → ℕ → Me ℕ View → Type 0
Ends step before found after =
    (found ≡ step.first → after ≡ (keeper 0 before.0.tickets None before.0.stored, before.1))
    × (found ≢ step.first → after ≡ before)

-- a seat with the shares of another too, of whose page it takes note
abbrev pub joined : View → View → View
joined v w =
    record {
      reads = v.reads + w.reads;
      halves = v.halves + w.halves;
      strays = v.strays + w.strays;
      pins = v.pins + w.pins;
      loose = v.loose + w.loose;
      writes = v.writes + w.writes;
      tickets = v.tickets + w.tickets;
      waits = v.waits + w.waits;
      wants = v.wants + w.wants;
      queues = v.queues + w.queues;
      tends = v.tends;
      page = v.page;
      stored = given w.page;
    }

-- the keeper's page is the one that it took note of, a writer has no reader beside it, and there is
-- one at most
abbrev pub Compares : Step ℕ → Me ℕ View → ℕ → Me ℕ View → Type 0
Compares step before found after =
    (after ≡ before)
    × (before.0.tends ≡ true → 0 < uses before.0 → before.0.page ≡ Some before.0.stored)
    × (0 < before.0.writes → before.0.reads ≡ 0) × (before.0.writes < 2)

-- the queue with one thread that came in
abbrev pub entered : View → View → View
entered v w = queue v.waits v.wants v.reads 1 0 w.page

-- a thread's seat with its pin
abbrev pub with_pin : View → View → View
with_pin v w = guest 0 0 0 1 0 0 1 w.page

-- if the word was as expected, the thread that came in waits, to read or to write; else nothing changed
abbrev pub Waits : ℕ → ℕ → Step ℕ → Me ℕ View → ℕ → Me ℕ View → Type 0
Waits r w step before found after =
    (found ≡ step.first
    → after ≡ (queue (before.0.waits + r) (before.0.wants + w) before.0.reads 0 0 before.0.page, before.1))
    × (found ≢ step.first → after ≡ before)

-- all that wait fit beside the readers that are there
abbrev pub FindsRoom : Step ℕ → Me ℕ View → ℕ → Me ℕ View → Type 0
FindsRoom step before found after =
    (after ≡ before) × ((fields found).readers + before.0.waits < 1048576) × ((fields found).stays ≤ (fields found).out)

-- if the word was as expected, all that waited to read do so; else nothing changed
abbrev pub LetsIn : Step ℕ → Me ℕ View → ℕ → Me ℕ View → Type 0
LetsIn step before found after =
    (found ≡ step.first
    → after ≡ (queue 0 before.0.wants (before.0.waits + before.0.reads) 0 0 before.0.page, before.1))
    × (found ≢ step.first → after ≡ before)

-- if the word was as expected, one that waited to write does so; else nothing changed
abbrev pub LetsWriterIn : Step ℕ → Me ℕ View → ℕ → Me ℕ View → Type 0
LetsWriterIn step before found after =
    (found ≡ step.first
    → after ≡ (queue before.0.waits (before.0.wants - 1) before.0.reads 1 1 before.0.page, before.1))
    × (found ≢ step.first → after ≡ before)

-- what is found says whether threads wait
abbrev pub Tells : Step ℕ → Me ℕ View → ℕ → Me ℕ View → Type 0
Tells step before found after =
    (after ≡ before) × (before.0.queues ≡ 1 → (fields found).queued ≡ some_of (waiting before.0))
