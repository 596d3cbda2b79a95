-- What a core keeps, and that it agrees with the trail.
use Rattle.std.specs.Prelude.{◌≡◌, ℕ, Decides, ◌+◌, ◌*◌, ◌^◌, ◌≤◌, ◌==◌, Bool, not, ◌&&◌, ◌||◌}
use Rattle.std.specs.Prelude.{true, false, List, [], length, replicate, All, Contains, Option, Some}
use Rattle.std.specs.Prelude.{None}
use Rattle.std.specs.Prelude.{IsSome}
use Rattle.std.specs.Prelude.{if◌then◌else◌}
use Rattle.bp_replacer.specs.Histories.{Blocks, HasStampsOf, is_held, place_of, stamp_of, last_of, latest_of}
use Rattle.bp_references.specs.Candidates.{Entered, entry_of, NoPageTwice}
use Rattle.bp_core.specs.declared.config.Config.{Config}
use Rattle.bp_core.specs.declared.config.CoreConfig.{CoreConfig}
use Rattle.bp_frames.specs.declared.frame.Frame.{Frame}
use Rattle.bp_frames.specs.Frames.{is_unused}
use Rattle.bp_core.specs.declared.state.State.{State}
use Rattle.bp_trail.specs.declared.entries.Entry.{Entry}
use Rattle.bp_trail.specs.Parameters.{Parameters}
use Rattle.bp_trail.specs.Lists.{count, since, least_since}
use Rattle.bp_trail.specs.Event.{Grant, writes, discards, begins_of, lsn_written}
use Rattle.bp_trail.specs.Trail.{Trail}
use Rattle.bp_trail.specs.Clock.{clock, durable}
use Rattle.bp_trail.specs.Passes.{passes, tickets, passes_out, reads_out, writes_out, pins}
use Rattle.bp_trail.specs.Places.{residents, resident, loading, writing}
use Rattle.bp_trail.specs.Saved.{unsaved, page_lsn, first_lsn}
use Rattle.bp_trail.specs.Images.{held}
use Rattle.bp_trail.specs.References.{references, hist, last}
use Rattle.bp_trail.specs.Legal.{Legal}
use Rattle.bp_trail.specs.Standing.{standing}
use Rattle.bp_core.specs.CoreView.{CoreView}
use Rattle.bp_keeper.specs.Kept.{Kept}

abbrev pub parameters_of : CoreConfig → Parameters
parameters_of c = record {
  frames = c.frames;
  k = c.settings.k;
  correlated = c.settings.correlated;
  retained = c.settings.retained;
  pages = c.geometry.pages;
  size = c.geometry.size;
  clients = c.clients;
  room = c.room;
}

-- what a core for so many clients is made with
abbrev pub parameters_with : Config → ℕ → Parameters
parameters_with config clients = record {
  frames = config.frames;
  k = config.settings.k;
  correlated = config.settings.correlated;
  retained = config.settings.retained;
  pages = config.geometry.pages;
  size = config.geometry.size;
  clients = clients;
  room = config.room;
}

-- p is discarded, or a write-out of p begins
abbrev pub parts_writes : ℕ → Entry → Bool
parts_writes p e = discards p e || begins_of p e.reply

-- a write of p stands after the newest of these
abbrev pub rewritten : Trail → ℕ → Bool
rewritten past p = since (writes p) (parts_writes p) past

-- the least LSN of such writes
abbrev pub rewritten_lsn : Trail → ℕ → Option ℕ
rewritten_lsn past p = least_since (lsn_written p) (parts_writes p) past

-- what the frame of a page holds, whose references have this block
abbrev pub frame_of : Trail → ℕ → Option ℕ → Frame
frame_of past p block =
    record {
      page = p;
      block = block;
      pins = pins past p;
      is_unsaved = unsaved past p;
      is_rewritten = rewritten past p;
      is_writing = writing past p;
      first_lsn = first_lsn past p;
      rewritten_lsn = rewritten_lsn past p;
      page_lsn = page_lsn past p;
      image = held past p;
    }

-- what a core keeps beside its trail, but for the room of its lists; passes and tickets newest
-- first
pub record Parts : Type 0 where
  pub now : ℕ
  pub mark : ℕ
  pub given : ℕ
  pub begun : ℕ
  pub out : List Grant
  pub reads : List Grant
  pub writes : List Grant
  pub frames : List Frame
  pub blocks : Blocks
  -- where each page has its block
  pub places : ℕ → Option ℕ

abbrev pub parts_of : State → Parts
parts_of x = record {
  now = x.clock;
  mark = x.durable;
  given = x.passes_given;
  begun = x.tickets_given;
  out = x.passes.out;
  reads = x.reads.out;
  writes = x.writes.out;
  frames = x.frames.frames;
  blocks = x.histories;
  places = place_of x.histories;
}

-- each part is what the trail says
abbrev pub Observed : Parameters → Trail → Parts → Type 0
Observed c past x = record {
  clock_is : x.now ≡ clock past;
  durable_is : x.mark ≡ durable past;
  passes_is : x.given ≡ passes past;
  tickets_is : x.begun ≡ tickets past;
  out_is : x.out ≡ passes_out past;
  reads_is : x.reads ≡ reads_out past;
  writes_is : x.writes ≡ writes_out past;
  -- in any order: each test passes as many frames as it passes of those that the resident pages
  -- have
  frames_is : (test : Frame → Bool)
      → count test x.frames ≡ count (λ p. test (frame_of past p (x.places p))) (residents past);
  stamps_are : (p : ℕ) → HasStampsOf x.blocks p (references c past p);
  held_is : (p : ℕ) → is_held x.blocks p ≡ (resident past p || loading past p);
}

pub record Agrees (c : Parameters) (past : Trail) (x : Parts) : Type 0 where
  pub legal : Legal c past
  pub observed : Observed c past x
  pub k_is : x.blocks.k ≡ c.k
  pub correlated_is : x.blocks.correlated ≡ c.correlated
  pub retained_is : x.blocks.retained ≡ c.retained
  pub in_time : clock past ≤ 2 ^ 62
  -- no reference is later than that, those that were forgotten included
  pub by_now : (p : ℕ) → latest_of x.blocks p ≤ clock past

-- the room that later calls rely on: the trail has it for as many entries as the parameters say,
-- and counts those that are kept
pub record HasTrailRoom (c : Parameters) (trail : Kept) : Type 0 where
  pub small : c.room ≤ 2 ^ 61
  pub reserved : c.room ≤ trail.capacity
  pub counted : trail.len + length trail.before ≡ length trail.past
  pub owed :
      trail.len + length (passes_out trail.past) + length (writes_out trail.past)
      + 2 * length (reads_out trail.past) ≤ c.room
  pub passes_fit : passes trail.past ≤ 2 ^ 62 + trail.len
  pub tickets_fit : tickets trail.past ≤ 2 ^ 62 + trail.len

-- each held page has its block somewhere,
abbrev pub ArePlaced : Blocks → Type 0
ArePlaced h = (p : ℕ) → is_held h p ≡ true → IsSome (place_of h p)

-- and each frame tells where that of its page is
abbrev pub TellBlocks : Blocks → List Frame → Type 0
TellBlocks h frames = All (λ (f : Frame). IsSome f.block × (f.block ≡ place_of h f.page)) frames

-- a use of this page ended: if its frame says that nobody uses it, it is a candidate from now on
pub record EndsUse (old : State) (page k : ℕ) (candidates : Entered) : Type 0 where
  pub frame : Frame
  pub here : Contains old.frames.frames frame
  pub page_is : frame.page ≡ page
  pub entered :
      entry_of candidates page
      ≡ (if is_unused frame
      then Some (stamp_of old.histories page k, last_of old.histories page)
      else entry_of old.frames.candidates page)

-- whether the trail opens where no entries lead
abbrev pub OpensFresh : Parameters → Kept → Type 0
OpensFresh c trail = Decides trail.fresh (standing c trail.before ≡ standing c [])

-- for a pass at the end of each read,
pub record HasPassRoom (reads room : ℕ) : Type 0 where
  pub reserved : reads ≤ room

-- and a frame for each read
pub record HasFrameRoom (c : Parameters) (reads empty_frames size capacity pages : ℕ) : Type 0 where
  pub few : c.frames ≤ 65536
  pub reserved : reads ≤ empty_frames
  pub size_is : size ≡ c.size
  pub capacity_is : capacity ≡ c.frames
  pub pages_is : pages ≡ c.pages

-- the next pass and the next ticket have numbers from which each list may give
pub record HasNextNumbers (passes reads writes given begun : ℕ) : Type 0 where
  pub of_pass : passes ≤ given
  pub of_read : reads ≤ begun
  pub of_write : writes ≤ begun

-- the candidates for replacement: the pages that nobody uses, each with its K-th stamp and its last
-- time
abbrev pub unused : Trail → ℕ → Bool
unused past p = resident past p && ((pins past p == 0) && not (writing past p))

abbrev pub entry_for : Parameters → Trail → ℕ → Option (ℕ × ℕ)
entry_for c past p = if unused past p then Some (hist c past p c.k, last c past p) else None

pub record HasCandidates (c : Parameters) (past : Trail) (candidates : Entered) : Type 0 where
  pub entries_are : (p : ℕ) → entry_of candidates p ≡ entry_for c past p
  pub once : NoPageTwice candidates.entries
  pub frames_is : candidates.frames ≡ c.frames
  pub correlated_is : candidates.correlated ≡ c.correlated

pub record IsCore (c : Parameters) (trail : Kept) (x : State) : Type 0 where
  pub agrees : Agrees c trail.past (parts_of x)
  pub candidates : HasCandidates c trail.past x.frames.candidates
  pub trail_room : HasTrailRoom c trail
  pub opening : OpensFresh c trail
  pub placed : ArePlaced x.histories
  pub numbers :
      HasNextNumbers x.passes.next x.reads.next x.writes.next x.passes_given x.tickets_given
  pub pass_room : HasPassRoom (length x.reads.out) x.passes.room
  pub frame_room :
      HasFrameRoom c (length x.reads.out) x.frames.empty_frames x.frames.size x.frames.capacity x.frames.pages

abbrev pub view_of : Parameters → Kept → CoreView
view_of c trail = record { parameters = c; before = trail.before; past = trail.past }

-- what no entries come to
pub record IsFirst (c : Parameters) (x : State) : Type 0 where
  pub clock : x.clock ≡ 1
  pub durable : x.durable ≡ 0
  pub passes_given : x.passes_given ≡ 0
  pub tickets_given : x.tickets_given ≡ 0
  pub passes : x.passes.out ≡ []
  pub reads : x.reads.out ≡ []
  pub writes : x.writes.out ≡ []
  pub numbers :
      HasNextNumbers x.passes.next x.reads.next x.writes.next x.passes_given x.tickets_given
  pub frames :
      x.frames
      ≡ record {
        frames = [];
        empty_frames = 0;
        size = c.size;
        capacity = c.frames;
        pages = c.pages;
        places = replicate c.pages 0;
        candidates = record { frames = c.frames; correlated = c.correlated; entries = [] };
      }
  pub k : x.histories.k ≡ c.k
  pub correlated : x.histories.correlated ≡ c.correlated
  pub retained : x.histories.retained ≡ c.retained
  pub held : (page : ℕ) → is_held x.histories page ≡ false
  pub stamps : (page : ℕ) → HasStampsOf x.histories page []
  pub latest : (page : ℕ) → latest_of x.histories page ≡ 0
