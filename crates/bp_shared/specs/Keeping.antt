-- What a call of a session leaves as it was, and what its sections show it of the trail.
use Rattle.std.specs.Prelude.{◌≡◌, ◌≢◌, ◌⊎◌, ℕ, ◌+◌, ◌≤◌, Bool, false, List, Result, Err}
use Rattle.bp_page.specs.declared.refusals.Refusal.{Refusal}
use Rattle.bp_page.specs.declared.refusals.Refusal.TheVariants as refusal
use Rattle.bp_trail.specs.Legal.{Legal}
use Rattle.bp_trail.specs.Parameters.{Parameters}
use Rattle.bp_trail.specs.Places.{resident}
use Rattle.bp_trail.specs.Trail.{Trail}
use Rattle.bp_session_log.specs.declared.book.Room.{Room}
pub use Rattle.bp_session_log.specs.Events.{FillsRoom, WantsMemory}
use Rattle.bp_session_log.specs.Turns.{and_read}
use Rattle.bp_core.specs.CoreView.{CoreView}
use Rattle.bp_shared.specs.Sessions.{SessionValue, IsLong, IsRoomy}
use Rattle.bp_shared.specs.Telling.{GoesOnFrom, IsListOf}

-- the session, of the same pool, made no section, and its list got nothing
pub record Idles (old new : SessionValue) : Type 0 where
  pub part : new.part ≡ old.part
  pub client : new.client ≡ old.client
  pub said : new.said ≡ old.said
  pub seen : new.seen ≡ old.seen
  pub free : new.free ≡ old.free

-- the session, of the same pool, made a section: it took back what the session had posted, so that
-- all 32 places of the ring are free, and at its end it showed the session the trail. That is a
-- legal list, whose entries of the client are the session's list, each unfix in its place, and goes
-- on from what the session saw before
pub record Acted (c : Parameters) (start : Trail) (old new : SessionValue) : Type 0 where
  pub part : new.part ≡ old.part
  pub few : old.free ≤ 32
  pub free : new.free ≡ 32
  pub legal : Legal c new.seen
  pub list_is : IsListOf start new.seen new.client new.said
  pub goes_on : GoesOnFrom old.seen new.seen

abbrev pub MayAct : Parameters → Trail → SessionValue → SessionValue → Type 0
MayAct c start old new = Idles old new ⊎ Acted c start old new

-- each call makes a section; but where it is refused for want of memory, or for a pass, maybe none
abbrev pub Acts : {A : Type 0} → Parameters → Trail → Result A Refusal → SessionValue → SessionValue
    → Type 0
Acts c start (Err refusal.OutOfMemory) old new = MayAct c start old new
Acts c start (Err refusal.UnknownPass) old new = MayAct c start old new
Acts c start _ old new = Acted c start old new

-- the session is the same client's, nothing of its list was handed out, its sections took back what
-- it had posted and showed it the trail, and a roomy one stays roomy
pub record KeepsSession {A : Type 0} (c : Parameters) (start : Trail) (answer : Result A Refusal)
    (old new : SessionValue) : Type 0 where
  pub client : new.client ≡ old.client
  pub before : new.before ≡ old.before
  pub acts : Acts c start answer old new
  pub roomy : IsRoomy old → IsRoomy new

-- the list got the entries of a page that was fixed, read and unfixed at once, and no other, and the
-- trail that the session saw last ends in them: nobody's entry stands between them
abbrev pub EndsInRead : ℕ → SessionValue → SessionValue → Type 0
EndsInRead page old new =
    (n : ℕ) × (image : List ℕ) × (past : Trail)
    × (new.said ≡ and_read new.client page n image old.said)
    × (new.seen ≡ and_read new.client page n image past)

-- the page was in no frame in a trail that goes on from what the session saw before, and has of the
-- client what the session's list had then, each unfix too
pub record WasAway (start : Trail) (page : ℕ) (old new : SessionValue) : Type 0 where
  pub looked : Trail
  pub list_is : IsListOf start looked old.client old.said
  pub before : GoesOnFrom old.seen looked
  pub after : GoesOnFrom looked new.seen
  pub away : resident looked page ≡ false

-- a page that is in a frame is read at once
abbrev pub IsReadAtOnce : Trail → ℕ → SessionValue → SessionValue → Type 0
IsReadAtOnce start page old new = EndsInRead page old new ⊎ WasAway start page old new

-- a section of the session made the core do this, by which a look at the mark saw so much of the log,
-- after a trail that goes on from what the session had seen; and it showed the session the trail then
pub record Saw (does : ℕ → CoreView → CoreView → Type 0) (old new : SessionValue) : Type 0 where
  pub durable : ℕ
  pub core : CoreView
  pub after : CoreView
  pub goes_on : GoesOnFrom old.seen core.past
  pub event : does durable core after
  pub seen_is : new.seen ≡ after.past

-- what an event did, by what its kind says of the core, of the list, of its refusals and of the room that
-- it wants and takes: it was made, or refused for want of memory, maybe before it was made
pub record Made {A : Type 0} (refuses : Bool) (c : Parameters) (start : Trail) (wants : Room)
    (does : ℕ → ℕ → Result A Refusal → CoreView → CoreView → Type 0)
    (says : ℕ → Result A Refusal → Trail → Trail → Type 0)
    (cause : Refusal → Parameters → Trail → Type 0) (passes places : Result A Refusal → ℕ)
    (answer : Result A Refusal) (old new : SessionValue) : Type 0 where
  pub client : new.client ≡ old.client
  pub before : new.before ≡ old.before
  pub acts : Acts c start answer old new
  pub outcome : says old.client answer old.said new.said
  pub saw : answer ≢ Err refusal.OutOfMemory
      → Saw (λ durable. does old.client durable answer) old new
  pub passes_left : old.passes ≤ new.passes + passes answer
  pub places_left : old.places ≤ new.places + places answer
  pub had : answer ≢ Err refusal.OutOfMemory → (wants.passes ≤ new.passes + passes answer)
      × (wants.copies ≤ new.places + places answer)
  pub why : (why : Refusal) → answer ≡ Err why → why ≢ refusal.OutOfMemory → cause why c new.seen
  pub memory : refuses ≡ false → wants.passes ≤ old.passes → wants.copies ≤ old.places
      → answer ≡ Err refusal.OutOfMemory → IsLong new ⊎ cause refusal.OutOfMemory c new.seen
