-- What the end of all parts leaves.
use Rattle.std.specs.Prelude.{◌≡◌, ℕ, ◌<◌, ◌≤◌, List, [], length, slice_index_or, vec_capacity}
use Rattle.std.specs.declared.vec.Vec.{Vec}
use Rattle.bp_trail.specs.Clock.{durable}
use Rattle.bp_trail.specs.Legal.{Legal}
use Rattle.bp_trail.specs.Parameters.{Parameters}
use Rattle.bp_trail.specs.Trail.{Trail}
use Rattle.bp_core.specs.CoreView.{CoreView}
use Rattle.bp_session_log.specs.Books.{BookValue}
use Rattle.bp_shared.specs.Closing.{ClosedPartValue}
use Rattle.bp_shared.specs.Posting.{TakesBack}
use Rattle.bp_shared.specs.Sessions.{SessionValue}
use Rattle.bp_shared.specs.Taking.{TakerValue}
use Rattle.bp_shared.specs.Telling.{GoesOnFrom, IsListOf}
use Rattle.bp_parts.specs.Parts.{PartedValue}
use Rattle.bp_parts.specs.Places.{AtEachPlace}

-- for how many parts and clients there is room
pub record RoomValue : Type 0 where
  pub parts : ℕ
  pub clients : ℕ

-- empty lists, each with room for so many books
abbrev pub AreShelves : {A : Type 0} → ℕ → List (Vec BookValue A) → Type 0
AreShelves parts shelves =
    AtEachPlace (λ _ shelf. (shelf.items ≡ []) × (parts ≤ vec_capacity shelf)) shelves

-- closed parts, takers and clients in the order of their numbers
abbrev pub AreClosed : List ClosedPartValue → Type 0
AreClosed closed = AtEachPlace (λ i part. part.part ≡ i) closed

abbrev pub AreTakersOf : List TakerValue → Type 0
AreTakersOf takers = AtEachPlace (λ i taker. taker.part ≡ i) takers

abbrev pub AreClients : List PartedValue → Type 0
AreClients sessions = AtEachPlace (λ client s. s.client ≡ client) sessions

-- the book of a session: its list is all that the trail has of the client since the pool was made,
-- and the trail goes on from what the session saw of it
pub record IsBookOf (start : Trail) (session : SessionValue) (past : Trail) (book : BookValue)
    : Type 0 where
  pub client_is : book.client ≡ session.client
  pub before_is : book.before ≡ session.before
  pub said_is : book.said ≡ session.said
  pub saw : GoesOnFrom session.seen past
  pub theirs : IsListOf start past book.client book.said

-- a session ended in its part
pub record EndsIn (start : Trail) (session : SessionValue) (old new : ClosedPartValue)
    (book : BookValue) : Type 0 where
  pub part_is : new.part ≡ old.part
  pub takes : TakesBack session.client old.core new.core
  pub book_is : IsBookOf start session new.core.past book

-- one client's sessions ended, one in each part
abbrev pub EndsEach : Trail → List SessionValue → List ClosedPartValue → List ClosedPartValue
    → List BookValue → Type 0
EndsEach start sessions old new books =
    (i : ℕ) (s : SessionValue) (o n : ClosedPartValue) (b : BookValue) → i < length old
    → EndsIn start (slice_index_or sessions i s) (slice_index_or old i o)
    (slice_index_or new i n) (slice_index_or books i b)

-- of the first so many clients each has a book of each part, of its session there
pub record AreEnded {A : Type 0} (start : Trail) (parts clients : ℕ) (sessions : List PartedValue)
    (closed : List ClosedPartValue) (books : List (Vec BookValue A)) : Type 0 where
  pub count : (c : ℕ) (l : Vec BookValue A) → c < clients
      → length (slice_index_or books c l).items ≡ parts
  pub whose : (c i : ℕ) (l : Vec BookValue A) (b : BookValue) → c < clients → i < parts
      → (slice_index_or (slice_index_or books c l).items i b).client ≡ c
  pub each : (c i : ℕ) (s : PartedValue) (v : SessionValue) (p : ClosedPartValue)
      (l : Vec BookValue A) (b : BookValue) → c < clients → i < parts
      → IsBookOf start (slice_index_or (slice_index_or sessions c s).sessions i v)
      (slice_index_or closed i p).core.past
      (slice_index_or (slice_index_or books c l).items i b)

pub record BooksOf {A : Type 0} (start : Trail) (parts clients : ℕ) (sessions : List PartedValue)
    (cores : List CoreView) (books : List (Vec BookValue A)) : Type 0 where
  pub count : (c : ℕ) (l : Vec BookValue A) → c < clients
      → length (slice_index_or books c l).items ≡ parts
  pub whose : (c i : ℕ) (l : Vec BookValue A) (b : BookValue) → c < clients → i < parts
      → (slice_index_or (slice_index_or books c l).items i b).client ≡ c
  pub each : (c i : ℕ) (s : PartedValue) (v : SessionValue) (d : CoreView)
      (l : Vec BookValue A) (b : BookValue) → c < clients → i < parts
      → IsBookOf start (slice_index_or (slice_index_or sessions c s).sessions i v)
      (slice_index_or cores i d).past
      (slice_index_or (slice_index_or books c l).items i b)

-- the core of a part: its trail is one legal history, of which its taker had what was handed out,
-- and in which no mark is above what the log was raised to
pub record IsCoreOf (p : Parameters) (start : Trail) (raised : ℕ) (taken : TakerValue)
    (core : CoreView) : Type 0 where
  pub parameters_are : core.parameters ≡ p
  pub legal : Legal p core.past
  pub goes_on : GoesOnFrom start core.past
  pub before_is : core.before ≡ taken.past
  pub marked : durable core.past ≤ raised

abbrev pub CoresOf : Parameters → Trail → ℕ → List TakerValue → List CoreView → Type 0
CoresOf p start raised takers cores =
    (i : ℕ) (t : TakerValue) (d : CoreView) → i < length cores
    → IsCoreOf p start raised (slice_index_or takers i t) (slice_index_or cores i d)

-- they are the cores of these parts
abbrev pub SameCores : List ClosedPartValue → List CoreView → Type 0
SameCores closed cores =
    (i : ℕ) (p : ClosedPartValue) (d : CoreView) → i < length cores
    → slice_index_or cores i d ≡ (slice_index_or closed i p).core
