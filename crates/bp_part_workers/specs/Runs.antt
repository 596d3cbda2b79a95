-- What holds of a run over a pool in parts.
use Rattle.std.specs.Prelude.{◌≡◌, ℕ, ◌<◌, ◌≤◌, All, List, [], length, slice_index_or, Result, Ok, Err}
use Rattle.std.specs.declared.vec.Vec.{Vec}
use Rattle.bp_page.specs.declared.refusals.Refusal.{Refusal}
use Rattle.bp_page.specs.declared.refusals.Refusal.TheVariants as refusal
use Rattle.bp_trail.specs.Clients.{of_client}
use Rattle.bp_trail.specs.Clock.{durable}
use Rattle.bp_trail.specs.Legal.{Legal}
use Rattle.bp_trail.specs.Parameters.{Parameters}
use Rattle.bp_core.specs.Agreement.{parameters_with}
use Rattle.bp_core.specs.CoreView.{CoreView}
use Rattle.bp_core.specs.Outcomes.{IsFitUpTo}
use Rattle.bp_core.specs.declared.config.Config.{Config}
use Rattle.bp_ports.specs.Stripes.{StripedView}
use Rattle.bp_session_log.specs.Books.{BookValue}
use Rattle.bp_shared.specs.Sessions.{SessionValue}
use Rattle.bp_shared.specs.Telling.{GoesOnFrom}
use Rattle.bp_parts.specs.Places.{AtEachPlace}
use Rattle.bp_part_workers.specs.declared.worker.PartedLeft.{PartedLeft}
use Rattle.bp_part_workers.specs.Workers.{Leaving}

-- a port to so many stripes, each of the configuration's geometry
pub record IsPortOf {S : Type 0} (config : Config) (parts : ℕ) (port : StripedView S)
    : Type 0 where
  pub stripes : port.parts ≡ parts
  pub geometry : port.file.device ≡ config.geometry

-- there are 1 to 64 parts and 1 to 64 workers, and as many such ports
pub record FitTogether {S : Type 0} (config : Config) (parts : ℕ) (ports : List (StripedView S))
    (workers : ℕ) : Type 0 where
  pub some_parts : 1 ≤ parts
  pub few_parts : parts ≤ 64
  pub some : 1 ≤ workers
  pub few : workers ≤ 64
  pub ports_are : length ports ≡ workers
  pub of_stripes : All (IsPortOf config parts) ports

-- and the core of a part can be made for them, whose keeper has room for so many entries at most
pub record CanRunUpTo {S : Type 0} (most_room : ℕ) (config : Config) (parts : ℕ)
    (ports : List (StripedView S)) (workers : ℕ) : Type 0 where
  pub fit : FitTogether config parts ports workers
  pub core : IsFitUpTo most_room (parameters_with config workers)

-- why a run is refused
abbrev pub RunAnswers : {A : Type 0} → Type 0 → Result A Refusal → Type 0
RunAnswers can_run (Ok run) = can_run
RunAnswers can_run (Err refusal.BadSettings) = ¬ can_run
RunAnswers can_run (Err refusal.OutOfMemory) = can_run
RunAnswers can_run (Err _) = ⊥

-- the core of a part: its trail is one legal history, of which nothing was cut, and in which no mark
-- is above what all marks were raised to
pub record IsLegalCore (p : Parameters) (raised : ℕ) (core : CoreView) : Type 0 where
  pub parameters_are : core.parameters ≡ p
  pub legal : Legal p core.past
  pub whole : core.before ≡ []
  pub marked : durable core.past ≤ raised

abbrev pub AreLegalCores : Parameters → ℕ → List CoreView → Type 0
AreLegalCores p raised cores = AtEachPlace (λ _. IsLegalCore p raised) cores

-- a client's book of a part: it has the list of the client's session there, as the worker left it,
-- which is exactly what the part's core tells of the client; and what the session saw of that
-- core's trail is the older part of it
pub record IsBookBy (client : ℕ) (returned : SessionValue) (core : CoreView) (book : BookValue)
    : Type 0 where
  pub client_is : book.client ≡ client
  pub cut : book.before ≡ returned.before
  pub said_is : book.said ≡ returned.said
  pub saw : GoesOnFrom returned.seen core.past
  pub theirs : of_client client core.past ≡ book.said

-- what a client's worker left of itself and of the port that it was given, by its own word, and the
-- client's book of each part
pub record IsLeftBy {W S : Type 0} (Leaves : Leaving W S) (parts : ℕ) (cores : List CoreView)
    (client : ℕ) (worker : W) (port : StripedView S) (left : PartedLeft W S)
    (books : List BookValue) : Type 0 where
  pub returned : List SessionValue
  pub leaves : Leaves client worker port left.worker left.port returned
  pub count : length books ≡ parts
  pub each : (i : ℕ) (s : SessionValue) (d : CoreView) (b : BookValue) → i < parts
      → IsBookBy client (slice_index_or returned i s) (slice_index_or cores i d)
      (slice_index_or books i b)

-- the same of each client
pub record AreLeftBy {W S A : Type 0} (Leaves : Leaving W S) (parts : ℕ) (workers : List W)
    (ports : List (StripedView S)) (cores : List CoreView) (left : List (PartedLeft W S))
    (books : List (Vec BookValue A)) : Type 0 where
  pub left_are : length left ≡ length workers
  pub books_are : length books ≡ length workers
  pub each : (c : ℕ) (w : W) (p : StripedView S) (l : PartedLeft W S) (b : Vec BookValue A)
      → c < length workers → IsLeftBy Leaves parts cores c (slice_index_or workers c w)
      (slice_index_or ports c p) (slice_index_or left c l) (slice_index_or books c b).items
