-- The parts of a pool, and what a call does in one of them.
use Rattle.std.specs.Prelude.{◌≡◌, ℕ, ◌<◌, ◌≤◌, ◌/◌, ◌%◌, List, length, slice_index_or, slice_set, Result, Ok, Err}
use Rattle.bp_page.specs.declared.refusals.Refusal.{Refusal}
use Rattle.bp_page.specs.declared.refusals.Refusal.TheVariants.{UnknownPass}
use Rattle.bp_core.specs.declared.passes.Pass.{Pass}
use Rattle.bp_shared.specs.Sessions.{SessionValue, IsRoomy, UnfixSaid}
use Rattle.bp_parts.specs.declared.passes.PartPass.{PartPass}

-- the part of a page of the file, and the page's number there
abbrev pub part_of : ℕ → ℕ → ℕ
part_of parts page = page % parts

abbrev pub page_in_part : ℕ → ℕ → ℕ
page_in_part parts page = page / parts

-- each part has the number of its place
abbrev pub AreNumbered : List ℕ → Type 0
AreNumbered parts = (i : ℕ) (d : ℕ) → i < length parts → slice_index_or parts i d ≡ i

-- one client's sessions, one for each part, in order
pub record PartedValue : Type 0 where
  pub client : ℕ
  pub sessions : List SessionValue

-- a session of the client in this part
pub record IsSessionOf (client part : ℕ) (s : SessionValue) : Type 0 where
  pub client_is : s.client ≡ client
  pub part_is : s.part ≡ part

-- each is a session of the client, in the part of its place
abbrev pub AreSessionsOf : ℕ → List SessionValue → Type 0
AreSessionsOf client sessions =
    (i : ℕ) (d : SessionValue) → i < length sessions
    → IsSessionOf client i (slice_index_or sessions i d)

-- the client's session in this part did so, and the others are as they were
pub record InPart (part : ℕ) (old new : PartedValue) (Did : SessionValue → SessionValue → Type 0)
    : Type 0 where
  pub was : SessionValue
  pub is : SessionValue
  pub old_is : (d : SessionValue) → slice_index_or old.sessions part d ≡ was
  pub own : IsSessionOf old.client part was
  pub new_is : new ≡ record old { sessions = slice_set old.sessions part is }
  pub did : Did was is

-- the client's session in each part did so
pub record InEachPart (old new : PartedValue) (Did : SessionValue → SessionValue → Type 0)
    : Type 0 where
  pub client_is : new.client ≡ old.client
  pub count_is : length new.sessions ≡ length old.sessions
  pub each : (i : ℕ) (d : SessionValue) → i < length old.sessions
      → Did (slice_index_or old.sessions i d) (slice_index_or new.sessions i d)

-- a pass of this part, as the part's own pool gave it
abbrev pub OfPart : ℕ → Result PartPass Refusal → Result Pass Refusal → Type 0
OfPart part (Ok pass) given = (pass.part ≡ part) × (given ≡ Ok pass.pass)
OfPart part (Err why) given = given ≡ Err why

-- the session gave its pass back: the list has it, and nothing was seen
pub record Unfixes (pass : Pass) (old new : SessionValue) : Type 0 where
  pub client : new.client ≡ old.client
  pub before : new.before ≡ old.before
  pub seen : new.seen ≡ old.seen
  pub roomy : IsRoomy old → IsRoomy new
  pub outcome : UnfixSaid {A = Unit {0}} old pass (Ok tt) new

-- the session of this part does not take its pass back, for this cause, and stays as it is
abbrev pub IsHandedBack : PartedValue → PartPass → Refusal → Type 0
IsHandedBack old pass why =
    (d : SessionValue)
    → UnfixSaid {A = Unit {0}} (slice_index_or old.sessions pass.part d) pass.pass
    (Err (pass.pass, why)) (slice_index_or old.sessions pass.part d)

-- a pass goes back to its part; or it is handed back, and nothing changes: as its part's session hands
-- it back, or since there is no such part
abbrev pub UnfixedIn : {A : Type 0} → ℕ → PartedValue → PartPass → Result A (PartPass × Refusal)
    → PartedValue → Type 0
UnfixedIn parts old pass (Ok done) new =
    InPart pass.part old new (Unfixes pass.pass)
UnfixedIn parts old pass (Err (back, why)) new =
    (back ≡ pass) × (new ≡ old) × (parts ≤ pass.part → why ≡ UnknownPass)
    × (pass.part < parts → IsHandedBack old pass why)
