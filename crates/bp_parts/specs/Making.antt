-- What parts are made of, and what they are when they are new.
use Rattle.std.specs.Prelude.{◌≡◌, ℕ, List, [], length, Result, Ok, Err}
use Rattle.std.specs.declared.vec.Vec.{Vec}
use Rattle.bp_page.specs.declared.refusals.Refusal.{Refusal}
use Rattle.bp_page.specs.declared.refusals.Refusal.TheVariants as refusal
use Rattle.bp_trail.specs.Parameters.{Parameters}
use Rattle.bp_core.specs.CoreView.{CoreView}
use Rattle.bp_core.specs.Outcomes.{IsFitUpTo}
use Rattle.bp_mark.specs.Marks.{MarkName}
use Rattle.bp_shared.specs.declared.parts.Parts.{Parts}
use Rattle.bp_shared.specs.Sessions.{SessionValue, new_session_of}
use Rattle.bp_shared.specs.Taking.{PoolRing, TakerValue}
use Rattle.bp_parts.specs.Parts.{PartedValue}
use Rattle.bp_parts.specs.Places.{AtEachPlace, up_to}

-- a core with these parameters and no entry
abbrev pub IsNewCore : Parameters → CoreView → Type 0
IsNewCore p core = core ≡ record { parameters = p; before = []; past = [] }

-- why cores are refused
abbrev pub MakesCores : {A : Type 0} → ℕ → Parameters → Result A Refusal → Type 0
MakesCores most_room p (Ok cores) = IsFitUpTo most_room p
MakesCores most_room p (Err refusal.BadSettings) = ¬ IsFitUpTo most_room p
MakesCores most_room p (Err refusal.OutOfMemory) = IsFitUpTo most_room p
MakesCores most_room p (Err _) = ⊥

-- a mark that was not raised, and a ring for each of so many clients
pub record IsUnnamed (clients : ℕ) (p : Parts) : Type 0 where
  pub unused : p.end.frontier ≡ 0
  pub rings : length p.ring.rings ≡ clients

-- and those that the part of this number is named by
pub record IsNamed (mark : ℕ → MarkName) (ring : ℕ → PoolRing) (clients part : ℕ) (p : Parts)
    : Type 0 where
  pub mark_is : p.mark ≡ mark part
  pub ring_is : p.ring ≡ ring part
  pub unnamed : IsUnnamed clients p

abbrev pub AreNamed : (ℕ → MarkName) → (ℕ → PoolRing) → ℕ → List Parts → Type 0
AreNamed mark ring clients names = AtEachPlace (IsNamed mark ring clients) names

-- the takers of so many parts, which took nothing yet
abbrev pub new_takers : ℕ → List TakerValue
new_takers parts = up_to (λ part. record { part = part; past = []; pieces = 0 }) parts

-- a client's new session in each of so many parts
abbrev pub new_in_parts : ℕ → ℕ → List SessionValue
new_in_parts parts client = up_to (λ part. new_session_of part [] client) parts

-- so many clients with new sessions in so many parts
abbrev pub new_clients : ℕ → ℕ → List PartedValue
new_clients parts clients =
    up_to (λ client. record { client = client; sessions = new_in_parts parts client }) clients

-- each client's list has its new sessions of so many parts
abbrev pub AreRows : {A : Type 0} → ℕ → List (Vec SessionValue A) → Type 0
AreRows parts rows = AtEachPlace (λ client row. row.items ≡ new_in_parts parts client) rows
