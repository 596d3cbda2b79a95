-- What holds after a run of client threads. A trail and a client's list are in the order of time
-- here, and so are scripts and refused rows.
use Rattle.std.specs.Prelude.{◌≡◌, ℕ, ◌<◌, false, List, [], ◌∷◌, ◌++◌, reverse, length, slice_index_or, flat_map, Result, Ok, Err}
use Rattle.std.specs.List.Sorted.{IsPermutation, IsNonDecreasingBy}
use Rattle.bp_page.specs.declared.refusals.Refusal.{Refusal}
use Rattle.bp_page.specs.declared.refusals.Refusal.TheVariants as refusal
use Rattle.bp_trail.specs.declared.entries.Entry.{Entry}
use Rattle.bp_scripts.specs.declared.rows.Row.{Row}
use Rattle.bp_scripts.specs.declared.rows.Refused.{Refused}
use Rattle.bp_trail.specs.Trail.{Trail}
use Rattle.bp_trail.specs.Parameters.{Parameters}
use Rattle.bp_trail.specs.Pieces.Manner.{session}
use Rattle.bp_scripts.specs.Script.{Follows}
use Rattle.bp_trail.specs.Legal.{Legal}
use Rattle.bp_core.specs.Outcomes.{IsFit}
use Rattle.bp_core.specs.Work.{Reads, Writes, WorksThrough}
use Rattle.bp_shared.specs.Sessions.{WithSomeLsn}
use Rattle.bp_trail.specs.Clients.{of_client}
use Rattle.bp_scripts.specs.LogBound.{IsWithinLog, is_unfix}
use Rattle.bp_scripts.specs.InPieces.{BoundedByItsRow}
use Rattle.bp_replay.specs.Rules.{KeepsRules}
use Rattle.bp_replay.specs.Scripts.{list_of, NoneIsStrange}
use Rattle.bp_replay.specs.Players.{LeftValue, Collected}

-- there is one list for each client, with the trail's entries of that client, in order, and no
-- others
pub record SaidIsTheirs (clients : ℕ) (trail : List Entry) (said : List (List Entry)) : Type 0 where
  pub counted : length said ≡ clients
  pub each : (c : ℕ) → c < clients → list_of c said ≡ of_client c trail

-- each client's list follows its script; the refused rows of all, in the order of their numbers,
-- are those of each
pub record EachFollows (scripts : List (List Row)) (said : List (List Entry))
    (refused : List Refused) : Type 0 where
  pub refusals : List (List Refused)
  pub each : (c : ℕ) → c < length scripts
      → Follows session (list_of c scripts) (reverse (list_of c said)) (list_of c refusals)
  pub counted : length refusals ≡ length scripts
  pub joined : IsPermutation (flat_map (λ r. r) refusals) refused
  pub in_order : IsNonDecreasingBy (λ r. r.row) refused

-- each entry of client 0 that is no unfix stands in the piece of a row, by this cut of the client's
-- list, and the greatest LSN marked up to and with it is at most the greatest of the log rows before
-- that row
abbrev pub MarksByRows : (script : List Row) (trail said : List Entry) (refusals : List Refused)
    → Follows session script (reverse said) refusals → Type 0
MarksByRows script trail said refusals cut =
    (newer past : Trail) (e : Entry) → reverse trail ≡ newer ++ e ∷ past → e.client ≡ 0
    → is_unfix e.call ≡ false → BoundedByItsRow session script (reverse said) refusals cut past e

-- there is a cut of client 0's list, by which it follows its script with these refused rows, and by
-- which no mark comes before the log rows allow it
pub record MarksWithinLog (script : List Row) (trail said : List Entry) (refusals : List Refused)
    : Type 0 where
  pub cut : Follows session script (reverse said) refusals
  pub within : IsWithinLog script cut.ends (reverse trail)
  pub by_rows : MarksByRows script trail said refusals cut

-- each client's port did the work that its list tells, in that order, and nothing else: this led
-- from the port that was given to the port that is left
pub record PortsWork {P : Type 0} (reads : Reads P) (writes : Writes P) (said : List (List Entry))
    (ports left : List P) : Type 0 where
  pub counted : length left ≡ length ports
  pub each : (c : ℕ) (d : P) → c < length ports
      → WorksThrough reads (WithSomeLsn writes) [] (reverse (list_of c said))
      (slice_index_or ports c d) (slice_index_or left c d)

-- the trail is one legal history, by the rules of the pool; it holds each client's calls once and
-- in that client's order, as its script asks for them, over the port at the script's place; and no
-- mark is ahead of the log
pub record IsRun {P : Type 0} (reads : Reads P) (writes : Writes P) (c : Parameters)
    (scripts : List (List Row)) (ports : List P) (trail : List Entry) (said : List (List Entry))
    (refused : List Refused) (left : List P) : Type 0 where
  pub legal : Legal c (reverse trail)
  pub rules : KeepsRules c trail
  pub theirs : SaidIsTheirs (length scripts) trail said
  pub follows : EachFollows scripts said refused
  pub known : NoneIsStrange refused
  pub works : PortsWork reads writes said ports left
  pub within_log : MarksWithinLog (list_of 0 scripts) trail (list_of 0 said)
      (list_of 0 follows.refusals)

-- what the clients left, with the refused rows of all put in the order of their numbers
pub record Joined {P : Type 0} (lefts : List (LeftValue P)) (said : List (List Entry))
    (refused : List Refused) (ports : List P) : Type 0 where
  pub one_by_one : List Refused
  pub collected : Collected lefts said one_by_one ports
  pub same : IsPermutation one_by_one refused
  pub in_order : IsNonDecreasingBy (λ r. r.row) refused

-- why a run is refused, and that a run that is not had fit parameters
abbrev pub RunAnswers : {A : Type 0} → Parameters → Result A Refusal → Type 0
RunAnswers c (Ok done) = IsFit c
RunAnswers c (Err refusal.BadSettings) = ¬ IsFit c
RunAnswers c (Err refusal.OutOfMemory) = IsFit c
RunAnswers c (Err _) = ⊥

-- ---- a trail that is taken in pieces

-- the entries (newest first) after some pieces, each in the order of time, as each cut adds its own
abbrev pub after_lists : Trail → List (List Entry) → Trail
after_lists before [] = before
after_lists before (piece ∷ pieces) = after_lists (reverse piece ++ before) pieces

-- the pieces joined
abbrev pub joined_lists : List (List Entry) → List Entry
joined_lists pieces = flat_map (λ piece. piece) pieces

-- of each client the pieces of its list are, joined, what the pieces of the trail have of it,
-- joined; each piece of the trail can be looked at alone
pub record PiecesAreTheirs (clients : ℕ) (trail : List (List Entry))
    (said : List (List (List Entry))) : Type 0 where
  pub counted : length said ≡ clients
  pub each : (c : ℕ) → c < clients → joined_lists (list_of c said) ≡ flat_map (of_client c) trail
