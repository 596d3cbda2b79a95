-- Entries that follow a script: one piece for each row, in order, then the passes still held go
-- back.
use Rattle.std.specs.Prelude.{◌≡◌, ℕ, Bool, ◌&&◌, ◌==◌, nat_le, List, [], ◌∷◌, ◌++◌, reverse, find, length, Option, Some, None}
use Rattle.bp_trail.specs.declared.entries.Call.{Call}
use Rattle.bp_trail.specs.declared.entries.Call.TheVariants.{Tick, Mark, Read, Write, Unfix, Purge}
use Rattle.bp_scripts.specs.declared.rows.Row.{Row}
use Rattle.bp_scripts.specs.declared.rows.Step.{Step}
use Rattle.bp_scripts.specs.declared.rows.Step.TheVariants as step
use Rattle.bp_scripts.specs.declared.rows.Refused.{Refused}
use Rattle.bp_trail.specs.Lists.{every}
use Rattle.bp_trail.specs.Event.{Grant}
use Rattle.bp_trail.specs.Trail.{Trail}
use Rattle.bp_trail.specs.Passes.{passes_out}
use Rattle.bp_trail.specs.HeldPasses.{held_passes, unfix_of}
use Rattle.bp_trail.specs.Pieces.{Manner, Outcome, FixPiece, FlushPiece, DiscardPiece, OneCall}
use Rattle.bp_trail.specs.Pieces.Manner.{session, driver}
use Rattle.bp_trail.specs.Pieces.Outcome.{accepted, refused}

abbrev pub is_pass_of : ℕ → ℕ → Grant → Bool
is_pass_of client page g = (g.client == client) && (g.page == page)

-- the pass of the page that the client took latest and has not given back
abbrev pub latest_pass : Trail → ℕ → ℕ → Option Grant
latest_pass past client page = find (is_pass_of client page) (passes_out past)

-- a row on that pass, refused where there is none
abbrev pub WithPass : List ℕ → ℕ → (ℕ → Call) → Trail → Outcome → Option Grant → Type 0
WithPass numbers client call piece outcome None = (piece ≡ []) × (outcome ≡ refused 14)
WithPass numbers client call piece outcome (Some g) =
    OneCall numbers client (call g.serial) piece outcome

-- a driver marks what a log row says; in a session the log row only raises the durable mark
abbrev pub LogPiece : Manner → ℕ → ℕ → Trail → Outcome → Type 0
LogPiece session client lsn piece outcome = (piece ≡ []) × (outcome ≡ accepted)
LogPiece driver client lsn piece outcome = OneCall (20 ∷ []) client (Mark lsn) piece outcome

-- the piece that a row makes after these entries of its list
abbrev pub RowPiece : Manner → Trail → ℕ → Step → Trail → Outcome → Type 0
RowPiece m past client (step.Fix page) piece outcome = FixPiece m client page piece outcome
RowPiece m past client (step.Flush page) piece outcome = FlushPiece m client page piece outcome
RowPiece m past client (step.Discard page) piece outcome = DiscardPiece m client page piece outcome
RowPiece m past client (step.Read page) piece outcome =
    WithPass (20 ∷ 22 ∷ []) client (λ pass. Read pass page) piece outcome
    (latest_pass past client page)
RowPiece m past client (step.Write page offset bytes lsn) piece outcome =
    WithPass (20 ∷ 22 ∷ []) client (λ pass. Write pass page offset bytes lsn) piece outcome
    (latest_pass past client page)
RowPiece m past client (step.Unfix page) piece outcome =
    WithPass [] client (λ pass. Unfix pass page) piece outcome (latest_pass past client page)
RowPiece m past client (step.Tick n) piece outcome =
    OneCall (20 ∷ 21 ∷ 22 ∷ []) client (Tick n) piece outcome
RowPiece m past client step.Purge piece outcome = OneCall (20 ∷ 22 ∷ []) client Purge piece outcome
RowPiece m past client (step.Log lsn) piece outcome = LogPiece m client lsn piece outcome

abbrev pub refused_row : ℕ → Outcome → List Refused
refused_row row accepted = []
refused_row row (refused n) = record { row = row; number = n } ∷ []

-- one more row: its piece, and its refusal if it has one
pub record AddsRow (m : Manner) (row : Row) (past after : Trail)
    (refusals refusals_after : List Refused) : Type 0 where
  pub piece : Trail
  pub outcome : Outcome
  pub of_row : RowPiece m past row.client row.step piece outcome
  pub grows : after ≡ piece ++ past
  pub refuses : refusals_after ≡ refused_row row.row outcome ++ refusals

-- the rows, their refusals and the entries, each newest first; and where each row's piece ends, by
-- the number of entries then
abbrev pub FollowsBy : Manner → List Row → List ℕ → Trail → List Refused → Type 0
FollowsBy m [] [] past refusals = (past ≡ []) × (refusals ≡ [])
FollowsBy m [] (end ∷ ends) past refusals = ⊥
FollowsBy m (row ∷ rows) [] past refusals = ⊥
FollowsBy m (row ∷ rows) (end ∷ ends) past refusals = record {
  before : Trail;
  earlier : List Refused;
  adds : AddsRow m row before past earlier refusals;
  ends_here : end ≡ length past;
  follows : FollowsBy m rows ends before earlier;
}

-- of some passes in the order taken, the one to go back next: of the lowest client that holds any,
-- the first
abbrev pub first_to_go_back : List Grant → Option Grant
first_to_go_back held = find (λ g. every (λ h. nat_le g.client h.client) held) held

abbrev pub next_to_go_back : Trail → Option Grant
next_to_go_back past = first_to_go_back (held_passes past)

-- passes go back until none is held
pub data GivesBack : Trail → Trail → Type 0 where
  none_held : {past : Trail} → passes_out past ≡ [] → GivesBack past past
  next : {past after : Trail} (g : Grant) → next_to_go_back past ≡ Some g
      → GivesBack (unfix_of g ∷ past) after → GivesBack past after

-- the entries follow the script: the pieces of its rows, by one cut, and then the passes still held
pub record Follows (m : Manner) (script : List Row) (past : Trail)
    (refusals : List Refused) : Type 0 where
  pub by_rows : Trail
  pub ends : List ℕ
  pub pieces : FollowsBy m (reverse script) ends by_rows (reverse refusals)
  pub gives_back : GivesBack by_rows past
