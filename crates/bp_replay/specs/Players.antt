-- What one client's player is given, and what it leaves.
use Rattle.std.specs.Prelude.{◌≡◌, ℕ, suc, ◌≤◌, List, [], ◌∷◌, ◌++◌, reverse, length, map, flat_map, Some, IfSome}
use Rattle.std.specs.declared.vec.Vec.{Vec}
use Rattle.bp_page.specs.declared.limits.Geometry.{Geometry}
use Rattle.bp_trail.specs.declared.entries.Entry.{Entry}
use Rattle.bp_scripts.specs.declared.rows.Row.{Row}
use Rattle.bp_scripts.specs.declared.rows.Refused.{Refused}
use Rattle.bp_trail.specs.Trail.{Trail}
use Rattle.bp_trail.specs.Pieces.Manner.{session}
use Rattle.bp_scripts.specs.Script.{FollowsBy}
use Rattle.bp_core.specs.Work.{Reads, Writes}
use Rattle.bp_shared.specs.Sessions.{DoesWorkSaid, SessionValue}
use Rattle.bp_scripts.specs.LogBound.{log_of, logged}
use Rattle.bp_workers.specs.declared.worker.Left.{Left}
use Rattle.bp_workers.specs.Workers.{Leaving}
use Rattle.bp_replay.specs.Scripts.{CanPlay, NoneIsStrange}
use Rattle.bp_replay.specs.Bounds.{IsBounded}

-- a client's script and the pages that it is for, the ends of its rows' pieces (newest first), and
-- the rows refused
pub record PlayerValue : Type 0 where
  pub client : ℕ
  pub geometry : Geometry
  pub script : List Row
  pub ends : List ℕ
  pub refused : List Refused

-- a player as its fields have it
abbrev pub player_view : {A : Type 0} → ℕ → Geometry → Vec Row A → Vec ℕ A → Vec Refused A
    → PlayerValue
player_view client geometry script ends refused = record {
  client = client;
  geometry = geometry;
  script = script.items;
  ends = reverse ends.items;
  refused = refused.items;
}

pub record IsPlayer (p : PlayerValue) (for_ends for_refused : ℕ) : Type 0 where
  pub fits : CanPlay p.geometry p.client p.script
  pub ends_fit : length p.script ≤ for_ends
  pub refused_fit : length p.script ≤ for_refused

abbrev pub new_player : Geometry → ℕ → List Row → PlayerValue
new_player geometry client script = record {
  client = client;
  geometry = geometry;
  script = script;
  ends = [];
  refused = [];
}

-- a player for each script, the clients from this one on
abbrev pub new_players : Geometry → ℕ → List (List Row) → List PlayerValue
new_players geometry first [] = []
new_players geometry first (script ∷ scripts) =
    new_player geometry first script ∷ new_players geometry (suc first) scripts

-- the list (newest first) is the pieces of the rows by the cut with these ends (newest first), and
-- the port did its work and nothing else
pub record PlaysRows {P : Type 0} (reads : Reads P) (writes : Writes P) (script : List Row)
    (said : Trail) (ends : List ℕ) (refused : List Refused) (port kept : P) : Type 0 where
  pub pieces : FollowsBy session (reverse script) ends said (reverse refused)
  pub known : NoneIsStrange refused
  pub work : DoesWorkSaid reads writes [] said port kept

-- a row leaves an older list as it was, with entries after it; a log row adds none
pub record GrowsBy (row : Row) (said after : Trail) : Type 0 where
  pub piece : Trail
  pub grows : after ≡ piece ++ said
  pub quiet : (lsn : ℕ) → log_of row.step ≡ Some lsn → after ≡ said

-- a player that has run nothing, whose rows are this client's and for pages of this geometry
pub record IsUnplayed (p : PlayerValue) (client : ℕ) (g : Geometry) : Type 0 where
  pub ends : p.ends ≡ []
  pub refused : p.refused ≡ []
  pub client_is : p.client ≡ client
  pub pages : p.geometry.pages ≡ g.pages
  pub size : p.geometry.size ≡ g.size

-- a player keeps its script, and cuts nothing of its list; where it can play, it plays all rows
pub record Plays {P : Type 0} (reads : Reads P) (writes : Writes P) (geometry_of : P → Geometry)
    (old : PlayerValue) (port : P) (new : PlayerValue) (kept : P) (s : SessionValue)
    : Type 0 where
  pub script : new.script ≡ old.script
  pub uncut : s.before ≡ []
  pub plays : IsUnplayed old s.client (geometry_of port)
      → PlaysRows reads writes old.script s.said new.ends new.refused port kept

-- client 0 raised the mark as far as the log rows of its script say. It has seen that no mark came
-- before them
pub record Leads (script : List Row) (ends : List ℕ) (s : SessionValue) (raised : ℕ)
    : Type 0 where
  pub raised_is : raised ≡ logged script
  pub bounded : IsBounded script ends (length s.said) s.seen

-- that is what a player says of its work; client 0 took nothing of the trail
abbrev pub PlayerLeaves : {P : Type 0} → Reads P → Writes P → (P → Geometry)
    → Leaving PlayerValue P
PlayerLeaves reads writes geometry_of client old port new kept s upkeep =
    Plays reads writes geometry_of old port new kept s
    × IfSome upkeep (λ u. (u.taken ≡ []) × (IsUnplayed old 0 (geometry_of port)
    → Leads old.script new.ends s u.raised))

-- ---- after the threads

-- a client's script, its list and the ends of its rows' pieces (newest first), the rows refused, and
-- its port
pub record LeftValue (P : Type 0) : Type 0 where
  pub client : ℕ
  pub script : List Row
  pub said : Trail
  pub ends : List ℕ
  pub refused : List Refused
  pub port : P

-- what a player left of itself, its session and its port
abbrev pub left_value : {P K I B S : Type 0} → Left P PlayerValue K I B S → LeftValue P
left_value left = record {
  client = left.book.client;
  script = left.worker.script;
  said = left.book.said;
  ends = left.worker.ends;
  refused = left.worker.refused;
  port = left.port;
}

-- the lists that some clients left, in order, their refused rows, and their ports
pub record Collected {P : Type 0} (lefts : List (LeftValue P)) (said : List (List Entry))
    (refused : List Refused) (ports : List P) : Type 0 where
  pub said_are : said ≡ map (λ l. reverse l.said) lefts
  pub refused_are : refused ≡ flat_map (λ l. l.refused) lefts
  pub ports_are : ports ≡ map (λ l. l.port) lefts
