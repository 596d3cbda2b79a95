-- From what the clients left to what holds of the run.
use Rattle.std.proofs.Common.{◌≡◌, ◌≢◌, ℕ, zero, suc, ◌+◌, ◌<◌, List, [], ◌∷◌, length, map, reverse, get_or, refl, sym, ap, subst, ◌∙◌, All, arith}
use Rattle.std.specs.Prelude.{flat_map, zip, Option, Some, None, IfSome, Result, Ok, Err, IfOk}
use Rattle.std.specs.declared.vec.Vec.{Vec}
use Rattle.std.specs.declared.alloc.Global.{Global}
use Rattle.bp_page.specs.declared.limits.Geometry.{Geometry}
use Rattle.bp_page.specs.declared.refusals.Refusal.{Refusal}
use Rattle.bp_replay.specs.declared.run.Outcome.{Outcome}
use Rattle.std.proofs.lemmas.List.{get_or-map, reverse-reverse, length-map}
use Rattle.std.proofs.lemmas.List.Elements.{All-head, All-tail, All-nil, All-cons, All-append}
use Rattle.std.proofs.lemmas.List.Sorted.{All-permutation}
use Rattle.std.proofs.lemmas.List.Folds.{flat_map-map}
use Rattle.std.specs.List.Sorted.{IsPermutation}
use Rattle.bp_trail.specs.declared.entries.Entry.{Entry}
use Rattle.bp_scripts.specs.declared.rows.Row.{Row}
use Rattle.bp_scripts.specs.declared.rows.Refused.{Refused}
use Rattle.bp_trail.specs.Parameters.{Parameters}
use Rattle.bp_trail.specs.Trail.{Trail}
use Rattle.bp_trail.specs.Legal.{Legal}
use Rattle.bp_trail.specs.Pieces.Manner.{session}
use Rattle.bp_scripts.specs.Script.{FollowsBy, GivesBack, Follows}
use Rattle.bp_trail.specs.Clients.{of_client}
use Rattle.bp_trail.proofs.OfClient.{of_client-reverse}
use Rattle.bp_scripts.specs.LogBound.{IsWithinLog}
use Rattle.bp_core.specs.CoreView.{CoreView}
use Rattle.bp_core.specs.Work.{Reads, Writes, WorksThrough}
use Rattle.bp_shared.specs.Sessions.{SessionValue, WithSomeLsn}
use Rattle.bp_shared.specs.Telling.{GoesOnFrom}
use Rattle.bp_workers.specs.declared.worker.Left.{Left}
use Rattle.bp_workers.specs.Lists.{SideBySide}
use Rattle.bp_workers.specs.Workers.{UpkeepValue}
use Rattle.bp_workers.specs.Runs.{KeepsUp, LeftBy}
use Rattle.bp_workers.proofs.Lining.{as_long, as_many}
use Rattle.bp_replay.specs.Scripts.{list_of, lists, NoneIsStrange}
use Rattle.bp_replay.specs.Players.{PlayerValue, new_player, new_players, IsUnplayed, Leads, PlayerLeaves, LeftValue, left_value}
use Rattle.bp_replay.specs.ScriptRuns.{SaidIsTheirs, EachFollows, PortsWork, IsRun, Joined}
use Rattle.bp_replay.proofs.Bounding.{bounded-whole}
use Rattle.bp_replay.proofs.Following.{gives-back}
use Rattle.bp_replay.proofs.Playing.{whole-work}
use Rattle.bp_replay.proofs.Making.{length-new_players}
use Rattle.bp_replay.proofs.Ruling.{rules-kept, marks-by-rows}

-- the list (newest first) follows the script by the cut with these ends (newest first)
record FollowsCut (script : List Row) (ends : List ℕ) (said : Trail) (refused : List Refused) : Type 0 where
  by_rows : Trail
  pieces : FollowsBy session (reverse script) ends by_rows (reverse refused)
  gives_back : GivesBack by_rows said
  known : NoneIsStrange refused

-- what client c left, with its script and the port that it was given: its list is the trail's part
record IsPlayed {P : Type 0} (reads : Reads P) (writes : Writes P) (past : Trail) (c : ℕ) (rows : List Row) (port : P) (l : LeftValue P) : Type 0 where
  client : l.client ≡ c
  theirs : of_client c past ≡ l.said
  script : l.script ≡ rows
  follows : FollowsCut rows l.ends l.said l.refused
  within : c ≡ 0 → IsWithinLog rows l.ends past
  works : WorksThrough reads (WithSomeLsn writes) [] l.said port l.port

-- what was left is of these scripts and ports, in order
pub record ArePlayed {P : Type 0} (reads : Reads P) (writes : Writes P) (past : Trail) (scripts : List (List Row)) (ports : List P) (lefts : List (LeftValue P)) : Type 0 where
  counted : length lefts ≡ length scripts
  each : (c : ℕ) (d : LeftValue P) (e : P) → c < length scripts → IsPlayed reads writes past c (list_of c scripts) (get_or ports c e) (get_or lefts c d)

-- where client 0 took nothing, nothing was cut of the trail
untaken : (core : CoreView) (more : UpkeepValue → Type 0) (upkeep : Option UpkeepValue) → KeepsUp core 0 upkeep → IfSome upkeep (λ u. (u.taken ≡ []) × more u) → core.before ≡ []
untaken core more None keeps none = absurd keeps
untaken core more (Some u) keeps none = sym keeps.0 ∙ none.0

-- and no mark came before the log rows, all of which client 0 played
led : (core : CoreView) (played : Type 0) (script : List Row) (ends : List ℕ) (s : SessionValue) (said : Trail) (upkeep : Option UpkeepValue) → KeepsUp core 0 upkeep → IfSome upkeep (λ u. (u.taken ≡ []) × (played → Leads script ends s u.raised)) → played → GoesOnFrom s.seen core.past
    → of_client 0 core.past ≡ said → GivesBack s.said said → IsWithinLog script ends core.past
led core played script ends s said None keeps leads was on theirs back = absurd keeps
led core played script ends s said (Some u) keeps leads was on theirs back =
    let l = leads.1 was in
    bounded-whole script ends s.said said s.seen core.past l.bounded on theirs back (omega (arith, keeps.1, l.raised_is))

module _ {P K I B S : Type 0} (reads : Reads P) (writes : Writes P) (core : CoreView) (geometry_of : P → Geometry) (g : Geometry) where
  -- what is left by players of scripts over ports, the first of this client
  abbrev pub AreLeft : ℕ → List (List Row) → List P → List (Left P PlayerValue K I B S) → Type 0
  AreLeft first scripts ports lefts = SideBySide (LeftBy core geometry_of (PlayerLeaves reads writes geometry_of)) first (zip (new_players g first scripts) ports) lefts

  -- the players being those of the scripts
  pub are_left : (players : List PlayerValue) (scripts : List (List Row)) (ports : List P) (lefts : List (Left P PlayerValue K I B S)) → players ≡ new_players g 0 scripts → SideBySide (LeftBy core geometry_of (PlayerLeaves reads writes geometry_of)) 0 (zip players ports) lefts → AreLeft 0 scripts ports lefts
  are_left players scripts ports lefts are each = subst (λ ps. SideBySide (LeftBy core geometry_of (PlayerLeaves reads writes geometry_of)) 0 (zip ps ports) lefts) are each

  -- by the player's own word and what went back
  played : (c : ℕ) (rows : List Row) (port : P) (left : Left P PlayerValue K I B S) → geometry_of port ≡ g → LeftBy core geometry_of (PlayerLeaves reads writes geometry_of) c (new_player g c rows, port) left
      → IsPlayed reads writes core.past c rows port (left_value left)
  played c rows port left of_file is =
      let unplayed : IsUnplayed (new_player g c rows) is.returned.client (geometry_of port) = record { ends = refl; refused = refl; client_is = sym is.whose ∙ is.client_is; pages = ap (λ (x : Geometry). x.pages) (sym of_file); size = ap (λ (x : Geometry). x.size) (sym of_file) } in
      let run = is.leaves.0.plays unplayed in
      let went_back = gives-back is.returned.said left.book.said is.back is.all_back.1 in
      record {
        client = is.whose;
        theirs = is.theirs;
        script = is.leaves.0.script;
        follows = record { by_rows = is.returned.said; pieces = run.pieces; gives_back = went_back; known = run.known };
        within = λ first.
            led core (IsUnplayed (new_player g c rows) 0 (geometry_of port)) rows left.worker.ends is.returned left.book.said is.upkeep (subst (λ n. KeepsUp core n is.upkeep) first is.keeps_up) is.leaves.1 (record { ends = refl; refused = refl; client_is = first; pages = unplayed.pages; size = unplayed.size }) is.saw
            (subst (λ n. of_client n core.past ≡ left.book.said) first is.theirs) went_back;
        works = whole-work reads writes is.returned.said left.book.said port left.port run.work went_back;
      }

  played-at : (first : ℕ) (scripts : List (List Row)) (ports : List P) (lefts : List (Left P PlayerValue K I B S)) (k c : ℕ) (d : LeftValue P) (e : P) → length ports ≡ length scripts → All (λ p. geometry_of p ≡ g) ports → k < length scripts → first + k ≡ c
      → AreLeft first scripts ports lefts → IsPlayed reads writes core.past c (list_of k scripts) (get_or ports k e) (get_or (map left_value lefts) k d)
  played-at first [] ports lefts k c d e counted of_file below is each = absurd (omega (arith, below))
  played-at first (rows ∷ scripts) [] lefts k c d e counted of_file below is each = absurd (omega (arith, counted))
  played-at first (rows ∷ scripts) (port ∷ ports) [] k c d e counted of_file below is each = absurd each
  played-at first (rows ∷ scripts) (port ∷ ports) (l ∷ lefts) zero c d e counted of_file below is each =
      subst (λ n. IsPlayed reads writes core.past n rows port (left_value l)) (omega (arith, is)) (played first rows port l (All-head (λ p. geometry_of p ≡ g) port ports of_file) each.0)
  played-at first (rows ∷ scripts) (port ∷ ports) (l ∷ lefts) (suc k) c d e counted of_file below is each =
      played-at (suc first) scripts ports lefts k c d e (omega (arith, counted)) (All-tail (λ p. geometry_of p ≡ g) port ports of_file) (omega (arith, below)) (omega (arith, is)) each.1

  -- the list of no session was cut
  pub books_uncut : (first : ℕ) (scripts : List (List Row)) (ports : List P) (lefts : List (Left P PlayerValue K I B S)) → length ports ≡ length scripts → AreLeft first scripts ports lefts → All (λ (l : Left P PlayerValue K I B S). l.book.before ≡ []) lefts
  books_uncut first [] ports [] counted each = All-nil (λ (l : Left P PlayerValue K I B S). l.book.before ≡ [])
  books_uncut first [] ports (l ∷ lefts) counted each = absurd each
  books_uncut first (rows ∷ scripts) [] lefts counted each = absurd (omega (arith, counted))
  books_uncut first (rows ∷ scripts) (port ∷ ports) [] counted each = absurd each
  books_uncut first (rows ∷ scripts) (port ∷ ports) (l ∷ lefts) counted each =
      All-cons (λ (l : Left P PlayerValue K I B S). l.book.before ≡ []) l lefts (each.0.cut ∙ each.0.leaves.0.uncut) (books_uncut (suc first) scripts ports lefts (omega (arith, counted)) each.1)

  -- nor was the trail
  pub core_uncut : (scripts : List (List Row)) (ports : List P) (lefts : List (Left P PlayerValue K I B S)) → 0 < length scripts → length ports ≡ length scripts → AreLeft 0 scripts ports lefts → core.before ≡ []
  core_uncut [] ports lefts some counted each = absurd (omega (arith, some))
  core_uncut (rows ∷ scripts) [] lefts some counted each = absurd (omega (arith, counted))
  core_uncut (rows ∷ scripts) (port ∷ ports) [] some counted each = absurd each
  core_uncut (rows ∷ scripts) (port ∷ ports) (l ∷ lefts) some counted each = untaken core _ each.0.upkeep each.0.keeps_up each.0.leaves.1

  -- what was left is of all scripts and ports
  pub are_played : (scripts : List (List Row)) (ports : List P) (lefts : List (Left P PlayerValue K I B S)) → length ports ≡ length scripts → All (λ p. geometry_of p ≡ g) ports → AreLeft 0 scripts ports lefts
      → ArePlayed reads writes core.past scripts ports (map left_value lefts)
  are_played scripts ports lefts counted of_file each =
      let players = new_players g 0 scripts in
      let many : length players ≡ length scripts = length-new_players g 0 scripts in
      record {
        counted = length-map lefts left_value ∙ sym (as_long (LeftBy core geometry_of (PlayerLeaves reads writes geometry_of)) 0 (zip players ports) lefts each) ∙ as_many players ports (counted ∙ sym many) ∙ many;
        each = λ c d e below. played-at 0 scripts ports lefts c c d e counted of_file below (omega arith) each;
      }

-- ---- clause by clause

module _ {P : Type 0} (reads : Reads P) (writes : Writes P) (scripts : List (List Row)) (ports : List P) (trail : List Entry) (lefts : List (LeftValue P)) (d : LeftValue P) (are : ArePlayed reads writes (reverse trail) scripts ports lefts) where
  abbrev left_at : ℕ → LeftValue P
  left_at c = get_or lefts c d

  is-at : (c : ℕ) → c < length scripts → IsPlayed reads writes (reverse trail) c (list_of c scripts) (get_or ports c d.port) (left_at c)
  is-at c below = are.each c d d.port below

  said-at : (c : ℕ) → c < length scripts → list_of c (map (λ l. reverse l.said) lefts) ≡ reverse (left_at c).said
  said-at c below = get_or-map (λ l. reverse l.said) lefts c d [] (omega (arith, are.counted))

  refused-at : (c : ℕ) → c < length scripts → list_of c (map (λ l. l.refused) lefts) ≡ (left_at c).refused
  refused-at c below = get_or-map (λ l. l.refused) lefts c d [] (omega (arith, are.counted))

  left-at : (c : ℕ) (e : P) → c < length scripts → get_or (map (λ l. l.port) lefts) c e ≡ (left_at c).port
  left-at c e below = get_or-map (λ l. l.port) lefts c d e (omega (arith, are.counted))

  theirs : (c : ℕ) → c < length scripts → list_of c (map (λ l. reverse l.said) lefts) ≡ of_client c trail
  theirs c below =
      said-at c below ∙ ap reverse (sym (is-at c below).theirs ∙ of_client-reverse c trail) ∙ reverse-reverse (of_client c trail)

  -- client c's list follows its script by the cut of its player, whatever equals that list and its refused rows
  follows-at : (c : ℕ) (said : Trail) (refusals : List Refused) → c < length scripts → (left_at c).said ≡ said → (left_at c).refused ≡ refusals → Follows session (list_of c scripts) said refusals
  follows-at c said refusals below is are_refused =
      let f = (is-at c below).follows in
      record {
        by_rows = f.by_rows;
        ends = (left_at c).ends;
        pieces = subst (λ (rs : List Refused). FollowsBy session (reverse (list_of c scripts)) (left_at c).ends f.by_rows (reverse rs)) are_refused f.pieces;
        gives_back = subst (λ list. GivesBack f.by_rows list) is f.gives_back;
      }

  list-at : (said : List (List Entry)) (c : ℕ) → said ≡ map (λ l. reverse l.said) lefts → c < length scripts → (left_at c).said ≡ reverse (list_of c said)
  list-at said c are_said below = sym (reverse-reverse (left_at c).said) ∙ ap reverse (sym (said-at c below)) ∙ ap (λ (lists : List (List Entry)). reverse (list_of c lists)) (sym are_said)

  -- the same of the lists that were left
  follows : (said : List (List Entry)) (c : ℕ) → said ≡ map (λ l. reverse l.said) lefts → c < length scripts → Follows session (list_of c scripts) (reverse (list_of c said)) (list_of c (map (λ l. l.refused) lefts))
  follows said c are_said below = follows-at c (reverse (list_of c said)) (list_of c (map (λ l. l.refused) lefts)) below (list-at said c are_said below) (sym (refused-at c below))

  -- what client c's port did is what its list tells
  works-at : (said : List (List Entry)) (left : List P) (c : ℕ) (e : P) → said ≡ map (λ l. reverse l.said) lefts → left ≡ map (λ l. l.port) lefts → c < length scripts
      → WorksThrough reads (WithSomeLsn writes) [] (reverse (list_of c said)) (get_or ports c e) (get_or left c e)
  works-at said left c e are_said are_left below =
      subst (λ es. WorksThrough reads (WithSomeLsn writes) [] es (get_or ports c e) (get_or left c e)) (list-at said c are_said below)
      (subst (λ port. WorksThrough reads (WithSomeLsn writes) [] (left_at c).said (get_or ports c e) port) (sym (left-at c e below) ∙ ap (λ (ps : List P). get_or ps c e) (sym are_left))
      (are.each c d e below).works)

  within : 0 < length scripts → IsWithinLog (list_of 0 scripts) (left_at 0).ends (reverse trail)
  within some = (is-at 0 some).within refl

  known : (k : ℕ) (d : LeftValue P) → k < length lefts → NoneIsStrange (get_or lefts k d).refused
  known k d below = ((are.each k d d.port (omega (arith, below, are.counted))).follows).known

known-all : {P : Type 0} (lefts : List (LeftValue P)) → ((k : ℕ) (d : LeftValue P) → k < length lefts → NoneIsStrange (get_or lefts k d).refused) → NoneIsStrange (flat_map (λ l. l.refused) lefts)
known-all [] each = All-nil (λ r. r.number ≢ 16)
known-all (l ∷ lefts) each = All-append (λ r. r.number ≢ 16) l.refused (flat_map (λ k. k.refused) lefts) (each 0 l (omega arith)) (known-all lefts (λ k d below. each (suc k) d (omega (arith, below))))

-- the headline, from what was left
run_with : {P : Type 0} (reads : Reads P) (writes : Writes P) (c : Parameters) (scripts : List (List Row)) (ports : List P) (trail : List Entry) (lefts : List (LeftValue P)) (d : LeftValue P) (said : List (List Entry)) (refused : List Refused) (left : List P)
    → 0 < length scripts → length ports ≡ length scripts → Legal c (reverse trail) → ArePlayed reads writes (reverse trail) scripts ports lefts → Joined lefts said refused left → IsRun reads writes c scripts ports trail said refused left
unfolding follows follows-at
run_with reads writes c scripts ports trail lefts d said refused left some ports_counted legal are j =
    let is = j.collected.said_are in
    let followed : EachFollows scripts said refused = record {
      refusals = map (λ l. l.refused) lefts;
      each = λ k below. follows reads writes scripts ports trail lefts d are said k is below;
      counted = length-map lefts (λ l. l.refused) ∙ are.counted;
      joined = subst (λ (all : List Refused). IsPermutation all refused) (j.collected.refused_are ∙ sym (flat_map-map (λ (rs : List Refused). rs) (λ (k : LeftValue _). k.refused) lefts)) j.same;
      in_order = j.in_order;
    } in
    let of_each : SaidIsTheirs (length scripts) trail said = record {
      counted = ap length is ∙ length-map lefts (λ k. reverse k.said) ∙ are.counted;
      each = λ k below. ap (list_of k) is ∙ theirs reads writes scripts ports trail lefts d are k below;
    } in
    let worked : PortsWork reads writes said ports left = record {
      counted = ap length j.collected.ports_are ∙ length-map lefts (λ k. k.port) ∙ are.counted ∙ sym ports_counted;
      each = λ k e below. works-at reads writes scripts ports trail lefts d are said left k e is j.collected.ports_are (omega (arith, below, ports_counted));
    } in
    let cut : Follows session (list_of 0 scripts) (reverse (list_of 0 said)) (list_of 0 followed.refusals) = followed.each 0 some in
    let bound : IsWithinLog (list_of 0 scripts) cut.ends (reverse trail) = within reads writes scripts ports trail lefts d are some in
    record {
      legal = legal;
      rules = rules-kept c trail legal;
      theirs = of_each;
      follows = followed;
      known = All-permutation (λ r. r.number ≢ 16) j.one_by_one refused j.same (subst NoneIsStrange (sym j.collected.refused_are) (known-all lefts (known reads writes scripts ports trail lefts d are)));
      works = worked;
      within_log = record { cut = cut; within = bound; by_rows = marks-by-rows (list_of 0 scripts) trail (list_of 0 said) (list_of 0 followed.refusals) cut (of_each.each 0 some) bound };
    }

run_is : {P : Type 0} (reads : Reads P) (writes : Writes P) (c : Parameters) (scripts : List (List Row)) (ports : List P) (trail : List Entry) (lefts : List (LeftValue P)) (said : List (List Entry)) (refused : List Refused) (left : List P)
    → 0 < length scripts → length ports ≡ length scripts → Legal c (reverse trail) → ArePlayed reads writes (reverse trail) scripts ports lefts → Joined lefts said refused left → IsRun reads writes c scripts ports trail said refused left
run_is reads writes c scripts ports trail [] said refused left some ports_counted legal are j = absurd (omega (arith, some, are.counted))
run_is reads writes c scripts ports trail (d ∷ lefts) said refused left some ports_counted legal are j = run_with reads writes c scripts ports trail (d ∷ lefts) d said refused left some ports_counted legal are j

-- the same of a run's answer
pub run_all : {P : Type 0} (reads : Reads P) (writes : Writes P) (p : Parameters) (scripts : List (List Row)) (ports : List P) (past : Trail) (lefts : List (LeftValue P)) (answer : Result (Outcome × Vec P Global) Refusal) → 0 < length scripts
    → length ports ≡ length scripts → ArePlayed reads writes past scripts ports lefts → Legal p past → IfOk answer (λ run. reverse run.0.trail.items ≡ past)
    → IfOk answer (λ run. Joined lefts (lists run.0.said.items) run.0.refused.items run.1.items) → IfOk answer (λ run. IsRun reads writes p scripts ports run.0.trail.items (lists run.0.said.items) run.0.refused.items run.1.items)
run_all reads writes p scripts ports past lefts (Ok run) some counted are legal own joined = run_is reads writes p scripts ports _ lefts _ _ _ some counted (subst (Legal p) (sym own) legal) (subst (λ es. ArePlayed reads writes es scripts ports lefts) (sym own) are) joined
run_all reads writes p scripts ports past lefts (Err why) some counted are legal own joined = tt
