-- What client 0 has seen of the marks, row after row, and what follows of the trail.
use Rattle.std.proofs.Common.{◌≡◌, ◌≢◌, refl, sym, ap, subst, ◌∙◌, ℕ, zero, suc, ◌<◌, ◌≤◌, ⊎_elim, List, [], ◌∷◌, ◌++◌, append_assoc, length, reverse, take, Option, Some, None, arith}
use Rattle.std.proofs.lemmas.Bool.{cases_lt}
use Rattle.std.proofs.lemmas.List.Elements.{All-nil}
use Rattle.std.proofs.lemmas.List.{length-append, length-reverse, reverse-append, take_all, take-append-le}
use Rattle.bp_trail.specs.declared.entries.Entry.{Entry}
use Rattle.bp_trail.specs.Lists.{EachEntry}
use Rattle.bp_trail.specs.Parameters.{Parameters}
use Rattle.bp_trail.specs.Trail.{Trail}
use Rattle.bp_trail.specs.Clock.{durable}
use Rattle.bp_trail.specs.Clients.{of_client}
use Rattle.bp_trail.specs.Pieces.Manner.{session}
use Rattle.bp_trail.proofs.OfClient.{of_client-append, of_client-hit}
use Rattle.bp_trail.proofs.Recovered.{durable-grows}
use Rattle.bp_scripts.specs.declared.rows.Row.{Row}
use Rattle.bp_scripts.specs.declared.rows.Refused.{Refused}
use Rattle.bp_scripts.specs.Script.{FollowsBy, GivesBack}
use Rattle.bp_scripts.specs.LogBound.{log_of, logged, at_least, row_at, EntryWithinLog, IsWithinLog}
use Rattle.bp_scripts.proofs.Logged.{logged_next, logged-snoc, row_last}
use Rattle.bp_scripts.proofs.InPieces.{stops_there, same_length, all_ended, not_given_back}
use Rattle.bp_core.specs.Work.{Reads, Writes}
use Rattle.bp_shared.specs.Sessions.{DoesWorkSaid, SessionValue}
use Rattle.bp_shared.proofs.Working.{none-yet}
use Rattle.bp_shared.specs.Telling.{GoesOnFrom, IsListOf}
use Rattle.bp_replay.specs.Bounds.{IsBounded, RaisesMark}
use Rattle.bp_replay.specs.Players.{GrowsBy, PlaysRows}
use Rattle.bp_replay.specs.Scripts.{NoneIsStrange}

-- ---- log rows and places

at_least-grows : (o : Option ℕ) (n m : ℕ) → n ≤ m → at_least o n ≤ at_least o m
at_least-grows None n m le = le
at_least-grows (Some k) n m le = omega (arith, le)

none-logged : (n : ℕ) → logged (take n []) ≡ 0
none-logged zero = refl
none-logged (suc n) = refl

logged-grows : (rows : List Row) (n m : ℕ) → n ≤ m → logged (take n rows) ≤ logged (take m rows)
logged-grows [] n m le = omega (arith, none-logged n)
logged-grows (row ∷ rows) zero m le = omega arith
logged-grows (row ∷ rows) (suc n) zero le = absurd (omega (arith, le))
logged-grows (row ∷ rows) (suc n) (suc m) le =
    omega (arith, logged_next row (take n rows), logged_next row (take m rows), at_least-grows (log_of row.step) _ _ (logged-grows rows n m (omega (arith, le))))

row_at-grows : (ends : List ℕ) (end place : ℕ) → row_at ends place ≤ row_at (ends ++ end ∷ []) place
row_at-grows [] end place = omega arith
row_at-grows (x ∷ ends) end place = grind (arith, row_at-grows ends end place)

reversed : (end : ℕ) (ends : List ℕ) → reverse (end ∷ ends) ≡ reverse ends ++ end ∷ []
reversed end ends = reverse-append (end ∷ []) ends

-- ---- entries of client 0

has_more : (since shown : Trail) → length (of_client 0 shown) ≤ length (of_client 0 (since ++ shown))
has_more since shown = omega (arith, ap length (of_client-append 0 since shown), length-append (of_client 0 since) (of_client 0 shown))

-- an entry that stands so early stands in the older part
stands_in : (since shown newer past : Trail) (e : Entry) → since ++ shown ≡ newer ++ e ∷ past → length (of_client 0 past) < length (of_client 0 shown) → (rest : Trail) × (shown ≡ rest ++ e ∷ past)
stands_in [] shown newer past e is below = (newer, is)
stands_in (s ∷ since) shown [] past e is below =
    let tail : since ++ shown ≡ past = cc in
    absurd (omega (arith, below, ap (λ es. length (of_client 0 es)) tail, has_more since shown))
stands_in (s ∷ since) shown (n ∷ newer) past e is below =
    let tail : since ++ shown ≡ newer ++ e ∷ past = cc in
    stands_in since shown newer past e tail below

-- ---- row after row

-- some of the trail was shown, after so many entries of the list and so many rows, and no log row came since
pub record Shown (rows : List Row) (ends : List ℕ) (said seen : Trail) (raised : ℕ) : Type 0 where
  pub shown : Trail
  pub count : ℕ
  pub n : ℕ
  pub goes_on : GoesOnFrom shown seen
  pub few : count ≤ length said
  pub few_rows : n ≤ length rows
  pub bounded : IsBounded rows ends count shown
  pub past_them : (place : ℕ) → count ≤ place → n ≤ row_at (reverse ends) place
  pub still : logged (take n rows) ≡ raised

-- no row was played
pub none-played : {P : Type 0} (reads : Reads P) (writes : Writes P) (said : Trail) (ends : List ℕ) (refused : List Refused) (port : P) → said ≡ [] → ends ≡ [] → refused ≡ [] → PlaysRows reads writes [] said (reverse ends) refused port port
none-played reads writes said ends refused port none_said none_ended none_refused = record {
  pieces = subst (λ es. FollowsBy session [] es said (reverse refused)) (sym (ap reverse none_ended)) (none_said, ap reverse none_refused);
  known = subst NoneIsStrange (sym none_refused) (All-nil (λ r. r.number ≢ 16));
  work = subst (λ es. DoesWorkSaid reads writes [] es port port) (sym none_said) (none-yet reads writes [] port);
}

pub none_shown : (said seen : Trail) → Shown [] [] said seen 0
none_shown said seen = record {
  shown = seen;
  count = 0;
  n = 0;
  goes_on = ([], refl);
  few = omega arith;
  few_rows = omega arith;
  bounded = record { has = omega arith; each = λ newer past e is mine below. absurd (omega (arith, below)) };
  past_them = λ place after. omega arith;
  still = refl;
}

-- the whole list is shown
pub bounded_now : (rows : List Row) (ends : List ℕ) (said seen now : Trail) (raised : ℕ) → Shown rows ends said seen raised → GoesOnFrom seen now → length said ≤ length (of_client 0 now) → durable now ≤ raised → IsBounded rows ends (length said) now
bounded_now rows ends said seen now raised s on has within = record {
  has = has;
  each = λ newer past e is mine below.
      ⊎_elim
      (λ (old : length (of_client 0 past) < s.count).
      let earlier = stands_in (on.0 ++ s.goes_on.0) s.shown newer past e (append_assoc on.0 s.goes_on.0 s.shown ∙ ap (λ es. on.0 ++ es) (sym s.goes_on.1) ∙ sym on.1 ∙ is) (omega (arith, old, s.bounded.has)) in
      s.bounded.each earlier.0 past e earlier.1 mine old)
      (λ (new : s.count ≤ length (of_client 0 past)).
      omega (arith, durable-grows newer (e ∷ past), ap durable is, within, s.still, logged-grows rows s.n (row_at (reverse ends) (length (of_client 0 past))) (s.past_them (length (of_client 0 past)) new)))
      (cases_lt (length (of_client 0 past)) s.count);
}

-- the bound of a row's rest is that of the rows before it
bounded-more : (rows : List Row) (ends : List ℕ) (row : Row) (end count : ℕ) (shown : Trail) → length ends ≡ length rows → count ≤ end → IsBounded rows ends count shown → IsBounded (rows ++ row ∷ []) (end ∷ ends) count shown
bounded-more rows ends row end count shown many past_it b = record {
  has = b.has;
  each = λ newer past e is mine below.
      let place = length (of_client 0 past) in
      let same : row_at (reverse (end ∷ ends)) place ≡ row_at (reverse ends) place = ap (λ xs. row_at xs place) (reversed end ends) ∙ stops_there (reverse ends) end place (omega (arith, below, past_it)) in
      let few : row_at (reverse ends) place ≤ length rows = omega (arith, row_last (reverse ends) place, length-reverse ends, many) in
      let bound : logged (take (row_at (reverse (end ∷ ends)) place) (rows ++ row ∷ [])) ≡ logged (take (row_at (reverse ends) place) rows) =
      ap (λ r. logged (take r (rows ++ row ∷ []))) same ∙ ap logged (take-append-le (row_at (reverse ends) place) rows (row ∷ []) few) in
      subst (λ n. durable (e ∷ past) ≤ n) (sym bound) (b.each newer past e is mine below);
}

-- a row that is no log row
pub row-shown : (rows : List Row) (ends : List ℕ) (row : Row) (said after seen later : Trail) (raised : ℕ) → length ends ≡ length rows → length said ≤ length after → GoesOnFrom seen later → Shown rows ends said seen raised
    → Shown (rows ++ row ∷ []) (length after ∷ ends) after later raised
row-shown rows ends row said after seen later raised many longer on s = record {
  shown = s.shown;
  count = s.count;
  n = s.n;
  goes_on = (on.0 ++ s.goes_on.0, on.1 ∙ ap (λ es. on.0 ++ es) s.goes_on.1 ∙ sym (append_assoc on.0 s.goes_on.0 s.shown));
  few = omega (arith, s.few, longer);
  few_rows = omega (arith, s.few_rows, length-append rows (row ∷ []));
  bounded = bounded-more rows ends row (length after) s.count s.shown many (omega (arith, s.few, longer)) s.bounded;
  past_them = λ place after_it. omega (arith, s.past_them place after_it, row_at-grows (reverse ends) (length after) place, ap (λ xs. row_at xs place) (reversed (length after) ends));
  still = ap logged (take-append-le s.n rows (row ∷ []) s.few_rows) ∙ s.still;
}

all-ended : (rows : List Row) (ends : List ℕ) (said : Trail) (refusals : List Refused) (place : ℕ) → FollowsBy session (reverse rows) ends said refusals → length said ≤ place → length rows ≤ row_at (reverse ends) place
all-ended rows ends said refusals place follows after =
    omega (arith, all_ended session (reverse rows) ends said refusals place follows after, same_length session (reverse rows) ends said refusals follows, length-reverse rows)

pub as-many : (rows : List Row) (ends : List ℕ) (said : Trail) (refusals : List Refused) → FollowsBy session (reverse rows) ends said refusals → length ends ≡ length rows
as-many rows ends said refusals follows = same_length session (reverse rows) ends said refusals follows ∙ length-reverse rows

-- a log row, before which the trail was shown: it adds nothing
pub log-row-shown : (rows : List Row) (ends : List ℕ) (row : Row) (said after seen now later : Trail) (raised raised_after : ℕ) (refusals : List Refused) → length ends ≡ length rows → after ≡ said → GoesOnFrom seen now → length said ≤ length (of_client 0 now) → durable now ≤ raised
    → GoesOnFrom now later → FollowsBy session (reverse (rows ++ row ∷ [])) (length after ∷ ends) after refusals → logged (rows ++ row ∷ []) ≡ raised_after → Shown rows ends said seen raised → Shown (rows ++ row ∷ []) (length after ∷ ends) after later raised_after
log-row-shown rows ends row said after seen now later raised raised_after refusals many same on has within goes_on follows logs s = record {
  shown = now;
  count = length after;
  n = length (rows ++ row ∷ []);
  goes_on = goes_on;
  few = omega arith;
  few_rows = omega arith;
  bounded = bounded-more rows ends row (length after) (length after) now many (omega arith) (subst (λ es. IsBounded rows ends (length es) now) (sym same) (bounded_now rows ends said seen now raised s on has within));
  past_them = λ place after_it. all-ended (rows ++ row ∷ []) (length after ∷ ends) after refusals place follows after_it;
  still = ap logged (take_all (length (rows ++ row ∷ [])) (rows ++ row ∷ []) (omega arith)) ∙ logs;
}

-- as many entries of the client were shown as its list has
pub has-all : (start seen said : Trail) (client : ℕ) → client ≡ 0 → IsListOf start seen client said → length said ≤ length (of_client 0 seen)
has-all start seen said client first l =
    let theirs : of_client 0 l.since ≡ said = subst (λ n. of_client n l.since ≡ said) first l.theirs in
    omega (arith, ap length theirs, ap (λ es. length (of_client 0 es)) l.goes_on, ap length (of_client-append 0 l.since start), length-append (of_client 0 l.since) (of_client 0 start))

-- one more row of client 0
pub led-row : (c : Parameters) (start : Trail) (rows : List Row) (row : Row) (ends : List ℕ) (old mid new : SessionValue) (raised after : ℕ) (refusals refusals_after : List Refused) → FollowsBy session (reverse rows) ends old.said refusals
    → FollowsBy session (reverse (rows ++ row ∷ [])) (length new.said ∷ ends) new.said refusals_after → old.client ≡ 0 → RaisesMark c start (log_of row.step) old raised mid after → GrowsBy row mid.said new.said → GoesOnFrom mid.seen new.seen → raised ≡ logged rows
    → Shown rows ends old.said old.seen raised → (after ≡ logged (rows ++ row ∷ [])) × Shown (rows ++ row ∷ []) (length new.said ∷ ends) new.said new.seen after
led-row c start rows row ends old mid new raised after refusals refusals_after follows follows_after first raises grows on is_logged s = go (log_of row.step) refl raises
  where
    go : (o : Option ℕ) → log_of row.step ≡ o → RaisesMark c start o old raised mid after → (after ≡ logged (rows ++ row ∷ [])) × Shown (rows ++ row ∷ []) (length new.said ∷ ends) new.said new.seen after
    go None is h =
        let same : after ≡ logged (rows ++ row ∷ []) = h.1 ∙ is_logged ∙ sym (logged-snoc rows row ∙ ap (λ o. at_least o (logged rows)) is) in
        let longer : length old.said ≤ length new.said = omega (arith, ap length grows.grows, length-append grows.piece mid.said, ap (λ (x : SessionValue). length x.said) h.0) in
        let goes_on : GoesOnFrom old.seen new.seen = subst (λ (x : SessionValue). GoesOnFrom x.seen new.seen) h.0 on in
        (same, subst (λ n. Shown (rows ++ row ∷ []) (length new.said ∷ ends) new.said new.seen n) (sym h.1) (row-shown rows ends row old.said new.said old.seen new.seen raised (as-many rows ends old.said refusals follows) longer goes_on s))
    go (Some lsn) is h =
        let logs : logged (rows ++ row ∷ []) ≡ after = logged-snoc rows row ∙ ap (λ o. at_least o (logged rows)) is ∙ omega (arith, h.2, is_logged) in
        let said_same : mid.said ≡ old.said = ap (λ (x : SessionValue). x.said) h.0.same in
        (sym logs, log-row-shown rows ends row old.said new.said old.seen mid.seen new.seen raised after refusals_after (as-many rows ends old.said refusals follows) (grows.quiet lsn is ∙ said_same) h.0.goes_on (has-all start mid.seen old.said old.client first h.0.list_is) h.1 on follows_after logs s)

-- ---- of the whole trail

each_entry : (P : Trail → Entry → Type 0) (trail : Trail) → ((newer past : Trail) (e : Entry) → trail ≡ newer ++ e ∷ past → P past e) → EachEntry P trail
each_entry P [] h = tt
each_entry P (x ∷ xs) h = record { here = h [] xs x refl; before = each_entry P xs (λ newer past e is. h (x ∷ newer) past e (ap (λ es. x ∷ es) is)) }

-- what was seen of it has all entries of the client but unfixes
pub bounded-whole : (script : List Row) (ends : List ℕ) (by_rows said seen trail : Trail) → IsBounded script ends (length by_rows) seen → GoesOnFrom seen trail → of_client 0 trail ≡ said → GivesBack by_rows said → durable trail ≤ logged script → IsWithinLog script ends trail
bounded-whole script ends by_rows said seen trail b on theirs back whole = record {
  whole = whole;
  each = each_entry (EntryWithinLog script ends) trail (λ newer past e is mine kept.
      let stands : said ≡ of_client 0 newer ++ e ∷ of_client 0 past = sym theirs ∙ ap (of_client 0) is ∙ of_client-append 0 newer (e ∷ past) ∙ ap (λ xs. of_client 0 newer ++ xs) (of_client-hit 0 e past mine) in
      let h = not_given_back by_rows said (of_client 0 newer) (of_client 0 past) e back kept stands in
      let below : length (of_client 0 past) < length by_rows = omega (arith, ap length h.has, length-append h.rest (e ∷ of_client 0 past)) in
      let early = stands_in on.0 seen newer past e (sym on.1 ∙ is) (omega (arith, below, b.has)) in
      b.each early.0 past e early.1 mine below);
}
