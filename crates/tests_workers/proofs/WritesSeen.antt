-- A write that a session told stands in what it saw, and in all that goes on from there.
use Rattle.std.proofs.Common.{◌≡◌, refl, sym, ap, subst, ◌∙◌, ℕ, ◌+◌, ◌≤◌, ◌==◌, nat_lt, Bool, true, false, List, [], ◌∷◌, ◌++◌, ◌&&◌, Option, Some, None, if◌then◌else◌, arith}
use Rattle.std.specs.Prelude.{IsTrue}
use Rattle.std.proofs.lemmas.Bool.{and_parts, eq-eqb, false≢true, ltb-true, ltb-false, or_left, or_right}
use native.Mathlib.Decide.{ℕ_discrete}
use Rattle.bp_trail.specs.declared.entries.Call.TheVariants.{Write}
use Rattle.bp_trail.specs.declared.entries.Entry.{Entry}
use Rattle.bp_trail.specs.declared.entries.Reply.TheVariants.{Done}
use Rattle.bp_trail.specs.Event.{is_write, lsn_of, page_of, lsn_written}
use Rattle.bp_trail.specs.Lists.{some}
use Rattle.bp_trail.specs.Pieces.{by}
use Rattle.bp_trail.specs.Recovery.{WritesFrom, redo_point}
use Rattle.bp_trail.specs.Saved.{IsRedoFrom}
use Rattle.bp_trail.specs.Trail.{Trail}
use Rattle.bp_trail.proofs.Crashes.{checkpoint}
use Rattle.bp_trail.proofs.Lists.{some-append, some-filter}
use Rattle.bp_shared.specs.Telling.{GoesOnFrom, IsListOf}
use Rattle.bp_workers.specs.Sharing.{AgreesSoFar}
use Rattle.tests_workers.specs.Receipts.{writes_under, HasWrites, HasItsRecord, HaveTheirRecords, RedoMayBegin}

stays : (seen later : Trail) (lsn : ℕ) → IsTrue (some (writes_under lsn) seen) → GoesOnFrom seen later → IsTrue (some (writes_under lsn) later)
stays seen later lsn there on =
    let p = writes_under lsn in
    ap (some p) on.1 ∙ some-append p on.0 seen ∙ or_right (some p on.0) (some p seen) there

pub all_stay : (last : ℕ) (seen later : Trail) → HasWrites last seen → GoesOnFrom seen later → HasWrites last later
all_stay last seen later each on lsn some_lsn few = stays seen later lsn (each lsn some_lsn few) on

-- of a log whose receipt saw the older part of a trail
pub all_so_far : {S : Type 0} (last_of : S → ℕ) (log : S) (past : Trail) → AgreesSoFar (λ l seen. HasWrites (last_of l) seen) log past → HasWrites (last_of log) past
all_so_far last_of log past a = all_stay (last_of log) a.seen past a.agrees_with a.older

-- the write that the client's list has last
pub told_last : (start seen : Trail) (client writer pass page offset : ℕ) (bytes : List ℕ) (lsn : ℕ) (said rest : Trail) → IsListOf start seen client said → said ≡ by writer (Write pass page offset bytes lsn) Done ∷ rest → IsTrue (some (writes_under lsn) seen)
told_last start seen client writer pass page offset bytes lsn said rest list is =
    let p = writes_under lsn in
    let own : some p said ≡ true = ap (some p) is ∙ or_left (lsn == lsn) (some p rest) (eq-eqb lsn lsn refl) in
    let since : some p list.since ≡ true = some-filter p (λ e. e.client == client) list.since (ap (some p) list.theirs ∙ own) in
    ap (some p) list.goes_on ∙ some-append p list.since start ∙ or_left (some p list.since) (some p start) since

-- one record more
pub one_more : (last lsn : ℕ) (seen later : Trail) → HasWrites last seen → GoesOnFrom seen later → IsTrue (some (writes_under lsn) later) → lsn ≤ last + 1 → HasWrites lsn later
one_more last lsn seen later each on there next n some_n few = go (ℕ_discrete n lsn)
  where
    go : Dec (n ≡ lsn) → IsTrue (some (writes_under n) later)
    go (yes is) = subst (λ m. IsTrue (some (writes_under m) later)) (sym is) there
    go (no apart) = stays seen later n (each n some_n (omega (arith, few, next, apart))) on

-- a write of p under this LSN
record Written (p lsn : ℕ) (e : Entry) : Type 0 where
  pub writes : is_write e.call ≡ true
  pub under : lsn_of e.call ≡ lsn

was_written : (p lsn : ℕ) (e : Entry) → lsn_written p e ≡ Some lsn → Written p lsn e
was_written p lsn e is = go (is_write e.call && (page_of e.call == p)) refl is
  where
    go : (w : Bool) → (is_write e.call && (page_of e.call == p)) ≡ w → (if w then Some (lsn_of e.call) else None) ≡ Some lsn → Written p lsn e
    go true writes is = record { writes = (and_parts (is_write e.call) (page_of e.call == p) writes).0; under = cc }
    go false writes is = absurd (let no = is in cc)

-- where the writes of all records below `next` were seen, no later write is below it
later_write : (last next : ℕ) (seen before : Trail) (p lsn : ℕ) (e : Entry) → next ≤ last + 1 → HasWrites last seen → HasItsRecord (before ++ seen) e → lsn_written p e ≡ Some lsn → next ≤ lsn
later_write last next seen before p lsn e few has own is = go (nat_lt last (lsn_of e.call)) refl
  where
    w : Written p lsn e
    w = was_written p lsn e is

    n : ℕ
    n = lsn_of e.call

    go : (b : Bool) → nat_lt last n ≡ b → next ≤ lsn
    go true above = omega (arith, ltb-true last n above, w.under, few)
    go false below =
        let mine = own w.writes in
        let there : some (writes_under n) (before ++ seen) ≡ true = some-append (writes_under n) before seen ∙ or_right (some (writes_under n) before) (some (writes_under n) seen) (has n mine.0 (ltb-false last n below)) in
        absurd (false≢true (sym mine.1 ∙ there))

later_writes : (last next : ℕ) (seen : Trail) (p : ℕ) → next ≤ last + 1 → HasWrites last seen → (late : Trail) → HaveTheirRecords (late ++ seen) → WritesFrom next p late
later_writes last next seen p few has [] own = tt
later_writes last next seen p few has (e ∷ late) own = record {
  here = λ lsn is. later_write last next seen late p lsn e few has own.here is;
  before = later_writes last next seen p few has late own.before;
}

pub redo_may_begin : (last next from : ℕ) (seen : Trail) (least : Option ℕ) → HasWrites last seen → IsRedoFrom seen least → next ≤ last + 1 → from ≡ redo_point least next → RedoMayBegin from seen
redo_may_begin last next from seen least has asked few is late p own first at =
    let point = checkpoint seen late least next p asked (later_writes last next seen p few has late own) first at in
    omega (arith, is, point)
