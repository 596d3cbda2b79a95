-- Each page that a flush of all passed over was not unsaved.
use Rattle.std.proofs.Common.{◌≡◌, ◌<◌, refl, sym, ap, subst, ◌∙◌, ℕ, Bool, true, false, nat_lt, Option, [], ◌∷◌, ◌++◌, length, append_assoc, arith, Some, None, Ok}
use Rattle.std.proofs.lemmas.Bool.{ltb-true, ltb-false}
use Rattle.std.proofs.lemmas.List.{length-append, nil_from_length}
use native.Mathlib.Decide.{ℕ_discrete}
use Rattle.bp_trail.specs.Trail.{Trail}
use Rattle.bp_trail.specs.declared.ends.Flushed.{Flushed}
use Rattle.bp_trail.specs.declared.entries.Reply.{Reply}
use Rattle.bp_trail.specs.Ends.{flushed_reply}
use Rattle.bp_core.specs.Added.{Ends}
use Rattle.bp_shared.specs.Sessions.{SessionValue}
use Rattle.bp_shared.specs.Telling.{GoesOnFrom, IsListOf}
use Rattle.bp_shared.specs.FlushAll.{Pool, Finds, Flushes, FlushesEach, FlushedAll, Later, Reaches}
use Rattle.bp_shared.specs.FlushAll.FlushesEach.{none, page}
use Rattle.bp_shared.specs.FlushAll.Reaches.{saved, flushed}

on_and_on : (start mid past : Trail) → GoesOnFrom start mid → GoesOnFrom mid past → GoesOnFrom start past
on_and_on start mid past a b = (b.0 ++ a.0, b.1 ∙ ap (λ es. b.0 ++ es) a.1 ∙ sym (append_assoc b.0 a.0 start))

stays : (s : SessionValue) → Later s s
stays s = record { client = refl; said = ([], refl); seen = ([], refl) }

on : (old mid new : SessionValue) → Later old mid → Later mid new → Later old new
on old mid new a b = record {
  client = b.client ∙ a.client;
  said = on_and_on old.said mid.said new.said a.said b.said;
  seen = on_and_on old.seen mid.seen new.seen a.seen b.seen;
}

-- one look, and one flush
looks_on : (o : Pool) (from : ℕ) (p : Option ℕ) (mid found : SessionValue) → Finds o mid from p found → Later mid found
looks_on o from p mid found finds = record {
  client = ap (λ (s : SessionValue). s.client) finds.sees.same;
  said = ([], ap (λ (s : SessionValue). s.said) finds.sees.same);
  seen = finds.sees.goes_on;
}

flush_on : (p : ℕ) (how : Flushed) (found new : SessionValue) → Flushes p (Ok how) found new → Later found new
flush_on p how found new flushes = record { client = flushes.client; said = (flushes.said.piece, flushes.said.grows); seen = flushes.seen }

after_one : (p : ℕ) (how : Flushed) (o : Pool) (from : ℕ) (mid found new : SessionValue) → Finds o mid from (Some p) found → Flushes p (Ok how) found new → Later mid new
after_one p how o from mid found new finds flushes = on mid found new (looks_on o from (Some p) mid found finds) (flush_on p how found new flushes)

goes_on : (o : Pool) (old : SessionValue) (next : ℕ) (new : SessionValue) → FlushesEach o old next new → Later old new
goes_on o old next new none = stays old
goes_on o old next new (page {from} {mid} p how found rest finds flushes) = on old mid new (goes_on o old from mid rest) (after_one p how o from mid found new finds flushes)

later : (o : Pool) (q : ℕ) (old mid new : SessionValue) → Reaches o q old mid → Later mid new → Reaches o q old new
later o q old mid new (saved was at before sees is after) then = saved was at before sees is (on at mid new after then)
later o q old mid new (flushed how at end before is after) then = flushed how at end before is (on end mid new after then)

reached : (o : Pool) (old : SessionValue) (next : ℕ) (new : SessionValue) (q : ℕ) → FlushesEach o old next new → q < next → Reaches o q old new
reached o old next new q none below = absurd (omega (arith, below))
reached o old next new q (page {from} {mid} p how found rest finds flushes) below = go (λ under. reached o old from mid q rest under) (ℕ_discrete q p) (nat_lt q from) refl
  where
    at : Later old found
    at = on old mid found (goes_on o old from mid rest) (looks_on o from (Some p) mid found finds)

    go : (q < from → Reaches o q old mid) → Dec (q ≡ p) → (b : Bool) → nat_lt q from ≡ b → Reaches o q old new
    go before_it (yes is) _ _ = flushed how found new at (subst (λ n. Flushes n (Ok how) found new) (sym is) flushes) (stays new)
    go before_it (no apart) true under = later o q old mid new (before_it (ltb-true q from under)) (after_one p how o from mid found new finds flushes)
    go before_it (no apart) false over = saved mid found (goes_on o old from mid rest) finds.sees (finds.found.3 q (ltb-false q from over) (omega (arith, below, apart))) (flush_on p how found new flushes)

pub each_reached : (o : Pool) (old new : SessionValue) (q : ℕ) → FlushedAll o old new → q < o.parameters.pages → Reaches o q old new
each_reached o old new q all below = go (nat_lt q all.next) refl
  where
    last : Later all.mid new
    last = looks_on o all.next None all.mid new all.none_left

    go : (b : Bool) → nat_lt q all.next ≡ b → Reaches o q old new
    go true under = later o q old all.mid new (reached o old all.next all.mid q all.flushed (ltb-true q all.next under)) last
    go false over = saved all.mid new (goes_on o old all.next all.mid all.flushed) all.none_left.sees (all.none_left.found q (ltb-false q all.next over) below) (stays new)

-- ---- where nothing was flushed and nothing new was seen
between : (start mid past : Trail) → GoesOnFrom start mid → GoesOnFrom mid past → past ≡ start → mid ≡ start
between start mid past a b is =
    let first = ap length a.1 in
    let then = ap length b.1 in
    let long = ap length is in
    a.1 ∙ ap (λ es. es ++ start) (nil_from_length a.0 (omega (arith, first, then, long, length-append a.0 start, length-append b.0 mid)))

none_ends : (reply : Reply) (piece : Trail) → Ends reply piece → length piece ≡ 0 → ⊥
none_ends reply [] ends empty = ends
none_ends reply (e ∷ piece) ends empty = absurd (omega (arith, empty))

pub looked : (o : Pool) (old new : SessionValue) (q : ℕ) → Reaches o q old new → new.said ≡ old.said → new.seen ≡ old.seen → IsListOf o.start old.seen old.client old.said
looked o old new q (saved was mid before sees is after) said seen =
    let said_is = between old.said was.said new.said before.said (subst (λ es. GoesOnFrom es new.said) (ap (λ (s : SessionValue). s.said) sees.same) after.said) said in
    let seen_is = between old.seen mid.seen new.seen (on_and_on old.seen was.seen mid.seen before.seen sees.goes_on) after.seen seen in
    subst (λ es. IsListOf o.start es old.client old.said) seen_is (subst (λ n. IsListOf o.start mid.seen n old.said) before.client (subst (λ es. IsListOf o.start mid.seen was.client es) said_is sees.list_is))
looked o old new q (flushed how mid end before is after) said seen =
    let first = ap length before.said.1 in
    let flush = ap length is.said.grows in
    let then = ap length after.said.1 in
    let long = ap length said in
    absurd (none_ends (flushed_reply how) is.said.piece is.said.of_row.1 (omega (arith, first, flush, then, long, length-append before.said.0 old.said, length-append is.said.piece mid.said, length-append after.said.0 end.said)))
