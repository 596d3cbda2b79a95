-- No pinned page and no unsaved page is evicted, and no page is discarded that is pinned, loading or being written out.
use Rattle.std.proofs.Common.{◌≡◌, sym, ◌∙◌, ℕ, true, false, ◌==◌, subst, Some, [], ◌∷◌}
use Rattle.std.proofs.lemmas.Bool.{and_parts, eqb-true, false_from_ne_true, true≢false}
use Rattle.bp_trail.specs.declared.entries.Entry.{Entry}
use Rattle.bp_trail.specs.declared.entries.Call.{Call}
use Rattle.bp_trail.specs.declared.entries.Reply.{Reply}
use Rattle.bp_trail.specs.declared.entries.Reply.TheVariants.{Load}
use Rattle.bp_trail.specs.Parameters.{Parameters}
use Rattle.bp_trail.specs.Trail.{Trail}
use Rattle.bp_trail.specs.Event.{discards}
use Rattle.bp_trail.specs.Passes.{passes_out, is_of, pins}
use Rattle.bp_trail.specs.Places.{resident, loading, writing}
use Rattle.bp_trail.specs.Saved.{unsaved}
use Rattle.bp_trail.specs.Victim.{victim}
use Rattle.bp_trail.specs.Legal.{IsLawful, Legal}
use Rattle.bp_trail.specs.Safety.{EvictsSafely, IsIdle, DiscardsSafely, Safe}
use Rattle.bp_trail.proofs.Victim.{victim-is}
use Rattle.bp_trail.proofs.WriteAhead.{write_ahead}
use Rattle.bp_trail.proofs.Places.{places}
use Rattle.bp_trail.proofs.Ranges.{stays}
use Rattle.bp_trail.proofs.Counting.{none-count}
use Rattle.bp_trail.specs.Lists.{some}
use Rattle.bp_trail.proofs.Events.{Event, event-of}
use Rattle.bp_trail.proofs.Events.Event.{fix_load, fix_replace, discard_absent, discarded}

pub evicted-at : (c : Parameters) (past : Trail) (who : ℕ) (call : Call) (reply : Reply) → Event c past who call reply → (t v : ℕ) → reply ≡ Load t (Some v) → (victim c past ≡ Some v) × (unsaved past v ≡ false)
evicted-at c past who _ _ (fix_load p m f) t v h = cc
evicted-at c past who _ _ (fix_replace p u m w d) t v h = let i : u ≡ v = cc in (subst (λ x. victim c past ≡ Some x) i w, subst (λ x. unsaved past x ≡ false) i d)
evicted-at c past who _ _ _ t v h = cc

pub eviction : (c : Parameters) (past : Trail) (e : Entry) → IsLawful c past e → EvictsSafely c past e
eviction c past e l t v h =
    let r = evicted-at c past e.client e.call e.reply (event-of c past e l) t v h in
    let w = victim-is c past v r.0 in
    record { victim = w; unpinned = eqb-true (pins past v) 0 (and_parts (pins past v == 0) _ (and_parts (resident past v) _ w.eligible).1).0; saved = r.1 }

-- a page that is away has no pass out, and no write-out
away-idle : (c : Parameters) (past : Trail) (p : ℕ) → Legal c past → loading past p ≡ false → resident past p ≡ false → IsIdle past p
away-idle c past p l n away = record {
  unpinned = none-count (is_of p) (passes_out past) (false_from_ne_true (some (is_of p) (passes_out past)) (λ m. true≢false (sym ((places c past l).pinned p m) ∙ away)));
  not_loading = n;
  not_writing = false_from_ne_true (writing past p) (λ w. true≢false (sym (stays c past l p w) ∙ away));
}

discarded-at : (c : Parameters) (past : Trail) → Legal c past → (who : ℕ) (call : Call) (reply : Reply) → Event c past who call reply
    → (p : ℕ) → discards p (record { client = who; call = call; reply = reply }) ≡ true → IsIdle past p
discarded-at c past l who _ _ (discard_absent q x) p h = subst (IsIdle past) (eqb-true q p h) (away-idle c past q l x.not_loading x.not_resident)
discarded-at c past l who _ _ (discarded q x) p h = subst (IsIdle past) (eqb-true q p h) (record { unpinned = x.unpinned; not_loading = x.not_loading; not_writing = x.not_writing })
discarded-at c past l who _ _ _ p h = cc

pub discard : (c : Parameters) (past : Trail) (e : Entry) → Legal c (e ∷ past) → DiscardsSafely past e
discard c past e l p h = discarded-at c past l.before e.client e.call e.reply (event-of c past e l.here) p h

-- Every legal trail is safe.
pub safe : (c : Parameters) (past : Trail) → Legal c past → Safe c past
safe c [] l = tt
safe c (e ∷ past) l = record {
  here = record { evicts = eviction c past e l.here; discards = discard c past e l; logged = λ t p image r. write_ahead c past e t p image l r };
  before = safe c past l.before;
}
