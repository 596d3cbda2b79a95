-- Four numbers tell whether a legal trail leads where the empty one does.
use Rattle.std.proofs.Common.{◌≡◌, refl, ap, subst, ℕ, Bool, true, false, ◌==◌, List, [], ◌∷◌, if◌then◌else◌, arith}
use Rattle.std.proofs.lemmas.Bool.{false_from_ne_true}
use Rattle.bp_references.specs.Burst.{last_time}
use Rattle.bp_references.specs.Stamp.{stamp}
use Rattle.bp_trail.specs.declared.entries.Call.{Call}
use Rattle.bp_trail.specs.declared.entries.Reply.{Reply}
use Rattle.bp_trail.specs.Parameters.{Parameters}
use Rattle.bp_trail.specs.Event.{Grant}
use Rattle.bp_trail.specs.Trail.{Trail}
use Rattle.bp_trail.specs.Clock.{clock, durable}
use Rattle.bp_trail.specs.Passes.{passes, tickets, passes_out, reads_out, writes_out}
use Rattle.bp_trail.specs.Places.{residents, resident}
use Rattle.bp_trail.specs.Saved.{unsaved}
use Rattle.bp_trail.specs.References.{references, forgets}
use Rattle.bp_trail.specs.Legal.{Legal}
use Rattle.bp_trail.proofs.Same.{SameStanding}
use Rattle.bp_trail.specs.Standing.{standing}
use Rattle.bp_trail.proofs.Events.{Event, event-of}
use Rattle.bp_trail.proofs.Events.Event.{fix_hit, fix_replace, discard_absent, discarded, read_good, purged}
use Rattle.bp_trail.proofs.Serials.{AllBelow, numbered}
use Rattle.bp_trail.proofs.Places.{places}
use Rattle.bp_trail.proofs.Standings.{standing-from-same}

none-below : (gs : List Grant) → AllBelow 0 gs → gs ≡ []
none-below [] h = refl
none-below (g ∷ gs) h = let k = h.0 in absurd (omega arith)

-- no pass was ever given, so no page is resident and none has a hist
abbrev Unused : Parameters → Trail → Type 0
Unused c s = record {
  away : residents s ≡ [];
  known : (p : ℕ) → references c s p ≡ [];
}

module _ (c : Parameters) (s : Trail) (who : ℕ) (before : passes s ≡ 0 → Unused c s) where
  unused-with : (call : Call) (reply : Reply) → Event c s who call reply → passes (record { client = who; call = call; reply = reply } ∷ s) ≡ 0 → Unused c (record { client = who; call = call; reply = reply } ∷ s)
  unused-with _ _ (fix_hit p l r) z = absurd (omega arith)
  unused-with _ _ (read_good t p image o) z = absurd (omega arith)
  unused-with _ _ (fix_replace p v m w u) z = let h = before z in record { away = rw h.away refl; known = h.known }
  unused-with _ _ (discard_absent p x) z = let h = before z in record { away = h.away; known = λ q. but q (p == q) (h.known q) }
    where
      but : (q : ℕ) (b : Bool) → references c s q ≡ [] → (if b then [] else references c s q) ≡ []
      but q true e = refl
      but q false e = e
  unused-with _ _ (discarded p x) z = let h = before z in let k = rw h.away at x.here in cc
  unused-with _ _ purged z = let h = before z in record { away = h.away; known = λ q. go q (forgets c s q (references c s q)) (h.known q) }
    where
      go : (q : ℕ) (b : Bool) → references c s q ≡ [] → (if b then [] else references c s q) ≡ []
      go q true e = refl
      go q false e = e
  unused-with _ _ _ z = before z

unused : (c : Parameters) (s : Trail) → Legal c s → passes s ≡ 0 → Unused c s
unused c [] l z = record { away = refl; known = λ p. refl }
unused c (e ∷ s) l z = unused-with c s e.client (unused c s l.before) e.call e.reply (event-of c s e l.here) z

module _ (c : Parameters) (s : Trail) (l : Legal c s) (time : clock s ≡ 1) (mark : durable s ≡ 0) (no_pass : passes s ≡ 0) (no_ticket : tickets s ≡ 0) where
  nothing : Unused c s
  nothing = unused c s l no_pass

  away : (p : ℕ) → resident s p ≡ false
  away p = rw nothing.away refl

  saved : (p : ℕ) → unsaved s p ≡ false
  saved p = false_from_ne_true (unsaved s p) (λ u. let k = (places c s l).dirty p u in let a = away p in cc)

  pub same-as-empty : SameStanding c s []
  same-as-empty = record {
    time = time;
    mark = mark;
    next_pass = no_pass;
    next_ticket = no_ticket;
    passes_held = none-below (passes_out s) (subst (λ n. AllBelow n (passes_out s)) no_pass (numbered c s l).passes_below);
    reads_held = none-below (reads_out s) (subst (λ n. AllBelow n (reads_out s)) no_ticket (numbered c s l).reads_below);
    writes_held = nothing-out;
    places = away;
    images = λ p r. let a = away p in cc;
    tops = λ p r. let a = away p in cc;
    changed = saved;
    lasts = λ p. ap last_time (nothing.known p);
    stamps = λ p i. ap (stamp c.k c.correlated i) (nothing.known p);
    rewritten = λ who p n o. let w = nothing-out in let k = rw w at o in cc;
  }
    where
      nothing-out : writes_out s ≡ []
      nothing-out = none-below (writes_out s) (subst (λ n. AllBelow n (writes_out s)) no_ticket (numbered c s l).writes_below)

  -- so these four decide whether an opening is that of the empty trail
  pub standing-of-empty : standing c s ≡ standing c []
  standing-of-empty = standing-from-same c s [] same-as-empty
