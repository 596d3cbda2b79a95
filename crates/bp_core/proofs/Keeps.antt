-- A core stays one with each entry: here those that touch no page. What a caller sees of each entry.
use Rattle.std.proofs.Common.{◌≡◌, ℕ, Bool, suc, ◌+◌, ◌*◌, ◌^◌, ◌<◌, ◌≤◌, max, true, false, [], ◌∷◌, length, sym, ◌∙◌, ap, subst, arith, refl}
use Rattle.std.proofs.lemmas.Bool.{lt-ltb}
use Rattle.bp_references.specs.Numbers.{count_below}
use Rattle.bp_replacer.specs.Histories.{Blocks, is_held, place_of, last_of, latest_of, HasStampsOf, SameAt, SameSettings, KeepsPlaces, forgets}
use Rattle.bp_trail.specs.declared.entries.Entry.{Entry}
use Rattle.bp_trail.specs.declared.entries.Call.{Call}
use Rattle.bp_trail.specs.declared.entries.Call.TheVariants.{Tick, Mark, Purge}
use Rattle.bp_trail.specs.declared.entries.Reply.{Reply}
use Rattle.bp_trail.specs.declared.entries.Reply.TheVariants.{Done, Forgot}
use Rattle.bp_core.specs.declared.state.State.{State}
use Rattle.bp_trail.specs.Parameters.{Parameters}
use Rattle.bp_trail.specs.Trail.{Trail}
use Rattle.bp_trail.specs.Passes.{passes, tickets, passes_out, reads_out, writes_out}
use Rattle.bp_trail.specs.Room.{free_keeping}
use Rattle.bp_trail.specs.PageMap.{reply_of}
use Rattle.bp_trail.specs.Event.{Grant}
use Rattle.bp_trail.specs.Legal.{allowed, is_out}
use Rattle.bp_core.specs.CoreView.{CoreView, EachPast, with_entry, HasRoomFor}
use Rattle.bp_keeper.specs.Kept.{Kept, with_next}
use Rattle.bp_core.specs.Outcomes.{IsQuiet, Adds}
use Rattle.bp_core.specs.Outcomes.IsQuiet.{fix_busy, fix_none, fix_log, flush_busy, flush_absent, flush_clean, flush_log, discard_busy, discard_pinned, page_read}
use Rattle.bp_core.specs.Agreement.{parts_of, HasCandidates, HasTrailRoom, IsCore, view_of}
use Rattle.bp_core.proofs.Steps.{agrees-quiet, agrees-tick, agrees-mark}
use Rattle.bp_core.proofs.Placed.{place-kept, placed-after, held-here, rehoused}
use Rattle.bp_core.proofs.CandidateSteps.{stay, stay-purge}
use Rattle.bp_core.proofs.PurgeSteps.{agrees-purge, count-same, nothing-beyond}

-- one entry more, of a trail with so many passes and tickets more at most
pub longer : (c : Parameters) (trail : Kept) → HasTrailRoom c trail → (e : Entry) → suc trail.len + length (passes_out (e ∷ trail.past)) + length (writes_out (e ∷ trail.past)) + 2 * length (reads_out (e ∷ trail.past)) ≤ c.room
    → passes (e ∷ trail.past) ≤ suc (passes trail.past) → tickets (e ∷ trail.past) ≤ suc (tickets trail.past) → HasTrailRoom c (record trail { past = e ∷ trail.past; len = suc trail.len })
longer c trail r e owed passes_fit tickets_fit = record {
  small = r.small;
  reserved = r.reserved;
  counted = omega (arith, r.counted);
  owed = owed;
  passes_fit = omega (arith, r.passes_fit, passes_fit);
  tickets_fit = omega (arith, r.tickets_fit, tickets_fit);
}

module _ (c : Parameters) (trail : Kept) (x : State) (core : IsCore c trail x) (v : CoreView) (is : view_of c trail ≡ v) where
  -- what is said of each past that a caller's view may have holds of the entries kept, and so for the parameters and the room
  pub at-past : (P : Parameters → Trail → Type 0) → EachPast v (P v.parameters) → P c trail.past
  at-past P each = subst (λ u. EachPast u (P u.parameters)) (sym is) each

  pub at-parameters : (P : Parameters → Type 0) → P v.parameters → P c
  at-parameters P holds = subst (λ u. P u.parameters) (sym is) holds

  pub at-room : (n : ℕ) → HasRoomFor n v → n ≤ free_keeping c trail.len trail.past
  at-room n room = let seen : HasRoomFor n (view_of c trail) = subst (HasRoomFor n) (sym is) room in omega (arith, seen, core.trail_room.counted)

  -- a caller sees which passes and tickets are out
  pub pass-seen : (g : Grant) (b : Bool) → is_out g x.passes.out ≡ b → EachPast v (λ past. is_out g (passes_out past) ≡ b)
  pass-seen g b was = subst (λ u. EachPast u (λ past. is_out g (passes_out past) ≡ b)) is (ap (is_out g) (sym core.agrees.observed.out_is) ∙ was)

  pub read-seen : (g : Grant) (b : Bool) → is_out g x.reads.out ≡ b → EachPast v (λ past. is_out g (reads_out past) ≡ b)
  read-seen g b was = subst (λ u. EachPast u (λ past. is_out g (reads_out past) ≡ b)) is (ap (is_out g) (sym core.agrees.observed.reads_is) ∙ was)

  pub write-seen : (g : Grant) (b : Bool) → is_out g x.writes.out ≡ b → EachPast v (λ past. is_out g (writes_out past) ≡ b)
  write-seen g b was = subst (λ u. EachPast u (λ past. is_out g (writes_out past) ≡ b)) is (ap (is_out g) (sym core.agrees.observed.writes_is) ∙ was)

  -- a caller sees the entry that was added
  pub adds : (who : ℕ) (call : Call) (reply : Reply) (later : Kept) (state : State) → later ≡ with_next trail who call reply → IsCore c later state → Adds v who call reply (view_of c later)
  adds who call reply later state added next = record { is = ap (view_of c) added ∙ ap (λ u. with_entry u who call reply) is; legal = next.agrees.legal }

  pub keeps-quiet : (who : ℕ) (call : Call) (reply : Reply) → IsQuiet call reply → who < v.parameters.clients → EachPast v (λ past. allowed v.parameters past who call ≡ true) → EachPast v (λ past. reply ≡ reply_of v.parameters past call) → HasRoomFor 1 v → IsCore c (with_next trail who call reply) x
  keeps-quiet who call reply quiet client may lawful room = record {
    agrees = agrees-quiet c trail.past (parts_of x) core.agrees who call reply quiet (at-parameters (λ q. who < q.clients) client) (at-past (λ q past. allowed q past who call ≡ true) may) (at-past (λ q past. reply ≡ reply_of q past call) lawful);
    candidates = same call reply quiet;
    trail_room = roomy call reply quiet;
    opening = core.opening;
    placed = core.placed;
    numbers = core.numbers;
    pass_room = core.pass_room;
    frame_room = core.frame_room;
  }
    where
      same : (call : Call) (reply : Reply) → IsQuiet call reply → HasCandidates c (with_next trail who call reply).past x.frames.candidates
      same _ _ (fix_busy p) = stay c trail.past x.frames.candidates core.candidates _ (λ q. refl)
      same _ _ (fix_none p) = stay c trail.past x.frames.candidates core.candidates _ (λ q. refl)
      same _ _ (fix_log p lsn) = stay c trail.past x.frames.candidates core.candidates _ (λ q. refl)
      same _ _ (flush_busy p) = stay c trail.past x.frames.candidates core.candidates _ (λ q. refl)
      same _ _ (flush_absent p) = stay c trail.past x.frames.candidates core.candidates _ (λ q. refl)
      same _ _ (flush_clean p) = stay c trail.past x.frames.candidates core.candidates _ (λ q. refl)
      same _ _ (flush_log p lsn) = stay c trail.past x.frames.candidates core.candidates _ (λ q. refl)
      same _ _ (discard_busy p) = stay c trail.past x.frames.candidates core.candidates _ (λ q. refl)
      same _ _ (discard_pinned p) = stay c trail.past x.frames.candidates core.candidates _ (λ q. refl)
      same _ _ (page_read n p image) = stay c trail.past x.frames.candidates core.candidates _ (λ q. refl)

      roomy : (call : Call) (reply : Reply) → IsQuiet call reply → HasTrailRoom c (with_next trail who call reply)
      roomy _ _ (fix_busy p) = longer c _ core.trail_room _ (omega (arith, at-room 1 room)) (omega arith) (omega arith)
      roomy _ _ (fix_none p) = longer c _ core.trail_room _ (omega (arith, at-room 1 room)) (omega arith) (omega arith)
      roomy _ _ (fix_log p lsn) = longer c _ core.trail_room _ (omega (arith, at-room 1 room)) (omega arith) (omega arith)
      roomy _ _ (flush_busy p) = longer c _ core.trail_room _ (omega (arith, at-room 1 room)) (omega arith) (omega arith)
      roomy _ _ (flush_absent p) = longer c _ core.trail_room _ (omega (arith, at-room 1 room)) (omega arith) (omega arith)
      roomy _ _ (flush_clean p) = longer c _ core.trail_room _ (omega (arith, at-room 1 room)) (omega arith) (omega arith)
      roomy _ _ (flush_log p lsn) = longer c _ core.trail_room _ (omega (arith, at-room 1 room)) (omega arith) (omega arith)
      roomy _ _ (discard_busy p) = longer c _ core.trail_room _ (omega (arith, at-room 1 room)) (omega arith) (omega arith)
      roomy _ _ (discard_pinned p) = longer c _ core.trail_room _ (omega (arith, at-room 1 room)) (omega arith) (omega arith)
      roomy _ _ (page_read n p image) = longer c _ core.trail_room _ (omega (arith, at-room 1 room)) (omega arith) (omega arith)

  -- ---- the clock, the mark and the histories
  pub keeps-tick : (who n : ℕ) → who < v.parameters.clients → x.clock + n ≤ 2 ^ 62 → HasRoomFor 1 v → IsCore c (with_next trail who (Tick n) Done) (record x { clock = x.clock + n })
  keeps-tick who n client fits room = record {
    agrees = agrees-tick c trail.past (parts_of x) core.agrees who n (at-parameters (λ q. who < q.clients) client) (omega (arith, core.agrees.observed.clock_is, fits));
    candidates = stay c trail.past x.frames.candidates core.candidates _ (λ q. refl);
    trail_room = longer c _ core.trail_room _ (omega (arith, at-room 1 room)) (omega arith) (omega arith);
    opening = core.opening;
    placed = core.placed;
    numbers = core.numbers;
    pass_room = core.pass_room;
    frame_room = core.frame_room;
  }

  pub keeps-mark : (who lsn : ℕ) → who < v.parameters.clients → HasRoomFor 1 v → IsCore c (with_next trail who (Mark lsn) Done) (record x { durable = max lsn x.durable })
  keeps-mark who lsn client room = record {
    agrees = agrees-mark c trail.past (parts_of x) core.agrees who lsn (at-parameters (λ q. who < q.clients) client);
    candidates = stay c trail.past x.frames.candidates core.candidates _ (λ q. refl);
    trail_room = longer c _ core.trail_room _ (omega (arith, at-room 1 room)) (omega arith) (omega arith);
    opening = core.opening;
    placed = core.placed;
    numbers = core.numbers;
    pass_room = core.pass_room;
    frame_room = core.frame_room;
  }

  pub keeps-purge : (who n : ℕ) (h : Blocks) → who < v.parameters.clients → HasRoomFor 1 v → ((bound : ℕ) → ((page : ℕ) → bound ≤ page → last_of x.histories page ≡ 0) → n ≡ count_below (forgets x.histories x.clock) bound) → SameSettings x.histories h
      → ((p : ℕ) → forgets x.histories x.clock p ≡ true → HasStampsOf h p []) → ((p : ℕ) → forgets x.histories x.clock p ≡ false → SameAt x.histories h p) → ((p : ℕ) → is_held h p ≡ is_held x.histories p) → ((p : ℕ) → latest_of h p ≤ latest_of x.histories p) → KeepsPlaces x.histories h
      → IsCore c (with_next trail who Purge (Forgot n)) (record x { histories = h })
  keeps-purge who n h client room counted settings gone kept held later places =
      let a = core.agrees in
      let next = agrees-purge c trail.past (parts_of x) a who n h (lt-ltb who c.clients (at-parameters (λ q. who < q.clients) client)) (counted c.pages (nothing-beyond c trail.past (parts_of x) a) ∙ count-same c trail.past (parts_of x) a) settings gone kept held later in
      record {
        agrees = rehoused c _ _ next (place_of h) (λ q here. place-kept x.histories h places q (held-here c trail.past (parts_of x) a q here) (held-here c _ _ next q here));
        candidates = stay-purge c trail.past x.frames.candidates core.candidates who n;
        trail_room = longer c _ core.trail_room _ (omega (arith, at-room 1 room)) (omega arith) (omega arith);
        opening = core.opening;
        placed = placed-after x.histories h places core.placed (λ q holds. sym (held q) ∙ holds);
        numbers = core.numbers;
        pass_room = core.pass_room;
        frame_room = core.frame_room;
      }
