-- Each call keeps what the core holds in agreement with the trail.
use Rattle.std.proofs.Common.{inl, ◌≡◌, ℕ, ◌+◌, ◌^◌, ◌<◌, ◌≤◌, max, true, ◌∷◌, refl, sym, ◌∙◌, ap, arith}
use Rattle.std.proofs.lemmas.Bool.{lt-ltb, le-leb}
use Rattle.bp_trail.specs.declared.entries.Entry.{Entry}
use Rattle.bp_trail.specs.declared.entries.Call.{Call}
use Rattle.bp_trail.specs.declared.entries.Call.TheVariants.{Tick, Mark}
use Rattle.bp_trail.specs.declared.entries.Reply.{Reply}
use Rattle.bp_trail.specs.declared.entries.Reply.TheVariants.{Done}
use Rattle.bp_trail.specs.Parameters.{Parameters}
use Rattle.bp_trail.specs.Trail.{Trail}
use Rattle.bp_trail.specs.Clock.{clock}
use Rattle.bp_trail.specs.PageMap.{reply_of}
use Rattle.bp_trail.specs.Legal.{allowed}
use Rattle.bp_core.specs.Agreement.{Parts, Observed, Agrees}
use Rattle.bp_core.specs.Outcomes.{IsQuiet}
use Rattle.bp_core.specs.Outcomes.IsQuiet.{fix_busy, fix_none, fix_log, flush_busy, flush_absent, flush_clean, flush_log, discard_busy, discard_pinned, page_read}
use Rattle.bp_core.proofs.Changes.{clock-tick}

abbrev pub by : ℕ → Call → Reply → Entry
by client call reply = record { client = client; call = call; reply = reply }

module _ (c : Parameters) (past : Trail) (x : Parts) (a : Agrees c past x) where
  pub agrees-tick : (who n : ℕ) → who < c.clients → clock past + n ≤ 2 ^ 62 → Agrees c (by who (Tick n) Done ∷ past) (record x { now = x.now + n })
  agrees-tick who n client fits = record {
    legal = record { here = record { client = lt-ltb who c.clients client; allowed = le-leb (clock past + n) (2 ^ 62) fits; reply = inl refl }; before = a.legal };
    observed = record {
      clock_is = ap (λ t. t + n) a.observed.clock_is ∙ sym (clock-tick past who n);
      durable_is = a.observed.durable_is;
      passes_is = a.observed.passes_is;
      tickets_is = a.observed.tickets_is;
      out_is = a.observed.out_is;
      reads_is = a.observed.reads_is;
      writes_is = a.observed.writes_is;
      frames_is = a.observed.frames_is;
      stamps_are = a.observed.stamps_are;
      held_is = a.observed.held_is;
    };
    k_is = a.k_is;
    correlated_is = a.correlated_is;
    retained_is = a.retained_is;
    in_time = omega (arith, clock-tick past who n);
    by_now = λ p. omega (arith, clock-tick past who n, a.by_now p);
  }

  pub agrees-mark : (who lsn : ℕ) → who < c.clients → Agrees c (by who (Mark lsn) Done ∷ past) (record x { mark = max lsn x.mark })
  agrees-mark who lsn client = record {
    legal = record { here = record { client = lt-ltb who c.clients client; allowed = refl; reply = inl refl }; before = a.legal };
    observed = record {
      clock_is = a.observed.clock_is;
      durable_is = ap (max lsn) a.observed.durable_is;
      passes_is = a.observed.passes_is;
      tickets_is = a.observed.tickets_is;
      out_is = a.observed.out_is;
      reads_is = a.observed.reads_is;
      writes_is = a.observed.writes_is;
      frames_is = a.observed.frames_is;
      stamps_are = a.observed.stamps_are;
      held_is = a.observed.held_is;
    };
    k_is = a.k_is;
    correlated_is = a.correlated_is;
    retained_is = a.retained_is;
    in_time = a.in_time;
    by_now = a.by_now;
  }

  -- an entry that changes nothing but the trail
  pub agrees-quiet : (who : ℕ) (call : Call) (reply : Reply) → IsQuiet call reply → who < c.clients → allowed c past who call ≡ true → reply ≡ reply_of c past call → Agrees c (by who call reply ∷ past) x
  agrees-quiet who call reply quiet client may is = record {
    legal = record { here = record { client = lt-ltb who c.clients client; allowed = may; reply = inl is }; before = a.legal };
    observed = go call reply quiet;
    k_is = a.k_is;
    correlated_is = a.correlated_is;
    retained_is = a.retained_is;
    in_time = omega (arith, time call reply quiet, a.in_time);
    by_now = λ p. omega (arith, time call reply quiet, a.by_now p);
  }
    where
      go : (call : Call) (reply : Reply) → IsQuiet call reply → Observed c (by who call reply ∷ past) x
      go _ _ (fix_busy p) = a.observed
      go _ _ (fix_none p) = a.observed
      go _ _ (fix_log p lsn) = a.observed
      go _ _ (flush_busy p) = a.observed
      go _ _ (flush_absent p) = a.observed
      go _ _ (flush_clean p) = a.observed
      go _ _ (flush_log p lsn) = a.observed
      go _ _ (discard_busy p) = a.observed
      go _ _ (discard_pinned p) = a.observed
      go _ _ (page_read n p image) = a.observed

      time : (call : Call) (reply : Reply) → IsQuiet call reply → clock (by who call reply ∷ past) ≡ clock past
      time _ _ (fix_busy p) = refl
      time _ _ (fix_none p) = refl
      time _ _ (fix_log p lsn) = refl
      time _ _ (flush_busy p) = refl
      time _ _ (flush_absent p) = refl
      time _ _ (flush_clean p) = refl
      time _ _ (flush_log p lsn) = refl
      time _ _ (discard_busy p) = refl
      time _ _ (discard_pinned p) = refl
      time _ _ (page_read n p image) = refl
