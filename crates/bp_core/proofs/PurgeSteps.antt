-- A purge keeps what the core holds in agreement with the trail.
use Rattle.std.proofs.Common.{inl, ◌≡◌, ℕ, ◌-◌, ◌≤◌, nat_lt, Bool, true, false, not, if◌then◌else◌, ◌||◌, ◌&&◌, List, [], ◌∷◌, refl, ◌∙◌, ap, arith}
use Rattle.std.proofs.lemmas.Bool.{lt-ltb}
use Rattle.std.proofs.lemmas.Bool.Decides.{nat_tests}
use Rattle.bp_references.specs.Burst.{Reference}
use Rattle.bp_replacer.specs.Histories.{Blocks, is_held, latest_of, HasStampsOf, SameAt, SameSettings}
use Rattle.bp_trail.specs.declared.entries.Call.TheVariants.{Purge}
use Rattle.bp_trail.specs.declared.entries.Reply.TheVariants.{Forgot}
use Rattle.bp_trail.specs.Parameters.{Parameters}
use Rattle.bp_trail.specs.Trail.{Trail}
use Rattle.bp_trail.specs.Clock.{clock}
use Rattle.bp_trail.specs.Places.{resident, loading}
use Rattle.bp_trail.specs.Images.{held}
use Rattle.bp_trail.specs.References.{references}
use Rattle.bp_core.specs.Agreement.{Parts, Agrees}
use Rattle.bp_core.proofs.StampsKept.{stamps-kept, told-alike}
use Rattle.bp_core.proofs.Steps.{by}
use Rattle.bp_references.specs.Burst.{last_time}
use Rattle.bp_references.specs.Stamp.{IsTimed}
use Rattle.bp_references.specs.Numbers.{count_below}
use Rattle.bp_replacer.specs.Histories.{last_of, forgets}
use Rattle.bp_replacer.proofs.PurgeLaws.{count_below_same}
use Rattle.bp_trail.specs.References.{is_empty, forgotten, forgets as forgets_page}
use Rattle.bp_trail.proofs.Timed.{references-timed}
use Rattle.bp_trail.proofs.Ranges.{referred}

positive-is : (refs : List Reference) → IsTimed refs → nat_lt 0 (last_time refs) ≡ not (is_empty refs)
positive-is [] t = refl
positive-is (r ∷ older) t = lt-ltb 0 (last_time (r ∷ older)) (omega (arith, t.from_one))

turned : (x y z : Bool) → (not x && (y && z)) ≡ (y && (not x && z))
turned true true z = refl
turned true false z = refl
turned false true z = refl
turned false false z = refl

module _ (c : Parameters) (past : Trail) (x : Parts) (a : Agrees c past x) where
  pub forgets-same : (p : ℕ) → forgets x.blocks x.now p ≡ forgets_page c past p (references c past p)
  forgets-same p =
      let last = (a.observed.stamps_are p).last in
      ap (λ b. not b && (nat_lt 0 (last_of x.blocks p) && nat_lt x.blocks.retained (x.now - last_of x.blocks p))) (a.observed.held_is p)
      ∙ ap (λ n. not (resident past p || loading past p) && (nat_lt 0 n && nat_lt x.blocks.retained (x.now - n))) last
      ∙ ap (λ n. not (resident past p || loading past p) && (nat_lt 0 (last_time (references c past p)) && nat_lt n (x.now - last_time (references c past p)))) a.retained_is
      ∙ ap (λ n. not (resident past p || loading past p) && (nat_lt 0 (last_time (references c past p)) && nat_lt c.retained (n - last_time (references c past p)))) a.observed.clock_is
      ∙ ap (λ b. not (resident past p || loading past p) && (b && nat_lt c.retained (clock past - last_time (references c past p)))) (positive-is (references c past p) (references-timed c past p).timed)
      ∙ turned (resident past p || loading past p) (not (is_empty (references c past p))) (nat_lt c.retained (clock past - last_time (references c past p)))

  pub count-same : count_below (forgets x.blocks x.now) c.pages ≡ forgotten c past
  count-same = count_below_same (λ p. forgets_page c past p (references c past p)) (forgets x.blocks x.now) c.pages (λ p below. forgets-same p)

  -- no page beyond the file has a hist
  pub nothing-beyond : (p : ℕ) → c.pages ≤ p → last_of x.blocks p ≡ 0
  nothing-beyond p le = (a.observed.stamps_are p).last ∙ none (references c past p) ((referred c past a.legal).within p)
    where
      none : (refs : List Reference) → (is_empty refs ≡ false → nat_lt p c.pages ≡ true) → last_time refs ≡ 0
      none [] w = refl
      none (r ∷ older) w = let k = w refl in absurd (grind (arith, nat_tests))

  pub agrees-purge : (who n : ℕ) (h : Blocks) → nat_lt who c.clients ≡ true → n ≡ forgotten c past → SameSettings x.blocks h
      → ((p : ℕ) → forgets x.blocks x.now p ≡ true → HasStampsOf h p []) → ((p : ℕ) → forgets x.blocks x.now p ≡ false → SameAt x.blocks h p) → ((p : ℕ) → is_held h p ≡ is_held x.blocks p) → ((p : ℕ) → latest_of h p ≤ latest_of x.blocks p)
      → Agrees c (by who Purge (Forgot n) ∷ past) (record x { blocks = h })
  agrees-purge who n h client counted settings gone kept held later = record {
    legal = record { here = record { client = client; allowed = refl; reply = inl (ap Forgot counted) }; before = a.legal };
    observed = record {
      clock_is = a.observed.clock_is;
      durable_is = a.observed.durable_is;
      passes_is = a.observed.passes_is;
      tickets_is = a.observed.tickets_is;
      out_is = a.observed.out_is;
      reads_is = a.observed.reads_is;
      writes_is = a.observed.writes_is;
      frames_is = a.observed.frames_is;
      stamps_are = λ p. stamped p (forgets_page c past p (references c past p)) refl;
      held_is = λ p. held p ∙ a.observed.held_is p;
    };
    k_is = settings.k ∙ a.k_is;
    correlated_is = settings.correlated ∙ a.correlated_is;
    retained_is = settings.retained ∙ a.retained_is;
    in_time = a.in_time;
    by_now = λ p. omega (arith, later p, a.by_now p);
  }
    where
      stamped : (p : ℕ) (b : Bool) → forgets_page c past p (references c past p) ≡ b → HasStampsOf h p (if b then [] else references c past p)
      stamped p true e = gone p (forgets-same p ∙ e)
      stamped p false e = stamps-kept x.blocks h p (references c past p) settings (told-alike x.blocks h p (kept p (forgets-same p ∙ e))) (a.observed.stamps_are p)
