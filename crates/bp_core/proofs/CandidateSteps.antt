-- The candidates stay the pages that nobody uses, with their stamps and last times, whatever entry comes.
use Rattle.std.proofs.Common.{◌≡◌, ◌≢◌, ℕ, suc, ◌+◌, ◌-◌, nat_lt, Bool, true, false, not, cond, if◌then◌else◌, ◌&&◌, ◌||◌, ◌==◌, List, [], ◌∷◌, Some, None, refl, sym, ◌∙◌, ap, subst, inl, inr, arith}
use Rattle.std.proofs.lemmas.Bool.Decides.{nat_tests}
use Rattle.std.proofs.lemmas.Bool.{cases_eq, eqb-true, eq-eqb, ne_eqb}
use Rattle.bp_references.specs.Burst.{Reference, last_time}
use Rattle.bp_references.specs.Burst.Reference.{hit, fault}
use Rattle.bp_references.specs.Stamp.{stamp}
use Rattle.bp_references.specs.Candidates.{Entered, entry_of, NoPageTwice, SameLimits}
use Rattle.bp_trail.specs.declared.entries.Call.{Call}
use Rattle.bp_trail.specs.declared.entries.Call.TheVariants.{Fix, ReadEnd, Unfix, Flush, Discard, Purge}
use Rattle.bp_trail.specs.declared.entries.Reply.TheVariants.{Done, Hit, Load, WriteFirst, Fixed, Absent, Discarded, Forgot}
use Rattle.bp_trail.specs.Parameters.{Parameters}
use Rattle.bp_trail.specs.Event.{grant}
use Rattle.bp_trail.specs.Trail.{Trail}
use Rattle.bp_trail.specs.Clock.{clock}
use Rattle.bp_trail.specs.Passes.{passes_out, is_of, pins}
use Rattle.bp_trail.specs.Places.{residents, resident, loading, writing}
use Rattle.bp_trail.specs.References.{references, forgets, hist, last, is_empty}
use Rattle.bp_trail.specs.Legal.{is_out, Legal}
use Rattle.bp_core.specs.Outcomes.{IsBegin}
use Rattle.bp_core.specs.Outcomes.IsBegin.{by_fix, by_flush}
use Rattle.bp_core.specs.Agreement.{unused, entry_for, HasCandidates}
use Rattle.bp_trail.proofs.Counting.{count-cons}
use Rattle.bp_core.proofs.Changes.{by, pins-hit, pins-unfix}
use Rattle.bp_trail.proofs.Residents.{left-none, left-other}

module _ (c : Parameters) (past later : Trail) (q : ℕ) where
  -- a page of which nothing that counts is told otherwise
  pub same-entry : resident later q ≡ resident past q → pins later q ≡ pins past q → writing later q ≡ writing past q → references c later q ≡ references c past q → entry_for c later q ≡ entry_for c past q
  same-entry r p w f = λ i. if r i && ((p i == 0) && not (w i)) then Some (stamp c.k c.correlated c.k (f i), last_time (f i)) else None

  pub no-entry : unused later q ≡ false → entry_for c later q ≡ None
  no-entry u = ap (λ b. if b then Some (hist c later q c.k, last c later q) else None) u

module _ (c : Parameters) (past : Trail) (e : Entered) (h : HasCandidates c past e) where
  -- ---- no candidate changes
  pub stay : (later : Trail) → ((q : ℕ) → entry_for c later q ≡ entry_for c past q) → HasCandidates c later e
  stay later same = record { entries_are = λ q. h.entries_are q ∙ sym (same q); once = h.once; frames_is = h.frames_is; correlated_is = h.correlated_is }

  pub stay-purge : (who n : ℕ) → HasCandidates c (by who Purge (Forgot n) ∷ past) e
  stay-purge who n = stay (by who Purge (Forgot n) ∷ past) (λ q. go q (resident past q) refl)
    where
      -- a resident page is not forgotten
      kept : (known : List Reference) (l f : Bool) → (not (is_empty known) && (not (true || l) && f)) ≡ false
      kept known l f = and-false (not (is_empty known))
        where
          and-false : (b : Bool) → (b && false) ≡ false
          and-false true = refl
          and-false false = refl

      go : (q : ℕ) (b : Bool) → resident past q ≡ b → entry_for c (by who Purge (Forgot n) ∷ past) q ≡ entry_for c past q
      go q true r =
          let f : forgets c past q (references c past q) ≡ false = rw r (kept (references c past q) (loading past q) (nat_lt c.retained (clock past - last c past q))) in
          same-entry c past (by who Purge (Forgot n) ∷ past) q refl refl refl (ap (λ b. if b then [] else references c past q) f)
      go q false r =
          let out : unused past q ≡ false = ap (λ b. b && ((pins past q == 0) && not (writing past q))) r in
          no-entry c past (by who Purge (Forgot n) ∷ past) q out ∙ sym (no-entry c past past q out)

  -- a page that is away is discarded
  pub stay-forget : (who p : ℕ) → resident past p ≡ false → HasCandidates c (by who (Discard p) Absent ∷ past) e
  stay-forget who p away = stay (by who (Discard p) Absent ∷ past) (λ q. go q (p == q) refl)
    where
      go : (q : ℕ) (b : Bool) → (p == q) ≡ b → entry_for c (by who (Discard p) Absent ∷ past) q ≡ entry_for c past q
      go q true same =
          let out : unused past q ≡ false = ap (λ b. b && ((pins past q == 0) && not (writing past q))) (subst (λ r. resident past r ≡ false) (eqb-true p q same) away) in
          no-entry c past (by who (Discard p) Absent ∷ past) q out ∙ sym (no-entry c past past q out)
      go q false apart = same-entry c past (by who (Discard p) Absent ∷ past) q refl refl refl (ap (λ b. if b then [] else references c past q) apart)

  -- ---- one page's entry changes
  module _ (e' : Entered) (limits : SameLimits e e') (pages : NoPageTwice e.entries → NoPageTwice e'.entries) (p : ℕ) (others : (q : ℕ) → q ≢ p → entry_of e' q ≡ entry_of e q) where
    move : (later : Trail) → ((q : ℕ) → q ≢ p → entry_for c later q ≡ entry_for c past q) → entry_of e' p ≡ entry_for c later p → HasCandidates c later e'
    move later same here = record {
      entries_are = λ q. elim (cases_eq q p) [
        | inl is ↦ subst (λ r. entry_of e' r ≡ entry_for c later r) (sym is) here
        | inr other ↦ others q other ∙ h.entries_are q ∙ sym (same q other)
      ];
      once = pages h.once;
      frames_is = limits.frames ∙ h.frames_is;
      correlated_is = limits.correlated ∙ h.correlated_is;
    }

    begun : (later : Trail) → ((q : ℕ) → resident later q ≡ resident past q) → ((q : ℕ) → pins later q ≡ pins past q) → ((q : ℕ) → writing later q ≡ (p == q || writing past q)) → ((q : ℕ) → references c later q ≡ references c past q) → entry_of e' p ≡ None → HasCandidates c later e'
    begun later r n w f gone = move later
        (λ q other. same-entry c past later q (r q) (n q) (w q ∙ ap (λ b. b || writing past q) (ne_eqb p q (λ i. other (sym i)))) (f q))
        (gone ∙ sym (no-entry c past later p (ap (λ b. resident later p && ((pins later p == 0) && not b)) (w p ∙ ap (λ b. b || writing past p) (eq-eqb p p refl)) ∙ none (resident later p) (pins later p == 0))))
      where
        none : (a b : Bool) → (a && (b && false)) ≡ false
        none true true = refl
        none true false = refl
        none false b = refl

    pub move-hit : (who n : ℕ) → entry_of e' p ≡ None → HasCandidates c (by who (Fix p) (Hit n) ∷ past) e'
    move-hit who n gone = move (by who (Fix p) (Hit n) ∷ past)
        (λ q other. let apart : (p == q) ≡ false = ne_eqb p q (λ i. other (sym i)) in
        same-entry c past (by who (Fix p) (Hit n) ∷ past) q refl (pins-hit past who p n q ∙ ap (λ b. if b then suc (pins past q) else pins past q) apart) refl (ap (λ b. if b then hit (clock past) ∷ references c past q else references c past q) apart))
        (gone ∙ sym (no-entry c past (by who (Fix p) (Hit n) ∷ past) p (used (resident past p) (not (writing past p)))))
      where
        more : pins (by who (Fix p) (Hit n) ∷ past) p ≡ suc (pins past p)
        more = pins-hit past who p n p ∙ ap (λ b. if b then suc (pins past p) else pins past p) (eq-eqb p p refl)

        used : (r w : Bool) → (r && ((pins (by who (Fix p) (Hit n) ∷ past) p == 0) && w)) ≡ false
        used true w = ap (λ b. b && w) (ne_eqb (pins (by who (Fix p) (Hit n) ∷ past) p) 0 (λ i. absurd (omega (arith, i, more))))
        used false w = refl

    -- a pass is given back: its page is entered if that was its last and no write-out is under way
    pub move-unfix : (who n : ℕ) (unused_now : Bool) → unused_now ≡ ((pins past p == 1) && not (writing past p)) → Legal c past → is_out (grant who p n) (passes_out past) ≡ true → resident past p ≡ true
        → entry_of e' p ≡ (if unused_now then Some (hist c past p c.k, last c past p) else entry_of e p) → HasCandidates c (by who (Unfix n p) Done ∷ past) e'
    move-unfix who n unused_now is legal out here entered = move (by who (Unfix n p) Done ∷ past)
        (λ q other. let apart : (p == q) ≡ false = ne_eqb p q (λ i. other (sym i)) in
        same-entry c past (by who (Unfix n p) Done ∷ past) q refl (sym (pins-unfix past who c n p q legal out ∙ ap (λ b. if b then suc (pins (by who (Unfix n p) Done ∷ past) q) else pins (by who (Unfix n p) Done ∷ past) q) apart)) refl refl)
        (entered ∙ go unused_now refl)
      where
        fewer : pins past p ≡ suc (pins (by who (Unfix n p) Done ∷ past) p)
        fewer = pins-unfix past who c n p p legal out ∙ ap (λ b. if b then suc (pins (by who (Unfix n p) Done ∷ past) p) else pins (by who (Unfix n p) Done ∷ past) p) (eq-eqb p p refl)

        last-one : (pins past p == 1) ≡ (pins (by who (Unfix n p) Done ∷ past) p == 0)
        last-one = ap (λ m. m == 1) fewer ∙ down (pins (by who (Unfix n p) Done ∷ past) p)
          where
            down : (m : ℕ) → (suc m == 1) ≡ (m == 0)
            down m = grind (arith, nat_tests)

        used : unused past p ≡ false
        used = ap (λ b. b && ((pins past p == 0) && not (writing past p))) here ∙ ap (λ b. b && not (writing past p)) (ne_eqb (pins past p) 0 (λ i. absurd (omega (arith, i, fewer))))

        after : unused (by who (Unfix n p) Done ∷ past) p ≡ unused_now
        after = ap (λ b. b && ((pins (by who (Unfix n p) Done ∷ past) p == 0) && not (writing past p))) here ∙ ap (λ b. b && not (writing past p)) (sym last-one) ∙ sym is

        go : (b : Bool) → unused_now ≡ b → (if unused_now then Some (hist c past p c.k, last c past p) else entry_of e p) ≡ entry_for c (by who (Unfix n p) Done ∷ past) p
        go true u = ap (λ b. if b then Some (hist c past p c.k, last c past p) else entry_of e p) u ∙ sym (ap (λ b. if b then Some (hist c past p c.k, last c past p) else None) (after ∙ u))
        go false u = ap (λ b. if b then Some (hist c past p c.k, last c past p) else entry_of e p) u ∙ h.entries_are p ∙ no-entry c past past p used ∙ sym (no-entry c past (by who (Unfix n p) Done ∷ past) p (after ∙ u))

    -- the victim leaves
    pub move-evict : (who q n : ℕ) → entry_of e' p ≡ None → HasCandidates c (by who (Fix q) (Load n (Some p)) ∷ past) e'
    move-evict who q n gone = move (by who (Fix q) (Load n (Some p)) ∷ past)
        (λ r other. same-entry c past (by who (Fix q) (Load n (Some p)) ∷ past) r (left-other p r (ne_eqb r p other) (residents past)) refl refl refl)
        (gone ∙ sym (no-entry c past (by who (Fix q) (Load n (Some p)) ∷ past) p (ap (λ b. b && ((pins past p == 0) && not (writing past p))) (left-none p (residents past)))))

    -- a page is discarded
    pub move-discard : (who : ℕ) → entry_of e' p ≡ None → HasCandidates c (by who (Discard p) Discarded ∷ past) e'
    move-discard who gone = move (by who (Discard p) Discarded ∷ past)
        (λ q other. same-entry c past (by who (Discard p) Discarded ∷ past) q (left-other p q (ne_eqb q p other) (residents past)) refl refl (ap (λ b. if b then [] else references c past q) (ne_eqb p q (λ i. other (sym i)))))
        (gone ∙ sym (no-entry c past (by who (Discard p) Discarded ∷ past) p (ap (λ b. b && ((pins past p == 0) && not (writing past p))) (left-none p (residents past)))))

    -- a write-out begins
    pub move-begin : (who : ℕ) (call : Call) (n : ℕ) (image : List ℕ) → IsBegin call → entry_of e' p ≡ None → HasCandidates c (by who call (WriteFirst n p image) ∷ past) e'
    move-begin who _ n image (by_fix r) gone = begun (by who (Fix r) (WriteFirst n p image) ∷ past) (λ q. refl) (λ q. refl) (λ q. refl) (λ q. refl) gone
    move-begin who _ n image (by_flush r) gone = begun (by who (Flush r) (WriteFirst n p image) ∷ past) (λ q. refl) (λ q. refl) (λ q. refl) (λ q. refl) gone

    -- and ends, well or not: its page is entered if no pass of it is out
    pub move-write_end : (later : Trail) → ((q : ℕ) → resident later q ≡ resident past q) → ((q : ℕ) → pins later q ≡ pins past q) → ((q : ℕ) → references c later q ≡ references c past q) → writing past p ≡ true → writing later p ≡ false → ((q : ℕ) → (q == p) ≡ false → writing later q ≡ writing past q)
        → resident past p ≡ true → entry_of e' p ≡ (if pins past p == 0 then Some (hist c past p c.k, last c past p) else entry_of e p) → HasCandidates c later e'
    move-write_end later r n f was landed still here entered = move later
        (λ q other. same-entry c past later q (r q) (n q) (still q (ne_eqb q p other)) (f q))
        (entered ∙ go (pins past p == 0) refl)
      where
        used : unused past p ≡ false
        used = ap (λ b. resident past p && ((pins past p == 0) && not b)) was ∙ none (resident past p) (pins past p == 0)
          where
            none : (a b : Bool) → (a && (b && false)) ≡ false
            none true true = refl
            none true false = refl
            none false b = refl

        after : unused later p ≡ (pins past p == 0)
        after = (λ i. r p i && ((n p i == 0) && not (landed i))) ∙ ap (λ b. b && ((pins past p == 0) && true)) here ∙ and-true (pins past p == 0)
          where
            and-true : (b : Bool) → (b && true) ≡ b
            and-true true = refl
            and-true false = refl

        go : (b : Bool) → (pins past p == 0) ≡ b → (if pins past p == 0 then Some (hist c past p c.k, last c past p) else entry_of e p) ≡ entry_for c later p
        go true u =
            ap (λ b. if b then Some (hist c past p c.k, last c past p) else entry_of e p) u
            ∙ sym (ap (λ b. if b then Some (hist c later p c.k, last c later p) else None) (after ∙ u) ∙ (λ i. Some (stamp c.k c.correlated c.k (f p i), last_time (f p i))))
        go false u = ap (λ b. if b then Some (hist c past p c.k, last c past p) else entry_of e p) u ∙ h.entries_are p ∙ no-entry c past past p used ∙ sym (no-entry c past later p (after ∙ u))

  -- a page comes, with a pass out
  pub stay-end_load : (who t p n : ℕ) (image : List ℕ) → resident past p ≡ false → HasCandidates c (by who (ReadEnd t p (Some image)) (Fixed n) ∷ past) e
  stay-end_load who t p n image absent = stay later (λ q. go q (p == q) refl)
    where
      later : Trail
      later = by who (ReadEnd t p (Some image)) (Fixed n) ∷ past

      counted : (q : ℕ) → pins (by who (ReadEnd t p (Some image)) (Fixed n) ∷ past) q ≡ cond (p == q) 1 0 + pins past q
      counted q = count-cons (is_of q) (grant who p n) (passes_out past)

      go : (q : ℕ) (b : Bool) → (p == q) ≡ b → entry_for c (by who (ReadEnd t p (Some image)) (Fixed n) ∷ past) q ≡ entry_for c past q
      go q true i =
          let some : pins (by who (ReadEnd t p (Some image)) (Fixed n) ∷ past) q ≡ suc (pins past q) = omega (arith, counted q, ap {B = ℕ} (λ b. cond b 1 0) i) in
          let busy : unused (by who (ReadEnd t p (Some image)) (Fixed n) ∷ past) q ≡ false = used (p == q || resident past q) (not (writing past q)) (pins (by who (ReadEnd t p (Some image)) (Fixed n) ∷ past) q) (ne_eqb (pins (by who (ReadEnd t p (Some image)) (Fixed n) ∷ past) q) 0 (λ k. absurd (omega (arith, k, some)))) in
          let away : unused past q ≡ false = ap (λ b. b && ((pins past q == 0) && not (writing past q))) (subst (λ r. resident past r ≡ false) (eqb-true p q i) absent) in
          no-entry c past (by who (ReadEnd t p (Some image)) (Fixed n) ∷ past) q busy ∙ sym (no-entry c past past q away)
        where
          used : (r w : Bool) (m : ℕ) → (m == 0) ≡ false → (r && ((m == 0) && w)) ≡ false
          used true w m k = ap (λ b. b && w) k
          used false w m k = refl
      go q false i = same-entry c past (by who (ReadEnd t p (Some image)) (Fixed n) ∷ past) q (ap (λ b. b || resident past q) i) (omega (arith, counted q, ap {B = ℕ} (λ b. cond b 1 0) i)) refl (ap (λ b. if b then fault (clock past) ∷ references c past q else references c past q) i)
