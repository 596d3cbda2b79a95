-- What a call can see is the same after two trails of the same standing.
use Rattle.std.proofs.Common.{◌≡◌, refl, sym, ◌∙◌, ap, subst, inl, inr, ℕ, ◌+◌, ◌-◌, ◌^◌, ◌≤◌, nat_lt, nat_le, Bool, true, false, not, ◌&&◌, ◌||◌, ◌==◌, if◌then◌else◌, List, [], ◌∷◌, filter, length, Option, Some, None, arith}
use Rattle.std.proofs.lemmas.Bool.{eq-eqb, ne_eqb, or_left, or_right, not_from_false}
use Rattle.std.proofs.lemmas.Bool.Decides.{nat_tests}
use Rattle.bp_references.specs.Burst.{Reference, last_time}
use Rattle.bp_references.specs.Stamp.{IsTimed}
use Rattle.bp_trail.specs.declared.entries.Entry.{Entry}
use Rattle.bp_trail.specs.declared.entries.Call.{Call}
use Rattle.bp_trail.specs.declared.entries.Reply.{Reply}
use Rattle.bp_trail.specs.declared.entries.Call.TheVariants.{Tick, Mark, Fix, ReadEnd, WriteEnd, Read, Write, Unfix, Flush, Discard, Purge}
use Rattle.bp_trail.specs.declared.entries.Reply.TheVariants.{Hit, Load, WriteFirst, NeedLog, Busy, Clean, Absent, Discarded, Pinned, Fixed, StillDirty, Cleaned, Content, Forgot}
use Rattle.bp_trail.specs.Parameters.{Parameters}
use Rattle.bp_references.specs.Numbers.{count_below}
use Rattle.bp_trail.specs.Lists.{some, count}
use Rattle.bp_trail.specs.Event.{grant}
use Rattle.bp_trail.specs.Trail.{Trail}
use Rattle.bp_trail.specs.Passes.{passes_out, is_of, pins}
use Rattle.bp_trail.specs.Places.{residents, resident, loading, writing}
use Rattle.bp_trail.specs.Saved.{unsaved}
use Rattle.bp_trail.specs.References.{is_empty, references, forgets, forgotten}
use Rattle.bp_trail.specs.Victim.{Rank, rank, before, candidate, victim}
use Rattle.bp_trail.specs.PageMap.{has_free_frame, write_out_reply, replace_reply, fix_reply, flush_reply, discard_reply, reply_of, MayReply}
use Rattle.bp_trail.specs.Legal.{is_out, has_size, allowed, IsLawful, Legal}
use Rattle.bp_trail.proofs.Same.{SameStanding}
use Rattle.bp_trail.proofs.Lists.{member, member-filter}
use Rattle.bp_trail.proofs.Victim.{victim-is, no-victim, candidate-resident}
use Rattle.bp_trail.proofs.Places.{places, out-of_page}
use Rattle.bp_trail.proofs.Residents.{Distinct, residents-rest, frames}
use Rattle.bp_trail.proofs.Timed.{references-timed}

-- pages that are all among others are no more than those
fewer : (xs ys : List ℕ) → Distinct xs → ((p : ℕ) → member p xs ≡ true → member p ys ≡ true) → length xs ≤ length ys
fewer [] ys d h = omega arith
fewer (x ∷ xs) ys d h =
    let a = residents-rest x ys (h x (or_left (x == x) (member x xs) (eq-eqb x x refl))) in
    let b = fewer xs (filter (λ y. not (y == x)) ys) d.1 inside in
    omega arith
  where
    inside : (p : ℕ) → member p xs ≡ true → member p (filter (λ y. not (y == x)) ys) ≡ true
    inside p m = member-filter (λ y. not (y == x)) ys p
        (not_from_false (p == x) (ne_eqb p x (λ e. let k : member x xs ≡ true = subst (λ y. member y xs ≡ true) e m in let n = d.0 in cc)))
        (h p (or_right (x == p) (member p xs) m))

-- of two pages of which none comes before the other, both are one
one-page : (a b : Rank) → before a b ≡ false → before b a ≡ false → a.page ≡ b.page
one-page a b h k = grind (arith, nat_tests)

-- a page without references has no last one
empty-is : (known : List Reference) → IsTimed known → is_empty known ≡ (last_time known == 0)
empty-is [] m = refl
empty-is (r ∷ older) m = sym (ne_eqb (last_time (r ∷ older)) 0 (λ e. let k = m.from_one in absurd (omega arith)))

module _ (c : Parameters) (s t : Trail) (l : Legal c s) (m : Legal c t) (same : SameStanding c s t) where
  pub same-loading : (p : ℕ) → loading s p ≡ loading t p
  same-loading p = ap (λ gs. some (is_of p) gs) same.reads_held

  pub same-writing : (p : ℕ) → writing s p ≡ writing t p
  same-writing p = ap (λ gs. some (is_of p) gs) same.writes_held

  pub same-pins : (p : ℕ) → pins s p ≡ pins t p
  same-pins p = ap (λ gs. count (is_of p) gs) same.passes_held

  same-candidate : (p : ℕ) → candidate c s p ≡ candidate c t p
  same-candidate p = λ n. same.places p n && ((same-pins p n == 0) && (not (same-writing p n) && nat_lt c.correlated (same.time n - same.lasts p n)))

  same-rank : (p : ℕ) → rank c s p ≡ rank c t p
  same-rank p = λ n. record { stamp = same.stamps p c.k n; last = same.lasts p n; page = p }

  same-residents : length (residents s) ≡ length (residents t)
  same-residents =
      let a = fewer (residents s) (residents t) (frames c s l).distinct (λ p h. sym (same.places p) ∙ h) in
      let b = fewer (residents t) (residents s) (frames c t m).distinct (λ p h. same.places p ∙ h) in
      omega arith

  same-has_free_frame : has_free_frame c s ≡ has_free_frame c t
  same-has_free_frame = λ n. nat_lt (same-residents n + length (same.reads_held n)) c.frames

  same-victim : victim c s ≡ victim c t
  same-victim = go (victim c s) refl (victim c t) refl
    where
      go : (a : Option ℕ) → victim c s ≡ a → (b : Option ℕ) → victim c t ≡ b → a ≡ b
      go None e None f = refl
      go None e (Some w) f = let k = (victim-is c t w f).eligible in let n = no-victim c s e w in let i = same-candidate w in cc
      go (Some v) e None f = let k = (victim-is c s v e).eligible in let n = no-victim c t f v in let i = same-candidate v in cc
      go (Some v) e (Some w) f =
          let a = victim-is c s v e in
          let b = victim-is c t w f in
          let x : before (rank c s w) (rank c s v) ≡ false = a.first w (same-candidate w ∙ b.eligible) in
          let y : before (rank c t v) (rank c t w) ≡ false = b.first v (sym (same-candidate v) ∙ a.eligible) in
          let z : before (rank c s v) (rank c s w) ≡ false = (λ n. before (same-rank v n) (same-rank w n)) ∙ y in
          ap (λ p. Some p) (one-page (rank c s v) (rank c s w) z x)

  pub same-forgets : (p : ℕ) → forgets c s p (references c s p) ≡ forgets c t p (references c t p)
  same-forgets p = λ n. not (empty n) && (not (same.places p n || same-loading p n) && nat_lt c.retained (same.time n - same.lasts p n))
    where
      empty : is_empty (references c s p) ≡ is_empty (references c t p)
      empty = empty-is (references c s p) (references-timed c s p).timed ∙ (λ n. same.lasts p n == 0) ∙ sym (empty-is (references c t p) (references-timed c t p).timed)

  same-forgotten : forgotten c s ≡ forgotten c t
  same-forgotten = λ n. count_below (λ p. same-forgets p n) c.pages

  same-write_out : (p : ℕ) → resident s p ≡ true → write_out_reply s p ≡ write_out_reply t p
  same-write_out p r = λ n. if nat_lt (same.mark n) (same.tops p r n) then NeedLog (same.tops p r n) else WriteFirst (same.next_ticket n) p (same.images p r n)

  same-replace : (o : Option ℕ) → victim c s ≡ o → replace_reply s o ≡ replace_reply t o
  same-replace None e = refl
  same-replace (Some v) e = λ n. if same.changed v n then same-write_out v (candidate-resident c s v (victim-is c s v e).eligible) n else Load (same.next_ticket n) (Some v)

  same-fix : (p : ℕ) → fix_reply c s p ≡ fix_reply c t p
  same-fix p =
      let r : replace_reply s (victim c s) ≡ replace_reply t (victim c t) = same-replace (victim c s) refl ∙ ap (λ o. replace_reply t o) same-victim in
      λ n. if same-loading p n then Busy else if same.places p n then Hit (same.next_pass n) else if same-has_free_frame n then Load (same.next_ticket n) None else r n

  same-flush : (p : ℕ) → flush_reply s p ≡ flush_reply t p
  same-flush p = go (resident s p) refl (resident t p) (same.places p)
    where
      go : (b : Bool) → resident s p ≡ b → (d : Bool) → b ≡ d
          → (if loading s p then Busy else if not b then Absent else if writing s p then Busy else if unsaved s p then write_out_reply s p else Clean)
          ≡ (if loading t p then Busy else if not d then Absent else if writing t p then Busy else if unsaved t p then write_out_reply t p else Clean)
      go true r true e = λ n. if same-loading p n then Busy else if same-writing p n then Busy else if same.changed p n then same-write_out p r n else Clean
      go false r false e = λ n. if same-loading p n then Busy else Absent
      go true r false e = cc
      go false r true e = cc

  same-discard : (p : ℕ) → discard_reply s p ≡ discard_reply t p
  same-discard p = λ n. if same-loading p n then Busy else if not (same.places p n) then Absent else if same-writing p n then Busy else if same-pins p n == 0 then Discarded else Pinned

  -- the call can be made after both, and has one reply
  pub same-allowed : (who : ℕ) (call : Call) → allowed c s who call ≡ allowed c t who call
  same-allowed who (Tick n) = ap (λ x. nat_le (x + n) (2 ^ 62)) same.time
  same-allowed who (ReadEnd n p image) = ap (λ gs. is_out (grant who p n) gs && has_size c image) same.reads_held
  same-allowed who (WriteEnd n p good) = ap (λ gs. is_out (grant who p n) gs) same.writes_held
  same-allowed who (Read n p) = ap (λ gs. is_out (grant who p n) gs) same.passes_held
  same-allowed who (Write n p offset bytes lsn) = ap (λ gs. is_out (grant who p n) gs && nat_le (offset + length bytes) c.size) same.passes_held
  same-allowed who (Unfix n p) = ap (λ gs. is_out (grant who p n) gs) same.passes_held
  same-allowed who (Mark lsn) = refl
  same-allowed who (Fix p) = refl
  same-allowed who (Flush p) = refl
  same-allowed who (Discard p) = refl
  same-allowed who Purge = refl

  pinned : (who n p : ℕ) → is_out (grant who p n) (passes_out s) ≡ true → resident s p ≡ true
  pinned who n p o = (places c s l).pinned p (out-of_page who p n (passes_out s) o)

  pub same-reply : (who : ℕ) (call : Call) → allowed c s who call ≡ true → reply_of c s call ≡ reply_of c t call
  same-reply who (Fix p) a = same-fix p
  same-reply who (Flush p) a = same-flush p
  same-reply who (Discard p) a = same-discard p
  same-reply who (ReadEnd n p None) a = refl
  same-reply who (ReadEnd n p (Some image)) a = λ i. Fixed (same.next_pass i)
  same-reply who (WriteEnd n p false) a = refl
  same-reply who (WriteEnd n p true) a = ap (λ b. if b then StillDirty else Cleaned) (same.rewritten who p n a)
  same-reply who (Read n p) a = ap (λ x. Content x) (same.images p (pinned who n p a))
  same-reply who Purge a = ap (λ x. Forgot x) same-forgotten
  same-reply who (Tick n) a = refl
  same-reply who (Mark lsn) a = refl
  same-reply who (Write n p offset bytes lsn) a = refl
  same-reply who (Unfix n p) a = refl

  pub same-may_reply : (who : ℕ) (call : Call) (reply : Reply) → allowed c s who call ≡ true → MayReply c s call reply → MayReply c t call reply
  same-may_reply who call reply a (inl is) = inl (is ∙ same-reply who call a)
  same-may_reply who call reply a (inr found) = inr found

  pub same-lawful : (e : Entry) → IsLawful c s e → IsLawful c t e
  same-lawful e h = record {
    client = h.client;
    allowed = sym (same-allowed e.client e.call) ∙ h.allowed;
    reply = same-may_reply e.client e.call e.reply h.allowed h.reply;
  }
