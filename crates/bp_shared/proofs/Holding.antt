-- A pass that a client holds is out in the trail.
use Rattle.std.proofs.Common.{◌≡◌, refl, sym, ap, subst, ◌∙◌, ℕ, zero, suc, ◌<◌, Bool, true, false, not, ◌||◌, ◌==◌, cond, List, [], ◌∷◌, ◌++◌, filter, filter_map, Option, Some, None, inl, inr, ◌⊎◌, arith}
use Rattle.std.specs.List.{cons_option}
use Rattle.std.proofs.lemmas.Bool.{true≢false, or_left, or_right, or_parts, eqb-true, eq-eqb, not-true}
use Rattle.std.proofs.lemmas.List.{append_cancel_right}
use native.Mathlib.Decide.{ℕ_discrete}
use Rattle.bp_trail.specs.declared.entries.Entry.{Entry}
use Rattle.bp_trail.specs.declared.entries.Call.{Call}
use Rattle.bp_trail.specs.declared.entries.Call.TheVariants.{Tick, Mark, Fix, ReadEnd, WriteEnd, Read, Write, Unfix, Flush, Discard, Purge}
use Rattle.bp_trail.specs.declared.entries.Reply.{Reply}
use Rattle.bp_trail.specs.declared.entries.Reply.TheVariants.{Hit, Fixed}
use Rattle.bp_trail.specs.Parameters.{Parameters}
use Rattle.bp_trail.specs.Trail.{Trail}
use Rattle.bp_trail.specs.Lists.{some, and_given, without}
use Rattle.bp_trail.specs.Event.{Grant, grant, same_grant, pass_given, pass_back}
use Rattle.bp_trail.specs.Passes.{pass_of, passes_out, is_of, pins}
use Rattle.bp_trail.specs.Legal.{is_out, allowed, Legal}
use Rattle.bp_trail.proofs.Lists.{some-filter, count-none}
use Rattle.bp_trail.proofs.Serials.{OneSerial, has_serial, numbered, out-serial, same-grant-is}
use Rattle.bp_trail.proofs.Places.{out-of_page}
use Rattle.bp_trail.specs.Clients.{of_client}
use Rattle.bp_trail.proofs.OfClient.{of_client-hit, of_client-miss}
use Rattle.bp_session_log.specs.Books.{pass_unfixed, unfixes}
use Rattle.bp_shared.specs.Telling.{is_told, told, IsToldBy}
use Rattle.bp_shared.specs.Posting.{unfixed, held_by, IsUnfixedBy}

-- ---- lists of passes
pub is-it : (g x : Grant) → same_grant g x ≡ true → x ≡ g
is-it g x m = same-grant-is g.client g.page g.serial x m

-- the test of a filter holds of what it leaves
pub left-passes : (q : Grant → Bool) (g : Grant) (xs : List Grant) → is_out g (filter q xs) ≡ true → q g ≡ true
left-passes q g [] m = absurd (true≢false (sym m))
left-passes q g (x ∷ xs) m = go (q x) refl (same_grant g x) refl (left-passes q g xs) m
  where
    go : (b : Bool) → q x ≡ b → (d : Bool) → same_grant g x ≡ d → (is_out g (filter q xs) ≡ true → q g ≡ true) → is_out g (cond b (x ∷ filter q xs) (filter q xs)) ≡ true → q g ≡ true
    go true i true j ih m = ap q (sym (is-it g x j)) ∙ i
    go true i false j ih m = ih (sym (ap (λ d. d || is_out g (filter q xs)) j) ∙ m)
    go false i d j ih m = ih m

-- two passes that are out are of one client, if they have one number
pub of-one : (gs : List Grant) → OneSerial gs → (a b : Grant) → is_out a gs ≡ true → is_out b gs ≡ true → a.serial ≡ b.serial → a.client ≡ b.client
of-one [] h a b m k s = absurd (true≢false (sym m))
of-one (x ∷ gs) h a b m k s = go (same_grant a x) refl (same_grant b x) refl m k (of-one gs h.1 a b)
  where
    once : (g o : Grant) → x ≡ g → is_out o gs ≡ true → g.serial ≡ o.serial → ⊥
    once g o is m s =
        let there : some (has_serial o.serial) gs ≡ true = out-serial o.client o.page o.serial gs m in
        true≢false (sym there ∙ ap (λ n. some (has_serial n) gs) (sym s ∙ sym (ap (λ (y : Grant). y.serial) is)) ∙ h.0)

    go : (p : Bool) → same_grant a x ≡ p → (q : Bool) → same_grant b x ≡ q → (p || is_out a gs) ≡ true → (q || is_out b gs) ≡ true → (is_out a gs ≡ true → is_out b gs ≡ true → a.serial ≡ b.serial → a.client ≡ b.client) → a.client ≡ b.client
    go true i true j m k ih = ap (λ (y : Grant). y.client) (sym (is-it a x i) ∙ is-it b x j)
    go true i false j m k ih = absurd (once a b (is-it a x i) k s)
    go false i true j m k ih = absurd (once b a (is-it b x j) m (sym s))
    go false i false j m k ih = ih m k s

module _ (g : Grant) where
  -- what an entry gives, and what it gives back, leaves a pass with another number
  pub out-given : (o : Option Grant) (gs : List Grant) → is_out g gs ≡ true → is_out g (and_given o gs) ≡ true
  out-given None gs m = m
  out-given (Some x) gs m = or_right (same_grant g x) (is_out g gs) m

  pub out-left : (n : ℕ) (gs : List Grant) → (g.serial ≡ n → ⊥) → is_out g gs ≡ true → is_out g (without (λ y. y.serial) (Some n) gs) ≡ true
  out-left n [] apart m = m
  out-left n (x ∷ gs) apart m = go (same_grant g x) refl (x.serial == n) refl (out-left n gs apart) m
    where
      go : (a : Bool) → same_grant g x ≡ a → (b : Bool) → (x.serial == n) ≡ b → (is_out g gs ≡ true → is_out g (filter (λ y. not (y.serial == n)) gs) ≡ true) → (a || is_out g gs) ≡ true
          → is_out g (cond (not b) (x ∷ filter (λ y. not (y.serial == n)) gs) (filter (λ y. not (y.serial == n)) gs)) ≡ true
      go true i true j ih m = absurd (apart (sym (ap (λ (y : Grant). y.serial) (is-it g x i)) ∙ eqb-true x.serial n j))
      go true i false j ih m = or_left (same_grant g x) (is_out g (filter (λ y. not (y.serial == n)) gs)) i
      go false i true j ih m = ih m
      go false i false j ih m = or_right (same_grant g x) (is_out g (filter (λ y. not (y.serial == n)) gs)) (ih m)

-- ---- entries
abbrev IsUnfix : Call → Type 0
IsUnfix call = (n : ℕ) × (p : ℕ) × (call ≡ Unfix n p)

record IsOther (call : Call) : Type 0 where
  told_of : is_told call ≡ true
  gives_none : pass_back call ≡ None
  unfixes_none : (c : ℕ) → pass_unfixed c call ≡ None

unfix-or-other : (call : Call) → IsUnfix call ⊎ IsOther call
unfix-or-other (Unfix n p) = inl (n, p, refl)
unfix-or-other (Tick n) = inr (record { told_of = refl; gives_none = refl; unfixes_none = λ c. refl })
unfix-or-other (Mark lsn) = inr (record { told_of = refl; gives_none = refl; unfixes_none = λ c. refl })
unfix-or-other (Fix p) = inr (record { told_of = refl; gives_none = refl; unfixes_none = λ c. refl })
unfix-or-other (ReadEnd t p image) = inr (record { told_of = refl; gives_none = refl; unfixes_none = λ c. refl })
unfix-or-other (WriteEnd t p good) = inr (record { told_of = refl; gives_none = refl; unfixes_none = λ c. refl })
unfix-or-other (Read n p) = inr (record { told_of = refl; gives_none = refl; unfixes_none = λ c. refl })
unfix-or-other (Write n p offset bytes lsn) = inr (record { told_of = refl; gives_none = refl; unfixes_none = λ c. refl })
unfix-or-other (Flush p) = inr (record { told_of = refl; gives_none = refl; unfixes_none = λ c. refl })
unfix-or-other (Discard p) = inr (record { told_of = refl; gives_none = refl; unfixes_none = λ c. refl })
unfix-or-other Purge = inr (record { told_of = refl; gives_none = refl; unfixes_none = λ c. refl })

pass-whose : (c p : ℕ) (r : Reply) (x : Grant) → pass_given c p r ≡ Some x → x.client ≡ c
pass-whose c p (Hit n) x h = let i : grant c p n ≡ x = cc in sym (ap (λ (y : Grant). y.client) i)
pass-whose c p (Fixed n) x h = let i : grant c p n ≡ x = cc in sym (ap (λ (y : Grant). y.client) i)
pass-whose c p _ x h = cc

-- what entries of a client give is the client's
gives-own : (client : ℕ) (g : Grant) (es : Trail) → is_out g (filter_map pass_of (of_client client es)) ≡ true → g.client ≡ client
gives-own client g [] m = absurd (true≢false (sym m))
gives-own client g (e ∷ es) m = go (ℕ_discrete e.client client) (gives-own client g es)
  where
    at : (o : Option Grant) → pass_of e ≡ o → e.client ≡ client → is_out g (cons_option o (filter_map pass_of (of_client client es))) ≡ true → (is_out g (filter_map pass_of (of_client client es)) ≡ true → g.client ≡ client) → g.client ≡ client
    at None i is m ih = ih m
    at (Some x) i is m ih = by-test (same_grant g x) refl m
      where
        by-test : (b : Bool) → same_grant g x ≡ b → (b || is_out g (filter_map pass_of (of_client client es))) ≡ true → g.client ≡ client
        by-test true j m = sym (ap (λ (y : Grant). y.client) (is-it g x j)) ∙ pass-whose e.client _ e.reply x i ∙ is
        by-test false j m = ih m

    go : Dec (e.client ≡ client) → (is_out g (filter_map pass_of (of_client client es)) ≡ true → g.client ≡ client) → g.client ≡ client
    go (yes is) ih = at (pass_of e) refl is (subst (λ xs. is_out g (filter_map pass_of xs) ≡ true) (of_client-hit client e es is) m) ih
    go (no apart) ih = ih (subst (λ xs. is_out g (filter_map pass_of xs) ≡ true) (of_client-miss client e es apart) m)

-- ---- the trail
module _ (c : Parameters) (start : Trail) (client : ℕ) (g : Grant) where
  abbrev given : Trail → Bool
  given since = is_out g (filter_map pass_of (of_client client (told since)))

  abbrev back : Trail → Bool
  back since = some (λ back. back.serial == g.serial) (unfixed client since)

  one-more : (e : Entry) (since : Trail) → Legal c (e ∷ since ++ start) → g.client ≡ client → given (e ∷ since) ≡ true → back (e ∷ since) ≡ false
      → (given since ≡ true → back since ≡ false → is_out g (passes_out (since ++ start)) ≡ true) → is_out g (passes_out (e ∷ since ++ start)) ≡ true
  one-more e since legal own has none ih = go (unfix-or-other e.call)
    where
      -- an unfix
      by-unfix : (n p : ℕ) → e.call ≡ Unfix n p → Dec (e.client ≡ client) → is_out g (passes_out (e ∷ since ++ start)) ≡ true
      by-unfix n p is whose = at whose
        where
          untold : told (e ∷ since) ≡ told since
          untold = ap (λ b. cond b (e ∷ told since) (told since)) (ap is_told is)

          has-still : given since ≡ true
          has-still = sym (ap (λ es. is_out g (filter_map pass_of (of_client client es))) untold) ∙ has

          end : is_out g (passes_out (since ++ start)) ≡ true → (g.serial ≡ n → ⊥) → is_out g (passes_out (e ∷ since ++ start)) ≡ true
          end out apart =
              out-given g (pass_of e) (without (λ y. y.serial) (pass_back e.call) (passes_out (since ++ start)))
              (ap (λ o. is_out g (without (λ y. y.serial) o (passes_out (since ++ start)))) (ap pass_back is) ∙ out-left g n (passes_out (since ++ start)) apart out)

          at : Dec (e.client ≡ client) → is_out g (passes_out (e ∷ since ++ start)) ≡ true
          at (yes mine) =
              let listed : unfixed client (e ∷ since) ≡ grant e.client p n ∷ unfixed client since =
              ap unfixes (of_client-hit client e since mine) ∙ ap (λ o. cons_option o (unfixed client since)) (ap (pass_unfixed e.client) is) in
              let parts = or_parts (n == g.serial) (back since) (sym (ap (λ gs. some (λ back. back.serial == g.serial) gs) listed) ∙ none) in
              end (ih has-still parts.1) (λ same. true≢false (sym (eq-eqb n g.serial (sym same)) ∙ parts.0))
          at (no apart) =
              let still : back since ≡ false = sym (ap (λ es. some (λ back. back.serial == g.serial) (unfixes es)) (of_client-miss client e since apart)) ∙ none in
              let out = ih has-still still in
              let other : is_out (grant e.client p n) (passes_out (since ++ start)) ≡ true = sym (ap (allowed c (since ++ start) e.client) is) ∙ legal.here.allowed in
              end out (λ same. apart (sym (of-one (passes_out (since ++ start)) (numbered c (since ++ start) legal.before).passes_once g (grant e.client p n) out other same) ∙ own))

      -- any other entry
      by-other : IsOther e.call → Dec (e.client ≡ client) → is_out g (passes_out (e ∷ since ++ start)) ≡ true
      by-other h whose = at whose
        where
          listed : told (e ∷ since) ≡ e ∷ told since
          listed = ap (λ b. cond b (e ∷ told since) (told since)) h.told_of

          held : given since ≡ true → back since ≡ false → is_out g (passes_out (e ∷ since ++ start)) ≡ true
          held has-still still =
              out-given g (pass_of e) (without (λ y. y.serial) (pass_back e.call) (passes_out (since ++ start)))
              (ap (λ o. is_out g (without (λ y. y.serial) o (passes_out (since ++ start)))) h.gives_none ∙ ih has-still still)

          by-given : (o : Option Grant) → pass_of e ≡ o → is_out g (cons_option o (filter_map pass_of (of_client client (told since)))) ≡ true → back since ≡ false → is_out g (passes_out (e ∷ since ++ start)) ≡ true
          by-given None i m still = held m still
          by-given (Some x) i m still = by-test (same_grant g x) refl m
            where
              by-test : (b : Bool) → same_grant g x ≡ b → (b || given since) ≡ true → is_out g (passes_out (e ∷ since ++ start)) ≡ true
              by-test true j m =
                  ap (λ o. is_out g (and_given o (without (λ y. y.serial) (pass_back e.call) (passes_out (since ++ start))))) i
                  ∙ or_left (same_grant g x) (is_out g (without (λ y. y.serial) (pass_back e.call) (passes_out (since ++ start)))) j
              by-test false j m = held m still

          at : Dec (e.client ≡ client) → is_out g (passes_out (e ∷ since ++ start)) ≡ true
          at (yes mine) =
              let still : back since ≡ false =
              sym (ap (λ gs. some (λ back. back.serial == g.serial) gs) (ap unfixes (of_client-hit client e since mine) ∙ ap (λ o. cons_option o (unfixed client since)) (h.unfixes_none e.client))) ∙ none in
              by-given (pass_of e) refl (sym (ap (λ es. is_out g (filter_map pass_of es)) (ap (of_client client) listed ∙ of_client-hit client e (told since) mine)) ∙ has) still
          at (no apart) =
              let still : back since ≡ false = sym (ap (λ es. some (λ back. back.serial == g.serial) (unfixes es)) (of_client-miss client e since apart)) ∙ none in
              held (sym (ap (λ es. is_out g (filter_map pass_of es)) (ap (of_client client) listed ∙ of_client-miss client e (told since) apart)) ∙ has) still

      go : IsUnfix e.call ⊎ IsOther e.call → is_out g (passes_out (e ∷ since ++ start)) ≡ true
      go (inl u) = by-unfix u.0 u.1 u.2 (ℕ_discrete e.client client)
      go (inr h) = by-other h (ℕ_discrete e.client client)

  stays-out : (since : Trail) → Legal c (since ++ start) → g.client ≡ client → given since ≡ true → back since ≡ false → is_out g (passes_out (since ++ start)) ≡ true
  stays-out [] legal own has none = absurd (true≢false (sym has))
  stays-out (e ∷ since) legal own has none = one-more e since legal own has none (stays-out since legal.before own)

-- since the pool was made, what its list was given, and did not give back so far, is out, and the client's
pub given-is-out : (c : Parameters) (start past : Trail) (client : ℕ) (said : Trail) (g : Grant) (gone : List Grant) → Legal c past → IsToldBy start past client said → IsUnfixedBy start past client gone
    → is_out g (filter_map pass_of (told said)) ≡ true → some (has_serial g.serial) gone ≡ false → (g.client ≡ client) × (is_out g (passes_out past) ≡ true)
given-is-out c start past client said g gone legal t s listed kept-back =
    let same : s.since ≡ t.since = append_cancel_right s.since t.since start (sym s.goes_on ∙ t.goes_on) in
    let has : is_out g (filter_map pass_of (of_client client (told t.since))) ≡ true = ap (λ es. is_out g (filter_map pass_of es)) t.theirs ∙ listed in
    let none : some (λ back. back.serial == g.serial) (unfixed client t.since) ≡ false = ap (λ es. some (has_serial g.serial) (unfixed client es)) (sym same) ∙ ap (some (has_serial g.serial)) s.all ∙ kept-back in
    let own = gives-own client g (told t.since) has in
    (own, ap (λ p. is_out g (passes_out p)) t.goes_on ∙ stays-out c start client g t.since (subst (Legal c) t.goes_on legal) own has none)

pub held-is-out : (c : Parameters) (start past : Trail) (client : ℕ) (said : Trail) (g : Grant) → Legal c past → IsToldBy start past client said → IsUnfixedBy start past client (unfixes said) → is_out g (held_by said) ≡ true → is_out g (passes_out past) ≡ true
held-is-out c start past client said g legal t s held =
    let listed = some-filter (same_grant g) _ (filter_map pass_of (told said)) held in
    let kept-back : some (λ back. back.serial == g.serial) (unfixes said) ≡ false = not-true _ (left-passes (λ x. not (some (λ back. back.serial == x.serial) (unfixes said))) g (filter_map pass_of (told said)) held) in
    (given-is-out c start past client said g (unfixes said) legal t s listed kept-back).1

pins-some : (past : Trail) (p : ℕ) → some (is_of p) (passes_out past) ≡ true → 0 < pins past p
pins-some past p m = go (pins past p) refl
  where
    go : (n : ℕ) → pins past p ≡ n → 0 < n
    go zero e = absurd (true≢false (sym m ∙ count-none (is_of p) (passes_out past) e))
    go (suc n) e = omega arith

pub held-is-pinned : (c : Parameters) (start past : Trail) (client : ℕ) (said : Trail) (g : Grant) → Legal c past → IsToldBy start past client said → IsUnfixedBy start past client (unfixes said) → is_out g (held_by said) ≡ true → 0 < pins past g.page
held-is-pinned c start past client said g legal t s held =
    pins-some past g.page (out-of_page g.client g.page g.serial (passes_out past) (held-is-out c start past client said g legal t s held))
