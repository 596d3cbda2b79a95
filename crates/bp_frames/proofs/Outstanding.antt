-- Slots in the order of their grants' serial numbers: which grants are out, what halving by a number finds, and what marks and drops leave.
use Rattle.std.proofs.Common.{◌≡◌, ◌≢◌, ℕ, zero, suc, ◌+◌, ◌-◌, ◌<◌, ◌≤◌, Bool, true, false, not, ◌&&◌, ◌||◌, ◌==◌, cond, List, [], ◌∷◌, ◌++◌, length, length-append, filter, get_or, set, append-nil, reverse, Option, Some, max, refl, sym, ap, ◌∙◌, arith, inl, inr}
use Rattle.std.specs.Prelude.{All, if◌then◌else◌, slice_get}
use Rattle.std.specs.Option.{option_to_list}
use Rattle.std.proofs.lemmas.Bool.{ne_eqb, eq-eqb, cases_lt}
use Rattle.std.proofs.lemmas.List.{get_or_default, get_or_push}
use Rattle.std.proofs.lemmas.List.Sorted.{IsPermutation-reverse, list_any-IsPermutation}
use Rattle.bp_trail.specs.Event.{Grant, grant, same_grant}
use Rattle.bp_trail.specs.Lists.{some}
use Rattle.bp_trail.specs.Legal.{is_out}
use Rattle.bp_trail.proofs.Counting.{filter-reverse, get-left}
use Rattle.bp_frames.specs.declared.grant_list.Slot.{Slot}
use Rattle.bp_frames.specs.GrantLists.{grants_out, above}
use Rattle.bp_frames.specs.Rising.{IsRisingBy, StandsAt, StandsNowhere}
use Rattle.bp_frames.proofs.Rising.{some-none, some-alone, rising-pushed}

some-reverse : (p : Grant → Bool) (gs : List Grant) → some p (reverse gs) ≡ some p gs
some-reverse p gs = sym (list_any-IsPermutation p gs (reverse gs) (IsPermutation-reverse gs))

and-false : (a b : Bool) → (a && (b && false)) ≡ false
and-false true true = refl
and-false true false = refl
and-false false b = refl

none : (a : Bool) → (a && false) ≡ false
none true = refl
none false = refl

and-true : (a b : Bool) → (a && (b && true)) ≡ (a && b)
and-true true true = refl
and-true true false = refl
and-true false b = refl

-- some grant that is out passes where some slot does whose grant is out
some-out : (p : Grant → Bool) (ss : List Slot) → some p (grants_out ss) ≡ some (λ (s : Slot). s.is_out && p s.grant) ss
some-out p [] = refl
some-out p (s ∷ ss) = go s.is_out (some-out p ss)
  where
    go : (b : Bool) → some p (grants_out ss) ≡ some (λ (t : Slot). t.is_out && p t.grant) ss → some p (if b then s.grant ∷ grants_out ss else grants_out ss) ≡ ((b && p s.grant) || some (λ (t : Slot). t.is_out && p t.grant) ss)
    go true rest = ap (λ r. p s.grant || r) rest
    go false rest = rest

pub length-out : (ss : List Slot) → length (grants_out ss) ≤ length ss
length-out [] = omega arith
length-out (s ∷ ss) = go s.is_out (length-out ss)
  where
    go : (b : Bool) → length (grants_out ss) ≤ length ss → length (if b then s.grant ∷ grants_out ss else grants_out ss) ≤ suc (length ss)
    go true rest = omega (arith, rest)
    go false rest = omega (arith, rest)

pub out-append : (ss ts : List Slot) → grants_out (ss ++ ts) ≡ grants_out ss ++ grants_out ts
out-append [] ts = refl
out-append (s ∷ ss) ts = go s.is_out (out-append ss ts)
  where
    go : (b : Bool) → grants_out (ss ++ ts) ≡ grants_out ss ++ grants_out ts → (if b then s.grant ∷ grants_out (ss ++ ts) else grants_out (ss ++ ts)) ≡ (if b then s.grant ∷ grants_out ss else grants_out ss) ++ grants_out ts
    go true rest = ap (λ gs. s.grant ∷ gs) rest
    go false rest = rest

-- a slot alone, whose grant was taken back
pub out-left : (s : Slot) → s.is_out ≡ false → grants_out (s ∷ []) ≡ []
out-left s left = ap (λ b. if b then s.grant ∷ [] else []) left

pub out-filter : (ss : List Slot) → grants_out (filter (λ (s : Slot). s.is_out) ss) ≡ grants_out ss
out-filter [] = refl
out-filter (s ∷ ss) = go s.is_out refl (out-filter ss)
  where
    rest_of : List Slot
    rest_of = filter (λ (t : Slot). t.is_out) ss

    go : (b : Bool) → s.is_out ≡ b → grants_out rest_of ≡ grants_out ss → grants_out (cond b (s ∷ rest_of) rest_of) ≡ (if b then s.grant ∷ grants_out ss else grants_out ss)
    go true is rest = ap (λ b. if b then s.grant ∷ grants_out rest_of else grants_out rest_of) is ∙ ap (λ gs. s.grant ∷ gs) rest
    go false is rest = rest

-- those of other numbers
abbrev is_another : ℕ → Slot → Bool
is_another n s = s.is_out && not (s.grant.serial == n)

pub out-without : (n : ℕ) (ss : List Slot) → grants_out (filter (is_another n) ss) ≡ filter (λ (g : Grant). not (g.serial == n)) (grants_out ss)
out-without n [] = refl
out-without n (s ∷ ss) = go s.is_out (not (s.grant.serial == n)) refl refl (out-without n ss)
  where
    go : (b c : Bool) → s.is_out ≡ b → not (s.grant.serial == n) ≡ c → grants_out (filter (is_another n) ss) ≡ filter (λ (g : Grant). not (g.serial == n)) (grants_out ss)
        → grants_out (cond (b && c) (s ∷ filter (is_another n) ss) (filter (is_another n) ss)) ≡ filter (λ (g : Grant). not (g.serial == n)) (if b then s.grant ∷ grants_out ss else grants_out ss)
    go true true is other rest =
        ap (λ b. if b then s.grant ∷ grants_out (filter (is_another n) ss) else grants_out (filter (is_another n) ss)) is
        ∙ ap (λ gs. s.grant ∷ gs) rest
        ∙ sym (ap (λ c. cond c (s.grant ∷ filter (λ (g : Grant). not (g.serial == n)) (grants_out ss)) (filter (λ (g : Grant). not (g.serial == n)) (grants_out ss))) other)
    go true false is same rest = rest ∙ sym (ap (λ c. cond c (s.grant ∷ filter (λ (g : Grant). not (g.serial == n)) (grants_out ss)) (filter (λ (g : Grant). not (g.serial == n)) (grants_out ss))) same)
    go false c is other rest = rest

pub all-out : (ss : List Slot) → All (λ (s : Slot). s.is_out ≡ true) ss → length (grants_out ss) ≡ length ss
all-out [] all = refl
all-out (s ∷ ss) all =
    ap (λ b. length (if b then s.grant ∷ grants_out ss else grants_out ss)) (all 0 s (omega arith))
    ∙ ap suc (all-out ss (λ k d lt. all (suc k) d (omega arith)))

module _ (client page n : ℕ) (ss : List Slot) where
  other : (s : Slot) → (s.grant.serial ≡ n → ⊥) → (s.is_out && same_grant (grant client page n) s.grant) ≡ false
  other s apart =
      ap (λ b. s.is_out && ((client == s.grant.client) && ((page == s.grant.page) && b))) (ne_eqb n s.grant.serial (λ e. apart (sym e)))
      ∙ ap (λ b. s.is_out && b) (and-false (client == s.grant.client) (page == s.grant.page))
      ∙ none s.is_out

  pub in-slots : is_out (grant client page n) (reverse (grants_out ss)) ≡ some (λ (s : Slot). s.is_out && same_grant (grant client page n) s.grant) ss
  in-slots = some-reverse (same_grant (grant client page n)) (grants_out ss) ∙ some-out (same_grant (grant client page n)) ss

  -- the grant with the number is the one that is meant where it is out, and client and page are
  out-at : (at : ℕ) (d : Slot) → StandsAt (λ (s : Slot). s.grant.serial) ss n at → is_out (grant client page n) (reverse (grants_out ss)) ≡ ((get_or ss at d).is_out && ((client == (get_or ss at d).grant.client) && (page == (get_or ss at d).grant.page)))
  out-at at d stands =
      let s = get_or ss at d in
      in-slots
      ∙ some-alone (λ (s : Slot). s.is_out && same_grant (grant client page n) s.grant) ss at d stands.in_range (λ k e lt apart. other (get_or ss k e) (stands.alone k e lt apart))
      ∙ ap (λ b. s.is_out && ((client == s.grant.client) && ((page == s.grant.page) && b))) (eq-eqb n s.grant.serial (sym (stands.here d)))
      ∙ ap (λ b. s.is_out && b) (and-true (client == s.grant.client) (page == s.grant.page))

  -- as it is told by the slot that was read there
  pub out-read : (at : ℕ) (s : Slot) → StandsAt (λ (s : Slot). s.grant.serial) ss n at → s ≡ get_or ss at s → (told : Bool) → told ≡ (s.is_out && ((client == s.grant.client) && (page == s.grant.page))) → told ≡ is_out (grant client page n) (reverse (grants_out ss))
  out-read at s stands read told is = is ∙ ap (λ (s : Slot). s.is_out && ((client == s.grant.client) && (page == s.grant.page))) read ∙ sym (out-at at s stands)

  pub out-nowhere : StandsNowhere (λ (s : Slot). s.grant.serial) ss n → is_out (grant client page n) (reverse (grants_out ss)) ≡ false
  out-nowhere nowhere = in-slots ∙ some-none (λ (s : Slot). s.is_out && same_grant (grant client page n) s.grant) ss (λ k e lt. other (get_or ss k e) (nowhere k e lt))

module _ (n : ℕ) where
  -- no grant with the number is out
  without : (ss : List Slot) → ((k : ℕ) (e : Slot) → k < length ss → (get_or ss k e).is_out ≡ true → (get_or ss k e).grant.serial ≢ n) → filter (λ (g : Grant). not (g.serial == n)) (grants_out ss) ≡ grants_out ss
  without [] apart = refl
  without (s ∷ ss) apart = go s.is_out (apart 0 s (omega arith)) (without ss (λ k e lt. apart (suc k) e (omega arith)))
    where
      go : (b : Bool) → (b ≡ true → s.grant.serial ≢ n) → filter (λ (g : Grant). not (g.serial == n)) (grants_out ss) ≡ grants_out ss
          → filter (λ (g : Grant). not (g.serial == n)) (if b then s.grant ∷ grants_out ss else grants_out ss) ≡ (if b then s.grant ∷ grants_out ss else grants_out ss)
      go true differs rest =
          ap (λ b. cond b (s.grant ∷ filter (λ (g : Grant). not (g.serial == n)) (grants_out ss)) (filter (λ (g : Grant). not (g.serial == n)) (grants_out ss))) (ap not (ne_eqb s.grant.serial n (differs refl)))
          ∙ ap (λ gs. s.grant ∷ gs) rest
      go false differs rest = rest

  -- nor where the numbers would rise with it
  pub without-newest : (ss : List Slot) (x : Slot) → x.grant.serial ≡ n → IsRisingBy (λ (s : Slot). s.grant.serial) (ss ++ x ∷ []) → filter (λ (g : Grant). not (g.serial == n)) (grants_out ss) ≡ grants_out ss
  without-newest ss x is rising = without ss (λ k e lt out same. absurd (omega (arith, same, is, last e, front k e lt, rising k (length ss) e lt (omega (arith, length-append ss (x ∷ []))))))
    where
      front : (k : ℕ) (e : Slot) → k < length ss → (get_or (ss ++ x ∷ []) k e).grant.serial ≡ (get_or ss k e).grant.serial
      front k e lt = ap (λ (s : Slot). s.grant.serial) (get-left ss (x ∷ []) k e lt)

      last : (e : Slot) → (get_or (ss ++ x ∷ []) (length ss) e).grant.serial ≡ x.grant.serial
      last e = ap (λ (s : Slot). s.grant.serial) (get_or_push ss x e (length ss) refl)

  -- the grant with the number is marked
  marked : (ss : List Slot) (at : ℕ) (s : Slot) → s.is_out ≡ false → at < length ss → ((d : Slot) → (get_or ss at d).grant.serial ≡ n) → ((k : ℕ) (e : Slot) → k < length ss → k ≢ at → (get_or ss k e).grant.serial ≢ n)
      → grants_out (set ss at s) ≡ filter (λ (g : Grant). not (g.serial == n)) (grants_out ss)
  marked [] at s left lt here alone = absurd (omega arith)
  marked (t ∷ ss) zero s left lt here alone =
      ap (λ b. if b then s.grant ∷ grants_out ss else grants_out ss) left
      ∙ sym (without ss (λ k e inside out. alone (suc k) e (omega arith) (λ i. absurd (omega (arith, i)))))
      ∙ sym (go t.is_out)
    where
      go : (b : Bool) → filter (λ (g : Grant). not (g.serial == n)) (if b then t.grant ∷ grants_out ss else grants_out ss) ≡ filter (λ (g : Grant). not (g.serial == n)) (grants_out ss)
      go true = ap (λ b. cond b (t.grant ∷ filter (λ (g : Grant). not (g.serial == n)) (grants_out ss)) (filter (λ (g : Grant). not (g.serial == n)) (grants_out ss))) (ap not (eq-eqb t.grant.serial n (here t)))
      go false = refl
  marked (t ∷ ss) (suc at) s left lt here alone = go t.is_out (marked ss at s left (omega arith) here (λ k e inside apart. alone (suc k) e (omega arith) (λ i. apart (omega (arith, i)))))
    where
      differs : t.grant.serial ≢ n
      differs = alone 0 t (omega arith) (λ i. absurd (omega (arith, i)))

      go : (b : Bool) → grants_out (set ss at s) ≡ filter (λ (g : Grant). not (g.serial == n)) (grants_out ss)
          → (if b then t.grant ∷ grants_out (set ss at s) else grants_out (set ss at s)) ≡ filter (λ (g : Grant). not (g.serial == n)) (if b then t.grant ∷ grants_out ss else grants_out ss)
      go true rest =
          ap (λ gs. t.grant ∷ gs) rest
          ∙ sym (ap (λ b. cond b (t.grant ∷ filter (λ (g : Grant). not (g.serial == n)) (grants_out ss)) (filter (λ (g : Grant). not (g.serial == n)) (grants_out ss))) (ap not (ne_eqb t.grant.serial n differs)))
      go false rest = rest

  pub rest-marked : (ss : List Slot) (at : ℕ) (s : Slot) → s.is_out ≡ false → StandsAt (λ (s : Slot). s.grant.serial) ss n at → reverse (grants_out (set ss at s)) ≡ filter (λ g. not (g.serial == n)) (reverse (grants_out ss))
  rest-marked ss at s left stands = ap reverse (marked ss at s left stands.in_range stands.here stands.alone) ∙ filter-reverse (λ (g : Grant). not (g.serial == n)) (grants_out ss)

-- one fewer is out
pub fewer-marked : (ss : List Slot) (at : ℕ) (s d : Slot) → s.is_out ≡ false → at < length ss → (get_or ss at d).is_out ≡ true → suc (length (grants_out (set ss at s))) ≡ length (grants_out ss)
fewer-marked [] at s d left lt out = absurd (omega arith)
fewer-marked (t ∷ ss) zero s d left lt out =
    ap (λ b. suc (length (if b then s.grant ∷ grants_out ss else grants_out ss))) left
    ∙ sym (ap (λ b. length (if b then t.grant ∷ grants_out ss else grants_out ss)) out)
fewer-marked (t ∷ ss) (suc at) s d left lt out = go t.is_out (fewer-marked ss at s d left (omega arith) out)
  where
    go : (b : Bool) → suc (length (grants_out (set ss at s))) ≡ length (grants_out ss) → suc (length (if b then t.grant ∷ grants_out (set ss at s) else grants_out (set ss at s))) ≡ length (if b then t.grant ∷ grants_out ss else grants_out ss)
    go true rest = ap suc rest
    go false rest = rest

-- ---- the number above those of slots
pub below-above : (ss : List Slot) (n : ℕ) → above ss ≤ n → All (λ (s : Slot). s.grant.serial < n) ss
below-above [] n le k d lt = absurd (omega arith)
below-above (s ∷ ss) n le zero d lt = omega arith
below-above (s ∷ ss) n le (suc k) d lt = below-above ss n (omega arith) k d (omega arith)

pub above-append : (ss ts : List Slot) → above (ss ++ ts) ≡ max (above ss) (above ts)
above-append [] ts = omega arith
above-append (s ∷ ss) ts = omega (arith, above-append ss ts)

pub above-filter : (p : Slot → Bool) (ss : List Slot) → above (filter p ss) ≤ above ss
above-filter p [] = omega arith
above-filter p (s ∷ ss) = go (p s) (above-filter p ss)
  where
    go : (b : Bool) → above (filter p ss) ≤ above ss → above (cond b (s ∷ filter p ss) (filter p ss)) ≤ above (s ∷ ss)
    go true rest = omega (arith, rest)
    go false rest = omega (arith, rest)

pub above-set : (ss : List Slot) (at : ℕ) (s : Slot) → at < length ss → ((d : Slot) → (get_or ss at d).grant.serial ≡ s.grant.serial) → above (set ss at s) ≡ above ss
above-set [] at s lt same = refl
above-set (t ∷ ss) zero s lt same = ap (λ n. max (n + 1) (above ss)) (sym (same t))
above-set (t ∷ ss) (suc at) s lt same = ap (max (t.grant.serial + 1)) (above-set ss at s (omega arith) same)

-- ---- a slot that was left goes from an end
pub front-left : (ss ts : List Slot) (r : Option Slot) (s : Slot) → ss ≡ option_to_list r ++ ts → r ≡ Some s → s.is_out ≡ false → grants_out ss ≡ grants_out ts
front-left ss ts r s is was left = ap grants_out is ∙ ap (λ (o : Option Slot). grants_out (option_to_list o ++ ts)) was ∙ ap (λ b. if b then s.grant ∷ grants_out ts else grants_out ts) left

pub back-left : (ss ts : List Slot) (r : Option Slot) (s : Slot) → ss ≡ ts ++ option_to_list r → r ≡ Some s → s.is_out ≡ false → grants_out ss ≡ grants_out ts
back-left ss ts r s is was left = ap grants_out is ∙ ap (λ (o : Option Slot). grants_out (ts ++ option_to_list o)) was ∙ out-append ts (s ∷ []) ∙ ap (λ gs. grants_out ts ++ gs) (out-left s left) ∙ append-nil (grants_out ts)

-- ---- the oldest
pub oldest-is : (ss : List Slot) (first : ℕ) (d : Slot) → first < length ss → ((k : ℕ) (e : Slot) → k < first → (get_or ss k e).is_out ≡ false) → (get_or ss first d).is_out ≡ true → slice_get (grants_out ss) 0 ≡ Some (get_or ss first d).grant
oldest-is [] first d lt left out = absurd (omega arith)
oldest-is (s ∷ ss) zero d lt left out = ap (λ b. slice_get (if b then s.grant ∷ grants_out ss else grants_out ss) 0) out
oldest-is (s ∷ ss) (suc first) d lt left out =
    ap (λ b. slice_get (if b then s.grant ∷ grants_out ss else grants_out ss) 0) (left 0 s (omega arith))
    ∙ oldest-is ss first d (omega arith) (λ k e l. left (suc k) e (omega arith)) out

pub none-out : (ss : List Slot) → ((k : ℕ) (d : Slot) → k < length ss → (get_or ss k d).is_out ≡ false) → grants_out ss ≡ []
none-out [] left = refl
none-out (s ∷ ss) left = ap (λ b. if b then s.grant ∷ grants_out ss else grants_out ss) (left 0 s (omega arith)) ∙ none-out ss (λ k d l. left (suc k) d (omega arith))

-- one more whose number is above that of the last
pub rises-pushed : (xs : List Slot) (x last : Slot) → IsRisingBy (λ (s : Slot). s.grant.serial) xs → 0 < length xs → last ≡ get_or xs (length xs - 1) last → last.grant.serial < x.grant.serial → IsRisingBy (λ (s : Slot). s.grant.serial) (xs ++ x ∷ [])
rises-pushed xs x last rising some is above = rising-pushed (λ (s : Slot). s.grant.serial) xs rising x (λ k d lt. below k d lt)
  where
    serial_of : Slot → ℕ
    serial_of s = s.grant.serial

    at_end : (d : Slot) → get_or xs (length xs - 1) d ≡ last
    at_end d = get_or_default xs (length xs - 1) d last (omega (arith, some)) ∙ sym is

    below : (k : ℕ) (d : Slot) → k < length xs → (get_or xs k d).grant.serial < x.grant.serial
    below k d lt = elim (cases_lt k (length xs - 1)) [
      | inl less ↦ omega (arith, rising k (length xs - 1) d less (omega (arith, some)), ap serial_of (at_end d), above)
      | inr ge ↦ omega (arith, ap (λ i. (get_or xs i d).grant.serial) {x = k} {y = length xs - 1} (omega (arith, ge, lt)), ap serial_of (at_end d), above)
    ]
