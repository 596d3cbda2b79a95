-- The candidates' victim is the one of the definitions, and a page that comes among them has room.
use Rattle.std.proofs.Common.{◌≡◌, refl, sym, ap, subst, ◌∙◌, ℕ, ◌-◌, ◌<◌, nat_lt, Bool, true, false, not, ◌&&◌, ◌==◌, if◌then◌else◌, List, [], ◌∷◌, filter, length, Option, Some, None, inl, inr, arith}
use Rattle.std.specs.Prelude.{IsSome, IfSome, IfNone, unwrap_or}
use Rattle.std.specs.Option.{option_map_or}
use Rattle.std.proofs.lemmas.Bool.{cases_eq, and_parts, eqb-false, eq-eqb, ne_eqb, false_from_ne_true, true≢false, false≢true}
use Rattle.std.proofs.lemmas.Bool.Decides.{nat_tests}
use Rattle.bp_references.specs.Candidates.{Candidate, Entered, find_entry, entry_of, candidate_of, is_eligible, is_before, NoPageTwice}
use Rattle.bp_references.specs.Candidates.{IsVictim as IsEnteredVictim}
use Rattle.bp_trail.specs.Parameters.{Parameters}
use Rattle.bp_trail.specs.Trail.{Trail}
use Rattle.bp_trail.specs.Clock.{clock}
use Rattle.bp_trail.specs.Passes.{pins}
use Rattle.bp_trail.specs.Places.{residents, resident, writing}
use Rattle.bp_trail.specs.References.{hist, last}
use Rattle.bp_trail.specs.Legal.{Legal}
use Rattle.bp_trail.specs.Victim.{Rank, rank, before, candidate, victim, IsVictim}
use Rattle.bp_core.specs.Agreement.{unused, HasCandidates}
use Rattle.bp_trail.proofs.Lists.{member}
use Rattle.bp_trail.proofs.Residents.{frames, residents-rest, left-other}
use Rattle.bp_trail.proofs.Victim.{victim-is, no-victim}

before-asym : (a b : Rank) → before a b ≡ true → before b a ≡ false
before-asym a b h = grind (arith, nat_tests)

before-itself : (a : Rank) → before a a ≡ false
before-itself a = grind (arith, nat_tests)

before-none : (a b : Rank) → before a b ≡ false → before b a ≡ false → a.page ≡ b.page
before-none a b h k = grind (arith, nat_tests)

-- entries of pages that are listed are fewer than the list, if one that is listed is none of them
roomy : (p : ℕ) (es : List Candidate) (xs : List ℕ) → NoPageTwice es → ((q : ℕ) → IsSome (find_entry es q) → member q xs ≡ true) → member p xs ≡ true → find_entry es p ≡ None → length es < length xs
roomy p [] xs once listed here absent = some xs here
  where
    some : (xs : List ℕ) → member p xs ≡ true → 0 < length xs
    some [] m = absurd (false≢true m)
    some (x ∷ xs) m = omega arith
roomy p (e ∷ es) xs once listed here absent =
    let apart : (e.2 == p) ≡ false = false_from_ne_true (e.2 == p) (λ t. let is = sym absent ∙ first p t in cc) in
    let left : List ℕ = filter (λ y. not (y == e.2)) xs in
    let there = listed e.2 (subst IsSome (sym (first e.2 (eq-eqb e.2 e.2 refl))) refl) in
    let rest = roomy p es left once.1
    (λ q some.
    let other : (e.2 == q) ≡ false = ne_eqb e.2 q (λ i. false≢true (subst IsSome (ap (find_entry es) (sym i) ∙ once.0) some)) in
    left-other e.2 q (turn q other) xs ∙ listed q (subst IsSome (sym (later q other)) some))
    (left-other e.2 p (turn p apart) xs ∙ here) (sym (later p apart) ∙ absent) in
    omega (arith, rest, residents-rest e.2 xs there)
  where
    first : (q : ℕ) → (e.2 == q) ≡ true → find_entry (e ∷ es) q ≡ Some (e.0, e.1)
    first q t = ap (λ b. if b then Some (e.0, e.1) else find_entry es q) t

    later : (q : ℕ) → (e.2 == q) ≡ false → find_entry (e ∷ es) q ≡ find_entry es q
    later q f = ap (λ b. if b then Some (e.0, e.1) else find_entry es q) f

    turn : (q : ℕ) → (e.2 == q) ≡ false → (q == e.2) ≡ false
    turn q f = ne_eqb q e.2 (λ i. eqb-false e.2 q f (sym i))

module _ (c : Parameters) (past : Trail) where
  one-victim : (v w : ℕ) → IsVictim c past v → IsVictim c past w → v ≡ w
  one-victim v w i j = before-none (rank c past v) (rank c past w) (j.first v i.eligible) (i.first w j.eligible)

  is-chosen : (v : ℕ) → IsVictim c past v → victim c past ≡ Some v
  is-chosen v i = go (victim c past) refl
    where
      go : (o : Option ℕ) → victim c past ≡ o → o ≡ Some v
      go None e = absurd (true≢false (sym i.eligible ∙ no-victim c past e v))
      go (Some w) e = ap Some (one-victim w v (victim-is c past w e) i)

  none-chosen : ((q : ℕ) → candidate c past q ≡ false) → victim c past ≡ None
  none-chosen n = go (victim c past) refl
    where
      go : (o : Option ℕ) → victim c past ≡ o → o ≡ None
      go None e = refl
      go (Some w) e = absurd (true≢false (sym (victim-is c past w e).eligible ∙ n w))

  module _ (e : Entered) (h : HasCandidates c past e) where
    -- who may be replaced now
    eligible-is : (q : ℕ) → is_eligible e (clock past) q ≡ candidate c past q
    eligible-is q =
        ap (λ o. option_map_or (λ (x : ℕ × ℕ). nat_lt e.correlated (clock past - x.1)) o false) (h.entries_are q)
        ∙ told (unused past q)
        ∙ ap (λ k. if unused past q then nat_lt k (clock past - last c past q) else false) h.correlated_is
        ∙ turned (resident past q) (pins past q == 0) (not (writing past q)) (nat_lt c.correlated (clock past - last c past q))
      where
        told : (u : Bool) → option_map_or (λ (x : ℕ × ℕ). nat_lt e.correlated (clock past - x.1)) (if u then Some (hist c past q c.k, last c past q) else None) false ≡ (if u then nat_lt e.correlated (clock past - last c past q) else false)
        told true = refl
        told false = refl

        turned : (r n w k : Bool) → (if r && (n && w) then k else false) ≡ (r && (n && (w && k)))
        turned true true true k = refl
        turned true true false k = refl
        turned true false w k = refl
        turned false n w k = refl

    entered-as : (q : ℕ) → candidate c past q ≡ true → candidate_of e q ≡ (hist c past q c.k, last c past q, q)
    entered-as q k =
        let r = and_parts (resident past q) _ k in
        let n = and_parts (pins past q == 0) _ r.1 in
        let w = and_parts (not (writing past q)) _ n.1 in
        let entry : entry_of e q ≡ Some (hist c past q c.k, last c past q) = h.entries_are q ∙ (λ i. if r.0 i && (n.0 i && w.0 i) then Some (hist c past q c.k, last c past q) else None) in
        λ i. ((unwrap_or (entry i) (0, 0)).0, (unwrap_or (entry i) (0, 0)).1, q)

    -- what decides between two that may
    order-is : (v q : ℕ) → candidate c past v ≡ true → candidate c past q ≡ true → is_before (candidate_of e v) (candidate_of e q) ≡ before (rank c past v) (rank c past q)
    order-is v q i j = λ k. is_before (entered-as v i k) (entered-as q j k)

    victim-chosen : (v : ℕ) → IsEnteredVictim e (clock past) v → victim c past ≡ Some v
    victim-chosen v i = is-chosen v (record {
      eligible = sym (eligible-is v) ∙ i.eligible;
      first = λ q k. elim (cases_eq q v) [
        | inl same ↦ subst (λ r. before (rank c past r) (rank c past v) ≡ false) (sym same) (before-itself (rank c past v))
        | inr other ↦ before-asym (rank c past v) (rank c past q) (sym (order-is v q (sym (eligible-is v) ∙ i.eligible) k) ∙ i.first q (eligible-is q ∙ k) other)
      ];
    })

    none-eligible : ((q : ℕ) → is_eligible e (clock past) q ≡ false) → victim c past ≡ None
    none-eligible none = none-chosen (λ q. sym (eligible-is q) ∙ none q)

    -- what the index answers
    pub told : (t : ℕ) → t ≡ clock past → (o : Option ℕ) → IfSome o (λ v. IsEnteredVictim e t v) → IfNone o ((q : ℕ) → is_eligible e t q ≡ false) → o ≡ victim c past
    told t now (Some v) found none = sym (victim-chosen v (subst (λ u. IsEnteredVictim e u v) now found))
    told t now None found none = sym (none-eligible (λ q. sym (ap (λ u. is_eligible e u q) now) ∙ none q))

    -- ---- a page that is none of them has room among them
    among : (p : ℕ) → resident past p ≡ true → entry_of e p ≡ None → length e.entries < length (residents past)
    among p here absent = roomy p e.entries (residents past) h.once (λ q some. listed q (unused past q) refl some) here absent
      where
        listed : (q : ℕ) (b : Bool) → unused past q ≡ b → IsSome (entry_of e q) → resident past q ≡ true
        listed q true u some = (and_parts (resident past q) _ u).0
        listed q false u some =
            let none : entry_of e q ≡ None = h.entries_are q ∙ ap (λ b. if b then Some (hist c past q c.k, last c past q) else None) u in
            absurd (false≢true (subst IsSome none some))

    pub has-room : Legal c past → (p : ℕ) → resident past p ≡ true → entry_of e p ≡ None → length e.entries < e.frames
    has-room legal p here absent = omega (arith, h.frames_is, (frames c past legal).within, among p here absent)
