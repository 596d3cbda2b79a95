-- The victim is a candidate that no candidate comes before, and there is one wherever there is a candidate.
use Rattle.std.proofs.Common.{◌≡◌, refl, sym, ◌∙◌, find, ℕ, Bool, true, false, not, ◌==◌, List, [], ◌∷◌, Some, None, arith}
use Rattle.std.proofs.lemmas.Bool.{not-true, and_parts, and_from, or_left, or_right, eq-eqb, not_from_false, false_from_ne_true, true≢false}
use Rattle.bp_trail.specs.Parameters.{Parameters}
use Rattle.bp_trail.specs.Lists.{every}
use Rattle.bp_trail.specs.Trail.{Trail}
use Rattle.bp_trail.specs.Places.{residents, resident}
use Rattle.bp_trail.specs.Victim.{rank, before, candidate, candidates, victim, IsVictim}
use Rattle.std.proofs.lemmas.Bool.Decides.{nat_tests}
use Rattle.bp_trail.specs.Victim.{Rank}
use Rattle.bp_trail.proofs.Lists.{member, every-at, every-filter, member-filter, find-some, find-none}

pub candidate-resident : (c : Parameters) (past : Trail) (q : ℕ) → candidate c past q ≡ true → resident past q ≡ true
candidate-resident c past q h = (and_parts (resident past q) _ h).0

pub candidate-listed : (c : Parameters) (past : Trail) (q : ℕ) → candidate c past q ≡ true → member q (candidates c past) ≡ true
candidate-listed c past q h = member-filter (candidate c past) (residents past) q h (candidate-resident c past q h)

pub victim-is : (c : Parameters) (past : Trail) (v : ℕ) → victim c past ≡ Some v → IsVictim c past v
victim-is c past v h =
    let f = find-some (λ v. every (λ q. not (before (rank c past q) (rank c past v))) (candidates c past)) (candidates c past) v h in
    record {
      eligible = every-at (candidate c past) (candidates c past) v (every-filter (candidate c past) (residents past)) f.inside;
      first = λ q k. not-true (before (rank c past q) (rank c past v)) (every-at (λ q. not (before (rank c past q) (rank c past v))) (candidates c past) q f.passes (candidate-listed c past q k));
    }

before-total : (a b c : Rank) → before a b ≡ false → before c b ≡ true → before a c ≡ false
before-total a b c h k = grind (arith, nat_tests)

before-itself : (a : Rank) → before a a ≡ false
before-itself a = grind (arith, nat_tests)

-- of some pages one comes first: no other comes before it
record Least (f : ℕ → Rank) (xs : List ℕ) : Type 0 where
  page : ℕ
  inside : member page xs ≡ true
  first : every (λ q. not (before (f q) (f page))) xs ≡ true

every-mono : (p q : ℕ → Bool) (xs : List ℕ) → ((x : ℕ) → p x ≡ true → q x ≡ true) → every p xs ≡ true → every q xs ≡ true
every-mono p q [] h m = refl
every-mono p q (x ∷ xs) h m = let a = and_parts (p x) (every p xs) m in and_from (q x) (every q xs) (h x a.0) (every-mono p q xs h a.1)

least : (f : ℕ → Rank) (x : ℕ) (xs : List ℕ) → Least f (x ∷ xs)
least f x [] = record { page = x; inside = or_left (x == x) false (eq-eqb x x refl); first = rw (before-itself (f x)) refl }
least f x (y ∷ ys) = go (least f y ys)
  where
    at : (m : Least f (y ∷ ys)) (b : Bool) → before (f x) (f m.page) ≡ b → Least f (x ∷ y ∷ ys)
    at m true e = record {
      page = x;
      inside = or_left (x == x) (member x (y ∷ ys)) (eq-eqb x x refl);
      first = and_from (not (before (f x) (f x))) (every (λ q. not (before (f q) (f x))) (y ∷ ys)) (rw (before-itself (f x)) refl)
          (every-mono (λ q. not (before (f q) (f m.page))) (λ q. not (before (f q) (f x))) (y ∷ ys) (λ q h. not_from_false (before (f q) (f x)) (before-total (f q) (f m.page) (f x) (not-true (before (f q) (f m.page)) h) e)) m.first);
    }
    at m false e = record {
      page = m.page;
      inside = or_right (x == m.page) (member m.page (y ∷ ys)) m.inside;
      first = and_from (not (before (f x) (f m.page))) (every (λ q. not (before (f q) (f m.page))) (y ∷ ys)) (not_from_false (before (f x) (f m.page)) e) m.first;
    }

    go : Least f (y ∷ ys) → Least f (x ∷ y ∷ ys)
    go m = at m (before (f x) (f m.page)) refl

none-listed : (f : ℕ → Rank) (xs : List ℕ) (q : ℕ) → find (λ v. every (λ q. not (before (f q) (f v))) xs) xs ≡ None → member q xs ≡ true → ⊥
none-listed f [] q h m = cc
none-listed f (x ∷ xs) q h m =
    let l = least f x xs in
    let e = find-none (λ v. every (λ q. not (before (f q) (f v))) (x ∷ xs)) (x ∷ xs) l.page h l.inside in
    true≢false (sym l.first ∙ e)

-- no victim, no candidate
pub no-victim : (c : Parameters) (past : Trail) → victim c past ≡ None → (q : ℕ) → candidate c past q ≡ false
no-victim c past h q = false_from_ne_true (candidate c past q) (λ k. none-listed (rank c past) (candidates c past) q h (candidate-listed c past q k))
