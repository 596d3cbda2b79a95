-- Laws of the words on lists.
use Rattle.std.proofs.Common.{◌≡◌, refl, ℕ, ◌+◌, max, Bool, true, false, not, ◌&&◌, ◌||◌, ◌==◌, cond, List, [], ◌∷◌, ◌++◌, length, filter, filter_map, unwrap_or, find, Option, Some, None, arith}
use Rattle.std.proofs.lemmas.Bool.{eqb-true, eq-eqb, and_parts, and_from, or_left, or_right}
use Rattle.bp_trail.specs.Lists.{total, greatest, some, every, count, since, without}

abbrev pub member : ℕ → List ℕ → Bool
member p xs = some (λ q. q == p) xs

pub some-append : {X : Type 0} (p : X → Bool) (xs ys : List X) → some p (xs ++ ys) ≡ (some p xs || some p ys)
some-append p [] ys = refl
some-append p (x ∷ xs) ys = go (p x) (some-append p xs ys)
  where
    go : (b : Bool) → some p (xs ++ ys) ≡ (some p xs || some p ys) → (b || some p (xs ++ ys)) ≡ ((b || some p xs) || some p ys)
    go true h = refl
    go false h = h

pub every-at : (p : ℕ → Bool) (xs : List ℕ) (v : ℕ) → every p xs ≡ true → member v xs ≡ true → p v ≡ true
every-at p [] v a m = cc
every-at p (x ∷ xs) v a m = go (x == v) refl (every-at p xs v (and_parts (p x) (every p xs) a).1) m
  where
    go : (b : Bool) → (x == v) ≡ b → (member v xs ≡ true → p v ≡ true) → (b || member v xs) ≡ true → p v ≡ true
    go true e ih m = rw (eqb-true x v e) at (and_parts (p x) (every p xs) a).0
    go false e ih m = ih m

pub every-filter : {X : Type 0} (p : X → Bool) (xs : List X) → every p (filter p xs) ≡ true
every-filter p [] = refl
every-filter p (x ∷ xs) = go (p x) refl (every-filter p xs)
  where
    go : (b : Bool) → p x ≡ b → every p (filter p xs) ≡ true → every p (cond b (x ∷ filter p xs) (filter p xs)) ≡ true
    go true e ih = and_from (p x) (every p (filter p xs)) e ih
    go false e ih = ih

pub member-filter : (p : ℕ → Bool) (xs : List ℕ) (v : ℕ) → p v ≡ true → member v xs ≡ true → member v (filter p xs) ≡ true
member-filter p [] v h m = m
member-filter p (x ∷ xs) v h m = go (member-filter p xs v h) (x == v) refl (p x) refl m
  where
    go : (member v xs ≡ true → member v (filter p xs) ≡ true) → (b : Bool) → (x == v) ≡ b → (d : Bool) → p x ≡ d → (b || member v xs) ≡ true → member v (cond d (x ∷ filter p xs) (filter p xs)) ≡ true
    go ih true e true f m = or_left (x == v) (member v (filter p xs)) e
    go ih true e false f m = let g : p v ≡ false = rw (eqb-true x v e) at f in cc
    go ih false e true f m = or_right (x == v) (member v (filter p xs)) (ih m)
    go ih false e false f m = ih m

pub record Found (p : ℕ → Bool) (xs : List ℕ) (v : ℕ) : Type 0 where
  pub inside : member v xs ≡ true
  pub passes : p v ≡ true

pub find-some : (p : ℕ → Bool) (xs : List ℕ) (v : ℕ) → find p xs ≡ Some v → Found p xs v
find-some p [] v h = cc
find-some p (x ∷ xs) v h = go (find-some p xs v) (p x) refl h
  where
    go : (find p xs ≡ Some v → Found p xs v) → (b : Bool) → p x ≡ b → cond b (Some x) (find p xs) ≡ Some v → Found p (x ∷ xs) v
    go ih true e h = let i : x ≡ v = cc in record { inside = or_left (x == v) (member v xs) (eq-eqb x v i); passes = rw i at e }
    go ih false e h = let f = ih h in record { inside = or_right (x == v) (member v xs) f.inside; passes = f.passes }

pub find-none : (p : ℕ → Bool) (xs : List ℕ) (v : ℕ) → find p xs ≡ None → member v xs ≡ true → p v ≡ false
find-none p [] v h m = cc
find-none p (x ∷ xs) v h m = go (find-none p xs v) (p x) refl (x == v) refl h m
  where
    go : (find p xs ≡ None → member v xs ≡ true → p v ≡ false) → (d : Bool) → p x ≡ d → (b : Bool) → (x == v) ≡ b → cond d (Some x) (find p xs) ≡ None → (b || member v xs) ≡ true → p v ≡ false
    go ih true f b e h m = cc
    go ih false f true e h m = rw (eqb-true x v e) at f
    go ih false f false e h m = ih h m

pub some-mono : {X : Type 0} (p q : X → Bool) (xs : List X) → ((x : X) → p x ≡ true → q x ≡ true) → some p xs ≡ true → some q xs ≡ true
some-mono p q [] h m = cc
some-mono p q (x ∷ xs) h m = go (some-mono p q xs h) (p x) refl m
  where
    go : (some p xs ≡ true → some q xs ≡ true) → (b : Bool) → p x ≡ b → (b || some p xs) ≡ true → some q (x ∷ xs) ≡ true
    go ih true e m = or_left (q x) (some q xs) (h x e)
    go ih false e m = or_right (q x) (some q xs) (ih m)

pub some-filter : {X : Type 0} (p q : X → Bool) (xs : List X) → some p (filter q xs) ≡ true → some p xs ≡ true
some-filter p q [] m = m
some-filter p q (x ∷ xs) m = go (some-filter p q xs) (q x) (p x) refl m
  where
    go : (some p (filter q xs) ≡ true → some p xs ≡ true) → (d b : Bool) → p x ≡ b → some p (cond d (x ∷ filter q xs) (filter q xs)) ≡ true → (b || some p xs) ≡ true
    go ih d true e m = refl
    go ih true false e m = ih (rw e at m)
    go ih false false e m = ih m

pub some-without : {Y : Type 0} (p : Y → Bool) (key : Y → ℕ) (o : Option ℕ) (ys : List Y) → some p (without key o ys) ≡ true → some p ys ≡ true
some-without p key None ys m = m
some-without p key (Some n) ys m = some-filter p (λ y. not (key y == n)) ys m

pub count-none : {X : Type 0} (p : X → Bool) (xs : List X) → count p xs ≡ 0 → some p xs ≡ false
count-none p [] h = refl
count-none p (x ∷ xs) h = go (p x) (count-none p xs) h
  where
    go : (b : Bool) → (count p xs ≡ 0 → some p xs ≡ false) → length (cond b (x ∷ filter p xs) (filter p xs)) ≡ 0 → (b || some p xs) ≡ false
    go true ih h = absurd (omega arith)
    go false ih h = ih h

pub since-mono : {X : Type 0} (start stop stop' : X → Bool) (s : List X) → ((x : X) → stop x ≡ true → stop' x ≡ true) → since start stop' s ≡ true → since start stop s ≡ true
since-mono start stop stop' [] h m = m
since-mono start stop stop' (x ∷ s) h m = go (since-mono start stop stop' s h) (start x) (stop x) refl m
  where
    go : (since start stop' s ≡ true → since start stop s ≡ true) → (b d : Bool) → stop x ≡ d → (b || (not (stop' x) && since start stop' s)) ≡ true → (b || (not d && since start stop s)) ≡ true
    go ih true d e m = refl
    go ih false true e m = let f : stop' x ≡ true = h x e in let m2 = rw f at m in cc
    go ih false false e m = ih (and_parts (not (stop' x)) (since start stop' s) m).1

-- one element more
pub greatest-with : {X : Type 0} (f : X → Option ℕ) (x : X) (s : List X) → greatest (filter_map f (x ∷ s)) ≡ max (unwrap_or (f x) 0) (greatest (filter_map f s))
greatest-with f x s = go (f x) refl
  where
    go : (o : Option ℕ) → f x ≡ o → greatest (filter_map f (x ∷ s)) ≡ max (unwrap_or (f x) 0) (greatest (filter_map f s))
    go None e = rw e (omega arith)
    go (Some n) e = rw e refl

pub total-with : {X : Type 0} (f : X → Option ℕ) (x : X) (s : List X) → total (filter_map f (x ∷ s)) ≡ unwrap_or (f x) 0 + total (filter_map f s)
total-with f x s = go (f x) refl
  where
    go : (o : Option ℕ) → f x ≡ o → total (filter_map f (x ∷ s)) ≡ unwrap_or (f x) 0 + total (filter_map f s)
    go None e = rw e (omega arith)
    go (Some n) e = rw e refl
