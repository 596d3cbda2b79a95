-- What some, after_last, since and greatest say of the elements of a list.
use Rattle.std.proofs.Common.{◌≡◌, refl, sym, ap, subst, ◌∙◌, ℕ, zero, suc, ◌<◌, ◌≤◌, max, Bool, true, false, not, ◌&&◌, ◌||◌, if◌then◌else◌, List, [], ◌∷◌, ◌++◌, length, slice_index_or, Contains, Decides, ◌⊎◌, inl, inr, arith}
use Rattle.std.proofs.lemmas.Bool.{true≢false, or_parts, or_left, or_right}
use Rattle.bp_trail.specs.declared.entries.Entry.{Entry}
use Rattle.bp_trail.specs.Lists.{greatest, some, after_last, since}
use Rattle.bp_trail.specs.Trail.{Trail}
use Rattle.bp_trail.specs.Sentences.{Lasts, FirstPasses, AreAfterLast, IsGreatest}

module _ {X : Type 0} where
  pub contains-here : (x : X) (xs : List X) → Contains (x ∷ xs) x
  contains-here x xs = (zero, omega arith, refl)

  pub contains-later : (y : X) (xs : List X) (x : X) → Contains xs x → Contains (y ∷ xs) x
  contains-later y xs x h = let lt = h.1 in (suc h.0, omega arith, h.2)

  cases-at : (y : X) (xs : List X) (x : X) (k : ℕ) → k < length (y ∷ xs) → slice_index_or (y ∷ xs) k x ≡ x → (y ≡ x) ⊎ Contains xs x
  cases-at y xs x zero lt e = inl e
  cases-at y xs x (suc k) lt e = inr (k, omega arith, e)

  pub contains-cases : (y : X) (xs : List X) (x : X) → Contains (y ∷ xs) x → (y ≡ x) ⊎ Contains xs x
  contains-cases y xs x h = cases-at y xs x h.0 h.1 h.2

  pub contains-none : (x : X) → Contains [] x → ⊥
  contains-none x h = let lt = h.1 in absurd (omega arith)

  pub record Passing (p : X → Bool) (xs : List X) : Type 0 where
    pub element : X
    pub inside : Contains xs element
    pub passes : p element ≡ true

  pub passing : (p : X → Bool) (xs : List X) → some p xs ≡ true → Passing p xs
  passing p [] h = absurd (true≢false (sym h))
  passing p (x ∷ xs) h = go (p x) refl h (passing p xs)
    where
      go : (b : Bool) → p x ≡ b → (b || some p xs) ≡ true → (some p xs ≡ true → Passing p xs) → Passing p (x ∷ xs)
      go true e h ih = record { element = x; inside = contains-here x xs; passes = e }
      go false e h ih = let w = ih h in record { element = w.element; inside = contains-later x xs w.element w.inside; passes = w.passes }

  pub some-contained : (p : X → Bool) (xs : List X) (x : X) → Contains xs x → p x ≡ true → some p xs ≡ true
  some-contained p [] x h e = absurd (contains-none x h)
  some-contained p (y ∷ xs) x h e = elim (contains-cases y xs x h) as (λ _. some p (y ∷ xs) ≡ true)
      [ inl i ↦ or_left (p y) (some p xs) (ap p i ∙ e) | inr k ↦ or_right (p y) (some p xs) (some-contained p xs x k e) ]

  -- after the last that passes
  pub after-last : (p : X → Bool) (xs : List X) → AreAfterLast p xs (after_last p xs)
  after-last p [] = record { rest = []; stands = refl; none = refl; last = tt }
  after-last p (x ∷ xs) = go (p x) refl (after-last p xs)
    where
      go : (b : Bool) → p x ≡ b → AreAfterLast p xs (after_last p xs) → AreAfterLast p (x ∷ xs) (if b then [] else x ∷ after_last p xs)
      go true e a = record { rest = x ∷ xs; stands = refl; none = refl; last = e }
      go false e a = record { rest = a.rest; stands = ap (λ ys. x ∷ ys) a.stands; none = ap (λ b. b || some p (after_last p xs)) e ∙ a.none; last = a.last }

  newest-is : (p : X → Bool) (newest rest : List X) → some p newest ≡ false → FirstPasses p rest → after_last p (newest ++ rest) ≡ newest
  newest-is p [] [] n f = refl
  newest-is p [] (x ∷ rest) n f = ap (λ b. if b then [] else x ∷ after_last p rest) f
  newest-is p (x ∷ newest) rest n f =
      let parts = or_parts (p x) (some p newest) n in
      ap (λ b. if b then [] else x ∷ after_last p (newest ++ rest)) parts.0 ∙ ap (λ ys. x ∷ ys) (newest-is p newest rest parts.1 f)

  pub after-last-only : (p : X → Bool) (xs newest : List X) → AreAfterLast p xs newest → newest ≡ after_last p xs
  after-last-only p xs newest a = sym (newest-is p newest a.rest a.none a.last) ∙ ap (after_last p) (sym a.stands)

-- since
since-sound : (start stop : Entry → Bool) (past : Trail) → since start stop past ≡ true → Lasts start stop past
since-sound start stop [] h = absurd (true≢false (sym h))
since-sound start stop (e ∷ past) h = go (start e) refl (stop e) refl h (since-sound start stop past)
  where
    go : (b : Bool) → start e ≡ b → (d : Bool) → stop e ≡ d → (b || (not d && since start stop past)) ≡ true → (since start stop past ≡ true → Lasts start stop past) → Lasts start stop (e ∷ past)
    go true i d j h ih = record { later = []; entry = e; earlier = past; stands = refl; starts = i; lasts = refl }
    go false i true j h ih = absurd (true≢false (sym h))
    go false i false j h ih =
        let w = ih h in
        record { later = e ∷ w.later; entry = w.entry; earlier = w.earlier; stands = ap (λ s. e ∷ s) w.stands; starts = w.starts; lasts = ap (λ b. b || some stop w.later) j ∙ w.lasts }

since-complete : (start stop : Entry → Bool) (later : Trail) (e : Entry) (earlier : Trail) → start e ≡ true → some stop later ≡ false → since start stop (later ++ e ∷ earlier) ≡ true
since-complete start stop [] e earlier s n = or_left (start e) (not (stop e) && since start stop earlier) s
since-complete start stop (d ∷ later) e earlier s n =
    let parts = or_parts (stop d) (some stop later) n in
    or_right (start d) (not (stop d) && since start stop (later ++ e ∷ earlier)) (ap (λ b. not b && since start stop (later ++ e ∷ earlier)) parts.0 ∙ since-complete start stop later e earlier s parts.1)

pub since-lasts : (start stop : Entry → Bool) (past : Trail) → Decides (since start stop past) (Lasts start stop past)
since-lasts start stop past = (since-sound start stop past, λ w. ap (since start stop) w.stands ∙ since-complete start stop w.later w.entry w.earlier w.starts w.lasts)

-- the greatest
bounded : (ns : List ℕ) (n : ℕ) → Contains ns n → n ≤ greatest ns
bounded [] n h = absurd (contains-none n h)
bounded (m ∷ ns) n h = elim (contains-cases m ns n h) as (λ _. n ≤ max m (greatest ns))
    [ inl e ↦ omega arith | inr k ↦ (let b = bounded ns n k in omega arith) ]

reached : (ns : List ℕ) → 0 < greatest ns → Contains ns (greatest ns)
reached [] h = absurd (omega arith)
reached (m ∷ ns) h = go (which m (greatest ns)) (reached ns)
  where
    which : (m g : ℕ) → (max m g ≡ m) ⊎ ((max m g ≡ g) × (m < g))
    which m g = grind arith

    go : (max m (greatest ns) ≡ m) ⊎ ((max m (greatest ns) ≡ greatest ns) × (m < greatest ns)) → (0 < greatest ns → Contains ns (greatest ns)) → Contains (m ∷ ns) (max m (greatest ns))
    go (inl e) ih = subst (λ n. Contains (m ∷ ns) n) (sym e) (contains-here m ns)
    go (inr e) ih = subst (λ n. Contains (m ∷ ns) n) (sym e.0) (contains-later m ns (greatest ns) (ih (let lt = e.1 in omega arith)))

pub greatest-is : (ns : List ℕ) → IsGreatest ns (greatest ns)
greatest-is ns = record { bound = bounded ns; reached = reached ns }
