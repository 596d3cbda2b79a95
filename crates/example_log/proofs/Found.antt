-- What is left of a log is read: as many of its records as stand there.
use Rattle.std.proofs.Common.{◌≡◌, ◌≢◌, inl, inr, refl, sym, ap, subst, ◌∙◌, ℕ, zero, suc, ◌+◌, ◌<◌, ◌≤◌, ◌==◌, Bool, true, false, List, [], ◌∷◌, ◌++◌, length, take, drop, append_assoc, arith}
use Rattle.std.specs.Prelude.{◌⊎◌}
use Rattle.std.proofs.lemmas.Bool.{cases_lt, eq-eqb, eqb-true}
use Rattle.std.proofs.lemmas.List.{drop_at, take-append-drop}
use Rattle.example_log.specs.Files.{FileCall, FileLeaves, synced, written}
use Rattle.example_log.specs.Frames.{IsRecord, NoFrame, frame, frames}
use Rattle.example_log.specs.Lives.{TellsTrue}
use Rattle.example_log.proofs.Lives.{LifeIs, frames-push, front-is, next}

same-or-not : (xs ys : List ℕ) → (xs ≡ ys) ⊎ (xs ≢ ys)
same-or-not [] [] = inl refl
same-or-not [] (y ∷ ys) = inr (λ e. absurd (cc))
same-or-not (x ∷ xs) [] = inr (λ e. absurd (cc))
same-or-not (x ∷ xs) (y ∷ ys) = go (x == y) refl (same-or-not xs ys)
  where
    go : (b : Bool) → (x == y) ≡ b → (xs ≡ ys) ⊎ (xs ≢ ys) → (x ∷ xs ≡ y ∷ ys) ⊎ (x ∷ xs ≢ y ∷ ys)
    go true e (inl same) = inl (ap (λ (n : ℕ). n ∷ xs) (eqb-true x y e) ∙ ap (λ (t : List ℕ). y ∷ t) same)
    go true e (inr other) = inr (λ k. other (cc))
    go false e h = inr (λ k. (let same : x ≡ y = cc in let here : (x == y) ≡ true = eq-eqb x y same in absurd (cc)))

take-next : (k : ℕ) (xs : List (List ℕ)) (q : List ℕ) (more : List (List ℕ)) → drop k xs ≡ q ∷ more → (take (suc k) xs ≡ take k xs ++ q ∷ []) × (suc k ≤ length xs) × (length (take k xs) ≡ k)
take-next zero [] q more e = absurd (cc)
take-next zero (x ∷ xs) q more e = (let same : x ≡ q = cc in ap (λ (t : List ℕ). t ∷ []) same, omega arith, refl)
take-next (suc k) [] q more e = absurd (cc)
take-next (suc k) (x ∷ xs) q more e = let h = take-next k xs q more e in (ap (λ (t : List (List ℕ)). x ∷ t) h.0, (let n = h.1 in omega arith), (let n = h.2 in omega arith))

module _ (first : List ℕ) (start : ℕ) (alive : Bool) (calls : List FileCall) (log : List (List ℕ)) (durable : ℕ) (left : List ℕ)
    (is : LifeIs first start alive calls log durable) (leaves : FileLeaves first calls left) (tells : TellsTrue start (synced first calls) (written first calls) left) where
  -- so many records stand at the front
  abbrev rest_of : ℕ → List ℕ
  rest_of k = drop (length (frames start (take k log))) left

  abbrev Stands : ℕ → Type 0
  Stands k = left ≡ frames start (take k log) ++ rest_of k

  pub record Longest : Type 0 where
    pub count : ℕ
    pub enough : durable ≤ count
    pub most : count ≤ length log
    pub stands : left ≡ frames start (take count log) ++ drop (length (frames start (take count log))) left
    pub ends : NoFrame (drop (length (frames start (take count log))) left)

  one-more : (k : ℕ) → Stands k → (lsn : ℕ) (payload rest : List ℕ) → IsRecord lsn payload → rest_of k ≡ frame lsn payload ++ rest → (suc k ≤ length log) × Stands (suc k)
  one-more k stands lsn payload rest fit e =
      let told : left ≡ frames start (take k log) ++ (frame lsn payload ++ rest) = stands ∙ ap (λ (t : List ℕ). frames start (take k log) ++ t) e in
      let n = next first start alive calls log durable left is leaves tells (take k log) (drop k log) (sym (take-append-drop k log)) lsn payload rest fit told in
      let t = take-next k log n.0 n.1 n.2 in
      let whole : frames start (take (suc k) log) ≡ frames start (take k log) ++ frame lsn payload =
      ap (frames start) t.0 ∙ frames-push start (take k log) n.0 ∙ ap (λ (m : ℕ). frames start (take k log) ++ frame m n.0) (sym n.3) ∙ ap (λ (x : List ℕ). frames start (take k log) ++ frame lsn x) (sym n.4) in
      let there : left ≡ frames start (take (suc k) log) ++ rest = told ∙ sym (append_assoc (frames start (take k log)) (frame lsn payload) rest) ∙ ap (λ (x : List ℕ). x ++ rest) (sym whole) in
      let after : rest_of (suc k) ≡ rest = ap (drop (length (frames start (take (suc k) log)))) there ∙ drop_at (frames start (take (suc k) log)) rest (length (frames start (take (suc k) log))) refl in
      (t.1, there ∙ ap (λ (x : List ℕ). frames start (take (suc k) log) ++ x) (sym after))

  pub longest : Longest
  longest = (let n = is.count in find (length log) 0 (omega arith) (omega arith) (λ k lt le. absurd (omega arith)))
    where
      ended-at : (m : ℕ) → durable ≤ m → m ≤ length log → Stands m → ((k : ℕ) → m < k → k ≤ length log → ¬ Stands k) → Longest
      ended-at m enough most stands none = record {
        count = m;
        enough = enough;
        most = most;
        stands = stands;
        ends = λ lsn payload rest fit e. (let h = one-more m stands lsn payload rest fit e in none (suc m) (omega arith) h.0 h.1);
      }

      find : (m tried : ℕ) → m + tried ≡ length log → durable ≤ m → ((k : ℕ) → m < k → k ≤ length log → ¬ Stands k) → Longest
      find zero tried e le none = (let z : durable ≡ 0 = omega arith in ended-at 0 le (omega arith) (subst Stands z (front-is first start alive calls log durable left is leaves tells)) none)
      find (suc m) tried e le none = go (same-or-not left (frames start (take (suc m) log) ++ rest_of (suc m))) (cases_lt m durable) (λ below none_now. find m (suc tried) (omega arith) below none_now)
        where
          go : (left ≡ frames start (take (suc m) log) ++ rest_of (suc m)) ⊎ (left ≢ frames start (take (suc m) log) ++ rest_of (suc m)) → (m < durable) ⊎ (durable ≤ m) → (durable ≤ m → ((k : ℕ) → m < k → k ≤ length log → ¬ Stands k) → Longest) → Longest
          go (inl stands) w again = ended-at (suc m) le (omega arith) stands none
          go (inr not) (inl lt) again = (let z : durable ≡ suc m = omega arith in absurd (not (subst Stands z (front-is first start alive calls log durable left is leaves tells))))
          go (inr not) (inr below) again = again below (λ k lt most stands. elim (cases_lt (suc m) k) [
            | inl later ↦ none k later most stands
            | inr now ↦ (let z : k ≡ suc m = omega arith in not (subst Stands z stands))
          ])
