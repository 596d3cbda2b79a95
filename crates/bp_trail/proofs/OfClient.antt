-- What a list of entries has of one client, part by part.
use Rattle.std.proofs.Common.{◌≡◌, ◌≢◌, ℕ, List, [], ◌∷◌, ◌++◌, reverse, Bool, refl, sym, ap, ◌∙◌, eqb, eq-eqb, ne_eqb}
use Rattle.std.specs.Prelude.{◌==◌, if◌then◌else◌, true, false}
use Rattle.std.proofs.lemmas.List.{append-nil, reverse-append}
use Rattle.std.proofs.lemmas.List.Elements.{filter-append}
use Rattle.bp_trail.specs.declared.entries.Entry.{Entry}
use Rattle.bp_trail.specs.Clients.{of_client}

abbrev pub GivesByParts : {X Y : Type 0} → (List X → List Y) → Type 0
GivesByParts {X} give = (xs ys : List X) → give (xs ++ ys) ≡ give xs ++ give ys

pub of_client-append : (c : ℕ) → GivesByParts (of_client c)
of_client-append c xs ys = filter-append (λ e. e.client == c) xs ys

pub of_client-reverse : (c : ℕ) (xs : List Entry) → of_client c (reverse xs) ≡ reverse (of_client c xs)
of_client-reverse c [] = refl
of_client-reverse c (x ∷ xs) =
    ap (of_client c) (reverse-append (x ∷ []) xs) ∙ of_client-append c (reverse xs) (x ∷ []) ∙ ap (λ zs. zs ++ of_client c (x ∷ [])) (of_client-reverse c xs)
    ∙ one_more (eqb x.client c)
  where
    one_more : (b : Bool) → reverse (of_client c xs) ++ if◌then◌else◌ b (x ∷ []) [] ≡ reverse (if◌then◌else◌ b (x ∷ of_client c xs) (of_client c xs))
    one_more true = sym (reverse-append (x ∷ []) (of_client c xs))
    one_more false = append-nil (reverse (of_client c xs))

pub of_client-hit : (c : ℕ) (e : Entry) (xs : List Entry) → e.client ≡ c → of_client c (e ∷ xs) ≡ e ∷ of_client c xs
of_client-hit c e xs is = rw (eq-eqb e.client c is) refl

pub of_client-miss : (c : ℕ) (e : Entry) (xs : List Entry) → e.client ≢ c → of_client c (e ∷ xs) ≡ of_client c xs
of_client-miss c e xs is = rw (ne_eqb e.client c is) refl
