-- How many candidates there are among some pages.
use Rattle.std.proofs.Common.{◌≡◌, ◌≢◌, ℕ, ◌<◌, ◌≤◌, List, [], ◌∷◌, length, None, IsSome, refl, sym, ap, ◌∙◌, subst, inl, inr, arith}
use Rattle.std.specs.Option.{is_some}
use Rattle.std.specs.List.{remove, Contains}
use Rattle.std.proofs.lemmas.Bool.{cases_eq, true≢false, eq-eqb, ne_eqb}
use Rattle.std.proofs.lemmas.List.Edits.{length-remove}
use Rattle.bp_references.specs.Candidates.{Candidate, find_entry, NoPageTwice}
use Rattle.bp_references.proofs.Lists.{IsIn, place_in, in_contained, in_rest}

-- candidates that are among some pages are no more than these
among_pages : (es : List Candidate) (pages : List ℕ) → NoPageTwice es → ((q : ℕ) → IsSome (find_entry es q) → IsIn q pages) → length es ≤ length pages
among_pages [] pages once among = omega arith
among_pages (e ∷ es) pages once among =
    let own = place_in pages e.2 (among e.2 (rw (eq-eqb e.2 e.2 refl) refl)) in
    let later : (q : ℕ) → IsSome (find_entry es q) → IsIn q (remove pages own.0) = λ q found.
    let apart : e.2 ≢ q = λ is. true≢false (sym found ∙ ap is_some (ap (find_entry es) (sym is) ∙ once.0)) in
    in_rest pages own.0 q q own.1 (λ is. apart (sym (own.2 q) ∙ is)) (among q (rw (ne_eqb e.2 q apart) found)) in
    let fewer = among_pages es (remove pages own.0) once.1 later in
    omega (arith, fewer, length-remove pages own.0 own.1)

pub room_left : (es : List Candidate) (pages : List ℕ) (page : ℕ) → NoPageTwice es → ((q : ℕ) → IsSome (find_entry es q) → Contains pages q) → Contains pages page → find_entry es page ≡ None → length es < length pages
room_left es pages page once among one absent =
    let added : Candidate = (0, 0, page) in
    let all : (q : ℕ) → IsSome (find_entry (added ∷ es) q) → IsIn q pages = λ q found. elim (cases_eq page q) [
      | inl is ↦ subst (λ x. IsIn x pages) is (in_contained pages page one)
      | inr apart ↦ in_contained pages q (among q (rw (ne_eqb page q apart) at found))
    ] in
    omega (arith, among_pages (added ∷ es) pages (absent, once) all)
