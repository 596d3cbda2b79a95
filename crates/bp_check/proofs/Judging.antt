-- The first entry that is not lawful.
use Rattle.std.proofs.Common.{◌≡◌, ℕ, ◌+◌, ◌<◌, Bool, false, List, [], ◌∷◌, ◌++◌, length, take, drop, get_or, reverse, Option, Some, None, sym, ap, subst, ◌∙◌}
use Rattle.std.specs.Prelude.{◌↔◌, IsTrue, IfSome}
use Rattle.std.proofs.lemmas.Bool.{true≢false}
use Rattle.std.proofs.lemmas.List.{take-append-drop, reverse-append, append_assoc, append-nil, get_or_read}
use Rattle.bp_trail.specs.declared.entries.Entry.{Entry}
use Rattle.bp_trail.specs.Parameters.{Parameters}
use Rattle.bp_trail.specs.Trail.{Trail}
use Rattle.bp_trail.specs.Legal.{IsLawful, Legal}
use Rattle.bp_check.specs.declared.setup.Setup.{Setup}
use Rattle.bp_check.specs.Setups.{parameters_of, with_room}
use Rattle.bp_check.specs.Verdict.{IsFirstUnlawful, IsFirstUnlawfulAfter}
use Rattle.bp_check.specs.Seen.{Seen}
use Rattle.bp_check.proofs.Reversed.{newest}
use Rattle.bp_check.proofs.Rooms.{lawful-here, lawful-there}

legal-rest : (c : Parameters) (newer older : Trail) → Legal c (newer ++ older) → Legal c older
legal-rest c [] older l = l
legal-rest c (e ∷ newer) older l = legal-rest c newer older l.before

-- each entry of a legal trail is lawful at its place
lawful-at : (c : Parameters) (xs : List Entry) (past : Trail) (i : ℕ) (e : Entry) → i < length xs → e ≡ get_or xs i e → Legal c (reverse xs ++ past) → IsLawful c (reverse (take i xs) ++ past) e
lawful-at c xs past i e below is legal =
    let cut : reverse xs ++ past ≡ reverse (drop (i + 1) xs) ++ (e ∷ (reverse (take i xs) ++ past)) =
    ap (λ (es : List Entry). es ++ past) (ap reverse (sym (take-append-drop (i + 1) xs)) ∙ reverse-append (take (i + 1) xs) (drop (i + 1) xs) ∙ ap (λ (es : List Entry). reverse (drop (i + 1) xs) ++ es) (newest xs i e e below is))
    ∙ append_assoc (reverse (drop (i + 1) xs)) (e ∷ reverse (take i xs)) past in
    (legal-rest c (reverse (drop (i + 1) xs)) (e ∷ (reverse (take i xs) ++ past)) (subst (Legal c) cut legal)).here

-- ---- a piece that comes after a past, told so far as its place says

module _ (setup : Setup) (c : Parameters) (past : Trail) (piece : List Entry) (place : ℕ) (e : Entry) (told : Seen)
    (of : told.parameters ≡ parameters_of setup 0) (same : told.parameters ≡ c) (so_far : told.past ≡ reverse (take place piece) ++ past) (below : place < length piece) (is : e ≡ get_or piece place e) where
  there : (room : ℕ) (trail : Trail) → IsLawful told.parameters trail e → IsLawful (with_room c room) trail e
  there room trail l =
      subst (λ (p : Parameters). IsLawful (with_room p room) trail e) (sym of ∙ same)
      (lawful-there setup room trail e (subst (λ (p : Parameters). IsLawful p trail e) of l))

  here : (room : ℕ) (trail : Trail) → IsLawful (with_room c room) trail e → IsLawful told.parameters trail e
  here room trail l =
      subst (λ (p : Parameters). IsLawful p trail e) (sym of)
      (lawful-here setup room trail e (subst (λ (p : Parameters). IsLawful (with_room p room) trail e) (sym same ∙ of) l))

  pub told-one : (room : ℕ) → IsLawful told.parameters told.past e → Legal (with_room c room) told.past → Legal (with_room c room) (e ∷ told.past)
  told-one room lawful legal = record { here = there room told.past lawful; before = legal }

  pub so-far-one : e ∷ told.past ≡ reverse (take (place + 1) piece) ++ past
  so-far-one = ap (λ (es : List Entry). e ∷ es) so_far ∙ ap (λ (es : List Entry). es ++ past) (sym (newest piece place e e below is))

  module _ (lawful : Bool) (says : IsTrue lawful ↔ IsLawful told.parameters told.past e) (denied : lawful ≡ false) where
    refused : (room : ℕ) → IsLawful (with_room c room) (reverse (take place piece) ++ past) e → ⊥
    refused room l = true≢false (sym (says.1 (here room told.past (subst (λ (t : Trail). IsLawful (with_room c room) t e) (sym so_far) l))) ∙ denied)

    pub first-after : (room : ℕ) → Legal (with_room c room) told.past → IsFirstUnlawfulAfter (with_room c room) past piece place
    first-after room legal = record {
      within = below;
      before = subst (Legal (with_room c room)) so_far legal;
      unlawful = λ d l. refused room (subst (IsLawful (with_room c room) (reverse (take place piece) ++ past)) (sym (get_or_read piece place e below is d)) l);
    }

    pub not-legal-after : (room : ℕ) → Legal (with_room c room) (reverse piece ++ past) → ⊥
    not-legal-after room l = refused room (lawful-at (with_room c room) piece past place e below is l)

-- ---- a piece that comes after nothing is a whole list

pub legal-from-nothing : (c : Parameters) (trail : List Entry) → Legal c (reverse trail ++ []) → Legal c (reverse trail)
legal-from-nothing c trail l = subst (Legal c) (append-nil (reverse trail)) l

pub legal-to-nothing : (c : Parameters) (trail : List Entry) → Legal c (reverse trail) → Legal c (reverse trail ++ [])
legal-to-nothing c trail l = subst (Legal c) (sym (append-nil (reverse trail))) l

first-from-nothing : (c : Parameters) (trail : List Entry) (place : ℕ) → IsFirstUnlawfulAfter c [] trail place → IsFirstUnlawful c trail place
first-from-nothing c trail place f = record {
  within = f.within;
  before = subst (Legal c) (append-nil (reverse (take place trail))) f.before;
  unlawful = λ d l. f.unlawful d (subst (λ (t : Trail). IsLawful c t (get_or trail place d)) (sym (append-nil (reverse (take place trail)))) l);
}

pub all-from-nothing : (c : Parameters) (trail : List Entry) (place : Option ℕ) → IfSome place (IsFirstUnlawfulAfter c [] trail) → IfSome place (IsFirstUnlawful c trail)
all-from-nothing c trail None f = f
all-from-nothing c trail (Some place) f = first-from-nothing c trail place f
