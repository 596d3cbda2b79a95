-- Pieces that are joined.
use Rattle.std.proofs.Common.{◌≡◌, refl, sym, ap, subst, ◌∙◌, ℕ, ◌<◌, List, [], ◌∷◌, ◌++◌, reverse, map}
use Rattle.std.specs.Prelude.{flat_map}
use Rattle.std.proofs.lemmas.List.{reverse-append, append-nil, append_assoc, get_or-map, length-map}
use Rattle.bp_trail.specs.declared.entries.Entry.{Entry}
use Rattle.bp_trail.specs.Trail.{Trail}
use Rattle.bp_trail.specs.Clients.{of_client}
use Rattle.bp_trail.proofs.OfClient.{of_client-append}
use Rattle.bp_replay.specs.ScriptRuns.{after_lists, joined_lists, PiecesAreTheirs, SaidIsTheirs}

after_before : (before : Trail) (pieces : List (List Entry)) → after_lists before pieces ≡ reverse (joined_lists pieces) ++ before
after_before before [] = refl
after_before before (p ∷ ps) =
    after_before (reverse p ++ before) ps ∙ sym (append_assoc (reverse (joined_lists ps)) (reverse p) before) ∙ ap (λ es. es ++ before) (sym (reverse-append p (joined_lists ps)))

pub whole : (pieces : List (List Entry)) → after_lists [] pieces ≡ reverse (joined_lists pieces)
whole pieces = after_before [] pieces ∙ append-nil (reverse (joined_lists pieces))

of_client-joined : (c : ℕ) (pieces : List (List Entry)) → of_client c (joined_lists pieces) ≡ flat_map (of_client c) pieces
of_client-joined c [] = refl
of_client-joined c (p ∷ ps) = of_client-append c p (joined_lists ps) ∙ ap (λ es. of_client c p ++ es) (of_client-joined c ps)

pub theirs : (clients : ℕ) (trail : List (List Entry)) (said : List (List (List Entry))) → PiecesAreTheirs clients trail said → SaidIsTheirs clients (joined_lists trail) (map joined_lists said)
theirs clients trail said are = record {
  counted = length-map said joined_lists ∙ are.counted;
  each = λ c below. get_or-map joined_lists said c [] [] (subst (λ n. c < n) (sym are.counted) below) ∙ are.each c below ∙ sym (of_client-joined c trail);
}
