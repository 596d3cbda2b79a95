-- What the clients left, one after the other.
use Rattle.std.proofs.Common.{◌≡◌, refl, sym, ◌∙◌, ap, subst, List, [], ◌∷◌, ◌++◌, reverse, length, arith}
use Rattle.std.specs.Prelude.{flat_map}
use Rattle.std.proofs.lemmas.List.{map-append, append_assoc, append-nil, reverse-reverse}
use Rattle.std.proofs.lemmas.Grind.{flat_map-append}
use Rattle.bp_trail.specs.declared.entries.Entry.{Entry}
use Rattle.bp_scripts.specs.declared.rows.Refused.{Refused}
use Rattle.bp_replay.specs.Players.{LeftValue, Collected}

-- what some clients left was added, and these are to come
pub record SoFar {P : Type 0} (all left : List (LeftValue P)) (said : List (List Entry)) (refused : List Refused) (ports : List P) : Type 0 where
  pub added : List (LeftValue P)
  pub joined : added ++ left ≡ all
  pub collected : Collected added said refused ports

pub none_yet : {P : Type 0} (all : List (LeftValue P)) (said : List (List Entry)) (refused : List Refused) (ports : List P) → said ≡ [] → refused ≡ [] → ports ≡ [] → SoFar all all said refused ports
none_yet all said refused ports none_said none_refused none_ports =
    record { added = []; joined = refl; collected = record { said_are = none_said; refused_are = none_refused; ports_are = none_ports } }

pub one_more : {P : Type 0} (all rest left : List (LeftValue P)) (l : LeftValue P) (said said_after : List (List Entry)) (refused refused_after : List Refused) (ports ports_after : List P)
    → SoFar all rest said refused ports → rest ≡ l ∷ left → said_after ≡ said ++ reverse l.said ∷ [] → refused_after ≡ refused ++ l.refused → ports_after ≡ ports ++ l.port ∷ []
    → SoFar all left said_after refused_after ports_after
one_more all rest left l said said_after refused refused_after ports ports_after s next more_said more_refused more_ports =
    let c = s.collected in
    record {
      added = s.added ++ l ∷ [];
      joined = append_assoc s.added (l ∷ []) left ∙ ap (λ ls. s.added ++ ls) (sym next) ∙ s.joined;
      collected = record {
        said_are = more_said ∙ ap (λ ss. ss ++ reverse l.said ∷ []) c.said_are ∙ sym (map-append (λ k. reverse k.said) s.added (l ∷ []));
        refused_are = more_refused ∙ ap (λ rs. rs ++ l.refused) c.refused_are ∙ ap (λ rs. flat_map (λ k. k.refused) s.added ++ rs) (sym (append-nil l.refused)) ∙ sym (flat_map-append (λ k. k.refused) s.added (l ∷ []));
        ports_are = more_ports ∙ ap (λ ps. ps ++ l.port ∷ []) c.ports_are ∙ sym (map-append (λ k. k.port) s.added (l ∷ []));
      };
    }

pub all_added : {P : Type 0} (all rest : List (LeftValue P)) (said : List (List Entry)) (refused : List Refused) (ports : List P) → SoFar all rest said refused ports → length rest ≡ 0 → Collected all said refused ports
all_added all (l ∷ rest) said refused ports s none = absurd (omega (arith, none))
all_added all [] said refused ports s none = subst (λ ls. Collected ls said refused ports) (sym (append-nil s.added) ∙ s.joined) s.collected

-- two lists that are the same turned round
pub same_reversed : {X : Type 0} (xs ys past : List X) → reverse xs ≡ past → reverse ys ≡ past → xs ≡ ys
same_reversed xs ys past x_is y_is = sym (reverse-reverse xs) ∙ ap reverse (x_is ∙ sym y_is) ∙ reverse-reverse ys
