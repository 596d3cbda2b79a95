-- How the entries of a script grow row by row, and how the passes go back.
use Rattle.std.proofs.Common.{◌≡◌, refl, sym, ◌∙◌, ap, subst, ◌<◌, List, [], ◌∷◌, ◌++◌, true, false, not, Bool, ◌==◌, ◌||◌, nat_le, Some, length}
use Rattle.std.specs.Prelude.{filter, reverse}
use Rattle.std.proofs.lemmas.Bool.{eqb-true, eq-eqb, and_parts}
use Rattle.std.proofs.lemmas.List.{append_assoc, reverse-append, reverse-reverse}
use Rattle.bp_scripts.specs.declared.rows.Row.{Row}
use Rattle.bp_scripts.specs.declared.rows.Refused.{Refused}
use Rattle.bp_trail.specs.declared.entries.Call.TheVariants.{Unfix}
use Rattle.bp_trail.specs.declared.entries.Reply.TheVariants.{Done}
use Rattle.bp_trail.specs.Lists.{some, every}
use Rattle.bp_trail.specs.Event.{Grant, same_grant}
use Rattle.bp_trail.specs.Trail.{Trail}
use Rattle.bp_trail.specs.Passes.{passes_out}
use Rattle.bp_trail.specs.Legal.{is_out}
use Rattle.bp_core.specs.CoreView.{CoreView, with_entry}
use Rattle.bp_trail.specs.HeldPasses.{unfix_of}
use Rattle.bp_trail.specs.Pieces.{Outcome}
use Rattle.bp_trail.specs.Pieces.Manner.{driver}
use Rattle.bp_scripts.specs.Script.{refused_row, FollowsBy, GivesBack, first_to_go_back}
use Rattle.bp_scripts.specs.Script.GivesBack.{none_held, next as gives_next}
use Rattle.bp_trail.proofs.Lists.{some-append, some-mono}
use Rattle.bp_trail.proofs.Counting.{reverse-push, filter-reverse}
use Rattle.bp_core.specs.Added.{with_piece}
use Rattle.bp_replay.specs.Rows.{AreHeld, EndsIn, DrivesRow, DrivesRows, GoingBack, GaveBack, AddsScript}
use Rattle.bp_replay.proofs.GivingBack.{fewer-without}
use Rattle.bp_replay.proofs.PieceSteps.{find-there, known-there}

unfoldable pub rows-none : (core : CoreView) → DrivesRows core [] [] [] core
rows-none core = record { said = []; ends = []; is = refl; are_held = refl; follows = (refl, refl) }

-- what a piece adds to a core that had one added
pub two-pieces : (old mid new : CoreView) (said piece : Trail) → mid ≡ with_piece old said → new ≡ with_piece mid piece → new ≡ with_piece old (piece ++ said)
two-pieces old mid new said piece first second = second ∙ ap (λ core. with_piece core piece) first ∙ ap (λ past. let v : CoreView = record old { past = past } in v) (sym (append_assoc piece said old.past))

unfoldable pub rows-step : (old mid new : CoreView) (rows : List Row) (row : Row) (outcome : Outcome) (refused refused_after : List Refused) (held held_after : List Grant) → DrivesRows old rows refused held mid
    → DrivesRow mid row.client row.step outcome held held_after new → reverse refused_after ≡ refused_row row.row outcome ++ reverse refused → DrivesRows old (rows ++ row ∷ []) refused_after held_after new
rows-step old mid new rows row outcome refused refused_after held held_after before adds noted = record {
  said = adds.piece ++ before.said;
  ends = length (adds.piece ++ before.said) ∷ before.ends;
  is = two-pieces old mid new before.said adds.piece before.is adds.is;
  are_held = adds.holds before.said before.are_held;
  follows = subst (λ rs. FollowsBy driver rs (length (adds.piece ++ before.said) ∷ before.ends) (adds.piece ++ before.said) (reverse refused_after)) (sym (reverse-push rows row)) (record {
    before = before.said;
    earlier = reverse refused;
    adds = record { piece = adds.piece; outcome = outcome; of_row = adds.of_row before.said before.are_held; grows = refl; refuses = noted };
    ends_here = refl;
    follows = before.follows;
  });
}

pub rows-end : (old now : CoreView) (rows : List Row) (refused : List Refused) (held : List Grant) → DrivesRows old rows refused held now → EndsIn now held
rows-end old now rows refused held h = record { said = h.said; start = old.past; joined = ap (λ v. v.past) h.is; are_held = h.are_held }

pub rows-parameters : (old now : CoreView) (rows : List Row) (refused : List Refused) (held : List Grant) → DrivesRows old rows refused held now → now.parameters ≡ old.parameters
rows-parameters old now rows refused held h = ap (λ v. v.parameters) h.is

pub going-none : (core : CoreView) (held : List Grant) → GoingBack core held held core
going-none core held = record { back = []; is = refl; are_held = λ said are. are; onwards = λ said are after gives. gives }

or-swap : (a b : Bool) → (a || (b || false)) ≡ (b || a)
or-swap true true = refl
or-swap true false = refl
or-swap false true = refl
or-swap false false = refl

some-reverse : (p : Grant → Bool) (gs : List Grant) → some p (reverse gs) ≡ some p gs
some-reverse p [] = refl
some-reverse p (g ∷ gs) = ap (some p) (reverse-append (g ∷ []) gs) ∙ some-append p (reverse gs) (g ∷ []) ∙ ap (λ b. b || (p g || false)) (some-reverse p gs) ∙ or-swap (some p gs) (p g)

pub going-ends : (old now : CoreView) (held left : List Grant) → EndsIn old held → GoingBack old held left now → EndsIn now left
going-ends old now held left ends going = record {
  said = going.back ++ ends.said;
  start = ends.start;
  joined = ap (λ v. v.past) going.is ∙ ap (λ past. going.back ++ past) ends.joined ∙ sym (append_assoc going.back ends.said ends.start);
  are_held = going.are_held ends.said ends.are_held;
}

pub going-known : (old now : CoreView) (held left : List Grant) (g : Grant) → EndsIn old held → GoingBack old held left now → first_to_go_back left ≡ Some g → is_out g (passes_out now.past) ≡ true
unfolding going-ends
going-known old now held left g ends going found = known-there now left left_there g (sym (some-reverse (same_grant g) (passes_out (going.back ++ ends.said))) ∙ subst (λ gs. is_out g gs ≡ true) left_there.are_held there)
  where
    there : is_out g left ≡ true
    there = (find-there (λ g. every (λ h. nat_le g.client h.client) left) g left found).is_there

    left_there : EndsIn now left
    left_there = going-ends old now held left ends going

-- some went back, and then some of those that were left
pub going-join : (old mid new : CoreView) (held left fewer : List Grant) → GoingBack old held left mid → GoingBack mid left fewer new → GoingBack old held fewer new
going-join old mid new held left fewer first second = record {
  back = second.back ++ first.back;
  is = two-pieces old mid new first.back second.back first.is second.is;
  are_held = λ said are. subst (AreHeld fewer) (sym (append_assoc second.back first.back said)) (second.are_held (first.back ++ said) (first.are_held said are));
  onwards = λ said are after gives. first.onwards said are after (second.onwards (first.back ++ said) (first.are_held said are) after (subst (λ past. GivesBack past after) (append_assoc second.back first.back said) gives));
}

pub going-next : (old mid new : CoreView) (held left fewer : List Grant) (g : Grant) → GoingBack old held left mid → first_to_go_back left ≡ Some g → new ≡ with_entry mid g.client (Unfix g.serial g.page) Done
    → fewer ≡ filter (λ h. not (h.serial == g.serial)) left → GoingBack old held fewer new
going-next old mid new held left fewer g going found is kept = record {
  back = unfix_of g ∷ going.back;
  is = is ∙ ap (λ core. with_entry core g.client (Unfix g.serial g.page) Done) going.is;
  are_held = λ said are. kept ∙ ap (filter (λ h. not (h.serial == g.serial))) (going.are_held said are) ∙ sym (filter-reverse (λ h. not (h.serial == g.serial)) (passes_out (going.back ++ said)));
  onwards = λ said are after gives. going.onwards said are after (gives_next g (ap first_to_go_back (sym (going.are_held said are)) ∙ found) gives);
}

pub going-done : (old now : CoreView) (held left : List Grant) → GoingBack old held left now → left ≡ [] → GaveBack old held now
going-done old now held left going none = record {
  back = going.back;
  is = going.is;
  gives_back = λ said are. going.onwards said are (going.back ++ said) (none_held (sym (reverse-reverse (passes_out (going.back ++ said))) ∙ ap reverse (sym (going.are_held said are) ∙ none)));
}

pub script-done : (old mid new : CoreView) (rows : List Row) (refused : List Refused) (held : List Grant) → DrivesRows old rows refused held mid → GaveBack mid held new → AddsScript old rows refused new
script-done old mid new rows refused held h gave = record {
  said = gave.back ++ h.said;
  is = two-pieces old mid new h.said gave.back h.is gave.is;
  follows = record { by_rows = h.said; ends = h.ends; pieces = h.follows; gives_back = gave.gives_back h.said h.are_held };
}

-- each pass that goes back leaves fewer held
pub going-fewer : (left fewer : List Grant) (g : Grant) → first_to_go_back left ≡ Some g → fewer ≡ filter (λ h. not (h.serial == g.serial)) left → length fewer < length left
going-fewer left fewer g found kept = subst (λ gs. length gs < length left) (sym kept) (fewer-without g.serial left (some-mono (same_grant g) (λ h. h.serial == g.serial) left same there))
  where
    there : is_out g left ≡ true
    there = (find-there (λ g. every (λ h. nat_le g.client h.client) left) g left found).is_there

    same : (h : Grant) → same_grant g h ≡ true → (h.serial == g.serial) ≡ true
    same h is = eq-eqb h.serial g.serial (sym (eqb-true g.serial h.serial (and_parts (g.page == h.page) _ (and_parts (g.client == h.client) _ is).1).1))
