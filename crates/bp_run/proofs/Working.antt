-- The report of a run in the order of the trace, whose device work the port did.
use Rattle.std.proofs.Common.{◌≡◌, ◌∙◌, sym, ap, subst, ℕ, ◌==◌, Bool, List, [], ◌++◌, length, reverse, Option}
use Rattle.std.proofs.lemmas.List.{append-nil, reverse-reverse}
use Rattle.std.specs.Io.KnownBytes.{Appends}
use Rattle.bp_scripts.specs.declared.rows.Row.{Row}
use Rattle.bp_scripts.specs.declared.rows.Refused.{Refused}
use Rattle.bp_trail.specs.Legal.{Legal}
use Rattle.bp_trail.specs.Pieces.Manner.{driver}
use Rattle.bp_scripts.specs.Script.{Follows}
use Rattle.bp_trail.specs.Trail.{Trail}
use Rattle.bp_core.specs.CoreView.{CoreView}
use Rattle.bp_core.specs.Added.{with_piece}
use Rattle.bp_replay.specs.Rows.{AddsScript, ScriptCaused}
use Rattle.bp_core.specs.Work.{DoesWork, Reads, Writes, WorksThrough}
use Rattle.bp_trace.specs.Report.{rows_text}
use Rattle.bp_run.specs.Run.{Reports, report_of, new_core}

-- what was added to a new core is all that it has
all_added : (old new : CoreView) (piece : Trail) → old.past ≡ [] → new ≡ with_piece old piece → new.past ≡ piece
all_added old new piece empty is = ap (λ (c : CoreView). c.past) is ∙ ap (λ (p : Trail). piece ++ p) empty ∙ append-nil piece

pub reported : {P : Type 0} (reads : Reads P) (writes : Writes P) (totals : Bool) (old new : CoreView) (port after : P) (rows : List Row) (refused : List Refused) (ok : Bool) (out written : Option (List ℕ))
    → old.before ≡ [] → old.past ≡ [] → AddsScript old rows refused new → ScriptCaused old rows refused new → DoesWork reads writes old port new after → Legal new.parameters new.past
    → ok ≡ (length refused == 0) → Appends out written (report_of totals (reverse new.past) ++ rows_text refused) → Reports reads writes totals old.parameters port rows ok out written
reported reads writes totals old new port after rows refused ok out written none empty adds caused works legal accepted prints =
    let fresh : old ≡ new_core old.parameters = λ i. record { parameters = old.parameters; before = none i; past = empty i } in
    let past : reverse (reverse new.past) ≡ new.past = reverse-reverse new.past in
    let said : reverse (reverse new.past) ≡ adds.said = past ∙ all_added old new adds.said empty adds.is in
    let done : reverse (reverse new.past) ≡ works.piece = past ∙ all_added old new works.piece empty works.is in
    record {
      trail = reverse new.past;
      refused = refused;
      legal = subst (λ c. Legal c (reverse (reverse new.past))) (ap (λ (c : CoreView). c.parameters) adds.is) (subst (λ p. Legal new.parameters p) (sym past) legal);
      follows = subst (λ p. Follows driver rows p refused) (sym said) adds.follows;
      caused = subst (λ o. ScriptCaused o rows refused (with_piece o (reverse (reverse new.past)))) fresh (subst (λ n. ScriptCaused old rows refused n) (adds.is ∙ ap (with_piece old) (sym said)) caused);
      after = after;
      work = subst (λ p. WorksThrough reads writes [] p port after) (sym done) (subst (λ p. WorksThrough reads writes p works.piece port after) empty works.through);
      accepted = accepted;
      written = prints;
    }
