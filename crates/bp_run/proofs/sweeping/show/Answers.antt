-- The lines that were counted are shown.
use Rattle.std.proofs.Common.{◌≡◌, subst, ℕ, Bool, List, Option, Result, Ok, Err}
use Rattle.std.specs.Prelude.{OnOk}
use Rattle.std.specs.Io.KnownBytes.{Appends}
use Rattle.clap.specs.Words.{Text}
use Rattle.bp_charts.specs.declared.table.Line.{Line}
use Rattle.bp_charts.specs.Table.{table_text}
use Rattle.bp_sweep.specs.Dense.{Pages}
use Rattle.bp_sweep.specs.Sweeping.{AreCells}
use Rattle.bp_cli.specs.Asked.{Sweep, sweep_of}
use Rattle.bp_run.specs.Drawing.{IsDrawn}
use Rattle.bp_run.specs.Sweep.{Shows, plans_given}
use Rattle.bp_run.proofs.sweeping.show.Goals as goal

-- lines that were lent, written and drawn
shown : {A B : Type 0} (saves : Text → List ℕ → Bool → Type 0) (s : Sweep) (references : Pages) (lines lent : List Line) (old new : Option (List ℕ)) (result : Result A B)
    → lent ≡ lines → AreCells references (plans_given s) lines → OnOk result (Appends old new (table_text lent)) → OnOk result (IsDrawn saves s.svg s.ks lent) → OnOk result (Shows saves s references old new)
shown saves s references lines lent old new (Ok done) same cells written drawn = record {
  lines = lines;
  tabulates = record { cells = cells; written = subst (λ ls. Appends old new (table_text ls)) same written };
  drawn = subst (λ ls. IsDrawn saves s.svg s.ks ls) same drawn;
}
shown saves s references lines lent old new (Err ended) same cells written drawn = tt

pub returns-clause-shown : goal.returns-clause-shown
returns-clause-shown g c =
    shown g.O.Ports.ways.saves (sweep_of c.args.words.now) c.args.references.now c.in_ok-lines.lines.items c.deref.result.now (g.W.Write.contents c.args.out.now) (g.W.Write.contents c.write_lines.new.out) c.write_lines.result
    c.deref.ensures.value c.in_ok-lines.ensures.cells c.write_lines.ensures.written c.write_lines.ensures.drawn
