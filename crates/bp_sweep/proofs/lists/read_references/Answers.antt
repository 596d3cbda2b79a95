-- One line after the other.
use Rattle.std.proofs.Common.{◌+◌, sym, subst, arith, Ok}
use Rattle.std.specs.Prelude.{IfSome}
use Rattle.bp_sweep.specs.Lines.{FindsLine, IsList}
use Rattle.bp_sweep.proofs.Lines.{reading-start, reading-next, reading-end, reading-fault, reading-few, fault-is}
use Rattle.bp_sweep.proofs.lists.read_references.Goals as goal

pub loop-line-init : goal.loop-line-init
loop-line-init g c = record { reading = reading-start (g.I.Read.remaining c.args.reader.now) c.new-gathered.result c.new-gathered.ensures; few = omega arith }

pub returns-in-None : goal.returns-in-None
returns-in-None g c =
    let found = subst (λ f. IfSome (g.I.Read.remaining c.loop-line.reader) (λ left. FindsLine left (Ok f))) c.in-None.is c.in_ok-next_line.ensures.found in
    subst (λ pages. IfSome (g.I.Read.remaining c.args.reader.now) (IsList (Ok pages))) (sym c.into_references.ensures)
    (reading-end (g.I.Read.remaining c.args.reader.now) (g.I.Read.remaining c.loop-line.reader) c.loop-line.line c.loop-line.gathered c.loop-line.invariant.reading found)

pub returns-in_err-add-in-Some : goal.returns-in_err-add-in-Some
returns-in_err-add-in-Some g c =
    let found = subst (λ f. IfSome (g.I.Read.remaining c.loop-line.reader) (λ left. FindsLine left (Ok f))) c.in-Some.is c.in_ok-next_line.ensures.found in
    let fault = c.in_err-add-in-Some.field-0.0 in
    subst (λ r. IfSome (g.I.Read.remaining c.args.reader.now) (IsList r)) (sym (fault-is c.from_residual-in_err-add-in-Some.result fault c.from_residual-in_err-add-in-Some.ensures.1))
    (reading-fault (g.I.Read.remaining c.args.reader.now) (g.I.Read.remaining c.loop-line.reader) c.loop-line.line c.in-Some.said c.loop-line.gathered c.add.new.self fault c.loop-line.invariant.reading found c.in_err-add-in-Some.ensures)

pub loop-line-preserved : goal.loop-line-preserved
loop-line-preserved g c =
    let found = subst (λ f. IfSome (g.I.Read.remaining c.loop-line.reader) (λ left. FindsLine left (Ok f))) c.in-Some.is c.in_ok-next_line.ensures.found in
    let after = reading-next (g.I.Read.remaining c.args.reader.now) (g.I.Read.remaining c.loop-line.reader) (g.I.Read.remaining c.next_line.new.reader) c.loop-line.line c.in-Some.said c.loop-line.gathered c.add.new.self
    c.loop-line.invariant.reading found c.in_ok-next_line.ensures.rest c.in_ok-add-in-Some.ensures in
    record { reading = after; few = reading-few (g.I.Read.remaining c.args.reader.now) (g.I.Read.remaining c.next_line.new.reader) (c.loop-line.line + 1) c.add.new.self after }
