-- A line that was read whole, and what it says.
use Rattle.std.proofs.Common.{◌∙◌, ap, ok_or, rules}
use Rattle.std.specs.Io.BufRead.{strip_last}
use Rattle.bp_trace.specs.declared.faults.InputFault.TheVariants.{BadNumber}
use Rattle.bp_trace.specs.Numbers.{number_in}
use Rattle.bp_sweep.proofs.Lines.{line-found}
use Rattle.bp_sweep.proofs.lists.next_line.Goals as goal

pub returns-in-Ok-clause-found : goal.returns-in-Ok-clause-found
returns-in-Ok-clause-found g c =
    line-found (g.I.Read.remaining c.args.reader.now) c.read_until.new.buf.items c.ok_or.result (search rules) (search rules)
    (c.ok_or.ensures.value ∙ ap (λ n. ok_or n BadNumber) (c.parse_number-number.ensures ∙ ap number_in (c.without_last-in-Ok.ensures ∙ ap (strip_last 13) (c.without_last.ensures ∙ ap (strip_last 10) c.deref.ensures.value))))
