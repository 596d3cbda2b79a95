-- What was opened is what the word names.
use Rattle.std.proofs.Common.{◌∙◌, ap, Err}
use Rattle.std.proofs.lemmas.Result.{err_from_is_err_and}
use Rattle.bp_ports.specs.Ports.{has_headers}
use Rattle.bp_run.proofs.Naming.{fault_at_path, fault_in_memory, named_at_path, named_in_memory}
use Rattle.bp_run.proofs.page_files.PageFilesPorts.open.Goals as goal

pub returns-in_ok-open_memory-in-Some-clause-named : goal.returns-in_ok-open_memory-in-Some-clause-named
returns-in_ok-open_memory-in-Some-clause-named g c =
    named_in_memory c.args.word.now c.args.size c.args.format c.in_ok-open_memory-in-Some.field-0.geometry c.in-Some.pages c.in-Some.ensures c.in_ok-open_memory-in-Some.ensures.pages c.in_ok-open_memory-in-Some.ensures.size

pub returns-in_err-open_memory-in-Some-clause-refused : goal.returns-in_err-open_memory-in-Some-clause-refused
returns-in_err-open_memory-in-Some-clause-refused g c =
    let is = err_from_is_err_and c.from_residual.result c.from_residual.ensures.1 in
    rw (is.1 ∙ ap Err is.2) (fault_in_memory c.args.word.now c.args.size c.in-Some.pages c.in_err-open_memory-in-Some.field-0.0 c.in-Some.ensures c.in_err-open_memory-in-Some.ensures.refused)

pub returns-in_ok-open_path-in-None-clause-named : goal.returns-in_ok-open_path-in-None-clause-named
returns-in_ok-open_path-in-None-clause-named g c =
    let file = c.in_ok-open_path-in-None.field-0 in
    named_at_path c.args.word.now c.args.size c.args.format file.first.device file.first.headed c.in-None.ensures c.in_ok-open_path-in-None.ensures.size (file.headed ∙ ap has_headers c.in_ok-open_path-in-None.ensures.format)

pub returns-in_err-open_path-in-None-clause-refused : goal.returns-in_err-open_path-in-None-clause-refused
returns-in_err-open_path-in-None-clause-refused g c =
    let is = err_from_is_err_and c.from_residual-in_err-open_path-in-None.result c.from_residual-in_err-open_path-in-None.ensures.1 in
    rw (is.1 ∙ ap Err is.2) (fault_at_path c.args.word.now c.args.size c.in_err-open_path-in-None.field-0.0 c.in-None.ensures c.in_err-open_path-in-None.ensures.refused)
