use Rattle.std.proofs.Common.{ap, arith}
use Rattle.bp_trail.specs.Event as event
use Rattle.bp_check.specs.Setups.{parameters_of}
use Rattle.bp_check.proofs.Noted.{noted-hit, noted-purge}
use Rattle.bp_check.proofs.judge.next.note_references.Goals as goal

pub refer_at-requires : goal.refer_at-requires
refer_at-requires c =
    omega (arith, c.page_of-page.ensures, c.requires.in_file (event.grant c.args.e.now.client (event.page_of c.args.e.now.call) c.in-Hit.field-0) (ap (event.pass_given c.args.e.now.client (event.page_of c.args.e.now.call)) c.in-Hit.is))

pub refer_at-requires-in-Fixed : goal.refer_at-requires-in-Fixed
refer_at-requires-in-Fixed c =
    omega (arith, c.page_of-page.ensures, c.requires.in_file (event.grant c.args.e.now.client (event.page_of c.args.e.now.call) c.in-Fixed.field-0) (ap (event.pass_given c.args.e.now.client (event.page_of c.args.e.now.call)) c.in-Fixed.is))

pub returns-in-Forgot-clause-noted : goal.returns-in-Forgot-clause-noted
returns-in-Forgot-clause-noted c past = noted-purge (parameters_of c.args.setup.now 0) past c.args.e.now c.args.clock c.args.residents.now c.args.reads_out.now c.args.spans.now c.forget.new.table c.in-Forgot.field-0 c.in-Forgot.is c.forget.ensures.each

pub returns-in_ok-refer_at-in-Hit-clause-noted : goal.returns-in_ok-refer_at-in-Hit-clause-noted
returns-in_ok-refer_at-in-Hit-clause-noted c past =
    noted-hit (parameters_of c.args.setup.now 0) past c.args.e.now c.args.clock c.args.residents.now c.args.reads_out.now c.args.spans.now c.refer_at.new.table c.in-Hit.field-0 c.page_of-page.result c.page_of-page.ensures c.in-Hit.is c.in_ok-refer_at-in-Hit.ensures.own c.in_ok-refer_at-in-Hit.ensures.others
