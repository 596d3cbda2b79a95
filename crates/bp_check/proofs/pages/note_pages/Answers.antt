use Rattle.std.proofs.Common.{◌≡◌, ◌≢◌, Some, None, rules, sym, ◌∙◌}
use Rattle.bp_check.proofs.PageSteps.{noted-one, noted-two}
use Rattle.bp_check.proofs.pages.note_pages.Goals as goal

pub returns-in_ok-note_page-in-Some-clause-each : goal.returns-in_ok-note_page-in-Some-clause-each
returns-in_ok-note_page-in-Some-clause-each c =
    let apart : c.in-Some.written_out ≢ c.page_of-page.result = search rules in
    noted-two c.args.e.now c.page_of-page.result c.args.pages.now c.note_page.new.pages c.page_of-page.ensures c.in_ok-note_page.ensures.own c.in_ok-note_page.ensures.others
    c.in-Some.written_out c.note_page-then-ne.new.pages (sym c.begun.ensures ∙ c.in-Some.is) apart c.in_ok-note_page-in-Some.ensures.own c.in_ok-note_page-in-Some.ensures.others

pub returns-in-None-clause-each : goal.returns-in-None-clause-each
returns-in-None-clause-each c =
    noted-one c.args.e.now c.page_of-page.result c.args.pages.now c.note_page.new.pages c.page_of-page.ensures c.in_ok-note_page.ensures.own c.in_ok-note_page.ensures.others
    (λ v b. let no : None ≡ Some v = sym c.in-None.is ∙ c.begun.ensures ∙ b in cc)
