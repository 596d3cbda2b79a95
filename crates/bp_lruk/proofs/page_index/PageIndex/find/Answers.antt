use Rattle.std.proofs.Common.{◌∙◌, sym, ap, subst}
use Rattle.bp_references.specs.Candidates.{find_entry}
use Rattle.bp_lruk.specs.Index.{Listed, IsGapFor}
use Rattle.bp_lruk.proofs.PageLaws.{find_gap, stands, told_at}
use Rattle.bp_lruk.proofs.page_index.PageIndex.find.Goals as goal

pub returns-in-Ok : goal.returns-in-Ok
returns-in-Ok c =
    let there = stands c.self.inside.entries.items c.deref.result.now c.args.page c.in-Ok.at c.place.result c.deref.ensures.value c.in-Ok.is c.place.ensures.in_range c.place.ensures.here in
    sym (told_at c.self.inside.entries.items c.args.page c.in-Ok.at c.index.result.now c.self.invariant.0 there c.index.ensures)
    ∙ ap (λ (l : Listed). find_entry l.entries c.args.page) c.self.view_is

pub returns-in-Err : goal.returns-in-Err
returns-in-Err c =
    let gap = subst (λ xs. IsGapFor xs c.args.page c.in-Err.field-0) c.deref.ensures.value c.in-Err.ensures.gap in
    sym (find_gap c.self.inside.entries.items c.args.page c.in-Err.field-0 gap) ∙ ap (λ (l : Listed). find_entry l.entries c.args.page) c.self.view_is
