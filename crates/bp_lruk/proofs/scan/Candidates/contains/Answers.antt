use Rattle.std.proofs.Common.{◌==◌, ◌∙◌, ap}
use Rattle.std.specs.List.{list_any}
use Rattle.bp_references.specs.Candidates.{Entered, is_entered}
use Rattle.bp_references.proofs.EntryLaws.{any_found}
use Rattle.bp_lruk.proofs.scan.Candidates.contains.Goals as goal

pub returns : goal.returns
returns c =
    c.has_entry.ensures
    ∙ ap (list_any (λ e. e.2 == c.args.page)) c.deref.ensures.value
    ∙ any_found c.self.inside.entries.items c.args.page
    ∙ ap (λ (h : Entered). is_entered h c.args.page) c.self.view_is
