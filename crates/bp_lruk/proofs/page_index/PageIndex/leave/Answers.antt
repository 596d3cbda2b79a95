use Rattle.std.proofs.Common.{◌∙◌, length, set, None, IsSome, sym, ap, subst}
use Rattle.std.specs.Option.{is_some}
use Rattle.bp_references.specs.Candidates.{find_entry}
use Rattle.bp_lruk.specs.Index.{Listed, entered_in}
use Rattle.bp_lruk.proofs.PageLaws.{Stands, stands, has_place, told_at, Leaves, left_from}
use Rattle.bp_lruk.proofs.page_index.PageIndex.leave.Goals as goal

pub unwrap-at-requires : goal.unwrap-at-requires
unwrap-at-requires c =
    has_place c.self.inside.entries.items c.deref.result.now c.args.page c.place.result c.deref.ensures.value c.place.ensures.gap
    (subst (λ (l : Listed). IsSome (find_entry l.entries c.args.page)) (sym c.self.view_is) c.requires)

pub unwrap-entered-requires : goal.unwrap-entered-requires
unwrap-entered-requires c =
    let there = stands c.self.inside.entries.items c.deref.result.now c.args.page c.unwrap-at.result c.place.result c.deref.ensures.value c.unwrap-at.ensures c.place.ensures.in_range c.place.ensures.here in
    let told = told_at c.self.inside.entries.items c.args.page c.unwrap-at.result c.index.result.now c.self.invariant.0 there c.index.ensures in
    ap is_some (sym told) ∙ subst (λ (l : Listed). IsSome (find_entry l.entries c.args.page)) (sym c.self.view_is) c.requires

there : (c : goal.After-self-1) → Stands c.self.inside.entries.items c.args.page c.unwrap-at.result
there c = stands c.self.inside.entries.items c.deref.result.now c.args.page c.unwrap-at.result c.place.result c.deref.ensures.value c.unwrap-at.ensures c.place.ensures.in_range c.place.ensures.here

leaves : (c : goal.After-self-1) → Leaves (entered_in c.self.inside.entries.items) (entered_in (set c.self.inside.entries.items c.unwrap-at.result (record { page = c.index_mut.result.now.page; entered = None }))) c.args.page
leaves c = left_from c.self.inside.entries.items c.args.page c.unwrap-at.result c.index.result.now c.index_mut.result.now c.unwrap-entered.result c.self.invariant.0 (there c) c.index.ensures c.index_mut.ensures.value c.unwrap-entered.ensures

pub returns-clause-found : goal.returns-clause-found
returns-clause-found c =
    ap (λ (l : Listed). find_entry l.entries c.args.page) (sym c.self.view_is)
    ∙ told_at c.self.inside.entries.items c.args.page c.unwrap-at.result c.index.result.now c.self.invariant.0 (there c) c.index.ensures
    ∙ c.unwrap-entered.ensures

pub returns-clause-left : goal.returns-clause-left
returns-clause-left c = (leaves c).left

pub returns-clause-others : goal.returns-clause-others
returns-clause-others c = λ q other. (leaves c).others q other ∙ ap (λ (l : Listed). find_entry l.entries q) c.self.view_is

pub returns-clause-count : goal.returns-clause-count
returns-clause-count c = (leaves c).count ∙ ap (λ (l : Listed). length l.entries) c.self.view_is
