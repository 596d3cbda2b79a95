use Rattle.std.proofs.Common.{rules, ◌≡◌, ◌∙◌, ◌+◌, length, set, None, sym, ap, subst}
use Rattle.std.specs.List.{insert}
use Rattle.bp_references.specs.Candidates.{find_entry}
use Rattle.bp_lruk.specs.Index.{Listed, entered_in, IsByPage, IsGapFor}
use Rattle.bp_lruk.proofs.PageLaws.{entry, stands, Enters, entered_at, enters_anew, by_page_inserted}
use Rattle.bp_lruk.proofs.page_index.PageIndex.enter.Goals as goal

-- ---- a page that has an entry

again : (c : goal.After-self-1) → Enters (entered_in c.make_room.new.entries.items) (entered_in (set c.make_room.new.entries.items c.in-Ok.at (entry c.index_mut.result.now.page (c.args.hist_k, c.args.last)))) c.args.page (c.args.hist_k, c.args.last)
again c =
    let there = stands c.make_room.new.entries.items c.deref.result.now c.args.page c.in-Ok.at c.place.result c.deref.ensures.value c.in-Ok.is c.place.ensures.in_range c.place.ensures.here in
    let absent = ap (λ es. find_entry es c.args.page) c.make_room.ensures.same ∙ subst (λ (l : Listed). find_entry l.entries c.args.page ≡ None) (sym c.self.view_is) c.requires.apart in
    entered_at c.make_room.new.entries.items c.args.page c.in-Ok.at c.index_mut.result.now (c.args.hist_k, c.args.last) c.make_room.ensures.in_order there c.index_mut.ensures.value absent

pub returns-in-Ok-clause-entered : goal.returns-in-Ok-clause-entered
returns-in-Ok-clause-entered c = (again c).entered

pub returns-in-Ok-clause-others : goal.returns-in-Ok-clause-others
returns-in-Ok-clause-others c = λ q other. (again c).others q other ∙ ap (λ es. find_entry es q) c.make_room.ensures.same ∙ ap (λ (l : Listed). find_entry l.entries q) c.self.view_is

pub returns-in-Ok-clause-count : goal.returns-in-Ok-clause-count
returns-in-Ok-clause-count c = (again c).count ∙ ap (λ es. length es + 1) c.make_room.ensures.same ∙ ap (λ (l : Listed). length l.entries + 1) c.self.view_is

-- ---- a page that has none

gap : (c : goal.After-unwrap) → IsGapFor c.make_room.new.entries.items c.args.page c.in-Err.at
gap c = subst (λ xs. IsGapFor xs c.args.page c.in-Err.at) c.deref.ensures.value c.in-Err.ensures.gap

grown : (c : goal.After-unwrap) → c.insert.new.self.items ≡ insert c.make_room.new.entries.items c.in-Err.at (entry c.args.page (c.args.hist_k, c.args.last))
grown c = rw c.unwrap.ensures at c.insert.ensures.items

pub invariant_of-self-in-Err : goal.invariant_of-self-in-Err
invariant_of-self-in-Err c =
    let by_page = subst IsByPage (sym (grown c)) (by_page_inserted c.make_room.new.entries.items (entry c.args.page (c.args.hist_k, c.args.last)) c.in-Err.at c.make_room.ensures.in_order (gap c)) in
    let len = rw c.unwrap.ensures at c.insert.ensures.len in
    (by_page, search rules, search rules, search rules)

anew : (c : goal.After-unwrap) → Enters (entered_in c.make_room.new.entries.items) (entered_in c.insert.new.self.items) c.args.page (c.args.hist_k, c.args.last)
anew c =
    subst (λ es. Enters (entered_in c.make_room.new.entries.items) (entered_in es) c.args.page (c.args.hist_k, c.args.last)) (sym (grown c))
    (enters_anew c.make_room.new.entries.items c.make_room.ensures.in_order c.args.page c.in-Err.at (c.args.hist_k, c.args.last) (gap c))

pub returns-in-Err-clause-entered : goal.returns-in-Err-clause-entered
returns-in-Err-clause-entered c = (anew c).entered

pub returns-in-Err-clause-others : goal.returns-in-Err-clause-others
returns-in-Err-clause-others c = λ q other. (anew c).others q other ∙ ap (λ es. find_entry es q) c.make_room.ensures.same ∙ ap (λ (l : Listed). find_entry l.entries q) c.self.view_is

pub returns-in-Err-clause-count : goal.returns-in-Err-clause-count
returns-in-Err-clause-count c = (anew c).count ∙ ap (λ es. length es + 1) c.make_room.ensures.same ∙ ap (λ (l : Listed). length l.entries + 1) c.self.view_is
