use Rattle.std.proofs.Common.{rules, ◌≡◌, ◌<◌, ◌∙◌, sym, ap, subst, length, None}
use Rattle.std.specs.List.{insert}
use Rattle.bp_references.specs.Candidates.{Candidate, Entered, entry_of, find_entry, NoPageTwice}
use Rattle.bp_lruk.specs.Index.{IsInOrder, IsPlaceFor, AreAlike}
use Rattle.bp_references.proofs.EntryLaws.{find_inserted, find_beside_inserted, apart_inserted}
use Rattle.bp_lruk.proofs.IndexLaws.{in_order_inserted, alike_entered}
use Rattle.bp_lruk.proofs.candidates.Candidates.enter.Goals as goal

abbrev added : goal.After-enter → Candidate
added c = (c.args.hist_k, c.args.last, c.args.page)

module _ (c : goal.After-enter) where
  absent : find_entry c.self.inside.order.items c.args.page ≡ None
  absent = subst (λ (h : Entered). entry_of h c.args.page ≡ None) (sym c.self.view_is) c.requires.apart

  place : IsPlaceFor c.self.inside.order.items (added c) c.order_place-at.result
  place = subst (λ es. IsPlaceFor es (added c) c.order_place-at.result) c.deref.ensures.value c.order_place-at.ensures

  grown : c.insert.new.self.items ≡ insert c.self.inside.order.items c.order_place-at.result (added c)
  grown = rw c.unwrap.ensures at c.insert.ensures.items

  apart : NoPageTwice c.insert.new.self.items
  apart = subst NoPageTwice (sym grown) (apart_inserted (added c) c.self.inside.order.items c.order_place-at.result c.self.invariant.1 absent)

pub invariant_of-self : goal.invariant_of-self
invariant_of-self c =
    let in_order = subst IsInOrder (sym (grown c)) (in_order_inserted c.self.inside.order.items c.self.invariant.0 c.self.invariant.1 (added c) c.order_place-at.result (place c) (absent c)) in
    let alike = alike_entered c.self.inside.order.items c.self.inside.pages.entries c.enter.new.self.entries (added c) c.order_place-at.result c.self.invariant.2 (absent c) (place c).in_range c.enter.ensures.entered c.enter.ensures.others c.enter.ensures.count in
    let both = subst (λ es. AreAlike es c.enter.new.self.entries) (sym (grown c)) alike in
    let room = subst (λ (h : Entered). length h.entries < h.frames) (sym c.self.view_is) c.requires.room in
    let len = rw c.unwrap.ensures at c.insert.ensures.len in
    (in_order, apart c, both, search rules, search rules, search rules)

pub returns-clause-entered : goal.returns-clause-entered
returns-clause-entered c = ap (λ es. find_entry es c.args.page) (grown c) ∙ find_inserted (added c) c.self.inside.order.items c.order_place-at.result (absent c)

pub returns-clause-others : goal.returns-clause-others
returns-clause-others c = λ q other.
    ap (λ es. find_entry es q) (grown c) ∙ find_beside_inserted (added c) c.self.inside.order.items c.order_place-at.result q other ∙ ap (λ (h : Entered). entry_of h q) c.self.view_is

pub returns-clause-pages : goal.returns-clause-pages
returns-clause-pages c = apart c
