use Rattle.std.proofs.Common.{rules, ◌≡◌, ◌∙◌, sym, ap, subst, arith, get_or}
use Rattle.std.specs.List.{remove}
use Rattle.bp_references.specs.Candidates.{Candidate, Entered, entry_of, find_entry, is_before, NoPageTwice}
use Rattle.bp_lruk.specs.Index.{IsInOrder, AreAlike}
use Rattle.bp_references.proofs.EntryLaws.{find_removed, find_beside_removed, apart_removed}
use Rattle.bp_lruk.proofs.IndexLaws.{StandsAt, stands_at, alike_left}
use Rattle.bp_references.proofs.OrderLaws.{pairs_removed}
use Rattle.bp_lruk.proofs.candidates.Candidates.leave.Goals as goal

pub remove-requires : goal.remove-requires
remove-requires c =
    let there = stands_at c.self.inside.order.items c.deref.result.now c.self.inside.pages.entries (c.leave-hist_k.result.0, c.leave-hist_k.result.1, c.args.page) c.order_place-at.result c.deref.ensures.value c.self.invariant.0 c.self.invariant.2 c.order_place-at.ensures c.leave-hist_k.ensures.found in
    omega (arith, there.in_range, c.self.inside.order.ok)

abbrev gone : goal.After-remove → Candidate
gone c = (c.leave-hist_k.result.0, c.leave-hist_k.result.1, c.args.page)

module _ (c : goal.After-remove) where
  there : StandsAt c.self.inside.order.items (gone c) c.order_place-at.result
  there = stands_at c.self.inside.order.items c.deref.result.now c.self.inside.pages.entries (gone c) c.order_place-at.result c.deref.ensures.value c.self.invariant.0 c.self.invariant.2 c.order_place-at.ensures c.leave-hist_k.ensures.found

  page_is : (get_or c.self.inside.order.items c.order_place-at.result (gone c)).2 ≡ c.args.page
  page_is = ap (λ (e : Candidate). e.2) (there.here (gone c))

  apart : NoPageTwice c.remove.new.self.items
  apart = subst NoPageTwice (sym c.remove.ensures.items) (apart_removed (gone c) c.self.inside.order.items c.order_place-at.result c.self.invariant.1 there.in_range)

pub invariant_of-self : goal.invariant_of-self
invariant_of-self c =
    let in_order = subst IsInOrder (sym c.remove.ensures.items) (pairs_removed is_before c.self.inside.order.items c.order_place-at.result c.self.invariant.0) in
    let alike = alike_left c.self.inside.order.items c.self.inside.pages.entries c.leave-hist_k.new.self.entries (gone c) c.order_place-at.result c.self.invariant.2 c.self.invariant.1 (there c) c.leave-hist_k.ensures.left c.leave-hist_k.ensures.others c.leave-hist_k.ensures.count in
    let both = subst (λ es. AreAlike es c.leave-hist_k.new.self.entries) (sym c.remove.ensures.items) alike in
    (in_order, apart c, both, search rules, search rules, search rules)

pub returns-clause-left : goal.returns-clause-left
returns-clause-left c =
    ap (λ es. find_entry es c.args.page) c.remove.ensures.items
    ∙ ap (find_entry (remove c.self.inside.order.items c.order_place-at.result)) (sym (page_is c))
    ∙ find_removed (gone c) c.self.inside.order.items c.order_place-at.result c.self.invariant.1 (there c).in_range

pub returns-clause-others : goal.returns-clause-others
returns-clause-others c = λ q other.
    ap (λ es. find_entry es q) c.remove.ensures.items
    ∙ find_beside_removed (gone c) c.self.inside.order.items c.order_place-at.result q (there c).in_range (λ is. other (is ∙ page_is c))
    ∙ ap (λ (h : Entered). entry_of h q) c.self.view_is

pub returns-clause-pages : goal.returns-clause-pages
returns-clause-pages c = apart c
