use Rattle.std.proofs.Common.{rules, ◌≡◌, ◌<◌, ◌==◌, ◌∙◌, sym, ap, subst, length, get_or, Some, IsSome}
use Rattle.std.specs.List.{remove, position}
use Rattle.std.proofs.lemmas.Bool.{eqb-true}
use Rattle.std.proofs.lemmas.List.Quantifiers.{position-Some}
use Rattle.bp_references.specs.Candidates.{entry_of, find_entry, NoPageTwice}
use Rattle.bp_references.proofs.EntryLaws.{position_found, find_removed, find_beside_removed, apart_removed}
use Rattle.bp_lruk.proofs.scan.Candidates.leave.Goals as goal

pub unwrap-at-requires : goal.unwrap-at-requires
unwrap-at-requires c = rw (c.place.ensures, c.deref.ensures.value) (position_found c.self.inside.entries.items c.args.page (subst (λ h. IsSome (entry_of h c.args.page)) (sym c.self.view_is) c.requires))

-- the page stands at the place that was found
found : (c : goal.After-remove) → position (λ e. e.2 == c.args.page) c.self.inside.entries.items ≡ Some c.unwrap-at.result
found c = ap (position (λ e. e.2 == c.args.page)) (sym c.deref.ensures.value) ∙ sym c.place.ensures ∙ c.unwrap-at.ensures

in_range : (c : goal.After-remove) → c.unwrap-at.result < length c.self.inside.entries.items
in_range c = (position-Some (λ e. e.2 == c.args.page) c.self.inside.entries.items c.unwrap-at.result c.remove.result (found c)).0

here : (c : goal.After-remove) → (get_or c.self.inside.entries.items c.unwrap-at.result c.remove.result).2 ≡ c.args.page
here c = eqb-true _ _ (position-Some (λ e. e.2 == c.args.page) c.self.inside.entries.items c.unwrap-at.result c.remove.result (found c)).1

apart : (c : goal.After-remove) → NoPageTwice c.remove.new.self.items
apart c = subst NoPageTwice (sym c.remove.ensures.items) (apart_removed c.remove.result c.self.inside.entries.items c.unwrap-at.result c.self.invariant.0 (in_range c))

pub invariant_of-self : goal.invariant_of-self
invariant_of-self c = (apart c, search rules, search rules)

pub returns-clause-left : goal.returns-clause-left
returns-clause-left c =
    ap (λ es. find_entry es c.args.page) c.remove.ensures.items
    ∙ ap (find_entry (remove c.self.inside.entries.items c.unwrap-at.result)) (sym (here c))
    ∙ find_removed c.remove.result c.self.inside.entries.items c.unwrap-at.result c.self.invariant.0 (in_range c)

pub returns-clause-others : goal.returns-clause-others
returns-clause-others c = λ q apart.
    ap (λ es. find_entry es q) c.remove.ensures.items
    ∙ find_beside_removed c.remove.result c.self.inside.entries.items c.unwrap-at.result q (in_range c) (λ is. apart (is ∙ here c))
    ∙ ap (λ h. entry_of h q) c.self.view_is

pub returns-clause-pages : goal.returns-clause-pages
returns-clause-pages c = apart c
