use Rattle.std.proofs.Common.{rules, ◌≡◌, ◌<◌, ◌∙◌, sym, ap, subst, length, None}
use Rattle.bp_references.specs.Candidates.{Candidate, entry_of, find_entry, NoPageTwice}
use Rattle.bp_references.proofs.EntryLaws.{find_pushed, find_beside_pushed, apart_pushed}
use Rattle.bp_lruk.proofs.scan.Candidates.enter.Goals as goal

absent : (c : goal.After-push_reserved) → find_entry c.self.inside.entries.items c.args.page ≡ None
absent c = subst (λ h. entry_of h c.args.page ≡ None) (sym c.self.view_is) c.requires.apart

abbrev added : goal.After-push_reserved → Candidate
added c = (c.args.hist_k, c.args.last, c.args.page)

apart : (c : goal.After-push_reserved) → NoPageTwice c.push_reserved.new.self.items
apart c = subst NoPageTwice (sym c.push_reserved.ensures.items) (apart_pushed (added c) c.self.inside.entries.items c.self.invariant.0 (absent c))

pub invariant_of-self : goal.invariant_of-self
invariant_of-self c =
    let room = subst (λ h. length h.entries < h.frames) (sym c.self.view_is) c.requires.room in
    (apart c, search rules, search rules)

pub returns-clause-entered : goal.returns-clause-entered
returns-clause-entered c = ap (λ es. find_entry es c.args.page) c.push_reserved.ensures.items ∙ find_pushed (added c) c.self.inside.entries.items (absent c)

pub returns-clause-others : goal.returns-clause-others
returns-clause-others c = λ q other. ap (λ es. find_entry es q) c.push_reserved.ensures.items ∙ find_beside_pushed (added c) c.self.inside.entries.items q other ∙ ap (λ h. entry_of h q) c.self.view_is

pub returns-clause-pages : goal.returns-clause-pages
returns-clause-pages c = apart c
