use Rattle.std.proofs.Common.{rules, IfOk, IfErr, get_or, ◌≡◌, subst}
use Rattle.std.specs.List.Sorted.{IsBinarySearchResult}
use Rattle.std.specs.Ordering.{nat_cmp}
use Rattle.std.proofs.lemmas.List.Sorted.{answers_always}
use Rattle.bp_lruk.specs.declared.page_index.PageEntry.{PageEntry}
use Rattle.bp_lruk.specs.Index.{IsGapFor}
use Rattle.bp_lruk.proofs.PageLaws.{searched}
use Rattle.bp_lruk.proofs.page_index.place.Goals as goal

-- the closure gives an entry's page number
found : (c : goal.After-binary_search_by_key) → record { here : IfOk c.binary_search_by_key.result (λ at. (d : PageEntry) → (get_or c.args.entries.now at d).page ≡ c.args.page); gap : IfErr c.binary_search_by_key.result (IsGapFor c.args.entries.now c.args.page) }
found c =
    let facts = c.binary_search_by_key.ensures in
    let by_page = facts.position (λ e. e.page) (answers_always _ _ _ (λ f a r g called. search rules)) in
    searched c.args.entries.now c.requires c.args.page _ facts.bound (subst (λ n. IsBinarySearchResult (λ e. nat_cmp e.page n) c.args.entries.now c.binary_search_by_key.result) c.number.ensures by_page)

pub returns-clause-here : goal.returns-clause-here
returns-clause-here c = (found c).here

pub returns-clause-gap : goal.returns-clause-gap
returns-clause-gap c = (found c).gap
