-- The list in the order of page numbers, and the candidates in it.
use Rattle.std.proofs.Common.{◌≡◌, ◌≢◌, ◌⊎◌, ℕ, zero, suc, ◌+◌, ◌<◌, ◌≤◌, cond, List, [], ◌∷◌, length, filter, get_or, set, Option, Some, None, Result, Ok, Err, IsOk, IfOk, IfErr, IsSome, refl, sym, ap, ◌∙◌, subst, inl, inr, arith}
use Rattle.std.specs.Option.{is_some, option_map}
use Rattle.std.specs.List.{insert, remove, cons_option}
use Rattle.std.specs.List.Sorted.{IsSearchInRange, IsBinarySearchResult, IsNonDecreasingBy}
use Rattle.std.specs.Ordering.{nat_cmp, ordering_index}
use Rattle.std.proofs.lemmas.Bool.Decides.{nat_tests}
use Rattle.std.proofs.lemmas.Cmp.{ranked}
use Rattle.std.proofs.lemmas.Bool.{cases_lt, cases_order, lt-ltb, ltb-true, true≢false}
use Rattle.std.proofs.lemmas.Option.{none-some}
use Rattle.std.proofs.lemmas.List.Edits.{length-insert, length-remove}
use Rattle.bp_lruk.specs.declared.page_index.PageEntry.{PageEntry}
use Rattle.bp_references.specs.Candidates.{Candidate, find_entry, NoPageTwice}
use Rattle.bp_lruk.specs.Index.{has_lower_page, IsByPage, entered_in, IsGapFor}
use Rattle.bp_references.proofs.Lists.{IsIn, in_at, place_in}
use Rattle.bp_references.proofs.EntryLaws.{find_nowhere, in_found, find_inserted, find_beside_inserted, find_removed, find_beside_removed}
use Rattle.bp_references.proofs.OrderLaws.{Ordered, ordered_from_pairs, pairs_inserted}

-- ---- what is entered

cases : (o : Option (ℕ × ℕ)) → (o ≡ None) ⊎ ((told : ℕ × ℕ) × (o ≡ Some told))
cases None = inl refl
cases (Some told) = inr (told, refl)

-- an entry of a page that has left is no candidate, any other is one
skips : (e : PageEntry) (es : List PageEntry) → e.entered ≡ None → entered_in (e ∷ es) ≡ entered_in es
skips e es nothing = ap (λ (o : Option (ℕ × ℕ)). cons_option (option_map (λ p. (p.0, p.1, e.page)) o) (entered_in es)) nothing

takes : (e : PageEntry) (es : List PageEntry) (told : ℕ × ℕ) → e.entered ≡ Some told → entered_in (e ∷ es) ≡ (told.0, told.1, e.page) ∷ entered_in es
takes e es told tells = ap (λ (o : Option (ℕ × ℕ)). cons_option (option_map (λ p. (p.0, p.1, e.page)) o) (entered_in es)) tells

-- a candidate of the list is what an entry of its page has
from_entry : (es : List PageEntry) (x : Candidate) → IsIn x (entered_in es) → (e : PageEntry) × IsIn e es × (e.page ≡ x.2) × (e.entered ≡ Some (x.0, x.1))
from_entry [] x there = absurd there
from_entry (e ∷ es) x there = elim (cases e.entered) [
  | inl nothing ↦ (let later = from_entry es x (subst (IsIn x) (skips e es nothing) there) in (later.0, inr later.1, later.2, later.3))
  | inr tells ↦ elim (subst (IsIn x) (takes e es tells.0 tells.1) there) [
    | inl is ↦ (e, inl refl, ap (λ (y : Candidate). y.2) is, tells.1 ∙ ap (λ (y : Candidate). Some (y.0, y.1)) is)
    | inr rest ↦ (let later = from_entry es x rest in (later.0, inr later.1, later.2, later.3))
  ]
]

-- what an entry has is a candidate of the list
to_entry : (es : List PageEntry) (e : PageEntry) (told : ℕ × ℕ) → IsIn e es → e.entered ≡ Some told → IsIn {X = Candidate} (told.0, told.1, e.page) (entered_in es)
to_entry [] e told there tells = absurd there
to_entry (x ∷ es) e told (inl same) tells =
    let own : x.entered ≡ Some told = ap (λ (y : PageEntry). y.entered) same ∙ tells in
    subst (IsIn {X = Candidate} (told.0, told.1, e.page)) (sym (takes x es told own)) (inl (λ i. (told.0, told.1, (same i).page)))
to_entry (x ∷ es) e told (inr there) tells =
    let later = to_entry es e told there tells in
    elim (cases x.entered) [
      | inl nothing ↦ subst (IsIn {X = Candidate} (told.0, told.1, e.page)) (sym (skips x es nothing)) later
      | inr own ↦ subst (IsIn {X = Candidate} (told.0, told.1, e.page)) (sym (takes x es own.0 own.1)) (inr later)
    ]

-- a page without an entry that tells anything is not found
not_found : (es : List PageEntry) (page : ℕ) → ((e : PageEntry) → IsIn e es → e.page ≡ page → e.entered ≡ None) → find_entry (entered_in es) page ≡ None
not_found es page nothing = find_nowhere (entered_in es) page (λ x there is. let e = from_entry es x there in none-some (x.0, x.1) (sym (nothing e.0 e.1 (e.2 ∙ is)) ∙ e.3))

ordered_once : (es : List PageEntry) → Ordered has_lower_page es → NoPageTwice (entered_in es)
ordered_once [] ordered = tt
ordered_once (e ∷ es) ordered = elim (cases e.entered) [
  | inl nothing ↦ subst NoPageTwice (sym (skips e es nothing)) (ordered_once es ordered.1)
  | inr tells ↦ subst NoPageTwice (sym (takes e es tells.0 tells.1)) (above, ordered_once es ordered.1)
]
  where
    above : find_entry (entered_in es) e.page ≡ None
    above = find_nowhere (entered_in es) e.page (λ x there is. let own = from_entry es x there in let higher = ltb-true e.page own.0.page (ordered.0 own.0 own.1) in omega (arith, own.2))

pub once : (es : List PageEntry) → IsByPage es → NoPageTwice (entered_in es)
once es by_page = ordered_once es (ordered_from_pairs has_lower_page es by_page)

-- ---- what is found

pub find_gap : (es : List PageEntry) (page at : ℕ) → IsGapFor es page at → find_entry (entered_in es) page ≡ None
find_gap es page at gap = not_found es page (λ e there is. let own = place_in es e there in absurd (nowhere e is own.0 own.1 (own.2 e)))
  where
    nowhere : (e : PageEntry) → e.page ≡ page → (k : ℕ) → k < length es → get_or es k e ≡ e → ⊥
    nowhere e is k in_range here = elim (cases_lt k at) [
      | inl below ↦ omega (arith, gap.lower k e below, ap (λ (x : PageEntry). x.page) here)
      | inr above ↦ omega (arith, gap.higher k e above in_range, ap (λ (x : PageEntry). x.page) here)
    ]

-- the entry of a page at its place tells what is found
pub find_here : (es : List PageEntry) (page at : ℕ) (d : PageEntry) → IsByPage es → at < length es → (get_or es at d).page ≡ page → find_entry (entered_in es) page ≡ (get_or es at d).entered
find_here es page at d by_page in_range is = go (get_or es at d).entered refl
  where
    only : (x : PageEntry) → IsIn x es → x.page ≡ page → (get_or es at d).entered ≡ None → x.entered ≡ None
    only x there same nothing =
        let own = place_in es x there in
        elim (cases_order own.0 at) [
          | inl equal ↦ ap (λ (y : PageEntry). y.entered) (sym (own.2 d) ∙ ap (λ k. get_or es k d) equal) ∙ nothing
          | inr differ ↦ elim differ [
            | inl less ↦ (let lower = ltb-true _ _ (by_page own.0 at d less in_range) in absurd (omega (arith, ap (λ (y : PageEntry). y.page) (own.2 d))))
            | inr more ↦ (let lower = ltb-true _ _ (by_page at own.0 d more own.1) in absurd (omega (arith, ap (λ (y : PageEntry). y.page) (own.2 d))))
          ]
        ]

    go : (o : Option (ℕ × ℕ)) → (get_or es at d).entered ≡ o → find_entry (entered_in es) page ≡ o
    go None nothing = not_found es page (λ x there same. only x there same nothing)
    go (Some told) tells =
        let there = to_entry es (get_or es at d) told (in_at es at d in_range) tells in
        subst (λ q. find_entry (entered_in es) q ≡ Some told) is (in_found (entered_in es) (told.0, told.1, (get_or es at d).page) (once es by_page) there)

-- ---- edits

-- one more candidate, after those of some entries
record IsInsertion (es new : List Candidate) (x : Candidate) : Type 0 where
  at : ℕ
  in_range : at ≤ length es
  is : new ≡ insert es at x

-- the same before an entry that stays
insertion_after : (e : PageEntry) (es new : List PageEntry) (x : Candidate) → IsInsertion (entered_in es) (entered_in new) x → IsInsertion (entered_in (e ∷ es)) (entered_in (e ∷ new)) x
insertion_after e es new x later = elim (cases e.entered) [
  | inl nothing ↦ record {
    at = later.at;
    in_range = subst (λ cs. later.at ≤ length cs) (sym (skips e es nothing)) later.in_range;
    is = skips e new nothing ∙ later.is ∙ ap (λ cs. insert cs later.at x) (sym (skips e es nothing));
  }
  | inr tells ↦ record {
    at = suc later.at;
    in_range = subst (λ cs. suc later.at ≤ length cs) (sym (takes e es tells.0 tells.1)) (omega (arith, later.in_range));
    is = takes e new tells.0 tells.1 ∙ ap (λ cs. (tells.0.0, tells.0.1, e.page) ∷ cs) later.is ∙ ap (λ cs. insert cs (suc later.at) x) (sym (takes e es tells.0 tells.1));
  }
]

abbrev pub entry : ℕ → ℕ × ℕ → PageEntry
entry page told = record { page = page; entered = Some told }

-- a page that enters where it had left, or anew, is one more candidate
set_inserts : (es : List PageEntry) (at : ℕ) (d : PageEntry) (page : ℕ) (told : ℕ × ℕ) → at < length es → (get_or es at d).entered ≡ None → IsInsertion (entered_in es) (entered_in (set es at (entry page told))) (told.0, told.1, page)
set_inserts [] at d page told lt nothing = absurd (omega arith)
set_inserts (e ∷ es) zero d page told lt nothing = record { at = zero; in_range = omega arith; is = ap (λ cs. (told.0, told.1, page) ∷ cs) (sym (skips e es nothing)) }
set_inserts (e ∷ es) (suc at) d page told lt nothing = insertion_after e es (set es at (entry page told)) (told.0, told.1, page) (set_inserts es at d page told (omega arith) nothing)

insert_inserts : (es : List PageEntry) (at page : ℕ) (told : ℕ × ℕ) → IsInsertion (entered_in es) (entered_in (insert es at (entry page told))) (told.0, told.1, page)
insert_inserts es zero page told = record { at = zero; in_range = omega arith; is = refl }
insert_inserts [] (suc at) page told = record { at = zero; in_range = omega arith; is = refl }
insert_inserts (e ∷ es) (suc at) page told = insertion_after e es (insert es at (entry page told)) (told.0, told.1, page) (insert_inserts es at page told)

-- one candidate less
record IsRemoval (es new : List Candidate) (x : Candidate) : Type 0 where
  at : ℕ
  in_range : at < length es
  here : (d : Candidate) → get_or es at d ≡ x
  is : new ≡ remove es at

-- a page that leaves is one
set_removes : (es : List PageEntry) (at : ℕ) (d : PageEntry) (page : ℕ) (told : ℕ × ℕ) → at < length es → (get_or es at d).page ≡ page → (get_or es at d).entered ≡ Some told
    → IsRemoval (entered_in es) (entered_in (set es at (record { page = page; entered = None }))) (told.0, told.1, page)
set_removes [] at d page told lt is tells = absurd (omega arith)
set_removes (e ∷ es) zero d page told lt is tells =
    let has = takes e es told tells in
    record {
      at = zero;
      in_range = subst (λ cs. 0 < length cs) (sym has) (omega arith);
      here = λ x. subst (λ cs. get_or cs 0 x ≡ (told.0, told.1, page)) (sym has) (λ i. (told.0, told.1, is i));
      is = ap (λ cs. remove cs 0) (sym has);
    }
set_removes (e ∷ es) (suc at) d page told lt is tells =
    let later = set_removes es at d page told (omega arith) is tells in
    elim (cases e.entered) [
      | inl nothing ↦ (let has = skips e es nothing in record {
        at = later.at;
        in_range = subst (λ cs. later.at < length cs) (sym has) later.in_range;
        here = λ x. subst (λ cs. get_or cs later.at x ≡ (told.0, told.1, page)) (sym has) (later.here x);
        is = skips e (set es at (record { page = page; entered = None })) nothing ∙ later.is ∙ ap (λ cs. remove cs later.at) (sym has);
      })
      | inr own ↦ (let has = takes e es own.0 own.1 in record {
        at = suc later.at;
        in_range = subst (λ cs. suc later.at < length cs) (sym has) (omega (arith, later.in_range));
        here = λ x. subst (λ cs. get_or cs (suc later.at) x ≡ (told.0, told.1, page)) (sym has) (later.here x);
        is = takes e (set es at (record { page = page; entered = None })) own.0 own.1 ∙ ap (λ cs. (own.0.0, own.0.1, e.page) ∷ cs) later.is ∙ ap (λ cs. remove cs (suc later.at)) (sym has);
      })
    ]

-- what an edit leaves of what is found
pub record Enters (old new : List Candidate) (page : ℕ) (told : ℕ × ℕ) : Type 0 where
  pub entered : find_entry new page ≡ Some told
  pub others : (q : ℕ) → q ≢ page → find_entry new q ≡ find_entry old q
  pub count : length new ≡ length old + 1

enters : (es new : List Candidate) (page : ℕ) (told : ℕ × ℕ) → IsInsertion es new (told.0, told.1, page) → find_entry es page ≡ None → Enters es new page told
enters es new page told one absent = record {
  entered = ap (λ cs. find_entry cs page) one.is ∙ find_inserted (told.0, told.1, page) es one.at absent;
  others = λ q other. ap (λ cs. find_entry cs q) one.is ∙ find_beside_inserted (told.0, told.1, page) es one.at q other;
  count = ap length one.is ∙ length-insert es one.at (told.0, told.1, page) one.in_range;
}

pub record Leaves (old new : List Candidate) (page : ℕ) : Type 0 where
  pub left : find_entry new page ≡ None
  pub others : (q : ℕ) → q ≢ page → find_entry new q ≡ find_entry old q
  pub count : length new + 1 ≡ length old

leaves : (es new : List Candidate) (page : ℕ) (told : ℕ × ℕ) → IsRemoval es new (told.0, told.1, page) → NoPageTwice es → Leaves es new page
leaves es new page told one apart =
    let d : Candidate = (0, 0, 0) in
    let is : (get_or es one.at d).2 ≡ page = ap (λ (x : Candidate). x.2) (one.here d) in
    record {
      left = ap (λ cs. find_entry cs page) one.is ∙ ap (find_entry (remove es one.at)) (sym is) ∙ find_removed d es one.at apart one.in_range;
      others = λ q other. ap (λ cs. find_entry cs q) one.is ∙ find_beside_removed d es one.at q one.in_range (λ same. other (same ∙ is));
      count = ap (λ cs. length cs + 1) one.is ∙ length-remove es one.at one.in_range;
    }

module _ (es : List PageEntry) (by_page : IsByPage es) (page at : ℕ) where
  pub enters_again : (d : PageEntry) (told : ℕ × ℕ) → at < length es → ((d : PageEntry) → (get_or es at d).page ≡ page) → find_entry (entered_in es) page ≡ None → Enters (entered_in es) (entered_in (set es at (entry page told))) page told
  enters_again d told in_range here absent =
      let nothing = sym (find_here es page at d by_page in_range (here d)) ∙ absent in
      enters (entered_in es) _ page told (set_inserts es at d page told in_range nothing) absent

  pub enters_anew : (told : ℕ × ℕ) → IsGapFor es page at → Enters (entered_in es) (entered_in (insert es at (entry page told))) page told
  enters_anew told gap = enters (entered_in es) _ page told (insert_inserts es at page told) (find_gap es page at gap)

  pub leaves_place : (d : PageEntry) (told : ℕ × ℕ) → at < length es → (get_or es at d).page ≡ page → (get_or es at d).entered ≡ Some told → Leaves (entered_in es) (entered_in (set es at (record { page = page; entered = None }))) page
  leaves_place d told in_range here tells = leaves (entered_in es) _ page told (set_removes es at d page told in_range here tells) (once es by_page)

-- those that have left are no candidates
pub entered_filter : (es : List PageEntry) → entered_in (filter (λ e. is_some e.entered) es) ≡ entered_in es
entered_filter [] = refl
entered_filter (e ∷ es) = elim (cases e.entered) [
  | inl nothing ↦ ap (λ (o : Option (ℕ × ℕ)). entered_in (cond (is_some o) (e ∷ filter (λ e. is_some e.entered) es) (filter (λ e. is_some e.entered) es))) nothing ∙ entered_filter es ∙ sym (skips e es nothing)
  | inr tells ↦
      ap (λ (o : Option (ℕ × ℕ)). entered_in (cond (is_some o) (e ∷ filter (λ e. is_some e.entered) es) (filter (λ e. is_some e.entered) es))) tells.1
      ∙ takes e (filter (λ e. is_some e.entered) es) tells.0 tells.1
      ∙ ap (λ cs. (tells.0.0, tells.0.1, e.page) ∷ cs) (entered_filter es)
      ∙ sym (takes e es tells.0 tells.1)
]

pub length_filter : (es : List PageEntry) → length (filter (λ e. is_some e.entered) es) ≡ length (entered_in es)
length_filter [] = refl
length_filter (e ∷ es) = elim (cases e.entered) [
  | inl nothing ↦ ap (λ (o : Option (ℕ × ℕ)). length (cond (is_some o) (e ∷ filter (λ e. is_some e.entered) es) (filter (λ e. is_some e.entered) es))) nothing ∙ length_filter es ∙ ap length (sym (skips e es nothing))
  | inr tells ↦
      ap (λ (o : Option (ℕ × ℕ)). length (cond (is_some o) (e ∷ filter (λ e. is_some e.entered) es) (filter (λ e. is_some e.entered) es))) tells.1
      ∙ ap suc (length_filter es)
      ∙ ap length (sym (takes e es tells.0 tells.1))
]

-- a new entry in the gap for its page keeps the order
pub by_page_inserted : (es : List PageEntry) (e : PageEntry) (at : ℕ) → IsByPage es → IsGapFor es e.page at → IsByPage (insert es at e)
by_page_inserted es e at by_page gap = pairs_inserted has_lower_page es at e by_page (λ k d lt in_range. lt-ltb _ _ (gap.lower k d lt)) (λ k d le in_range. lt-ltb _ _ (gap.higher k d le in_range))

-- ---- where a page stands

module _ (es : List PageEntry) (by_page : IsByPage es) (page : ℕ) where
  -- the comparisons with the page rise along the list, as a binary search asks
  comparisons_rise : IsNonDecreasingBy (λ e. ordering_index (nat_cmp e.page page)) es
  comparisons_rise i j d le in_range = elim (cases_lt i j) [
    | inl less ↦ (let lower = ltb-true _ _ (by_page i j d less in_range) in grind (arith, nat_tests))
    | inr same ↦ (let is : i ≡ j = omega arith in rw is (omega arith))
  ]

  -- a binary search by page numbers ends at the page's entry, or at the gap for it
  pub searched : (r : Result ℕ ℕ) → IsSearchInRange r (length es) → IsBinarySearchResult (λ e. nat_cmp e.page page) es r
      → record { here : IfOk r (λ at. (d : PageEntry) → (get_or es at d).page ≡ page); gap : IfErr r (IsGapFor es page) }
  searched (Ok at) in_range equal = record { here = λ d. ranked _ page _ (sym (equal d)); gap = tt }
  searched (Err at) in_range parted = record {
    here = tt;
    gap = record {
      in_range = in_range;
      lower = λ k d lt. ranked _ page _ (sym ((parted comparisons_rise).0 k d (omega arith) lt));
      higher = λ k d le lt. ranked _ page _ (sym ((parted comparisons_rise).1 k d le lt));
    };
  }

-- ---- what a search told, of the list that was lent

-- the page's entry is at this place
pub record Stands (es : List PageEntry) (page at : ℕ) : Type 0 where
  pub in_range : at < length es
  pub here : (d : PageEntry) → (get_or es at d).page ≡ page

pub stands : (es lent : List PageEntry) (page at : ℕ) (r : Result ℕ ℕ) → lent ≡ es → r ≡ Ok at → IfOk r (λ at. at < length lent) → IfOk r (λ at. (d : PageEntry) → (get_or lent at d).page ≡ page) → Stands es page at
stands es lent page at r same is in_range here =
    let there : Stands lent page at = record { in_range = rw is at in_range; here = rw is at here } in
    subst (λ xs. Stands xs page at) same there

-- a page that is found has a place
pub has_place : (es lent : List PageEntry) (page : ℕ) (r : Result ℕ ℕ) → lent ≡ es → IfErr r (IsGapFor lent page) → IsSome (find_entry (entered_in es) page) → IsOk r
has_place es lent page (Ok at) same gap found = refl
has_place es lent page (Err at) same gap found = absurd (true≢false (sym found ∙ ap is_some (find_gap es page at (subst (λ xs. IsGapFor xs page at) same gap))))

-- the entry at its place tells what is found
pub told_at : (es : List PageEntry) (page at : ℕ) (e : PageEntry) → IsByPage es → Stands es page at → e ≡ get_or es at e → find_entry (entered_in es) page ≡ e.entered
told_at es page at e by_page there is = find_here es page at e by_page there.in_range (there.here e) ∙ ap (λ (x : PageEntry). x.entered) (sym is)

-- the page leaves from there
pub left_from : (es : List PageEntry) (page at : ℕ) (e x : PageEntry) (told : ℕ × ℕ) → IsByPage es → Stands es page at → e ≡ get_or es at e → x ≡ get_or es at x → e.entered ≡ Some told
    → Leaves (entered_in es) (entered_in (set es at (record { page = x.page; entered = None }))) page
left_from es page at e x told by_page there is also tells =
    subst (λ q. Leaves (entered_in es) (entered_in (set es at (record { page = q; entered = None }))) page) (sym (ap (λ (y : PageEntry). y.page) also ∙ there.here x))
    (leaves_place es by_page page at e told there.in_range (there.here e) (ap (λ (y : PageEntry). y.entered) (sym is) ∙ tells))

-- the page enters there again
pub entered_at : (es : List PageEntry) (page at : ℕ) (x : PageEntry) (told : ℕ × ℕ) → IsByPage es → Stands es page at → x ≡ get_or es at x → find_entry (entered_in es) page ≡ None
    → Enters (entered_in es) (entered_in (set es at (entry x.page told))) page told
entered_at es page at x told by_page there is absent =
    subst (λ q. Enters (entered_in es) (entered_in (set es at (entry q told))) page told) (sym (ap (λ (y : PageEntry). y.page) is ∙ there.here x))
    (enters_again es by_page page at x told there.in_range there.here absent)
