-- Each kind of step keeps the rule of the mark, and what the rule says of the last word.
use Rattle.std.proofs.Common.{◌≡◌, ◌≢◌, ℕ, ◌≤◌, List, [], ◌∷◌, ◌++◌, set, max, Option, Some, None, IfSome, refl, sym, ap, ◌∙◌, subst, ⊎_elim, arith}
use Rattle.std.specs.Prelude.{slice_index}
use Rattle.std.specs.Option.{option_map}
use mathlib.Core.Option.{some, none, some-injective}
use lib.ListN.{get_elem?}
use Rattle.atomic_table.specs.Table.{Me, step, keeps, Allows, Splits, Joins, Final, Seen}
use Rattle.atomic_table.proofs.Lists.{at_set, at_snoc}
use Rattle.bp_mark.specs.declared.views.View.{View}
use Rattle.bp_mark.specs.Views.{reader, raised, looked, joined, Raises, Looks, Bounds}
use Rattle.bp_mark.specs.Rule.{Fits, AllFit, MarkRule}

-- One view changes to one that fits, and the others fit.
AllFit-set : (word : ℕ) (views : List View) (id : ℕ) (v : View) → ((seat : ℕ) (u : View) → seat ≢ id → get_elem? views seat ≡ some u → Fits word seat u) → Fits word id v → AllFit word (set views id v)
AllFit-set word views id v others mine seat u there =
    ⊎_elim
    (λ (same : (seat ≡ id) × (v ≡ u)). subst (λ (x : ℕ × View). Fits word x.0 x.1) (λ i. (sym same.0 i, same.1 i)) mine)
    (λ (other : (seat ≢ id) × (get_elem? views seat ≡ some u)). others seat u other.0 other.1)
    (at_set views id seat v u there)

-- A new seat's view fits, beside the others.
AllFit-snoc : (word : ℕ) (views : List View) (v : View) → AllFit word views → ((seat : ℕ) → Fits word seat v) → AllFit word (views ++ v ∷ [])
AllFit-snoc word views v others mine seat u there =
    ⊎_elim
    (λ (old : get_elem? views seat ≡ some u). others seat u old)
    (λ (new : v ≡ u). subst (Fits word seat) new (mine seat))
    (at_snoc views v u seat there)

-- A reader's view fits where it has seen no more than the word.
reader_fits : (word seat seen : ℕ) → seen ≤ word → Fits word seat (reader seen)
reader_fits word seat seen below = record { seen = below; frontier = tt }

-- A seat other than 0 has no frontier, so its view still fits a higher word.
higher_fits : (word higher seat : ℕ) (v : View) → seat ≢ 0 → word ≤ higher → Fits word seat v → Fits higher seat v
higher_fits word higher seat v apart above fits =
    record { seen = omega (arith, fits.seen); frontier = still v.frontier fits.frontier }
  where
    still : (frontier : Option ℕ) → IfSome frontier (λ f. (seat ≡ 0) × (f ≡ word)) → IfSome frontier (λ f. (seat ≡ 0) × (f ≡ higher))
    still (Some f) at_zero = absurd (apart at_zero.0)
    still None nothing = tt

-- Where a view has this frontier, its seat is seat 0, and the frontier is the word.
with_frontier : (word seat frontier : ℕ) (v : View) → v.frontier ≡ Some frontier → Fits word seat v → (seat ≡ 0) × (frontier ≡ word)
with_frontier word seat frontier v is fits = subst (λ f. IfSome f (λ n. (seat ≡ 0) × (n ≡ word))) is fits.frontier

-- The word and the frontier become the greater of themselves and the LSN.
pub raise_kept : (slots id lsn frontier : ℕ) (me : Me ℕ View) → me.0.frontier ≡ Some frontier → Allows MarkRule slots id me 0 (λ n. max n lsn) (Raises (step slots 0 lsn 0 none) me)
raise_kept slots id lsn frontier me is s rule homes there small =
    let word = rule.word in
    let mine = rule.views id me.0 there in
    let first = with_frontier word id frontier me.0 is mine in
    let others : (seat : ℕ) (u : View) → seat ≢ id → get_elem? s.views seat ≡ some u → Fits (max word lsn) seat u =
    λ seat u apart at_seat. higher_fits word (max word lsn) seat u (λ zero. apart (zero ∙ sym first.0)) (omega arith) (rule.views seat u at_seat) in
    let higher : Fits (max word lsn) id (raised lsn me.0) = record {
      seen = omega (arith, mine.seen);
      frontier = subst (λ f. IfSome (option_map (λ n. max n lsn) f) (λ n. (id ≡ 0) × (n ≡ max word lsn))) (sym is) (first.0, ap (λ (n : ℕ). max n lsn) first.1);
    } in (
      raised lsn me.0,
      keeps,
      tt,
      record {
        word = max word lsn;
        one_word = ap (λ words. set words 0 (max (slice_index words 0) lsn)) rule.one_word;
        views = AllFit-set (max word lsn) s.views id (raised lsn me.0) others higher;
      },
      refl,
    )

-- Nothing changes but what the seat has seen, which is the word.
pub look_kept : (slots id : ℕ) (me : Me ℕ View) → Allows MarkRule slots id me 0 (λ n. n) (Looks (step slots 0 0 0 none) me)
look_kept slots id me s rule homes there small =
    let found : slice_index s.words 0 ≡ rule.word = ap (λ words. slice_index words 0) rule.one_word in
    let mine = rule.views id me.0 there in (
      looked (slice_index s.words 0) me.0,
      keeps,
      tt,
      record {
        word = rule.word;
        one_word = ap (λ words. set words 0 (slice_index words 0)) rule.one_word;
        views = AllFit-set rule.word s.views id (looked (slice_index s.words 0) me.0) (λ seat u _ at_seat. rule.views seat u at_seat)
            (record { seen = omega (arith, found); frontier = mine.frontier });
      },
      (refl, omega (arith, found, mine.seen)),
    )

-- Nothing changes but that the seat forgets what it has seen, and its frontier is the word.
pub bound_kept : (slots id : ℕ) (me : Me ℕ View) → Allows MarkRule slots id me 0 (λ n. n) (Bounds (step slots 0 0 0 none) me)
bound_kept slots id me s rule homes there small =
    let found : slice_index s.words 0 ≡ rule.word = ap (λ words. slice_index words 0) rule.one_word in
    let mine = rule.views id me.0 there in
    let forgets : View = record { frontier = me.0.frontier; seen = 0 } in (
      forgets,
      keeps,
      tt,
      record {
        word = rule.word;
        one_word = ap (λ words. set words 0 (slice_index words 0)) rule.one_word;
        views = AllFit-set rule.word s.views id forgets (λ seat u _ at_seat. rule.views seat u at_seat) (record { seen = omega arith; frontier = mine.frontier });
      },
      (refl, omega (arith, found, mine.seen), is_found (slice_index s.words 0) rule.word me.0.frontier found mine.frontier),
    )
  where
    is_found : (at word : ℕ) (frontier : Option ℕ) → at ≡ word → IfSome frontier (λ f. (id ≡ 0) × (f ≡ word)) → IfSome frontier (λ f. f ≡ at)
    is_found at word (Some f) same is = is.1 ∙ sym same
    is_found at word None same is = tt

-- A new reader has seen no more than the seat that gives it.
pub split_kept : (id seen : ℕ) (v : View) → seen ≤ v.seen → Splits MarkRule id v v (reader seen)
split_kept id seen v below s rule there =
    let mine = rule.views id v there in
    let kept = AllFit-set rule.word s.views id v (λ seat u _ at_seat. rule.views seat u at_seat) mine in
    record {
      word = rule.word;
      one_word = rule.one_word;
      views = AllFit-snoc rule.word (set s.views id v) (reader seen) kept (λ seat. reader_fits rule.word seat seen (omega (arith, mine.seen)));
    }

-- A seat has seen the greater of what it and the other have, and the other is spent.
pub join_kept : (id other : ℕ) (v u : View) → Joins MarkRule id v other u (joined v u) (reader 0)
join_kept id other v u s rule there apart at_other =
    let word = rule.word in
    let mine = rule.views id v there in
    let theirs : Fits word other u = ⊎_elim
    (λ (same : (other ≡ id) × (joined v u ≡ u)). absurd (apart same.0))
    (λ (old : (other ≢ id) × (get_elem? s.views other ≡ some u)). rule.views other u old.1)
    (at_set s.views id other (joined v u) u at_other) in
    let both : Fits word id (joined v u) = record { seen = omega (arith, mine.seen, theirs.seen); frontier = mine.frontier } in
    let kept = AllFit-set word s.views id (joined v u) (λ seat x _ at_seat. rule.views seat x at_seat) both in
    record {
      word = word;
      one_word = rule.one_word;
      views = AllFit-set word (set s.views id (joined v u)) other (reader 0) (λ seat x _ at_seat. kept seat x at_seat) (reader_fits word other 0 (omega arith));
    }

-- At the end the seat's view fits the last word.
pub last_fits : (id last : ℕ) (v : View) (words homes : List ℕ) → Final (Seen MarkRule id v) words homes → get_elem? words 0 ≡ some last → Fits last id v
last_fits id last v words homes final at_zero =
    let rule = final.1.0 in
    let word : rule.word ≡ last = some-injective _ _ (ap (λ ws. get_elem? ws 0) (sym rule.one_word ∙ final.2) ∙ at_zero) in
    subst (λ w. Fits w id v) word (rule.views id v final.1.1)
