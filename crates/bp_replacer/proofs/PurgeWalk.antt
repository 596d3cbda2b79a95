-- A purge, page by page.
use Rattle.std.proofs.Common.{◌≡◌, ◌≢◌, ◌⊎◌, ℕ, zero, suc, ◌+◌, ◌-◌, ◌<◌, ◌≤◌, Bool, true, false, cond, ltb, ◌==◌, not, ◌&&◌, nat_lt, if◌then◌else◌, get_or, List, [], ◌∷◌, All, count_by, set, is_some, IsSomeAnd, Option, None, Some, unwrap_or, refl, sym, ap, ◌∙◌, subst, inl, inr, arith}
use Rattle.std.specs.List.Sorted.{IsPermutation}
use Rattle.std.proofs.lemmas.Bool.{cases_eq, cases_lt, lt-ltb, le-ltb, ne_eqb, false≢true, true≢false}
use Rattle.std.proofs.lemmas.Bool.Decides.{nat_tests}
use Rattle.std.proofs.lemmas.List.Elements.{All-contains}
use Rattle.std.proofs.lemmas.List.Sorted.{sum_by_pushed, sum_by_popped}
use Rattle.bp_replacer.specs.declared.histories.Block.{Block}
use Rattle.bp_replacer.specs.declared.histories.Histories.TheInside.{Inside}
use Rattle.bp_replacer.specs.contracts.histories.Histories.{the_view}
use Rattle.bp_replacer.specs.Histories.{Blocks, find_block, no_block, block_of, has_block, place_of, time_of, stamp_of, is_held, last_of, latest_of, is_outdated, forgets, HasStampsOf, SameAt}
use Rattle.bp_references.specs.Numbers.{count_below}
use Rattle.bp_replacer.specs.Queue.{Waiting}
use Rattle.bp_replacer.specs.Kept.{slot, blocks_in, IsSound, IsKept, IsQueued}
use Rattle.bp_replacer.proofs.KeptLaws.{number, Changes, some_number, not_found, others_stay, was_sound, before, after, others_after}
use Rattle.bp_replacer.proofs.HistoryLaws.{stamped_time, unstamped_time}
use Rattle.bp_replacer.proofs.BlockSteps.{IsBlank, sound_unstamped}
use Rattle.bp_replacer.proofs.PurgeLaws.{has_none, count_below_same, count_below_put, count_below_none, never_outdated, outdated_not_held}

-- the page is told of as before, and has its block where it was
pub record Stays (old new : Blocks) (page : ℕ) : Type 0 where
  pub some : has_block new page ≡ has_block old page
  pub place : place_of new page ≡ place_of old page
  pub held : (block_of new page).held ≡ (block_of old page).held
  pub last : (block_of new page).last ≡ (block_of old page).last
  pub stamps : (block_of new page).stamps ≡ (block_of old page).stamps

no_entry : (o : Option Block) → is_some o ≡ false → o ≡ None
no_entry None none = refl
no_entry (Some b) none = absurd (true≢false none)

pub without : (h : Blocks) (page : ℕ) → has_block h page ≡ false → find_block h.entries page ≡ None
without h page none = no_entry (find_block h.entries page) none

-- a page whose block goes was to be forgotten, or had nothing left to forget
abbrev pub Goes : Blocks → Blocks → ℕ → ℕ → Type 0
Goes old new t page = (has_block new page ≡ false) × ((forgets old t page ≡ true) ⊎ SameAt old new page)

-- so far each page stays as it was, or goes, and so many of the blocks are left, and so many had nothing to forget
pub record IsPurged (old new : Blocks) (t before left nothing : ℕ) : Type 0 where
  pub each : (page : ℕ) → Stays old new page ⊎ Goes old new t page
  pub counted : (bound : ℕ) → ((page : ℕ) → bound ≤ page → last_of old page ≡ 0) → count_below (forgets old t) bound + left + nothing ≡ before + count_below (forgets new t) bound
  pub fewer : left + nothing ≤ before

pub stays_itself : (h : Blocks) (page : ℕ) → Stays h h page
stays_itself h page = record { some = refl; place = refl; held = refl; last = refl; stamps = refl }

stays_after : (a b d : Blocks) (page : ℕ) → Stays a b page → Stays b d page → Stays a d page
stays_after a b d page f g = record { some = g.some ∙ f.some; place = g.place ∙ f.place; held = g.held ∙ f.held; last = g.last ∙ f.last; stamps = g.stamps ∙ f.stamps }

forgets_alike : (a b : Blocks) (t page : ℕ) → b.retained ≡ a.retained → Stays a b page → forgets b t page ≡ forgets a t page
forgets_alike a b t page retained same = rw (retained, same.held, same.last, same.stamps) refl

-- what is told of the page is so after it stays
same_after : (a b d : Blocks) (page : ℕ) → d.k ≡ b.k → SameAt a b page → Stays b d page → SameAt a d page
same_after a b d page k f g = record {
  held = g.held ∙ f.held;
  last = (λ i. if get_or (g.stamps i) 0 0 == 0 then 0 else g.last i) ∙ f.last;
  no_later = omega (arith, g.last, f.no_later);
  stamps = at_place;
}
  where
    at_place : (i : ℕ) → stamp_of d page i ≡ stamp_of a page i
    at_place zero = f.stamps zero
    at_place (suc n) = (rw (k, g.stamps) refl) ∙ f.stamps (suc n)

stays_same : (a b : Blocks) (page : ℕ) → b.k ≡ a.k → Stays a b page → SameAt a b page
stays_same a b page k s = same_after a a b page k (record { held = refl; last = refl; no_later = omega arith; stamps = λ i. refl }) s

forgets_none : (h : Blocks) (t page : ℕ) → has_block h page ≡ false → forgets h t page ≡ false
forgets_none h t page none = never_outdated h.retained t (block_of h page) (ap (λ o. time_of (unwrap_or o no_block)) (without h page none))

-- ---- steps

pub purged_start : (h : Blocks) (t n : ℕ) → IsPurged h h t n n 0
purged_start h t n = record { each = λ page. inl (stays_itself h page); counted = λ bound past. omega arith; fewer = omega arith }

module _ (old a b : Blocks) (t before left nothing : ℕ) (retained_old : a.retained ≡ old.retained) (retained : b.retained ≡ a.retained) (k_old : a.k ≡ old.k) (k_is : b.k ≡ a.k) where
  goes_on : (page : ℕ) → Goes old a t page → Stays a b page → Goes old b t page
  goes_on page gone same = (same.some ∙ gone.0, elim gone.1 [ inl was ↦ inl was | inr alike ↦ inr (same_after old a b page k_is alike same) ])

  -- nothing is told otherwise
  pub purged_same : IsPurged old a t before left nothing → ((page : ℕ) → Stays a b page) → IsPurged old b t before left nothing
  purged_same purged same = record {
    each = λ page. elim (purged.each page) [
      | inl stays ↦ inl (stays_after old a b page stays (same page))
      | inr gone ↦ inr (goes_on page gone (same page))
    ];
    counted = λ bound past. purged.counted bound past ∙ ap (λ n. before + n) (sym (count_below_same (forgets a t) (forgets b t) bound (λ q lt. forgets_alike a b t q retained (same q))));
    fewer = purged.fewer;
  }

  -- one page is forgotten
  pub purged_less : IsPurged old a t before (left + 1) nothing → (page : ℕ) → forgets a t page ≡ true → has_block b page ≡ false → ((q : ℕ) → q ≢ page → Stays a b q) → IsPurged old b t before left nothing
  purged_less purged page outdated none same = record { each = each; counted = counted; fewer = omega (arith, purged.fewer) }
    where
      was_outdated : forgets old t page ≡ true
      was_outdated = elim (purged.each page) [
        | inl stays ↦ sym (forgets_alike old a t page retained_old stays) ∙ outdated
        | inr gone ↦ absurd (false≢true (sym (forgets_none a t page gone.0) ∙ outdated))
      ]

      each : (q : ℕ) → Stays old b q ⊎ Goes old b t q
      each q = elim (cases_eq q page) [
        | inl is ↦ inr (ap (has_block b) is ∙ none, inl (ap (forgets old t) is ∙ was_outdated))
        | inr other ↦ elim (purged.each q) [
          | inl stays ↦ inl (stays_after old a b q stays (same q other))
          | inr gone ↦ inr (goes_on q gone (same q other))
        ]
      ]

      counted : (bound : ℕ) → ((page : ℕ) → bound ≤ page → last_of old page ≡ 0) → count_below (forgets old t) bound + left + nothing ≡ before + count_below (forgets b t) bound
      counted bound past =
          let below : page < bound = elim (cases_lt page bound) [
            | inl lt ↦ lt
            | inr ge ↦ absurd (false≢true (sym (never_outdated old.retained t (block_of old page) (past page ge)) ∙ was_outdated))
          ] in
          let put : count_below (forgets a t) bound ≡ 1 + count_below (forgets b t) bound = count_below_put (forgets b t) (forgets a t) page true (forgets_none b t page none) outdated (λ q other. sym (forgets_alike a b t q retained (same q other))) bound (λ yes. below) in
          omega (arith, purged.counted bound past, put)

  -- one page has a block, and nothing to forget
  pub purged_blank : IsPurged old a t before (left + 1) nothing → (page : ℕ) → has_block a page ≡ true → forgets a t page ≡ false → SameAt a b page → has_block b page ≡ false → ((q : ℕ) → q ≢ page → Stays a b q) → IsPurged old b t before left (nothing + 1)
  purged_blank purged page there recent alike none same = record { each = each; counted = counted; fewer = omega (arith, purged.fewer) }
    where
      was : Stays old a page
      was = elim (purged.each page) [ inl stays ↦ stays | inr gone ↦ absurd (true≢false (sym there ∙ gone.0)) ]

      told : SameAt old b page
      told = record {
        held = alike.held ∙ was.held;
        last = alike.last ∙ (λ i. if get_or (was.stamps i) 0 0 == 0 then 0 else was.last i);
        no_later = omega (arith, alike.no_later, was.last);
        stamps = at_place;
      }
        where
          at_place : (i : ℕ) → stamp_of b page i ≡ stamp_of old page i
          at_place zero = refl
          at_place (suc n) = alike.stamps (suc n) ∙ rw (k_old, was.stamps) refl

      each : (q : ℕ) → Stays old b q ⊎ Goes old b t q
      each q = elim (cases_eq q page) [
        | inl is ↦ inr (ap (has_block b) is ∙ none, inr (subst (SameAt old b) (sym is) told))
        | inr other ↦ elim (purged.each q) [
          | inl stays ↦ inl (stays_after old a b q stays (same q other))
          | inr gone ↦ inr (goes_on q gone (same q other))
        ]
      ]

      counted : (bound : ℕ) → ((page : ℕ) → bound ≤ page → last_of old page ≡ 0) → count_below (forgets old t) bound + left + (nothing + 1) ≡ before + count_below (forgets b t) bound
      counted bound past =
          let as_many : count_below (forgets b t) bound ≡ count_below (forgets a t) bound = count_below_same (forgets a t) (forgets b t) bound (λ q lt. elim (cases_eq q page) [
            | inl is ↦ ap (forgets b t) is ∙ forgets_none b t page none ∙ sym (ap (forgets a t) is ∙ recent)
            | inr other ↦ forgets_alike a b t q retained (same q other)
          ]) in
          omega (arith, purged.counted bound past, as_many)

-- ---- the end

module _ (old new : Blocks) (t before left nothing : ℕ) (k : new.k ≡ old.k) (retained : new.retained ≡ old.retained) (purged : IsPurged old new t before left nothing) (done : (page : ℕ) → forgets new t page ≡ false) where
  pub ends_gone : (page : ℕ) → forgets old t page ≡ true → has_block new page ≡ false
  ends_gone page outdated = elim (purged.each page) [
    | inl stays ↦ absurd (false≢true (sym (done page) ∙ forgets_alike old new t page retained stays ∙ outdated))
    | inr gone ↦ gone.0
  ]

  pub ends_forgotten : (page : ℕ) → forgets old t page ≡ true → HasStampsOf new page []
  ends_forgotten page outdated = has_none new page (without new page (ends_gone page outdated))

  pub ends_kept : (page : ℕ) → forgets old t page ≡ false → SameAt old new page
  ends_kept page recent = elim (purged.each page) [
    | inl stays ↦ stays_same old new page k stays
    | inr gone ↦ elim gone.1 [ inl was ↦ absurd (false≢true (sym recent ∙ was)) | inr alike ↦ alike ]
  ]

  unheld : (page : ℕ) → has_block new page ≡ false → is_held new page ≡ false
  unheld page none = ap (λ o. (unwrap_or o no_block).held) (without new page none)

  pub ends_held : (page : ℕ) → is_held new page ≡ is_held old page
  ends_held page = elim (purged.each page) [
    | inl stays ↦ stays.held
    | inr gone ↦ elim gone.1 [ inl was ↦ unheld page gone.0 ∙ sym (outdated_not_held old.retained t (block_of old page) was) | inr alike ↦ alike.held ]
  ]

  pub ends_no_later : (page : ℕ) → latest_of new page ≤ latest_of old page
  ends_no_later page = elim (purged.each page) [
    | inl stays ↦ omega (arith, stays.last)
    | inr gone ↦
        let none = ap (λ o. (unwrap_or o no_block).last) (without new page gone.0) in
        omega (arith, none)
  ]

  pub ends_counted : (bound : ℕ) → ((page : ℕ) → bound ≤ page → last_of old page ≡ 0) → count_below (forgets old t) bound + left + nothing ≡ before
  ends_counted bound past = omega (arith, purged.counted bound past, count_below_none (forgets new t) bound done)

  pub ends_placed : (page : ℕ) → is_held new page ≡ true → place_of new page ≡ place_of old page
  ends_placed page held = elim (purged.each page) [
    | inl stays ↦ stays.place
    | inr gone ↦ absurd (false≢true (sym (unheld page gone.0) ∙ held))
  ]

-- ---- one step of the code

outdated : (retained t : ℕ) (b : Block) → b.held ≡ false → 0 < get_or b.stamps 0 0 → 0 < b.last → b.last < t - retained → is_outdated retained t b ≡ true
outdated retained t b free stamped known old = go (time_of b) (stamped_time b (get_or b.stamps 0 0) refl stamped)
  where
    go : (n : ℕ) → n ≡ b.last → (not b.held && (nat_lt 0 n && nat_lt retained (t - n))) ≡ true
    go n is = grind (arith, nat_tests)

not_outdated : (retained t : ℕ) (b : Block) → t - retained ≤ b.last → is_outdated retained t b ≡ false
not_outdated retained t b recent = at (get_or b.stamps 0 0 == 0)
  where
    at : (z : Bool) → (not b.held && (nat_lt 0 (if z then 0 else b.last) && nat_lt retained (t - (if z then 0 else b.last)))) ≡ false
    at true = grind (arith, nat_tests)
    at false = grind (arith, nat_tests)

module _ (inside : Inside) (kept : IsKept inside.settings.k inside.blocks.slots inside.places.entries) (page at : ℕ) (place : number inside.places.entries page ≡ Some at) (b : Block) (there : slot inside.blocks.slots at ≡ Some b) where
  -- what is told stays where the block's stamps and its holding do
  pub written_stays : (w : Block) (q : Waiting) → w.held ≡ b.held → w.last ≡ b.last → w.stamps ≡ b.stamps → (p : ℕ)
      → Stays (the_view inside) (the_view record inside { blocks = record inside.blocks { slots = set inside.blocks.slots at (Some w) }; waiting = q }) p
  written_stays w q held last stamps p = elim (cases_eq p page) [
    | inl is ↦
        let was = before inside.settings.k inside.blocks.slots inside.places.entries kept page at place b there in
        let now = after inside.settings.k inside.blocks.slots inside.places.entries kept page at place b there w in
        subst (λ x. Stays (the_view inside) (the_view record inside { blocks = record inside.blocks { slots = set inside.blocks.slots at (Some w) }; waiting = q }) x) (sym is)
        record { some = some page; place = refl; held = rw (was, now) held; last = rw (was, now) last; stamps = rw (was, now) stamps }
    | inr other ↦
        let same = others_after inside.settings.k inside.blocks.slots inside.places.entries kept page at place b there w p other in
        record { some = some p; place = refl; held = ap (λ (x : Block). x.held) same; last = ap (λ (x : Block). x.last) same; stamps = ap (λ (x : Block). x.stamps) same }
  ]
    where
      some : (p : ℕ) → is_some (find_block (blocks_in (set inside.blocks.slots at (Some w)) inside.places.entries) p) ≡ is_some (find_block (blocks_in inside.blocks.slots inside.places.entries) p)
      some p = sym (some_number (set inside.blocks.slots at (Some w)) inside.places.entries p) ∙ some_number inside.blocks.slots inside.places.entries p

  -- a block that is not held, and whose newest reference is before the bound, is to be forgotten
  pub is_outdated_here : (t : ℕ) → b.held ≡ false → 0 < get_or b.stamps 0 0 → b.last < t - inside.settings.retained → forgets (the_view inside) t page ≡ true
  is_outdated_here t free stamped old =
      let sound = was_sound inside.settings.k inside.blocks.slots inside.places.entries kept page at place b there in
      let known = sound.waits_known (sound.free_waits free) in
      rw (before inside.settings.k inside.blocks.slots inside.places.entries kept page at place b there) (outdated inside.settings.retained t b free stamped known old)

-- a block without stamps tells nothing, as no block does
pub blank_here : (inside now : Inside) (kept : IsKept inside.settings.k inside.blocks.slots inside.places.entries) (page at : ℕ) → now.settings.k ≡ inside.settings.k → number inside.places.entries page ≡ Some at → (b : Block) → slot inside.blocks.slots at ≡ Some b
    → b.held ≡ false → get_or b.stamps 0 0 ≡ 0 → number now.places.entries page ≡ None → SameAt (the_view inside) (the_view now) page
blank_here inside now kept page at k place b there free unstamped none =
    let was = before inside.settings.k inside.blocks.slots inside.places.entries kept page at place b there in
    let blank = sound_unstamped inside.settings.k b (was_sound inside.settings.k inside.blocks.slots inside.places.entries kept page at place b there) unstamped in
    let is : block_of (the_view now) page ≡ no_block = ap (λ o. unwrap_or o no_block) (not_found now.blocks.slots now.places.entries page none) in
    record {
      held = ap (λ (b : Block). b.held) is ∙ sym free ∙ sym (ap (λ (b : Block). b.held) was);
      last = ap time_of is ∙ sym blank.time ∙ sym (ap time_of was);
      no_later = omega (arith, ap (λ (b : Block). b.last) is);
      stamps = at_place is was blank;
    }
  where
    at_place : block_of (the_view now) page ≡ no_block → block_of (the_view inside) page ≡ b → IsBlank inside.settings.k b → (i : ℕ) → stamp_of (the_view now) page i ≡ stamp_of (the_view inside) page i
    at_place is was blank zero = refl
    at_place is was blank (suc n) = rw (k, is, was) (elim (cases_lt n inside.settings.k) [
      | inl lt ↦ rw (lt-ltb n inside.settings.k lt) (sym (blank.stamps n lt))
      | inr le ↦ rw (le-ltb n inside.settings.k le) refl
    ])

pub forgets_blank : (inside : Inside) (kept : IsKept inside.settings.k inside.blocks.slots inside.places.entries) (page at : ℕ) → number inside.places.entries page ≡ Some at → (b : Block) → slot inside.blocks.slots at ≡ Some b → get_or b.stamps 0 0 ≡ 0 → (t : ℕ) → forgets (the_view inside) t page ≡ false
forgets_blank inside kept page at place b there unstamped t =
    rw (before inside.settings.k inside.blocks.slots inside.places.entries kept page at place b there) (never_outdated inside.settings.retained t b (unstamped_time b unstamped))

-- a block that is not held, and whose newest reference is before the bound, is taken away
module _ (old : Blocks) (inside now : Inside) (t before left nothing : ℕ) (retained_old : inside.settings.retained ≡ old.retained) (retained : now.settings.retained ≡ inside.settings.retained) (k_old : inside.settings.k ≡ old.k) (k_is : now.settings.k ≡ inside.settings.k)
    (kept : IsKept inside.settings.k inside.blocks.slots inside.places.entries) (page at : ℕ) (place : number inside.places.entries page ≡ Some at) (b : Block) (there : slot inside.blocks.slots at ≡ Some b) (free : b.held ≡ false) (late : b.last < t - inside.settings.retained)
    (none : number now.places.entries page ≡ None) (same : (q : ℕ) → q ≢ page → Stays (the_view inside) (the_view now) q) where
  gone : has_block (the_view now) page ≡ false
  gone = ap is_some (not_found now.blocks.slots now.places.entries page none)

  had : has_block (the_view inside) page ≡ true
  had = sym (some_number inside.blocks.slots inside.places.entries page) ∙ ap is_some place

  pub purged_dropped : (more : ℕ) → more ≡ (if get_or b.stamps 0 0 == 0 then 1 else 0) → IsPurged old (the_view inside) t before (left + 1) nothing → IsPurged old (the_view now) t before left (nothing + more)
  purged_dropped more is purged = subst (λ n. IsPurged old (the_view now) t before left (nothing + n)) (sym is) (go (get_or b.stamps 0 0) refl)
    where
      go : (n : ℕ) → get_or b.stamps 0 0 ≡ n → IsPurged old (the_view now) t before left (nothing + (if n == 0 then 1 else 0))
      go zero unstamped =
          purged_blank old (the_view inside) (the_view now) t before left nothing retained_old retained k_old k_is purged page had (forgets_blank inside kept page at place b there unstamped t) (blank_here inside now kept page at k_is place b there free unstamped none) gone same
      go (suc n) stamped =
          let no_more : nothing + 0 ≡ nothing = omega arith in
          let as_many : nothing + (if suc n == 0 then 1 else 0) ≡ nothing = ap (λ (z : Bool). nothing + (if z then 1 else 0)) (ne_eqb (suc n) 0 (λ e. absurd (omega arith))) ∙ no_more in
          subst (IsPurged old (the_view now) t before left) (sym as_many)
          (purged_less old (the_view inside) (the_view now) t before left nothing retained_old retained k_old k_is purged page (is_outdated_here inside kept page at place b there t free (omega (arith, stamped)) late) gone same)

pub queue_stays : (inside : Inside) (q : Waiting) (p : ℕ) → Stays (the_view inside) (the_view record inside { waiting = q }) p
queue_stays inside q p = record { some = refl; place = refl; held = refl; last = refl; stamps = refl }

pub removed_stays : (inside now : Inside) (page at : ℕ) → Changes inside.blocks.slots inside.places.entries now.blocks.slots now.places.entries page at → (q : ℕ) → q ≢ page → Stays (the_view inside) (the_view now) q
removed_stays inside now page at changes q other =
    let same = others_stay inside.blocks.slots inside.places.entries now.blocks.slots now.places.entries page at changes q other in
    record {
      some = ap is_some same;
      place = changes.other_places q other;
      held = ap (λ o. (unwrap_or o no_block).held) same;
      last = ap (λ o. (unwrap_or o no_block).last) same;
      stamps = ap (λ o. (unwrap_or o no_block).stamps) same;
    }

pub removed_goes : (now : Inside) (page : ℕ) → number now.places.entries page ≡ None → has_block (the_view now) page ≡ false
removed_goes now page none = ap is_some (not_found now.blocks.slots now.places.entries page none)

-- where nobody has waited since before the bound, nothing is left to forget
pub all_done : (inside : Inside) (t : ℕ) → IsKept inside.settings.k inside.blocks.slots inside.places.entries → IsQueued inside.blocks.slots inside.places.entries inside.waiting → All (λ (e : ℕ × ℕ). t - inside.settings.retained ≤ e.0) inside.waiting.pages → (page : ℕ) → forgets (the_view inside) t page ≡ false
all_done inside t kept queued recent page = by_number (number inside.places.entries page) refl
  where
    by_held : (at : ℕ) (b : Block) → number inside.places.entries page ≡ Some at → slot inside.blocks.slots at ≡ Some b → IsSound inside.settings.k b → (held : Bool) → b.held ≡ held → is_outdated inside.settings.retained t b ≡ false
    by_held at b place there sound true held = rw held refl
    by_held at b place there sound false free =
        let waits = queued.waiting page at b place there (sound.free_waits free) in
        let late = All-contains (λ (e : ℕ × ℕ). t - inside.settings.retained ≤ e.0) inside.waiting.pages (waits.0, page) recent waits.2 in
        not_outdated inside.settings.retained t b (omega (arith, late, waits.1))

    by_slot : (at : ℕ) → number inside.places.entries page ≡ Some at → (o : Option Block) → slot inside.blocks.slots at ≡ o → IsSomeAnd o (IsSound inside.settings.k) → forgets (the_view inside) t page ≡ false
    by_slot at place None there sound = absurd sound
    by_slot at place (Some b) there sound = rw (before inside.settings.k inside.blocks.slots inside.places.entries kept page at place b there) (by_held at b place there sound b.held refl)

    by_number : (o : Option ℕ) → number inside.places.entries page ≡ o → forgets (the_view inside) t page ≡ false
    by_number None none = forgets_none (the_view inside) t page (removed_goes inside page none)
    by_number (Some at) place = by_slot at place (slot inside.blocks.slots at) refl (kept.sound page at place)

-- ---- the measure

pub pops_less : (bound : ℕ) (e : ℕ × ℕ) (old new : List (ℕ × ℕ)) → IsPermutation old (e ∷ new) → e.0 < bound → count_by (λ e. ltb e.0 bound) new < count_by (λ e. ltb e.0 bound) old
pops_less bound e old new taken below =
    let one : cond (ltb e.0 bound) 1 0 ≡ 1 = ap (λ t. cond t 1 0) (lt-ltb e.0 bound below) in
    let popped = sum_by_popped (λ (e : ℕ × ℕ). cond (ltb e.0 bound) 1 0) e old new taken in
    let counted : count_by (λ e. ltb e.0 bound) new + 1 ≡ count_by (λ e. ltb e.0 bound) old = ap (λ n. count_by (λ (e : ℕ × ℕ). ltb e.0 bound) new + n) (sym one) ∙ popped in
    omega arith

pub pushes_none : (bound : ℕ) (e : ℕ × ℕ) (old new : List (ℕ × ℕ)) → IsPermutation (e ∷ old) new → bound ≤ e.0 → count_by (λ e. ltb e.0 bound) new ≡ count_by (λ e. ltb e.0 bound) old
pushes_none bound e old new pushed late =
    let none : cond (ltb e.0 bound) 1 0 ≡ 0 = ap (λ t. cond t 1 0) (le-ltb e.0 bound late) in
    sum_by_pushed (λ (e : ℕ × ℕ). cond (ltb e.0 bound) 1 0) e old new pushed ∙ ap (λ n. n + count_by (λ (e : ℕ × ℕ). ltb e.0 bound) old) none ∙ omega arith
