-- Where redo writes no page, no write of the page is open.
use Rattle.std.proofs.Common.{◌≡◌, inl, inr, refl, sym, ap, subst, ◌∙◌, ℕ, max, ◌≤◌, nat_le, Bool, true, false, not, cond, if◌then◌else◌, ◌&&◌, ◌||◌, ◌==◌, List, [], ◌∷◌, ◌++◌, length, filter, Option, Some, None, unwrap_or, length-append, arith}
use Rattle.std.specs.Prelude.{◌⊎◌}
use Rattle.std.specs.Bool.{MatchBool}
use Rattle.std.proofs.lemmas.Bool.{and_parts, and_from, eqb-true, eq-eqb, le-leb, leb-true, or_parts, true≢false}
use Rattle.bp_trail.specs.declared.entries.Entry.{Entry}
use Rattle.bp_trail.specs.declared.entries.Call.{Call}
use Rattle.bp_trail.specs.declared.entries.Call.TheVariants.{WriteEnd}
use Rattle.bp_trail.specs.declared.entries.Reply.{Reply}
use Rattle.bp_trail.specs.declared.entries.Reply.TheVariants.{WriteFirst}
use Rattle.bp_trail.specs.Parameters.{Parameters}
use Rattle.bp_trail.specs.Lists.{some, since}
use Rattle.bp_trail.specs.Event.{is_write, page_of, lsn_of, lsn_written, discards, ends_well, writes}
use Rattle.bp_trail.specs.Trail.{Trail}
use Rattle.bp_trail.specs.Clock.{durable}
use Rattle.bp_trail.specs.Legal.{Legal}
use Rattle.bp_trail.specs.Recovery.{record_of}
use Rattle.bp_trail.specs.Saved.{unsaved, settles, began_saving}
use Rattle.bp_trail.proofs.Events.{Event, event-of}
use Rattle.bp_trail.proofs.Events.Event.{fix_write, flush_write}
use Rattle.bp_trail.proofs.Lists.{greatest-with}
use Rattle.bp_trail.proofs.WriteAhead.{recent, write_ahead, written_lsn}
use Rattle.example_log.specs.Disk.{DeviceCall, sync_failed}
use Rattle.example_log.specs.Disk.DeviceCall.{Read, NotRead, Write, Sync}
use Rattle.example_table.specs.PoolLives.{PoolFrom, PoolLife, ends_work}
use Rattle.example_table.specs.PoolLives.PoolFrom.{opened, entered, read, not_read, wrote, was_synced}
use Rattle.example_table.specs.Tables.{writes_of}
use Rattle.example_table.proofs.PoolLives.{NoneFailed, NoneOpen, Unlike, first-is, fresh-first, new-unsaved, no-first, other-saving, quiet, saving-not, saving-same, since-begun, suffix, unlike}
use Rattle.example_table.proofs.Tables.{mark-then, told, within_of}

-- ---- a page that is saved was saved before an entry that neither writes nor saves it

settles-less : (whole more : Trail) (p : ℕ) → ((r : Reply) → began_saving whole p r ≡ true → began_saving more p r ≡ true) → (e : Entry) → settles whole p e ≡ true → settles more p e ≡ true
settles-less whole more p le e h = go (discards p e) refl h
  where
    go : (b : Bool) → discards p e ≡ b → (b || began_saving whole p e.reply) ≡ true → settles more p e ≡ true
    go true i h = ap (λ (b : Bool). b || began_saving more p e.reply) i
    go false i h = ap (λ (b : Bool). b || began_saving more p e.reply) i ∙ le e.reply h

since-less : (f g h : Entry → Bool) → ((e : Entry) → g e ≡ true → h e ≡ true) → (xs : Trail) → since f g xs ≡ false → since f h xs ≡ false
since-less f g h le [] n = refl
since-less f g h le (e ∷ xs) n =
    let a = or_parts (f e) (not (g e) && since f g xs) n in
    go (g e) refl (h e) refl a.0 a.1 (since-less f g h le xs)
  where
    go : (a : Bool) → g e ≡ a → (b : Bool) → h e ≡ b → f e ≡ false → (not a && since f g xs) ≡ false → (since f g xs ≡ false → since f h xs ≡ false) → (f e || (not (h e) && since f h xs)) ≡ false
    go a i true j none k before = ap (λ (b : Bool). f e || (not b && since f h xs)) j ∙ ap (λ (b : Bool). b || false) none
    go false i false j none k before = ap (λ (b : Bool). f e || (not b && since f h xs)) j ∙ ap (λ (b : Bool). b || since f h xs) none ∙ before k
    go true i false j none k before = absurd (true≢false (sym (le e i) ∙ j))

-- what stands before an entry that does not settle the page
tail-unsaved : (e : Entry) (past : Trail) (p : ℕ) → settles (e ∷ past) p e ≡ false → unsaved (e ∷ past) p ≡ false → since (writes p) (settles (e ∷ past) p) past ≡ false
tail-unsaved e past p s h = let a = or_parts (writes p e) (not (settles (e ∷ past) p e) && since (writes p) (settles (e ∷ past) p) past) h in sym (ap (λ (b : Bool). not b && since (writes p) (settles (e ∷ past) p) past) s) ∙ a.1

module _ (c : Parameters) where
  -- an entry that ends no write-out well
  plain-before : (e : Entry) (past : Trail) → Legal c (e ∷ past) → ((u : ℕ) → ends_well u e.call ≡ false) → (p : ℕ) → discards p e ≡ false → unsaved (e ∷ past) p ≡ false → unsaved past p ≡ false
  plain-before e past l q p kept h =
      let new = new-unsaved c e past l (e ∷ past) (λ t v im i. ap (λ (b : Bool). b || some (λ d. ends_well t d.call) past) (q t) ∙ fresh-first c past e l t v im i) p in
      let s : settles (e ∷ past) p e ≡ false = ap (λ (b : Bool). b || began_saving (e ∷ past) p e.reply) kept ∙ new in
      since-less (writes p) (settles (e ∷ past) p) (settles past p) (settles-less (e ∷ past) past p (λ r k. sym (saving-same e past q p r) ∙ k)) past (tail-unsaved e past p s h)

  -- an entry that ends well a write-out of another page
  other-before : (e : Entry) (past : Trail) (t q : ℕ) → e.call ≡ WriteEnd t q true → Legal c (e ∷ past) → (p : ℕ) → Unlike t p past → discards p e ≡ false → unsaved (e ∷ past) p ≡ false → unsaved past p ≡ false
  other-before e past t q call l p ne kept h =
      let s : settles (e ∷ past) p e ≡ false = ap (λ (b : Bool). b || began_saving (e ∷ past) p e.reply) kept ∙ saving-not (e ∷ past) p e.reply (no-first c past e.client e.call e.reply (event-of c past e l.here) (ap ends_work call) p) in
      sym (same past ne) ∙ tail-unsaved e past p s h
    where
      same : (xs : Trail) → Unlike t p xs → since (writes p) (settles (e ∷ past) p) xs ≡ since (writes p) (settles past p) xs
      same [] ne = refl
      same (d ∷ xs) ne =
          ap (λ (b : Bool). writes p d || (not (discards p d || b) && since (writes p) (settles (e ∷ past) p) xs)) (other-saving e past t q call p d.reply ne.0)
          ∙ ap (λ (b : Bool). writes p d || (not (settles past p d) && b)) (same xs ne.1)

  -- a write-out begins of a page that is not saved
  begun-unsaved : (past : Trail) (who : ℕ) (call : Call) (reply : Reply) → Event c past who call reply → (t p : ℕ) (image : List ℕ) → reply ≡ WriteFirst t p image → unsaved past p ≡ true
  begun-unsaved past who _ _ (fix_write q v m w g) t p image i = let same : v ≡ p = cc in subst (λ (n : ℕ). unsaved past n ≡ true) same g.unsaved_page
  begun-unsaved past who _ _ (flush_write q r w g) t p image i = let same : q ≡ p = cc in subst (λ (n : ℕ). unsaved past n ≡ true) same g.unsaved_page
  begun-unsaved past who _ _ _ t p image i = absurd (cc)

  kept-here : (e : Entry) (past : Trail) (p : ℕ) → some (discards p) (e ∷ past) ≡ false → (discards p e ≡ false) × (some (discards p) past ≡ false)
  kept-here e past p k = or_parts (discards p e) (some (discards p) past) k

  -- a begun write-out leaves its page unsaved
  still-unsaved : (f : Entry) (older : Trail) → Legal c (f ∷ older) → (t p : ℕ) (image : List ℕ) → f.reply ≡ WriteFirst t p image → discards p f ≡ false → unsaved (f ∷ older) p ≡ false → ⊥
  still-unsaved f older l t p image i kept h =
      let event = event-of c older f l.here in
      true≢false (sym (begun-unsaved older f.client f.call f.reply event t p image i) ∙ plain-before f older l (first-is c older f.client f.call f.reply event t p image i).1 p kept h)

  -- ---- a saved page has no write that failed since one that did not

  module _ (p : ℕ) where
    pub saved-shut : (past synced : Trail) (calls : List DeviceCall) → PoolLife past calls synced → Legal c past → some (discards p) past ≡ false → unsaved past p ≡ false → NoneFailed p calls
    saved-shut _ _ _ opened l kept h = tt
    saved-shut _ _ _ (entered {past = past} {synced = synced} {calls = calls} e w life) l kept h =
        let k = kept-here e past p kept in saved-shut past synced calls life l.before k.1 (plain-before e past l (quiet e.call w) p k.0 h)
    saved-shut _ _ _ (read {past = past} {synced = synced} {calls = calls} e t q image i life) l kept h =
        let k = kept-here e past p kept in saved-shut past synced calls life l.before k.1 (plain-before e past l (λ u. ap (ends_well u) i) p k.0 h)
    saved-shut _ _ _ (not_read {past = past} {synced = synced} {calls = calls} e t q i life) l kept h =
        let k = kept-here e past p kept in saved-shut past synced calls life l.before k.1 (plain-before e past l (λ u. ap (ends_well u) i) p k.0 h)
    saved-shut _ _ _ (was_synced {past = past} {synced = synced} {calls = calls} good life) l kept h = saved-shut past synced calls life l kept h
    saved-shut _ _ _ (wrote {older = older} {synced = synced} {calls = calls} e f t q image good i j life) l kept h =
        let k = kept-here e (f ∷ older) p kept in by good i (saved-shut (f ∷ older) synced calls life l.before k.1) k.0 (kept-here f older p k.1).0
      where
        by : (g : Bool) → e.call ≡ WriteEnd t q g → (unsaved (f ∷ older) p ≡ false → NoneFailed p calls) → discards p e ≡ false → discards p f ≡ false → NoneFailed p (Write q image g ∷ calls)
        by true i before ke kf = go (q == p) refl
          where
            go : (b : Bool) → (q == p) ≡ b → MatchBool b (Unit {0}) (NoneFailed p calls)
            go true same = tt
            go false ne = before (other-before e (f ∷ older) t q i l p (unlike c false (λ n. []) f older l.before t q image j p ne) ke h)
        by false i before ke kf =
            let h₁ = plain-before e (f ∷ older) l (λ u. ap (ends_well u) i) p ke h in (
              λ same. still-unsaved f older l.before t p image (subst (λ (n : ℕ). f.reply ≡ WriteFirst t n image) same j) kf h₁,
              before h₁,
            )

    longer : (x synced past : Trail) (e : Entry) → past ≡ x ++ synced → synced ≡ e ∷ past → ⊥
    longer x synced past e i all = absurd (omega (arith, ap (λ (t : Trail). length t) all, ap (λ (t : Trail). length t) i, length-append x synced))

    -- where all is synced, no write is open
    pub synced-shut : (past synced : Trail) (calls : List DeviceCall) → PoolLife past calls synced → NoneFailed p calls → synced ≡ past → NoneOpen p calls
    synced-shut _ _ _ opened n all = tt
    synced-shut _ _ _ (entered {past = past} {synced = synced} {calls = calls} e w life) n all = let x = suffix past synced calls life in absurd (longer x.0 synced past e x.1 all)
    synced-shut _ _ _ (read {past = past} {synced = synced} {calls = calls} e t q image i life) n all = let x = suffix past synced calls life in absurd (longer x.0 synced past e x.1 all)
    synced-shut _ _ _ (not_read {past = past} {synced = synced} {calls = calls} e t q i life) n all = let x = suffix past synced calls life in absurd (longer x.0 synced past e x.1 all)
    synced-shut _ _ _ (wrote {older = older} {synced = synced} {calls = calls} e f t q image good i j life) n all =
        let x = suffix (f ∷ older) synced calls life in absurd (longer x.0 synced (f ∷ older) e x.1 all)
    synced-shut _ _ _ (was_synced {past = past} {synced = synced} {calls = calls} good life) n all = go (good && not (some sync_failed calls)) all (synced-shut past synced calls life n)
      where
        go : (b : Bool) → (if b then past else synced) ≡ past → (synced ≡ past → NoneOpen p calls) → MatchBool b (NoneFailed p calls) (NoneOpen p calls)
        go true all before = n
        go false all before = before all

    -- ---- else the page was written, and its record is durable

    -- a write of the page whose record is durable
    abbrev wrote-by : ℕ → Entry → Bool
    wrote-by end e = writes p e && nat_le (lsn_of e.call) end

    pub record Written (begun past : Trail) : Type 0 where
      pub since : Trail
      pub parts : past ≡ since ++ begun
      pub lsn : ℕ
      pub durably : lsn ≤ durable past
      pub writes_it : some (wrote-by lsn) since ≡ true

    written-more : (begun past : Trail) (e : Entry) → Written begun past → Written begun (e ∷ past)
    written-more begun past e w = record {
      since = e ∷ w.since;
      parts = ap (λ (t : Trail). e ∷ t) w.parts;
      lsn = w.lsn;
      durably = (let a = w.durably in let b = mark-then (e ∷ []) past in omega arith);
      writes_it = ap (λ (b : Bool). wrote-by w.lsn e || b) w.writes_it ∙ or-true (wrote-by w.lsn e);
    }
      where
        or-true : (b : Bool) → (b || true) ≡ true
        or-true true = refl
        or-true false = refl

    recent-all : (past : Trail) → some (discards p) past ≡ false → recent p past ≡ past
    recent-all [] k = refl
    recent-all (e ∷ past) k = let a = kept-here e past p k in ap (λ (b : Bool). if b then [] else e ∷ recent p past) a.0 ∙ ap (λ (t : Trail). e ∷ t) (recent-all past a.1)

    some-below : (x begun : Trail) (n : ℕ) → written_lsn p (x ++ begun) ≤ n → some (writes p) x ≡ true → some (wrote-by n) x ≡ true
    some-below [] begun n le h = absurd (cc)
    some-below (e ∷ x) begun n le h = go (writes p e) refl h (some-below x begun n (let m = step in omega arith))
      where
        step : written_lsn p (e ∷ x ++ begun) ≡ max (unwrap_or (lsn_written p e) 0) (written_lsn p (x ++ begun))
        step = greatest-with (lsn_written p) e (x ++ begun)

        go : (b : Bool) → writes p e ≡ b → (b || some (writes p) x) ≡ true → (some (writes p) x ≡ true → some (wrote-by n) x ≡ true) → (wrote-by n e || some (wrote-by n) x) ≡ true
        go true w h before =
            let is : lsn_written p e ≡ Some (lsn_of e.call) = ap (λ (b : Bool). if b then Some (lsn_of e.call) else None) w in
            let at : unwrap_or (lsn_written p e) 0 ≡ lsn_of e.call = ap (λ (o : Option ℕ). unwrap_or o 0) is in
            let m = step in
            ap (λ (b : Bool). b || some (wrote-by n) x) (and_from (writes p e) (nat_le (lsn_of e.call) n) w (le-leb (lsn_of e.call) n (omega arith)))
        go false w h before = ap (λ (b : Bool). (b && nat_le (lsn_of e.call) n) || some (wrote-by n) x) w ∙ before h

    front-saved : (whole x begun : Trail) → some (writes p) x ≡ false → since (writes p) (settles whole p) begun ≡ false → since (writes p) (settles whole p) (x ++ begun) ≡ false
    front-saved whole [] begun none h = h
    front-saved whole (e ∷ x) begun none h =
        let a = or_parts (writes p e) (some (writes p) x) none in
        ap (λ (b : Bool). writes p e || (not (settles whole p e) && b)) (front-saved whole x begun a.1 h) ∙ ap (λ (b : Bool). b || (not (settles whole p e) && false)) a.0 ∙ and-none (not (settles whole p e))
      where
        and-none : (b : Bool) → (b && false) ≡ false
        and-none true = refl
        and-none false = refl

    ended-more : (t : ℕ) (x begun : Trail) → some (λ d. ends_well t d.call) begun ≡ true → some (λ d. ends_well t d.call) (x ++ begun) ≡ true
    ended-more t [] begun h = h
    ended-more t (e ∷ x) begun h = ap (λ (b : Bool). ends_well t e.call || b) (ended-more t x begun h) ∙ or-true (ends_well t e.call)
      where
        or-true : (b : Bool) → (b || true) ≡ true
        or-true true = refl
        or-true false = refl

    saving-more : (x begun : Trail) (r : Reply) → began_saving begun p r ≡ true → began_saving (x ++ begun) p r ≡ true
    saving-more x begun (WriteFirst t q image) h = let a = and_parts (q == p) (some (λ d. ends_well t d.call) begun) h in and_from (q == p) (some (λ d. ends_well t d.call) (x ++ begun)) a.0 (ended-more t x begun a.1)
    saving-more x begun _ h = absurd (cc)

    -- a page that is unsaved now and was saved then was written since
    written-since : (x begun : Trail) → unsaved begun p ≡ false → unsaved (x ++ begun) p ≡ true → some (writes p) x ≡ true
    written-since x begun saved h = go (some (writes p) x) refl
      where
        go : (b : Bool) → some (writes p) x ≡ b → some (writes p) x ≡ true
        go true i = i
        go false i =
            absurd (true≢false (sym h ∙ front-saved (x ++ begun) x begun i (since-less (writes p) (settles begun p) (settles (x ++ begun) p) (settles-less begun (x ++ begun) p (saving-more x begun)) begun saved)))

    module _ (begun : Trail) (begun_calls : List DeviceCall) (saved : unsaved begun p ≡ false) (shut : NoneOpen p begun_calls) (failed : NoneFailed p begun_calls) where
      abbrev Shut : Trail → List DeviceCall → Type 0
      Shut past calls = (NoneOpen p calls × NoneFailed p calls) ⊎ Written begun past

      more-shut : (e : Entry) (past : Trail) (calls after : List DeviceCall) → (NoneOpen p calls × NoneFailed p calls → NoneOpen p after × NoneFailed p after) → Shut past calls → Shut (e ∷ past) after
      more-shut e past calls after f (inl h) = inl (f h)
      more-shut e past calls after f (inr w) = inr (written-more begun past e w)

      -- the page goes out, so it was written since all was saved
      goes-out : (f : Entry) (older x : Trail) → f ∷ older ≡ x ++ begun → Legal c (f ∷ older) → some (discards p) (f ∷ older) ≡ false → (t : ℕ) (image : List ℕ) → f.reply ≡ WriteFirst t p image → Written begun (f ∷ older)
      goes-out f older [] e l kept t image i = absurd (still-unsaved f older l t p image i (kept-here f older p kept).0 (subst (λ (s : Trail). unsaved s p ≡ false) (sym e) saved))
      goes-out f older (d ∷ x) e l kept t image i =
          let k = kept-here f older p kept in
          let parts : older ≡ x ++ begun = cc in
          let unsaved_then = begun-unsaved older f.client f.call f.reply (event-of c older f l.here) t p image i in
          let ahead = subst (λ (s : Trail). written_lsn p s ≤ durable older) (recent-all older k.1 ∙ parts) (write_ahead c older f t p image l i) in
          let grows = mark-then (f ∷ []) older in
          written-more begun older f (record {
            since = x;
            parts = parts;
            lsn = durable older;
            durably = omega arith;
            writes_it = some-below x begun (durable older) ahead (written-since x begun saved (subst (λ (s : Trail). unsaved s p ≡ true) parts unsaved_then));
          })

      pub shut-or-written : (past synced : Trail) (calls : List DeviceCall) → PoolFrom begun begun_calls past calls synced → Legal c past → some (discards p) past ≡ false → Shut past calls
      shut-or-written _ _ _ opened l kept = inl (shut, failed)
      shut-or-written _ _ _ (entered {past = past} {synced = synced} {calls = calls} e w life) l kept = more-shut e past calls calls (λ h. h) (shut-or-written past synced calls life l.before (kept-here e past p kept).1)
      shut-or-written _ _ _ (read {past = past} {synced = synced} {calls = calls} e t q image i life) l kept =
          more-shut e past calls (Read q image ∷ calls) (λ h. (h.0, h.1)) (shut-or-written past synced calls life l.before (kept-here e past p kept).1)
      shut-or-written _ _ _ (not_read {past = past} {synced = synced} {calls = calls} e t q i life) l kept =
          more-shut e past calls (NotRead q ∷ calls) (λ h. (h.0, h.1)) (shut-or-written past synced calls life l.before (kept-here e past p kept).1)
      shut-or-written _ _ _ (was_synced {past = past} {synced = synced} {calls = calls} good life) l kept = go (shut-or-written past synced calls life l kept)
        where
          either : (b : Bool) → NoneOpen p calls × NoneFailed p calls → MatchBool b (NoneFailed p calls) (NoneOpen p calls)
          either true h = h.1
          either false h = h.0

          go : Shut past calls → Shut past (Sync good ∷ calls)
          go (inl h) = inl (either (good && not (some sync_failed calls)) h, h.1)
          go (inr w) = inr w
      shut-or-written _ _ _ (wrote {older = older} {synced = synced} {calls = calls} e f t q image good i j life) l kept =
          let k = (kept-here e (f ∷ older) p kept).1 in go (q == p) refl k (shut-or-written (f ∷ older) synced calls life l.before k) (since-begun begun begun_calls (f ∷ older) synced calls life).0
        where
          other : (q == p) ≡ false → (g : Bool) → NoneFailed p calls → NoneFailed p (Write q image g ∷ calls)
          other ne true h = subst (λ (b : Bool). MatchBool b (Unit {0}) (NoneFailed p calls)) (sym ne) h
          other ne false h = (λ same. true≢false (sym (eq-eqb q p same) ∙ ne), h)

          go : (b : Bool) → (q == p) ≡ b → some (discards p) (f ∷ older) ≡ false → Shut (f ∷ older) calls → (x : Trail) × (f ∷ older ≡ x ++ begun) → Shut (e ∷ f ∷ older) (Write q image good ∷ calls)
          go b same k (inr w) x = inr (written-more begun (f ∷ older) e w)
          go true same k (inl h) x = inr (written-more begun (f ∷ older) e (goes-out f older x.0 x.1 l.before k t image (subst (λ (n : ℕ). f.reply ≡ WriteFirst t n image) (eqb-true q p same) j)))
          go false ne k (inl h) x = inl ((λ same. true≢false (sym (eq-eqb q p same) ∙ ne), h.0), other ne good h.1)

    -- a durable write has its record among those up to its LSN
    pub written-wanted : (lsn end : ℕ) (xs : Trail) → lsn ≤ end → some (wrote-by lsn) xs ≡ true → filter (within_of end p) (writes_of xs) ≡ [] → ⊥
    written-wanted lsn end [] le h none = absurd (cc)
    written-wanted lsn end (e ∷ xs) le h none = go (wrote-by lsn e) refl h (is_write e.call) refl none (written-wanted lsn end xs le)
      where
        go : (b : Bool) → wrote-by lsn e ≡ b → (b || some (wrote-by lsn) xs) ≡ true → (w : Bool) → is_write e.call ≡ w → filter (within_of end p) (cond w (record_of e.call ∷ writes_of xs) (writes_of xs)) ≡ []
            → (some (wrote-by lsn) xs ≡ true → filter (within_of end p) (writes_of xs) ≡ [] → ⊥) → ⊥
        go true i h true w none before =
            let a = and_parts (writes p e) (nat_le (lsn_of e.call) lsn) i in
            let of_page = (and_parts (is_write e.call) (page_of e.call == p) a.0).1 in
            let low = leb-true (lsn_of e.call) lsn a.1 in
            let t = told e.call w in
            let is : within_of end p (record_of e.call) ≡ true = ap (λ (n : ℕ). (n == p) && nat_le (record_of e.call).lsn end) t.0 ∙ and_from (page_of e.call == p) (nat_le (record_of e.call).lsn end) of_page (le-leb (record_of e.call).lsn end (let at = t.1 in omega arith)) in
            filled (within_of end p (record_of e.call)) is none
          where
            filled : (b : Bool) → b ≡ true → cond b (record_of e.call ∷ filter (within_of end p) (writes_of xs)) (filter (within_of end p) (writes_of xs)) ≡ [] → ⊥
            filled true i n = absurd (cc)
            filled false i n = absurd (cc)
        go true i h false w none before = let a = and_parts (writes p e) (nat_le (lsn_of e.call) lsn) i in absurd (true≢false (sym (and_parts (is_write e.call) (page_of e.call == p) a.0).0 ∙ w))
        go false i h true w none before = before h (dropped (within_of end p (record_of e.call)) none)
          where
            dropped : (b : Bool) → cond b (record_of e.call ∷ filter (within_of end p) (writes_of xs)) (filter (within_of end p) (writes_of xs)) ≡ [] → filter (within_of end p) (writes_of xs) ≡ []
            dropped true n = absurd (cc)
            dropped false n = n
        go false i h false w none before = before h none
