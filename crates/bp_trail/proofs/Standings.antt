-- Two legal trails have one standing exactly where nothing tells them apart.
use Rattle.std.proofs.Common.{◌≡◌, refl, sym, ◌∙◌, ap, subst, ℕ, zero, suc, ◌+◌, ◌≤◌, ◌<◌, nat_lt, if◌then◌else◌, Bool, true, false, ◌||◌, ◌==◌, List, [], ◌∷◌, map, Some, arith}
use Rattle.std.proofs.lemmas.Bool.{eqb-true, eq-eqb, eqb-false, or_right, and_parts, ltb-true}
use Rattle.bp_references.specs.Burst.{bursts, last_time}
use Rattle.bp_references.specs.Stamp.{burst_stamp, stamp}
use Rattle.bp_trail.specs.Parameters.{Parameters}
use Rattle.bp_trail.specs.Event.{Grant, grant, same_grant}
use Rattle.bp_trail.specs.Trail.{Trail}
use Rattle.bp_trail.specs.Passes.{writes_out}
use Rattle.bp_trail.specs.Places.{resident}
use Rattle.bp_trail.specs.Saved.{unsaved, written_since, page_lsn}
use Rattle.bp_trail.specs.Images.{held}
use Rattle.bp_trail.specs.References.{references, last, hist}
use Rattle.bp_trail.specs.Legal.{is_out, Legal}
use Rattle.bp_trail.proofs.Same.{SameStanding}
use Rattle.bp_trail.specs.Standing.{each_from, content_if, content, content_of, PageStanding, page_standing, write_out, standing}
use Rattle.bp_trail.proofs.Outside.{away-outside, saved-outside, unknown-outside}

-- lists of f and g that are equal have equal values at each place
each-at : {X : Type 0} (f g : ℕ → X) (a n i : ℕ) → each_from f a n ≡ each_from g a n → a ≤ i → i < a + n → f i ≡ g i
each-at f g a zero i e h k = absurd (omega arith)
each-at f g a (suc n) i e h k = go (a == i) refl (λ m. each-at f g (suc a) n i (cc) m (omega arith))
  where
    go : (b : Bool) → (a == i) ≡ b → (suc a ≤ i → f i ≡ g i) → f i ≡ g i
    go true x ih = subst (λ y. f y ≡ g y) (eqb-true a i x) (cc)
    go false x ih = ih (let y = eqb-false a i x in omega arith)

each-same : {X : Type 0} (f g : ℕ → X) → ((i : ℕ) → f i ≡ g i) → (a n : ℕ) → each_from f a n ≡ each_from g a n
each-same f g h a n = λ k. each_from (λ i. h i k) a n

-- the write-outs in flight, each with the tickets
tickets-same : (s t : Trail) (gs hs : List Grant) → map (write_out s) gs ≡ map (write_out t) hs → gs ≡ hs
tickets-same s t [] [] e = refl
tickets-same s t [] (h ∷ hs) e = cc
tickets-same s t (g ∷ gs) [] e = cc
tickets-same s t (g ∷ gs) (h ∷ hs) e =
    let a : write_out s g ≡ write_out t h = cc in
    let b : map (write_out s) gs ≡ map (write_out t) hs = cc in
    λ n. (a n).ticket ∷ tickets-same s t gs hs b n

rewritten-same : (s t : Trail) (gs hs : List Grant) (who p n : ℕ) → map (write_out s) gs ≡ map (write_out t) hs → is_out (grant who p n) gs ≡ true → written_since s n p ≡ written_since t n p
rewritten-same s t [] hs who p n e o = cc
rewritten-same s t (g ∷ gs) [] who p n e o = cc
rewritten-same s t (g ∷ gs) (h ∷ hs) who p n e o = go (same_grant (grant who p n) g) refl o (rewritten-same s t gs hs who p n (cc))
  where
    here : write_out s g ≡ write_out t h
    here = cc

    go : (b : Bool) → same_grant (grant who p n) g ≡ b → (b || is_out (grant who p n) gs) ≡ true → (is_out (grant who p n) gs ≡ true → written_since s n p ≡ written_since t n p) → written_since s n p ≡ written_since t n p
    go true x o ih =
        let k = and_parts (p == g.page) (n == g.serial) (and_parts (who == g.client) _ x).1 in
        let i : p ≡ g.page = eqb-true p g.page k.0 in
        let j : n ≡ g.serial = eqb-true n g.serial k.1 in
        (λ z. written_since s (j z) (i z)) ∙ ap (λ w. w.rewritten) here ∙ (λ z. written_since t (here-serial z) (here-page z))
      where
        here-serial : h.serial ≡ n
        here-serial = let k = and_parts (p == g.page) (n == g.serial) (and_parts (who == g.client) _ x).1 in sym (ap (λ w. w.ticket.serial) here) ∙ sym (eqb-true n g.serial k.1)

        here-page : h.page ≡ p
        here-page = let k = and_parts (p == g.page) (n == g.serial) (and_parts (who == g.client) _ x).1 in sym (ap (λ w. w.ticket.page) here) ∙ sym (eqb-true p g.page k.0)
    go false x o ih = ih o

module _ (c : Parameters) (s t : Trail) (l : Legal c s) (m : Legal c t) (e : standing c s ≡ standing c t) where
  same-page : (p : ℕ) → nat_lt p c.pages ≡ true → page_standing c s p ≡ page_standing c t p
  same-page p h = each-at (page_standing c s) (page_standing c t) 0 c.pages p (ap (λ x. x.pages) e) (omega arith) (let k = ltb-true p c.pages h in omega arith)

  -- what a page is told of, in the file and outside
  at-page : {X : Type 0} (f : Trail → ℕ → X) (g : PageStanding → X) → ((u : Trail) (p : ℕ) → f u p ≡ g (page_standing c u p)) → ((p : ℕ) → nat_lt p c.pages ≡ false → f s p ≡ f t p) → (p : ℕ) → f s p ≡ f t p
  at-page {X = X} f g h out p = go (nat_lt p c.pages) refl
    where
      go : (b : Bool) → nat_lt p c.pages ≡ b → f s p ≡ f t p
      go true k = h s p ∙ ap g (same-page p k) ∙ sym (h t p)
      go false k = out p k

  same-content : (p : ℕ) → content_of s p ≡ content_of t p
  same-content = at-page content_of (λ x. x.content) (λ u p. refl) (λ p k. rw (away-outside c s l p k, away-outside c t m p k) refl)

  same-resident : (p : ℕ) → resident s p ≡ resident t p
  same-resident p = go (resident s p) (resident t p) (same-content p)
    where
      go : (a b : Bool) → content_if a (content s p) ≡ content_if b (content t p) → a ≡ b
      go true true h = refl
      go false false h = refl
      go true false h = cc
      go false true h = cc

  same-held : (p : ℕ) → resident s p ≡ true → (held s p ≡ held t p) × (page_lsn s p ≡ page_lsn t p)
  same-held p r = go (resident s p) (resident t p) r (sym (same-resident p) ∙ r) (same-content p)
    where
      go : (a b : Bool) → a ≡ true → b ≡ true → content_if a (content s p) ≡ content_if b (content t p) → (held s p ≡ held t p) × (page_lsn s p ≡ page_lsn t p)
      go true true x y h =
          let k : content s p ≡ content t p = cc in
          (ap (λ x. x.image) k, ap (λ x. x.page_lsn) k)
      go false b x y h = cc
      go true false x y h = cc

  same-stamps : (p i : ℕ) → hist c s p i ≡ hist c t p i
  same-stamps p zero = refl
  same-stamps p (suc i) = go (nat_lt i c.k) refl
    where
      same-list : each_from (hist c s p) 1 c.k ≡ each_from (hist c t p) 1 c.k
      same-list = at-page (λ u q. each_from (hist c u q) 1 c.k) (λ x. x.stamps) (λ u q. refl)
          (λ q k. λ n. each_from (λ i. stamp c.k c.correlated i ((unknown-outside c s l q k ∙ sym (unknown-outside c t m q k)) n)) 1 c.k) p

      none : (u : Trail) → nat_lt i c.k ≡ false → hist c u p (suc i) ≡ 0
      none u w = ap (λ b. if b then burst_stamp (bursts c.correlated (references c u p)) i else 0) w

      go : (b : Bool) → nat_lt i c.k ≡ b → hist c s p (suc i) ≡ hist c t p (suc i)
      go true w = each-at (hist c s p) (hist c t p) 1 c.k (suc i) same-list (omega arith) (let k = ltb-true i c.k w in omega arith)
      go false w = none s w ∙ sym (none t w)

  pub same-from-standing : SameStanding c s t
  same-from-standing = record {
    time = ap (λ x. x.clock) e;
    mark = ap (λ x. x.durable) e;
    next_pass = ap (λ x. x.passes) e;
    next_ticket = ap (λ x. x.tickets) e;
    passes_held = ap (λ x. x.passes_out) e;
    reads_held = ap (λ x. x.reads_out) e;
    writes_held = tickets-same s t (writes_out s) (writes_out t) (ap (λ x. x.writes_out) e);
    places = same-resident;
    images = λ p r. (same-held p r).0;
    tops = λ p r. (same-held p r).1;
    changed = at-page unsaved (λ x. x.unsaved) (λ u p. refl) (λ p k. saved-outside c s l p k ∙ sym (saved-outside c t m p k));
    lasts = at-page (last c) (λ x. x.last) (λ u p. refl) (λ p k. ap last_time (unknown-outside c s l p k ∙ sym (unknown-outside c t m p k)));
    stamps = same-stamps;
    rewritten = λ who p n o. rewritten-same s t (writes_out s) (writes_out t) who p n (ap (λ x. x.writes_out) e) o;
  }

-- and back
module _ (c : Parameters) (s t : Trail) (same : SameStanding c s t) where
  write-outs : (gs : List Grant) → ((who p n : ℕ) → is_out (grant who p n) gs ≡ true → written_since s n p ≡ written_since t n p) → map (write_out s) gs ≡ map (write_out t) gs
  write-outs [] h = refl
  write-outs (g ∷ gs) h =
      let a : written_since s g.serial g.page ≡ written_since t g.serial g.page = h g.client g.page g.serial (rw (eq-eqb g.client g.client refl, eq-eqb g.page g.page refl, eq-eqb g.serial g.serial refl) refl) in
      let b = write-outs gs (λ who p n o. h who p n (or_right (same_grant (grant who p n) g) _ o)) in
      λ n. record { ticket = g; rewritten = a n } ∷ b n

  contents : (p : ℕ) → content_of s p ≡ content_of t p
  contents p = go (resident s p) refl (resident t p) (same.places p)
    where
      go : (a : Bool) → resident s p ≡ a → (b : Bool) → a ≡ b → content_if a (content s p) ≡ content_if b (content t p)
      go true r true x = λ n. Some (record { image = same.images p r n; page_lsn = same.tops p r n })
      go false r false x = refl
      go true r false x = cc
      go false r true x = cc

  pub standing-from-same : standing c s ≡ standing c t
  standing-from-same = λ n. record {
    clock = same.time n;
    durable = same.mark n;
    passes = same.next_pass n;
    tickets = same.next_ticket n;
    passes_out = same.passes_held n;
    reads_out = same.reads_held n;
    writes_out = (write-outs (writes_out s) same.rewritten ∙ ap (map (write_out t)) same.writes_held) n;
    pages = each_from (λ p. record {
      stamps = each_from (λ i. same.stamps p i n) 1 c.k;
      last = same.lasts p n;
      content = contents p n;
      unsaved = same.changed p n;
    }) 0 c.pages;
  }
