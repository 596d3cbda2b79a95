-- The least LSN of what is not saved: when there is one, and what a good end of a write-out leaves.
use Rattle.std.proofs.Common.{◌≡◌, ◌⊎◌, inl, inr, refl, sym, ap, subst, ◌∙◌, ℕ, min, ◌≤◌, Bool, true, false, not, ◌&&◌, ◌||◌, ◌==◌, if◌then◌else◌, List, [], ◌∷◌, ◌++◌, Option, Some, None, arith}
use Rattle.std.specs.Option.{is_some}
use Rattle.std.proofs.lemmas.Option.{none-some}
use Rattle.std.proofs.lemmas.Bool.{cases_lt, eqb-true, eqb-false, eq-eqb, ne_eqb, and_parts, or_parts, or_cases, or_left, or_right, not-true, true≢false}
use Rattle.bp_trail.specs.declared.entries.Entry.{Entry}
use Rattle.bp_trail.specs.declared.entries.Call.{Call}
use Rattle.bp_trail.specs.declared.entries.Call.TheVariants.{WriteEnd, Discard}
use Rattle.bp_trail.specs.declared.entries.Reply.{Reply}
use Rattle.bp_trail.specs.declared.entries.Reply.TheVariants.{WriteFirst, Cleaned, StillDirty, Busy, Absent, Discarded, Pinned}
use Rattle.bp_trail.specs.Parameters.{Parameters}
use Rattle.bp_trail.specs.Lists.{some, since, or_less, least_since}
use Rattle.bp_trail.specs.Event.{grant, begins, begins_of, discards, ends_well, writes, lsn_of, lsn_written}
use Rattle.bp_trail.specs.Trail.{Trail}
use Rattle.bp_trail.specs.Passes.{writes_out}
use Rattle.bp_trail.specs.Saved.{began_saving, settles, unsaved, first_lsn, IsRedoFrom}
use Rattle.bp_trail.specs.Legal.{is_out, Legal}
use Rattle.bp_trail.proofs.Flights.{in_flight, in-flight-of, flights}
use Rattle.bp_trail.proofs.Events.{Event, event-of}
use Rattle.bp_trail.proofs.Events.Event.{write_clean, write_dirty, discard_busy, discard_absent, discard_pinned, discarded}

-- ---- when there is a least one

or-less-some : (n : ℕ) (least : Option ℕ) → is_some (or_less (Some n) least) ≡ true
or-less-some n None = refl
or-less-some n (Some m) = refl

pub least-some : {X : Type 0} (start : X → Bool) (value : X → Option ℕ) (stop : X → Bool) → ((x : X) → is_some (value x) ≡ start x) → (xs : List X) → is_some (least_since value stop xs) ≡ since start stop xs
least-some start value stop told [] = refl
least-some start value stop told (x ∷ xs) = go (value x) (start x) (told x) (stop x) (least-some start value stop told xs)
  where
    go : (v : Option ℕ) (s : Bool) → is_some v ≡ s → (d : Bool) → is_some (least_since value stop xs) ≡ since start stop xs
        → is_some (or_less v (if d then None else least_since value stop xs)) ≡ (s || (not d && since start stop xs))
    go (Some n) true i d ih = or-less-some n (if d then None else least_since value stop xs)
    go (Some n) false i d ih = absurd (true≢false i)
    go None true i d ih = absurd (true≢false (sym i))
    go None false i true ih = refl
    go None false i false ih = ih

pub lsn-some : (p : ℕ) (e : Entry) → is_some (lsn_written p e) ≡ writes p e
lsn-some p e = go (writes p e)
  where
    go : (b : Bool) → (let o : Option ℕ = if b then Some (lsn_of e.call) else None in is_some o) ≡ b
    go true = refl
    go false = refl

pub first-unsaved : (past : Trail) (p : ℕ) → is_some (first_lsn past p) ≡ unsaved past p
first-unsaved past p = least-some (writes p) (lsn_written p) (settles past p) (lsn-some p) past

pub none-of : (o : Option ℕ) → is_some o ≡ false → o ≡ None
none-of None h = refl
none-of (Some n) h = absurd (true≢false h)

-- ---- a good end of a write-out of the page, and of another one

-- p is discarded, or a write-out of it begins
abbrev lost_or_sent : ℕ → Entry → Bool
lost_or_sent p e = discards p e || begins_of p e.reply

module _ (t p : ℕ) (whole : Trail) (well : some (λ e. ends_well t e.call) whole ≡ true) where
  saved-at : (r : Reply) → begins t r ≡ true → begins_of p r ≡ true → began_saving whole p r ≡ true
  saved-at (WriteFirst u q image) i j = rw (j, eqb-true u t i) well
  saved-at _ i j = cc

  not-saved-at : (r : Reply) → begins_of p r ≡ false → began_saving whole p r ≡ false
  not-saved-at (WriteFirst u q image) j = rw j refl
  not-saved-at _ j = refl

  -- what is left are the writes since the begin
  least-begin : (past : Trail) → in_flight t p past ≡ true → least_since (lsn_written p) (settles whole p) past ≡ least_since (lsn_written p) (lost_or_sent p) past
  least-begin [] f = cc
  least-begin (e ∷ past) f = go (begins t e.reply) refl f (least-begin past)
    where
      go : (b : Bool) → begins t e.reply ≡ b → (if b then begins_of p e.reply && not (some (λ d. begins t d.reply) past) else not (begins_of p e.reply) && (not (discards p e) && in_flight t p past)) ≡ true
          → (in_flight t p past ≡ true → least_since (lsn_written p) (settles whole p) past ≡ least_since (lsn_written p) (lost_or_sent p) past)
          → or_less (lsn_written p e) (if settles whole p e then None else least_since (lsn_written p) (settles whole p) past)
          ≡ or_less (lsn_written p e) (if lost_or_sent p e then None else least_since (lsn_written p) (lost_or_sent p) past)
      go true i k ih =
          let j = (and_parts (begins_of p e.reply) _ k).0 in
          rw (or_right (discards p e) (began_saving whole p e.reply) (saved-at e.reply i j), or_right (discards p e) (begins_of p e.reply) j) refl
      go false i k ih =
          let j = and_parts (not (begins_of p e.reply)) _ k in
          let n = not-true (begins_of p e.reply) j.0 in
          let d = and_parts (not (discards p e)) _ j.1 in
          rw (not-true (discards p e) d.0, not-saved-at e.reply n, n) (ap (or_less (lsn_written p e)) (ih d.1))

abbrev ended : ℕ → ℕ → ℕ → Reply → Entry
ended who t p r = record { client = who; call = WriteEnd t p true; reply = r }

-- the page's least LSN is that of its writes since the newest begin
pub first-ended-well : (c : Parameters) (past : Trail) (who t p : ℕ) (r : Reply) → Legal c past → is_out (grant who p t) (writes_out past) ≡ true → settles (ended who t p r ∷ past) p (ended who t p r) ≡ false
    → first_lsn (ended who t p r ∷ past) p ≡ least_since (lsn_written p) (lost_or_sent p) past
first-ended-well c past who t p r l o n =
    let f = in-flight-of (λ t p. in_flight t p past) who p t (writes_out past) (flights c past l).begun o in
    ap (λ (b : Bool). if b then None else least_since (lsn_written p) (settles (ended who t p r ∷ past) p) past) n
    ∙ least-begin t p (ended who t p r ∷ past) (or_left (t == t) (some (λ e. ends_well t e.call) past) (eq-eqb t t refl)) past f

-- a good end saves no other page
module _ (t p q : ℕ) (whole : Trail) (other : (p == q) ≡ false) (who : ℕ) (r : Reply) where
  abbrev after : List Entry → Option ℕ
  after past = least_since (lsn_written q) (settles (ended who t p r ∷ whole) q) past

  abbrev before : List Entry → Option ℕ
  before past = least_since (lsn_written q) (settles whole q) past

  at-later : (a : Reply) → begins t a ≡ false → began_saving (ended who t p r ∷ whole) q a ≡ began_saving whole q a
  at-later (WriteFirst u v image) h = rw (ne_eqb u t (eqb-false u t h)) refl
  at-later _ h = refl

  at-begin : (a : Reply) → begins_of p a ≡ true → (w : Trail) → began_saving w q a ≡ false
  at-begin (WriteFirst u v image) h w = let e : (v == q) ≡ false = subst (λ x. (x == q) ≡ false) (sym (eqb-true v p h)) other in rw e refl
  at-begin _ h w = cc

  none-since : (past : Trail) → some (λ d. begins t d.reply) past ≡ false → after past ≡ before past
  none-since [] h = refl
  none-since (d ∷ past) h =
      let k = or_parts (begins t d.reply) _ h in
      rw (at-later d.reply k.0) (ap (λ (x : Option ℕ). or_less (lsn_written q d) (if settles whole q d then None else x)) (none-since past k.1))

  pub first-other : (past : Trail) → in_flight t p past ≡ true → after past ≡ before past
  first-other [] f = refl
  first-other (d ∷ past) f = go (begins t d.reply) refl f (first-other past)
    where
      go : (b : Bool) → begins t d.reply ≡ b → (if b then begins_of p d.reply && not (some (λ x. begins t x.reply) past) else not (begins_of p d.reply) && (not (discards p d) && in_flight t p past)) ≡ true
          → (in_flight t p past ≡ true → after past ≡ before past) → after (d ∷ past) ≡ before (d ∷ past)
      go true i k ih =
          let j = and_parts (begins_of p d.reply) _ k in
          rw (at-begin d.reply j.0 (ended who t p r ∷ whole), at-begin d.reply j.0 whole) (ap (λ (x : Option ℕ). or_less (lsn_written q d) (if discards q d || false then None else x)) (none-since past (not-true _ j.1)))
      go false i k ih = rw (at-later d.reply i) (ap (λ (x : Option ℕ). or_less (lsn_written q d) (if settles whole q d then None else x)) (ih (and_parts (not (discards p d)) _ (and_parts (not (begins_of p d.reply)) _ k).1).1))

-- ---- more stops leave no lesser one

record AtMost (least : Option ℕ) (n : ℕ) : Type 0 where
  m : ℕ
  is : least ≡ Some m
  less : m ≤ n

or-less-left : (n : ℕ) (least : Option ℕ) → AtMost (or_less (Some n) least) n
or-less-left n None = record { m = n; is = refl; less = omega arith }
or-less-left n (Some m) = record { m = min n m; is = refl; less = omega arith }

or-less-right : (v least : Option ℕ) (n : ℕ) → AtMost least n → AtMost (or_less v least) n
or-less-right None least n a = a
or-less-right (Some k) None n a = cc
or-less-right (Some k) (Some m) n a = let e : m ≡ a.m = cc in record { m = min k m; is = refl; less = omega (arith, e, a.less) }

-- of a least one that is one of two
or-less-of : (v least : Option ℕ) (n : ℕ) → or_less v least ≡ Some n → (v ≡ Some n) ⊎ (least ≡ Some n)
or-less-of None least n e = inr e
or-less-of (Some k) None n e = inl e
or-less-of (Some k) (Some m) n e = elim (cases_lt k m) [
  | inl lt ↦ (let i : min k m ≡ k = omega arith in inl (ap Some (sym i) ∙ e))
  | inr ge ↦ (let i : min k m ≡ m = omega arith in inr (ap Some (sym i) ∙ e))
]

-- with a stop wherever another has one, the least one is no lesser
module _ {X : Type 0} (value : X → Option ℕ) (stop sooner : X → Bool) (also : (x : X) → stop x ≡ true → sooner x ≡ true) where
  least-sooner : (xs : List X) (n : ℕ) → least_since value sooner xs ≡ Some n → AtMost (least_since value stop xs) n
  least-sooner [] n e = cc
  least-sooner (x ∷ xs) n e = go (or-less-of (value x) (if sooner x then None else least_since value sooner xs) n e) (sooner x) refl (stop x) refl (least-sooner xs n)
    where
      go : (value x ≡ Some n) ⊎ ((if sooner x then None else least_since value sooner xs) ≡ Some n) → (b : Bool) → sooner x ≡ b → (d : Bool) → stop x ≡ d
          → (least_since value sooner xs ≡ Some n → AtMost (least_since value stop xs) n) → AtMost (or_less (value x) (if stop x then None else least_since value stop xs)) n
      go (inl i) b j d k ih = rw i (or-less-left n (if stop x then None else least_since value stop xs))
      go (inr i) true j d k ih = absurd (none-some n (sym (ap (λ (b : Bool). if b then None else least_since value sooner xs) j) ∙ i))
      go (inr i) false j true k ih = absurd (true≢false (sym (also x k) ∙ j))
      go (inr i) false j false k ih = rw k (or-less-right (value x) (least_since value stop xs) n (ih (sym (ap (λ (b : Bool). if b then None else least_since value sooner xs) j) ∙ i)))

  least-within : (later earlier : List X) (x : X) (n : ℕ) → value x ≡ Some n → some stop later ≡ false → AtMost (least_since value stop (later ++ x ∷ earlier)) n
  least-within [] earlier x n e h = rw e (or-less-left n (if stop x then None else least_since value stop earlier))
  least-within (d ∷ later) earlier x n e h =
      let k = or_parts (stop d) _ h in
      rw k.0 (or-less-right (value d) (least_since value stop (later ++ x ∷ earlier)) n (least-within later earlier x n e k.1))

begun-of : (past : Trail) (p : ℕ) (r : Reply) → began_saving past p r ≡ true → begins_of p r ≡ true
begun-of past p (WriteFirst t q image) h = (and_parts (q == p) _ h).0
begun-of past p _ h = cc

settled-sooner : (past : Trail) (p : ℕ) (d : Entry) → settles past p d ≡ true → lost_or_sent p d ≡ true
settled-sooner past p d h = elim (or_cases (discards p d) (began_saving past p d.reply) h) as (λ _. lost_or_sent p d ≡ true)
    [ inl i ↦ or_left (discards p d) (begins_of p d.reply) i | inr j ↦ or_right (discards p d) (begins_of p d.reply) (begun-of past p d.reply j) ]

-- ---- the laws

pub none-unsaved : (past : Trail) → ((p : ℕ) → unsaved past p ≡ false) → IsRedoFrom past None
none-unsaved past h = λ p. none-of (first_lsn past p) (first-unsaved past p ∙ h p)

pub redo-covers : (past later earlier : Trail) (e : Entry) (p n lsn : ℕ) → past ≡ later ++ e ∷ earlier → lsn_written p e ≡ Some n → some (settles past p) later ≡ false → IsRedoFrom past (Some lsn) → lsn ≤ n
redo-covers past later earlier e p n lsn stands written unsaved_still redo =
    let a = subst (λ s. AtMost (least_since (lsn_written p) (settles past p) s) n) (sym stands) (least-within (lsn_written p) (settles past p) (settles past p) (λ x h. h) later earlier e n written unsaved_still) in
    let b = redo.1 p a.m a.is in
    omega (arith, a.less, b)

module _ (c : Parameters) (past : Trail) (l : Legal c past) (who t p : ℕ) (r : Reply) (o : is_out (grant who p t) (writes_out past) ≡ true) (n : settles (ended who t p r ∷ past) p (ended who t p r) ≡ false) where
  after-end : (q m : ℕ) → first_lsn (ended who t p r ∷ past) q ≡ Some m → settles (ended who t p r ∷ past) q (ended who t p r) ≡ false → AtMost (first_lsn past q) m
  after-end q m e k = go (p == q) refl
    where
      go : (b : Bool) → (p == q) ≡ b → AtMost (first_lsn past q) m
      go true i =
          let same = eqb-true p q i in
          let own = first-ended-well c past who t p r l o n in
          least-sooner (lsn_written q) (settles past q) (lost_or_sent q) (settled-sooner past q) past m
          (subst (λ y. least_since (lsn_written y) (lost_or_sent y) past ≡ first_lsn (ended who t p r ∷ past) y) same (sym own) ∙ e)
      go false i =
          let f = in-flight-of (λ t p. in_flight t p past) who p t (writes_out past) (flights c past l).begun o in
          let same = first-other t p q past i who r past f in
          record { m = m; is = sym same ∙ sym (ap (λ (b : Bool). if b then None else least_since (lsn_written q) (settles (ended who t p r ∷ past) q) past) k) ∙ e; less = omega arith }

  end-rises : (a b : ℕ) → ((q : ℕ) → settles (ended who t p r ∷ past) q (ended who t p r) ≡ false) → IsRedoFrom past (Some a) → IsRedoFrom (ended who t p r ∷ past) (Some b) → a ≤ b
  end-rises a b k old new =
      let x = after-end new.0.0 b new.0.1 (k new.0.0) in
      let y = old.1 new.0.0 x.m x.is in
      omega (arith, x.less, y)

rises-with : (c : Parameters) (past : Trail) → Legal c past → (who : ℕ) (call : Call) (reply : Reply) → Event c past who call reply → (t p a b : ℕ) → call ≡ WriteEnd t p true
    → IsRedoFrom past (Some a) → (let e : Entry = record { client = who; call = call; reply = reply } in IsRedoFrom (e ∷ past) (Some b)) → a ≤ b
rises-with c past l who _ _ (write_clean t p o w) u q a b e old new = end-rises c past l who t p Cleaned o refl a b (λ y. refl) old new
rises-with c past l who _ _ (write_dirty t p o w) u q a b e old new = end-rises c past l who t p StillDirty o refl a b (λ y. refl) old new
rises-with c past l who _ _ _ u q a b e old new = cc

pub redo-rises : (c : Parameters) (past : Trail) (e : Entry) (t p a b : ℕ) → Legal c (e ∷ past) → e.call ≡ WriteEnd t p true → IsRedoFrom past (Some a) → IsRedoFrom (e ∷ past) (Some b) → a ≤ b
redo-rises c past e t p a b l i old new = rises-with c past l.before e.client e.call e.reply (event-of c past e l.here) t p a b i old new

-- a discard lowers it as little
abbrev dropped : ℕ → ℕ → Reply → Entry
dropped who p r = record { client = who; call = Discard p; reply = r }

dropped-rises : (past : Trail) (p who : ℕ) (r : Reply) (a b : ℕ) → IsRedoFrom past (Some a) → IsRedoFrom (dropped who p r ∷ past) (Some b) → a ≤ b
dropped-rises past p who r a b old new = go (settles (dropped who p r ∷ past) new.0.0 (dropped who p r)) refl
  where
    q : ℕ
    q = new.0.0

    same : least_since (lsn_written q) (settles (dropped who p r ∷ past) q) past ≡ first_lsn past q
    same = refl

    go : (d : Bool) → settles (dropped who p r ∷ past) q (dropped who p r) ≡ d → a ≤ b
    go true i = absurd (none-some b (sym (ap (λ (x : Bool). if x then None else first_lsn past q) i) ∙ new.0.1))
    go false i = old.1 q b (sym (ap (λ (x : Bool). if x then None else first_lsn past q) i) ∙ new.0.1)

dropped-with : (c : Parameters) (past : Trail) (who : ℕ) (call : Call) (reply : Reply) → Event c past who call reply → (p a b : ℕ) → call ≡ Discard p
    → IsRedoFrom past (Some a) → (let e : Entry = record { client = who; call = call; reply = reply } in IsRedoFrom (e ∷ past) (Some b)) → a ≤ b
dropped-with c past who _ _ (discard_busy q) p a b e old new = dropped-rises past q who Busy a b old new
dropped-with c past who _ _ (discard_absent q x) p a b e old new = dropped-rises past q who Absent a b old new
dropped-with c past who _ _ (discard_pinned q) p a b e old new = dropped-rises past q who Pinned a b old new
dropped-with c past who _ _ (discarded q x) p a b e old new = dropped-rises past q who Discarded a b old new
dropped-with c past who _ _ _ p a b e old new = cc

pub redo-rises-dropped : (c : Parameters) (past : Trail) (e : Entry) (p a b : ℕ) → Legal c (e ∷ past) → e.call ≡ Discard p → IsRedoFrom past (Some a) → IsRedoFrom (e ∷ past) (Some b) → a ≤ b
redo-rises-dropped c past e p a b l i old new = dropped-with c past e.client e.call e.reply (event-of c past e l.here) p a b i old new
