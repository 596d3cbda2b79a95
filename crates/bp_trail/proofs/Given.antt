-- Passes and tickets that are out are those that were given and that no entry gives back; and each serial number is given once.
use Rattle.std.proofs.Common.{◌≡◌, refl, sym, ap, subst, ◌∙◌, ℕ, suc, ◌≤◌, Bool, true, false, not, ◌||◌, ◌&&◌, ◌==◌, cond, List, [], ◌∷◌, length, filter, filter_map, Contains, Decides, Option, Some, None, inl, inr, arith}
use Rattle.std.specs.List.{cons_option}
use Rattle.std.specs.Option.{option_map_or}
use Rattle.std.proofs.lemmas.Bool.{true≢false, and_from, and_parts, or_cases, or_left, or_right, eqb-true, eq-eqb, not-true, false_from_ne_true}
use Rattle.bp_trail.specs.declared.entries.Entry.{Entry}
use Rattle.bp_trail.specs.declared.entries.Call.{Call}
use Rattle.bp_trail.specs.declared.entries.Reply.{Reply}
use Rattle.bp_trail.specs.Parameters.{Parameters}
use Rattle.bp_trail.specs.Lists.{some, since, without, and_given, outstanding, EachEntry}
use Rattle.bp_trail.specs.Event.{Grant, grant, same_grant, page_of, pass_given, read_ticket_given, write_ticket_given, ticket_given, pass_back, read_ticket_back, write_ticket_back}
use Rattle.bp_trail.specs.Trail.{Trail}
use Rattle.bp_trail.specs.Passes.{pass_of, read_ticket_of, write_ticket_of, passes, tickets, passes_out, reads_out, writes_out, is_of}
use Rattle.bp_trail.specs.Legal.{is_out, Legal}
use Rattle.bp_trail.specs.Sentences.{gives_it, gives_back, IsGivenSince, unended, IsUnended, HasUnended}
use Rattle.bp_trail.proofs.Elements.{contains-here, contains-later, contains-cases, contains-none, since-lasts}
use Rattle.bp_trail.proofs.Events.{Event, event-of}
use Rattle.bp_trail.proofs.Events.Event.{fix_hit, fix_load, fix_replace, fix_write, flush_write, read_good, read_bad, read_wrong, write_bad, write_clean, write_dirty, unfixed}
use Rattle.bp_trail.proofs.Serials.{numbered, out-serial, same-grant-is}
use Rattle.bp_trail.proofs.Known.{serial-below}

abbrev number : Grant → ℕ
number g = g.serial

-- what an entry gives back is no longer among those without an end
module _ (o : Option ℕ) (older : Grant → Bool) where
  abbrev ended : Grant → Bool
  ended g = option_map_or (λ n. g.serial == n) o false

  without-is : (gs : List Grant) → without number o (filter (λ g. not (older g)) gs) ≡ filter (λ g. not (ended g || older g)) gs
  without-is gs = go o gs
    where
      at : (n : ℕ) (g : Grant) (gs : List Grant) (a b : Bool) → (g.serial == n) ≡ a
          → filter (λ y. not (y.serial == n)) (filter (λ g. not (older g)) gs) ≡ filter (λ g. not ((g.serial == n) || older g)) gs
          → filter (λ y. not (y.serial == n)) (cond (not b) (g ∷ filter (λ g. not (older g)) gs) (filter (λ g. not (older g)) gs)) ≡ cond (not (a || b)) (g ∷ filter (λ g. not ((g.serial == n) || older g)) gs) (filter (λ g. not ((g.serial == n) || older g)) gs)
      at n g gs true true e ih = ih
      at n g gs true false e ih = ap (λ d. cond (not d) (g ∷ filter (λ y. not (y.serial == n)) (filter (λ g. not (older g)) gs)) (filter (λ y. not (y.serial == n)) (filter (λ g. not (older g)) gs))) e ∙ ih
      at n g gs false true e ih = ih
      at n g gs false false e ih = ap (λ d. cond (not d) (g ∷ filter (λ y. not (y.serial == n)) (filter (λ g. not (older g)) gs)) (filter (λ y. not (y.serial == n)) (filter (λ g. not (older g)) gs))) e ∙ ap (λ r. g ∷ r) ih

      each : (n : ℕ) (gs : List Grant) → filter (λ y. not (y.serial == n)) (filter (λ g. not (older g)) gs) ≡ filter (λ g. not ((g.serial == n) || older g)) gs
      each n [] = refl
      each n (g ∷ gs) = at n g gs (g.serial == n) (older g) refl (each n gs)

      go : (o : Option ℕ) (gs : List Grant) → without number o (filter (λ g. not (older g)) gs) ≡ filter (λ g. not (option_map_or (λ n. g.serial == n) o false || older g)) gs
      go None gs = refl
      go (Some n) gs = each n gs

module _ (gives : Entry → Option Grant) (ends : Entry → Option ℕ) where
  -- what an entry gives, neither it nor an entry before it gives back
  abbrev pub IsFresh : Trail → Entry → Type 0
  IsFresh past e = (g : Grant) → gives e ≡ Some g → some (gives_back ends g) (e ∷ past) ≡ false

  pub unended-is : (past : Trail) → EachEntry IsFresh past → outstanding number gives ends past ≡ unended gives ends past
  unended-is [] fresh = refl
  unended-is (e ∷ past) fresh = go (gives e) refl (ap (without number (ends e)) (unended-is past fresh.before) ∙ without-is (ends e) (λ g. some (gives_back ends g) past) (filter_map gives past))
    where
      go : (o : Option Grant) → gives e ≡ o → without number (ends e) (outstanding number gives ends past) ≡ filter (λ g. not (some (gives_back ends g) (e ∷ past))) (filter_map gives past)
          → and_given o (without number (ends e) (outstanding number gives ends past)) ≡ filter (λ g. not (some (gives_back ends g) (e ∷ past))) (cons_option o (filter_map gives past))
      go None i h = h
      go (Some g) i h =
          ap (λ r. g ∷ r) h
          ∙ ap (λ b. cond (not b) (g ∷ filter (λ g. not (some (gives_back ends g) (e ∷ past))) (filter_map gives past)) (filter (λ g. not (some (gives_back ends g) (e ∷ past))) (filter_map gives past))) (sym (fresh.here g i))

  -- some of those given pass a test
  pub record Given (p q : Grant → Bool) (past : Trail) : Type 0 where
    pub entry : Entry
    pub inside : Contains past entry
    pub thing : Grant
    pub given : gives entry ≡ Some thing
    pub left : p thing ≡ true
    pub passes : q thing ≡ true

  given-sound : (p q : Grant → Bool) (past : Trail) → some q (filter p (filter_map gives past)) ≡ true → Given p q past
  given-sound p q [] h = absurd (true≢false (sym h))
  given-sound p q (e ∷ past) h = go (gives e) refl h (given-sound p q past)
    where
      later : Given p q past → Given p q (e ∷ past)
      later w = record { entry = w.entry; inside = contains-later e past w.entry w.inside; thing = w.thing; given = w.given; left = w.left; passes = w.passes }

      at : (g : Grant) → gives e ≡ Some g → (b : Bool) → p g ≡ b → (d : Bool) → q g ≡ d → some q (cond b (g ∷ filter p (filter_map gives past)) (filter p (filter_map gives past))) ≡ true
          → (some q (filter p (filter_map gives past)) ≡ true → Given p q past) → Given p q (e ∷ past)
      at g i true j true k h ih = record { entry = e; inside = contains-here e past; thing = g; given = i; left = j; passes = k }
      at g i true j false k h ih = later (ih (sym (ap (λ d. d || some q (filter p (filter_map gives past))) k) ∙ h))
      at g i false j d k h ih = later (ih h)

      go : (o : Option Grant) → gives e ≡ o → some q (filter p (cons_option o (filter_map gives past))) ≡ true → (some q (filter p (filter_map gives past)) ≡ true → Given p q past) → Given p q (e ∷ past)
      go None i h ih = later (ih h)
      go (Some g) i h ih = at g i (p g) refl (q g) refl h ih

  given-complete : (p q : Grant → Bool) (past : Trail) (e : Entry) (g : Grant) → Contains past e → gives e ≡ Some g → p g ≡ true → q g ≡ true → some q (filter p (filter_map gives past)) ≡ true
  given-complete p q [] e g h i j k = absurd (contains-none e h)
  given-complete p q (d ∷ past) e g h i j k = elim (contains-cases d past e h) as (λ _. some q (filter p (filter_map gives (d ∷ past))) ≡ true)
      [ inl is ↦ first (gives d) (ap gives is ∙ i) | inr l ↦ rest (gives d) (given-complete p q past e g l i j k) ]
    where
      first : (o : Option Grant) → o ≡ Some g → some q (filter p (cons_option o (filter_map gives past))) ≡ true
      first o is =
          ap (λ o. some q (filter p (cons_option o (filter_map gives past)))) is
          ∙ ap (λ b. some q (cond b (g ∷ filter p (filter_map gives past)) (filter p (filter_map gives past)))) j
          ∙ or_left (q g) (some q (filter p (filter_map gives past))) k

      rest : (o : Option Grant) → some q (filter p (filter_map gives past)) ≡ true → some q (filter p (cons_option o (filter_map gives past))) ≡ true
      rest None m = m
      rest (Some x) m = at (p x)
        where
          at : (b : Bool) → some q (cond b (x ∷ filter p (filter_map gives past)) (filter p (filter_map gives past))) ≡ true
          at true = or_right (q x) (some q (filter p (filter_map gives past))) m
          at false = m

  -- what is out, one by one and page by page
  pub out-decides : (past : Trail) → EachEntry IsFresh past → (g : Grant) → Decides (is_out g (outstanding number gives ends past)) (IsUnended gives ends past g)
  out-decides past fresh g = (
    λ h. let w = given-sound (λ g. not (some (gives_back ends g) past)) (same_grant g) past (sym (ap (is_out g) (unended-is past fresh)) ∙ h) in
        let i : w.thing ≡ g = same-grant-is g.client g.page g.serial w.thing w.passes in
        record { entry = w.entry; stands = w.inside; given = w.given ∙ ap Some i; not_ended = sym (ap (λ g. some (gives_back ends g) past) i) ∙ not-true _ w.left },
    λ w. ap (is_out g) (unended-is past fresh) ∙ given-complete (λ g. not (some (gives_back ends g) past)) (same_grant g) past w.entry g w.stands w.given (ap not w.not_ended) (itself g),
  )
    where
      itself : (g : Grant) → same_grant g g ≡ true
      itself g = and_from (g.client == g.client) _ (eq-eqb g.client g.client refl) (and_from (g.page == g.page) _ (eq-eqb g.page g.page refl) (eq-eqb g.serial g.serial refl))

  pub page-decides : (past : Trail) → EachEntry IsFresh past → (p : ℕ) → Decides (some (is_of p) (outstanding number gives ends past)) (HasUnended gives ends past p)
  page-decides past fresh p = (
    λ h. let w = given-sound (λ g. not (some (gives_back ends g) past)) (is_of p) past (sym (ap (some (is_of p)) (unended-is past fresh)) ∙ h) in
        record { thing = w.thing; of_page = eqb-true w.thing.page p w.passes; unended = record { entry = w.entry; stands = w.inside; given = w.given; not_ended = not-true _ w.left } },
    λ w. ap (some (is_of p)) (unended-is past fresh) ∙ given-complete (λ g. not (some (gives_back ends g) past)) (is_of p) past w.unended.entry w.thing w.unended.stands w.unended.given (ap not w.unended.not_ended) (eq-eqb w.thing.page p w.of_page),
  )

  -- where a serial number is the next one when it is given, and below the next one when it is given back, what is given is fresh
  module _ (c : Parameters) (next : Trail → ℕ) (grows : (e : Entry) (past : Trail) → next past ≤ next (e ∷ past))
      (is_next : (past : Trail) (e : Entry) → Legal c (e ∷ past) → (g : Grant) → gives e ≡ Some g → g.serial ≡ next past)
      (is_below : (past : Trail) (e : Entry) → Legal c (e ∷ past) → (n : ℕ) → ends e ≡ Some n → suc n ≤ next past) where
    back-at : (past : Trail) (e : Entry) → Legal c (e ∷ past) → (g : Grant) → gives_back ends g e ≡ true → suc g.serial ≤ next past
    back-at past e l g h = go (ends e) refl h
      where
        go : (o : Option ℕ) → ends e ≡ o → option_map_or (λ n. g.serial == n) o false ≡ true → suc g.serial ≤ next past
        go None i h = absurd (true≢false (sym h))
        go (Some n) i h = let b = is_below past e l n i in let s = eqb-true g.serial n h in omega arith

    back-below : (past : Trail) → Legal c past → (g : Grant) → some (gives_back ends g) past ≡ true → suc g.serial ≤ next past
    back-below [] l g h = absurd (true≢false (sym h))
    back-below (e ∷ past) l g h =
        let k = grows e past in
        elim (or_cases (gives_back ends g e) (some (gives_back ends g) past) h) as (λ _. suc g.serial ≤ next (e ∷ past))
        [ inl a ↦ (let b = back-at past e l g a in omega arith) | inr a ↦ (let b = back-below past l.before g a in omega arith) ]

    fresh-at : (past : Trail) (e : Entry) → Legal c (e ∷ past) → IsFresh past e
    fresh-at past e l g i =
        let s = is_next past e l g i in
        false_from_ne_true (some (gives_back ends g) (e ∷ past)) (λ h. elim (or_cases (gives_back ends g e) (some (gives_back ends g) past) h) as (λ _. ⊥)
        [ inl a ↦ (let b = back-at past e l g a in absurd (omega arith)) | inr a ↦ (let b = back-below past l.before g a in absurd (omega arith)) ])

    pub all-fresh : (past : Trail) → Legal c past → EachEntry IsFresh past
    all-fresh [] l = tt
    all-fresh (e ∷ past) l = record { here = fresh-at past e l; before = all-fresh past l.before }

-- ---- over all lists: what is out was given, and no later entry gives it back

module _ (g : Grant) where
  it-without : (o : Option ℕ) (gs : List Grant) → is_out g (without number o gs) ≡ (not (option_map_or (λ n. g.serial == n) o false) && is_out g gs)
  it-without None gs = refl
  it-without (Some n) gs = each gs
    where
      nothing : (b : Bool) → false ≡ (not b && false)
      nothing true = refl
      nothing false = refl

      -- one of another serial number is another one
      clash : (x : Grant) → same_grant g x ≡ true → (a b : Bool) → (x.serial == n) ≡ a → (g.serial == n) ≡ b → a ≡ b
      clash x k a b i j =
          let same : g.serial ≡ x.serial = eqb-true g.serial x.serial (and_parts (g.page == x.page) _ (and_parts (g.client == x.client) _ k).1).1 in
          sym i ∙ ap (λ m. m == n) (sym same) ∙ j

      at : (x : Grant) (gs : List Grant) (a b : Bool) → (x.serial == n) ≡ a → (g.serial == n) ≡ b → (d : Bool) → same_grant g x ≡ d
          → is_out g (filter (λ y. not (y.serial == n)) gs) ≡ (not b && is_out g gs)
          → is_out g (cond (not a) (x ∷ filter (λ y. not (y.serial == n)) gs) (filter (λ y. not (y.serial == n)) gs)) ≡ (not b && (same_grant g x || is_out g gs))
      at x gs true true i j d k ih = ih
      at x gs true false i j true k ih = absurd (true≢false (clash x k true false i j))
      at x gs true false i j false k ih = ih ∙ sym (ap (λ z. z || is_out g gs) k)
      at x gs false true i j true k ih = absurd (true≢false (sym (clash x k false true i j)))
      at x gs false true i j false k ih = ap (λ z. z || is_out g (filter (λ y. not (y.serial == n)) gs)) k ∙ ih
      at x gs false false i j d k ih = ap (λ z. same_grant g x || z) ih

      each : (gs : List Grant) → is_out g (filter (λ y. not (y.serial == n)) gs) ≡ (not (g.serial == n) && is_out g gs)
      each [] = nothing (g.serial == n)
      each (x ∷ gs) = at x gs (x.serial == n) (g.serial == n) refl refl (same_grant g x) refl (each gs)

  it-given : (o : Option Grant) (gs : List Grant) → is_out g (and_given o gs) ≡ (option_map_or (same_grant g) o false || is_out g gs)
  it-given None gs = refl
  it-given (Some x) gs = refl

  module _ (gives : Entry → Option Grant) (ends : Entry → Option ℕ) where
    out-since : (past : Trail) → is_out g (outstanding number gives ends past) ≡ since (gives_it gives g) (gives_back ends g) past
    out-since [] = refl
    out-since (e ∷ past) =
        it-given (gives e) (without number (ends e) (outstanding number gives ends past))
        ∙ ap (λ b. gives_it gives g e || b) (it-without (ends e) (outstanding number gives ends past) ∙ ap (λ b. not (gives_back ends g e) && b) (out-since past))

    pub out-lasts : (past : Trail) → Decides (is_out g (outstanding number gives ends past)) (IsGivenSince gives ends past g)
    out-lasts past =
        let d = since-lasts (gives_it gives g) (gives_back ends g) past in
        (λ h. d.0 (sym (out-since past) ∙ h), λ w. out-since past ∙ d.1 w)

-- ---- the three kinds

more : {X : Type 0} (o : Option X) (xs : List X) → length xs ≤ length (cons_option o xs)
more None xs = omega arith
more (Some x) xs = omega arith

module _ (c : Parameters) where
  pass-next : (past : Trail) (who : ℕ) (call : Call) (reply : Reply) → Event c past who call reply → (g : Grant) → pass_given who (page_of call) reply ≡ Some g → g.serial ≡ passes past
  pass-next past who _ _ (fix_hit p l r) g i = let j : grant who p (passes past) ≡ g = cc in sym (ap number j)
  pass-next past who _ _ (read_good t p image o) g i = let j : grant who p (passes past) ≡ g = cc in sym (ap number j)
  pass-next past who _ _ _ g i = cc

  read-next : (past : Trail) (who : ℕ) (call : Call) (reply : Reply) → Event c past who call reply → (g : Grant) → read_ticket_given who (page_of call) reply ≡ Some g → g.serial ≡ tickets past
  read-next past who _ _ (fix_load p m f) g i = let j : grant who p (tickets past) ≡ g = cc in sym (ap number j)
  read-next past who _ _ (fix_replace p v m w u) g i = let j : grant who p (tickets past) ≡ g = cc in sym (ap number j)
  read-next past who _ _ _ g i = cc

  write-next : (past : Trail) (who : ℕ) (call : Call) (reply : Reply) → Event c past who call reply → (g : Grant) → write_ticket_given who reply ≡ Some g → g.serial ≡ tickets past
  write-next past who _ _ (fix_write p v m w b) g i = let j : grant who v (tickets past) ≡ g = cc in sym (ap number j)
  write-next past who _ _ (flush_write p r w b) g i = let j : grant who p (tickets past) ≡ g = cc in sym (ap number j)
  write-next past who _ _ _ g i = cc

  module _ (past : Trail) (l : Legal c past) (who : ℕ) where
    pass-below : (call : Call) (reply : Reply) → Event c past who call reply → (n : ℕ) → pass_back call ≡ Some n → suc n ≤ passes past
    pass-below _ _ (unfixed m p o) n i = let j : m ≡ n = cc in subst (λ x. suc x ≤ passes past) j (serial-below m (passes past) (passes_out past) (numbered c past l).passes_below (out-serial who p m (passes_out past) o))
    pass-below _ _ _ n i = cc

    read-below : (call : Call) (reply : Reply) → Event c past who call reply → (n : ℕ) → read_ticket_back call ≡ Some n → suc n ≤ tickets past
    read-below _ _ (read_good t p image o) n i = let j : t ≡ n = cc in subst (λ x. suc x ≤ tickets past) j (serial-below t (tickets past) (reads_out past) (numbered c past l).reads_below (out-serial who p t (reads_out past) o))
    read-below _ _ (read_bad t p o) n i = let j : t ≡ n = cc in subst (λ x. suc x ≤ tickets past) j (serial-below t (tickets past) (reads_out past) (numbered c past l).reads_below (out-serial who p t (reads_out past) o))
    read-below _ _ (read_wrong t p o) n i = let j : t ≡ n = cc in subst (λ x. suc x ≤ tickets past) j (serial-below t (tickets past) (reads_out past) (numbered c past l).reads_below (out-serial who p t (reads_out past) o))
    read-below _ _ _ n i = cc

    write-below : (call : Call) (reply : Reply) → Event c past who call reply → (n : ℕ) → write_ticket_back call ≡ Some n → suc n ≤ tickets past
    write-below _ _ (write_bad t p o) n i = let j : t ≡ n = cc in subst (λ x. suc x ≤ tickets past) j (serial-below t (tickets past) (writes_out past) (numbered c past l).writes_below (out-serial who p t (writes_out past) o))
    write-below _ _ (write_clean t p o w) n i = let j : t ≡ n = cc in subst (λ x. suc x ≤ tickets past) j (serial-below t (tickets past) (writes_out past) (numbered c past l).writes_below (out-serial who p t (writes_out past) o))
    write-below _ _ (write_dirty t p o w) n i = let j : t ≡ n = cc in subst (λ x. suc x ≤ tickets past) j (serial-below t (tickets past) (writes_out past) (numbered c past l).writes_below (out-serial who p t (writes_out past) o))
    write-below _ _ _ n i = cc

  more-passes : (e : Entry) (past : Trail) → passes past ≤ passes (e ∷ past)
  more-passes e past = more (pass_of e) (filter_map pass_of past)

  more-tickets : (e : Entry) (past : Trail) → tickets past ≤ tickets (e ∷ past)
  more-tickets e past = more (ticket_given e.reply) (filter_map (λ e. ticket_given e.reply) past)

  pub fresh-passes : (past : Trail) → Legal c past → EachEntry (IsFresh pass_of (λ e. pass_back e.call)) past
  fresh-passes past l = all-fresh pass_of (λ e. pass_back e.call) c passes more-passes
      (λ past e l g i. pass-next past e.client e.call e.reply (event-of c past e l.here) g i)
      (λ past e l n i. pass-below past l.before e.client e.call e.reply (event-of c past e l.here) n i) past l

  pub fresh-reads : (past : Trail) → Legal c past → EachEntry (IsFresh read_ticket_of (λ e. read_ticket_back e.call)) past
  fresh-reads past l = all-fresh read_ticket_of (λ e. read_ticket_back e.call) c tickets more-tickets
      (λ past e l g i. read-next past e.client e.call e.reply (event-of c past e l.here) g i)
      (λ past e l n i. read-below past l.before e.client e.call e.reply (event-of c past e l.here) n i) past l

  pub fresh-writes : (past : Trail) → Legal c past → EachEntry (IsFresh write_ticket_of (λ e. write_ticket_back e.call)) past
  fresh-writes past l = all-fresh write_ticket_of (λ e. write_ticket_back e.call) c tickets more-tickets
      (λ past e l g i. write-next past e.client e.call e.reply (event-of c past e l.here) g i)
      (λ past e l n i. write-below past l.before e.client e.call e.reply (event-of c past e l.here) n i) past l
