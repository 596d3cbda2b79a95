-- What clients gave back is what came out of their rings.
use Rattle.std.proofs.Common.{◌≡◌, ◌≢◌, ◌<◌, refl, sym, ap, subst, ◌∙◌, ℕ, zero, suc, ◌+◌, cond, ◌==◌, List, [], ◌∷◌, ◌++◌, length, map, reverse, get_or, set, drop, All, append_assoc, arith, Option, Some, None}
use Rattle.std.specs.List.{cons_option}
use Rattle.std.proofs.Math.ListN.{get_or-map}
use Rattle.std.proofs.lemmas.List.{map-append, drop_more, get_or-set_same, length-set, get_or_default, length-map, append-nil, reverse-append, reverse-reverse, nil_from_length, length-append}
use Rattle.std.proofs.lemmas.List.Elements.{filter_map-append, All-nil, All-cons, All-append, All-head, All-tail}
use Rattle.std.proofs.lemmas.Bool.{eq-eqb, eqb-true, false_from_ne_true}
use native.Mathlib.Decide.{ℕ_discrete}
use Rattle.rtrb.specs.declared.producer.Producer.{Producer}
use Rattle.rtrb.specs.declared.consumer.Consumer.{Consumer}
use Rattle.rtrb.specs.Ring.{received}
use Rattle.bp_trail.specs.Event.{Grant}
use Rattle.bp_trail.specs.declared.entries.Entry.{Entry}
use Rattle.bp_trail.specs.Trail.{Trail}
use Rattle.bp_trail.specs.HeldPasses.{unfix_of}
use Rattle.bp_trail.specs.Clients.{of_client}
use Rattle.bp_trail.proofs.OfClient.{of_client-append, of_client-hit, of_client-miss}
use Rattle.bp_core.specs.CoreView.{CoreView}
use Rattle.bp_core.specs.Outcomes.{Cuts}
use Rattle.bp_session_log.specs.Books.{pass_unfixed, unfixes}
use Rattle.bp_session_log.specs.Rings.{ring_of, ring_at, ring_view, RingName, RingView, GoBack, DrainsRings}
use Rattle.bp_session_log.specs.Rings.GoBack.{none_taken, next_taken}
use Rattle.bp_session_log.specs.Rings.DrainsRings.{none_left, next_ring}
use Rattle.bp_shared.specs.Posting.{unfixed, came_out, IsPosted, IsUnfixedBy, TakesBack, IsUnused, AreRings}
use Rattle.bp_shared.proofs.Telling.{Adds}

-- ---- what a client gave back, part by part
unfixed-append : (c : ℕ) (xs ys : Trail) → unfixed c (xs ++ ys) ≡ unfixed c xs ++ unfixed c ys
unfixed-append c xs ys = ap unfixes (of_client-append c xs ys) ∙ filter_map-append (λ e. pass_unfixed e.client e.call) (of_client c xs) (of_client c ys)

-- entries by which no pass goes back
pub none_unfixed : (c : ℕ) (es : Trail) → unfixes es ≡ [] → unfixed c es ≡ []
none_unfixed c [] none = refl
none_unfixed c (e ∷ es) none = go (none_unfixed c es) (ℕ_discrete e.client c) (pass_unfixed e.client e.call) refl
  where
    go : (unfixes es ≡ [] → unfixed c es ≡ []) → Dec (e.client ≡ c) → (o : Option Grant) → pass_unfixed e.client e.call ≡ o → unfixed c (e ∷ es) ≡ []
    go rest whose (Some g) gave = absurd (let long = ap length (sym (ap (λ o. cons_option o (unfixes es)) gave) ∙ none) in omega (arith, long))
    go rest (yes is) None gave = ap unfixes (of_client-hit c e es is) ∙ ap (λ o. cons_option o (unfixed c es)) gave ∙ rest (sym (ap (λ o. cons_option o (unfixes es)) gave) ∙ none)
    go rest (no apart) None gave = ap unfixes (of_client-miss c e es apart) ∙ rest (sym (ap (λ o. cons_option o (unfixes es)) gave) ∙ none)

-- a list that grew by them
pub grew_by_none : (piece said after : Trail) → after ≡ piece ++ said → unfixes after ≡ unfixes said → unfixes piece ≡ []
grew_by_none piece said after grows same =
    let long = ap length (sym (filter_map-append (λ e. pass_unfixed e.client e.call) piece said) ∙ ap unfixes (sym grows) ∙ same) in
    nil_from_length (unfixes piece) (omega (arith, long, length-append (unfixes piece) (unfixes said)))

-- ---- a ring was drained
went : (k : ℕ) (start : Trail) (taken : List Grant) (past : Trail) → GoBack k start taken past → past ≡ map unfix_of taken ++ start
went k start _ _ none_taken = refl
went k start _ _ (next_taken {taken} {past} g before own out) = ap (λ es. unfix_of g ∷ es) (went k start taken past before)

owned : (k : ℕ) (start : Trail) (taken : List Grant) (past : Trail) → GoBack k start taken past → All (λ (g : Grant). g.client ≡ k) taken
owned k start _ _ none_taken = All-nil (λ (g : Grant). g.client ≡ k)
owned k start _ _ (next_taken {taken} {past} g before own out) = All-cons (λ (g : Grant). g.client ≡ k) g taken own (owned k start taken past before)

own_unfixed : (k : ℕ) (gs : List Grant) → All (λ (g : Grant). g.client ≡ k) gs → unfixed k (map unfix_of gs) ≡ gs
own_unfixed k [] own = refl
own_unfixed k (g ∷ gs) own =
    ap unfixes (of_client-hit k (unfix_of g) (map unfix_of gs) (All-head (λ (g : Grant). g.client ≡ k) g gs own))
    ∙ ap (λ xs. g ∷ xs) (own_unfixed k gs (All-tail (λ (g : Grant). g.client ≡ k) g gs own))

others_unfixed : (k c : ℕ) (gs : List Grant) → c ≢ k → All (λ (g : Grant). g.client ≡ k) gs → unfixed c (map unfix_of gs) ≡ []
others_unfixed k c [] apart own = refl
others_unfixed k c (g ∷ gs) apart own =
    ap unfixes (of_client-miss c (unfix_of g) (map unfix_of gs) (λ is. apart (sym is ∙ All-head (λ (g : Grant). g.client ≡ k) g gs own)))
    ∙ others_unfixed k c gs apart (All-tail (λ (g : Grant). g.client ≡ k) g gs own)

same_view : (old new : CoreView) (past : Trail) → new.parameters ≡ old.parameters → new.before ≡ old.before → new.past ≡ past → new ≡ record old { past = past }
same_view old new past parameters before is = λ k. record { parameters = parameters k; before = before k; past = is k }

pub takes_back : (k : ℕ) (old new : CoreView) (taken : List Grant) → new.parameters ≡ old.parameters → new.before ≡ old.before → GoBack k old.past taken new.past → TakesBack k old new
takes_back k old new taken parameters before b = record { passes = taken; own = owned k old.past taken new.past b; is = same_view old new (map unfix_of taken ++ old.past) parameters before (went k old.past taken new.past b) }

-- ---- all rings were drained
record Drew (first : ℕ) (rings rings_after : List RingView) (start past : Trail) : Type 0 where
  pub names : map (λ (r : RingView). r.name) rings_after ≡ map (λ (r : RingView). r.name) rings
  pub back : Trail
  pub goes_on : past ≡ back ++ start
  pub out : ℕ → List Grant
  pub came : (c : ℕ) → came_out first rings_after c ≡ out c ++ came_out first rings c
  pub all : (c : ℕ) → unfixed c back ≡ out c

at : {A : Type 0} (c first : ℕ) (x y : A) → c ≡ first → cond (c == first) x y ≡ x
at c first x y is = rw (eq-eqb c first is) refl

not_at : {A : Type 0} (c first : ℕ) (x y : A) → c ≢ first → cond (c == first) x y ≡ y
not_at c first x y apart = rw (false_from_ne_true (c == first) (λ t. apart (eqb-true c first t))) refl

-- a client below the first has no ring here
came_out_below : (rings : List RingView) (first c : ℕ) → c < first → came_out first rings c ≡ []
came_out_below [] first c below = refl
came_out_below (r ∷ rings) first c below =
    not_at c first (reverse r.received) (came_out (suc first) rings c) (λ is. absurd (omega (arith, is, below))) ∙ came_out_below rings (suc first) c (omega (arith, below))

nil_front : (xs ys : List Grant) → xs ++ ys ≡ [] → xs ≡ []
nil_front [] ys e = refl
nil_front (x ∷ xs) ys e = let long = ap length e in absurd (omega (arith, long))

one_drew : (first : ℕ) (ring ring_after : RingView) (rings rings_after : List RingView) (taken : List Grant) (start mid past : Trail) → ring_after.name ≡ ring.name → ring_after.received ≡ ring.received ++ reverse taken
    → GoBack first start taken mid → Drew (suc first) rings rings_after mid past → Drew first (ring ∷ rings) (ring_after ∷ rings_after) start past
one_drew first ring ring_after rings rings_after taken start mid past same gave a b = record {
  names = ap (λ n. n ∷ map (λ (r : RingView). r.name) rings_after) same ∙ ap (λ ns. ring.name ∷ ns) b.names;
  back = b.back ++ map unfix_of taken;
  goes_on = b.goes_on ∙ ap (λ es. b.back ++ es) (went first start taken mid a) ∙ sym (append_assoc b.back (map unfix_of taken) start);
  out = out;
  came = λ c. came c (ℕ_discrete c first);
  all = λ c. all c (ℕ_discrete c first);
}
  where
    out : ℕ → List Grant
    out c = cond (c == first) taken (b.out c)

    own : All (λ (g : Grant). g.client ≡ first) taken
    own = owned first start taken mid a

    came : (c : ℕ) → Dec (c ≡ first) → came_out first (ring_after ∷ rings_after) c ≡ out c ++ came_out first (ring ∷ rings) c
    came c (yes is) =
        at c first (reverse ring_after.received) (came_out (suc first) rings_after c) is
        ∙ ap reverse gave ∙ reverse-append ring.received (reverse taken) ∙ ap (λ gs. gs ++ reverse ring.received) (reverse-reverse taken)
        ∙ sym (ap (λ gs. gs ++ came_out first (ring ∷ rings) c) (at c first taken (b.out c) is) ∙ ap (λ gs. taken ++ gs) (at c first (reverse ring.received) (came_out (suc first) rings c) is))
    came c (no apart) =
        not_at c first (reverse ring_after.received) (came_out (suc first) rings_after c) apart
        ∙ b.came c
        ∙ sym (ap (λ gs. gs ++ came_out first (ring ∷ rings) c) (not_at c first taken (b.out c) apart) ∙ ap (λ gs. b.out c ++ gs) (not_at c first (reverse ring.received) (came_out (suc first) rings c) apart))

    -- the later rings gave nothing of the first client
    mine : (c : ℕ) → c ≡ first → unfixed c b.back ≡ []
    mine c is = b.all c ∙ nil_front (b.out c) (came_out (suc first) rings c) (sym (b.came c) ∙ came_out_below rings_after (suc first) c (omega (arith, is)))

    -- so what it gave back it gave back by its own ring, and each other one by a later ring
    all : (c : ℕ) → Dec (c ≡ first) → unfixed c (b.back ++ map unfix_of taken) ≡ out c
    all c (yes is) =
        unfixed-append c b.back (map unfix_of taken) ∙ ap (λ gs. gs ++ unfixed c (map unfix_of taken)) (mine c is)
        ∙ ap (λ d. unfixed d (map unfix_of taken)) is ∙ own_unfixed first taken own ∙ sym (at c first taken (b.out c) is)
    all c (no apart) =
        unfixed-append c b.back (map unfix_of taken) ∙ ap (λ gs. unfixed c b.back ++ gs) (others_unfixed first c taken apart own) ∙ append-nil (unfixed c b.back)
        ∙ b.all c ∙ sym (not_at c first taken (b.out c) apart)

drew : (most first : ℕ) (rings rings_after : List RingView) (start past : Trail) → DrainsRings most first rings rings_after start past → Drew first rings rings_after start past
drew most first _ _ start _ none_left = record { names = refl; back = []; goes_on = refl; out = λ c. []; came = λ c. refl; all = λ c. refl }
drew most first _ _ start past (next_ring {ring} {ring_after} {rings} {rings_after} {mid} d rest) =
    one_drew first ring ring_after rings rings_after d.taken start mid past d.same d.gave d.go_back (drew most (suc first) rings rings_after mid past rest)

-- ---- what lies under the lock
pub posted_drained : (names : List RingName) (start : Trail) (most : ℕ) (rings rings_after : List RingView) (past after : Trail) → IsPosted names start rings past → DrainsRings most 0 rings rings_after past after → IsPosted names start rings_after after
posted_drained names start most rings rings_after past after p d = go (drew most 0 rings rings_after past after d)
  where
    go : Drew 0 rings rings_after past after → IsPosted names start rings_after after
    go w = record {
      names_are = w.names ∙ p.names_are;
      since = w.back ++ p.since;
      goes_on = w.goes_on ∙ ap (λ es. w.back ++ es) p.goes_on ∙ sym (append_assoc w.back p.since start);
      all = λ c. unfixed-append c w.back p.since ∙ ap (λ gs. gs ++ unfixed c p.since) (w.all c) ∙ ap (λ gs. w.out c ++ gs) (p.all c) ∙ sym (w.came c);
    }

-- entries came by which no pass goes back
pub posted_more : (names : List RingName) (start : Trail) (rings : List RingView) (past after piece : Trail) → IsPosted names start rings past → after ≡ piece ++ past → unfixes piece ≡ [] → IsPosted names start rings after
posted_more names start rings past after piece p grows none = record {
  names_are = p.names_are;
  since = piece ++ p.since;
  goes_on = grows ∙ ap (λ es. piece ++ es) p.goes_on ∙ sym (append_assoc piece p.since start);
  all = λ c. unfixed-append c piece p.since ∙ ap (λ gs. gs ++ unfixed c p.since) (none_unfixed c piece none) ∙ p.all c;
}

-- nothing came out of rings of a pool that was just made
nothing : (rings : List RingView) (first c : ℕ) → All (λ (r : RingView). r.received ≡ []) rings → came_out first rings c ≡ []
nothing [] first c empty = refl
nothing (r ∷ rings) first c empty = go (nothing rings (suc first) c (All-tail (λ (r : RingView). r.received ≡ []) r rings empty)) (ℕ_discrete c first)
  where
    go : came_out (suc first) rings c ≡ [] → Dec (c ≡ first) → came_out first (r ∷ rings) c ≡ []
    go rest (yes is) = at c first (reverse r.received) (came_out (suc first) rings c) is ∙ ap reverse (All-head (λ (r : RingView). r.received ≡ []) r rings empty)
    go rest (no apart) = not_at c first (reverse r.received) (came_out (suc first) rings c) apart ∙ rest

pub posted_none : (names : List RingName) (start : Trail) (rings : List RingView) (past : Trail) → map (λ (r : RingView). r.name) rings ≡ names → All (λ (r : RingView). r.received ≡ []) rings → past ≡ start → IsPosted names start rings past
posted_none names start rings past are empty is = record { names_are = are; since = []; goes_on = is; all = λ c. sym (nothing rings 0 c empty) }

-- ---- a session's ring, with both ends in hand

pub came_out_at : (rings : List RingView) (first c : ℕ) (d : RingView) → c < length rings → came_out first rings (c + first) ≡ reverse (get_or rings c d).received
came_out_at [] first c d below = absurd (omega (arith, below))
came_out_at (r ∷ rings) first zero d below = at (0 + first) first (reverse r.received) (came_out (suc first) rings (0 + first)) (omega arith)
came_out_at (r ∷ rings) first (suc c) d below =
    not_at (suc c + first) first (reverse r.received) (came_out (suc first) rings (suc c + first)) (λ is. absurd (omega (arith, is)))
    ∙ (let next : suc c + first ≡ c + suc first = omega arith in ap (came_out (suc first) rings) next)
    ∙ came_out_at rings (suc first) c d (omega (arith, below))

-- what came out of a client's ring is what the client gave back
pub came_back : (names : List RingName) (start : Trail) (rings : List RingView) (past : Trail) (client : ℕ) (d : RingView) → IsPosted names start rings past → client < length rings → IsUnfixedBy start past client (reverse (get_or rings client d).received)
came_back names start rings past client d p below = record {
  since = p.since;
  goes_on = p.goes_on;
  all = p.all client ∙ (let same : client ≡ client + 0 = omega arith in ap (came_out 0 rings) same) ∙ came_out_at rings 0 client d below;
}

-- the trail and a client's list got the same entries, by which no pass goes back
pub posted_adds : (names : List RingName) (start : Trail) (rings : List RingView) (client : ℕ) (past said after told_after : Trail) → IsPosted names start rings past → Adds client past said after told_after → unfixes told_after ≡ unfixes said → IsPosted names start rings after
posted_adds names start rings client past said after told_after p a same = posted_more names start rings past after a.piece p a.goes_on (grew_by_none a.piece said told_after a.grows same)

-- the core was cut
pub posted_cut : (names : List RingName) (start : Trail) (rings : List RingView) (old new : CoreView) (entries : List Entry) → IsPosted names start rings old.past → Cuts old entries new → IsPosted names start rings new.past
posted_cut names start rings old new entries p cut = subst (λ past. IsPosted names start rings past) (sym (ap (λ (core : CoreView). core.past) cut.is)) p

-- ---- the names of rings
-- the ring of the next client
pub next_name : {A P : Type 0} (producers : List (Producer Grant A P)) (names : List RingName) (client : ℕ) (producer : Producer Grant A P) (rest : List (Producer Grant A P)) → map ring_of producers ≡ names → client < length producers → producer ∷ rest ≡ drop client producers → get_or names client (ring_of producer) ≡ ring_of producer
next_name producers names client producer rest are below from =
    ap (λ ns. get_or ns client (ring_of producer)) (sym are) ∙ get_or-map ring_of producers client producer
    ∙ ap ring_of (ap (λ ps. get_or ps 0 producer) (sym (drop_more producers client producer below) ∙ sym from))

-- the two ends at one place have one name
pub one_name : {A B P Q : Type 0} (consumers : List (Consumer Grant A P)) (names : List RingName) (client : ℕ) (consumer : Consumer Grant A P) (producer : Producer Grant B Q) → map (λ (r : RingView). r.name) (map ring_view consumers) ≡ names → client < length consumers → get_or consumers client consumer ≡ consumer
    → get_or names client (ring_of producer) ≡ ring_of producer → ring_at consumer ≡ ring_of producer
one_name consumers names client consumer producer are below here named =
    ap ring_at (sym here)
    ∙ sym (get_or-map (λ (r : RingView). r.name) (map ring_view consumers) client (ring_view consumer) ∙ ap (λ (r : RingView). r.name) (get_or-map ring_view consumers client consumer))
    ∙ ap (λ ns. get_or ns client (ring_at consumer)) are
    ∙ get_or_default names client (ring_at consumer) (ring_of producer) (subst (λ n. client < n) (sym (length-map (map ring_view consumers) (λ (r : RingView). r.name) ∙ length-map consumers ring_view) ∙ ap length are) below)
    ∙ named

pub names_count : {A P : Type 0} (consumers : List (Consumer Grant A P)) (names : List RingName) → map (λ (r : RingView). r.name) (map ring_view consumers) ≡ names → length names ≡ length consumers
names_count consumers names are = ap length (sym are) ∙ length-map (map ring_view consumers) (λ (r : RingView). r.name) ∙ length-map consumers ring_view

-- since a pool was made over a core that had said nothing, in the words of the whole trail
pub unfixed_whole : (past : Trail) (client : ℕ) (posted : List Grant) → IsUnfixedBy [] past client posted → unfixed client past ≡ posted
unfixed_whole past client posted u = ap (unfixed client) (u.goes_on ∙ append-nil u.since) ∙ u.all

-- what another client gives back
pub unfixed_still : (start : Trail) (c client : ℕ) (old new : CoreView) (posted : List Grant) → client ≢ c → IsUnfixedBy start old.past client posted → TakesBack c old new → IsUnfixedBy start new.past client posted
unfixed_still start c client old new posted apart u b = record {
  since = map unfix_of b.passes ++ u.since;
  goes_on = ap (λ (core : CoreView). core.past) b.is ∙ ap (λ es. map unfix_of b.passes ++ es) u.goes_on ∙ sym (append_assoc (map unfix_of b.passes) u.since start);
  all = unfixed-append client (map unfix_of b.passes) u.since ∙ ap (λ gs. gs ++ unfixed client u.since) (others_unfixed c client b.passes apart b.own) ∙ u.all;
}

-- rings as their taking ends see them
pub views_name : {A P : Type 0} (consumers : List (Consumer Grant A P)) → map (λ (r : RingView). r.name) (map ring_view consumers) ≡ map ring_at consumers
views_name [] = refl
views_name (c ∷ cs) = ap (λ ns. ring_at c ∷ ns) (views_name cs)

pub views_empty : {A P : Type 0} (consumers : List (Consumer Grant A P)) → All (λ ring. received ring ≡ []) consumers → All (λ (r : RingView). r.received ≡ []) (map ring_view consumers)
views_empty [] empty = All-nil (λ (r : RingView). r.received ≡ [])
views_empty (c ∷ cs) empty = All-cons (λ (r : RingView). r.received ≡ []) (ring_view c) (map ring_view cs) (All-head (λ ring. received ring ≡ []) c cs empty) (views_empty cs (All-tail (λ ring. received ring ≡ []) c cs empty))

-- a ring was looked at
same_name_at : (rings : List RingView) (i : ℕ) (v d : RingView) → i < length rings → v.name ≡ (get_or rings i d).name → map (λ (r : RingView). r.name) (set rings i v) ≡ map (λ (r : RingView). r.name) rings
same_name_at [] i v d below same = absurd (omega (arith, below))
same_name_at (r ∷ rings) zero v d below same = ap (λ n. n ∷ map (λ (r : RingView). r.name) rings) same
same_name_at (r ∷ rings) (suc i) v d below same = ap (λ ns. r.name ∷ ns) (same_name_at rings i v d (omega (arith, below)) same)

other_came_out : (rings : List RingView) (i first c : ℕ) (v : RingView) → c ≢ i + first → came_out first (set rings i v) c ≡ came_out first rings c
other_came_out [] i first c v apart = refl
other_came_out (r ∷ rings) zero first c v apart =
    not_at c first (reverse v.received) (came_out (suc first) rings c) (λ is. apart (omega (arith, is)))
    ∙ sym (not_at c first (reverse r.received) (came_out (suc first) rings c) (λ is. apart (omega (arith, is))))
other_came_out (r ∷ rings) (suc i) first c v apart = ap (λ gs. cond (c == first) (reverse r.received) gs) (other_came_out rings i (suc first) c v (λ is. apart (omega (arith, is))))

-- one ring was drained
pub posted_one : (names : List RingName) (start : Trail) (rings : List RingView) (past after : Trail) (i : ℕ) (v d : RingView) (taken : List Grant) → IsPosted names start rings past → i < length rings → v.name ≡ (get_or rings i d).name
    → v.received ≡ (get_or rings i d).received ++ reverse taken → GoBack i past taken after → IsPosted names start (set rings i v) after
posted_one names start rings past after i v d taken p below name received b = record {
  names_are = same_name_at rings i v d below name ∙ p.names_are;
  since = map unfix_of taken ++ p.since;
  goes_on = went i past taken after b ∙ ap (λ es. map unfix_of taken ++ es) p.goes_on ∙ sym (append_assoc (map unfix_of taken) p.since start);
  all = λ c. unfixed-append c (map unfix_of taken) p.since ∙ ap (λ gs. unfixed c (map unfix_of taken) ++ gs) (p.all c) ∙ each c (ℕ_discrete c i);
}
  where
    own : All (λ (g : Grant). g.client ≡ i) taken
    own = owned i past taken after b

    out_at : (rs : List RingView) → i < length rs → came_out 0 rs i ≡ reverse (get_or rs i d).received
    out_at rs inside = (let same : i ≡ i + 0 = omega arith in ap (came_out 0 rs) same) ∙ came_out_at rs 0 i d inside

    mine : taken ++ came_out 0 rings i ≡ came_out 0 (set rings i v) i
    mine =
        ap (λ gs. taken ++ gs) (out_at rings below)
        ∙ sym (ap (λ gs. gs ++ reverse (get_or rings i d).received) (reverse-reverse taken)) ∙ sym (reverse-append (get_or rings i d).received (reverse taken)) ∙ ap reverse (sym received)
        ∙ ap (λ (r : RingView). reverse r.received) (sym (get_or-set_same rings i v d below))
        ∙ sym (out_at (set rings i v) (subst (λ n. i < n) (sym (length-set rings i v)) below))

    each : (c : ℕ) → Dec (c ≡ i) → unfixed c (map unfix_of taken) ++ came_out 0 rings c ≡ came_out 0 (set rings i v) c
    each c (yes is) = subst (λ n. unfixed n (map unfix_of taken) ++ came_out 0 rings n ≡ came_out 0 (set rings i v) n) (sym is) (ap (λ gs. gs ++ came_out 0 rings i) (own_unfixed i taken own) ∙ mine)
    each c (no apart) = ap (λ gs. gs ++ came_out 0 rings c) (others_unfixed i c taken apart own) ∙ sym (other_came_out rings i 0 c v (λ is. apart (omega (arith, is))))

-- a client's ring, by the number of the client
pub record Meets {A B P Q : Type 0} (consumers : List (Consumer Grant A P)) (at : ℕ) (consumer : Consumer Grant A P) (producer : Producer Grant B Q) : Type 0 where
  pub below : at < length consumers
  pub name : ring_at consumer ≡ ring_of producer
  pub seen : get_or (map ring_view consumers) at (ring_view consumer) ≡ ring_view consumer
  pub counted : at < length (map ring_view consumers)

pub meets : {A B P Q : Type 0} (consumers : List (Consumer Grant A P)) (names : List RingName) (clients client at : ℕ) (consumer : Consumer Grant A P) (producer : Producer Grant B Q) → map (λ (r : RingView). r.name) (map ring_view consumers) ≡ names → length names ≡ clients → client < clients → at ≡ client
    → consumer ≡ get_or consumers at consumer → get_or names client (ring_of producer) ≡ ring_of producer → Meets consumers at consumer producer
meets consumers names clients client at consumer producer are count below is here named =
    let inside : at < length consumers = omega (arith, names_count consumers names are, count, below, is) in
    record {
      below = inside;
      name = one_name consumers names at consumer producer are inside (sym here) (subst (λ n. get_or names n (ring_of producer) ≡ ring_of producer) (sym is) named);
      seen = get_or-map ring_view consumers at consumer ∙ ap ring_view (sym here);
      counted = subst (λ n. at < n) (sym (length-map consumers ring_view)) inside;
    }

-- ---- rings, one more at a time
pub no_rings : {A B P Q : Type 0} (ps : List (Producer Grant A P)) (cs : List (Consumer Grant B Q)) → ps ≡ [] → cs ≡ [] → AreRings ps cs
no_rings ps cs no_ps no_cs = record {
  same = ap (map ring_at) no_cs ∙ sym (ap (map ring_of) no_ps);
  unused = subst (All IsUnused) (sym no_ps) (All-nil IsUnused);
  empty = subst (All (λ ring. received ring ≡ [])) (sym no_cs) (All-nil (λ ring. received ring ≡ []));
}

pub ring_more : {A B P Q : Type 0} (ps ps_after : List (Producer Grant A P)) (cs cs_after : List (Consumer Grant B Q)) (p : Producer Grant A P) (c : Consumer Grant B Q) → AreRings ps cs → ps_after ≡ ps ++ p ∷ [] → cs_after ≡ cs ++ c ∷ [] → ring_at c ≡ ring_of p → IsUnused p → received c ≡ [] → AreRings ps_after cs_after
ring_more ps ps_after cs cs_after p c rings in_after out_after pair unused empty = record {
  same = ap (map ring_at) out_after ∙ map-append ring_at cs (c ∷ []) ∙ ap (λ names. names ++ ring_at c ∷ []) rings.same ∙ ap (λ name. map ring_of ps ++ name ∷ []) pair ∙ sym (map-append ring_of ps (p ∷ [])) ∙ sym (ap (map ring_of) in_after);
  unused = subst (All IsUnused) (sym in_after) (All-append IsUnused ps (p ∷ []) rings.unused (All-cons IsUnused p [] unused (All-nil IsUnused)));
  empty = subst (All (λ ring. received ring ≡ [])) (sym out_after) (All-append (λ ring. received ring ≡ []) cs (c ∷ []) rings.empty (All-cons (λ ring. received ring ≡ []) c [] empty (All-nil (λ ring. received ring ≡ []))));
}
