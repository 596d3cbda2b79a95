-- Passes that come out of rings.
use Rattle.std.proofs.Common.{◌≡◌, refl, sym, ap, subst, ◌∙◌, Bool, true, false, ◌&&◌, IsTrue, ℕ, zero, suc, ◌+◌, ◌≤◌, ◌<◌, List, [], ◌∷◌, ◌++◌, length, map, take, drop, set, get_or, reverse, append_assoc, add-one, length-take-le, arith}
use Rattle.std.proofs.Math.ListN.{get_or-map}
use Rattle.std.proofs.Math.Seq.{take-suc, take-suc-set}
use Rattle.std.proofs.lemmas.Bool.{false≢true}
use Rattle.std.proofs.lemmas.List.Elements.{All-nil, All-cons, All-append, All-head, All-tail}
use Rattle.std.proofs.lemmas.List.{append-nil, reverse-append, length-map, map-set, drop_more, drop-set-lt}
use mathlib.Core.List.{IsPrefix}
use Rattle.bp_trail.specs.Event.{Grant}
use Rattle.bp_trail.specs.Trail.{Trail}
use Rattle.bp_trail.specs.Clock.{durable}
use Rattle.bp_session_log.specs.Rings.{GoBack, RingView, IsNotOut, IsStopped, TakesFront, DrainsKnown, DrainsRing, DrainsRings, NoneWaits}
use Rattle.bp_session_log.specs.Rings.GoBack.{none_taken, next_taken}
use Rattle.bp_session_log.specs.Rings.DrainsRings.{none_left, next_ring}

-- the front one was looked at, and is not out
pub stopped_at : (client : ℕ) (past : Trail) (g : Grant) (waiting : List Grant) → IsPrefix (g ∷ []) waiting → IsNotOut client past g → IsStopped client past waiting
stopped_at client past g waiting front not_out = subst (IsStopped client past) front.1 not_out

-- just so many passes came out and went back
pub record Takes (client n : ℕ) (ring ring_after : RingView) (start past : Trail) : Type 0 where
  pub same : ring_after.name ≡ ring.name
  pub taken : List Grant
  pub count : length taken ≡ n
  pub gave : ring_after.received ≡ ring.received ++ reverse taken
  pub left : ring.waiting ≡ reverse taken ++ ring_after.waiting
  pub go_back : GoBack client start taken past

pub takes_none : (client : ℕ) (ring : RingView) (past : Trail) → Takes client 0 ring ring past past
takes_none client ring past = record { same = refl; taken = []; count = refl; gave = sym (append-nil ring.received); left = refl; go_back = none_taken }

pub takes_more : (client n m : ℕ) (ring mid after : RingView) (start past next : Trail) → Takes client n ring mid start past → m ≡ n + 1 → TakesFront client mid after past next → Takes client m ring after start next
takes_more client n m ring mid after start past next t is f =
    let turned : reverse (f.front ∷ t.taken) ≡ reverse t.taken ++ f.front ∷ [] = reverse-append (f.front ∷ []) t.taken in
    record {
      same = f.same ∙ t.same;
      taken = f.front ∷ t.taken;
      count = omega (arith, t.count, is);
      gave = f.gave ∙ ap (λ gs. gs ++ f.front ∷ []) t.gave ∙ append_assoc ring.received (reverse t.taken) (f.front ∷ []) ∙ ap (λ gs. ring.received ++ gs) (sym turned);
      left = t.left ∙ ap (λ gs. reverse t.taken ++ gs) f.left ∙ sym (append_assoc (reverse t.taken) (f.front ∷ []) after.waiting) ∙ ap (λ gs. gs ++ after.waiting) (sym turned);
      go_back = subst (GoBack client start (f.front ∷ t.taken)) (sym f.back) (next_taken f.front t.go_back f.own f.out);
    }

-- as many as may be taken
pub drains_most : (client n most : ℕ) (ring after : RingView) (start past : Trail) → Takes client n ring after start past → n ≡ most → DrainsKnown most client ring after start past
drains_most client n most ring after start past t is = record { same = t.same; taken = t.taken; few = omega (arith, t.count, is); gave = t.gave; left = t.left; stopped = λ fewer. absurd (omega (arith, t.count, is, fewer)); go_back = t.go_back }

-- all that can go back
pub drains_all : (client n most : ℕ) (ring after : RingView) (start past : Trail) → Takes client n ring after start past → n ≤ most → IsStopped client past after.waiting → DrainsKnown most client ring after start past
drains_all client n most ring after start past t few stopped = record { same = t.same; taken = t.taken; few = omega (arith, t.count, few); gave = t.gave; left = t.left; stopped = λ fewer. stopped; go_back = t.go_back }

none_stopped : (client : ℕ) (past : Trail) (waiting : List Grant) → length waiting ≡ 0 → IsStopped client past waiting
none_stopped client past [] none = tt
none_stopped client past (g ∷ waiting) none = absurd (omega (arith, none))

pub drains_out : (client n most : ℕ) (ring after : RingView) (start past : Trail) → Takes client n ring after start past → n ≤ most → length after.waiting ≡ 0 → DrainsKnown most client ring after start past
drains_out client n most ring after start past t few none = drains_all client n most ring after start past t few (none_stopped client past after.waiting none)

-- where the front one cannot go back
pub drains_stuck : (client n most : ℕ) (ring mid after : RingView) (start past next : Trail) → Takes client n ring mid start past → n ≤ most → (next ≡ past) × (after ≡ mid) × IsStopped client past mid.waiting → DrainsKnown most client ring after start next
drains_stuck client n most ring mid after start past next t few stuck =
    subst (λ p. DrainsKnown most client ring after start p) (sym stuck.0) (subst (λ (r : RingView). DrainsKnown most client ring r start past) (sym stuck.1) (drains_all client n most ring mid start past t few stuck.2))

-- a ring that was looked into, and then drained
pub drains_looked : (client most : ℕ) (ring looked after : RingView) (start past : Trail) → looked.name ≡ ring.name → looked.received ≡ ring.received → DrainsKnown most client looked after start past → DrainsRing most client ring after start past
drains_looked client most ring looked after start past name received d = record { same = d.same ∙ name; taken = d.taken; few = d.few; gave = d.gave ∙ ap (λ gs. gs ++ reverse d.taken) received; stopped = d.stopped; go_back = d.go_back }

-- a ring that shows no pass, and gives none
pub drains_none : (client most : ℕ) (ring : RingView) (past : Trail) → length ring.waiting ≡ 0 → DrainsRing most client ring ring past past
drains_none client most ring past none = record { same = refl; taken = []; few = omega arith; gave = sym (append-nil ring.received); stopped = λ fewer. none_stopped client past ring.waiting none; go_back = none_taken }

-- one ring more
pub rings_more : (most client n : ℕ) (firsts firsts_after : List RingView) (last last_after : RingView) (begin end after : Trail) → n ≡ length firsts + client → DrainsRings most client firsts firsts_after begin end
    → DrainsRing most n last last_after end after → DrainsRings most client (firsts ++ last ∷ []) (firsts_after ++ last_after ∷ []) begin after
rings_more most client n _ _ last last_after begin _ after is none_left d =
    let here : n ≡ client = omega (arith, is) in
    next_ring (subst (λ c. DrainsRing most c last last_after begin after) here d) none_left
rings_more most client n _ _ last last_after begin end after is (next_ring {ring} {ring_after} {rings} {rings_after} {mid} first rest) d =
    next_ring first (rings_more most (suc client) n rings rings_after last last_after mid end after (omega (arith, is)) rest d)

-- one ring of a list, where the rings from it on are as they were
pub rings_next : {X : Type 0} (view : X → RingView) (most i : ℕ) (old now : List X) (d y : X) (begin end after : Trail) → i < length old → i < length now
    → DrainsRings most 0 (take i (map view old)) (take i (map view now)) begin end → drop i (map view now) ≡ drop i (map view old) → DrainsRing most i (view (get_or now i d)) (view y) end after
    → DrainsRings most 0 (take (i + 1) (map view old)) (take (i + 1) (map view (set now i y))) begin after × (drop (i + 1) (map view (set now i y)) ≡ drop (i + 1) (map view old))
rings_next view most i old now d y begin end after in_old in_now so_far left ring =
    let more = rings_more most 0 i (take i a) (take i b) x (view y) begin end after counted so_far ring in (
      subst (λ rs. DrainsRings most 0 rs (take (i + 1) (map view (set now i y))) begin after) (sym olds) (subst (λ rs. DrainsRings most 0 (take i a ++ x ∷ []) rs begin after) (sym news) more),
      rest,
    )
  where
    a : List RingView
    a = map view old

    b : List RingView
    b = map view now

    x : RingView
    x = view (get_or now i d)

    counted : i ≡ length (take i a) + 0
    counted = let long = length-take-le i a (subst (λ n. i ≤ n) (sym (length-map old view)) (omega (arith, in_old))) in omega (arith, long)

    from_here : get_or a i (view d) ∷ drop (i + 1) a ≡ get_or b i (view d) ∷ drop (i + 1) b
    from_here = sym (drop_more a i (view d) (subst (λ n. i < n) (sym (length-map old view)) in_old)) ∙ sym left ∙ drop_more b i (view d) (subst (λ n. i < n) (sym (length-map now view)) in_now)

    here : get_or a i (view d) ≡ x
    here = ap (λ rs. get_or rs 0 (view d)) from_here ∙ get_or-map view now i d

    olds : take (i + 1) a ≡ take i a ++ x ∷ []
    olds = ap (λ n. take n a) (add-one i) ∙ take-suc a i (view d) (subst (λ n. i < n) (sym (length-map old view)) in_old) ∙ ap (λ r. take i a ++ r ∷ []) here

    news : take (i + 1) (map view (set now i y)) ≡ take i b ++ view y ∷ []
    news = ap (take (i + 1)) (map-set view now i y) ∙ ap (λ n. take n (set b i (view y))) (add-one i) ∙ take-suc-set b i (view y) (subst (λ n. i < n) (sym (length-map now view)) in_now)

    rest : drop (i + 1) (map view (set now i y)) ≡ drop (i + 1) a
    rest = ap (drop (i + 1)) (map-set view now i y) ∙ drop-set-lt (i + 1) b i (view y) (omega arith) ∙ sym (ap (drop 1) from_here)

pub both_hold : (a b : Bool) → IsTrue (a && b) → IsTrue a × IsTrue b
both_hold true b is = (refl, is)
both_hold false b is = absurd (false≢true is)

-- rings in which no pass is known to wait, one more at a time
pub quiet_next : {X : Type 0} (view : X → RingView) (i : ℕ) (now : List X) (y : X) → i < length now → NoneWaits (take i (map view now)) → (view y).waiting ≡ [] → NoneWaits (take (i + 1) (map view (set now i y)))
quiet_next view i now y in_now quiet none =
    subst NoneWaits (sym news) (All-append (λ (r : RingView). r.waiting ≡ []) (take i (map view now)) (view y ∷ []) quiet (All-cons (λ (r : RingView). r.waiting ≡ []) (view y) [] none (All-nil (λ (r : RingView). r.waiting ≡ []))))
  where
    news : take (i + 1) (map view (set now i y)) ≡ take i (map view now) ++ view y ∷ []
    news = ap (take (i + 1)) (map-set view now i y) ∙ ap (λ n. take n (set (map view now) i (view y))) (add-one i) ∙ take-suc-set (map view now) i (view y) (subst (λ n. i < n) (sym (length-map now view)) in_now)

-- one of the rings changed, and shows no pass
pub quiet_set : {X : Type 0} (view : X → RingView) (i : ℕ) (xs : List X) (y : X) → NoneWaits (map view xs) → (view y).waiting ≡ [] → NoneWaits (map view (set xs i y))
quiet_set view i [] y quiet none = quiet
quiet_set view zero (x ∷ xs) y quiet none = All-cons (λ (r : RingView). r.waiting ≡ []) (view y) (map view xs) none (All-tail (λ (r : RingView). r.waiting ≡ []) (view x) (map view xs) quiet)
quiet_set view (suc i) (x ∷ xs) y quiet none =
    All-cons (λ (r : RingView). r.waiting ≡ []) (view x) (map view (set xs i y)) (All-head (λ (r : RingView). r.waiting ≡ []) (view x) (map view xs) quiet) (quiet_set view i xs y (All-tail (λ (r : RingView). r.waiting ≡ []) (view x) (map view xs) quiet) none)

-- where no pass is known to wait, nothing is left to drain
pub quiet_drained : (most client : ℕ) (rings : List RingView) (past : Trail) → NoneWaits rings → DrainsRings most client rings rings past past
quiet_drained most client [] past quiet = none_left
quiet_drained most client (r ∷ rings) past quiet =
    next_ring (drains_none client most r past (ap length (All-head (λ (r : RingView). r.waiting ≡ []) r rings quiet))) (quiet_drained most (suc client) rings past (All-tail (λ (r : RingView). r.waiting ≡ []) r rings quiet))

-- the passes that went back leave what is durable
pub go_back_durable : (client : ℕ) (start : Trail) (taken : List Grant) (past : Trail) → GoBack client start taken past → durable past ≡ durable start
go_back_durable client start _ _ none_taken = refl
go_back_durable client start _ _ (next_taken {taken} {past} g before own out) = go_back_durable client start taken past before

pub rings_durable : (most client : ℕ) (firsts firsts_after : List RingView) (begin end : Trail) → DrainsRings most client firsts firsts_after begin end → durable end ≡ durable begin
rings_durable most client _ _ begin _ none_left = refl
rings_durable most client _ _ begin end (next_ring {rings} {rings_after} {mid} first rest) =
    rings_durable most (suc client) rings rings_after mid end rest ∙ go_back_durable client begin first.taken mid first.go_back
