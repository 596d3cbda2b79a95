-- A pass that waits in its client's ring is out in the trail.
use Rattle.std.proofs.Common.{◌≡◌, ◌≢◌, refl, sym, ap, subst, ◌∙◌, ℕ, suc, ◌+◌, ◌<◌, Bool, true, false, not, ◌||◌, ◌==◌, cond, List, [], ◌∷◌, ◌++◌, length, get_or, set, filter, filter_map, reverse, append_assoc, Option, Some, None, inl, inr, ◌⊎◌, arith}
use Rattle.std.specs.List.{cons_option}
use Rattle.std.proofs.lemmas.Bool.{true≢false, or_right, or_parts, and_parts, eqb-true, eq-eqb, false_from_ne_true}
use Rattle.std.proofs.lemmas.List.{append-nil, reverse-append, reverse-reverse, length-append, length-reverse, length-set, get_or-set_same}
use Rattle.std.proofs.lemmas.List.Elements.{filter_map-append}
use Rattle.bp_trail.specs.declared.entries.Entry.{Entry}
use Rattle.bp_trail.specs.declared.entries.Call.{Call}
use Rattle.bp_trail.specs.declared.entries.Call.TheVariants.{Tick, Mark, Fix, ReadEnd, WriteEnd, Read, Write, Unfix, Flush, Discard, Purge}
use Rattle.bp_trail.specs.declared.entries.Reply.{Reply}
use Rattle.bp_trail.specs.declared.entries.Reply.TheVariants.{Done}
use Rattle.bp_trail.specs.Parameters.{Parameters}
use Rattle.bp_trail.specs.Trail.{Trail}
use Rattle.bp_trail.specs.Lists.{some, and_given, without}
use Rattle.bp_trail.specs.Event.{Grant, grant, same_grant, pass_given, pass_back, page_of}
use Rattle.bp_trail.specs.Passes.{pass_of, passes, passes_out}
use Rattle.bp_trail.specs.Legal.{is_out, Legal}
use Rattle.bp_trail.proofs.Lists.{some-filter}
use Rattle.bp_trail.proofs.Events.{Event, event-of}
use Rattle.bp_trail.proofs.Events.Event.{fix_hit, read_good}
use Rattle.bp_trail.proofs.Serials.{OneSerial, AllBelow, has_serial, fresh, out-serial}
use Rattle.bp_core.specs.CoreView.{CoreView}
use Rattle.bp_session_log.specs.Rings.{RingName, RingView, IsStopped, DrainsKnown}
use Rattle.bp_session_log.proofs.Drains.{go_back_durable}
use Rattle.bp_trail.specs.Clock.{durable}
use Rattle.bp_session_log.specs.Books.{pass_unfixed, unfixes, back_held, all_held}
use Rattle.bp_shared.specs.Telling.{is_told, told, IsToldBy}
use Rattle.bp_shared.specs.Posting.{IsPosted, IsUnfixedBy, TakesBack}
use Rattle.bp_shared.proofs.Telling.{told_still, went_back}
use Rattle.bp_shared.proofs.Posting.{takes_back, posted_one, came_back}
use Rattle.bp_shared.proofs.Holding.{is-it, left-passes, given-is-out}

abbrev given : Trail → List Grant
given es = filter_map pass_of es

-- ---- in a legal trail no number is given twice
below-more : (n : ℕ) (gs : List Grant) → AllBelow n gs → AllBelow (suc n) gs
below-more n [] b = tt
below-more n (g ∷ gs) b = (omega (arith, b.0), below-more n gs b.1)

record GivesOnce (gs : List Grant) : Type 0 where
  below : AllBelow (length gs) gs
  once : OneSerial gs

next-number : (c : Parameters) (past : Trail) (who : ℕ) (call : Call) (reply : Reply) → Event c past who call reply → (g : Grant) → pass_given who (page_of call) reply ≡ Some g → g.serial ≡ passes past
next-number c past who _ _ (fix_hit p l r) g i = let j : grant who p (passes past) ≡ g = cc in sym (ap (λ (y : Grant). y.serial) j)
next-number c past who _ _ (read_good t p image o) g i = let j : grant who p (passes past) ≡ g = cc in sym (ap (λ (y : Grant). y.serial) j)
next-number c past who _ _ _ g i = cc

gives-once : (c : Parameters) (past : Trail) → Legal c past → GivesOnce (given past)
gives-once c [] legal = record { below = tt; once = tt }
gives-once c (e ∷ past) legal = go (pass_of e) refl (gives-once c past legal.before)
  where
    go : (o : Option Grant) → pass_of e ≡ o → GivesOnce (given past) → GivesOnce (given (e ∷ past))
    go None gave rest = subst GivesOnce (sym (ap (λ o. cons_option o (given past)) gave)) rest
    go (Some g) gave rest =
        let next : g.serial ≡ passes past = next-number c past e.client e.call e.reply (event-of c past e legal.here) g gave in
        subst GivesOnce (sym (ap (λ o. cons_option o (given past)) gave)) (record { below = (omega (arith, next), below-more (passes past) (given past) rest.below); once = (ap (λ n. some (has_serial n) (given past)) next ∙ fresh (passes past) (given past) rest.below, rest.once) })

-- nor in a part of it
once-front : (xs ys : List Grant) → OneSerial (xs ++ ys) → OneSerial xs
once-front [] ys once = tt
once-front (x ∷ xs) ys once = (front xs once.0, once-front xs ys once.1)
  where
    front : (gs : List Grant) → some (has_serial x.serial) (gs ++ ys) ≡ false → some (has_serial x.serial) gs ≡ false
    front [] h = refl
    front (g ∷ gs) h = let parts = or_parts (has_serial x.serial g) (some (has_serial x.serial) (gs ++ ys)) h in ap (λ b. b || some (has_serial x.serial) gs) parts.0 ∙ front gs parts.1

given-filter : (q : Entry → Bool) (n : ℕ) (es : Trail) → some (has_serial n) (given (filter q es)) ≡ true → some (has_serial n) (given es) ≡ true
given-filter q n [] m = m
given-filter q n (e ∷ es) m = go (given-filter q n es) (q e) (pass_of e) refl m
  where
    listed : (o : Option Grant) → pass_of e ≡ o → some (has_serial n) (given (e ∷ es)) ≡ some (has_serial n) (cons_option o (given es))
    listed o gave = ap (λ x. some (has_serial n) (cons_option x (given es))) gave

    go : (some (has_serial n) (given (filter q es)) ≡ true → some (has_serial n) (given es) ≡ true) → (b : Bool) → (o : Option Grant) → pass_of e ≡ o → some (has_serial n) (given (cond b (e ∷ filter q es) (filter q es))) ≡ true → some (has_serial n) (given (e ∷ es)) ≡ true
    go ih true None gave m = listed None gave ∙ ih (sym (ap (λ o. some (has_serial n) (cons_option o (given (filter q es)))) gave) ∙ m)
    go ih true (Some g) gave m = listed (Some g) gave ∙ by-test (has_serial n g) (sym (ap (λ o. some (has_serial n) (cons_option o (given (filter q es)))) gave) ∙ m)
      where
        by-test : (b : Bool) → (b || some (has_serial n) (given (filter q es))) ≡ true → (b || some (has_serial n) (given es)) ≡ true
        by-test true m = refl
        by-test false m = ih m
    go ih false None gave m = listed None gave ∙ ih m
    go ih false (Some g) gave m = listed (Some g) gave ∙ or_right (has_serial n g) (some (has_serial n) (given es)) (ih m)

once-filter : (q : Entry → Bool) (es : Trail) → OneSerial (given es) → OneSerial (given (filter q es))
once-filter q [] once = tt
once-filter q (e ∷ es) once = go (once-filter q es) (q e) (pass_of e) refl once
  where
    go : (OneSerial (given es) → OneSerial (given (filter q es))) → (b : Bool) (o : Option Grant) → pass_of e ≡ o → OneSerial (given (e ∷ es)) → OneSerial (given (cond b (e ∷ filter q es) (filter q es)))
    go ih true None gave once = subst (λ o. OneSerial (cons_option o (given (filter q es)))) (sym gave) (ih (subst (λ o. OneSerial (cons_option o (given es))) gave once))
    go ih true (Some g) gave once =
        let parts : OneSerial (g ∷ given es) = subst (λ o. OneSerial (cons_option o (given es))) gave once in
        let more : OneSerial (g ∷ given (filter q es)) = (false_from_ne_true (some (has_serial g.serial) (given (filter q es))) (λ m. true≢false (sym (given-filter q g.serial es m) ∙ parts.0)), ih parts.1) in
        subst (λ o. OneSerial (cons_option o (given (filter q es)))) (sym gave) more
    go ih false None gave once = ih (subst (λ o. OneSerial (cons_option o (given es))) gave once)
    go ih false (Some g) gave once = let parts : OneSerial (g ∷ given es) = subst (λ o. OneSerial (cons_option o (given es))) gave once in ih parts.1

-- ---- what a list gave back it held
record KeepsCount (said : Trail) : Type 0 where
  out_given : (g : Grant) → is_out g (passes_out said) ≡ true → is_out g (given (told said)) ≡ true
  out_kept : (g : Grant) → is_out g (passes_out said) ≡ true → some (has_serial g.serial) (unfixes said) ≡ false
  back_given : (n : ℕ) → some (has_serial n) (unfixes said) ≡ true → some (has_serial n) (given (told said)) ≡ true

-- a pass that goes back, and any other entry
data Kind (e : Entry) (said : Trail) : Type 0 where
  goes_back : (n p : ℕ) → e.call ≡ Unfix n p → e.reply ≡ Done → is_out (grant e.client p n) (passes_out said) ≡ true → Kind e said
  stays : told (e ∷ said) ≡ e ∷ told said → passes_out (e ∷ said) ≡ and_given (pass_of e) (passes_out said) → unfixes (e ∷ said) ≡ unfixes said → Kind e said

kind-of : (client : ℕ) (call : Call) (reply : Reply) (said : Trail) → back_held client call reply said ≡ true → Kind (record { client = client; call = call; reply = reply }) said
kind-of client (Unfix n p) Done said held = goes_back n p refl refl held
kind-of client (Unfix n p) _ said held = absurd (true≢false (sym held))
kind-of client (Tick n) reply said held = stays refl refl refl
kind-of client (Mark lsn) reply said held = stays refl refl refl
kind-of client (Fix p) reply said held = stays refl refl refl
kind-of client (ReadEnd t p image) reply said held = stays refl refl refl
kind-of client (WriteEnd t p good) reply said held = stays refl refl refl
kind-of client (Read n p) reply said held = stays refl refl refl
kind-of client (Write n p offset bytes lsn) reply said held = stays refl refl refl
kind-of client (Flush p) reply said held = stays refl refl refl
kind-of client (Discard p) reply said held = stays refl refl refl
kind-of client Purge reply said held = stays refl refl refl

module _ (e : Entry) (said : Trail) (n p : ℕ) (call : e.call ≡ Unfix n p) (reply : e.reply ≡ Done) where
  back_told : told (e ∷ said) ≡ told said
  back_told = ap (λ x. cond (is_told x) (e ∷ told said) (told said)) call

  back_out : passes_out (e ∷ said) ≡ filter (λ g. not (g.serial == n)) (passes_out said)
  back_out = ap (λ x. and_given (pass_given e.client (page_of e.call) x) (without (λ g. g.serial) (pass_back e.call) (passes_out said))) reply ∙ ap (λ x. without (λ g. g.serial) (pass_back x) (passes_out said)) call

  back_unfixes : unfixes (e ∷ said) ≡ grant e.client p n ∷ unfixes said
  back_unfixes = ap (λ x. cons_option (pass_unfixed e.client x) (unfixes said)) call

keeps-count : (said : Trail) → all_held said ≡ true → OneSerial (given (told said)) → KeepsCount said
keeps-count [] held once = record { out_given = λ g m. m; out_kept = λ g m. refl; back_given = λ n m. m }
keeps-count (e ∷ said) held once = go (keeps-count said (and_parts (back_held e.client e.call e.reply said) (all_held said) held).1) (kind-of e.client e.call e.reply said (and_parts (back_held e.client e.call e.reply said) (all_held said) held).0)
  where
    go : (OneSerial (given (told said)) → KeepsCount said) → Kind e said → KeepsCount (e ∷ said)
    go ih (goes_back n p call reply out) =
        let told_is = back_told e said n p call reply in
        let out_is = back_out e said n p call reply in
        let unfixes_are = back_unfixes e said n p call reply in
        let r = ih (subst (λ es. OneSerial (given es)) told_is once) in
        let still : (g : Grant) → is_out g (passes_out (e ∷ said)) ≡ true → is_out g (passes_out said) ≡ true = λ g m. some-filter (same_grant g) (λ y. not (y.serial == n)) (passes_out said) (sym (ap (is_out g) out_is) ∙ m) in
        record {
          out_given = λ g m. ap (λ es. is_out g (given es)) told_is ∙ r.out_given g (still g m);
          out_kept = λ g m. ap (some (has_serial g.serial)) unfixes_are ∙ kept g (left-passes (λ y. not (y.serial == n)) g (passes_out said) (sym (ap (is_out g) out_is) ∙ m)) (r.out_kept g (still g m));
          back_given = λ k m. ap (λ es. some (has_serial k) (given es)) told_is ∙ came k (sym (ap (some (has_serial k)) unfixes_are) ∙ m) r;
        }
      where
        kept : (g : Grant) → not (g.serial == n) ≡ true → some (has_serial g.serial) (unfixes said) ≡ false → ((n == g.serial) || some (has_serial g.serial) (unfixes said)) ≡ false
        kept g apart none = ap (λ b. b || some (has_serial g.serial) (unfixes said)) (false_from_ne_true (n == g.serial) (λ same. true≢false (sym apart ∙ ap not (eq-eqb g.serial n (sym (eqb-true n g.serial same)))))) ∙ none

        came : (k : ℕ) → ((n == k) || some (has_serial k) (unfixes said)) ≡ true → KeepsCount said → some (has_serial k) (given (told said)) ≡ true
        came k m r = by-test (n == k) refl m
          where
            by-test : (b : Bool) → (n == k) ≡ b → (b || some (has_serial k) (unfixes said)) ≡ true → some (has_serial k) (given (told said)) ≡ true
            by-test true same m = subst (λ x. some (has_serial x) (given (told said)) ≡ true) (eqb-true n k same) (out-serial e.client p n (given (told said)) (r.out_given (grant e.client p n) out))
            by-test false same m = r.back_given k m
    go ih (stays told_is out_is unfixes_are) = by-given (pass_of e) refl
      where
        given_is : (o : Option Grant) → pass_of e ≡ o → given (told (e ∷ said)) ≡ cons_option o (given (told said))
        given_is o gave = ap given told_is ∙ ap (λ x. cons_option x (given (told said))) gave

        by-given : (o : Option Grant) → pass_of e ≡ o → KeepsCount (e ∷ said)
        by-given None gave =
            let given_are = given_is None gave in
            let outs : passes_out (e ∷ said) ≡ passes_out said = out_is ∙ ap (λ o. and_given o (passes_out said)) gave in
            let r = ih (subst OneSerial given_are once) in
            record {
              out_given = λ g m. ap (is_out g) given_are ∙ r.out_given g (sym (ap (is_out g) outs) ∙ m);
              out_kept = λ g m. ap (some (has_serial g.serial)) unfixes_are ∙ r.out_kept g (sym (ap (is_out g) outs) ∙ m);
              back_given = λ k m. ap (some (has_serial k)) given_are ∙ r.back_given k (sym (ap (some (has_serial k)) unfixes_are) ∙ m);
            }
        by-given (Some x) gave =
            let given_are = given_is (Some x) gave in
            let outs : passes_out (e ∷ said) ≡ x ∷ passes_out said = out_is ∙ ap (λ o. and_given o (passes_out said)) gave in
            let once_more : OneSerial (x ∷ given (told said)) = subst OneSerial given_are once in
            let r = ih once_more.1 in
            record {
              out_given = λ g m. ap (is_out g) given_are ∙ listed g r (sym (ap (is_out g) outs) ∙ m);
              out_kept = λ g m. ap (some (has_serial g.serial)) unfixes_are ∙ kept g r once_more.0 (sym (ap (is_out g) outs) ∙ m);
              back_given = λ k m. ap (some (has_serial k)) given_are ∙ or_right (has_serial k x) (some (has_serial k) (given (told said))) (r.back_given k (sym (ap (some (has_serial k)) unfixes_are) ∙ m));
            }
          where
            listed : (g : Grant) → KeepsCount said → (same_grant g x || is_out g (passes_out said)) ≡ true → (same_grant g x || is_out g (given (told said))) ≡ true
            listed g r m = by-test (same_grant g x) m
              where
                by-test : (b : Bool) → (b || is_out g (passes_out said)) ≡ true → (b || is_out g (given (told said))) ≡ true
                by-test true m = refl
                by-test false m = r.out_given g m

            kept : (g : Grant) → KeepsCount said → some (has_serial x.serial) (given (told said)) ≡ false → (same_grant g x || is_out g (passes_out said)) ≡ true → some (has_serial g.serial) (unfixes said) ≡ false
            kept g r new m = by-test (same_grant g x) refl m
              where
                by-test : (b : Bool) → same_grant g x ≡ b → (b || is_out g (passes_out said)) ≡ true → some (has_serial g.serial) (unfixes said) ≡ false
                by-test true same m = ap (λ (y : Grant). some (has_serial y.serial) (unfixes said)) (sym (is-it g x same)) ∙ false_from_ne_true (some (has_serial x.serial) (unfixes said)) (λ h. true≢false (sym (r.back_given x.serial h) ∙ new))
                by-test false same m = r.out_kept g m

-- a pass that a list gave back was given to it, and those that went back before have other numbers
record WasHeld (g : Grant) (said : Trail) (gone : List Grant) : Type 0 where
  was_given : is_out g (given (told said)) ≡ true
  apart : some (has_serial g.serial) gone ≡ false

was-held : (said : Trail) (later : List Grant) (g : Grant) (gone : List Grant) → all_held said ≡ true → OneSerial (given (told said)) → unfixes said ≡ later ++ g ∷ gone → WasHeld g said gone
was-held [] later g gone held once is = absurd (none later is)
  where
    none : (later : List Grant) → [] ≡ later ++ g ∷ gone → ⊥
    none [] is = let long = ap length is in absurd (omega (arith, long))
    none (x ∷ later) is = let long = ap length is in absurd (omega (arith, long))
was-held (e ∷ said) later g gone held once is = go (λ others. was-held said others g gone rest_held) (kind-of e.client e.call e.reply said (and_parts (back_held e.client e.call e.reply said) (all_held said) held).0)
  where
    rest_held : all_held said ≡ true
    rest_held = (and_parts (back_held e.client e.call e.reply said) (all_held said) held).1

    go : ((others : List Grant) → OneSerial (given (told said)) → unfixes said ≡ others ++ g ∷ gone → WasHeld g said gone) → Kind e said → WasHeld g (e ∷ said) gone
    go ih (goes_back n p call reply out) =
        let told_is = back_told e said n p call reply in
        let fewer = subst (λ es. OneSerial (given es)) told_is once in
        let more : (WasHeld g said gone → WasHeld g (e ∷ said) gone) = λ w. record { was_given = ap (λ es. is_out g (given es)) told_is ∙ w.was_given; apart = w.apart } in
        more (by-later later (sym (back_unfixes e said n p call reply) ∙ is) fewer)
      where
        by-later : (later : List Grant) → grant e.client p n ∷ unfixes said ≡ later ++ g ∷ gone → OneSerial (given (told said)) → WasHeld g said gone
        by-later [] same once =
            let it : grant e.client p n ≡ g = cc in
            let others : unfixes said ≡ gone = cc in
            let here : is_out g (passes_out said) ≡ true = subst (λ x. is_out x (passes_out said) ≡ true) it out in
            let r = keeps-count said rest_held once in
            record { was_given = r.out_given g here; apart = ap (some (has_serial g.serial)) (sym others) ∙ r.out_kept g here }
        by-later (x ∷ later) same once = let others : unfixes said ≡ later ++ g ∷ gone = cc in ih later once others
    go ih (stays told_is out_is unfixes_are) = by-given (pass_of e) refl
      where
        by-given : (o : Option Grant) → pass_of e ≡ o → WasHeld g (e ∷ said) gone
        by-given None gave =
            let given_are : given (told (e ∷ said)) ≡ given (told said) = ap given told_is ∙ ap (λ x. cons_option x (given (told said))) gave in
            let w = ih later (subst OneSerial given_are once) (sym unfixes_are ∙ is) in
            record { was_given = ap (is_out g) given_are ∙ w.was_given; apart = w.apart }
        by-given (Some x) gave =
            let given_are : given (told (e ∷ said)) ≡ x ∷ given (told said) = ap given told_is ∙ ap (λ o. cons_option o (given (told said))) gave in
            let once_more : OneSerial (x ∷ given (told said)) = subst OneSerial given_are once in
            let w = ih later once_more.1 (sym unfixes_are ∙ is) in
            record { was_given = ap (is_out g) given_are ∙ or_right (same_grant g x) (is_out g (given (told said))) w.was_given; apart = w.apart }

-- ---- both together
pub waiting-is-out : (c : Parameters) (start past : Trail) (client : ℕ) (said : Trail) (received rest : List Grant) (g : Grant) → Legal c past → IsToldBy start past client said → IsUnfixedBy start past client (reverse received) → all_held said ≡ true
    → unfixes said ≡ reverse (received ++ g ∷ rest) → (g.client ≡ client) × (is_out g (passes_out past) ≡ true)
waiting-is-out c start past client said received rest g legal t u held posted =
    let parts : unfixes said ≡ reverse rest ++ g ∷ reverse received =
    posted ∙ reverse-append received (g ∷ rest) ∙ ap (λ gs. gs ++ reverse received) (reverse-append (g ∷ []) rest) ∙ append_assoc (reverse rest) (g ∷ []) (reverse received) in
    let whole : OneSerial (given (t.since ++ start)) = (gives-once c (t.since ++ start) (subst (Legal c) t.goes_on legal)).once in
    let since : OneSerial (given t.since) = once-front (given t.since) (given start) (subst OneSerial (filter_map-append pass_of t.since start) whole) in
    let theirs : OneSerial (given (told said)) = subst (λ es. OneSerial (given es)) t.theirs (once-filter (λ e. e.client == client) (told t.since) (once-filter (λ e. is_told e.call) t.since since)) in
    let w = was-held said (reverse rest) g (reverse received) held theirs parts in
    given-is-out c start past client said g (reverse received) legal t u w.was_given w.apart

-- ---- a client's own ring, where its list is at hand: each pass that waits there goes back
pub record Settles (names : List RingName) (start : Trail) (rings rings_after : List RingView) (v : RingView) (old new : CoreView) (client : ℕ) (said : Trail) : Type 0 where
  pub posted : IsPosted names start rings_after new.past
  pub takes : TakesBack client old new
  pub theirs : IsToldBy start new.past client said
  pub all : IsUnfixedBy start new.past client (unfixes said)
  pub durable_is : durable new.past ≡ durable old.past
  pub emptied : reverse v.received ≡ unfixes said

pub settles : (names : List RingName) (start : Trail) (rings : List RingView) (old new : CoreView) (client at most : ℕ) (looked v last d : RingView) (said : Trail) → IsPosted names start rings old.past → at < length rings → at ≡ client
    → looked.name ≡ (get_or rings at d).name → looked.received ≡ (get_or rings at d).received → DrainsKnown most at looked v old.past new.past → new.parameters ≡ old.parameters → new.before ≡ old.before → most ≡ length looked.waiting
    → looked.received ++ looked.waiting ≡ reverse (unfixes said) → all_held said ≡ true → Legal new.parameters new.past → IsToldBy start old.past client said → last.name ≡ v.name → last.received ≡ v.received
    → Settles names start rings (set rings at last) v old new client said
settles names start rings old new client at most looked v last d said p below is name received drained parameters before counted fifo held legal t same got = record {
  posted = after;
  takes = subst (λ n. TakesBack n old new) is (takes_back at old new drained.taken parameters before drained.go_back);
  theirs = told_now;
  all = subst (IsUnfixedBy start new.past client) (unfixed_are (empty v.waiting refl)) gone;
  durable_is = go_back_durable at old.past drained.taken new.past drained.go_back;
  emptied = unfixed_are (empty v.waiting refl);
}
  where
    after : IsPosted names start (set rings at last) new.past
    after = posted_one names start rings old.past new.past at last d drained.taken p below (same ∙ drained.same ∙ name) (got ∙ drained.gave ∙ ap (λ gs. gs ++ reverse drained.taken) received) drained.go_back

    gone : IsUnfixedBy start new.past client (reverse v.received)
    gone = subst (λ n. IsUnfixedBy start new.past n (reverse v.received)) is
        (subst (λ gs. IsUnfixedBy start new.past at (reverse gs)) (ap (λ (r : RingView). r.received) (get_or-set_same rings at last d below) ∙ got)
        (came_back names start (set rings at last) new.past at d after (subst (λ n. at < n) (sym (length-set rings at last)) below)))

    told_now : IsToldBy start new.past client said
    told_now = told_still start old.past new.past client said t (went_back at old.past drained.taken new.past drained.go_back)

    whole : unfixes said ≡ reverse (v.received ++ v.waiting)
    whole = sym (reverse-reverse (unfixes said)) ∙ ap reverse (sym fifo ∙ ap (λ gs. looked.received ++ gs) drained.left ∙ sym (append_assoc looked.received (reverse drained.taken) v.waiting) ∙ ap (λ gs. gs ++ v.waiting) (sym drained.gave))

    long : length looked.waiting ≡ length drained.taken + length v.waiting
    long = ap length drained.left ∙ length-append (reverse drained.taken) v.waiting ∙ ap (λ n. n + length v.waiting) (length-reverse drained.taken)

    empty : (waiting : List Grant) → v.waiting ≡ waiting → waiting ≡ []
    empty [] e = refl
    empty (g ∷ rest) e = absurd (go (subst (IsStopped at new.past) e (drained.stopped fewer)))
      where
        fewer : length drained.taken < most
        fewer = let n = ap length e in omega (arith, n, long, counted)

        out : (g.client ≡ client) × (is_out g (passes_out new.past) ≡ true)
        out = waiting-is-out new.parameters start new.past client said v.received rest g legal told_now gone held (whole ∙ ap (λ gs. reverse (v.received ++ gs)) e)

        go : (g.client ≢ at) ⊎ (is_out g (passes_out new.past) ≡ false) → ⊥
        go (inl apart) = apart (out.0 ∙ sym is)
        go (inr not_out) = true≢false (sym out.1 ∙ not_out)

    unfixed_are : v.waiting ≡ [] → reverse v.received ≡ unfixes said
    unfixed_are none = sym (whole ∙ ap (λ gs. reverse (v.received ++ gs)) none ∙ ap reverse (append-nil v.received))
