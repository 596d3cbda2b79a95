-- No two passes that a client's list was given have one number, since the trail that its session saw is legal.
use Rattle.std.proofs.Common.{◌≡◌, refl, sym, ap, subst, ◌∙◌, ℕ, ◌≤◌, Bool, true, false, not, ◌==◌, cond, List, [], ◌∷◌, ◌++◌, append_assoc, length, filter, filter_map, Option, Some, None, Result, inl, inr, arith}
use Rattle.std.specs.List.{cons_option}
use Rattle.std.proofs.lemmas.Bool.{false≢true, ne_eqb}
use Rattle.std.proofs.lemmas.List.{length-reverse}
use Rattle.std.proofs.lemmas.List.Elements.{filter_map-append}
use native.Mathlib.Decide.{ℕ_discrete}
use Rattle.bp_page.specs.declared.refusals.Refusal.{Refusal}
use Rattle.bp_core.specs.declared.passes.Pass.{Pass}
use Rattle.bp_trail.specs.declared.entries.Reply.{Reply}
use Rattle.bp_trail.specs.declared.entries.Reply.TheVariants.{Hit, Fixed}
use Rattle.bp_trail.specs.Parameters.{Parameters}
use Rattle.bp_trail.specs.Trail.{Trail}
use Rattle.bp_trail.specs.Lists.{count, without, and_given, EachEntry}
use Rattle.bp_trail.specs.Event.{Grant, grant, page_of, pass_given, pass_back}
use Rattle.bp_trail.specs.Passes.{pass_of, passes, passes_out}
use Rattle.bp_trail.specs.HeldPasses.{held_passes, unfix_of}
use Rattle.bp_trail.specs.Legal.{is_out, Legal}
use Rattle.bp_trail.specs.Clients.{of_client}
use Rattle.bp_trail.specs.Sentences.{pass_number, IsNext}
use Rattle.bp_trail.proofs.Sentences.{passes-next}
use Rattle.bp_trail.proofs.Counting.{count-cons, count-append, filter-reverse}
use Rattle.bp_scripts.specs.Script.{is_pass_of, latest_pass}
use Rattle.bp_shared.specs.Sessions.{SessionValue, LacksOwn}
use Rattle.bp_shared.specs.Telling.{GoesOnFrom, IsListOf, Sees}
use Rattle.bp_shared.specs.Keeping.{MayAct, Acts, KeepsSession}
use Rattle.bp_shared.proofs.Acting.{may_act}
use Rattle.bp_replay.specs.Rows.{SerialsDiffer}
use Rattle.bp_replay.specs.Bounds.{RaisesMark}
use Rattle.bp_replay.specs.Steps.{GivesEachOnce, Stays}
use Rattle.bp_replay.proofs.PieceSteps.{find-there}
use Rattle.bp_replay.proofs.Stepping.{client-of_latest}

abbrev has : ℕ → Grant → Bool
has n g = g.serial == n

abbrev given : Trail → List Grant
given past = filter_map pass_of past

few-filter : (p q : Grant → Bool) (gs : List Grant) → count p (filter q gs) ≤ count p gs
few-filter p q [] = omega arith
few-filter p q (g ∷ gs) = go (q g) (few-filter p q gs)
  where
    go : (b : Bool) → count p (filter q gs) ≤ count p gs → count p (cond b (g ∷ filter q gs) (filter q gs)) ≤ count p (g ∷ gs)
    go true ih = omega (arith, ih, count-cons p g (filter q gs), count-cons p g gs)
    go false ih = omega (arith, ih, count-cons p g gs)

few-left : (n : ℕ) (o : Option ℕ) (gs : List Grant) → count (has n) (without (λ g. g.serial) o gs) ≤ count (has n) gs
few-left n None gs = omega arith
few-left n (Some m) gs = few-filter (has n) (λ g. not (g.serial == m)) gs

-- of what is out no more than was given
few-out : (n : ℕ) (es : Trail) → count (has n) (passes_out es) ≤ count (has n) (given es)
few-out n [] = omega arith
few-out n (e ∷ es) = go (pass_of e) (few-out n es)
  where
    left : List Grant
    left = without (λ g. g.serial) (pass_back e.call) (passes_out es)

    go : (o : Option Grant) → count (has n) (passes_out es) ≤ count (has n) (given es) → count (has n) (and_given o left) ≤ count (has n) (cons_option o (given es))
    go None ih = omega (arith, ih, few-left n (pass_back e.call) (passes_out es))
    go (Some g) ih = omega (arith, ih, few-left n (pass_back e.call) (passes_out es), count-cons (has n) g left, count-cons (has n) g (given es))

-- to one client no more than to all
few-own : (n client : ℕ) (es : Trail) → count (has n) (given (of_client client es)) ≤ count (has n) (given es)
few-own n client [] = omega arith
few-own n client (e ∷ es) = go (e.client == client) (few-own n client es)
  where
    both : (o : Option Grant) (xs ys : List Grant) → count (has n) xs ≤ count (has n) ys → count (has n) (cons_option o xs) ≤ count (has n) (cons_option o ys)
    both None xs ys h = h
    both (Some g) xs ys h = omega (arith, h, count-cons (has n) g xs, count-cons (has n) g ys)

    one : (o : Option Grant) (xs ys : List Grant) → count (has n) xs ≤ count (has n) ys → count (has n) xs ≤ count (has n) (cons_option o ys)
    one None xs ys h = h
    one (Some g) xs ys h = omega (arith, h, count-cons (has n) g ys)

    go : (b : Bool) → count (has n) (given (of_client client es)) ≤ count (has n) (given es) → count (has n) (given (cond b (e ∷ of_client client es) (of_client client es))) ≤ count (has n) (given (e ∷ es))
    go true ih = both (pass_of e) (given (of_client client es)) (given es) ih
    go false ih = one (pass_of e) (given (of_client client es)) (given es) ih

-- no number was given twice, and none yet that is to come
record Once (gs : List Grant) : Type 0 where
  all : (n : ℕ) → count (has n) gs ≤ 1
  later : (n : ℕ) → length gs ≤ n → count (has n) gs ≡ 0

bit : (b : Bool) → cond b 1 0 ≤ 1
bit true = omega arith
bit false = omega arith

none-of : (n : ℕ) (g : Grant) (gs : List Grant) → (g.serial ≡ n → ⊥) → count (has n) (g ∷ gs) ≡ count (has n) gs
none-of n g gs apart = omega (arith, count-cons (has n) g gs, ap {B = ℕ} (λ b. cond b 1 0) (ne_eqb g.serial n apart))

next-once : (g : Grant) (gs : List Grant) → g.serial ≡ length gs → Once gs → Once (g ∷ gs)
next-once g gs is o = record {
  all = λ n. at n (ℕ_discrete g.serial n);
  later = λ n above. none-of n g gs (λ same. absurd (omega (arith, same, is, above))) ∙ o.later n (omega (arith, above));
}
  where
    at : (n : ℕ) → Dec (g.serial ≡ n) → count (has n) (g ∷ gs) ≤ 1
    at n (yes same) = omega (arith, count-cons (has n) g gs, bit (g.serial == n), o.later n (omega (arith, same, is)))
    at n (no apart) = omega (arith, none-of n g gs apart, o.all n)

step-once : (who p : ℕ) (r : Reply) (gs : List Grant) → ((n : ℕ) → pass_number r ≡ Some n → n ≡ length gs) → Once gs → Once (cons_option (pass_given who p r) gs)
step-once who p (Hit n) gs next o = next-once (grant who p n) gs (next n refl) o
step-once who p (Fixed n) gs next o = next-once (grant who p n) gs (next n refl) o
step-once who p _ gs next o = o

each-once : (past : Trail) → EachEntry (IsNext (λ e. pass_number e.reply) passes) past → Once (given past)
each-once [] h = record { all = λ n. omega arith; later = λ n above. refl }
each-once (e ∷ past) h = step-once e.client (page_of e.call) e.reply (given past) h.here (each-once past h.before)

once-listed : (c : Parameters) (start seen : Trail) (client : ℕ) (said : Trail) → Legal c seen → IsListOf start seen client said → GivesEachOnce said
once-listed c start seen client said legal list n =
    let whole : count (has n) (given (list.since ++ start)) ≤ 1 = subst (λ es. count (has n) (given es) ≤ 1) list.goes_on ((each-once seen (passes-next c seen legal)).all n) in
    let parts = ap (count (has n)) (filter_map-append pass_of list.since start) in
    let since : count (has n) (given list.since) ≤ 1 = omega (arith, whole, parts, count-append (has n) (given list.since) (given start)) in
    subst (λ es. count (has n) (given es) ≤ 1) list.theirs (omega (arith, since, few-own n client list.since))

pub none-once : (said : Trail) → said ≡ [] → GivesEachOnce said
none-once said is = subst GivesEachOnce (sym is) (λ n. omega arith)

-- a call that made a section saw such a trail, and another one adds nothing
acts-once : {A : Type 0} (c : Parameters) (start : Trail) (r : Result A Refusal) (old new : SessionValue) → Acts c start r old new → GivesEachOnce old.said → GivesEachOnce new.said
acts-once c start r old new a was = go (may_act c start r old new a)
  where
    go : MayAct c start old new → GivesEachOnce new.said
    go (inl i) = subst GivesEachOnce (sym i.said) was
    go (inr a) = once-listed c start new.seen new.client new.said a.legal a.list_is

-- and it sees what it saw
acts-on : {A : Type 0} (c : Parameters) (start : Trail) (r : Result A Refusal) (old new : SessionValue) → Acts c start r old new → GoesOnFrom old.seen new.seen
acts-on c start r old new a = go (may_act c start r old new a)
  where
    go : MayAct c start old new → GoesOnFrom old.seen new.seen
    go (inl i) = ([], i.seen)
    go (inr a) = a.goes_on

pub stays : {A : Type 0} (c : Parameters) (start : Trail) (r : Result A Refusal) (old new : SessionValue) → KeepsSession c start r old new → Stays old new
stays c start r old new k = record { client = k.client; before = k.before; once = acts-once c start r old new k.acts; goes_on = acts-on c start r old new k.acts }

pub as-it-was : (s : SessionValue) → Stays s s
as-it-was s = record { client = refl; before = refl; once = λ was. was; goes_on = ([], refl) }

pub sees-on : (c : Parameters) (start : Trail) (old new : SessionValue) → Sees c start old new → Stays old new
sees-on c start old new s = record {
  client = ap (λ (x : SessionValue). x.client) s.same;
  before = ap (λ (x : SessionValue). x.before) s.same;
  once = λ was. subst GivesEachOnce (sym (ap (λ (x : SessionValue). x.said) s.same)) was;
  goes_on = s.goes_on;
}

pub on-and-on : (old mid new : SessionValue) → Stays old mid → Stays mid new → Stays old new
on-and-on old mid new first then = record {
  client = then.client ∙ first.client;
  before = then.before ∙ first.before;
  once = λ was. then.once (first.once was);
  goes_on = (then.goes_on.0 ++ first.goes_on.0, then.goes_on.1 ∙ ap (λ es. then.goes_on.0 ++ es) first.goes_on.1 ∙ sym (append_assoc then.goes_on.0 first.goes_on.0 old.seen));
}

pub raises-on : (c : Parameters) (start : Trail) (o : Option ℕ) (old new : SessionValue) (raised after : ℕ) → RaisesMark c start o old raised new after → Stays old new
raises-on c start None old new raised after h = subst (Stays old) (sym h.0) (as-it-was old)
raises-on c start (Some lsn) old new raised after h = sees-on c start old new h.0

-- a row of client 0 leaves the list as it was before the row's own call
pub raises-said : (c : Parameters) (start : Trail) (o : Option ℕ) (old new : SessionValue) (raised after : ℕ) → RaisesMark c start o old raised new after → new.said ≡ old.said
raises-said c start None old new raised after h = ap (λ (x : SessionValue). x.said) h.0
raises-said c start (Some lsn) old new raised after h = ap (λ (x : SessionValue). x.said) h.0.same

pub posted-once : (g : Grant) (said after : Trail) → after ≡ unfix_of g ∷ said → GivesEachOnce said → GivesEachOnce after
posted-once g said after grows was = subst GivesEachOnce (sym grows) was

pub differ-once : (said : Trail) (held : List Grant) → held ≡ held_passes said → GivesEachOnce said → SerialsDiffer held
differ-once said held are once n =
    subst (λ gs. count (has n) gs ≤ 1) (sym are)
    (omega (arith, once n, few-out n said, ap length (filter-reverse (has n) (passes_out said)), length-reverse (filter (has n) (passes_out said))))

-- ---- the pass that was taken latest is the session's own
pub latest-own : (page : ℕ) (g : Grant) (pass : Pass) (s : SessionValue) → latest_pass s.said s.client page ≡ Some g → pass.client ≡ g.client → pass.page ≡ g.page → pass.serial ≡ g.serial → LacksOwn pass s → ⊥
latest-own page g pass s found who on number (inl other) = other (who ∙ client-of_latest s.said s.client page g found)
latest-own page g pass s found who on number (inr lost) =
    let same : grant pass.client pass.page pass.serial ≡ g = λ i. grant (who i) (on i) (number i) in
    false≢true (sym lost ∙ subst (λ x. is_out x (passes_out s.said) ≡ true) (sym same) (find-there (is_pass_of s.client page) g (passes_out s.said) found).is_there)
