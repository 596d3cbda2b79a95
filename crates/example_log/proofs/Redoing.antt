-- Why redo may be cut off at any moment, and what it leaves when it is done.
use Rattle.std.proofs.Common.{◌≡◌, ◌≢◌, inl, inr, refl, sym, ap, subst, ◌∙◌, ℕ, ◌+◌, ◌<◌, ◌≤◌, Bool, true, false, not, ◌&&◌, ◌||◌, true≢false, ◌==◌, List, [], ◌∷◌, ◌++◌, length, arith, length-append}
use Rattle.std.specs.Prelude.{Result, Ok, Err}
use Rattle.std.specs.Bool.{MatchBool}
use Rattle.std.specs.Result.{IsErr, is_ok}
use Rattle.std.proofs.lemmas.Bool.{cases_lt, eqb-true, eq-eqb}
use Rattle.bp_page.specs.declared.refusals.PortFault.{PortFault}
use Rattle.bp_page.specs.declared.refusals.Refusal.{Refusal}
use Rattle.bp_trail.specs.declared.records.LogRecord.{LogRecord}
use Rattle.bp_trail.specs.Lists.{some}
use Rattle.bp_trail.specs.Recovery.{AllFit, HasFullImage, put, redo, records_from}
use Rattle.bp_trail.proofs.Bytes.{length-put}
use Rattle.bp_trail.proofs.Crashes.{redo-cut_off, redo-whole}
use Rattle.example_log.specs.Disk.{DeviceCall, Partly, MayBring, MayLeave, Honest, is_good_sync, sync_failed, Reads, Writes, Syncs, Did}
use Rattle.example_log.specs.Disk.DeviceCall.{Read, NotRead, Write, Sync}
use Rattle.example_log.specs.Moments.{AtEach}
use Rattle.example_log.proofs.Moments.{each-append}
use Rattle.example_log.specs.Promise.{IsMended, MayBeRedone, AtEachMoment, IsRedone, Recovers, RecoversThroughout}
use Rattle.example_log.specs.Steps.{Begins, Redoes, RedoesEach}
use Rattle.example_log.specs.Steps.Begins.{anew, read, not_read, no_memory}
use Rattle.example_log.specs.Steps.Redoes.{no_record, stopped, written}
use Rattle.example_log.specs.Steps.RedoesEach.{no_page, next}

-- ---- calls, one after the other

pub did-append : {P : Type 0} (reads : Reads P) (writes : Writes P) (syncs : Syncs P) (a b c : P) (newer older : List DeviceCall)
    → Did reads writes syncs a older b → Did reads writes syncs b newer c → Did reads writes syncs a (newer ++ older) c
did-append reads writes syncs a b c [] older h k = subst (λ x. Did reads writes syncs a older x) (sym k) h
did-append reads writes syncs a b c (call ∷ newer) older h k = (k.0, did-append reads writes syncs a b k.0 newer older h k.1, k.2)

abbrev EachWrite : (ℕ → List ℕ → Type 0) → List DeviceCall → Type 0
EachWrite Q [] = Unit {0}
EachWrite Q (Write p image good ∷ older) = Q p image × EachWrite Q older
EachWrite Q (_ ∷ older) = EachWrite Q older

each-older : (Q : ℕ → List ℕ → Type 0) (newer older : List DeviceCall) → EachWrite Q (newer ++ older) → EachWrite Q older
each-older Q [] older h = h
each-older Q (Write p image good ∷ newer) older h = each-older Q newer older h.1
each-older Q (Read p image ∷ newer) older h = each-older Q newer older h
each-older Q (NotRead p ∷ newer) older h = each-older Q newer older h
each-older Q (Sync good ∷ newer) older h = each-older Q newer older h

honest-older : (tears : Bool) (first : ℕ → List ℕ) (newer older : List DeviceCall) → Honest tears first (newer ++ older) → Honest tears first older
honest-older tears first [] older h = h
honest-older tears first (Write p image good ∷ newer) older h = honest-older tears first newer older h
honest-older tears first (Read p image ∷ newer) older h = honest-older tears first newer older h.1
honest-older tears first (NotRead p ∷ newer) older h = honest-older tears first newer older h
honest-older tears first (Sync good ∷ newer) older h = honest-older tears first newer older h

-- ---- what the device may have may be redone

-- an image of p of which redo makes what is wanted
record Leads (size from : ℕ) (log : List LogRecord) (goal p : List ℕ) (page : ℕ) : Type 0 where
  sized : length p ≡ size
  same : redo from log page p ≡ goal

-- a write of what is wanted of p, of which the log has records
record IsRight (size from : ℕ) (log : List LogRecord) (wanted : ℕ → List ℕ) (p : ℕ) (image : List ℕ) : Type 0 where
  same : image ≡ wanted p
  sized : length image ≡ size
  told : records_from from log p ≢ []
  fit : AllFit size (records_from from log p)

module _ (tears : Bool) (size from : ℕ) (log : List LogRecord) (wanted first : ℕ → List ℕ) (m : MayBeRedone tears size from log wanted first) where
  abbrev Good : ℕ → List ℕ → Type 0
  Good p image = Leads size from log (wanted p) image p

  abbrev Right : ℕ → List ℕ → Type 0
  Right p image = IsRight size from log wanted p image

  at-first : (p : ℕ) (image : List ℕ) → image ≡ first p → Good p image
  at-first p image is = record { sized = ap length is ∙ m.sized p; same = ap (redo from log p) is ∙ m.leads p }

  again : (p : ℕ) (image : List ℕ) → Right p image → Good p image
  again p image r = record {
    sized = r.sized;
    same =
        ap (redo from log p) (r.same ∙ sym (m.leads p))
        ∙ redo-cut_off [] log from p (first p) (subst (λ n. AllFit n (records_from from log p)) (sym (m.sized p)) r.fit)
        ∙ m.leads p;
  }

  torn : (p : ℕ) (image : List ℕ) → HasFullImage size (records_from from log p) → length image ≡ size → Good p image
  torn p image full long = record {
    sized = long;
    same =
        sym (redo-whole log from p (first p) image (subst (λ n. HasFullImage n (records_from from log p)) (sym (m.sized p)) full) (long ∙ sym (m.sized p)))
        ∙ m.leads p;
  }

  partly : (p : ℕ) (new image : List ℕ) → Right p new → Partly tears new image → Good p image
  partly p new image r (inl is) = subst (Good p) (sym is) (again p new r)
  partly p new image r (inr tear) = go (m.mended p)
    where
      go : IsMended tears size from log p → Good p image
      go (inl whole) = let t = tear.0 in absurd (cc)
      go (inr (inl full)) = torn p image full (tear.1 ∙ r.sized)
      go (inr (inr empty)) = absurd (r.told empty)

  moved : (q p : ℕ) (new image : List ℕ) → q ≡ p → Right q new → Partly tears new image → Good p image
  moved q p new image e r h = partly p new image (subst (λ n. Right n new) e r) h

  wrote : (q p : ℕ) (new image : List ℕ) (older : List DeviceCall) → Right q new → (MayBring tears first older p image → Good p image)
      → (b : Bool) → (q == p) ≡ b → MatchBool b (image ≡ new) (MayBring tears first older p image) → Good p image
  wrote q p new image older right before true e k = moved q p new image (eqb-true q p e) right (inl k)
  wrote q p new image older right before false e k = before k

  brings : (calls : List DeviceCall) → EachWrite Right calls → (p : ℕ) (image : List ℕ) → MayBring tears first calls p image → Good p image
  brings [] each p image h = at-first p image h
  brings (Read q found ∷ older) each p image h = brings older each p image h
  brings (NotRead q ∷ older) each p image h = brings older each p image h
  brings (Sync good ∷ older) each p image h = brings older each p image h
  brings (Write q new true ∷ older) each p image h = wrote q p new image older each.0 (brings older each.1 p image) (q == p) refl h
  brings (Write q new false ∷ older) each p image (inl here) = moved q p new image here.0 each.0 here.1
  brings (Write q new false ∷ older) each p image (inr h) = brings older each.1 p image h

  either : (P Q : Type 0) (p : ℕ) (image : List ℕ) → (P → Good p image) → (Q → Good p image) → (b : Bool) → MatchBool b P Q → Good p image
  either P Q p image f g true h = f h
  either P Q p image f g false h = g h

  leaves : (calls : List DeviceCall) → EachWrite Right calls → (p : ℕ) (image : List ℕ) → MayLeave tears first calls p image → Good p image
  leaves [] each p image h = at-first p image h
  leaves (Read q found ∷ older) each p image h = leaves older each p image h
  leaves (NotRead q ∷ older) each p image h = leaves older each p image h
  leaves (Sync good ∷ older) each p image h =
      either (MayBring tears first older p image) (MayLeave tears first older p image) p image (brings older each p image) (leaves older each p image) (good && not (some sync_failed older)) h
  leaves (Write q new good ∷ older) each p image (inl here) = moved q p new image here.0 each.0 here.1
  leaves (Write q new good ∷ older) each p image (inr h) = leaves older each.1 p image h

  -- whatever is left may be redone
  moments : (calls : List DeviceCall) → EachWrite Right calls → AtEachMoment tears size from log wanted first calls
  moments calls each = λ later so_far left stands may.
      (let at = λ (p : ℕ). leaves so_far (each-older Right later so_far (subst (EachWrite Right) stands each)) p (left p) (may p) in
      record { sized = λ p. (at p).sized; mended = m.mended; leads = λ p. (at p).same })

  -- ---- each write is of what is wanted

  makes : (p : ℕ) (image : List ℕ) → Good p image → records_from from log p ≢ [] → AllFit size (records_from from log p) → Right p (redo from log p image)
  makes p image good told fit = record {
    same = good.same;
    sized = length-put size (records_from from log p) image fit good.sized;
    told = told;
    fit = fit;
  }

  begun : (p : ℕ) (calls older : List DeviceCall) (result : Result (List ℕ) Refusal) → Begins size from log p calls result → EachWrite Right older → EachWrite Right (calls ++ older)
  begun p _ older _ (anew full long) each = each
  begun p _ older _ (read long) each = each
  begun p _ older _ not_read each = each
  begun p _ older _ no_memory each = each

  begun-good : (p : ℕ) (calls older : List DeviceCall) (image : List ℕ) → Begins size from log p calls (Ok image) → EachWrite Right older → Honest tears first (calls ++ older) → Good p image
  begun-good p _ older image (anew full long) each honest = torn p image full long
  begun-good p _ older image (read long) each honest = brings older each p image honest.0

  step : (p : ℕ) (calls older : List DeviceCall) (done : Bool) → Redoes size from log p calls done → EachWrite Right older → Honest tears first (calls ++ older) → EachWrite Right (calls ++ older)
  step p _ older _ (no_record empty) each honest = each
  step p calls older _ (stopped {begun = r} b) each honest = begun p calls older r b each
  step p _ older good (written {calls = calls} {image = image} _ b told fit) each honest =
      (makes p image (begun-good p calls older image b each honest) told fit, begun p calls older (Ok image) b each)

  steps : (n : ℕ) (calls : List DeviceCall) → RedoesEach size from log n calls → Honest tears first calls → EachWrite Right calls
  steps _ _ no_page honest = tt
  steps _ _ (next {p = p} {calls = calls} {older = older} before here) honest =
      step p calls older true here (steps p older before (honest-older tears first calls older honest)) honest

  -- ---- and in the end each page is what is wanted

  record Stands (f : ℕ → List ℕ) (n p : ℕ) (image : List ℕ) : Type 0 where
    done : p < n → image ≡ wanted p
    kept : n ≤ p → image ≡ f p

  unread : (f : ℕ → List ℕ) (q : ℕ) (calls older : List DeviceCall) (result : Result (List ℕ) Refusal) → Begins size from log q calls result → (p : ℕ) (image : List ℕ) → MayBring tears f (calls ++ older) p image → MayBring tears f older p image
  unread f q _ older _ (anew full long) p image h = h
  unread f q _ older _ (read long) p image h = h
  unread f q _ older _ not_read p image h = h
  unread f q _ older _ no_memory p image h = h

  wanted-none : (f : ℕ → List ℕ) → MayBeRedone tears size from log wanted f → (p : ℕ) → records_from from log p ≡ [] → f p ≡ wanted p
  wanted-none f l p empty = sym (ap (λ rs. put rs (f p)) empty) ∙ l.leads p

  stand-one : (f : ℕ → List ℕ) → MayBeRedone tears size from log wanted f → (n : ℕ) (calls older : List DeviceCall) → Redoes size from log n calls true → EachWrite Right older
      → ((p : ℕ) (image : List ℕ) → MayBring tears f older p image → Stands f n p image) → Honest tears first (calls ++ older)
      → (p : ℕ) (image : List ℕ) → MayBring tears f (calls ++ older) p image → Stands f (n + 1) p image
  stand-one f l n _ older (no_record empty) each before honest p image h =
      let b = before p image h in
      record {
        done = λ lt. elim (cases_lt p n) [
          | inl below ↦ b.done below
          | inr above ↦ (let same : n ≡ p = omega arith in b.kept above ∙ wanted-none f l p (subst (λ q. records_from from log q ≡ []) same empty))
        ];
        kept = λ le. b.kept (omega arith);
      }
  stand-one f l n _ older (written {calls = calls} {image = made} _ b told fit) each before honest p image h = go (n == p) refl h
    where
      right : Right n (redo from log n made)
      right = makes n made (begun-good n calls older made b each honest) told fit

      go : (t : Bool) → (n == p) ≡ t → MatchBool t (image ≡ redo from log n made) (MayBring tears f (calls ++ older) p image) → Stands f (n + 1) p image
      go true e k =
          let same = eqb-true n p e in
          record { done = λ lt. k ∙ right.same ∙ ap wanted same; kept = λ le. absurd (omega arith) }
      go false e k =
          let was = before p image (unread f n calls older (Ok made) b p image k) in
          record { done = λ lt. was.done (elsewhere e lt); kept = λ le. was.kept (omega arith) }
        where
          elsewhere : (n == p) ≡ false → p < n + 1 → p < n
          elsewhere e lt = elim (cases_lt p n) [
            | inl below ↦ below
            | inr above ↦ (let same : n ≡ p = omega arith in let here : (n == p) ≡ true = eq-eqb n p same in absurd (cc))
          ]

  stand : (f : ℕ → List ℕ) → MayBeRedone tears size from log wanted f → (n : ℕ) (calls : List DeviceCall) → RedoesEach size from log n calls → Honest tears first calls → (p : ℕ) (image : List ℕ) → MayBring tears f calls p image → Stands f n p image
  stand f l _ _ no_page honest p image h = record { done = λ lt. absurd (omega arith); kept = λ le. h }
  stand f l _ _ (next {p = n} {calls = calls} {older = older} before here) honest p image h =
      (let so_far = honest-older tears first calls older honest in stand-one f l n calls older here (steps n older before so_far) (stand f l n older before so_far) honest p image h)

  begun-syncs : (p : ℕ) (calls older : List DeviceCall) (result : Result (List ℕ) Refusal) → Begins size from log p calls result → some sync_failed older ≡ false → some sync_failed (calls ++ older) ≡ false
  begun-syncs p _ older _ (anew full long) h = h
  begun-syncs p _ older _ (read long) h = h
  begun-syncs p _ older _ not_read h = h
  begun-syncs p _ older _ no_memory h = h

  no-syncs : (n : ℕ) (calls : List DeviceCall) → RedoesEach size from log n calls → some sync_failed calls ≡ false
  no-syncs _ _ no_page = refl
  no-syncs _ _ (next {p = p} {calls = calls} {older = older} before here) = go calls here (no-syncs p older before)
    where
      go : (cs : List DeviceCall) → Redoes size from log p cs true → some sync_failed older ≡ false → some sync_failed (cs ++ older) ≡ false
      go _ (no_record empty) h = h
      go _ (written {calls = cs} {image = image} _ b told fit) h = begun-syncs p cs older (Ok image) b h

  synced : (f : ℕ → List ℕ) → MayBeRedone tears size from log wanted f → (n : ℕ) (calls : List DeviceCall) → RedoesEach size from log n calls → Honest tears first calls → IsRedone tears n wanted first f (Sync true ∷ calls)
  synced f l n calls each honest = record {
    reads = λ p image lt h. (stand first m n calls each honest p image h).done lt;
    durable = λ p image lt h. (stand f l n calls each honest p image
        (subst (λ (b : Bool). MatchBool (true && not b) (MayBring tears f calls p image) (MayLeave tears f calls p image)) (no-syncs n calls each) h)).done lt;
  }

-- ---- redo of a device

pub stopped-at : (pages size from : ℕ) (log : List LogRecord) (p : ℕ) (calls older : List DeviceCall) → RedoesEach size from log p older → Redoes size from log p calls false → Recovers pages size from log (calls ++ older) false
stopped-at pages size from log p calls older before here = λ tears wanted seen first m l honest. (
  moments tears size from log wanted first l (calls ++ older)
      (step tears size from log wanted seen m p calls older false here (steps tears size from log wanted seen m p older before (honest-older tears seen calls older honest)) honest),
  λ no. absurd (cc),
)

pub unsynced : (pages size from : ℕ) (log : List LogRecord) (calls : List DeviceCall) → RedoesEach size from log pages calls → Recovers pages size from log (Sync false ∷ calls) false
unsynced pages size from log calls each = λ tears wanted seen first m l honest. (
  moments tears size from log wanted first l (Sync false ∷ calls) (steps tears size from log wanted seen m pages calls each honest),
  λ no. absurd (cc),
)

pub done : (pages size from : ℕ) (log : List LogRecord) (calls : List DeviceCall) → RedoesEach size from log pages calls → Recovers pages size from log (Sync true ∷ calls) true
done pages size from log calls each = λ tears wanted seen first m l honest. (
  moments tears size from log wanted first l (Sync true ∷ calls) (steps tears size from log wanted seen m pages calls each honest),
  λ yes. synced tears size from log wanted seen m first l pages calls each honest,
)

-- ---- redo of a device, at each moment

module _ (pages size from : ℕ) (log : List LogRecord) where
  abbrev pub Then : List DeviceCall → Type 0
  Then so_far = Recovers pages size from log so_far false

  then-each : (n : ℕ) (calls : List DeviceCall) → RedoesEach size from log n calls → Then calls
  then-each n calls each = λ tears wanted seen first m l honest. (moments tears size from log wanted first l calls (steps tears size from log wanted seen m n calls each honest), λ no. absurd (cc))

  then-synced : (good : Bool) (n : ℕ) (calls : List DeviceCall) → RedoesEach size from log n calls → Then (Sync good ∷ calls)
  then-synced good n calls each = λ tears wanted seen first m l honest. (moments tears size from log wanted first l (Sync good ∷ calls) (steps tears size from log wanted seen m n calls each honest), λ no. absurd (cc))

  module _ (p : ℕ) (older : List DeviceCall) (before : RedoesEach size from log p older) where
    abbrev Behind : List DeviceCall → Type 0
    Behind so_far = Then (so_far ++ older)

    begun-each : (calls : List DeviceCall) (result : Result (List ℕ) Refusal) → Begins size from log p calls result → AtEach Behind calls
    begun-each _ _ (anew full long) = then-each p older before
    begun-each _ _ (read {image = image} long) = (stopped-at pages size from log p (Read p image ∷ []) older before (stopped (read {image = image} long)), then-each p older before)
    begun-each _ _ (not_read {why = why}) = (stopped-at pages size from log p (NotRead p ∷ []) older before (stopped (not_read {why = why})), then-each p older before)
    begun-each _ _ no_memory = then-each p older before

    step-whole : (calls : List DeviceCall) (done : Bool) → Redoes size from log p calls done → Behind calls
    step-whole calls true here = then-each (p + 1) (calls ++ older) (next before here)
    step-whole calls false here = stopped-at pages size from log p calls older before here

    step-each : (calls : List DeviceCall) (done : Bool) → Redoes size from log p calls done → AtEach Behind calls
    step-each _ _ (no_record empty) = then-each p older before
    step-each calls _ (stopped {begun = r} b) = begun-each calls r b
    step-each _ good (written {calls = calls} {image = image} _ b told fit) = (step-whole (Write p (redo from log p image) good ∷ calls) good (written good b told fit), begun-each calls (Ok image) b)

  each-recovers : (n : ℕ) (calls : List DeviceCall) → RedoesEach size from log n calls → AtEach Then calls
  each-recovers _ _ no_page = then-each 0 [] no_page
  each-recovers _ _ (next {p = p} {calls = calls} {older = older} before here) = each-append Then calls older (each-recovers p older before) (step-each p older before calls true here)

-- ---- the functions' answers

pub err-false : {T E : Type 0} (r : Result T E) → IsErr r → false ≡ is_ok r
err-false (Ok x) h = cc
err-false (Err e) h = refl

not-empty : (rs newer : List LogRecord) (r : LogRecord) → rs ≡ newer ++ r ∷ [] → rs ≢ []
not-empty rs newer r told = λ e. omega (arith, ap length (sym told ∙ e), length-append newer (r ∷ []))

begun-sized : (size from : ℕ) (log : List LogRecord) (p : ℕ) (calls : List DeviceCall) (image : List ℕ) → Begins size from log p calls (Ok image) → length image ≡ size
begun-sized size from log p _ image (anew full long) = long
begun-sized size from log p _ image (read long) = long

module _ {P : Type 0} (reads : Reads P) (writes : Writes P) (syncs : Syncs P) (size from : ℕ) (log : List LogRecord) (old mid new : P) where
  abbrev Led : P → P → (List DeviceCall → Type 0) → Type 0
  Led a b Q = (calls : List DeviceCall) × Did reads writes syncs a calls b × Q calls

  pub page-stopped : (p : ℕ) (begun : Result (List ℕ) Refusal) (r : Result (Unit {0}) Refusal)
      → Led old new (λ calls. Begins size from log p calls begun) → IsErr r → Led old new (λ calls. Redoes size from log p calls (is_ok r))
  page-stopped p begun r h e = (h.0, h.1, subst (λ b. Redoes size from log p h.0 b) (err-false r e) (stopped h.2))

  pub page-written : (p : ℕ) (begun : Result (List ℕ) Refusal) (image made : List ℕ) (lsn : ℕ) (result : Result (Unit {0}) PortFault) (newer : List LogRecord) (r : LogRecord) (good : Bool)
      → Led old mid (λ calls. Begins size from log p calls begun) → begun ≡ Ok image → records_from from log p ≡ newer ++ r ∷ [] → AllFit (length image) (records_from from log p)
      → made ≡ redo from log p image → writes mid p made lsn result new → good ≡ is_ok result → Led old new (λ calls. Redoes size from log p calls good)
  page-written p begun image made lsn result newer r good h was told fit is gave good_is =
      let b = subst (λ x. Begins size from log p h.0 x) was h.2 in (
        Write p (redo from log p image) good ∷ h.0,
        (mid, h.1, (lsn, result, subst (λ x. writes mid p x lsn result new) is gave, good_is)),
        written good b (not-empty (records_from from log p) newer r told) (subst (λ n. AllFit n (records_from from log p)) (begun-sized size from log p h.0 image b) fit),
      )

  pub each-next : (s p q : ℕ) (good : Bool) → s ≡ size → q ≡ p → Led old mid (λ calls. RedoesEach size from log p calls) → Led mid new (λ calls. Redoes s from log q calls good) → good ≡ true
      → Led old new (λ calls. RedoesEach size from log (p + 1) calls)
  each-next s p q good same here before step is =
      let at : Redoes size from log p step.0 true = subst (λ g. Redoes size from log p step.0 g) is (subst (λ n. Redoes size from log n step.0 good) here (subst (λ n. Redoes n from log q step.0 good) same step.2)) in
      (step.0 ++ before.0, did-append reads writes syncs old mid new step.0 before.0 before.1 step.1, next before.2 at)

  pub each-stopped : (pages s p q : ℕ) (good : Bool) (r : Result (Unit {0}) Refusal) → s ≡ size → q ≡ p → Led old mid (λ calls. RedoesEach size from log p calls) → Led mid new (λ calls. Redoes s from log q calls good) → good ≡ false → IsErr r
      → Led old new (λ calls. RecoversThroughout pages size from log calls (is_ok r))
  each-stopped pages s p q good r same here before step is e =
      let at : Redoes size from log p step.0 false = subst (λ g. Redoes size from log p step.0 g) is (subst (λ n. Redoes size from log n step.0 good) here (subst (λ n. Redoes n from log q step.0 good) same step.2)) in (
        step.0 ++ before.0,
        did-append reads writes syncs old mid new step.0 before.0 before.1 step.1,
        (
          subst (λ b. Recovers pages size from log (step.0 ++ before.0) b) (err-false r e) (stopped-at pages size from log p step.0 before.0 before.2 at),
          each-append (λ so_far. Recovers pages size from log so_far false) step.0 before.0 (each-recovers pages size from log p before.0 before.2) (step-each pages size from log p before.0 before.2 step.0 false at),
          λ yes. absurd (true≢false (sym yes ∙ sym (err-false r e))),
        ),
      )

  pub all-done : (pages n : ℕ) (result : Result (Unit {0}) PortFault) (good : Bool) → n ≡ pages → Led old mid (λ calls. RedoesEach size from log n calls) → syncs mid result new → good ≡ is_ok result
      → Led old new (λ calls. RecoversThroughout pages size from log calls good)
  all-done pages n result good here before gave is = (
    Sync good ∷ before.0,
    (mid, before.1, (result, gave, is)),
    (
      last good (subst (λ k. RedoesEach size from log k before.0) here before.2),
      (then-synced pages size from log good n before.0 before.2, each-recovers pages size from log n before.0 before.2),
      λ yes. ap (λ (b : Bool). b || some is_good_sync before.0) yes,
    ),
  )
    where
      last : (b : Bool) → RedoesEach size from log pages before.0 → Recovers pages size from log (Sync b ∷ before.0) b
      last true each = done pages size from log before.0 each
      last false each = unsynced pages size from log before.0 each
