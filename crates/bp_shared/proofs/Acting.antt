-- What a session's sections show it, call after call.
use Rattle.std.proofs.Common.{◌≡◌, ◌⊎◌, refl, sym, ap, subst, ◌∙◌, ℕ, ◌≤◌, ◌<◌, ◌+◌, ◌^◌, ◌++◌, append_assoc, length, arith, Result, Ok, Err, IsOk, inl, inr}
use Rattle.std.proofs.lemmas.Bool.{cases_lt}
use Rattle.bp_page.specs.declared.refusals.Refusal.{Refusal}
use Rattle.bp_page.specs.declared.refusals.Refusal.TheVariants as refusal
use Rattle.bp_trail.specs.Legal.{Legal}
use Rattle.bp_trail.specs.Parameters.{Parameters}
use Rattle.bp_trail.specs.Trail.{Trail}
use Rattle.bp_core.specs.CoreView.{CoreView, LacksRoomFor}
use Rattle.bp_shared.specs.Sessions.{SessionValue, IsRoomy}
use Rattle.bp_shared.specs.Telling.{GoesOnFrom, IsListOf, Sees}
use Rattle.bp_shared.specs.Keeping.{Idles, Acted, MayAct, Acts, FillsRoom}
use Rattle.bp_shared.proofs.Telling.{Adds, listed_more, goes_on_more}

pub seen_on : (start mid past : Trail) → GoesOnFrom start mid → GoesOnFrom mid past → GoesOnFrom start past
seen_on start mid past a b = (b.0 ++ a.0, b.1 ∙ ap (λ es. b.0 ++ es) a.1 ∙ sym (append_assoc b.0 a.0 start))

-- ---- one section
-- the trail and the list, which were the same of the client, got the same entries, and the session saw
-- the trail
pub shows : (c : Parameters) (start : Trail) (old new : SessionValue) (core after : CoreView) → core.parameters ≡ c → after.parameters ≡ core.parameters → Legal after.parameters after.past → IsListOf start core.past old.client old.said
    → Adds old.client core.past old.said after.past new.said → new.client ≡ old.client → old.free ≡ 32 → new.free ≡ old.free → GoesOnFrom old.seen core.past → new.seen ≡ after.past → new.part ≡ old.part → Acted c start old new
shows c start old new core after are same legal listed adds client free still on seen part = record {
  part = part;
  few = omega (arith, free);
  free = still ∙ free;
  legal = subst (Legal c) (sym seen) (subst (λ p. Legal p after.past) (same ∙ are) legal);
  list_is = subst (λ s. IsListOf start s new.client new.said) (sym seen) (subst (λ n. IsListOf start after.past n new.said) (sym client) (listed_more start old.client core.past after.past old.said new.said listed adds));
  goes_on = subst (GoesOnFrom old.seen) (sym seen) (goes_on_more old.seen core.past after.past adds.piece on adds.goes_on);
}

-- a look at the trail is one
pub looks : (c : Parameters) (start : Trail) (old new : SessionValue) → Sees c start old new → Acted c start old new
looks c start old new s =
    let client : new.client ≡ old.client = ap (λ (v : SessionValue). v.client) s.same in
    let said : new.said ≡ old.said = ap (λ (v : SessionValue). v.said) s.same in
    record {
      part = ap (λ (v : SessionValue). v.part) s.same;
      few = s.free;
      free = ap (λ (v : SessionValue). v.free) s.same;
      legal = s.legal;
      list_is = subst (λ n. IsListOf start new.seen n new.said) (sym client) (subst (λ es. IsListOf start new.seen old.client es) (sym said) s.list_is);
      goes_on = s.goes_on;
    }

-- before it the session's own ring was emptied, and memory taken
pub begun : (c : Parameters) (start : Trail) (old mid new : SessionValue) → old.free ≤ 32 → mid.seen ≡ old.seen → mid.part ≡ old.part → Acted c start mid new → Acted c start old new
begun c start old mid new few seen part a = record { part = a.part ∙ part; few = few; free = a.free; legal = a.legal; list_is = a.list_is; goes_on = subst (λ s. GoesOnFrom s new.seen) seen a.goes_on }

-- a call that is not refused makes one
pub acts_ok : {A : Type 0} (c : Parameters) (start : Trail) (answer : Result A Refusal) (old new : SessionValue) → Acts c start answer old new → IsOk answer → Acted c start old new
acts_ok c start (Ok done) old new acts ok = acts
acts_ok c start (Err why) old new acts ok = absurd (cc)

-- ---- why a section was refused
pub fills : (n m : ℕ) (c : Parameters) (core after : CoreView) (seen : Trail) → core.parameters ≡ c → n ≤ m → LacksRoomFor n core → after ≡ core → seen ≡ after.past → FillsRoom m c seen
fills n m c core after seen are few lacks same is =
    let past : seen ≡ core.past = is ∙ ap (λ (v : CoreView). v.past) same in
    subst (λ p. FillsRoom m p seen) are (subst (λ s. FillsRoom m core.parameters s) (sym past) (omega (arith, few, lacks)))

-- after other events of the section a pass was given back
pub gave_back : (c : Parameters) (start : Trail) (old mid new : SessionValue) (after : CoreView) → old.free ≤ 32 → mid.part ≡ old.part → GoesOnFrom old.seen mid.seen → new.part ≡ mid.part → new.free ≡ 32 → after.parameters ≡ c → Legal after.parameters after.past → new.seen ≡ after.past
    → IsListOf start after.past new.client new.said → GoesOnFrom mid.seen new.seen → Acted c start old new
gave_back c start old mid new after few part on still free are legal seen listed more = record {
  part = still ∙ part;
  few = few;
  free = free;
  legal = subst (Legal c) (sym seen) (subst (λ p. Legal p after.past) are legal);
  list_is = subst (λ s. IsListOf start s new.client new.said) (sym seen) listed;
  goes_on = seen_on old.seen mid.seen new.seen on more;
}

-- ---- one call
pub acted : {A : Type 0} (c : Parameters) (start : Trail) (r : Result A Refusal) (old new : SessionValue) → Acted c start old new → Acts c start r old new
acted c start (Ok done) old new a = a
acted c start (Err refusal.OutOfMemory) old new a = inr a
acted c start (Err refusal.UnknownPass) old new a = inr a
acted c start (Err _) old new a = a

-- there was no memory for one
pub unasked : {A : Type 0} (c : Parameters) (start : Trail) (r : Result A Refusal) (old new : SessionValue) → r ≡ Err refusal.OutOfMemory → Idles old new → Acts c start r old new
unasked c start r old new is i = subst (λ x. Acts c start x old new) (sym is) (inl i)

pub may_act : {A : Type 0} (c : Parameters) (start : Trail) (r : Result A Refusal) (old new : SessionValue) → Acts c start r old new → MayAct c start old new
may_act c start (Ok done) old new a = inr a
may_act c start (Err refusal.OutOfMemory) old new a = a
may_act c start (Err refusal.UnknownPass) old new a = a
may_act c start (Err _) old new a = inr a

pub idle : (c : Parameters) (start : Trail) (old : SessionValue) → MayAct c start old old
idle c start old = inl (record { part = refl; client = refl; said = refl; seen = refl; free = refl })

-- ---- one call after another
pub all_more : (c : Parameters) (start : Trail) (old mid new : SessionValue) → MayAct c start old mid → Acted c start mid new → Acted c start old new
all_more c start old mid new (inl i) a = begun c start old mid new (subst (λ n. n ≤ 32) i.free a.few) i.seen i.part a
all_more c start old mid new (inr m) a = record { part = a.part ∙ m.part; few = m.few; free = a.free; legal = a.legal; list_is = a.list_is; goes_on = seen_on old.seen mid.seen new.seen m.goes_on a.goes_on }

pub all_then : (c : Parameters) (start : Trail) (old mid new : SessionValue) → Acted c start old mid → MayAct c start mid new → Acted c start old new
all_then c start old mid new a (inl i) = record {
  part = i.part ∙ a.part;
  few = a.few;
  free = i.free ∙ a.free;
  legal = subst (Legal c) (sym i.seen) a.legal;
  list_is = subst (λ s. IsListOf start s new.client new.said) (sym i.seen) (subst (λ n. IsListOf start mid.seen n new.said) (sym i.client) (subst (λ es. IsListOf start mid.seen mid.client es) (sym i.said) a.list_is));
  goes_on = subst (GoesOnFrom old.seen) (sym i.seen) a.goes_on;
}
all_then c start old mid new a (inr m) = all_more c start old mid new (inr a) m

pub may_more : (c : Parameters) (start : Trail) (old mid new : SessionValue) → MayAct c start old mid → MayAct c start mid new → MayAct c start old new
may_more c start old mid new (inl a) (inl b) = inl (record { part = b.part ∙ a.part; client = b.client ∙ a.client; said = b.said ∙ a.said; seen = b.seen ∙ a.seen; free = b.free ∙ a.free })
may_more c start old mid new (inr a) (inl b) = inr (all_then c start old mid new a (inl b))
may_more c start old mid new m (inr a) = inr (all_more c start old mid new m a)

pub acts_more : {A : Type 0} (c : Parameters) (start : Trail) (r : Result A Refusal) (old mid new : SessionValue) → MayAct c start old mid → Acts c start r mid new → Acts c start r old new
acts_more c start (Ok done) old mid new m a = all_more c start old mid new m a
acts_more c start (Err refusal.OutOfMemory) old mid new m a = may_more c start old mid new m a
acts_more c start (Err refusal.UnknownPass) old mid new m a = may_more c start old mid new m a
acts_more c start (Err _) old mid new m a = all_more c start old mid new m a

-- a refusal is handed on
pub refused_more : (A B : Type 0) (c : Parameters) (start : Trail) (why : Refusal) (old mid new : SessionValue) → MayAct c start old mid → Acts {A = A} c start (Err why) mid new → Acts {A = B} c start (Err why) old new
refused_more A B c start refusal.OutOfMemory old mid new m a = may_more c start old mid new m a
refused_more A B c start refusal.UnknownPass old mid new m a = may_more c start old mid new m a
refused_more A B c start _ old mid new m a = all_more c start old mid new m a

-- ---- no memory was wanted for a list that is short
pub too_long : (said after : Trail) → after ≡ said → (length said < 2 ^ 61 → ⊥) → 2 ^ 61 ≤ length after
too_long said after same not = subst (λ (es : Trail). 2 ^ 61 ≤ length es) (sym same) (elim (cases_lt (length said) (2 ^ 61)) [ inl short ↦ absurd (not short) | inr long ↦ long ])

-- a look at the trail leaves the room
pub still_roomy : (c : Parameters) (start : Trail) (old new : SessionValue) → Sees c start old new → IsRoomy old → IsRoomy new
still_roomy c start old new s was = (omega (arith, ap (λ (v : SessionValue). v.passes) s.same, was.0), omega (arith, ap (λ (v : SessionValue). v.places) s.same, was.1))

-- a section that took no room
pub roomy_still : (old new : SessionValue) → old.passes ≤ new.passes + 0 → old.places ≤ new.places + 0 → IsRoomy old → IsRoomy new
roomy_still old new passes places had = (omega (arith, passes, had.0), omega (arith, places, had.1))

pub or_never : {A : Type 0} → A ⊎ ⊥ → A
or_never (inl a) = a
or_never (inr never) = absurd never
