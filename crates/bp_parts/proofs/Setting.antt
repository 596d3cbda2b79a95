-- One session is another.
use Rattle.std.proofs.Common.{◌≡◌, ◌⊎◌, inl, inr, refl, sym, ◌∙◌, subst, ℕ, ◌<◌, ◌≤◌, List, Result, length, slice_index_or, slice_set, length-set, arith}
use Rattle.std.proofs.Math.Nat.{eq-or-lt_of_le}
use Rattle.std.proofs.lemmas.Bool.{cases_lt}
use Rattle.std.proofs.lemmas.Grind.{get_or-set_at}
use Rattle.std.proofs.lemmas.List.{get_or-set_other, get_or_default}
use Rattle.bp_page.specs.declared.refusals.Refusal.{Refusal}
use Rattle.bp_trail.specs.Parameters.{Parameters}
use Rattle.bp_trail.specs.Trail.{Trail}
use Rattle.bp_shared.specs.Sessions.{SessionValue}
use Rattle.bp_shared.specs.Keeping.{KeepsSession, MayAct}
use Rattle.bp_shared.proofs.Acting.{may_act}
use Rattle.bp_parts.specs.Parts.{AreSessionsOf, IsSessionOf, InPart}

-- the session of one part is set, and is the client's still
pub kept_set : (client part : ℕ) (xs : List SessionValue) (s : SessionValue) → AreSessionsOf client xs → IsSessionOf client part s → part < length xs → AreSessionsOf client (slice_set xs part s)
kept_set client part xs s are is below i d within = go (cases_lt i part)
  where
    Theirs : SessionValue → Type 0
    Theirs t = IsSessionOf client i t

    inside : i < length xs
    inside = omega (arith, within, length-set xs part s)

    at : i ≡ part → Theirs (slice_index_or (slice_set xs part s) i d)
    at same = subst Theirs (sym (get_or-set_at xs part i s d same below)) (subst (λ n. IsSessionOf client n s) (sym same) is)

    high : (part ≡ i) ⊎ (part < i) → Theirs (slice_index_or (slice_set xs part s) i d)
    high (inl same) = at (sym same)
    high (inr more) = subst Theirs (sym (get_or-set_other xs part i s d (λ same. absurd (omega (arith, more, same))))) (are i d inside)

    go : (i < part) ⊎ (part ≤ i) → Theirs (slice_index_or (slice_set xs part s) i d)
    go (inl less) = subst Theirs (sym (get_or-set_other xs part i s d (λ same. absurd (omega (arith, less, same))))) (are i d inside)
    go (inr most) = high (eq-or-lt_of_le most)

-- the session that stands there is the client's, in its part
pub own_at : (client part : ℕ) (xs : List SessionValue) (was d : SessionValue) → AreSessionsOf client xs → part < length xs → was ≡ slice_index_or xs part d → IsSessionOf client part was
own_at client part xs was d are below stood = subst (IsSessionOf client part) (sym stood) (are part d below)

-- it did something, and is so still
pub kept_by : (client part : ℕ) (xs : List SessionValue) (was s d : SessionValue) → AreSessionsOf client xs → part < length xs → was ≡ slice_index_or xs part d
    → s.client ≡ was.client → s.part ≡ was.part → AreSessionsOf client (slice_set xs part s)
kept_by client part xs was s d are below stood who where_ =
    let own = own_at client part xs was d are below stood in
    kept_set client part xs s are (record { client_is = who ∙ own.client_is; part_is = where_ ∙ own.part_is }) below

-- one part's session did so
pub in_part : (Did : SessionValue → SessionValue → Type 0) (part client : ℕ) (xs : List SessionValue) (was is d : SessionValue) → AreSessionsOf client xs → part < length xs → was ≡ slice_index_or xs part d → Did was is
    → InPart part (record { client = client; sessions = xs }) (record { client = client; sessions = slice_set xs part is }) Did
in_part Did part client xs was is d are below stood did = record {
  was = was;
  is = is;
  old_is = λ e. get_or_default xs part e d below ∙ sym stood;
  own = own_at client part xs was d are below stood;
  new_is = refl;
  did = did;
}

-- a call leaves a session in its part
pub stays : {A : Type 0} (c : Parameters) (start : Trail) (r : Result A Refusal) (old new : SessionValue) → KeepsSession c start r old new → new.part ≡ old.part
stays c start r old new k = go (may_act c start r old new k.acts)
  where
    go : MayAct c start old new → new.part ≡ old.part
    go (inl i) = i.part
    go (inr a) = a.part
