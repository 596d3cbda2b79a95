-- A pass that did not go back.
use Rattle.std.proofs.Common.{◌≡◌, ap, sym, subst, ◌∙◌, ℕ, ◌<◌, List, Result, Ok, Err, length, slice_index_or, slice_set}
use Rattle.std.proofs.lemmas.List.{set-get_or, get_or_default}
use Rattle.bp_page.specs.declared.refusals.Refusal.{Refusal}
use Rattle.bp_page.specs.declared.refusals.Refusal.TheVariants as refusal
use Rattle.bp_core.specs.declared.passes.Pass.{Pass}
use Rattle.bp_shared.specs.Sessions.{SessionValue, UnfixSaid}
use Rattle.bp_parts.specs.Parts.{PartedValue}

-- it is handed back, and nothing changed
pub handed_back : (was is : SessionValue) (pass back : Pass) (why : Refusal) → UnfixSaid {A = Unit {0}} was pass (Err (back, why)) is → (back ≡ pass) × (is ≡ was)
handed_back was is pass back refusal.UnknownPass said = (said.1, said.2)
handed_back was is pass back refusal.RingFull said = (said.1, said.2)
handed_back was is pass back _ said = absurd said

-- so the session that stands in this part says of it
pub not_taken : (xs : List SessionValue) (part : ℕ) (was is d : SessionValue) (pass back : Pass) (why : Refusal) → was ≡ slice_index_or xs part d → part < length xs
    → UnfixSaid {A = Unit {0}} was pass (Err (back, why)) is
    → (e : SessionValue) → UnfixSaid {A = Unit {0}} (slice_index_or xs part e) pass (Err (pass, why)) (slice_index_or xs part e)
not_taken xs part was is d pass back why stood below said e =
    let same = handed_back was is pass back why said in
    let here : UnfixSaid {A = Unit {0}} was pass (Err (pass, why)) was =
    subst (λ b. UnfixSaid {A = Unit {0}} was pass (Err (b, why)) was) same.0 (subst (λ s. UnfixSaid {A = Unit {0}} was pass (Err (back, why)) s) same.1 said) in
    subst (λ s. UnfixSaid {A = Unit {0}} s pass (Err (pass, why)) s) (stood ∙ sym (get_or_default xs part e d below)) here

-- whether it went back or not, the session is in its part
pub unfix_stays : {A : Type 0} (was is : SessionValue) (pass : Pass) (r : Result A (Pass × Refusal)) → UnfixSaid was pass r is → is.part ≡ was.part
unfix_stays was is pass (Ok done) said = said.4
unfix_stays was is pass (Err (back, refusal.UnknownPass)) said = ap (λ (s : SessionValue). s.part) said.2
unfix_stays was is pass (Err (back, refusal.RingFull)) said = ap (λ (s : SessionValue). s.part) said.2
unfix_stays was is pass (Err (back, _)) said = absurd said

-- one client's sessions
abbrev parted : ℕ → List SessionValue → PartedValue
parted client sessions = record { client = client; sessions = sessions }

-- a session that is as it was changes nothing
pub same_sessions : (client part : ℕ) (xs : List SessionValue) (s d : SessionValue) → s ≡ slice_index_or xs part d → parted client (slice_set xs part s) ≡ parted client xs
same_sessions client part xs s d same = ap (parted client) (ap (λ t. slice_set xs part t) same ∙ set-get_or xs part d)
