-- The passes that a table's pool has out.
use Rattle.std.proofs.Common.{◌≡◌, inl, inr, refl, sym, ap, subst, ◌∙◌, ℕ, ◌+◌, Bool, true, false, not, ◌==◌, ◌&&◌, ◌||◌, cond, List, [], ◌∷◌, length}
use Rattle.std.specs.Prelude.{Result, Ok, Err, Some}
use Rattle.std.proofs.lemmas.Bool.{cases_lt, eq-eqb, true≢false}
use Rattle.bp_page.specs.declared.refusals.Refusal.{Refusal}
use Rattle.bp_page.specs.declared.refusals.Refusal.TheVariants as refusal
use Rattle.bp_core.specs.CoreView.{CoreView}
use Rattle.bp_core.specs.Outcomes.{StepOutcome, UnfixOutcome, WriteOutcome, pass_is_out}
use Rattle.bp_core.specs.declared.passes.Pass.{Pass}
use Rattle.bp_device.specs.Drivers.{DrivesFix, DrivesFlush}
use Rattle.bp_device.specs.FlushAll.{FlushesAll, FlushesEach}
use Rattle.bp_device.specs.FlushAll.FlushesEach.{none as flushed_none, page as flushed_page}
use Rattle.bp_device.specs.Owned.{ForPage, ForPart, IsTicked, OwnedView, OwnerFixes}
use Rattle.bp_trail.specs.declared.ends.Flushed.{Flushed}
use Rattle.bp_trail.specs.declared.ends.NotFlushed.{NotFlushed}
use Rattle.bp_trail.specs.declared.entries.Call.TheVariants.{Mark}
use Rattle.bp_trail.specs.Event.{Grant, grant}
use Rattle.bp_trail.specs.Legal.{is_out}
use Rattle.bp_trail.specs.Lists.{without}
use Rattle.bp_trail.specs.Passes.{passes_out}
use Rattle.bp_trail.specs.Trail.{Trail}
use Rattle.example_table.specs.Passes.{AddsPass, KeepsPasses}
use Rattle.example_table.proofs.Tabling.{tick-refused, part-refused}

abbrev out_in : CoreView → List Grant
out_in core = passes_out core.past

past-is : (new : CoreView) (t : Trail) → new.past ≡ t → passes_out new.past ≡ passes_out t
past-is new t e = ap passes_out e

ticked-passes : (ticks : Bool) (old mid : CoreView) → IsTicked ticks old mid → passes_out mid.past ≡ passes_out old.past
ticked-passes true old mid h = ap (λ (x : CoreView). passes_out x.past) h.2.is
ticked-passes false old mid h = ap (λ (x : CoreView). passes_out x.past) h

fixed-passes : (mid new : CoreView) (page : ℕ) (pass : Pass) → DrivesFix mid 0 page (Ok pass) new → passes_out new.past ≡ grant pass.client pass.page pass.serial ∷ passes_out mid.past
fixed-passes mid new page pass h =
    ap (λ (x : CoreView). passes_out x.past) h.2.is ∙ h.2.gives mid.past
    ∙ ap (λ (n : ℕ). grant n page pass.serial ∷ passes_out mid.past) (sym h.0) ∙ ap (λ (n : ℕ). grant pass.client n pass.serial ∷ passes_out mid.past) (sym h.1)

owner-passes : (ticks : Bool) (old new : CoreView) (page : ℕ) (result : Result Pass Refusal) → OwnerFixes ticks old page result new
    → ((pass : Pass) → result ≡ Ok pass → passes_out new.past ≡ grant pass.client pass.page pass.serial ∷ passes_out old.past) × ((why : Refusal) → result ≡ Err why → passes_out new.past ≡ passes_out old.past)
owner-passes ticks old new page (Ok pass) (inl h) = absurd h
owner-passes ticks old new page (Err why) (inl h) = (λ pass e. absurd (cc), λ w e. ap (λ (x : CoreView). passes_out x.past) (tick-refused Pass old new why h.1))
owner-passes ticks old new page (Ok pass) (inr h) = (
  λ other e. (let same : pass ≡ other = cc in subst (λ (x : Pass). passes_out new.past ≡ grant x.client x.page x.serial ∷ passes_out old.past) same (fixed-passes h.mid new page pass h.fixed ∙ ap (λ (gs : List Grant). grant pass.client pass.page pass.serial ∷ gs) (ticked-passes ticks old h.mid h.ticked))),
  λ w e. absurd (cc),
)
owner-passes ticks old new page (Err why) (inr h) = (λ pass e. absurd (cc), λ w e. ap (λ (x : CoreView). passes_out x.past) h.fixed.is ∙ h.fixed.gives h.mid.past ∙ ticked-passes ticks old h.mid h.ticked)

pub page-passes : {P : Type 0} (old new : OwnedView P) (page : ℕ) (result : Result Pass Refusal) → ForPage old.core.parameters page old result new (OwnerFixes old.is_ticking old.core page result new.core) → AddsPass old result new
page-passes {P = P} old new page (Ok pass) h = elim (cases_lt page old.core.parameters.pages) [
  | inl lt ↦ (owner-passes old.is_ticking old.core new.core page (Ok pass) (h.0 lt)).0 pass refl
  | inr le ↦ (let e = (h.1 le).0 in absurd (cc))
]
page-passes {P = P} old new page (Err why) h = elim (cases_lt page old.core.parameters.pages) [
  | inl lt ↦ (owner-passes old.is_ticking old.core new.core page (Err why) (h.0 lt)).1 why refl
  | inr le ↦ ap (λ (x : OwnedView P). passes_out x.core.past) (h.1 le).1
]

-- a mark
pub mark-passes : (old new : CoreView) (lsn : ℕ) (result : Result (Unit {0}) Refusal) → StepOutcome {A = Unit {0}} old 0 (Mark lsn) result new → passes_out new.past ≡ passes_out old.past
mark-passes old new lsn (Ok done) h = ap (λ (x : CoreView). passes_out x.past) h.1.is
mark-passes old new lsn (Err refusal.TrailFull) h = ap (λ (x : CoreView). passes_out x.past) h.1
mark-passes old new lsn (Err _) h = absurd h

-- a write, or one that was refused
pub part-passes : {P : Type 0} (old new : OwnedView P) (pass : Pass) (offset : ℕ) (bytes : List ℕ) (lsn : ℕ) (result : Result (Unit {0}) Refusal) → ForPart old.core.parameters offset (length bytes) old result new (WriteOutcome {A = Unit {0}} old.core pass offset bytes lsn result new.core) → KeepsPasses old new
part-passes {P = P} old new pass offset bytes lsn (Err why) h = ap (λ (x : CoreView). passes_out x.past) (part-refused old new pass offset bytes lsn why h)
part-passes {P = P} old new pass offset bytes lsn (Ok done) h = elim (cases_lt old.core.parameters.size (offset + length bytes)) [
  | inl gt ↦ (let e = (h.1 gt).0 in absurd (cc))
  | inr le ↦ ap (λ (x : CoreView). passes_out x.past) ((h.0 le).2.is)
]

-- the only pass went back
pub unfix-passes : (old new : CoreView) (pass : Pass) (result : Result (Unit {0}) Pass) → passes_out old.past ≡ grant pass.client pass.page pass.serial ∷ [] → UnfixOutcome old pass result new → passes_out new.past ≡ []
unfix-passes old new pass (Ok done) e h =
    ap (λ (x : CoreView). passes_out x.past) h.1.is ∙ ap (without (λ (g : Grant). g.serial) (Some pass.serial)) e ∙ ap (λ (b : Bool). cond (not b) (grant pass.client pass.page pass.serial ∷ []) []) (eq-eqb pass.serial pass.serial refl)
unfix-passes old new pass (Err same) e h = absurd (true≢false (sym known ∙ h.1))
  where
    known : pass_is_out pass old.past ≡ true
    known =
        ap (is_out (grant pass.client pass.page pass.serial)) e
        ∙ ap (λ (b : Bool). (b && ((pass.page == pass.page) && (pass.serial == pass.serial))) || false) (eq-eqb pass.client pass.client refl)
        ∙ ap (λ (b : Bool). (b && (pass.serial == pass.serial)) || false) (eq-eqb pass.page pass.page refl)
        ∙ ap (λ (b : Bool). b || false) (eq-eqb pass.serial pass.serial refl)

-- ---- a flush of all pages

one-passes : (mid new : CoreView) (page : ℕ) (result : Result Flushed Refusal) → DrivesFlush mid 0 page result new → passes_out new.past ≡ passes_out mid.past
one-passes mid new page (Ok how) h = ap (λ (x : CoreView). passes_out x.past) h.is ∙ h.gives mid.past
one-passes mid new page (Err why) h = ap (λ (x : CoreView). passes_out x.past) h.is ∙ h.gives mid.past

each-passes : (old new : CoreView) (from : ℕ) → FlushesEach 0 old from new → passes_out new.past ≡ passes_out old.past
each-passes old _ _ flushed_none = refl
each-passes old new _ (flushed_page {from = from} {mid = mid} page how before found flush) = one-passes mid new page (Ok how) flush ∙ each-passes old mid from before

pub all-passes : (old new : CoreView) (result : Result (Unit {0}) NotFlushed) → FlushesAll 0 old result new → passes_out new.past ≡ passes_out old.past
all-passes old new (Ok done) h = each-passes old new h.next h.flushed
all-passes old new (Err stop) h = one-passes h.mid new stop.page (Err stop.why) h.refused ∙ each-passes old h.mid h.next h.flushed
