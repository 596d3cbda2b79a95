-- Why a driver's call is refused.
use Rattle.std.proofs.Common.{List, ◌≡◌, refl, sym, subst, ℕ, Result, Ok, Err}
use Rattle.std.specs.Prelude.{IfErr}
use Rattle.bp_page.specs.declared.refusals.Refusal.{Refusal}
use Rattle.bp_page.specs.declared.refusals.Refusal.TheVariants as refusal
use Rattle.bp_page.specs.declared.refusals.PortFault.{PortFault}
use Rattle.bp_page.specs.declared.refusals.PortFault.TheVariants as fault
use Rattle.bp_core.specs.declared.passes.Pass.{Pass}
use Rattle.bp_core.specs.declared.passes.ReadTicket.{ReadTicket}
use Rattle.bp_core.specs.declared.passes.WriteTicket.{WriteTicket}
use Rattle.bp_core.specs.declared.passes.Fix.{Fix as Fixing}
use Rattle.bp_core.specs.declared.passes.Flush.{Flush as Flushing}
use Rattle.bp_trail.specs.declared.entries.Call.{Call}
use Rattle.bp_trail.specs.declared.entries.Call.TheVariants.{Fix, Flush}
use Rattle.bp_trail.specs.declared.entries.Reply.TheVariants.{Busy, NeedLog, NoVictim, WriteFailed}
use Rattle.bp_trail.specs.Ends.{read_failure, read_refusal}
use Rattle.bp_core.specs.CoreView.{CoreView, HasRoomFor, LacksRoomFor}
use Rattle.bp_core.specs.Outcomes.{FixOutcome, FlushOutcome, TakesMemory}
use Rattle.bp_device.specs.Drivers.{LoadOutcome, SaveOutcome, IsCaused}
use Rattle.bp_core.specs.Added.{Ends}

-- it was refused for want of memory
abbrev WantsMemory : (A : Type 0) → Result A Refusal → Type 0
WantsMemory A result = result ≡ Err refusal.OutOfMemory

pub fix-caused : (old new : CoreView) (client page : ℕ) (result : Result Fixing Refusal) → FixOutcome old client page result new
    → (WantsMemory Fixing result → TakesMemory (Fix page) old) → IfErr result (λ why. IsCaused (Fix page) why new)
fix-caused old new client page (Ok fix) h m = tt
fix-caused old new client page (Err refusal.NoVictim) h m = subst (λ (core : CoreView). Ends NoVictim core.past) (sym h.1.is) refl
fix-caused old new client page (Err (refusal.NeedLog lsn)) h m = subst (λ (core : CoreView). Ends (NeedLog lsn) core.past) (sym h.1.is) refl
fix-caused old new client page (Err refusal.Busy) h m = subst (λ (core : CoreView). Ends Busy core.past) (sym h.1.is) refl
fix-caused old new client page (Err refusal.TrailFull) h m = subst (LacksRoomFor 3) (sym h.1) h.0
fix-caused old new client page (Err refusal.OutOfMemory) h m = (subst (HasRoomFor 3) (sym h.1) h.0, subst (TakesMemory (Fix page)) (sym h.1) (m refl))
fix-caused old new client page (Err _) h m = absurd h

pub flush-caused : (old new : CoreView) (client page : ℕ) (why : Refusal) → FlushOutcome old client page (Err why) new
    → (WantsMemory Flushing (Err why) → TakesMemory (Flush page) old) → IsCaused (Flush page) why new
flush-caused old new client page (refusal.NeedLog lsn) h m = subst (λ (core : CoreView). Ends (NeedLog lsn) core.past) (sym h.1.is) refl
flush-caused old new client page refusal.Busy h m = subst (λ (core : CoreView). Ends Busy core.past) (sym h.1.is) refl
flush-caused old new client page refusal.TrailFull h m = subst (LacksRoomFor 2) (sym h.1) h.0
flush-caused old new client page refusal.OutOfMemory h m = (subst (HasRoomFor 2) (sym h.1) h.0, subst (TakesMemory (Flush page)) (sym h.1) (m refl))
flush-caused old new client page _ h m = absurd h

pub load-caused : (old new : CoreView) (call : Call) (ticket : ReadTicket) (found : Result (List ℕ) PortFault) (result : Result Pass Refusal) → LoadOutcome old ticket found result new
    → IfErr result (λ why. IsCaused call why new)
load-caused old new call ticket (Ok image) (Ok pass) l = tt
load-caused old new call ticket (Err why) (Err r) l = subst (λ r. IsCaused call r new) (sym l.0) (go why (subst (λ (core : CoreView). Ends (read_failure why) core.past) (sym l.1) refl))
  where
    go : (f : PortFault) → Ends (read_failure f) new.past → IsCaused call (read_refusal f) new
    go fault.WrongPage ends = ends
    go fault.Device ends = ends
    go fault.Memory ends = ends
load-caused old new call ticket (Ok image) (Err r) l = absurd l
load-caused old new call ticket (Err why) (Ok pass) l = absurd l

pub save-caused : (old new : CoreView) (call : Call) (ticket : WriteTicket) (why : Refusal) → SaveOutcome old ticket (Err why) new → IsCaused call why new
save-caused old new call ticket why s = subst (λ r. IsCaused call r new) (sym s.0) (subst (λ (core : CoreView). Ends WriteFailed core.past) (sym s.1.is) refl)
