-- What the core answers where a client's list asks it: which entry it adds, and when each refusal
-- comes.
use Rattle.std.specs.Prelude.{◌≡◌, ◌⊎◌, ◌≤◌, ◌<◌, ℕ, List, Result, Ok, Err, IsOk, IsErr}
use Rattle.bp_page.specs.declared.refusals.Refusal.{Refusal}
use Rattle.bp_page.specs.declared.refusals.Refusal.TheVariants as refusal
use Rattle.bp_page.specs.declared.refusals.PortFault.{PortFault}
use Rattle.bp_trail.specs.declared.entries.Call.TheVariants.{Mark}
use Rattle.bp_trail.specs.Clock.{durable}
use Rattle.bp_core.specs.declared.passes.Pass.{Pass}
use Rattle.bp_core.specs.declared.passes.ReadTicket.{ReadTicket}
use Rattle.bp_core.specs.declared.passes.WriteTicket.{WriteTicket}
use Rattle.bp_core.specs.declared.passes.Fix.{Fix as CoreFixing}
use Rattle.bp_core.specs.declared.passes.Fix.TheVariants as core_fixing
use Rattle.bp_core.specs.declared.passes.Flush.{Flush as CoreFlushing}
use Rattle.bp_core.specs.declared.passes.Flush.TheVariants as core_flushing
use Rattle.bp_trail.specs.declared.ends.Ended.{Ended}
use Rattle.bp_core.specs.declared.passes.EndRefusal.TheVariants.{Failed}
use Rattle.bp_core.specs.CoreView.{CoreView}
use Rattle.bp_session_log.specs.declared.pending.Fix.{Fix as Fixing}
use Rattle.bp_session_log.specs.declared.pending.Fix.TheVariants as fixing
use Rattle.bp_session_log.specs.declared.pending.Flush.{Flush as Flushing}
use Rattle.bp_session_log.specs.declared.pending.Flush.TheVariants as flushing
use Rattle.bp_core.specs.Outcomes.{FixOutcome, FlushOutcome, LacksRead, LacksWrite, ReadEndOutcome, StepOutcome, WriteEndOutcome}

-- a look that saw this LSN: a mark of it where it is above what is durable, and nothing where it is
-- not
abbrev pub Looks : {A : Type 0} → ℕ → ℕ → CoreView → Result A Refusal → CoreView → Type 0
Looks client seen old answer new =
    (IsOk answer × (seen ≤ durable old.past) × (new ≡ old))
    ⊎ ((durable old.past < seen) × StepOutcome old client (Mark seen) answer new)

-- what a fix or a flush answered, as the core has it
abbrev pub fixed_by_core : Result Fixing Refusal → Result CoreFixing Refusal
fixed_by_core (Ok (fixing.Hit pass)) = Ok (core_fixing.Hit pass)
fixed_by_core (Ok (fixing.Load ticket evicted)) = Ok (core_fixing.Load ticket evicted)
fixed_by_core (Ok (fixing.WriteFirst ticket)) = Ok (core_fixing.WriteFirst ticket)
fixed_by_core (Err why) = Err why

abbrev pub flushed_by_core : Result Flushing Refusal → Result CoreFlushing Refusal
flushed_by_core (Ok flushing.Clean) = Ok core_flushing.Clean
flushed_by_core (Ok flushing.Absent) = Ok core_flushing.Absent
flushed_by_core (Ok (flushing.WriteFirst ticket)) = Ok (core_flushing.WriteFirst ticket)
flushed_by_core (Err why) = Err why

abbrev pub AsksFix : ℕ → ℕ → Result Fixing Refusal → CoreView → CoreView → Type 0
AsksFix client page answer old new = FixOutcome old client page (fixed_by_core answer) new

abbrev pub AsksFlush : ℕ → ℕ → Result Flushing Refusal → CoreView → CoreView → Type 0
AsksFlush client page answer old new = FlushOutcome old client page (flushed_by_core answer) new

-- a look that was not refused
abbrev pub not_refused : Result (Unit {0}) Refusal
not_refused = Ok tt

-- a look, and where it is not refused one event after it
abbrev pub LooksFirst : {A : Type 0} → ℕ → ℕ → Result A Refusal → (CoreView → CoreView → Type 0)
    → CoreView → CoreView → Type 0
LooksFirst client seen answer Event core new =
    (IsErr answer × Looks client seen core answer new)
    ⊎ ((looked : CoreView) × Looks client seen core not_refused looked × Event looked new)

-- a fix, and a flush, after a look that saw this LSN
abbrev pub FixStep : ℕ → ℕ → ℕ → Result Fixing Refusal → CoreView → CoreView → Type 0
FixStep client page seen answer = LooksFirst client seen answer (AsksFix client page answer)

abbrev pub FlushStep : ℕ → ℕ → ℕ → Result Flushing Refusal → CoreView → CoreView → Type 0
FlushStep client page seen answer = LooksFirst client seen answer (AsksFlush client page answer)

-- the end of a read: a ticket is forfeited only where the core does not know it
abbrev pub EndsRead : CoreView → ReadTicket → Result (List ℕ) PortFault → Result Pass Refusal
    → CoreView → Type 0
EndsRead old ticket read (Ok pass) new = ReadEndOutcome old ticket read (Ok pass) new
EndsRead old ticket read (Err refusal.UnknownTicket) new = LacksRead old ticket × (new ≡ old)
EndsRead old ticket read (Err why) new = ReadEndOutcome old ticket read (Err (Failed why)) new

-- the end of a write-out, likewise
abbrev pub EndsWrite : CoreView → WriteTicket → Result (Unit {0}) PortFault → Result Ended Refusal
    → CoreView → Type 0
EndsWrite old ticket written (Ok how) new = WriteEndOutcome old ticket written (Ok how) new
EndsWrite old ticket written (Err refusal.UnknownTicket) new = LacksWrite old ticket × (new ≡ old)
EndsWrite old ticket written (Err why) new =
    WriteEndOutcome old ticket written (Err (Failed why)) new
