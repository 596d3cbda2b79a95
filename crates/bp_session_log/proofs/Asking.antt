-- What the core says of one event, in the words of a session's list.
use Rattle.std.proofs.Common.{◌≡◌, refl, sym, ap, subst, ◌∙◌, ℕ, ◌<◌, Bool, true, List, ◌∷◌, length, Option, Some, None, Ok, Err, inr}
use Rattle.bp_page.specs.declared.refusals.Refusal.{Refusal}
use Rattle.bp_page.specs.declared.refusals.Refusal.TheVariants as refusal
use Rattle.bp_core.specs.declared.passes.Pass.{Pass}
use Rattle.bp_trail.specs.declared.entries.Call.{Call}
use Rattle.bp_trail.specs.declared.entries.Call.TheVariants.{Mark, Fix, Flush, Discard, ReadEnd}
use Rattle.bp_trail.specs.declared.entries.Reply.{Reply}
use Rattle.bp_trail.specs.declared.entries.Reply.TheVariants.{WriteFirst, Fixed}
use Rattle.bp_trail.specs.Parameters.{Parameters}
use Rattle.bp_trail.specs.Trail.{Trail}
use Rattle.bp_trail.specs.Clock.{durable}
use Rattle.bp_trail.specs.Legal.{Legal}
use Rattle.bp_core.specs.CoreView.{CoreView, with_entry}
use Rattle.bp_core.specs.Outcomes.{Adds, FixOutcome, FlushOutcome, DiscardOutcome, ReadEndByOutcome, StepOutcome, ReadOutcome, WriteOutcome}
use Rattle.bp_trail.specs.Event.{Grant}
use Rattle.bp_trail.specs.Pieces.{by}
use Rattle.bp_trail.proofs.Events.{Event, event-of}
use Rattle.bp_trail.proofs.Events.Event.{fix_write, flush_write}
use Rattle.bp_trail.proofs.Victim.{victim-is, candidate-resident}
use Rattle.bp_trail.proofs.Ranges.{sized}
use Rattle.bp_session_log.specs.Books.{Alike}
use Rattle.bp_session_log.specs.Turns.{LookOutcome, ReadSaid, WriteSaid, fix_refuses, flush_refuses, discard_refuses, refusal_reply}

-- the core after an event that may have been refused with no entry
abbrev pub core_told : CoreView → ℕ → Call → Option Reply → CoreView
core_told old client call None = old
core_told old client call (Some reply) = with_entry old client call reply

pub record Refuses (refuses : Refusal → Bool) (old : CoreView) (client : ℕ) (call : Call) (why : Refusal) (new : CoreView) : Type 0 where
  pub allowed : refuses why ≡ true
  pub is : new ≡ core_told old client call (refusal_reply why)

pub fix_refused : (old new : CoreView) (client page : ℕ) (why : Refusal) → FixOutcome old client page (Err why) new → Refuses fix_refuses old client (Fix page) why new
fix_refused old new client page refusal.NoVictim h = record { allowed = refl; is = h.1.is }
fix_refused old new client page (refusal.NeedLog lsn) h = record { allowed = refl; is = h.1.is }
fix_refused old new client page refusal.Busy h = record { allowed = refl; is = h.1.is }
fix_refused old new client page refusal.TrailFull h = record { allowed = refl; is = h.1 }
fix_refused old new client page refusal.OutOfMemory h = record { allowed = refl; is = h.1 }
fix_refused old new client page _ h = absurd h

pub flush_refused : (old new : CoreView) (client page : ℕ) (why : Refusal) → FlushOutcome old client page (Err why) new → Refuses flush_refuses old client (Flush page) why new
flush_refused old new client page (refusal.NeedLog lsn) h = record { allowed = refl; is = h.1.is }
flush_refused old new client page refusal.Busy h = record { allowed = refl; is = h.1.is }
flush_refused old new client page refusal.TrailFull h = record { allowed = refl; is = h.1 }
flush_refused old new client page refusal.OutOfMemory h = record { allowed = refl; is = h.1 }
flush_refused old new client page _ h = absurd h

pub discard_refused : (old new : CoreView) (client page : ℕ) (why : Refusal) → DiscardOutcome old client page (Err why) new → Refuses discard_refuses old client (Discard page) why new
discard_refused old new client page refusal.Busy h = record { allowed = refl; is = h.1.is }
discard_refused old new client page refusal.Pinned h = record { allowed = refl; is = h.1.is }
discard_refused old new client page refusal.TrailFull h = record { allowed = refl; is = h.1 }
discard_refused old new client page _ h = absurd h

-- an event that was refused with no entry: the core stays, and so may the list
pub record AddsNone (Says : Trail → Trail → Type 0) (old new : CoreView) : Type 0 where
  pub says : (said : Trail) → Says said said
  pub is : new ≡ old

pub mark_refused : (old new : CoreView) (client lsn : ℕ) (why : Refusal) → durable old.past < lsn → StepOutcome {A = Unit {0}} old client (Mark lsn) (Err why) new
    → AddsNone (LookOutcome {A = Unit {0}} client old lsn (Err why)) old new
mark_refused old new client lsn refusal.TrailFull above h = record { says = λ said. (above, refl); is = h.1 }
mark_refused old new client lsn _ above h = absurd h

pub read_refused : (old new : CoreView) (client : ℕ) (pass : Pass) (why : Refusal) → pass.client ≡ client → ReadOutcome old pass (Err why) new
    → AddsNone (ReadSaid client pass (Err why)) old new
read_refused old new client pass refusal.TrailFull own h = record { says = λ said. (own, refl); is = h.1 }
read_refused old new client pass refusal.UnknownPass own h = record { says = λ said. refl; is = h.2 }
read_refused old new client pass refusal.OutOfMemory own h = record { says = λ said. (own, refl); is = h.2 }
read_refused old new client pass _ own h = absurd h

pub write_refused : (old new : CoreView) (client : ℕ) (pass : Pass) (offset : ℕ) (bytes : List ℕ) (lsn : ℕ) (why : Refusal) → pass.client ≡ client
    → WriteOutcome {A = Unit {0}} old pass offset bytes lsn (Err why) new → AddsNone (WriteSaid {A = Unit {0}} client pass offset bytes lsn (Err why)) old new
write_refused old new client pass offset bytes lsn refusal.TrailFull own h = record { says = λ said. (own, refl); is = h.1 }
write_refused old new client pass offset bytes lsn refusal.UnknownPass own h = record { says = λ said. refl; is = h.2 }
write_refused old new client pass offset bytes lsn refusal.OutOfMemory own h = record { says = λ said. (own, refl); is = h.2 }
write_refused old new client pass offset bytes lsn _ own h = absurd h

-- an image that goes out has the size of a page
sized-event : (c : Parameters) (past : Trail) (who : ℕ) (call : Call) (t p : ℕ) (image : List ℕ) → Legal c past → Event c past who call (WriteFirst t p image) → length image ≡ c.size
sized-event c past who call t p image l (fix_write q v m found go) = sized c past l v (candidate-resident c past v (victim-is c past v found).eligible)
sized-event c past who call t p image l (flush_write q here w go) = sized c past l q here

pub write_first_sized : (old new : CoreView) (client : ℕ) (call : Call) (t p : ℕ) (image : List ℕ) → Adds old client call (WriteFirst t p image) new → length image ≡ old.parameters.size
write_first_sized old new client call t p image adds =
    let l : Legal old.parameters (by client call (WriteFirst t p image) ∷ old.past) = subst (λ (core : CoreView). Legal core.parameters core.past) adds.is adds.legal in
    sized-event old.parameters old.past client call t p image l.before (event-of old.parameters old.past (by client call (WriteFirst t p image)) l.here)

-- a read that ended well is in both
pub loaded_alike : (old new : CoreView) (said after : Trail) (client : ℕ) (ticket : Grant) (image : List ℕ) (pass : Pass) → ticket.client ≡ client → ReadEndByOutcome old ticket (Ok image) (Ok pass) new
    → after ≡ by client (ReadEnd ticket.serial ticket.page (Some image)) (Fixed pass.serial) ∷ said → Alike old said new after
loaded_alike old new said after client ticket image pass whose ended grows =
    let e = λ (c : ℕ). by c (ReadEnd ticket.serial ticket.page (Some image)) (Fixed pass.serial) in
    inr (e ticket.client, ended.3.is, grows ∙ ap (λ c. e c ∷ said) (sym whose))
