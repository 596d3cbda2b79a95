-- The passes at hand stay those that the client holds.
use Rattle.std.proofs.Common.{◌≡◌, sym, ap, ◌∙◌, ℕ, not, ◌==◌, List, [], ◌∷◌, ◌++◌, Result, Ok, Err}
use Rattle.std.specs.Prelude.{filter, reverse}
use Rattle.std.proofs.lemmas.List.{reverse-append}
use Rattle.bp_page.specs.declared.refusals.Refusal.{Refusal}
use Rattle.bp_page.specs.declared.refusals.Refusal.TheVariants as refusal
use Rattle.bp_core.specs.declared.passes.Pass.{Pass}
use Rattle.bp_trail.specs.declared.ends.Flushed.{Flushed}
use Rattle.bp_trail.specs.declared.ends.Discarded.{Discarded}
use Rattle.bp_trail.specs.Event.{Grant, grant}
use Rattle.bp_trail.specs.Trail.{Trail}
use Rattle.bp_trail.specs.Passes.{passes_out}
use Rattle.bp_trail.specs.HeldPasses.{held_passes, unfix_of}
use Rattle.bp_trail.proofs.Counting.{filter-reverse}
use Rattle.bp_session_log.specs.Turns.{ReadSaid, WriteSaid, TickSaid, PurgeSaid}
use Rattle.bp_shared.specs.Sessions.{FixSaid, FlushSaid, DiscardSaid}

-- a fix adds its pass, and no other call adds or takes any
pub fix-holds : (client page : ℕ) (pass : Pass) (said after : Trail) (held held_after : List Grant) → FixSaid client page (Ok pass) said after → held ≡ held_passes said → held_after ≡ held ++ grant pass.client pass.page pass.serial ∷ []
    → held_after ≡ held_passes after
fix-holds client page pass said after held held_after h are more =
    more ∙ ap (λ g. held ++ g ∷ []) (λ i. grant (h.0 i) (h.1 i) pass.serial) ∙ ap (λ gs. gs ++ grant client page pass.serial ∷ []) are
    ∙ sym (reverse-append (grant client page pass.serial ∷ []) (passes_out said)) ∙ ap reverse (sym (h.2.gives said)) ∙ ap held_passes (sym h.2.grows)

pub refused_fix-holds : (client page : ℕ) (why : Refusal) (said after : Trail) → FixSaid client page (Err why) said after → held_passes after ≡ held_passes said
refused_fix-holds client page why said after h = ap held_passes h.grows ∙ ap reverse (h.gives said)

pub flush-holds : (client page : ℕ) (answer : Result Flushed Refusal) (said after : Trail) → FlushSaid client page answer said after → held_passes after ≡ held_passes said
flush-holds client page (Ok how) said after h = ap held_passes h.grows ∙ ap reverse (h.gives said)
flush-holds client page (Err why) said after h = ap held_passes h.grows ∙ ap reverse (h.gives said)

pub discard-holds : (client page : ℕ) (answer : Result Discarded Refusal) (said after : Trail) → DiscardSaid client page answer said after → held_passes after ≡ held_passes said
discard-holds client page (Ok how) said after h = ap held_passes h.grows ∙ ap reverse (h.gives said)
discard-holds client page (Err why) said after h = ap held_passes h.grows ∙ ap reverse (h.gives said)

pub read-holds : (client : ℕ) (pass : Pass) (answer : Result (List ℕ) Refusal) (said after : Trail) → ReadSaid client pass answer said after → held_passes after ≡ held_passes said
read-holds client pass (Ok image) said after h = ap held_passes h.1
read-holds client pass (Err refusal.UnknownPass) said after h = ap held_passes h
read-holds client pass (Err refusal.TrailFull) said after h = ap held_passes h.1
read-holds client pass (Err refusal.OutOfMemory) said after h = ap held_passes h.1
read-holds client pass (Err _) said after h = absurd h

pub write-holds : (client : ℕ) (pass : Pass) (offset : ℕ) (bytes : List ℕ) (lsn : ℕ) (answer : Result (Unit {0}) Refusal) (said after : Trail) → WriteSaid {A = Unit {0}} client pass offset bytes lsn answer said after → held_passes after ≡ held_passes said
write-holds client pass offset bytes lsn (Ok done) said after h = ap held_passes h.1
write-holds client pass offset bytes lsn (Err refusal.UnknownPass) said after h = ap held_passes h
write-holds client pass offset bytes lsn (Err refusal.TrailFull) said after h = ap held_passes h.1
write-holds client pass offset bytes lsn (Err refusal.OutOfMemory) said after h = ap held_passes h.1
write-holds client pass offset bytes lsn (Err _) said after h = absurd h

pub tick-holds : (client n : ℕ) (answer : Result (Unit {0}) Refusal) (said after : Trail) → TickSaid client n answer said after → held_passes after ≡ held_passes said
tick-holds client n (Ok done) said after h = ap held_passes h
tick-holds client n (Err refusal.TrailFull) said after h = ap held_passes h
tick-holds client n (Err refusal.ClockFull) said after h = ap held_passes h
tick-holds client n (Err refusal.OutOfMemory) said after h = ap held_passes h
tick-holds client n (Err _) said after h = absurd h

pub purge-holds : (client : ℕ) (answer : Result ℕ Refusal) (said after : Trail) → PurgeSaid client answer said after → held_passes after ≡ held_passes said
purge-holds client (Ok n) said after h = ap held_passes h
purge-holds client (Err refusal.TrailFull) said after h = ap held_passes h
purge-holds client (Err refusal.OutOfMemory) said after h = ap held_passes h
purge-holds client (Err _) said after h = absurd h

-- a pass that was posted is at hand no more
pub posted-holds : (g : Grant) (said after : Trail) (held held_after : List Grant) → held ≡ held_passes said → held_after ≡ filter (λ (h : Grant). not (h.serial == g.serial)) held → after ≡ unfix_of g ∷ said → held_after ≡ held_passes after
posted-holds g said after held held_after are left grows =
    let keeps = λ (h : Grant). not (h.serial == g.serial) in
    left ∙ ap (filter keeps) are ∙ sym (filter-reverse keeps (passes_out said)) ∙ ap held_passes (sym grows)
