-- How a port's work grows with its client's list, step by step.
use Rattle.std.proofs.Common.{◌≡◌, refl, sym, ◌∙◌, ap, subst, ℕ, List, [], ◌∷◌, Option, Some, None}
use Rattle.std.proofs.lemmas.List.{append-nil}
use Rattle.bp_trail.specs.declared.entries.Call.{Call}
use Rattle.bp_trail.specs.declared.entries.Call.TheVariants.{Tick, Read, Write, Unfix, Purge}
use Rattle.bp_trail.specs.declared.entries.Reply.{Reply}
use Rattle.bp_scripts.specs.declared.rows.Step.{Step}
use Rattle.bp_scripts.specs.declared.rows.Step.TheVariants as step
use Rattle.bp_trail.specs.Trail.{Trail}
use Rattle.bp_trail.specs.Event.{Grant}
use Rattle.bp_trail.specs.HeldPasses.{unfix_of}
use Rattle.bp_trail.specs.Pieces.{Outcome, OneCall, DiscardGoesOn, DiscardPiece}
use Rattle.bp_trail.specs.Pieces.DiscardGoesOn.{begins, waited}
use Rattle.bp_trail.specs.Pieces.DiscardPiece.{discarded, absent, pinned, busy, no_room, no_memory}
use Rattle.bp_trail.specs.Pieces.Manner.{session}
use Rattle.bp_trail.specs.Pieces.Outcome.{accepted, refused}
use Rattle.bp_scripts.specs.Script.{latest_pass, WithPass, RowPiece, GivesBack}
use Rattle.bp_scripts.specs.Script.GivesBack.{none_held, next}
use Rattle.bp_core.specs.Work.{Reads, Writes, Works, WorksThrough}
use Rattle.bp_shared.specs.Sessions.{WithSomeLsn, DoesWorkSaid}
use Rattle.bp_replay.specs.Steps.{StepSaid, StepWork}

-- a step without device work
abbrev IsQuiet : Step → Type 0
IsQuiet (step.Fix page) = ⊥
IsQuiet (step.Flush page) = ⊥
IsQuiet _ = Unit {0}

module _ {P : Type 0} (reads : Reads P) (writes : Writes P) where
  -- a call without device work
  one-call-work : (past : Trail) (port : P) (numbers : List ℕ) (client : ℕ) (call : Call) (piece : Trail) (o : Outcome) → ((reply : Reply) → Works reads writes past call reply port port) → OneCall numbers client call piece o
      → WorksThrough reads writes past piece port port
  one-call-work past port numbers client call piece accepted none h = subst (λ es. WorksThrough reads writes past es port port) (sym h.1) (port, refl, none h.0)
  one-call-work past port numbers client call piece (refused n) none h = subst (λ es. WorksThrough reads writes past es port port) (sym h.1) refl

  with-pass-work : (past : Trail) (port : P) (numbers : List ℕ) (client : ℕ) (call : ℕ → Call) (piece : Trail) (o : Outcome) (pass : Option Grant) → ((n : ℕ) (reply : Reply) → Works reads writes past (call n) reply port port)
      → WithPass numbers client call piece o pass → WorksThrough reads writes past piece port port
  with-pass-work past port numbers client call piece o None none h = subst (λ es. WorksThrough reads writes past es port port) (sym h.0) refl
  with-pass-work past port numbers client call piece o (Some g) none h = one-call-work past port numbers client (call g.serial) piece o (none g.serial) h

  -- a discard asks nothing of the device, and neither does one more reply to it
  waits-work : (past : Trail) (port : P) (client page : ℕ) (older : Trail) → DiscardGoesOn session client page older → WorksThrough reads writes past older port port
  waits-work past port client page _ begins = refl
  waits-work past port client page _ (waited own before) = (port, waits-work past port client page _ before, refl)

  discard-work : (past : Trail) (port : P) (client page : ℕ) (piece : Trail) (o : Outcome) → DiscardPiece session client page piece o → WorksThrough reads writes past piece port port
  discard-work past port client page _ _ (discarded before) = (port, waits-work past port client page _ before, refl)
  discard-work past port client page _ _ (absent before) = (port, waits-work past port client page _ before, refl)
  discard-work past port client page _ _ (pinned before) = (port, waits-work past port client page _ before, refl)
  discard-work past port client page _ _ (busy driven before) = (port, waits-work past port client page _ before, refl)
  discard-work past port client page _ _ (no_room before) = waits-work past port client page _ before
  discard-work past port client page _ _ (no_memory before) = waits-work past port client page _ before

  -- a row without device work
  quiet-piece : (said piece : Trail) (port : P) (client : ℕ) (s : Step) (o : Outcome) → IsQuiet s → RowPiece session said client s piece o → WorksThrough reads writes said piece port port
  quiet-piece said piece port client (step.Fix page) o quiet h = absurd quiet
  quiet-piece said piece port client (step.Flush page) o quiet h = absurd quiet
  quiet-piece said piece port client (step.Unfix page) o quiet h = with-pass-work said port [] client (λ n. Unfix n page) piece o (latest_pass said client page) (λ n reply. refl) h
  quiet-piece said piece port client (step.Read page) o quiet h = with-pass-work said port (20 ∷ 22 ∷ []) client (λ n. Read n page) piece o (latest_pass said client page) (λ n reply. refl) h
  quiet-piece said piece port client (step.Write page offset bytes lsn) o quiet h =
      with-pass-work said port (20 ∷ 22 ∷ []) client (λ n. Write n page offset bytes lsn) piece o (latest_pass said client page) (λ n reply. refl) h
  quiet-piece said piece port client (step.Discard page) o quiet h = discard-work said port client page piece o h
  quiet-piece said piece port client (step.Tick n) o quiet h = one-call-work said port (20 ∷ 21 ∷ 22 ∷ []) client (Tick n) piece o (λ reply. refl) h
  quiet-piece said piece port client step.Purge o quiet h = one-call-work said port (20 ∷ 22 ∷ []) client Purge piece o (λ reply. refl) h
  quiet-piece said piece port client (step.Log lsn) o quiet h = subst (λ es. WorksThrough reads writes said es port port) (sym h.0) refl

module _ {P : Type 0} (reads : Reads P) (writes : Writes P) where
  quiet : (client : ℕ) (s : Step) (o : Outcome) (said after : Trail) (port kept : P) → IsQuiet s → StepSaid client s o said after → kept ≡ port → DoesWorkSaid reads writes said after port kept
  quiet client s o said after port kept is adds same = record {
    piece = adds.piece;
    grows = adds.grows;
    through = subst (λ k. WorksThrough reads (WithSomeLsn writes) said adds.piece port k) (sym same) (quiet-piece reads (WithSomeLsn writes) said adds.piece port client s o is adds.of_row);
  }

  -- what one step had the port do is the work of what it added
  pub step-work : (client : ℕ) (s : Step) (o : Outcome) (said after : Trail) (port kept : P) → StepSaid client s o said after → StepWork reads writes s said after port kept → DoesWorkSaid reads writes said after port kept
  step-work client (step.Fix page) o said after port kept says work = work
  step-work client (step.Flush page) o said after port kept says work = work
  step-work client (step.Unfix page) o said after port kept says same = quiet client (step.Unfix page) o said after port kept tt says same
  step-work client (step.Read page) o said after port kept says same = quiet client (step.Read page) o said after port kept tt says same
  step-work client (step.Write page offset bytes lsn) o said after port kept says same = quiet client (step.Write page offset bytes lsn) o said after port kept tt says same
  step-work client (step.Discard page) o said after port kept says same = quiet client (step.Discard page) o said after port kept tt says same
  step-work client (step.Tick n) o said after port kept says same = quiet client (step.Tick n) o said after port kept tt says same
  step-work client step.Purge o said after port kept says same = quiet client step.Purge o said after port kept tt says same
  step-work client (step.Log lsn) o said after port kept says same = quiet client (step.Log lsn) o said after port kept tt says same

  -- passes that go back have no work
  went-back : (said mid after : Trail) (port now : P) → DoesWorkSaid reads writes said mid port now → GivesBack mid after → DoesWorkSaid reads writes said after port now
  went-back said mid _ port now w (none_held none) = w
  went-back said mid after port now w (next g first rest) =
      went-back said (unfix_of g ∷ mid) after port now (record { piece = unfix_of g ∷ w.piece; grows = ap (λ es. unfix_of g ∷ es) w.grows; through = (now, w.through, refl) }) rest

  -- of a list that was empty all is told
  all-told : (after : Trail) (port kept : P) → DoesWorkSaid reads writes [] after port kept → WorksThrough reads (WithSomeLsn writes) [] after port kept
  all-told after port kept w = subst (λ es. WorksThrough reads (WithSomeLsn writes) [] es port kept) (sym (w.grows ∙ append-nil w.piece)) w.through

  -- the work of rows, after which passes went back
  pub whole-work : (mid after : Trail) (port now : P) → DoesWorkSaid reads writes [] mid port now → GivesBack mid after → WorksThrough reads (WithSomeLsn writes) [] after port now
  whole-work mid after port now w back = all-told after port now (went-back [] mid after port now w back)
