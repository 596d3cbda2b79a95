-- The device's work for the rows of a script.
use Rattle.std.proofs.Common.{List, ◌≡◌, refl, sym, ◌∙◌, subst, ℕ, Bool, true, false, [], ◌∷◌, ◌++◌, append_assoc, Option, Some, None}
use Rattle.std.proofs.lemmas.List.{append_cancel_right}
use Rattle.bp_trail.specs.declared.entries.Call.{Call}
use Rattle.bp_trail.specs.declared.entries.Call.TheVariants.{Tick, Mark, Read, Write, Unfix, Purge}
use Rattle.bp_trail.specs.declared.entries.Reply.{Reply}
use Rattle.bp_scripts.specs.declared.rows.Step.{Step}
use Rattle.bp_scripts.specs.declared.rows.Step.TheVariants as step
use Rattle.bp_trail.specs.Event.{Grant}
use Rattle.bp_trail.specs.HeldPasses.{unfix_of}
use Rattle.bp_trail.specs.Pieces.{Outcome, OneCall, DiscardGoesOn, DiscardPiece}
use Rattle.bp_trail.specs.Pieces.DiscardGoesOn.{begins, waited}
use Rattle.bp_trail.specs.Pieces.DiscardPiece.{discarded, absent, pinned, busy, no_room, no_memory}
use Rattle.bp_trail.specs.Pieces.Manner.{driver}
use Rattle.bp_trail.specs.Pieces.Outcome.{accepted, refused}
use Rattle.bp_scripts.specs.Script.{latest_pass, WithPass, RowPiece, GivesBack}
use Rattle.bp_scripts.specs.Script.GivesBack.{none_held, next}
use Rattle.bp_trail.specs.Trail.{Trail}
use Rattle.bp_core.specs.CoreView.{CoreView}
use Rattle.bp_device.proofs.Working.{through-append}
use Rattle.bp_replay.specs.Rows.{EndsIn, DrivesRow, GaveBack}
use Rattle.bp_core.specs.Work.{Reads, Writes, Works, WorksThrough, DoesWork}

-- rows that have no device work
abbrev pub is_quiet : Step → Bool
is_quiet (step.Fix page) = false
is_quiet (step.Flush page) = false
is_quiet _ = true

module _ {A : Type 0} (reads : Reads A) (writes : Writes A) where
  one-call-work : (past : Trail) (port : A) (numbers : List ℕ) (client : ℕ) (call : Call) (piece : Trail) (outcome : Outcome) → ((reply : Reply) → Works reads writes past call reply port port)
      → OneCall numbers client call piece outcome → WorksThrough reads writes past piece port port
  one-call-work past port numbers client call piece accepted none h = subst (λ es. WorksThrough reads writes past es port port) (sym h.1) (port, refl, none h.0)
  one-call-work past port numbers client call piece (refused n) none h = subst (λ es. WorksThrough reads writes past es port port) (sym h.1) refl

  with-pass-work : (past : Trail) (port : A) (numbers : List ℕ) (client : ℕ) (call : ℕ → Call) (piece : Trail) (outcome : Outcome) (pass : Option Grant)
      → ((n : ℕ) (reply : Reply) → Works reads writes past (call n) reply port port) → WithPass numbers client call piece outcome pass → WorksThrough reads writes past piece port port
  with-pass-work past port numbers client call piece outcome None none h = subst (λ es. WorksThrough reads writes past es port port) (sym h.0) refl
  with-pass-work past port numbers client call piece outcome (Some g) none h = one-call-work past port numbers client (call g.serial) piece outcome (none g.serial) h

  waits-work : (past : Trail) (port : A) (client page : ℕ) (older : Trail) → DiscardGoesOn driver client page older → WorksThrough reads writes past older port port
  waits-work past port client page _ begins = refl
  waits-work past port client page _ (waited own before) = (port, waits-work past port client page _ before, refl)

  discard-work : (past : Trail) (port : A) (client page : ℕ) (piece : Trail) (outcome : Outcome) → DiscardPiece driver client page piece outcome → WorksThrough reads writes past piece port port
  discard-work past port client page _ _ (discarded before) = (port, waits-work past port client page _ before, refl)
  discard-work past port client page _ _ (absent before) = (port, waits-work past port client page _ before, refl)
  discard-work past port client page _ _ (pinned before) = (port, waits-work past port client page _ before, refl)
  discard-work past port client page _ _ (busy driven before) = (port, waits-work past port client page _ before, refl)
  discard-work past port client page _ _ (no_room before) = waits-work past port client page _ before
  discard-work past port client page _ _ (no_memory before) = waits-work past port client page _ before

  piece-work : (past said piece : Trail) (port : A) (client : ℕ) (step : Step) (outcome : Outcome) → is_quiet step ≡ true → RowPiece driver said client step piece outcome → WorksThrough reads writes past piece port port
  piece-work past said piece port client (step.Fix page) outcome quiet h = absurd (let no : false ≡ true = quiet in cc)
  piece-work past said piece port client (step.Flush page) outcome quiet h = absurd (let no : false ≡ true = quiet in cc)
  piece-work past said piece port client (step.Unfix page) outcome quiet h = with-pass-work past port [] client (λ n. Unfix n page) piece outcome (latest_pass said client page) (λ n reply. refl) h
  piece-work past said piece port client (step.Read page) outcome quiet h = with-pass-work past port (20 ∷ 22 ∷ []) client (λ n. Read n page) piece outcome (latest_pass said client page) (λ n reply. refl) h
  piece-work past said piece port client (step.Write page offset bytes lsn) outcome quiet h =
      with-pass-work past port (20 ∷ 22 ∷ []) client (λ n. Write n page offset bytes lsn) piece outcome (latest_pass said client page) (λ n reply. refl) h
  piece-work past said piece port client (step.Discard page) outcome quiet h = discard-work past port client page piece outcome h
  piece-work past said piece port client (step.Tick n) outcome quiet h = one-call-work past port (20 ∷ 21 ∷ 22 ∷ []) client (Tick n) piece outcome (λ reply. refl) h
  piece-work past said piece port client step.Purge outcome quiet h = one-call-work past port (20 ∷ 22 ∷ []) client Purge piece outcome (λ reply. refl) h
  piece-work past said piece port client (step.Log lsn) outcome quiet h = one-call-work past port (20 ∷ []) client (Mark lsn) piece outcome (λ reply. refl) h

  pub row-work : (old new : CoreView) (port : A) (client : ℕ) (step : Step) (outcome : Outcome) (held held_after : List Grant) → is_quiet step ≡ true → EndsIn old held
      → DrivesRow old client step outcome held held_after new → DoesWork reads writes old port new port
  row-work old new port client step outcome held held_after quiet ends d =
      record { piece = d.piece; is = d.is; through = piece-work old.past ends.said d.piece port client step outcome quiet (d.of_row ends.said ends.are_held) }

  -- passes that go back
  record GoesBack (past after : Trail) (port : A) : Type 0 where
    back : Trail
    grows : after ≡ back ++ past
    through : (older : Trail) → WorksThrough reads writes older back port port

  goes-back : (past after : Trail) (port : A) → GivesBack past after → GoesBack past after port
  goes-back past _ port (none_held none) = record { back = []; grows = refl; through = λ older. refl }
  goes-back past after port (next g first rest) =
      let r = goes-back (unfix_of g ∷ past) after port rest in
      record {
        back = r.back ++ unfix_of g ∷ [];
        grows = r.grows ∙ sym (append_assoc r.back (unfix_of g ∷ []) past);
        through = λ older. through-append reads writes older r.back (unfix_of g ∷ []) port port port (port, refl, refl) (r.through (unfix_of g ∷ older));
      }

  pub gave-back-work : (old new : CoreView) (port : A) (held : List Grant) → EndsIn old held → GaveBack old held new → DoesWork reads writes old port new port
  gave-back-work old new port held ends g =
      let r = goes-back ends.said (g.back ++ ends.said) port (g.gives_back ends.said ends.are_held) in
      let same : r.back ≡ g.back = sym (append_cancel_right g.back r.back ends.said r.grows) in
      record { piece = g.back; is = g.is; through = subst (λ es. WorksThrough reads writes old.past es port port) same (r.through old.past) }
