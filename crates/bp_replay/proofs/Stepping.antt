-- What a session's call says, as what the row's step adds.
use Rattle.std.proofs.Common.{◌≡◌, ◌≢◌, refl, sym, ◌∙◌, ap, subst, ℕ, arith, Bool, false, List, [], ◌∷◌, ◌==◌, Some, None, Result, Ok, Err, Option}
use Rattle.std.specs.Prelude.{Contains, find, reverse}
use Rattle.std.proofs.lemmas.Bool.{eqb-true, and_parts, false≢true}
use Rattle.std.proofs.lemmas.List.{reverse-reverse}
use Rattle.bp_page.specs.declared.refusals.Refusal.{Refusal}
use Rattle.bp_page.specs.declared.refusals.Refusal.TheVariants as refusal
use Rattle.bp_page.specs.Refusals.{number_of}
use Rattle.bp_core.specs.declared.passes.Pass.{Pass}
use Rattle.bp_scripts.specs.declared.rows.Step.{Step}
use Rattle.bp_scripts.specs.declared.rows.Step.TheVariants as step
use Rattle.bp_trail.specs.declared.entries.Call.{Call}
use Rattle.bp_trail.specs.declared.entries.Call.TheVariants.{Tick, Read, Write, Unfix, Purge}
use Rattle.bp_trail.specs.declared.entries.Reply.{Reply}
use Rattle.bp_trail.specs.declared.entries.Reply.TheVariants.{Done, Content, Forgot}
use Rattle.bp_trail.specs.Event.{Grant}
use Rattle.bp_trail.specs.Trail.{Trail}
use Rattle.bp_trail.specs.Passes.{passes_out}
use Rattle.bp_trail.specs.HeldPasses.{held_passes, unfix_of}
use Rattle.bp_trail.specs.Pieces.{Outcome, DiscardPiece, by, outcome_of}
use Rattle.bp_trail.specs.Pieces.DiscardPiece.{discarded, absent, pinned, busy, no_room, no_memory}
use Rattle.bp_trail.specs.Pieces.Manner.{session}
use Rattle.bp_trail.specs.Pieces.Outcome.{accepted, refused}
use Rattle.bp_scripts.specs.Script.{is_pass_of, latest_pass, WithPass, RowPiece}
use Rattle.bp_trail.specs.declared.ends.Flushed.{Flushed}
use Rattle.bp_trail.specs.declared.ends.Discarded.{Discarded}
use Rattle.bp_replay.proofs.PieceSteps.{find-there, at-first, at-second}
use Rattle.bp_session_log.specs.Turns.{ReadSaid, ReadIntoSaid, WriteSaid, TickSaid, PurgeSaid}
use Rattle.bp_shared.specs.Sessions.{FixSaid, FlushSaid, DiscardSaid}
use Rattle.bp_replay.specs.Steps.{StepSaid}

-- what a call without a result of its own answers
abbrev pub outcome : Result (Unit {0}) Refusal → Outcome
outcome r = outcome_of r

pub fix_said : (client page : ℕ) (pass : Pass) (said after : Trail) → FixSaid client page (Ok pass) said after → StepSaid client (step.Fix page) accepted said after
fix_said client page pass said after h = record { piece = h.2.piece; of_row = h.2.of_row; grows = h.2.grows }

pub fix_refused : (client page : ℕ) (why : Refusal) (said after : Trail) → FixSaid client page (Err why) said after → StepSaid client (step.Fix page) (outcome (Err why)) said after
fix_refused client page why said after h = record { piece = h.piece; of_row = h.of_row.0; grows = h.grows }

pub flush_said : (client page : ℕ) (how : Flushed) (said after : Trail) → FlushSaid client page (Ok how) said after → StepSaid client (step.Flush page) accepted said after
flush_said client page how said after h = record { piece = h.piece; of_row = h.of_row.0; grows = h.grows }

pub flush_refused : (client page : ℕ) (why : Refusal) (said after : Trail) → FlushSaid client page (Err why) said after → StepSaid client (step.Flush page) (outcome (Err why)) said after
flush_refused client page why said after h = record { piece = h.piece; of_row = h.of_row.0; grows = h.grows }

pub discard_said : (client page : ℕ) (how : Discarded) (said after : Trail) → DiscardSaid client page (Ok how) said after → StepSaid client (step.Discard page) accepted said after
discard_said client page how said after h = record { piece = h.piece; of_row = h.of_row.0; grows = h.grows }

pub discard_refused : (client page : ℕ) (why : Refusal) (said after : Trail) → DiscardSaid client page (Err why) said after → StepSaid client (step.Discard page) (outcome (Err why)) said after
discard_refused client page why said after h = record { piece = h.piece; of_row = h.of_row; grows = h.grows }

-- one entry, or none
pub one_said : (client : ℕ) (s : Step) (call : Call) (reply : Reply) (said after : Trail) → RowPiece session said client s (by client call reply ∷ []) accepted → after ≡ by client call reply ∷ said → StepSaid client s accepted said after
one_said client s call reply said after of_row grows = record { piece = by client call reply ∷ []; of_row = of_row; grows = grows }

pub none_said : (client : ℕ) (s : Step) (o : Outcome) (said after : Trail) → RowPiece session said client s [] o → after ≡ said → StepSaid client s o said after
none_said client s o said after of_row same = record { piece = []; of_row = of_row; grows = same }

pub tick_said : (client n : ℕ) (answer : Result (Unit {0}) Refusal) (said after : Trail) → TickSaid client n answer said after → StepSaid client (step.Tick n) (outcome answer) said after
tick_said client n (Ok done) said after h = one_said client (step.Tick n) (Tick n) Done said after (Done, refl) h
tick_said client n (Err refusal.TrailFull) said after h = none_said client (step.Tick n) (refused 20) said after (at-first 20 (21 ∷ 22 ∷ []), refl) h
tick_said client n (Err refusal.ClockFull) said after h = none_said client (step.Tick n) (refused 21) said after (at-second 20 21 (22 ∷ []), refl) h
tick_said client n (Err refusal.OutOfMemory) said after h = none_said client (step.Tick n) (refused 22) said after ((2, omega arith, refl), refl) h
tick_said client n (Err _) said after h = absurd h

pub purge_said : (client n : ℕ) (said after : Trail) → PurgeSaid client (Ok n) said after → StepSaid client step.Purge accepted said after
purge_said client n said after h = one_said client step.Purge Purge (Forgot n) said after (Forgot n, refl) h

pub purge_refused : (client : ℕ) (why : Refusal) (said after : Trail) → PurgeSaid client (Err why) said after → StepSaid client step.Purge (outcome (Err why)) said after
purge_refused client refusal.TrailFull said after h = none_said client step.Purge (refused 20) said after (at-first 20 (22 ∷ []), refl) h
purge_refused client refusal.OutOfMemory said after h = none_said client step.Purge (refused 22) said after (at-second 20 22 [], refl) h
purge_refused client _ said after h = absurd h

-- ---- with the pass that the client took latest

-- what was found among the passes held is what the list gives
pub latest_found : (held : List Grant) (said : Trail) (client page : ℕ) (found : Option Grant) → held ≡ held_passes said → found ≡ find (is_pass_of client page) (reverse held) → found ≡ latest_pass said client page
latest_found held said client page found are is = is ∙ ap (λ gs. find (is_pass_of client page) (reverse gs)) are ∙ ap (find (is_pass_of client page)) (reverse-reverse (passes_out said))

-- the pass made from the note that was found
pub record IsLatest (said : Trail) (client page : ℕ) (g : Grant) (pass : Pass) : Type 0 where
  pub found : latest_pass said client page ≡ Some g
  pub page_is : pass.page ≡ g.page
  pub serial_is : pass.serial ≡ g.serial

page-of_latest : (said : Trail) (client page : ℕ) (g : Grant) → latest_pass said client page ≡ Some g → g.page ≡ page
page-of_latest said client page g found =
    let both = and_parts (g.client == client) (g.page == page) (find-there (is_pass_of client page) g (passes_out said) found).passes in
    eqb-true g.page page both.1

pub client-of_latest : (said : Trail) (client page : ℕ) (g : Grant) → latest_pass said client page ≡ Some g → g.client ≡ client
client-of_latest said client page g found =
    let both = and_parts (g.client == client) (g.page == page) (find-there (is_pass_of client page) g (passes_out said) found).passes in
    eqb-true g.client client both.0

abbrev pub PassRow : Step → List ℕ → ℕ → ℕ → (ℕ → Call) → Type 0
PassRow s numbers client page call = (said piece : Trail) (o : Outcome) → WithPass numbers client call piece o (latest_pass said client page) → RowPiece session said client s piece o

pass_said : (client page : ℕ) (s : Step) (numbers : List ℕ) (call : ℕ → Call) (reply : Reply) (g : Grant) (said after : Trail) → PassRow s numbers client page call → latest_pass said client page ≡ Some g
    → after ≡ by client (call g.serial) reply ∷ said → StepSaid client s accepted said after
pass_said client page s numbers call reply g said after of_row found grows =
    one_said client s (call g.serial) reply said after
    (of_row said _ accepted (subst (WithPass numbers client call (by client (call g.serial) reply ∷ []) accepted) (sym found) (reply, refl))) grows

pass_refused : (client page n : ℕ) (s : Step) (numbers : List ℕ) (call : ℕ → Call) (g : Grant) (said after : Trail) → PassRow s numbers client page call → latest_pass said client page ≡ Some g → Contains numbers n → after ≡ said
    → StepSaid client s (refused n) said after
pass_refused client page n s numbers call g said after of_row found listed same =
    none_said client s (refused n) said after (of_row said [] (refused n) (subst (WithPass numbers client call [] (refused n)) (sym found) (listed, refl))) same

pub no_pass_said : (client page : ℕ) (s : Step) (numbers : List ℕ) (call : ℕ → Call) (said after : Trail) → PassRow s numbers client page call → latest_pass said client page ≡ None → after ≡ said → StepSaid client s (refused 14) said after
no_pass_said client page s numbers call said after of_row none same =
    none_said client s (refused 14) said after (of_row said [] (refused 14) (subst (WithPass numbers client call [] (refused 14)) (sym none) (refl, refl))) same

pub no_read_said : (client page : ℕ) (said : Trail) → latest_pass said client page ≡ None → StepSaid client (step.Read page) (refused 14) said said
no_read_said client page said none = no_pass_said client page (step.Read page) (20 ∷ 22 ∷ []) (λ n. Read n page) said said (λ said piece o w. w) none refl

pub no_write_said : (client page offset : ℕ) (bytes : List ℕ) (lsn : ℕ) (said : Trail) → latest_pass said client page ≡ None → StepSaid client (step.Write page offset bytes lsn) (refused 14) said said
no_write_said client page offset bytes lsn said none = no_pass_said client page (step.Write page offset bytes lsn) (20 ∷ 22 ∷ []) (λ n. Write n page offset bytes lsn) said said (λ said piece o w. w) none refl

pub no_unfix_said : (client page : ℕ) (said : Trail) → latest_pass said client page ≡ None → StepSaid client (step.Unfix page) (refused 14) said said
no_unfix_said client page said none = no_pass_said client page (step.Unfix page) [] (λ n. Unfix n page) said said (λ said piece o w. w) none refl

read_said : (client page : ℕ) (g : Grant) (pass : Pass) (image : List ℕ) (said after : Trail) → IsLatest said client page g pass → ReadSaid client pass (Ok image) said after → StepSaid client (step.Read page) accepted said after
read_said client page g pass image said after is h =
    pass_said client page (step.Read page) (20 ∷ 22 ∷ []) (λ n. Read n page) (Content image) g said after (λ said piece o w. w) is.found
    (h.1 ∙ ap (λ n. by client (Read n pass.page) (Content image) ∷ said) is.serial_is ∙ ap (λ p. by client (Read g.serial p) (Content image) ∷ said) (is.page_is ∙ page-of_latest said client page g is.found))

read_refused : (client page : ℕ) (g : Grant) (pass : Pass) (why : Refusal) (said after : Trail) → IsLatest said client page g pass → ReadSaid client pass (Err why) said after
    → (why ≡ refusal.UnknownPass → ⊥) → StepSaid client (step.Read page) (outcome (Err why)) said after
read_refused client page g pass refusal.UnknownPass said after is h held = absurd (held refl)
read_refused client page g pass refusal.TrailFull said after is h held = pass_refused client page 20 (step.Read page) (20 ∷ 22 ∷ []) (λ n. Read n page) g said after (λ said piece o w. w) is.found (at-first 20 (22 ∷ [])) h.1
read_refused client page g pass refusal.OutOfMemory said after is h held = pass_refused client page 22 (step.Read page) (20 ∷ 22 ∷ []) (λ n. Read n page) g said after (λ said piece o w. w) is.found (at-second 20 22 []) h.1
read_refused client page g pass _ said after is h held = absurd h

write_said : (client page offset : ℕ) (bytes : List ℕ) (lsn : ℕ) (g : Grant) (pass : Pass) (said after : Trail) → IsLatest said client page g pass
    → WriteSaid {A = Unit {0}} client pass offset bytes lsn (Ok tt) said after → StepSaid client (step.Write page offset bytes lsn) accepted said after
write_said client page offset bytes lsn g pass said after is h =
    pass_said client page (step.Write page offset bytes lsn) (20 ∷ 22 ∷ []) (λ n. Write n page offset bytes lsn) Done g said after (λ said piece o w. w) is.found
    (h.1 ∙ ap (λ n. by client (Write n pass.page offset bytes lsn) Done ∷ said) is.serial_is
    ∙ ap (λ p. by client (Write g.serial p offset bytes lsn) Done ∷ said) (is.page_is ∙ page-of_latest said client page g is.found))

write_refused : (client page offset : ℕ) (bytes : List ℕ) (lsn : ℕ) (g : Grant) (pass : Pass) (why : Refusal) (said after : Trail) → IsLatest said client page g pass
    → WriteSaid {A = Unit {0}} client pass offset bytes lsn (Err why) said after → (why ≡ refusal.UnknownPass → ⊥) → StepSaid client (step.Write page offset bytes lsn) (outcome (Err why)) said after
write_refused client page offset bytes lsn g pass refusal.UnknownPass said after is h held = absurd (held refl)
write_refused client page offset bytes lsn g pass refusal.TrailFull said after is h held =
    pass_refused client page 20 (step.Write page offset bytes lsn) (20 ∷ 22 ∷ []) (λ n. Write n page offset bytes lsn) g said after (λ said piece o w. w) is.found (at-first 20 (22 ∷ [])) h.1
write_refused client page offset bytes lsn g pass refusal.OutOfMemory said after is h held =
    pass_refused client page 22 (step.Write page offset bytes lsn) (20 ∷ 22 ∷ []) (λ n. Write n page offset bytes lsn) g said after (λ said piece o w. w) is.found (at-second 20 22 []) h.1
write_refused client page offset bytes lsn g pass _ said after is h held = absurd h

pub unfix_said : (client page : ℕ) (g : Grant) (said after : Trail) → latest_pass said client page ≡ Some g → after ≡ unfix_of g ∷ said → StepSaid client (step.Unfix page) accepted said after
unfix_said client page g said after found grows =
    pass_said client page (step.Unfix page) [] (λ n. Unfix n page) Done g said after (λ said piece o w. w) found
    (grows ∙ ap (λ who. by who (Unfix g.serial g.page) Done ∷ said) (client-of_latest said client page g found) ∙ ap (λ p. by client (Unfix g.serial p) Done ∷ said) (page-of_latest said client page g found))

-- a row by the pass that was taken latest, which the session holds
pub read_row : (client page : ℕ) (g : Grant) (pass : Pass) (answer : Result (Unit {0}) Refusal) (before into : List ℕ) (said after : Trail) → IsLatest said client page g pass → (answer ≡ Err refusal.UnknownPass → ⊥)
    → ReadIntoSaid {A = Unit {0}} client pass 0 before answer into said after → StepSaid client (step.Read page) (outcome answer) said after
read_row client page g pass (Ok done) before into said after is held h = read_said client page g pass h.0 said after is h.1
read_row client page g pass (Err why) before into said after is held h = read_refused client page g pass why said after is h.0 (λ same. held (ap Err same))

pub write_row : (client page offset : ℕ) (bytes : List ℕ) (lsn : ℕ) (g : Grant) (pass : Pass) (answer : Result (Unit {0}) Refusal) (said after : Trail) → IsLatest said client page g pass → (answer ≡ Err refusal.UnknownPass → ⊥)
    → WriteSaid {A = Unit {0}} client pass offset bytes lsn answer said after → StepSaid client (step.Write page offset bytes lsn) (outcome answer) said after
write_row client page offset bytes lsn g pass (Ok done) said after is held h = write_said client page offset bytes lsn g pass said after is h
write_row client page offset bytes lsn g pass (Err why) said after is held h = write_refused client page offset bytes lsn g pass why said after is h (λ same. held (ap Err same))

-- ---- no call of these answers 16
pub read_known : (client : ℕ) (pass : Pass) (answer : Result (Unit {0}) Refusal) (before into : List ℕ) (said after : Trail) → ReadIntoSaid {A = Unit {0}} client pass 0 before answer into said after → answer ≢ Err refusal.UnknownTicket
read_known client pass answer before into said after h is = (subst (λ r. ReadIntoSaid {A = Unit {0}} client pass 0 before r into said after) is h).0

pub write_known : (client : ℕ) (pass : Pass) (offset : ℕ) (bytes : List ℕ) (lsn : ℕ) (answer : Result (Unit {0}) Refusal) (said after : Trail) → WriteSaid {A = Unit {0}} client pass offset bytes lsn answer said after → answer ≢ Err refusal.UnknownTicket
write_known client pass offset bytes lsn answer said after h is = subst (λ r. WriteSaid {A = Unit {0}} client pass offset bytes lsn r said after) is h

pub tick_known : (client n : ℕ) (answer : Result (Unit {0}) Refusal) (said after : Trail) → TickSaid client n answer said after → answer ≢ Err refusal.UnknownTicket
tick_known client n answer said after h is = subst (λ r. TickSaid client n r said after) is h

pub purge_known : (client : ℕ) (why : Refusal) (said after : Trail) → PurgeSaid client (Err why) said after → why ≢ refusal.UnknownTicket
purge_known client why said after h is = subst (λ w. PurgeSaid client (Err w) said after) is h

abbrev is_sixteen : Outcome → Bool
is_sixteen accepted = false
is_sixteen (refused n) = n == 16

no_sixteen : (client page : ℕ) (piece : Trail) (o : Outcome) → DiscardPiece session client page piece o → is_sixteen o ≡ false
no_sixteen client page _ _ (discarded before) = refl
no_sixteen client page _ _ (absent before) = refl
no_sixteen client page _ _ (pinned before) = refl
no_sixteen client page _ _ (busy driven before) = refl
no_sixteen client page _ _ (no_room before) = refl
no_sixteen client page _ _ (no_memory before) = refl

pub discard_known : (client page : ℕ) (why : Refusal) (said after : Trail) → DiscardSaid client page (Err why) said after → why ≢ refusal.UnknownTicket
discard_known client page why said after h is = false≢true (sym (no_sixteen client page h.piece (refused (number_of why)) h.of_row) ∙ ap (λ w. number_of w == 16) is)
