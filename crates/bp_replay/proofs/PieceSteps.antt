-- What each row adds, and that the notes are then of the passes that are out.
use Rattle.std.proofs.Common.{◌≡◌, refl, sym, ◌∙◌, ap, subst, ℕ, arith, cond, List, [], ◌∷◌, ◌++◌, true, false, not, Bool, ◌==◌, ◌&&◌, ◌||◌, Option, Some, None, Result, Ok, Err}
use Rattle.std.specs.Prelude.{Contains, find, filter, reverse}
use Rattle.std.proofs.lemmas.Bool.{eqb-true, eq-eqb, and_parts, and_from}
use Rattle.std.proofs.lemmas.List.{reverse-reverse, reverse-append}
use Rattle.bp_page.specs.declared.refusals.Refusal.{Refusal}
use Rattle.bp_page.specs.declared.refusals.Refusal.TheVariants as refusal
use Rattle.bp_core.specs.declared.passes.Pass.{Pass}
use Rattle.bp_scripts.specs.declared.rows.Step.{Step}
use Rattle.bp_scripts.specs.declared.rows.Step.TheVariants as step
use Rattle.bp_trail.specs.declared.entries.Call.{Call}
use Rattle.bp_trail.specs.declared.entries.Call.TheVariants.{Tick, Mark, Read, Write, Unfix, Discard, Purge}
use Rattle.bp_trail.specs.declared.entries.Reply.{Reply}
use Rattle.bp_trail.specs.declared.entries.Reply.TheVariants.{Done, Content, Forgot, Discarded as Dropped, Absent, Busy, Pinned}
use Rattle.bp_trail.specs.Lists.{some, without, and_given}
use Rattle.bp_trail.specs.Event.{Grant, grant, same_grant, pass_back}
use Rattle.bp_trail.specs.Trail.{Trail}
use Rattle.bp_trail.specs.Passes.{passes_out, pass_of}
use Rattle.bp_trail.specs.Legal.{is_out}
use Rattle.bp_core.specs.CoreView.{CoreView, with_entry}
use Rattle.bp_core.specs.Outcomes.{ReadOutcome, WriteOutcome, DiscardOutcome, TickOutcome, StepOutcome, PurgeOutcome, KnowsPass}
use Rattle.bp_trail.specs.Pieces.{Outcome, by, outcome_of}
use Rattle.bp_trail.specs.Pieces.Manner.{driver}
use Rattle.bp_trail.specs.Pieces.Outcome.{accepted, refused}
use Rattle.bp_trail.specs.Pieces.DiscardGoesOn.{begins}
use Rattle.bp_trail.specs.Pieces.DiscardPiece.{discarded, absent, pinned, busy, no_room}
use Rattle.bp_scripts.specs.Script.{is_pass_of, latest_pass, WithPass, RowPiece}
use Rattle.bp_trail.proofs.Counting.{filter-reverse}
use Rattle.bp_trail.specs.declared.ends.Flushed.{Flushed}
use Rattle.bp_trail.specs.declared.ends.Discarded.{Discarded}
use Rattle.bp_trail.specs.declared.ends.Discarded.TheVariants as how
use Rattle.bp_device.specs.Drivers.{DrivesFix, DrivesFlush}
use Rattle.bp_replay.specs.Rows.{AreHeld, EndsIn, DrivesRow}

-- a pass that a search finds passes the test, and is among those searched
pub record FoundPass (p : Grant → Bool) (g : Grant) (gs : List Grant) : Type 0 where
  pub passes : p g ≡ true
  pub is_there : is_out g gs ≡ true

same-itself : (g : Grant) → same_grant g g ≡ true
same-itself g = and_from _ _ (eq-eqb g.client g.client refl) (and_from _ _ (eq-eqb g.page g.page refl) (eq-eqb g.serial g.serial refl))

or-right : (a b : Bool) → b ≡ true → (a || b) ≡ true
or-right true b is = refl
or-right false b is = is

pub find-there : (p : Grant → Bool) (g : Grant) (gs : List Grant) → find p gs ≡ Some g → FoundPass p g gs
find-there p g [] found = cc
find-there p g (h ∷ gs) found = go (p h) refl found (find-there p g gs)
  where
    go : (b : Bool) → p h ≡ b → cond b (Some h) (find p gs) ≡ Some g → (find p gs ≡ Some g → FoundPass p g gs) → FoundPass p g (h ∷ gs)
    go true is found later =
        let same : h ≡ g = cc in
        record { passes = subst (λ x. p x ≡ true) same is; is_there = ap (λ b. b || is_out g gs) (subst (λ x. same_grant g x ≡ true) (sym same) (same-itself g)) }
    go false is found later = let f = later found in record { passes = f.passes; is_there = or-right (same_grant g h) (is_out g gs) f.is_there }

and-true : (b : Bool) → (b && true) ≡ b
and-true true = refl
and-true false = refl

and-false : (b : Bool) → (b && false) ≡ false
and-false true = refl
and-false false = refl

some-both : (p q : Grant → Bool) (gs : List Grant) → some p (filter q gs) ≡ some (λ g. p g && q g) gs
some-both p q [] = refl
some-both p q (g ∷ gs) = go (q g) (some-both p q gs)
  where
    go : (b : Bool) → some p (filter q gs) ≡ some (λ g. p g && q g) gs → some p (cond b (g ∷ filter q gs) (filter q gs)) ≡ ((p g && b) || some (λ g. p g && q g) gs)
    go true ih = ap (λ x. p g || x) ih ∙ ap (λ x. x || some (λ g. p g && q g) gs) (sym (and-true (p g)))
    go false ih = ih ∙ ap (λ x. x || some (λ g. p g && q g) gs) (sym (and-false (p g)))

-- whatever is among the ones is among the others
abbrev AreAmong : List Grant → List Grant → Type 0
AreAmong xs ys = (p : Grant → Bool) → some p xs ≡ true → some p ys ≡ true

among-without : (o : Option ℕ) (xs ys : List Grant) → AreAmong xs ys → AreAmong (without (λ g. g.serial) o xs) (without (λ g. g.serial) o ys)
among-without None xs ys among p there = among p there
among-without (Some n) xs ys among p there = some-both p (λ g. not (g.serial == n)) ys ∙ among (λ g. p g && not (g.serial == n)) (sym (some-both p (λ g. not (g.serial == n)) xs) ∙ there)

among-given : (o : Option Grant) (xs ys : List Grant) → AreAmong xs ys → AreAmong (and_given o xs) (and_given o ys)
among-given None xs ys among p there = among p there
among-given (Some g) xs ys among p there = go (p g) there
  where
    go : (b : Bool) → (b || some p xs) ≡ true → (b || some p ys) ≡ true
    go true there = refl
    go false there = among p there

-- what is out by the newest entries is out by all
pub out-append : (said start : Trail) → AreAmong (passes_out said) (passes_out (said ++ start))
out-append [] start p there = cc
out-append (e ∷ said) start p there = among-given (pass_of e) _ _ (among-without (pass_back e.call) _ _ (out-append said start)) p there

-- a pass that a list of entries leaves out is known to the core that they are the newest of
pub known-there : (core : CoreView) (held : List Grant) (ends : EndsIn core held) (g : Grant) → is_out g (passes_out ends.said) ≡ true → is_out g (passes_out core.past) ≡ true
known-there core held ends g there = subst (λ past. is_out g (passes_out past) ≡ true) (sym ends.joined) (out-append ends.said ends.start (same_grant g) there)

held-reversed : (held : List Grant) (said : Trail) → AreHeld held said → reverse held ≡ passes_out said
held-reversed held said are = ap reverse are ∙ reverse-reverse (passes_out said)

-- the pass that the client took latest
pub record LatestPass (core : CoreView) (client page : ℕ) (g : Grant) : Type 0 where
  pub client_is : g.client ≡ client
  pub page_is : g.page ≡ page
  pub known : is_out g (passes_out core.past) ≡ true

pub latest-known : (core : CoreView) (held : List Grant) (client page : ℕ) (g : Grant) → EndsIn core held → find (is_pass_of client page) (reverse held) ≡ Some g → LatestPass core client page g
latest-known core held client page g ends found =
    let f = find-there (is_pass_of client page) g (passes_out ends.said) (ap (find (is_pass_of client page)) (sym (held-reversed held ends.said ends.are_held)) ∙ found) in
    let both = and_parts (g.client == client) (g.page == page) f.passes in
    record { client_is = eqb-true g.client client both.0; page_is = eqb-true g.page page both.1; known = known-there core held ends g f.is_there }

-- a row that adds nothing
none-drives : (old new : CoreView) (held : List Grant) (client : ℕ) (s : Step) (outcome : Outcome) → new ≡ old → ((said : Trail) → AreHeld held said → RowPiece driver said client s [] outcome)
    → DrivesRow old client s outcome held held new
none-drives old new held client s outcome same of_row = record { piece = []; is = same; of_row = of_row; holds = λ said are. are }

-- a row that adds one entry, by which no pass is given or given back
one-drives : (old new : CoreView) (held : List Grant) (client : ℕ) (s : Step) (call : Call) (reply : Reply) → new ≡ with_entry old client call reply
    → ((said : Trail) → passes_out (by client call reply ∷ said) ≡ passes_out said) → ((said : Trail) → AreHeld held said → RowPiece driver said client s (by client call reply ∷ []) accepted)
    → DrivesRow old client s accepted held held new
one-drives old new held client s call reply is quiet of_row = record { piece = by client call reply ∷ []; is = is; of_row = of_row; holds = λ said are. are ∙ ap reverse (sym (quiet said)) }

-- the search finds what the list leaves out
latest-is : (held : List Grant) (said : Trail) (client page : ℕ) (o : Option Grant) → find (is_pass_of client page) (reverse held) ≡ o → AreHeld held said → latest_pass said client page ≡ o
latest-is held said client page o found are = ap (find (is_pass_of client page)) (sym (held-reversed held said are)) ∙ found

abbrev pub PassRow : Step → List ℕ → ℕ → ℕ → (ℕ → Call) → Type 0
PassRow s numbers client page call = (said piece : Trail) (outcome : Outcome) → WithPass numbers client call piece outcome (latest_pass said client page) → RowPiece driver said client s piece outcome

pub no_pass-drives : (core : CoreView) (held : List Grant) (client page : ℕ) (s : Step) (numbers : List ℕ) (call : ℕ → Call) → PassRow s numbers client page call
    → find (is_pass_of client page) (reverse held) ≡ None → DrivesRow core client s (refused 14) held held core
no_pass-drives core held client page s numbers call of_row none =
    none-drives core core held client s (refused 14) refl (λ said are. of_row said [] (refused 14) (subst (WithPass numbers client call [] (refused 14)) (sym (latest-is held said client page None none are)) (refl, refl)))

pub pass-drives : (old new : CoreView) (held : List Grant) (client page : ℕ) (s : Step) (numbers : List ℕ) (call : ℕ → Call) (reply : Reply) (g : Grant) → PassRow s numbers client page call
    → find (is_pass_of client page) (reverse held) ≡ Some g → new ≡ with_entry old client (call g.serial) reply → ((said : Trail) → passes_out (by client (call g.serial) reply ∷ said) ≡ passes_out said)
    → DrivesRow old client s accepted held held new
pass-drives old new held client page s numbers call reply g of_row found is quiet =
    one-drives old new held client s (call g.serial) reply is quiet
    (λ said are. of_row said _ accepted (subst (WithPass numbers client call (by client (call g.serial) reply ∷ []) accepted) (sym (latest-is held said client page (Some g) found are)) (reply, refl)))

pub pass_refused-drives : (old new : CoreView) (held : List Grant) (client page n : ℕ) (s : Step) (numbers : List ℕ) (call : ℕ → Call) (g : Grant) → PassRow s numbers client page call
    → find (is_pass_of client page) (reverse held) ≡ Some g → Contains numbers n → new ≡ old → DrivesRow old client s (refused n) held held new
pass_refused-drives old new held client page n s numbers call g of_row found listed same =
    none-drives old new held client s (refused n) same
    (λ said are. of_row said _ (refused n) (subst (WithPass numbers client call [] (refused n)) (sym (latest-is held said client page (Some g) found are)) (listed, refl)))

-- where a number stands in a list of refusals
pub at-first : (n : ℕ) (ns : List ℕ) → Contains (n ∷ ns) n
at-first n ns = (0, omega arith, refl)

pub at-second : (k n : ℕ) (ns : List ℕ) → Contains (k ∷ n ∷ ns) n
at-second k n ns = (1, omega arith, refl)

-- a pass made from a note is the one that the note is of
pub record IsNoted (g : Grant) (pass : Pass) : Type 0 where
  pub client_is : pass.client ≡ g.client
  pub page_is : pass.page ≡ g.page
  pub serial_is : pass.serial ≡ g.serial

pub noted-known : (core : CoreView) (client page : ℕ) (g : Grant) (pass : Pass) → LatestPass core client page g → IsNoted g pass → KnowsPass core pass
noted-known core client page g pass latest noted = subst (λ h. is_out h (passes_out core.past) ≡ true) (λ i. grant (sym noted.client_is i) (sym noted.page_is i) (sym noted.serial_is i)) latest.known

pub read-drives : (old new : CoreView) (held : List Grant) (client page : ℕ) (g : Grant) (pass : Pass) (image : List ℕ) → EndsIn old held → find (is_pass_of client page) (reverse held) ≡ Some g → IsNoted g pass
    → ReadOutcome old pass (Ok image) new → DrivesRow old client (step.Read page) accepted held held new
read-drives old new held client page g pass image ends found noted h =
    let latest = latest-known old held client page g ends found in
    pass-drives old new held client page (step.Read page) (20 ∷ 22 ∷ []) (λ n. Read n page) (Content image) g (λ said piece outcome w. w) found
    (h.2.is ∙ ap (λ who. with_entry old who (Read pass.serial pass.page) (Content image)) (noted.client_is ∙ latest.client_is)
    ∙ ap (λ n. with_entry old client (Read n pass.page) (Content image)) noted.serial_is ∙ ap (λ p. with_entry old client (Read g.serial p) (Content image)) (noted.page_is ∙ latest.page_is))
    (λ said. refl)

pub read_refused-drives : (old new : CoreView) (held : List Grant) (client page : ℕ) (g : Grant) (pass : Pass) (r : Refusal) → EndsIn old held → find (is_pass_of client page) (reverse held) ≡ Some g → IsNoted g pass
    → ReadOutcome old pass (Err r) new → DrivesRow old client (step.Read page) (outcome_of {A = Unit {0}} (Err r)) held held new
read_refused-drives old new held client page g pass refusal.UnknownPass ends found noted h = let known = noted-known old client page g pass (latest-known old held client page g ends found) noted in let lacks = h.1 in cc
read_refused-drives old new held client page g pass refusal.TrailFull ends found noted h = pass_refused-drives old new held client page 20 (step.Read page) (20 ∷ 22 ∷ []) (λ n. Read n page) g (λ said piece outcome w. w) found (at-first 20 (22 ∷ [])) h.1
read_refused-drives old new held client page g pass refusal.OutOfMemory ends found noted h = pass_refused-drives old new held client page 22 (step.Read page) (20 ∷ 22 ∷ []) (λ n. Read n page) g (λ said piece outcome w. w) found (at-second 20 22 []) h.2
read_refused-drives old new held client page g pass _ ends found noted h = absurd h

pub write-drives : (old new : CoreView) (held : List Grant) (client page offset : ℕ) (bytes : List ℕ) (lsn : ℕ) (g : Grant) (pass : Pass) → EndsIn old held → find (is_pass_of client page) (reverse held) ≡ Some g → IsNoted g pass
    → WriteOutcome {A = Unit {0}} old pass offset bytes lsn (Ok tt) new → DrivesRow old client (step.Write page offset bytes lsn) accepted held held new
write-drives old new held client page offset bytes lsn g pass ends found noted h =
    let latest = latest-known old held client page g ends found in
    pass-drives old new held client page (step.Write page offset bytes lsn) (20 ∷ 22 ∷ []) (λ n. Write n page offset bytes lsn) Done g (λ said piece outcome w. w) found
    (h.2.is ∙ ap (λ who. with_entry old who (Write pass.serial pass.page offset bytes lsn) Done) (noted.client_is ∙ latest.client_is)
    ∙ ap (λ n. with_entry old client (Write n pass.page offset bytes lsn) Done) noted.serial_is ∙ ap (λ p. with_entry old client (Write g.serial p offset bytes lsn) Done) (noted.page_is ∙ latest.page_is))
    (λ said. refl)

pub write_refused-drives : (old new : CoreView) (held : List Grant) (client page offset : ℕ) (bytes : List ℕ) (lsn : ℕ) (g : Grant) (pass : Pass) (r : Refusal) → EndsIn old held
    → find (is_pass_of client page) (reverse held) ≡ Some g → IsNoted g pass → WriteOutcome {A = Unit {0}} old pass offset bytes lsn (Err r) new
    → DrivesRow old client (step.Write page offset bytes lsn) (outcome_of {A = Unit {0}} (Err r)) held held new
write_refused-drives old new held client page offset bytes lsn g pass refusal.UnknownPass ends found noted h = let known = noted-known old client page g pass (latest-known old held client page g ends found) noted in let lacks = h.1 in cc
write_refused-drives old new held client page offset bytes lsn g pass refusal.TrailFull ends found noted h =
    pass_refused-drives old new held client page 20 (step.Write page offset bytes lsn) (20 ∷ 22 ∷ []) (λ n. Write n page offset bytes lsn) g (λ said piece outcome w. w) found (at-first 20 (22 ∷ [])) h.1
write_refused-drives old new held client page offset bytes lsn g pass refusal.OutOfMemory ends found noted h =
    pass_refused-drives old new held client page 22 (step.Write page offset bytes lsn) (20 ∷ 22 ∷ []) (λ n. Write n page offset bytes lsn) g (λ said piece outcome w. w) found (at-second 20 22 []) h.2
write_refused-drives old new held client page offset bytes lsn g pass _ ends found noted h = absurd h

pub unfix-drives : (old new : CoreView) (held held_after : List Grant) (client page : ℕ) (g : Grant) → EndsIn old held → find (is_pass_of client page) (reverse held) ≡ Some g
    → new ≡ with_entry old g.client (Unfix g.serial g.page) Done → held_after ≡ filter (λ h. not (h.serial == g.serial)) held → DrivesRow old client (step.Unfix page) accepted held held_after new
unfix-drives old new held held_after client page g ends found is left = record {
  piece = by client (Unfix g.serial page) Done ∷ [];
  is = is ∙ ap (λ who. with_entry old who (Unfix g.serial g.page) Done) latest.client_is ∙ ap (λ p. with_entry old client (Unfix g.serial p) Done) latest.page_is;
  of_row = λ said are. subst (WithPass [] client (λ n. Unfix n page) (by client (Unfix g.serial page) Done ∷ []) accepted) (sym (latest-is held said client page (Some g) found are)) (Done, refl);
  holds = λ said are. left ∙ ap (filter (λ h. not (h.serial == g.serial))) are ∙ sym (filter-reverse (λ h. not (h.serial == g.serial)) (passes_out said));
}
  where
    latest : LatestPass old client page g
    latest = latest-known old held client page g ends found

pub fix-drives : (old new : CoreView) (held held_after : List Grant) (client page : ℕ) (pass : Pass) → DrivesFix old client page (Ok pass) new → held_after ≡ held ++ grant pass.client pass.page pass.serial ∷ []
    → DrivesRow old client (step.Fix page) accepted held held_after new
fix-drives old new held held_after client page pass h more = record {
  piece = h.2.piece;
  is = h.2.is;
  of_row = λ said are. h.2.of_row;
  holds = λ said are. more ∙ ap (λ g. held ++ g ∷ []) (λ i. grant (h.0 i) (h.1 i) pass.serial) ∙ ap (λ gs. gs ++ grant client page pass.serial ∷ []) are
      ∙ sym (reverse-append (grant client page pass.serial ∷ []) (passes_out said)) ∙ ap reverse (sym (h.2.gives said));
}

pub fix_refused-drives : (old new : CoreView) (held : List Grant) (client page : ℕ) (r : Refusal) → DrivesFix old client page (Err r) new → DrivesRow old client (step.Fix page) (outcome_of {A = Unit {0}} (Err r)) held held new
fix_refused-drives old new held client page r h = record { piece = h.piece; is = h.is; of_row = λ said are. h.of_row; holds = λ said are. are ∙ ap reverse (sym (h.gives said)) }

pub flush-drives : (old new : CoreView) (held : List Grant) (client page : ℕ) (f : Flushed) → DrivesFlush old client page (Ok f) new → DrivesRow old client (step.Flush page) accepted held held new
flush-drives old new held client page f h = record { piece = h.piece; is = h.is; of_row = λ said are. h.of_row.0; holds = λ said are. are ∙ ap reverse (sym (h.gives said)) }

pub flush_refused-drives : (old new : CoreView) (held : List Grant) (client page : ℕ) (r : Refusal) → DrivesFlush old client page (Err r) new → DrivesRow old client (step.Flush page) (outcome_of {A = Unit {0}} (Err r)) held held new
flush_refused-drives old new held client page r h = record { piece = h.piece; is = h.is; of_row = λ said are. h.of_row; holds = λ said are. are ∙ ap reverse (sym (h.gives said)) }

pub discard-drives : (old new : CoreView) (held : List Grant) (client page : ℕ) (answer : Discarded) → DiscardOutcome old client page (Ok answer) new → DrivesRow old client (step.Discard page) accepted held held new
discard-drives old new held client page how.Left h = one-drives old new held client (step.Discard page) (Discard page) Dropped h.1.is (λ said. refl) (λ said are. discarded begins)
discard-drives old new held client page how.Absent h = one-drives old new held client (step.Discard page) (Discard page) Absent h.1.is (λ said. refl) (λ said are. absent begins)

pub discard_refused-drives : (old new : CoreView) (held : List Grant) (client page : ℕ) (r : Refusal) → DiscardOutcome old client page (Err r) new → DrivesRow old client (step.Discard page) (outcome_of {A = Unit {0}} (Err r)) held held new
discard_refused-drives old new held client page refusal.Pinned h = record { piece = by client (Discard page) Pinned ∷ []; is = h.1.is; of_row = λ said are. pinned begins; holds = λ said are. are }
discard_refused-drives old new held client page refusal.Busy h = record { piece = by client (Discard page) Busy ∷ []; is = h.1.is; of_row = λ said are. busy refl begins; holds = λ said are. are }
discard_refused-drives old new held client page refusal.TrailFull h = none-drives old new held client (step.Discard page) (refused 20) h.1 (λ said are. no_room begins)
discard_refused-drives old new held client page _ h = absurd h

pub tick-drives : (old new : CoreView) (held : List Grant) (client n : ℕ) (result : Result (Unit {0}) Refusal) → TickOutcome old client n result new → DrivesRow old client (step.Tick n) (outcome_of result) held held new
tick-drives old new held client n (Ok done) h = one-drives old new held client (step.Tick n) (Tick n) Done h.2.is (λ said. refl) (λ said are. (Done, refl))
tick-drives old new held client n (Err refusal.TrailFull) h = none-drives old new held client (step.Tick n) (refused 20) h.1 (λ said are. (at-first 20 (21 ∷ 22 ∷ []), refl))
tick-drives old new held client n (Err refusal.ClockFull) h = none-drives old new held client (step.Tick n) (refused 21) h.2 (λ said are. (at-second 20 21 (22 ∷ []), refl))
tick-drives old new held client n (Err _) h = absurd h

pub log-drives : (old new : CoreView) (held : List Grant) (client lsn : ℕ) (result : Result (Unit {0}) Refusal) → StepOutcome old client (Mark lsn) result new → DrivesRow old client (step.Log lsn) (outcome_of result) held held new
log-drives old new held client lsn (Ok done) h = one-drives old new held client (step.Log lsn) (Mark lsn) Done h.1.is (λ said. refl) (λ said are. (Done, refl))
log-drives old new held client lsn (Err refusal.TrailFull) h = none-drives old new held client (step.Log lsn) (refused 20) h.1 (λ said are. (at-first 20 [], refl))
log-drives old new held client lsn (Err _) h = absurd h

pub purge-drives : (old new : CoreView) (held : List Grant) (client n : ℕ) → PurgeOutcome old client (Ok n) new → DrivesRow old client step.Purge accepted held held new
purge-drives old new held client n h = one-drives old new held client step.Purge Purge (Forgot n) h.1.is (λ said. refl) (λ said are. (Forgot n, refl))
