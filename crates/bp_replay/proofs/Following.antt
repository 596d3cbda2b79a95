-- Row after row, a list follows its script; and then the passes that are still held go back.
use Rattle.std.proofs.Common.{◌≡◌, ◌≢◌, refl, sym, ◌∙◌, ap, subst, ℕ, suc, ◌+◌, ◌<◌, add-one, arith, true, ◌&&◌, nat_le, List, [], ◌∷◌, ◌++◌, length, reverse, get_or, take, All, Some, Result, Ok, Err}
use Rattle.std.specs.Prelude.{find, if◌then◌else◌}
use Rattle.std.proofs.lemmas.Bool.{le-leb}
use Rattle.std.proofs.lemmas.List.{reverse-reverse, reverse-append}
use Rattle.std.proofs.lemmas.List.Elements.{All-cons, All-get_or, All-push}
use Rattle.std.proofs.Math.Seq.{take-suc}
use Rattle.bp_page.specs.declared.refusals.Refusal.{Refusal}
use Rattle.bp_page.specs.declared.refusals.Refusal.TheVariants as refusal
use Rattle.bp_page.specs.Refusals.{number_of}
use Rattle.bp_scripts.specs.declared.rows.Row.{Row}
use Rattle.bp_scripts.specs.declared.rows.Step.{Step}
use Rattle.bp_scripts.specs.declared.rows.Step.TheVariants as step
use Rattle.bp_scripts.specs.LogBound.{log_of}
use Rattle.bp_trail.specs.Parameters.{Parameters}
use Rattle.bp_scripts.specs.declared.rows.Refused.{Refused}
use Rattle.bp_trail.specs.Lists.{every}
use Rattle.bp_trail.specs.Event.{Grant}
use Rattle.bp_trail.specs.Trail.{Trail}
use Rattle.bp_trail.specs.HeldPasses.{held_passes}
use Rattle.bp_trail.specs.Passes.{passes_out}
use Rattle.bp_trail.specs.Pieces.{Outcome, outcome_of}
use Rattle.bp_trail.specs.Pieces.Manner.{session}
use Rattle.bp_scripts.specs.Script.{RowPiece, refused_row, FollowsBy, first_to_go_back, GivesBack}
use Rattle.bp_scripts.specs.Script.GivesBack.{none_held, next}
use Rattle.bp_workers.specs.Giving.{GoBack}
use Rattle.bp_workers.specs.Giving.GoBack.{no_more, one_more}
use Rattle.bp_replay.specs.Steps.{StepSaid}
use Rattle.bp_replay.specs.Scripts.{NoneIsStrange, IsRowOf, RowsFit}

-- ---- one more row

pub follows-more : (client : ℕ) (rows : List Row) (row : Row) (ends ends_after : List ℕ) (said after : Trail) (refusals refusals_after : List Refused) (o : Outcome) → row.client ≡ client
    → FollowsBy session (reverse rows) (reverse ends) said (reverse refusals) → StepSaid client row.step o said after → reverse refusals_after ≡ refused_row row.row o ++ reverse refusals
    → ends_after ≡ ends ++ length after ∷ [] → FollowsBy session (reverse (rows ++ row ∷ [])) (reverse ends_after) after (reverse refusals_after)
follows-more client rows row ends ends_after said after refusals refusals_after o whose so_far adds refuses cut =
    subst (λ rs. FollowsBy session rs (reverse ends_after) after (reverse refusals_after)) (sym (reverse-append rows (row ∷ [])))
    (subst (λ es. FollowsBy session (row ∷ reverse rows) es after (reverse refusals_after)) (sym (ap reverse cut ∙ reverse-append ends (length after ∷ [])))
    (record {
      before = said;
      earlier = reverse refusals;
      adds = record { piece = adds.piece; outcome = o; of_row = subst (λ c. RowPiece session said c row.step adds.piece o) (sym whose) adds.of_row; grows = adds.grows; refuses = refuses };
      ends_here = refl;
      follows = so_far;
    }))

sixteen : (why : Refusal) → number_of why ≡ 16 → why ≡ refusal.UnknownTicket
sixteen refusal.UnknownTicket is = refl
sixteen _ is = absurd (omega (arith, is))

pub known-more : (row : ℕ) (refusals refusals_after : List Refused) (answer : Result (Unit {0}) Refusal) → NoneIsStrange refusals → answer ≢ Err refusal.UnknownTicket → reverse refusals_after ≡ refused_row row (outcome_of answer) ++ reverse refusals
    → NoneIsStrange refusals_after
known-more row refusals refusals_after (Ok done) known none refuses =
    subst NoneIsStrange (sym (reverse-reverse refusals) ∙ ap reverse (sym refuses) ∙ reverse-reverse refusals_after) known
known-more row refusals refusals_after (Err why) known none refuses =
    let one : Refused = record { row = row; number = number_of why } in
    let more : refusals_after ≡ refusals ++ one ∷ [] =
    sym (reverse-reverse refusals_after) ∙ ap reverse refuses ∙ reverse-append (one ∷ []) (reverse refusals) ∙ ap (λ rs. rs ++ one ∷ []) (reverse-reverse refusals) in
    subst NoneIsStrange (sym more) (All-push (λ r. r.number ≢ 16) refusals one known (λ is. none (ap Err (sixteen why is))))

-- a log row adds nothing
pub quiet-log : (client : ℕ) (s : Step) (lsn : ℕ) (o : Outcome) (said after : Trail) → log_of s ≡ Some lsn → StepSaid client s o said after → after ≡ said
quiet-log client (step.Log n) lsn o said after is adds = adds.grows ∙ ap (λ es. es ++ said) adds.of_row.0
quiet-log client (step.Fix page) lsn o said after is adds = absurd (let no = is in cc)
quiet-log client (step.Unfix page) lsn o said after is adds = absurd (let no = is in cc)
quiet-log client (step.Read page) lsn o said after is adds = absurd (let no = is in cc)
quiet-log client (step.Write page offset bytes n) lsn o said after is adds = absurd (let no = is in cc)
quiet-log client (step.Flush page) lsn o said after is adds = absurd (let no = is in cc)
quiet-log client (step.Discard page) lsn o said after is adds = absurd (let no = is in cc)
quiet-log client (step.Tick n) lsn o said after is adds = absurd (let no = is in cc)
quiet-log client step.Purge lsn o said after is adds = absurd (let no = is in cc)

-- the row at a place, and the rows up to it
pub row-there : (p : Parameters) (client : ℕ) (script : List Row) (k : ℕ) (row : Row) → k < length script → row ≡ get_or script k row → RowsFit p client script → IsRowOf p client row
row-there p client script k row below is fits = subst (λ r. IsRowOf p client r) (sym is) (All-get_or (IsRowOf p client) script k row below fits)

pub one-row-more : (script : List Row) (k : ℕ) (row : Row) → k < length script → row ≡ get_or script k row → take (k + 1) script ≡ take k script ++ row ∷ []
one-row-more script k row below is = rw add-one (take-suc script k row below ∙ ap (λ r. take k script ++ r ∷ []) (sym is))

-- ---- passes that go back

none-lower : (client n : ℕ) (gs : List Grant) → n ≡ client → All (λ (g : Grant). g.client ≡ client) gs → every (λ (h : Grant). nat_le n h.client) gs ≡ true
none-lower client n [] is own = refl
none-lower client n (g ∷ gs) is own =
    ap (λ b. b && every (λ (h : Grant). nat_le n h.client) gs) (le-leb n g.client (omega (arith, is, own 0 g (omega arith))))
    ∙ none-lower client n gs is (λ k d lt. own (suc k) d (omega (arith, lt)))

-- of one client's passes the first goes back next
first-is : (g : Grant) (gs : List Grant) → All (λ (h : Grant). h.client ≡ g.client) gs → first_to_go_back (g ∷ gs) ≡ Some g
first-is g gs own =
    ap (λ b. if b then Some g else find (λ x. every (λ h. nat_le x.client h.client) (g ∷ gs)) gs) (none-lower g.client g.client (g ∷ gs) refl (All-cons (λ (h : Grant). h.client ≡ g.client) g gs refl own))

-- whatever is given back from there was given back from the start
goes : (said after : Trail) → GoBack said after → (end : Trail) → GivesBack after end → GivesBack said end
goes said after no_more end rest = rest
goes said after (one_more g later so_far held own) end rest = goes said _ so_far end (next g (ap first_to_go_back held ∙ first-is g later own) rest)

-- passes went back until none was held
pub gives-back : (said after : Trail) → GoBack said after → held_passes after ≡ [] → GivesBack said after
gives-back said after went none = goes said after went after (none_held (sym (reverse-reverse (passes_out after)) ∙ ap reverse none))
