-- What a fix of a page adds, and that it is counted.
use Rattle.std.proofs.Common.{◌≡◌, refl, sym, ◌∙◌, ap, subst, ℕ, ◌^◌, ◌<◌, ◌≤◌, arith, true, false, List, [], ◌∷◌, ◌++◌, Option, None, Result, Ok, Err}
use Rattle.std.specs.Prelude.{IfOk, OnOk}
use Rattle.std.specs.Result.{result_ok}
use Rattle.bp_page.specs.declared.refusals.Refusal.{Refusal}
use Rattle.bp_page.specs.declared.refusals.Refusal.TheVariants as refusal
use Rattle.bp_page.specs.declared.refusals.PortFault.{PortFault}
use Rattle.bp_page.specs.declared.refusals.PortFault.TheVariants as fault
use Rattle.bp_page.specs.Refusals.{number_of}
use Rattle.bp_trail.specs.declared.entries.Call.{Call}
use Rattle.bp_trail.specs.declared.entries.Call.TheVariants.{Fix, Unfix, Tick}
use Rattle.bp_trail.specs.declared.entries.Reply.TheVariants.{Hit, Load, NoVictim, NeedLog, Busy, Done}
use Rattle.bp_trail.specs.Event.{is_write}
use Rattle.bp_trail.specs.Parameters.{Parameters}
use Rattle.bp_trail.specs.Pieces.FixGoesOn.{begins}
use Rattle.bp_core.specs.declared.passes.Pass.{Pass}
use Rattle.bp_core.specs.declared.passes.ReadTicket.{ReadTicket}
use Rattle.bp_core.specs.declared.passes.WriteTicket.{WriteTicket}
use Rattle.bp_core.specs.declared.passes.Fix.{Fix as Fixing}
use Rattle.bp_core.specs.declared.passes.Fix.TheVariants as fixing
use Rattle.bp_trail.specs.Ends.{read_refusal}
use Rattle.bp_core.specs.CoreView.{CoreView, with_entry, HasRoomFor}
use Rattle.bp_core.specs.Outcomes.{FixOutcome, TickOutcome}
use Rattle.bp_device.specs.Drivers.{DrivesFix, LoadOutcome}
use Rattle.bp_device.proofs.Driving.{adds-none, hit-drives, load-drives, refusal-drives}
use Rattle.bp_trail.specs.declared.totals.Totals.{Totals}
use Rattle.bp_trail.specs.Totals.{counted, no_totals, HasRoom}
use Rattle.bp_sweep.specs.Referring.{IsTallied, FixesPage, HasRun, is_passed_over}
use Rattle.bp_sweep.proofs.Tally.{tally-room, room-few, tally-entry, done-totals, totals-none, no-write-out}
use Rattle.bp_sweep.proofs.Steps.{run-fixed, run-passed}

roomy : (old : CoreView) (totals : Totals) → IsTallied old totals → HasRoomFor 3 old → HasRoom totals
roomy old totals t room = tally-room old totals t (omega (arith, room-few old totals 3 t room (omega arith)))

pub fix-room : (old new : CoreView) (totals : Totals) (page : ℕ) (fix : Fixing) → IsTallied old totals → FixOutcome old 0 page (Ok fix) new → HasRoom totals
fix-room old new totals page (fixing.Hit pass) t h = roomy old totals t h.0
fix-room old new totals page (fixing.Load ticket evicted) t h = roomy old totals t h.0
fix-room old new totals page (fixing.WriteFirst ticket) t h = roomy old totals t h.0

pub refused-room : (old new : CoreView) (totals : Totals) (page : ℕ) (why : Refusal) → IsTallied old totals → FixOutcome old 0 page (Err why) new → is_passed_over why ≡ true → HasRoom totals
refused-room old new totals page refusal.NoVictim t h passed = roomy old totals t h.0
refused-room old new totals page (refusal.NeedLog lsn) t h passed = roomy old totals t h.0
refused-room old new totals page refusal.Busy t h passed = roomy old totals t h.0
refused-room old new totals page refusal.TrailFull t h passed = absurd (let no : false ≡ true = passed in cc)
refused-room old new totals page refusal.OutOfMemory t h passed = absurd (let no : false ≡ true = passed in cc)
refused-room old new totals page _ t h passed = absurd h

pub tally-hit : (old new : CoreView) (totals after : Totals) (page n : ℕ) (pass : Pass) → IsTallied old totals → FixOutcome old 0 page (Ok (fixing.Hit pass)) new
    → n ≡ pass.serial → after ≡ counted (Hit n) totals → IsTallied new after
tally-hit old new totals after page n pass t h same is =
    subst (IsTallied new) (sym (is ∙ ap (λ n. counted (Hit n) totals) same)) (tally-entry old new totals 0 (Fix page) (Hit pass.serial) t refl h.3.is)

pub tally-load : (old new : CoreView) (totals after : Totals) (page n : ℕ) (ticket : ReadTicket) (evicted : Option ℕ) → IsTallied old totals → FixOutcome old 0 page (Ok (fixing.Load ticket evicted)) new
    → n ≡ ticket.serial → after ≡ counted (Load n evicted) totals → IsTallied new after
tally-load old new totals after page n ticket evicted t h same is =
    subst (IsTallied new) (sym (is ∙ ap (λ n. counted (Load n evicted) totals) same)) (tally-entry old new totals 0 (Fix page) (Load ticket.serial evicted) t refl h.3.is)

pub hit-fixes : (old new : CoreView) (page : ℕ) (pass : Pass) → FixOutcome old 0 page (Ok (fixing.Hit pass)) new → DrivesFix old 0 page (Ok pass) new
hit-fixes old new page pass h = hit-drives old old new 0 page pass (adds-none old _ begins) h

load-fixes : (old read new : CoreView) (page : ℕ) (ticket : ReadTicket) (evicted : Option ℕ) (found : Result (List ℕ) PortFault) (result : Result Pass Refusal) → FixOutcome old 0 page (Ok (fixing.Load ticket evicted)) read
    → LoadOutcome read ticket found result new → DrivesFix old 0 page result new
load-fixes old read new page ticket evicted found result h l = load-drives old old read new 0 page ticket evicted found result (adds-none old _ begins) h l

load-small : (read new : CoreView) (ticket : ReadTicket) (found : Result (List ℕ) PortFault) (why : Refusal) → LoadOutcome read ticket found (Err why) new → number_of why < 20
load-small read new ticket (Ok image) why l = absurd l
load-small read new ticket (Err f) why l = subst (λ r. number_of r < 20) (sym l.0) (small f)
  where
    small : (f : PortFault) → number_of (read_refusal f) < 20
    small fault.WrongPage = omega arith
    small _ = omega arith

-- there is a pass where the read ended well, and none where it failed
pub end-fixes : (old read new : CoreView) (page : ℕ) (ticket : ReadTicket) (evicted : Option ℕ) (found : Result (List ℕ) PortFault) (ended : Result Pass Refusal) (pass : Option Pass)
    → FixOutcome old 0 page (Ok (fixing.Load ticket evicted)) read → LoadOutcome read ticket found ended new → pass ≡ result_ok ended → FixesPage old page (Ok pass) new
end-fixes old read new page ticket evicted found ended pass h l is = subst (λ p. FixesPage old page (Ok p) new) (sym is) (go ended l)
  where
    go : (ended : Result Pass Refusal) → LoadOutcome read ticket found ended new → FixesPage old page (Ok (result_ok ended)) new
    go (Ok pass) l = load-fixes old read new page ticket evicted found (Ok pass) h l
    go (Err why) l = (why, load-small read new ticket found why l, load-fixes old read new page ticket evicted found (Err why) h l)

pub write-fixes : (old new : CoreView) (totals : Totals) (page : ℕ) (ticket : WriteTicket) → IsTallied old totals → FixOutcome old 0 page (Ok (fixing.WriteFirst ticket)) new → ⊥
write-fixes old new totals page ticket t h = no-write-out old new 0 page ticket.serial ticket.page ticket.image t.unwritten h.3

passed-small : (why : Refusal) → is_passed_over why ≡ true → number_of why < 20
passed-small refusal.NoVictim is = omega arith
passed-small (refusal.NeedLog lsn) is = omega arith
passed-small refusal.Busy is = omega arith
passed-small _ is = absurd (let no : false ≡ true = is in cc)

-- what counting a refused fix answers
abbrev pub PassedOver : Refusal → Totals → Totals → Option Pass → Type 0
PassedOver why totals after pass = (pass ≡ None) × (is_passed_over why ≡ true) × (after ≡ counted NoVictim totals)

pub refused-fixes : (old new : CoreView) (totals after : Totals) (page : ℕ) (why : Refusal) (r : Result (Option Pass) Refusal) → FixOutcome old 0 page (Err why) new → IfOk r (PassedOver why totals after) → FixesPage old page r new
refused-fixes old new totals after page why (Ok pass) h passed = subst (λ p. FixesPage old page (Ok p) new) (sym passed.0) (why, passed-small why passed.1, refusal-drives old old new 0 page why (adds-none old _ begins) h)
refused-fixes old new totals after page why (Err e) h passed = tt

pub tally-refused : (old new : CoreView) (totals after : Totals) (page : ℕ) (why : Refusal) (r : Result (Option Pass) Refusal) → IsTallied old totals → FixOutcome old 0 page (Err why) new → IfOk r (PassedOver why totals after)
    → OnOk r (IsTallied new after)
tally-refused old new totals after page why (Err e) t h passed = tt
tally-refused old new totals after page why (Ok pass) t h passed = subst (IsTallied new) (sym passed.2) (go why h passed.1)
  where
    go : (why : Refusal) → FixOutcome old 0 page (Err why) new → is_passed_over why ≡ true → IsTallied new (counted NoVictim totals)
    go refusal.NoVictim h is = tally-entry old new totals 0 (Fix page) NoVictim t refl h.1.is
    go (refusal.NeedLog lsn) h is = tally-entry old new totals 0 (Fix page) (NeedLog lsn) t refl h.1.is
    go refusal.Busy h is = tally-entry old new totals 0 (Fix page) Busy t refl h.1.is
    go refusal.TrailFull h is = absurd (let no : false ≡ true = is in cc)
    go refusal.OutOfMemory h is = absurd (let no : false ≡ true = is in cc)
    go _ h is = absurd h

-- ---- a reference

tally-done : (old new : CoreView) (totals : Totals) (client : ℕ) (call : Call) → IsTallied old totals → is_write call ≡ false → new ≡ with_entry old client call Done → IsTallied new totals
tally-done old new totals client call t quiet is = subst (IsTallied new) (done-totals totals) (tally-entry old new totals client call Done t quiet is)

pub tally-unfix : (old new : CoreView) (totals : Totals) (pass : Pass) → IsTallied old totals → new ≡ with_entry old pass.client (Unfix pass.serial pass.page) Done → IsTallied new totals
tally-unfix old new totals pass t is = tally-done old new totals pass.client (Unfix pass.serial pass.page) t refl is

pub tally-tick : (old new : CoreView) (totals : Totals) (r : Result (Unit {0}) Refusal) → IsTallied old totals → TickOutcome old 0 1 r new → OnOk r (IsTallied new totals)
tally-tick old new totals (Ok done) t h = tally-done old new totals 0 (Tick 1) t refl h.2.is
tally-tick old new totals (Err e) t h = tt

-- whatever went by before, the reference goes by after it
abbrev pub GoesBy : CoreView → ℕ → CoreView → Type 0
GoesBy old page new = (start : CoreView) (pages : List ℕ) → HasRun start pages old → HasRun start (pages ++ page ∷ []) new

pub fixed-goes : (old mid given new : CoreView) (page : ℕ) (pass : Pass) (r : Result (Unit {0}) Refusal) → DrivesFix old 0 page (Ok pass) mid → given ≡ with_entry mid pass.client (Unfix pass.serial pass.page) Done
    → TickOutcome given 0 1 r new → OnOk r (GoesBy old page new)
fixed-goes old mid given new page pass (Ok done) h is ticks = λ start pages run. run-fixed start old mid pages page run given new pass h is ticks
fixed-goes old mid given new page pass (Err e) h is ticks = tt

pub passed-goes : (old mid new : CoreView) (page : ℕ) (r : Result (Unit {0}) Refusal) → FixesPage old page (Ok None) mid → TickOutcome mid 0 1 r new → OnOk r (GoesBy old page new)
passed-goes old mid new page (Ok done) h ticks = λ start pages run. run-passed start old mid pages page run new h.0 h.1 h.2 ticks
passed-goes old mid new page (Err e) h ticks = tt

pub tally-new : (c : Parameters) (core : CoreView) (totals : Totals) → core ≡ record { parameters = c; before = []; past = [] } → c.room ≤ 2 ^ 61 → totals ≡ no_totals → IsTallied core totals
tally-new c core totals made room none = subst (λ v. IsTallied v totals) (sym made) (record { whole = refl; room = room; unwritten = refl; counted = none ∙ totals-none })
