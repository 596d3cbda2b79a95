-- What the exported functions answer and leave in a handle, and in the memory that C passes.
use Rattle.std.specs.Prelude.{◌≡◌, ◌⊎◌, ℕ, Bool, true, false, List, Option, Some, None, Result, Ok, Err}
use denote.RawPtr.{Ptr}
use Rattle.bp_page.specs.declared.refusals.Refusal.{Refusal}
use Rattle.bp_page.specs.declared.refusals.PortFault.{PortFault}
use Rattle.bp_page.specs.Refusals.{number_of}
use Rattle.bp_trail.specs.Event.{Grant}
use Rattle.bp_trail.specs.Saved.{page_lsn}
use Rattle.bp_core.specs.declared.passes.Pass.{Pass}
use Rattle.bp_trail.specs.declared.ends.Ended.{Ended}
use Rattle.bp_trail.specs.declared.ends.Ended.TheVariants as ended
use Rattle.bp_trail.specs.declared.ends.Discarded.{Discarded}
use Rattle.bp_trail.specs.declared.ends.Discarded.TheVariants as discarded
use Rattle.bp_core.specs.declared.passes.EndRefusal.{EndRefusal}
use Rattle.hojzmated_c.specs.EndRefusals.{number_of_end}
use Rattle.bp_core.specs.CoreView.{CoreView, EachPast}
use Rattle.bp_core.specs.Outcomes.{KnowsPass, LacksPass, UnfixOutcome}
use Rattle.hojzmated_c.specs.declared.forms.HzConfig.{HzConfig}
use Rattle.hojzmated_c.specs.declared.forms.HzFixed.{HzFixed}
use Rattle.hojzmated_c.specs.declared.forms.HzGrant.{HzGrant}
use Rattle.hojzmated_c.specs.declared.forms.HzStats.{HzStats}
use Rattle.hojzmated_c.specs.declared.forms.HzUnsaved.{HzUnsaved}
use Rattle.hojzmated_c.specs.Forms.{pass_of, shown_refusal, fault_of}
use Rattle.hojzmated_c.specs.Outcomes.{Opens, Ticks, Marks, Purges, Fixes, Flushes, Discards, EndsRead, EndsWrite}
use Rattle.hojzmated_c.specs.Outcomes.{FailsRead, ReadsPart, WritesPart}
use Rattle.hojzmated_c.specs.Tellers.{TellsUnsaved, TellsVictim, TellsRedo, TellsStats, TellsResident}

-- 0, or the number of the refusal
abbrev pub code_of : {A : Type 0} → Result A Refusal → ℕ
code_of (Ok done) = 0
code_of (Err why) = number_of why

-- the number is that of a result of which P holds
abbrev pub Told : {A : Type 0} → ℕ → (Result A Refusal → Type 0) → Type 0
Told {A} number P = (r : Result A Refusal) × (number ≡ code_of r) × P r

-- a handle that has a core has one afterwards, as P says; one that has none stays so, the number is
-- 50, and C's memory is as it was
abbrev pub OnCore : Option CoreView → Option CoreView → ℕ → Type 0 → (CoreView → CoreView → Type 0)
    → Type 0
OnCore None new number Kept P = (number ≡ 50) × (new ≡ None) × Kept
OnCore (Some old) None number Kept P = ⊥
OnCore (Some old) (Some new) number Kept P = P old new

-- a handle with no core gets a fresh one as it was asked for, or stays as it is
abbrev pub Made : Option CoreView → Option CoreView → HzConfig → ℕ → Type 0
Made (Some old) new asked number = (number ≡ 51) × (new ≡ Some old)
Made None None asked number = (why : Refusal) × (number ≡ number_of why) × Opens asked (Err why)
Made None (Some new) asked number = (number ≡ 0) × Opens asked (Ok new)

-- what a place has that is written only where the result is good
abbrev pub or_else : {A : Type 0} → Result A Refusal → A → A
or_else (Ok x) old = x
or_else (Err why) old = old

abbrev pub shown_fix : ℕ → ℕ → Result HzFixed Refusal → HzFixed
shown_fix client page (Ok fixed) = fixed
shown_fix client page (Err why) = shown_refusal client page why

-- what each exported function leaves of the core of its handle, and answers
abbrev pub Ticked : Option CoreView → Option CoreView → ℕ → ℕ → ℕ → Type 0
Ticked old new client n number =
    OnCore old new number (Unit {0})
    (λ old new. Told number (λ r. Ticks {A = Unit {0}} old client n r new))

abbrev pub Marked : Option CoreView → Option CoreView → ℕ → ℕ → ℕ → Type 0
Marked old new client lsn number =
    OnCore old new number (Unit {0})
    (λ old new. Told number (λ r. Marks {A = Unit {0}} old client lsn r new))

-- count is the place for how many pages were forgotten
abbrev pub Purged : Option CoreView → Option CoreView → ℕ → ℕ → ℕ → ℕ → Type 0
Purged old new client count count' number =
    OnCore old new number (count' ≡ count)
    (λ old new. Told number (λ r. Purges old client r new × (count' ≡ or_else r count)))

-- the image is the buffer for that of a page to write out
abbrev pub Asked : Option CoreView → Option CoreView → ℕ → ℕ → List ℕ → List ℕ → HzFixed → HzFixed
    → ℕ → Type 0
Asked old new client page image image' out out' number =
    OnCore old new number ((image' ≡ image) × (out' ≡ out))
    (λ old new.
    Told number
    (λ r. Fixes old client page image r image' new × (out' ≡ shown_fix client page r)))

abbrev pub Flushed : Option CoreView → Option CoreView → ℕ → ℕ → List ℕ → List ℕ → HzFixed → HzFixed
    → ℕ → Type 0
Flushed old new client page image image' out out' number =
    OnCore old new number ((image' ≡ image) × (out' ≡ out))
    (λ old new.
    Told number
    (λ r. Flushes old client page image r image' new × (out' ≡ shown_fix client page r)))

-- 1 where the page left a frame and 0 where it was in none, which is written only where it is done
abbrev pub left_or_else : Result Discarded Refusal → ℕ → ℕ
left_or_else (Ok discarded.Left) old = 1
left_or_else (Ok discarded.Absent) old = 0
left_or_else (Err why) old = old

abbrev pub PageDiscarded : Option CoreView → Option CoreView → ℕ → ℕ → ℕ → ℕ → ℕ → Type 0
PageDiscarded old new client page was was' number =
    OnCore old new number (was' ≡ was)
    (λ old new. Told number (λ r. Discards old client page r new × (was' ≡ left_or_else r was)))

abbrev pub ReadEnded : Option CoreView → Option CoreView → HzGrant → List ℕ → HzGrant → HzGrant → ℕ
    → Type 0
ReadEnded old new ticket image pass pass' number =
    OnCore old new number (pass' ≡ pass)
    (λ old new. Told number (λ r. EndsRead old ticket image r new × (pass' ≡ or_else r pass)))

abbrev pub ReadFailed : Option CoreView → Option CoreView → HzGrant → Bool → ℕ → Type 0
ReadFailed old new ticket is_wrong_page number =
    OnCore old new number (Unit {0})
    (λ old new. FailsRead old ticket (fault_of is_wrong_page) number new)

abbrev pub code_of_end : {T R : Type 0} → Result Ended (EndRefusal T R) → ℕ
code_of_end (Ok how) = 0
code_of_end (Err why) = number_of_end why

-- whether the page is still unsaved, which is written only where the end is good
abbrev pub dirty_or_else : {T R : Type 0} → Result Ended (EndRefusal T R) → ℕ → ℕ
dirty_or_else (Ok ended.Cleaned) old = 0
dirty_or_else (Ok ended.StillDirty) old = 1
dirty_or_else (Err why) old = old

-- the core's outcome of a write-out that went well, or did not
abbrev pub WriteEnded : Option CoreView → Option CoreView → HzGrant → Bool → ℕ → ℕ → ℕ → Type 0
WriteEnded old new ticket is_good dirty dirty' number =
    OnCore old new number (dirty' ≡ dirty)
    (λ old new.
    (r : Result Ended (EndRefusal Grant (Result (Unit {0}) PortFault))) × (number ≡ code_of_end r)
    × EndsWrite old ticket is_good r new
    × (dirty' ≡ dirty_or_else r dirty))

abbrev pub PartRead : Option CoreView → Option CoreView → HzGrant → ℕ → List ℕ → List ℕ → ℕ → Type 0
PartRead old new pass offset into into' number =
    OnCore old new number (into' ≡ into)
    (λ old new. Told number (λ r. ReadsPart {A = Unit {0}} old pass offset into r into' new))

abbrev pub PartWrote : Option CoreView → Option CoreView → HzGrant → ℕ → List ℕ → ℕ → ℕ → Type 0
PartWrote old new pass offset bytes lsn number =
    OnCore old new number (Unit {0})
    (λ old new. Told number (λ r. WritesPart {A = Unit {0}} old pass offset bytes lsn r new))

-- the pass is out, which is 0; or it is not, which is 14. Only in the first case is a place told. The
-- core stays as it is
abbrev pub PageLent : Option CoreView → Option CoreView → HzGrant → Ptr → Ptr → ℕ → Type 0
PageLent old new pass place place' number =
    OnCore old new number (place' ≡ place)
    (λ old new. (new ≡ old)
    × (((number ≡ 0) × KnowsPass old (pass_of pass))
    ⊎ ((number ≡ 14) × LacksPass old (pass_of pass) × (place' ≡ place))))

-- a pass goes back, or is not out here, which is 14
abbrev pub code_of_unfix : {A : Type 0} → Result A Pass → ℕ
code_of_unfix (Ok done) = 0
code_of_unfix (Err pass) = 14

abbrev pub Unfixed : Option CoreView → Option CoreView → HzGrant → ℕ → Type 0
Unfixed old new pass number =
    OnCore old new number (Unit {0})
    (λ old new.
    (r : Result (Unit {0}) Pass) × (number ≡ code_of_unfix r)
    × UnfixOutcome old (pass_of pass) r new)

-- what a call tells that leaves the core as it is
abbrev pub OnSame : Option CoreView → Option CoreView → ℕ → Type 0 → (CoreView → Type 0) → Type 0
OnSame old new number Kept P = OnCore old new number Kept (λ old new. (new ≡ old) × P old)

-- the pass is out, which is 0; or it is not, which is 14. Only in the first case is the page LSN told
abbrev pub LsnTold : Option CoreView → Option CoreView → HzGrant → ℕ → ℕ → ℕ → Type 0
LsnTold old new pass lsn lsn' number =
    OnSame old new number (lsn' ≡ lsn)
    (λ core.
    ((number ≡ 0) × KnowsPass core (pass_of pass) × EachPast core (λ past. lsn' ≡ page_lsn past pass.page))
    ⊎ ((number ≡ 14) × LacksPass core (pass_of pass) × (lsn' ≡ lsn)))

abbrev pub NextTold : Option CoreView → Option CoreView → ℕ → HzUnsaved → HzUnsaved → ℕ → Type 0
NextTold old new from out out' number =
    OnSame old new number (out' ≡ out) (λ core. (number ≡ 0) × TellsUnsaved core from out')

abbrev pub VictimTold : Option CoreView → Option CoreView → ℕ → ℕ → ℕ → ℕ → ℕ → Type 0
VictimTold old new page page' has has' number =
    OnSame old new number ((page' ≡ page) × (has' ≡ has))
    (λ core. (number ≡ 0) × TellsVictim core page' has')

abbrev pub RedoTold : Option CoreView → Option CoreView → ℕ → ℕ → ℕ → ℕ → ℕ → Type 0
RedoTold old new lsn lsn' has has' number =
    OnSame old new number ((lsn' ≡ lsn) × (has' ≡ has))
    (λ core. (number ≡ 0) × TellsRedo core lsn' has')

abbrev pub StatsTold : Option CoreView → Option CoreView → HzStats → HzStats → ℕ → Type 0
StatsTold old new out out' number =
    OnSame old new number (out' ≡ out) (λ core. (number ≡ 0) × TellsStats core out')

-- 1 or 0, which is written only where the page is of the file
abbrev pub resident_or_else : Result Bool Refusal → ℕ → ℕ
resident_or_else (Ok true) old = 1
resident_or_else (Ok false) old = 0
resident_or_else (Err why) old = old

abbrev pub ResidentTold : Option CoreView → Option CoreView → ℕ → ℕ → ℕ → ℕ → Type 0
ResidentTold old new page is is' number =
    OnSame old new number (is' ≡ is)
    (λ core. Told number (λ r. TellsResident core page r × (is' ≡ resident_or_else r is)))
