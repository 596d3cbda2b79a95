-- What the calls tell that add no entry and need no pass.
use Rattle.std.specs.Prelude.{◌≡◌, ℕ, ◌<◌, ◌≤◌, Bool, Result, Ok, Err, Option, Some, None}
use Rattle.bp_page.specs.declared.refusals.Refusal.{Refusal}
use Rattle.bp_page.specs.declared.refusals.Refusal.TheVariants as refusal
use Rattle.bp_trail.specs.Trail.{Trail}
use Rattle.bp_trail.specs.Places.{resident}
use Rattle.bp_trail.specs.PageMap.{next_victim}
use Rattle.bp_trail.specs.Saved.{page_lsn, first_lsn, IsRedoFrom}
use Rattle.bp_core.specs.declared.stats.Stats.{Stats}
use Rattle.bp_core.specs.CoreView.{CoreView, EachPast}
use Rattle.bp_core.specs.Counts.{AreCounts}
use Rattle.bp_core.specs.Unsaved.{FindsUnsaved}
use Rattle.hojzmated_c.specs.declared.forms.HzStats.{HzStats}
use Rattle.hojzmated_c.specs.declared.forms.HzUnsaved.{HzUnsaved}
use Rattle.hojzmated_c.specs.Forms.{shown_stats}

-- an unsaved page: its page LSN, and the least LSN of its writes that are not saved
abbrev pub ShowsUnsaved : Trail → Option ℕ → HzUnsaved → Type 0
ShowsUnsaved past (Some page) out =
    (out.page ≡ page) × (out.lsn ≡ page_lsn past page) × (first_lsn past page ≡ Some out.first_lsn)
    × (out.has_page ≡ 1)
ShowsUnsaved past None out = out ≡ record { page = 0; lsn = 0; first_lsn = 0; has_page = 0 }

-- the first unsaved page from this number on, or none
abbrev pub TellsUnsaved : CoreView → ℕ → HzUnsaved → Type 0
TellsUnsaved core from out =
    EachPast core
    (λ past.
    (found : Option ℕ) × FindsUnsaved core.parameters.pages from past found
    × ShowsUnsaved past found out)

-- a number that may be there: what is written, and whether there is one
abbrev pub ShowsNumber : Option ℕ → ℕ → ℕ → Type 0
ShowsNumber (Some n) out has = (out ≡ n) × (has ≡ 1)
ShowsNumber None out has = (out ≡ 0) × (has ≡ 0)

-- the page whose frame the next fix takes for one that is away
abbrev pub TellsVictim : CoreView → ℕ → ℕ → Type 0
TellsVictim core out has =
    EachPast core (λ past.
    (found : Option ℕ) × (found ≡ next_victim core.parameters past) × ShowsNumber found out has)

-- from where redo has to begin
abbrev pub TellsRedo : CoreView → ℕ → ℕ → Type 0
TellsRedo core out has =
    EachPast core (λ past. (found : Option ℕ) × IsRedoFrom past found × ShowsNumber found out has)

-- what the core counts
abbrev pub TellsStats : CoreView → HzStats → Type 0
TellsStats core out =
    (s : Stats) × EachPast core (λ past. AreCounts past s) × (out ≡ shown_stats s)

-- whether a page of the file is in a frame; of any other page nothing
abbrev pub TellsResident : CoreView → ℕ → Result Bool Refusal → Type 0
TellsResident core page result =
    (page < core.parameters.pages → EachPast core (λ past. result ≡ Ok (resident past page)))
    × (core.parameters.pages ≤ page → result ≡ Err refusal.OutOfPage)
