-- What each call answers and leaves, for any client, page, grant and length that C may pass: the
-- core's own outcome, or the refusal of what the core requires exactly where that does not hold.
use Rattle.std.specs.Prelude.{◌≡◌, ◌≢◌, ℕ, ◌+◌, ◌^◌, ◌<◌, ◌≤◌, Bool, true, false, List, [], length}
use Rattle.std.specs.Prelude.{Result, Ok, Err, OnErr, Option, Some, None}
use Rattle.bp_page.specs.declared.refusals.Refusal.{Refusal}
use Rattle.bp_page.specs.declared.refusals.Refusal.TheVariants as refusal
use Rattle.bp_page.specs.declared.refusals.PortFault.{PortFault}
use Rattle.bp_page.specs.Limits.{IsGeometry}
use Rattle.bp_replacer.specs.Limits.{IsWithinLimits}
use Rattle.bp_trail.specs.declared.entries.Call.TheVariants as call
use Rattle.bp_trail.specs.Event.{Grant, grant}
use Rattle.bp_trail.specs.Passes.{reads_out}
use Rattle.bp_trail.specs.Legal.{is_out}
use Rattle.bp_core.specs.declared.passes.Pass.{Pass}
use Rattle.bp_core.specs.declared.passes.Fix.{Fix}
use Rattle.bp_core.specs.declared.passes.Fix.TheVariants as fixing
use Rattle.bp_core.specs.declared.passes.Flush.{Flush}
use Rattle.bp_core.specs.declared.passes.Flush.TheVariants as flushing
use Rattle.bp_core.specs.declared.passes.ReadTicket.{ReadTicket}
use Rattle.bp_core.specs.declared.passes.WriteTicket.{WriteTicket}
use Rattle.bp_trail.specs.declared.ends.Ended.{Ended}
use Rattle.bp_trail.specs.declared.ends.Discarded.{Discarded}
use Rattle.bp_core.specs.declared.passes.EndRefusal.{EndRefusal}
use Rattle.hojzmated_c.specs.EndRefusals.{number_of_end}
use Rattle.bp_core.specs.CoreView.{CoreView, EachPast}
use Rattle.bp_core.specs.Outcomes.{IsFitUpTo, TakesMemory, StepOutcome, TickOutcome, PurgeOutcome}
use Rattle.bp_core.specs.Outcomes.{FixOutcome, FlushOutcome, DiscardOutcome, ReadEndByOutcome}
use Rattle.bp_core.specs.Outcomes.{ReadIntoOutcome}
use Rattle.bp_core.specs.Outcomes.{WriteEndByOutcome, WriteOutcome}
use Rattle.hojzmated_c.specs.declared.forms.HzConfig.{HzConfig}
use Rattle.hojzmated_c.specs.declared.forms.HzGrant.{HzGrant}
use Rattle.hojzmated_c.specs.declared.forms.HzFixed.{HzFixed}
use Rattle.hojzmated_c.specs.Forms.{grant_of, pass_of, write_of, shown, shown_grant, parameters_asked}

-- refused, with nothing changed
abbrev pub IsRefused : {A : Type 0} → Refusal → CoreView → Result A Refusal → CoreView → Type 0
IsRefused why old result new = (result ≡ Err why) × (new ≡ old)

-- P for a client of this core, and for any other BadClient
abbrev pub ForClient : {A : Type 0} → CoreView → ℕ → Result A Refusal → CoreView → Type 0 → Type 0
ForClient old client result new P =
    (client < old.parameters.clients → P)
    × (old.parameters.clients ≤ client → IsRefused refusal.BadClient old result new)

-- P for a page of this core's file, and for any other OutOfPage
abbrev pub ForPage : {A : Type 0} → CoreView → ℕ → Result A Refusal → CoreView → Type 0 → Type 0
ForPage old page result new P =
    (page < old.parameters.pages → P)
    × (old.parameters.pages ≤ page → IsRefused refusal.OutOfPage old result new)

-- P for as many bytes as a page has, and for any other number OutOfPage
abbrev pub ForImage : {A : Type 0} → CoreView → List ℕ → Result A Refusal → CoreView → Type 0
    → Type 0
ForImage old image result new P =
    (length image ≡ old.parameters.size → P)
    × (length image ≢ old.parameters.size → IsRefused refusal.OutOfPage old result new)

-- P for bytes within a page, and for others OutOfPage
abbrev pub ForPart : {A : Type 0} → CoreView → ℕ → ℕ → Result A Refusal → CoreView → Type 0 → Type 0
ForPart old offset len result new P =
    (offset + len ≤ old.parameters.size → P)
    × (old.parameters.size < offset + len → IsRefused refusal.OutOfPage old result new)

-- a core with no entries, as it was asked for, or why not
abbrev pub Opens : HzConfig → Result CoreView Refusal → Type 0
Opens asked (Ok core) =
    IsGeometry asked.pages asked.page_size × IsWithinLimits asked.k asked.correlated asked.retained
    × IsFitUpTo (2 ^ 61) (parameters_asked asked)
    × (core ≡ record { parameters = parameters_asked asked; before = []; past = [] })
Opens asked (Err refusal.BadGeometry) = ¬ IsGeometry asked.pages asked.page_size
Opens asked (Err refusal.BadSettings) =
    IsGeometry asked.pages asked.page_size
    × ¬ (IsWithinLimits asked.k asked.correlated asked.retained
    × IsFitUpTo (2 ^ 61) (parameters_asked asked))
Opens asked (Err refusal.OutOfMemory) =
    IsGeometry asked.pages asked.page_size × IsWithinLimits asked.k asked.correlated asked.retained
    × IsFitUpTo (2 ^ 61) (parameters_asked asked)
Opens asked (Err _) = ⊥

abbrev pub Ticks : {A : Type 0} → CoreView → ℕ → ℕ → Result A Refusal → CoreView → Type 0
Ticks old client n result new =
    ForClient old client result new (TickOutcome old client n result new)

abbrev pub Marks : {A : Type 0} → CoreView → ℕ → ℕ → Result A Refusal → CoreView → Type 0
Marks old client lsn result new =
    ForClient old client result new (StepOutcome old client (call.Mark lsn) result new)

abbrev pub Purges : CoreView → ℕ → Result ℕ Refusal → CoreView → Type 0
Purges old client result new = ForClient old client result new (PurgeOutcome old client result new)

-- a page to write out: the answer, and the image, which goes into the buffer
abbrev pub Sends : WriteTicket → HzFixed → List ℕ → Type 0
Sends ticket fixed image =
    (fixed ≡ record (shown 3 (grant ticket.client ticket.page ticket.serial)) { lsn = ticket.lsn })
    × (image ≡ ticket.image)

-- a page to read, and the one that left its frame for it
abbrev pub ShowsLoad : ReadTicket → Option ℕ → HzFixed → Type 0
ShowsLoad ticket None fixed = fixed ≡ shown 2 (grant ticket.client ticket.page ticket.serial)
ShowsLoad ticket (Some gone) fixed =
    fixed
    ≡ record (shown 2 (grant ticket.client ticket.page ticket.serial)) {
      evicted = gone;
      has_evicted = 1;
    }

-- this answer where the result is good, else the refusal
abbrev pub answer_of : {A B : Type 0} → Result A Refusal → B → Result B Refusal
answer_of (Ok done) answer = Ok answer
answer_of (Err why) answer = Err why

-- what a fix gave, as C sees it: 1 is a pass, 2 a page to read, 3 one to write out first
abbrev pub ShowsFix : Fix → List ℕ → HzFixed → List ℕ → Type 0
ShowsFix (fixing.Hit pass) before fixed image =
    (fixed ≡ shown 1 (grant pass.client pass.page pass.serial)) × (image ≡ before)
ShowsFix (fixing.Load ticket gone) before fixed image =
    ShowsLoad ticket gone fixed × (image ≡ before)
ShowsFix (fixing.WriteFirst ticket) before fixed image = Sends ticket fixed image

abbrev pub FixTold : CoreView → ℕ → ℕ → List ℕ → Result HzFixed Refusal → List ℕ → CoreView → Type 0
FixTold old client page before (Ok fixed) image new =
    (given : Fix) × FixOutcome old client page (Ok given) new × ShowsFix given before fixed image
FixTold old client page before (Err why) image new =
    FixOutcome old client page (Err why) new
    × (why ≡ refusal.OutOfMemory → TakesMemory (call.Fix page) old)

-- a refusal leaves the buffer
abbrev pub Fixes : CoreView → ℕ → ℕ → List ℕ → Result HzFixed Refusal → List ℕ → CoreView → Type 0
Fixes old client page before result image new =
    ForClient old client result new
    (ForPage old page result new
    (ForImage old before result new (FixTold old client page before result image new)))
    × OnErr result (image ≡ before)

-- what a flush gave: 4 is a page with nothing to write, 5 one that is in no frame
abbrev pub ShowsFlush : ℕ → ℕ → Flush → List ℕ → HzFixed → List ℕ → Type 0
ShowsFlush client page flushing.Clean before fixed image =
    (fixed ≡ shown 4 (grant client page 0)) × (image ≡ before)
ShowsFlush client page flushing.Absent before fixed image =
    (fixed ≡ shown 5 (grant client page 0)) × (image ≡ before)
ShowsFlush client page (flushing.WriteFirst ticket) before fixed image = Sends ticket fixed image

abbrev pub FlushTold : CoreView → ℕ → ℕ → List ℕ → Result HzFixed Refusal → List ℕ → CoreView
    → Type 0
FlushTold old client page before (Ok fixed) image new =
    (given : Flush) × FlushOutcome old client page (Ok given) new
    × ShowsFlush client page given before fixed image
FlushTold old client page before (Err why) image new =
    FlushOutcome old client page (Err why) new
    × (why ≡ refusal.OutOfMemory → TakesMemory (call.Flush page) old)

abbrev pub Flushes : CoreView → ℕ → ℕ → List ℕ → Result HzFixed Refusal → List ℕ → CoreView → Type 0
Flushes old client page before result image new =
    ForClient old client result new
    (ForPage old page result new
    (ForImage old before result new (FlushTold old client page before result image new)))
    × OnErr result (image ≡ before)

abbrev pub Discards : CoreView → ℕ → ℕ → Result Discarded Refusal → CoreView → Type 0
Discards old client page result new =
    ForClient old client result new
    (ForPage old page result new (DiscardOutcome old client page result new))

-- a read that went well gives a pass: a ticket that is not out is unknown, and memory may be
-- wanting for the image of one that is
abbrev pub ReadTold : CoreView → HzGrant → List ℕ → Result HzGrant Refusal → CoreView → Type 0
ReadTold old held image (Ok pass) new =
    (given : Pass) × ReadEndByOutcome old (grant_of held) (Ok image) (Ok given) new
    × (pass ≡ shown_grant (grant given.client given.page given.serial))
ReadTold old held image (Err refusal.UnknownTicket) new =
    EachPast old (λ past. is_out (grant_of held) (reads_out past) ≡ false) × (new ≡ old)
ReadTold old held image (Err refusal.OutOfMemory) new =
    EachPast old (λ past. is_out (grant_of held) (reads_out past) ≡ true) × (new ≡ old)
ReadTold old held image (Err _) new = ⊥

abbrev pub EndsRead : CoreView → HzGrant → List ℕ → Result HzGrant Refusal → CoreView → Type 0
EndsRead old held image result new =
    ForImage old image result new (ReadTold old held image result new)

-- the core's outcome of a read that failed, by the number of why
abbrev pub FailsRead : CoreView → HzGrant → PortFault → ℕ → CoreView → Type 0
FailsRead old held fault number new =
    (why : EndRefusal Grant (Result (List ℕ) PortFault)) × (number ≡ number_of_end why)
    × ReadEndByOutcome old (grant_of held) (Err fault) (Err why) new

-- the core's outcome of a write-out that went well, or did not
abbrev pub EndsWrite : CoreView → HzGrant → Bool
    → Result Ended (EndRefusal Grant (Result (Unit {0}) PortFault)) → CoreView → Type 0
EndsWrite old held is_good result new =
    WriteEndByOutcome old (grant_of held) (write_of is_good) result new

-- a part of the image held, by the core's own read; a refusal leaves the bytes, and none is for want
-- of memory
abbrev pub ReadsPart : {A : Type 0} → CoreView → HzGrant → ℕ → List ℕ → Result A Refusal → List ℕ
    → CoreView → Type 0
ReadsPart old held offset before result after new =
    ForPart old offset (length before) result new
    (ReadIntoOutcome old (pass_of held) offset before result after new
    × (result ≢ Err refusal.OutOfMemory))
    × OnErr result (after ≡ before)

abbrev pub WritesPart : {A : Type 0} → CoreView → HzGrant → ℕ → List ℕ → ℕ → Result A Refusal
    → CoreView → Type 0
WritesPart old held offset bytes lsn result new =
    ForPart old offset (length bytes) result new
    (WriteOutcome old (pass_of held) offset bytes lsn result new
    × (result ≢ Err refusal.OutOfMemory))
