-- What C's plain structs stand for.
use Rattle.std.specs.Prelude.{ℕ, Bool, true, false, Result, Ok, Err}
use Rattle.bp_page.specs.declared.refusals.Refusal.{Refusal}
use Rattle.bp_page.specs.declared.refusals.Refusal.TheVariants as refusal
use Rattle.bp_page.specs.declared.refusals.PortFault.{PortFault}
use Rattle.bp_page.specs.declared.refusals.PortFault.TheVariants as fault
use Rattle.bp_trail.specs.Parameters.{Parameters}
use Rattle.bp_trail.specs.Event.{Grant, grant}
use Rattle.bp_core.specs.declared.passes.Pass.{Pass}
use Rattle.bp_core.specs.declared.stats.Stats.{Stats}
use Rattle.hojzmated_c.specs.declared.forms.HzConfig.{HzConfig}
use Rattle.hojzmated_c.specs.declared.forms.HzGrant.{HzGrant}
use Rattle.hojzmated_c.specs.declared.forms.HzFixed.{HzFixed}
use Rattle.hojzmated_c.specs.declared.forms.HzStats.{HzStats}

-- a pass or a ticket is named by what it was given as
abbrev pub grant_of : HzGrant → Grant
grant_of held = grant held.client held.page held.serial

abbrev pub pass_of : HzGrant → Pass
pass_of held = record { client = held.client; page = held.page; serial = held.serial }

abbrev pub shown_grant : Grant → HzGrant
shown_grant g = record { page = g.page; serial = g.serial; client = g.client }

-- an answer of this kind, where no page moves
abbrev pub shown : ℕ → Grant → HzFixed
shown kind g = record { grant = shown_grant g; lsn = 0; evicted = 0; kind = kind; has_evicted = 0 }

-- a refusal has kind 0, and tells the LSN that the log needs
abbrev pub shown_refusal : ℕ → ℕ → Refusal → HzFixed
shown_refusal client page (refusal.NeedLog lsn) =
    record (shown 0 (grant client page 0)) { lsn = lsn }
shown_refusal client page _ = shown 0 (grant client page 0)

-- how an operation of the device went
abbrev pub fault_of : Bool → PortFault
fault_of true = fault.WrongPage
fault_of false = fault.Device

abbrev pub write_of : Bool → Result (Unit {0}) PortFault
write_of true = Ok tt
write_of false = Err fault.Device

-- what a core is asked for
abbrev pub parameters_asked : HzConfig → Parameters
parameters_asked asked = record {
  frames = asked.frames;
  k = asked.k;
  correlated = asked.correlated;
  retained = asked.retained;
  pages = asked.pages;
  size = asked.page_size;
  clients = asked.clients;
  room = asked.room;
}

-- what a core counts
abbrev pub shown_stats : Stats → HzStats
shown_stats s = record {
  hits = s.totals.hits;
  faults = s.totals.faults;
  evictions = s.totals.evictions;
  writes = s.totals.writes;
  failed = s.totals.failed;
  refused = s.totals.refused;
  resident = s.resident;
  pinned = s.pinned;
  unsaved = s.unsaved;
  loading = s.loading;
  writing = s.writing;
  discards = s.totals.discards;
}
