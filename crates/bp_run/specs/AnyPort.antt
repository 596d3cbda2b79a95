-- The page file of a run and the ports to it, in memory or on disk.
use Rattle.std.specs.Prelude.{◌≡◌, ℕ, Bool, false, List, length, All, Option, Some, None, Result, Ok, IfOk, Vec, string_bytes}
use Rattle.std.specs.declared.alloc.Global.{Global}
use Rattle.std.specs.declared.fs.File.{File as StdFile}
use Rattle.clap.specs.Words.{Text}
use Rattle.bp_page.specs.declared.refusals.PortFault.{PortFault}
use Rattle.bp_ports.specs.Ports.{ReadsPage, WritesPage}
use Rattle.bp_ports.specs.Files.{ReadsFile, WritesFile, SyncsFile}
use Rattle.bp_page.specs.declared.limits.Geometry.{Geometry}
use Rattle.bp_page.specs.declared.slots.Format.{Format}
use Rattle.bp_ports.specs.declared.files.OpenFault.{OpenFault}
use Rattle.bp_run.specs.Ways.{Ways}
use Rattle.bp_run.specs.declared.page_files.AnyPort.{AnyPort}
use Rattle.bp_run.specs.declared.page_files.AnyPort.TheVariants.{Mem, File}
use Rattle.bp_run.specs.declared.open_pages.OpenPages.{OpenPages}
use Rattle.bp_run.specs.declared.open_pages.OpenPages.TheVariants as pages

abbrev pub device_of : AnyPort → Geometry
device_of (Mem port) = port.device
device_of (File port) = port.device

abbrev pub failures_of_any : AnyPort → ℕ
failures_of_any (Mem port) = port.failures
failures_of_any (File port) = port.failures

abbrev pub is_headed_any : AnyPort → Bool
is_headed_any (Mem port) = port.headed
is_headed_any (File port) = port.headed

-- a read, a write and a sync, as the port that it is does them
abbrev pub ReadsAny : AnyPort → ℕ → Result (List ℕ) PortFault → AnyPort → Type 0
ReadsAny (Mem port) page found (Mem after) = ReadsPage port page found after
ReadsAny (File port) page found (File after) = ReadsFile port page found after
ReadsAny port page found after = ⊥

abbrev pub WritesAny : AnyPort → ℕ → List ℕ → ℕ → Result (Unit {0}) PortFault → AnyPort → Type 0
WritesAny (Mem port) page image lsn written (Mem after) = WritesPage port page image written after
WritesAny (File port) page image lsn written (File after) =
    WritesFile port page image lsn written after
WritesAny port page image lsn written after = ⊥

abbrev pub SyncsAny : AnyPort → Result (Unit {0}) PortFault → AnyPort → Type 0
SyncsAny (Mem port) synced (Mem after) = (synced ≡ Ok tt) × (after ≡ port)
SyncsAny (File port) synced (File after) = SyncsFile port synced after
SyncsAny port synced after = ⊥

-- a port to this device, whose pages stand with their numbers or not
abbrev pub IsPortTo : Geometry → Bool → AnyPort → Type 0
IsPortTo g headed port = (device_of port ≡ g) × (is_headed_any port ≡ headed)

-- so many such ports
pub record AreOf (g : Geometry) (headed : Bool) (clients : ℕ) (ports : List AnyPort) : Type 0 where
  pub count : length ports ≡ clients
  pub alike : All (IsPortTo g headed) ports

-- ---- a page file that is open

abbrev pub memory_of : OpenPages → Option ℕ
memory_of (pages.Mem memory) = Some memory.geometry.pages
memory_of (pages.File file) = None

abbrev pub geometry_of_pages : OpenPages → Geometry
geometry_of_pages (pages.Mem memory) = memory.geometry
geometry_of_pages (pages.File file) = file.first.device

abbrev pub is_headed_pages : OpenPages → Bool
is_headed_pages (pages.Mem memory) = false
is_headed_pages (pages.File file) = file.first.headed

-- one of a path keeps the path and the version, by which it is opened again
abbrev pub OpensPages : Text → ℕ → Format → Result OpenPages OpenFault → Type 0
OpensPages word size format (Ok (pages.File file)) =
    (string_bytes file.path ≡ word) × (file.format ≡ format)
OpensPages word size format _ = Unit {0}

abbrev pub ConnectsPages : OpenPages → ℕ → Result (Vec AnyPort Global) OpenFault → Type 0
ConnectsPages file clients ports =
    IfOk ports (λ ports. AreOf (geometry_of_pages file) (is_headed_pages file) clients ports.items)

-- how `PageFiles` opens page files and traces; what stands in files, std does not say
abbrev pub pages_ways : Ways OpenPages AnyPort StdFile
pages_ways = record {
  opens = OpensPages;
  memory = memory_of;
  geometry = geometry_of_pages;
  headed = is_headed_pages;
  connects = ConnectsPages;
  traces = λ path found. Unit {0};
  saves = λ path bytes written. Unit {0};
}
