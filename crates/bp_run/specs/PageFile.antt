-- What the word of a page file names.
use Rattle.std.specs.Prelude.{◌≡◌, ◌⊎◌, ℕ, Bool, false, if◌then◌else◌, drop, take, codes, Option, Some, None}
use Rattle.std.specs.Str.{bytes_eq}
use Rattle.clap.specs.Words.{Text}
use Rattle.bp_page.specs.Limits.{IsGeometry}
use Rattle.bp_page.specs.declared.limits.Geometry.{Geometry}
use Rattle.bp_page.specs.declared.slots.Format.{Format}
use Rattle.bp_page.specs.declared.refusals.Refusal.TheVariants.{BadGeometry, BadLength, OutOfMemory}
use Rattle.bp_page.specs.declared.refusals.PortFault.TheVariants.{Device, Memory}
use Rattle.bp_ports.specs.Ports.{has_headers}
use Rattle.bp_ports.specs.declared.files.OpenFault.{OpenFault}
use Rattle.bp_ports.specs.declared.files.OpenFault.TheVariants.{Refused, Port}
use Rattle.bp_trace.specs.Numbers.{number_in}

-- `mem:` with a number after it is so many pages in memory, and any other word is a path
abbrev pub memory_named : Text → Option ℕ
memory_named word = if bytes_eq (take 4 word) (codes "mem:") then number_in (drop 4 word) else None

-- a word that names so many pages in memory stands for as many, and a path for those of its file
abbrev pub HasPages : Option ℕ → ℕ → Type 0
HasPages (Some n) pages = pages ≡ n
HasPages None pages = Unit {0}

-- pages in memory stand without their numbers, and those of a file as its version says
abbrev pub headed_in : Option ℕ → Format → Bool
headed_in (Some n) format = false
headed_in None format = has_headers format

-- what a word names, with pages of so many bytes in a version: the pages in memory, if it names so
-- many, the geometry, and whether pages stand with their numbers
pub record IsNamed (word : Text) (size : ℕ) (format : Format) (memory : Option ℕ)
    (geometry : Geometry) (headed : Bool) : Type 0 where
  pub memory_is : memory ≡ memory_named word
  pub pages : HasPages (memory_named word) geometry.pages
  pub size_is : geometry.size ≡ size
  pub headed_is : headed ≡ headed_in (memory_named word) format

-- ---- why a page file is not opened, or not as often as asked

abbrev pub IsForMemory : OpenFault → Type 0
IsForMemory fault = (fault ≡ Refused OutOfMemory) ⊎ (fault ≡ Port Memory)

-- the file's length is none of whole pages, or the device failed
abbrev pub IsOfFile : OpenFault → Type 0
IsOfFile fault = (fault ≡ Refused BadLength) ⊎ (fault ≡ Port Device)

-- of pages in memory: their number or size is out of its limits; of a path: its file is at fault;
-- and of both: memory is wanted
abbrev pub IsOpenFault : Option ℕ → ℕ → OpenFault → Type 0
IsOpenFault (Some n) size fault =
    IsForMemory fault ⊎ ((fault ≡ Refused BadGeometry) × ¬ IsGeometry n size)
IsOpenFault None size fault = IsForMemory fault ⊎ IsOfFile fault
