-- What a word of a page file names, and why it is not opened.
use Rattle.std.proofs.Common.{◌≡◌, ◌∙◌, ◌⊎◌, inl, inr, ap, subst, ℕ, Bool, false, Option, Some, None}
use Rattle.clap.specs.Words.{Text}
use Rattle.bp_page.specs.Limits.{IsGeometry}
use Rattle.bp_page.specs.declared.limits.Geometry.{Geometry}
use Rattle.bp_page.specs.declared.refusals.Refusal.TheVariants.{BadGeometry, BadLength}
use Rattle.bp_page.specs.declared.refusals.PortFault.TheVariants.{Device, Memory}
use Rattle.bp_page.specs.declared.slots.Format.{Format}
use Rattle.bp_ports.specs.Ports.{has_headers}
use Rattle.bp_ports.specs.declared.files.OpenFault.{OpenFault}
use Rattle.bp_ports.specs.declared.files.OpenFault.TheVariants.{Refused, Port}
use Rattle.bp_run.specs.PageFile.{HasPages, IsForMemory, IsNamed, IsOfFile, IsOpenFault, headed_in, memory_named}

-- so many pages in memory
pub named_in_memory : (word : Text) (size : ℕ) (format : Format) (g : Geometry) (n : ℕ) → Some n ≡ memory_named word → g.pages ≡ n → g.size ≡ size → IsNamed word size format (Some g.pages) g false
named_in_memory word size format g n named pages size_is = record {
  memory_is = ap Some pages ∙ named;
  pages = has (memory_named word) named;
  size_is = size_is;
  headed_is = ap (λ (m : Option ℕ). headed_in m format) named;
}
  where
    has : (m : Option ℕ) → Some n ≡ m → HasPages m g.pages
    has None is = tt
    has (Some k) is = let same : n ≡ k = cc in pages ∙ same

pub named_at_path : (word : Text) (size : ℕ) (format : Format) (g : Geometry) (h : Bool) → None ≡ memory_named word → g.size ≡ size → h ≡ has_headers format → IsNamed word size format None g h
named_at_path word size format g h named size_is headed = record {
  memory_is = named;
  pages = has (memory_named word) named;
  size_is = size_is;
  headed_is = headed ∙ ap (λ (m : Option ℕ). headed_in m format) named;
}
  where
    has : (m : Option ℕ) → None ≡ m → HasPages m g.pages
    has None is = tt
    has (Some k) is = cc

pub fault_in_memory : (word : Text) (size n : ℕ) (fault : OpenFault) → Some n ≡ memory_named word → IsForMemory fault ⊎ ((fault ≡ Refused BadGeometry) × ¬ IsGeometry n size) → IsOpenFault (memory_named word) size fault
fault_in_memory word size n fault named why = subst (λ (m : Option ℕ). IsOpenFault m size fault) named why

pub fault_at_path : (word : Text) (size : ℕ) (fault : OpenFault) → None ≡ memory_named word → IsForMemory fault ⊎ IsOfFile fault → IsOpenFault (memory_named word) size fault
fault_at_path word size fault named why = subst (λ (m : Option ℕ). IsOpenFault m size fault) named why

-- why a file at a path is not opened
pub of_open : (fault : OpenFault) → (fault ≡ Refused BadLength) ⊎ ((fault ≡ Port Device) ⊎ (fault ≡ Port Memory)) → IsForMemory fault ⊎ IsOfFile fault
of_open fault (inl is) = inr (inl is)
of_open fault (inr (inl is)) = inr (inr is)
of_open fault (inr (inr is)) = inl (inr is)
