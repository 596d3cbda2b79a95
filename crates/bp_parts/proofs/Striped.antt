-- Work through a port to a stripe leaves it as many stripes.
use Rattle.std.proofs.Common.{◌≡◌, ap, ◌∙◌, ℕ, List, [], ◌∷◌, ◌++◌}
use Rattle.bp_trail.specs.declared.entries.Call.{Call}
use Rattle.bp_trail.specs.declared.entries.Reply.{Reply}
use Rattle.bp_trail.specs.declared.entries.Call.TheVariants as call
use Rattle.bp_trail.specs.Trail.{Trail}
use Rattle.bp_core.specs.Work.{Reads, Writes, Works, WorksThrough, MadeBlank}
use Rattle.bp_ports.specs.Files.{Transfer}
use Rattle.bp_ports.specs.Stripes.{StripedView, ReadsStriped, WritesStriped}
use Rattle.bp_shared.specs.Sessions.{SessionValue, DoesWorkSaid, WithSomeLsn}
use Rattle.bp_shared.specs.Writing.{WithLsnSeen}

module _ {S : Type 0} (reads : Reads (StripedView S)) (writes : Writes (StripedView S))
    (on_read : (port after : StripedView S) (page : ℕ) (found : _) → reads port page found after → after.parts ≡ port.parts)
    (on_write : (port after : StripedView S) (page : ℕ) (image : _) (lsn : ℕ) (written : _) → writes port page image lsn written after → after.parts ≡ port.parts) where
  one : (past : Trail) (c : Call) (reply : Reply) (port after : StripedView S) → Works reads writes past c reply port after → after.parts ≡ port.parts
  one past (call.ReadEnd ticket page image) reply port after work = on_read port after page _ work.gave
  one past (call.WriteEnd ticket page good) reply port after work = on_write port after page _ _ _ work.gave
  one past _ reply port after same = ap (λ p. p.parts) same

  pub through : (past piece : Trail) (port after : StripedView S) → WorksThrough reads writes past piece port after → after.parts ≡ port.parts
  through past [] port after same = ap (λ p. p.parts) same
  through past (e ∷ older) port after (mid, before, last) = one (older ++ past) e.call e.reply mid after last ∙ through past older port mid before

-- a read or a write of a stripe, and a page that is made in place of a read
pub read_stays : {S : Type 0} (reads : Transfer S) (port after : StripedView S) (page : ℕ) (found : _) → ReadsStriped reads port page found after → after.parts ≡ port.parts
read_stays reads port after page found work = work.0.0

pub blank_stays : {S : Type 0} (port after : StripedView S) (page : ℕ) (found : _) → MadeBlank port.file.device.size port page found after → after.parts ≡ port.parts
blank_stays port after page found work = ap (λ p. p.parts) work.1

pub write_stays : {S : Type 0} (writes : Transfer S) (old new : SessionValue) (port after : StripedView S) (page : ℕ) (image : List ℕ) (lsn : ℕ) (written : _)
    → WithSomeLsn (WithLsnSeen old new (WritesStriped writes)) port page image lsn written after → after.parts ≡ port.parts
write_stays writes old new port after page image lsn written work = work.1.1.0.0

-- so a port to a stripe has as many stripes after the work of a call
pub parts_stay : {S : Type 0} (reads writes : Transfer S) (old new : SessionValue) (said after : Trail) (port kept : StripedView S) → DoesWorkSaid (ReadsStriped reads) (WithLsnSeen old new (WritesStriped writes)) said after port kept → kept.parts ≡ port.parts
parts_stay reads writes old new said after port kept w =
    through (ReadsStriped reads) (WithSomeLsn (WithLsnSeen old new (WritesStriped writes))) (read_stays reads) (write_stays writes old new) said w.piece port kept w.through

pub new_parts_stay : {S : Type 0} (writes : Transfer S) (old new : SessionValue) (said after : Trail) (port kept : StripedView S) → DoesWorkSaid (λ (at : StripedView S). MadeBlank at.file.device.size at) (WithLsnSeen old new (WritesStriped writes)) said after port kept → kept.parts ≡ port.parts
new_parts_stay {S} writes old new said after port kept w =
    through (λ (at : StripedView S). MadeBlank at.file.device.size at) (WithSomeLsn (WithLsnSeen old new (WritesStriped writes))) blank_stays (write_stays writes old new) said w.piece port kept w.through
