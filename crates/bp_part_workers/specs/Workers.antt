-- What a worker over a pool in parts says of its work, and the port that it is given.
use Rattle.std.specs.Prelude.{◌≡◌, ℕ, List}
use Rattle.bp_trail.specs.Parameters.{Parameters}
use Rattle.bp_ports.specs.Stripes.{StripedView}
use Rattle.bp_shared.specs.Sessions.{SessionValue}

-- by a client's number, its worker and port before the work, both after it, and its sessions after
-- it, one in each part
abbrev pub Leaving : Type 0 → Type 0 → Type 1
Leaving W S = ℕ → W → StripedView S → W → StripedView S → List SessionValue → Type 0

-- a port to as many stripes as there are parts, each with the pages of one
pub record IsPortTo {S : Type 0} (parts : ℕ) (p : Parameters) (port : StripedView S)
    : Type 0 where
  pub stripes : port.parts ≡ parts
  pub pages : port.file.device.pages ≡ p.pages
  pub size : port.file.device.size ≡ p.size
