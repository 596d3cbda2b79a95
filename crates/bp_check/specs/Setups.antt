-- The parameters by which trails are judged.
use Rattle.std.specs.Prelude.{ℕ}
use Rattle.bp_trail.specs.Parameters.{Parameters}
use Rattle.bp_check.specs.declared.setup.Setup.{Setup}

-- the parameters of a pool of this room, which no lawful reply depends on
abbrev pub parameters_of : Setup → ℕ → Parameters
parameters_of setup room = record {
  frames = setup.frames;
  k = setup.settings.k;
  correlated = setup.settings.correlated;
  retained = setup.settings.retained;
  pages = setup.geometry.pages;
  size = setup.geometry.size;
  clients = setup.clients;
  room = room;
}

-- the same of a pool of this room
abbrev pub with_room : Parameters → ℕ → Parameters
with_room c room = record c { room = room }
