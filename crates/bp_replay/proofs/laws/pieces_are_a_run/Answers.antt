-- Piece after piece.
use Rattle.std.proofs.Common.{subst, length, map}
use Rattle.bp_trail.specs.Legal.{Legal}
use Rattle.bp_replay.specs.Scripts.{list_of}
use Rattle.bp_replay.specs.ScriptRuns.{joined_lists}
use Rattle.bp_replay.proofs.Pieces.{whole, theirs}
use Rattle.bp_replay.proofs.Ruling.{rules-kept, marks-by-rows}
use Rattle.bp_replay.proofs.laws.pieces_are_a_run.Goals as goal

pub returns-clause-whole : goal.returns-clause-whole
returns-clause-whole g a pieces = whole pieces

pub returns-clause-legal : goal.returns-clause-legal
returns-clause-legal g a c pieces legal = subst (Legal c) (whole pieces) legal

pub returns-clause-theirs : goal.returns-clause-theirs
returns-clause-theirs g a clients trail said are = theirs clients trail said are

pub returns-clause-run : goal.returns-clause-run
returns-clause-run g a c scripts ports left trail said refused some legal are known works follows cut within = record {
  legal = subst (Legal c) (whole trail) legal;
  rules = rules-kept c (joined_lists trail) (subst (Legal c) (whole trail) legal);
  theirs = theirs (length scripts) trail said are;
  follows = follows;
  known = known;
  works = works;
  within_log = record { cut = cut; within = within; by_rows = marks-by-rows (list_of 0 scripts) (joined_lists trail) (list_of 0 (map joined_lists said)) (list_of 0 follows.refusals) cut ((theirs (length scripts) trail said are).each 0 some) within };
}
