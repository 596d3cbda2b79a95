-- One pass more went back, until none is left.
use Rattle.std.proofs.Common.{refl, ◌∙◌, arith}
use Rattle.std.proofs.lemmas.List.{nil_from_length}
use Rattle.bp_workers.proofs.GoingBack.{nothing_back, back_and_on}
use Rattle.bp_workers.proofs.unfixing.unfix_all.Goals as goal

pub loop-init : goal.loop-init
loop-init g c = record { client = refl; before = refl; seen = refl; back = nothing_back _; fewer = omega arith }

pub loop-preserved : goal.loop-preserved
loop-preserved g c = record {
  client = c.unfix_oldest.ensures.client ∙ c.loop.invariant.client;
  before = c.unfix_oldest.ensures.before ∙ c.loop.invariant.before;
  seen = c.unfix_oldest.ensures.seen ∙ c.loop.invariant.seen;
  back = back_and_on _ _ _ c.loop.invariant.back c.unfix_oldest.ensures.back;
  fewer = omega (arith, c.unfix_oldest.ensures.fewer, c.loop.invariant.fewer);
}

pub returns-clause-all : goal.returns-clause-all
returns-clause-all g c = nil_from_length _ (omega (arith, c.loop.invariant.fewer, c.loop-test.false, c.held_count-end.ensures))
