use Rattle.std.proofs.Common.{sym, ap, subst, arith, nat_eq, []}
use Rattle.std.specs.Map.{lookup}
use Rattle.bp_sweep.specs.Dense.{AreDense}
use Rattle.bp_sweep.specs.Dense.AreDense.{none}
use Rattle.bp_sweep.proofs.dense.Gathered.new.Goals as goal

pub returns : goal.returns
returns c = record {
  dense = subst (λ pages. AreDense [] pages []) (sym c.new.ensures.items) none;
  index = record { pages = λ n. ap (λ entries. lookup (nat_eq n) entries) c.new-2.ensures.empty; count = c.new-2.ensures.len; few = omega arith };
  few = omega arith;
}
