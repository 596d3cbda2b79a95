use Rattle.std.proofs.Common.{◌==◌}
use Rattle.bp_check.proofs.Reversed.{some-found}
use Rattle.bp_check.proofs.residents.Residents.has.Goals as goal

pub returns-then-eq : goal.returns-then-eq
returns-then-eq c = some-found (λ q. q == c.args.page) c.self.inside.pages.items c.deref-resident-items.result.now c.args.self.now c.loop-resident.resident-index c.resident-item.result c.resident-item.result
    c.self.view_is c.deref-resident-items.ensures.value c.loop-resident-test.true c.resident-item.is c.if-eq.ensures
