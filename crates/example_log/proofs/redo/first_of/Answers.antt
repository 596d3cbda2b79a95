use Rattle.std.proofs.Common.{◌∙◌, sym}
use Rattle.example_log.proofs.Firsts.{found, passed}
use Rattle.example_log.proofs.redo.first_of.Goals as goal

pub returns-then-is_wanted : goal.returns-then-is_wanted
returns-then-is_wanted c =
    found c.args.from c.args.page c.args.log.now c.loop-change.change-index c.change-item.result c.loop-change-test.true c.change-item.is c.loop-change.invariant (sym c.if-is_wanted.ensures)

pub loop-change-preserved : goal.loop-change-preserved
loop-change-preserved c =
    passed c.args.from c.args.page c.args.log.now c.loop-change.change-index c.change-item.result c.loop-change-test.true c.change-item.is c.loop-change.invariant (sym c.is_wanted.ensures ∙ c.if-is_wanted.false)
