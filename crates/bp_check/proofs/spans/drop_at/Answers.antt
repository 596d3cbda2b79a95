use Rattle.std.proofs.Common.{ap, ◌∙◌, set, reverse}
use Rattle.bp_check.specs.Spans.{spans_at}
use Rattle.bp_check.proofs.SpanLemmas.{spans_at-same, spans_at-other}
use Rattle.bp_check.proofs.spans.drop_at.Goals as goal

pub returns-then-at-table-clause-own : goal.returns-then-at-table-clause-own
returns-then-at-table-clause-own c = λ within.
    ap (λ n. spans_at (set c.args.table.now n c.clear.new.self) c.args.page) c.number-at.ensures
    ∙ spans_at-same c.args.table.now c.args.page c.clear.new.self within
    ∙ ap reverse c.clear.ensures.items

pub returns-then-at-table-clause-others : goal.returns-then-at-table-clause-others
returns-then-at-table-clause-others c = λ q apart.
    ap (λ n. spans_at (set c.args.table.now n c.clear.new.self) q) c.number-at.ensures
    ∙ spans_at-other c.args.table.now c.args.page q c.clear.new.self apart
