use Rattle.std.proofs.Common.{ap, sym, ◌∙◌, set, get_or, reverse}
use Rattle.bp_check.specs.Spans.{with_reference, spans_at}
use Rattle.bp_check.proofs.SpanLemmas.{spans_at-same, spans_at-other, spans_at-get}
use Rattle.bp_check.proofs.spans.refer_at.Goals as goal

pub returns-clause-own : goal.returns-clause-own
returns-clause-own c =
    ap (λ n. spans_at (set c.args.table.now n c.refer.new.known) c.args.page) c.number.ensures
    ∙ spans_at-same c.args.table.now c.args.page c.refer.new.known c.requires
    ∙ c.in_ok-refer.ensures
    ∙ ap (with_reference c.args.correlated c.args.by_hit c.args.now)
    (ap (λ n. reverse (get_or c.args.table.now n c.index-table-number.result).items) c.number.ensures ∙ sym (spans_at-get c.args.table.now c.args.page c.index-table-number.result c.requires))

pub returns-clause-others : goal.returns-clause-others
returns-clause-others c = λ q apart.
    ap (λ n. spans_at (set c.args.table.now n c.refer.new.known) q) c.number.ensures
    ∙ spans_at-other c.args.table.now c.args.page q c.refer.new.known apart
