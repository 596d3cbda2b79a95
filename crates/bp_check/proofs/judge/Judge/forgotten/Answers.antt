use Rattle.std.proofs.Common.{ap, ◌∙◌, length, List, Vec, Global}
use Rattle.bp_references.specs.Numbers.{count_below}
use Rattle.bp_trail.specs.References as references
use Rattle.bp_check.specs.Setups.{parameters_of}
use Rattle.bp_check.specs.declared.spans.Span.{Span}
use Rattle.bp_check.specs.Spans.{outdated, spans_at}
use Rattle.bp_check.specs.Seen.{Seen}
use Rattle.bp_check.proofs.Choosing.{counts-forgotten}
use Rattle.bp_check.proofs.judge.Judge.forgotten.Goals as goal

pub returns : goal.returns
returns c =
    let i = c.self.invariant in
    let x = c.self.inside in
    c.forgotten.ensures
    ∙ ap (λ (table : List (Vec Span Global)). count_below (λ p. outdated x.setup.settings.retained x.clock x.residents x.reads_out p (spans_at table p)) (length table)) c.deref.ensures.value
    ∙ counts-forgotten (parameters_of x.setup 0) x.told.past x.clock x.residents x.reads_out x.spans.items i.clock i.residents i.reads_out i.one_a_page i.spans
    ∙ ap (λ (t : Seen). references.forgotten t.parameters t.past) c.self.view_is
