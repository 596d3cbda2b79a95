use Rattle.std.proofs.Common.{◌≡◌, true, ap, ◌∙◌, Vec, Global, arith}
use Rattle.bp_trail.specs.Places.{resident}
use Rattle.bp_trail.specs.References as references
use Rattle.bp_check.specs.Setups.{parameters_of}
use Rattle.bp_check.specs.declared.spans.Span.{Span}
use Rattle.bp_check.specs.Spans as of
use Rattle.bp_check.specs.Seen.{Seen}
use Rattle.bp_check.proofs.References.{last-spans}
use Rattle.bp_check.proofs.Choosing.{resident-below, read-spans}
use Rattle.bp_check.proofs.judge.Judge.last.Goals as goal

pub index-requires : goal.index-requires
index-requires c =
    let here : resident c.self.inside.told.past c.args.page ≡ true = ap (λ (t : Seen). resident t.past c.args.page) c.self.view_is ∙ c.requires in
    omega (arith, resident-below (parameters_of c.self.inside.setup 0) c.self.inside.told.past c.args.page c.self.invariant.legal here, c.number.ensures, c.self.invariant.one_a_page, c.self.inside.spans.ok.0)

pub returns : goal.returns
returns c =
    let p = parameters_of c.self.inside.setup 0 in
    let past = c.self.inside.told.past in
    let here : resident past c.args.page ≡ true = ap (λ (t : Seen). resident t.past c.args.page) c.self.view_is ∙ c.requires in
    let below = resident-below p past c.args.page c.self.invariant.legal here in
    c.last_of.ensures
    ∙ ap of.last_of (read-spans c.self.inside.spans.items c.number.result c.args.page c.index.result.now c.deref.result.now c.number.ensures (omega (arith, below, c.self.invariant.one_a_page))
    (c.deref.ensures.value ∙ ap (λ (v : Vec Span Global). v.items) c.index.ensures) ∙ c.self.invariant.spans c.args.page below)
    ∙ last-spans p.correlated (references.references p past c.args.page)
    ∙ ap (λ (t : Seen). references.last t.parameters t.past c.args.page) c.self.view_is
