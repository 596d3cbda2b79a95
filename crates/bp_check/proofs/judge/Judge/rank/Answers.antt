use Rattle.std.proofs.Common.{◌≡◌, ◌<◌, ℕ, true, ap, ◌∙◌, length, reverse, Vec, Global, arith}
use Rattle.bp_references.specs.Burst.{bursts}
use Rattle.bp_trail.specs.Places.{resident}
use Rattle.bp_trail.specs.References as references
use Rattle.bp_trail.specs.Victim as of
use Rattle.bp_check.specs.Setups.{parameters_of}
use Rattle.bp_check.specs.declared.spans.Span.{Span}
use Rattle.bp_check.specs.Spans as spans
use Rattle.bp_check.specs.Seen.{Seen}
use Rattle.bp_check.proofs.References.{last-spans}
use Rattle.bp_check.proofs.Choosing.{resident-below, read-spans, stamp-at}
use Rattle.bp_check.proofs.judge.Judge.rank.Goals as goal

pub index-known-requires : goal.index-known-requires
index-known-requires c =
    let here : resident c.self.inside.told.past c.args.page ≡ true = ap (λ (t : Seen). resident t.past c.args.page) c.self.view_is ∙ c.requires in
    omega (arith, resident-below (parameters_of c.self.inside.setup 0) c.self.inside.told.past c.args.page c.self.invariant.legal here, c.number.ensures, c.self.invariant.one_a_page, c.self.inside.spans.ok.0)

pub returns : goal.returns
returns c =
    let p = parameters_of c.self.inside.setup 0 in
    let past = c.self.inside.told.past in
    let refs = references.references p past c.args.page in
    let here : resident past c.args.page ≡ true = ap (λ (t : Seen). resident t.past c.args.page) c.self.view_is ∙ c.requires in
    let below = resident-below p past c.args.page c.self.invariant.legal here in
    let within : c.args.page < length c.self.inside.spans.items = omega (arith, below, c.self.invariant.one_a_page) in
    let known : reverse c.deref.result.now ≡ spans.spans p.correlated refs =
    read-spans c.self.inside.spans.items c.number.result c.args.page c.index-known.result.now c.deref.result.now c.number.ensures within
    (c.deref.ensures.value ∙ ap (λ (v : Vec Span Global). v.items) c.index-known.ensures) ∙ c.self.invariant.spans c.args.page below in
    let again : reverse c.deref-2.result.now ≡ spans.spans p.correlated refs =
    read-spans c.self.inside.spans.items c.number.result c.args.page c.index-known.result.now c.deref-2.result.now c.number.ensures within
    (c.deref-2.ensures.value ∙ ap (λ (v : Vec Span Global). v.items) c.index-known.ensures) ∙ c.self.invariant.spans c.args.page below in
    let at : ℕ → ℕ → of.Rank = λ s l. record { stamp = s; last = l; page = c.args.page } in
    ap (λ s. at s c.last_of.result) (c.burst_stamp.ensures (bursts p.correlated refs) known ∙ stamp-at p.k p.correlated refs c.self.inside.setup.settings.in_limits.at_least_one)
    ∙ ap (λ l. at (references.hist p past c.args.page p.k) l) (c.last_of.ensures ∙ ap spans.last_of again ∙ last-spans p.correlated refs)
    ∙ ap (λ (t : Seen). of.rank t.parameters t.past c.args.page) c.self.view_is
