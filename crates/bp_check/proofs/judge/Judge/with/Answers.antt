use Rattle.std.proofs.Common.{◌≡◌, max, unwrap_or, ◌+◌, ◌++◌, List, Vec, Global, length, take, drop, refl, ap, sym, subst, ◌∙◌, arith}
use Rattle.std.specs.Prelude.{if◌then◌else◌, is_some}
use Rattle.bp_trail.specs.Legal.{IsLawful}
use Rattle.bp_check.specs.declared.spans.Span.{Span}
use Rattle.bp_check.specs.Pages.{PageSeen, seen_at, seen_after}
use Rattle.bp_check.specs.Setups.{parameters_of}
use Rattle.bp_check.specs.Seen.{Seen, KeepsSpans}
use Rattle.bp_check.proofs.Next.{pass-in-file, passes-few, tickets-few, one-at-most, lent-back, keeps-next}
use Rattle.bp_check.proofs.PageSteps.{touched-below}
use Rattle.bp_check.proofs.judge.Judge.with.Goals as goal

pub note_references-requires : goal.note_references-requires
note_references-requires c =
    let p = parameters_of c.self.inside.setup 0 in
    let past = c.self.inside.told.past in
    let lawful : IsLawful p past c.args.e.now = subst (λ (t : Seen). IsLawful t.parameters t.past c.args.e.now) (sym c.self.view_is) c.requires.lawful in
    record { in_file = λ g i. omega (arith, pass-in-file p past c.self.invariant.legal c.args.e.now lawful g i, c.deref_mut.ensures.len, c.self.invariant.one_a_page, c.self.inside.spans.ok.0) }

pub note_pages-requires : goal.note_pages-requires
note_pages-requires c =
    let p = parameters_of c.self.inside.setup 0 in
    let past = c.self.inside.told.past in
    let lawful : IsLawful p past c.args.e.now = subst (λ (t : Seen). IsLawful t.parameters t.past c.args.e.now) (sym c.self.view_is) c.requires.lawful in
    record { there = λ q t. omega (arith, touched-below p past c.args.e.now c.self.invariant.legal lawful q t, c.deref_mut-2.ensures.len, c.self.invariant.state_a_page, c.self.inside.pages.ok.0) }

pub overflow_add-result-3 : goal.overflow_add-result-3
overflow_add-result-3 c =
    let past = c.self.inside.told.past in
    let long : length past ≡ length c.args.self.past = ap (λ (t : Seen). length t.past) c.self.view_is in
    omega (arith, c.requires.few, long, c.self.invariant.passes, passes-few past, c.one_if.ensures, one-at-most c.is_some.result)

pub overflow_add-result-4 : goal.overflow_add-result-4
overflow_add-result-4 c =
    let past = c.self.inside.told.past in
    let long : length past ≡ length c.args.self.past = ap (λ (t : Seen). length t.past) c.self.view_is in
    omega (arith, c.requires.few, long, c.self.invariant.tickets, tickets-few past, c.one_if-2.ensures, one-at-most c.is_some-2.result)

pub invariant_of-result : goal.invariant_of-result
invariant_of-result c =
    let x = c.self.inside in
    let i = c.self.invariant in
    let p = parameters_of x.setup 0 in
    let past = x.told.past in
    let e = c.args.e.now in
    let lawful : IsLawful p past e = subst (λ (t : Seen). IsLawful t.parameters t.past e) (sym c.self.view_is) c.requires.lawful in
    let table : List (Vec Span Global) = take x.spans.len (c.note_references.new.spans ++ drop (length c.note_references.new.spans) x.spans.items) in
    let back : table ≡ c.note_references.new.spans = lent-back x.spans.len c.note_references.new.spans x.spans.items (c.note_references.ensures.count ∙ c.deref_mut.ensures.len) in
    let states : List PageSeen = take x.pages.len (c.note_pages.new.pages ++ drop (length c.note_pages.new.pages) x.pages.items) in
    let noted : states ≡ c.note_pages.new.pages = lent-back x.pages.len c.note_pages.new.pages x.pages.items (c.note_pages.ensures.count ∙ c.deref_mut-2.ensures.len) in
    keeps-next p past c.then.result.past e x.count x.clock x.durable x.passes x.tickets _ _ _ _ _ x.passes_out x.reads_out x.writes_out _ _ _ x.residents _ x.pages.items states x.spans.items table i lawful c.then.ensures
    refl
    (ap (λ n. x.clock + n) (c.unwrap_or.ensures ∙ ap (λ o. unwrap_or o 0) c.ticks.ensures))
    (c.at_least.ensures ∙ ap (λ o. max (unwrap_or o 0) x.durable) c.marked.ensures)
    (ap (λ n. x.passes + n) (c.one_if.ensures ∙ ap (λ b. if b then 1 else 0) (c.is_some.ensures ∙ ap (λ o. is_some o) c.pass_of.ensures)))
    (ap (λ n. x.tickets + n) (c.one_if-2.ensures ∙ ap (λ b. if b then 1 else 0) (c.is_some-2.ensures ∙ ap (λ o. is_some o) c.ticket_given.ensures)))
    c.in_ok-pass_on.ensures.passes c.in_ok-pass_on.ensures.reads c.in_ok-pass_on.ensures.writes c.in_ok-pass_on.ensures.residents
    (λ q. ap (λ (t : List PageSeen). seen_at t q) noted ∙ c.in_ok-note_pages.ensures.each q ∙ ap (λ (t : List PageSeen). seen_after q e (seen_at t q)) c.deref_mut-2.ensures.value)
    (ap length noted ∙ c.note_pages.ensures.count ∙ ap length c.deref_mut-2.ensures.value)
    (subst (λ (t : List (Vec Span Global)). KeepsSpans p past e x.clock x.residents x.reads_out x.spans.items t) (sym back)
    (subst (λ (t : List (Vec Span Global)). KeepsSpans p past e x.clock x.residents x.reads_out t c.note_references.new.spans) c.deref_mut.ensures.value (c.in_ok-note_references.ensures.noted past)))
    (ap length back ∙ c.note_references.ensures.count ∙ ap length c.deref_mut.ensures.value)
