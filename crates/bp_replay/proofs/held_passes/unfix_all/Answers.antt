-- Each turn gives back the passes of the lowest client that holds any.
use Rattle.std.proofs.Common.{◌≡◌, rules, sym, ◌∙◌, ap, subst, arith, eqb, ◌==◌, List, length}
use Rattle.std.specs.Prelude.{not, filter, Any}
use Rattle.std.proofs.lemmas.Fn.{filter_same}
use Rattle.bp_trail.specs.Event.{Grant}
use Rattle.bp_replay.specs.Rows.{GoingBack}
use Rattle.bp_replay.proofs.ScriptSteps.{going-none, going-join, going-done}
use Rattle.bp_replay.proofs.ClientPasses.{fewer-clients}
use Rattle.bp_replay.proofs.held_passes.unfix_all.Goals as goal

pub loop-client-init : goal.loop-client-init
loop-client-init g c = going-none _ _

pub loop-client-smaller : goal.loop-client-smaller
loop-client-smaller g c =
    let kept : c.retain.new.self.items ≡ filter (λ (g : Grant). not (g.client == c.in-Some.client)) c.loop-client.held.items = filter_same _ (λ g. not (eqb g.client c.in-Some.client)) _ (λ x b f' k. search rules) _ _ c.retain.ensures.filtered in
    let fewer = fewer-clients c.in-Some.client c.loop-client.held.items (subst (λ (gs : List Grant). Any (λ g. g.client ≡ c.in-Some.client) gs) c.deref.ensures.value c.in-Some.ensures.taken) in
    omega (arith, fewer, ap length kept, c.retain.new.self.ok, c.loop-client.held.ok)

pub loop-client-preserved : goal.loop-client-preserved
loop-client-preserved g c =
    let kept : c.retain.new.self.items ≡ filter (λ (g : Grant). not (g.client == c.in-Some.client)) c.loop-client.held.items = filter_same _ (λ g. not (eqb g.client c.in-Some.client)) _ (λ x b f' k. search rules) _ _ c.retain.ensures.filtered in
    let back = subst (λ (gs : List Grant). GoingBack c.loop-client.core gs (filter (λ (g : Grant). not (g.client == c.in-Some.client)) gs) c.unfix_all_of.new.core) c.deref-in-Some.ensures.value c.unfix_all_of.ensures.outcome in
    going-join c.args.core.now c.loop-client.core c.unfix_all_of.new.core c.args.held.now.items c.loop-client.held.items c.retain.new.self.items c.loop-client.invariant
    (subst (λ (gs : List Grant). GoingBack c.loop-client.core c.loop-client.held.items gs c.unfix_all_of.new.core) (sym kept) back)

pub returns : goal.returns
returns g c = record { outcome = going-done _ _ _ c.loop-client.held.items c.loop-client.invariant (sym c.deref.ensures.value ∙ c.in_default.ensures.none) }
