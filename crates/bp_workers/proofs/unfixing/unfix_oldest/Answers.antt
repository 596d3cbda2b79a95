-- The first pass held goes back.
use Rattle.std.proofs.Common.{refl, sym, ◌∙◌, rules}
use Rattle.bp_workers.proofs.GoingBack.{nothing_back, first_back, first_out, not_refused, none_fewer, one_fewer}
use Rattle.bp_workers.proofs.unfixing.unfix_oldest.Goals as goal

pub returns-in_default-clause-back : goal.returns-in_default-clause-back
returns-in_default-clause-back g c = nothing_back _

pub returns-in_default-clause-fewer : goal.returns-in_default-clause-fewer
returns-in_default-clause-fewer g c = none_fewer c.args.session.now.said (sym c.oldest_held.ensures.first ∙ c.in_default.is)

pub unreachable-requires : goal.unreachable-requires
unreachable-requires g c =
    not_refused c.args.session.now c.unfix_draining.new.session c.pass.result c.in-Err._pass c.in-Some.note c.in-Err.field-0-1 (first_out c.args.session.now.said c.in-Some.note (sym c.oldest_held.ensures.first ∙ c.in-Some.is))
    c.pass.ensures.client c.pass.ensures.page c.pass.ensures.serial c.in-Err.ensures.room c.in-Err.ensures.outcome

pub returns-clause-back : goal.returns-clause-back
returns-clause-back g c = first_back c.args.session.now.client _ _ _ c.in-Some.note refl c.oldest_held.ensures.own (sym c.oldest_held.ensures.first ∙ c.in-Some.is) (search rules)

pub returns-clause-fewer : goal.returns-clause-fewer
returns-clause-fewer g c = one_fewer c.args.session.now.said c.unfix_draining.new.session.said c.in-Some.note (sym c.oldest_held.ensures.first ∙ c.in-Some.is) (search rules)
