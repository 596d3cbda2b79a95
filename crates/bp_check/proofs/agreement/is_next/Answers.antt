use Rattle.std.proofs.Common.{◌≡◌, ◌∙◌, sym, get_or}
use Rattle.std.proofs.lemmas.List.{get_or_default}
use Rattle.bp_check.proofs.agreement.is_next.Goals as goal

pub returns-then-at-said : goal.returns-then-at-said
returns-then-at-said c =
    let below = c.if-at-said.true in
    let same : get_or c.args.said.now c.args.at c.args.e.now ≡ c.index-said-at.result
    = get_or_default c.args.said.now c.args.at c.args.e.now c.index-said-at.result below ∙ sym c.index-said-at.is in
    (λ t. (below, same ∙ c.same_entry.ensures.0 t), λ h. c.same_entry.ensures.1 (sym same ∙ h.1))
