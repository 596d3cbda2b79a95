-- Each part's mark was raised, and the greatest LSN with them.
use Rattle.std.proofs.Common.{sym, subst, ◌∙◌}
use Rattle.bp_parts.specs.Logs.{AreEndsOf}
use Rattle.bp_parts.proofs.log_writer.PartedLog.raise.Goals as goal

pub invariant_of-self : goal.invariant_of-self
invariant_of-self g c = (
  c.raise_each.ensures.same ∙ c.self.invariant.0,
  subst (λ n. AreEndsOf g.N.PartNames.mark n c.raise_each.new.ends.items) (sym c.max-self-inside.ensures) c.raise_each.ensures.raised,
)
