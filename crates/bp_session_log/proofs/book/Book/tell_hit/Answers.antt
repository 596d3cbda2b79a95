-- One pass more.
use Rattle.std.proofs.Common.{rules, arith, sym, subst, ◌∙◌, ◌≤◌}
use Rattle.bp_session_log.specs.Books.{BookValue}
use Rattle.bp_session_log.proofs.Keeping.{next_past, next_len, next_capacity}
use Rattle.bp_session_log.proofs.Ending.{keeps_hit}
use Rattle.bp_session_log.proofs.book.Book.tell_hit.Goals as goal

pub invariant_of-self : goal.invariant_of-self
invariant_of-self g c =
    let told = c.record.ensures in
    let entries = subst (λ (v : BookValue). 2 ≤ v.entries) (sym c.self.view_is) c.requires.entries in
    let passes = subst (λ (v : BookValue). 1 ≤ v.passes) (sym c.self.view_is) c.requires.passes in (
      keeps_hit _ c.args.page c.note-note.result.serial _ _ _ _ _ _ _ _ _ _ _ _ c.self.invariant.0
          (next_past _ _ _ _ _ told ∙ search rules)
          (c.add.ensures.out ∙ search rules)
          (next_len _ _ _ _ _ told) (next_capacity _ _ _ _ _ told) c.add.ensures.room
          (omega (arith, entries)) (omega (arith, passes)),
      c.self.invariant.1,
    )
