-- Three entries, and the passes held as they were.
use Rattle.std.proofs.Common.{rules, arith, sym, subst, ◌∙◌, ◌≤◌}
use Rattle.bp_session_log.specs.Books.{BookValue}
use Rattle.bp_session_log.proofs.Keeping.{next_len, next_capacity}
use Rattle.bp_session_log.proofs.Reading.{keeps_looked}
use Rattle.bp_session_log.proofs.book.Book.tell_look.Goals as goal

pub invariant_of-self : goal.invariant_of-self
invariant_of-self g c =
    let hit = c.record.ensures in
    let read = c.record_read.ensures in
    let unfix = c.record-2.ensures in
    let entries = subst (λ (v : BookValue). 3 ≤ v.entries) (sym c.self.view_is) (omega (arith, c.requires.entries, c.copy_of-copy.ensures.entries)) in (
      keeps_looked _ c.args.page c.args.serial c.args.image.now _ _ _ _ _ _ _ _ _ _ _ _ c.self.invariant.0
          (search rules)
          (c.pass_by.ensures.out)
          (omega (arith, next_len _ _ _ _ _ hit, next_len _ _ _ _ _ read, next_len _ _ _ _ _ unfix))
          (next_capacity _ _ _ _ _ unfix ∙ next_capacity _ _ _ _ _ read ∙ next_capacity _ _ _ _ _ hit)
          c.pass_by.ensures.more.room
          (omega (arith, entries)),
      c.self.invariant.1,
    )
