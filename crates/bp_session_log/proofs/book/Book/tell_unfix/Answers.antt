-- One pass fewer.
use Rattle.std.proofs.Common.{rules, arith, ◌∙◌}
use Rattle.bp_session_log.proofs.Keeping.{next_past, next_len, next_capacity}
use Rattle.bp_session_log.proofs.Posting.{keeps_unfixed, held_of_list}
use Rattle.bp_session_log.proofs.book.Book.tell_unfix.Goals as goal

pub invariant_of-self-2 : goal.invariant_of-self-2
invariant_of-self-2 g c =
    let told = c.record.ensures in
    let was = c.if-not-take_back.false in (
      keeps_unfixed _ _ _ _ _ _ _ _ _ _ _ _ _ c.args.note c.self.invariant.0 (search rules)
          (next_past _ _ _ _ _ told ∙ search rules)
          (c.trim_front.ensures.out ∙ c.take_back.ensures.out was ∙ search rules)
          (next_len _ _ _ _ _ told) (next_capacity _ _ _ _ _ told) (omega (arith, c.take_back.ensures.more.room, c.trim_front.ensures.more.room)),
      c.self.invariant.1,
    )

pub returns-clause-whose : goal.returns-clause-whose
returns-clause-whose g c =
    let r = c.self.invariant.0 in
    λ t. rw (← c.self.view_is) (held_of_list c.self.inside.client c.args.note (g.K.Keeper.kept c.self.inside.said).past c.self.inside.held.out r.held_are r.own (search rules)).whose
