use Rattle.std.proofs.Common.{true, None, sym, ◌∙◌, ap}
use Rattle.bp_trail.specs.declared.entries.Call.TheVariants.{ReadEnd}
use Rattle.bp_trail.specs.Event.{grant}
use Rattle.bp_trail.specs.Ends.{read_failure}
use Rattle.bp_keeper.specs.Kept.{with_next}
use Rattle.bp_core.proofs.Keeps.{adds, read-seen}
use Rattle.bp_core.proofs.KeepsLoads.{held-now}
use Rattle.bp_core.proofs.FailedReads.{keeps-failed}
use Rattle.bp_core.proofs.pool.PoolCore.fail_load.Goals as goal

pub unprepare-requires : goal.unprepare-requires
unprepare-requires g c = held-now _ _ _ c.self.invariant _ c.self.view_is c.args.ticket.client c.args.ticket.page c.args.ticket.serial (read-seen _ _ _ c.self.invariant _ c.self.view_is (grant c.args.ticket.client c.args.ticket.page c.args.ticket.serial) true (sym c.take_back.ensures.was ∙ c.if-not-take_back.false))

pub invariant_of-self-2 : goal.invariant_of-self-2
invariant_of-self-2 g c =
    let u = c.unprepare.ensures in
    rw (c.record.ensures, c.reply_of_read.ensures) (keeps-failed _ _ _ c.self.invariant _ c.self.view_is c.args.ticket.client c.args.ticket.page c.args.ticket.serial (read-seen _ _ _ c.self.invariant _ c.self.view_is (grant c.args.ticket.client c.args.ticket.page c.args.ticket.serial) true (sym c.take_back.ensures.was ∙ c.if-not-take_back.false)) c.args.fault c.take_back.new.self (c.take_back.ensures.out c.if-not-take_back.false) c.take_back.ensures.more c.unprepare.new.self u.settings u.stamps u.others u.held u.places)

pub returns : goal.returns
returns g c = (
  c.refusal_of_read.ensures,
  read-seen _ _ _ c.self.invariant _ c.self.view_is (grant c.args.ticket.client c.args.ticket.page c.args.ticket.serial) true (sym c.take_back.ensures.was ∙ c.if-not-take_back.false),
  adds _ _ _ c.self.invariant _ c.self.view_is c.args.ticket.client (ReadEnd c.args.ticket.serial c.args.ticket.page None) (read_failure c.args.fault) _ _
      (c.record.ensures ∙ ap (with_next (g.K.Keeper.kept c.self.inside.trail) c.args.ticket.client (ReadEnd c.args.ticket.serial c.args.ticket.page None)) c.reply_of_read.ensures) (invariant_of-self-2 g c),
)
