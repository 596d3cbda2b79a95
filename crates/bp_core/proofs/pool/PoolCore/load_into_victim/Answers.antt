use Rattle.std.proofs.Common.{◌∙◌, sym, ap}
use Rattle.bp_replacer.specs.Histories.{place_of}
use Rattle.bp_core.proofs.Placed.{place-kept, tell-blocks}
use Rattle.bp_core.proofs.Uses.{found}
use Rattle.bp_core.proofs.KeepsLoads.{victim-here, victim-apart, victim-held, keeps-replace}
use Rattle.bp_core.proofs.pool.PoolCore.load_into_victim.Goals as goal

pub unwrap-slot-requires : goal.unwrap-slot-requires
unwrap-slot-requires g c = c.find.ensures.here ∙ victim-here _ _ _ c.self.invariant _ c.self.view_is c.args.client c.args.page c.args.gone c.requires.chosen

pub block-block-requires-clause-at : goal.block-block-requires-clause-at
block-block-requires-clause-at g c = (found c.self.inside.state.frames c.args.gone c.find.result c.unwrap-slot.result c.find.ensures.found c.unwrap-slot.ensures).0

pub block-block-requires-clause-blocks : goal.block-block-requires-clause-blocks
block-block-requires-clause-blocks g c = tell-blocks _ _ _ c.self.invariant

pub withdraw-requires : goal.withdraw-requires
withdraw-requires g c = (found c.self.inside.state.frames c.args.gone c.find.result c.unwrap-slot.result c.find.ensures.found c.unwrap-slot.ensures).0

pub vacate-requires-clause-at : goal.vacate-requires-clause-at
vacate-requires-clause-at g c = rw c.withdraw.ensures.same (found c.self.inside.state.frames c.args.gone c.find.result c.unwrap-slot.result c.find.ensures.found c.unwrap-slot.ensures).0

pub unprepare_at-requires-clause-held : goal.unprepare_at-requires-clause-held
unprepare_at-requires-clause-held g c =
    (c.reserve_for_read.ensures.others c.args.gone (victim-apart _ _ _ c.self.invariant _ c.self.view_is c.args.client c.args.page c.args.gone c.requires.chosen c.requires.away)).held
    ∙ victim-held _ _ _ c.self.invariant _ c.self.view_is c.args.client c.args.page c.args.gone c.requires.chosen

pub unprepare_at-requires-clause-place : goal.unprepare_at-requires-clause-place
unprepare_at-requires-clause-place g c =
    let at = found c.self.inside.state.frames c.args.gone c.find.result c.unwrap-slot.result c.find.ensures.found c.unwrap-slot.ensures in
    place-kept _ _ c.reserve_for_read.ensures.places c.args.gone (victim-held _ _ _ c.self.invariant _ c.self.view_is c.args.client c.args.page c.args.gone c.requires.chosen) (unprepare_at-requires-clause-held g c)
    ∙ ap (place_of c.self.inside.state.histories) (sym at.1) ∙ c.block-block.ensures

pub invariant_of-self-2 : goal.invariant_of-self-2
invariant_of-self-2 g c =
    let at = found c.self.inside.state.frames c.args.gone c.find.result c.unwrap-slot.result c.find.ensures.found c.unwrap-slot.ensures in
    let m = c.reserve_for_read.ensures in
    let u = c.unprepare_at.ensures in
    let w = rw at.1 at c.withdraw.ensures in
    rw (c.record.ensures, c.give_read-ticket.ensures.after, c.give_read-ticket.ensures.ticket, c.vacate.ensures, at.1, w.same)
    (keeps-replace _ _ _ c.self.invariant _ c.self.view_is c.args.client c.args.page c.requires.client_in c.requires.page_in c.requires.idle c.requires.away c.requires.room c.reserve_for_read.new.passes m.passes m.more_passes c.in_ok-reserve_for_read.ensures.pass_room c.reserve_for_read.new.reads m.reads c.args.gone c.vacate.new.self.places c.requires.full c.requires.chosen c.requires.saved c.withdraw.new.self.candidates w.limits w.pages w.others w.left c.reserve_for_read.new.histories c.unprepare_at.new.self m.settings m.stamps m.others c.in_ok-reserve_for_read.ensures.held m.places c.in_ok-reserve_for_read.ensures.place u.settings u.stamps u.others u.held u.places)
