use Rattle.std.proofs.Common.{arith}
use Rattle.bp_core.proofs.KeepsLoads.{free-frame, keeps-load}
use Rattle.bp_core.proofs.pool.PoolCore.load_into_free_frame.Goals as goal

pub make_spare_frame-requires-clause-room : goal.make_spare_frame-requires-clause-room
make_spare_frame-requires-clause-room g c =
    omega (arith, free-frame _ _ _ c.self.invariant _ c.self.view_is c.args.client c.args.page c.requires.frame, c.len-reads.ensures, c.self.invariant.frame_room.capacity_is)

pub invariant_of-self-2 : goal.invariant_of-self-2
invariant_of-self-2 g c =
    let m = c.reserve_for_read.ensures in
    let p = c.make_spare_frame.ensures in
    rw (c.record.ensures, c.give_read-ticket.ensures.after, c.give_read-ticket.ensures.ticket)
    (keeps-load _ _ _ c.self.invariant _ c.self.view_is c.args.client c.args.page c.requires.client_in c.requires.page_in c.requires.idle c.requires.away c.requires.room c.reserve_for_read.new.passes m.passes m.more_passes c.in_ok-reserve_for_read.ensures.pass_room c.reserve_for_read.new.reads m.reads c.requires.frame c.make_spare_frame.new.self p.frames p.size p.capacity p.pages p.candidates (omega (arith, c.in_ok-make_spare_frame.ensures.enough, c.len-reads.ensures)) c.reserve_for_read.new.histories m.settings m.stamps m.others c.in_ok-reserve_for_read.ensures.held m.places c.in_ok-reserve_for_read.ensures.place)
