-- One part after the other is asked.
use Rattle.std.proofs.Common.{arith, ap, ◌≡◌, ◌<◌, length}
use Rattle.bp_shared.specs.Sessions.{SessionValue}
use Rattle.bp_parts.proofs.Setting.{kept_by, own_at}
use Rattle.bp_parts.proofs.Asking.{asks_none, asks_all, asks_more}
use Rattle.bp_parts.proofs.pool.PartedPool.settle.Goals as goal

pub loop-part-init : goal.loop-part-init
loop-part-init g c = record { count = c.session.invariant.0; own = c.session.invariant.1; asked = asks_none _ _ }

pub pool_of-requires : goal.pool_of-requires
pool_of-requires g c =
    let i = c.loop-part.invariant in
    let below : c.loop-part.part < length c.loop-part.session-inside.sessions.items = omega (arith, i.count, c.loop-part-test.true, c.loop-part.auto.part-end, c.len-part-end.ensures, c.self.invariant.0) in
    let own = own_at _ c.loop-part.part c.loop-part.session-inside.sessions.items c.index_mut-mine.result.now _ i.own below c.index_mut-mine.ensures.value in
    omega (arith, own.part_is, i.count, below)

pub loop-part-preserved : goal.loop-part-preserved
loop-part-preserved g c =
    let i = c.loop-part.invariant in
    let same = c.settle.ensures.sees.same in
    let below : c.loop-part.part < length c.loop-part.session-inside.sessions.items = omega (arith, i.count, c.loop-part-test.true, c.loop-part.auto.part-end, c.len-part-end.ensures, c.self.invariant.0) in
    record {
      count = i.count;
      own = kept_by _ c.loop-part.part c.loop-part.session-inside.sessions.items c.index_mut-mine.result.now c.settle.new.session _ i.own below c.index_mut-mine.ensures.value (ap (λ (s : SessionValue). s.client) same) (ap (λ (s : SessionValue). s.part) same);
      asked = asks_more _ _ _ _ _ c.index_mut-mine.result.now c.settle.new.session _ i.asked below c.index_mut-mine.ensures.value c.settle.ensures.sees;
    }

pub invariant_of-session : goal.invariant_of-session
invariant_of-session g c = (c.loop-part.invariant.count, c.loop-part.invariant.own)

pub returns : goal.returns
returns g c =
    let i = c.loop-part.invariant in
    let all : c.loop-part.part ≡ g.N.PartCount.parts = omega (arith, c.loop-part-test.false, c.loop-part.auto.part-end, c.len-part-end.ensures, c.self.invariant.0) in
    rw (← c.session.view_is) (record {
      client = i.asked.client_is;
      sees = asks_all _ _ _ _ i.asked (omega (arith, all, c.session.invariant.0));
    })
