-- One part after the other is asked.
use Rattle.std.proofs.Common.{arith, sym, ap, subst, ◌≡◌, ◌∙◌, ◌+◌, ◌<◌, length, slice_set}
use Rattle.bp_shared.specs.Sessions.{SessionValue}
use Rattle.bp_parts.specs.Finding.{FindsInFile, in_file}
use Rattle.bp_parts.specs.Redo.{earlier}
use Rattle.bp_parts.proofs.Setting.{kept_by, own_at}
use Rattle.bp_parts.proofs.Asking.{asks_none, asks_all, asks_more}
use Rattle.bp_parts.proofs.Finding.{finds_more, finds_none, found_in_file}
use Rattle.bp_parts.proofs.pool.PartedPool.next_unsaved_of_all.Goals as goal

pub loop-part-init : goal.loop-part-init
loop-part-init g c = record { count = c.session.invariant.0; own = c.session.invariant.1; asked = asks_none _ _; found = finds_none _ _ _ _ }

pub pool_of-requires : goal.pool_of-requires
pool_of-requires g c =
    let i = c.loop-part.invariant in
    let below : c.loop-part.part < length c.loop-part.session-inside.sessions.items = omega (arith, i.count, c.loop-part-test.true, c.loop-part.auto.part-end, c.len-part-end.ensures, c.self.invariant.0) in
    let own = own_at _ c.loop-part.part c.loop-part.session-inside.sessions.items c.index_mut-mine.result.now _ i.own below c.index_mut-mine.ensures.value in
    omega (arith, own.part_is, i.count, below)

pub loop-part-preserved : goal.loop-part-preserved
loop-part-preserved g c =
    let i = c.loop-part.invariant in
    let parts = g.N.PartCount.parts in
    let same = c.next_unsaved-found.ensures.sees.same in
    let below : c.loop-part.part < length c.loop-part.session-inside.sessions.items = omega (arith, i.count, c.loop-part-test.true, c.loop-part.auto.part-end, c.len-part-end.ensures, c.self.invariant.0) in
    let count : c.len-parts.result ≡ parts = omega (arith, c.len-parts.ensures, c.self.invariant.0) in
    let from = rw count at c.first_from-first.ensures in
    let least : c.nearer_of-least.result ≡ earlier c.loop-part.least (in_file parts c.loop-part.part c.next_unsaved-found.result) = c.nearer_of-least.ensures ∙ ap (earlier c.loop-part.least) (rw count at c.place_in_file.ensures) in
    record {
      count = i.count;
      own = kept_by _ c.loop-part.part c.loop-part.session-inside.sessions.items c.index_mut-mine.result.now c.next_unsaved-found.new.session _ i.own below c.index_mut-mine.ensures.value (ap (λ (s : SessionValue). s.client) same) (ap (λ (s : SessionValue). s.part) same);
      asked = asks_more _ _ _ _ _ c.index_mut-mine.result.now c.next_unsaved-found.new.session _ i.asked below c.index_mut-mine.ensures.value c.next_unsaved-found.ensures.sees;
      found =
          subst (FindsInFile parts (c.loop-part.part + 1) g.N.PartNames.parameters.pages c.args.from (slice_set c.loop-part.session-inside.sessions.items c.loop-part.part c.next_unsaved-found.new.session)) (sym least)
          (finds_more parts c.loop-part.part g.N.PartNames.parameters.pages c.args.from c.first_from-first.result c.loop-part.session-inside.sessions.items c.next_unsaved-found.new.session below from.enough from.least c.loop-part.least c.next_unsaved-found.result i.found
          c.next_unsaved-found.ensures.found);
    }

pub invariant_of-session : goal.invariant_of-session
invariant_of-session g c = (c.loop-part.invariant.count, c.loop-part.invariant.own)

pub returns : goal.returns
returns g c =
    let i = c.loop-part.invariant in
    let all : c.loop-part.part ≡ g.N.PartCount.parts = omega (arith, c.loop-part-test.false, c.loop-part.auto.part-end, c.len-part-end.ensures, c.self.invariant.0) in
    let found = subst (λ n. FindsInFile g.N.PartCount.parts n g.N.PartNames.parameters.pages c.args.from c.loop-part.session-inside.sessions.items c.loop-part.least) all i.found in
    rw (← c.session.view_is) (record {
      client = i.asked.client_is;
      sees = asks_all _ _ _ _ i.asked (omega (arith, all, c.session.invariant.0));
      found = found;
      page_in = found_in_file g.N.PartCount.parts g.N.PartCount.parts g.N.PartNames.parameters.pages c.args.from c.loop-part.session-inside.sessions.items c.loop-part.least (omega arith) found;
    })
