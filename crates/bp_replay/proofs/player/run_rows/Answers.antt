-- Each row adds its piece to those of the rows before it.
use Rattle.std.proofs.Common.{sym, ◌∙◌, ap, subst, ◌∷◌, [], length, take, arith, reverse}
use Rattle.std.proofs.lemmas.List.{take_all, length-append}
use Rattle.bp_replay.specs.Players.{PlaysRows}
use Rattle.bp_replay.specs.Scripts.{IsRowOf}
use Rattle.bp_replay.proofs.Following.{row-there, one-row-more}
use Rattle.bp_replay.proofs.Once.{none-once, on-and-on}
use Rattle.bp_replay.proofs.player.run_rows.Goals as goal

pub run_row-requires : goal.run_row-requires
run_row-requires g c =
    let i = c.loop-row.invariant in
    record {
      fits = subst (λ who. IsRowOf g.N.PoolName.parameters who c.row-item.result) (sym i.same.client) (row-there _ _ c.args.script.now c.loop-row.row-index c.row-item.result c.loop-row-test.true c.row-item.is c.requires.fits);
      uncut = i.same.before ∙ c.requires.uncut;
      once = i.same.once (none-once _ c.requires.new.0);
      held = i.held;
      ends_room = omega (arith, i.few_ends, i.ends_capacity, c.requires.ends_room, c.loop-row-test.true);
      refused_room = omega (arith, i.few_refused, i.refused_capacity, c.requires.refused_room, c.loop-row-test.true);
    }

pub loop-row-preserved : goal.loop-row-preserved
loop-row-preserved g c =
    let i = c.loop-row.invariant in
    let ran = c.run_row.ensures in
    let now = c.run_row.new in
    record {
      same = on-and-on _ _ _ i.same ran.same;
      plays = subst (λ rows. PlaysRows g.P.Port.read_gives g.P.Port.write_gives rows now.client.session.said (reverse now.ends.items) now.refused.items c.args.client.now.port now.client.port)
          (sym (one-row-more c.args.script.now c.loop-row.row-index c.row-item.result c.loop-row-test.true c.row-item.is)) (ran.plays (take c.loop-row.row-index c.args.script.now) c.args.client.now.port i.plays);
      held = ran.held;
      few_ends = omega (arith, i.few_ends, ap length ran.end, length-append c.loop-row.ends.items (length now.client.session.said ∷ []), now.ends.ok, c.loop-row.ends.ok);
      few_refused = omega (arith, ran.few, i.few_refused);
      ends_capacity = ran.ends_capacity ∙ i.ends_capacity;
      refused_capacity = ran.refused_capacity ∙ i.refused_capacity;
    }

pub returns : goal.returns
returns g c =
    let i = c.loop-row.invariant in
    let now = c.loop-row.client in
    record {
      same = i.same;
      plays = subst (λ rows. PlaysRows g.P.Port.read_gives g.P.Port.write_gives rows now.session.said (reverse c.loop-row.ends.items) c.loop-row.refused.items c.args.client.now.port now.port)
          (take_all c.loop-row.row-index c.args.script.now (omega (arith, c.loop-row-test.false))) i.plays;
      ends_capacity = i.ends_capacity;
      refused_capacity = i.refused_capacity;
    }
