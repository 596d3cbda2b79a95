-- Each row adds its piece to those of the rows before it, and no mark came before the log rows.
use Rattle.std.proofs.Common.{◌≡◌, refl, sym, ◌∙◌, ap, subst, ◌+◌, ◌++◌, ◌∷◌, [], length, take, arith, reverse}
use Rattle.std.proofs.lemmas.List.{take_all, length-append, reverse-append}
use Rattle.bp_trail.specs.HeldPasses.{held_passes}
use Rattle.bp_trail.specs.Pieces.Manner.{session}
use Rattle.bp_scripts.specs.LogBound.{logged}
use Rattle.bp_scripts.specs.Script.{FollowsBy}
use Rattle.bp_shared.specs.Sessions.{SessionValue}
use Rattle.bp_replay.specs.Bounds.{IsBounded}
use Rattle.bp_replay.specs.Players.{PlaysRows}
use Rattle.bp_replay.specs.Scripts.{IsRowOf}
use Rattle.bp_replay.proofs.Bounding.{Shown, none-played, none_shown, bounded_now, has-all, led-row}
use Rattle.bp_replay.proofs.Following.{row-there, one-row-more}
use Rattle.bp_replay.proofs.Once.{as-it-was, none-once, on-and-on, sees-on, raises-on, raises-said}
use Rattle.bp_replay.proofs.player.lead_rows.Goals as goal

pub loop-row-init : goal.loop-row-init
loop-row-init g c =
    let said = c.args.client.now.session.said in
    let none = c.requires.new in
    record {
      same = as-it-was _;
      plays = none-played g.P.Port.read_gives g.P.Port.write_gives said c.args.ends.now.items c.args.refused.now.items c.args.client.now.port none.0 none.1 none.2;
      log = c.requires.log;
      shown = subst (λ es. Shown [] (reverse es) said c.args.client.now.session.seen c.args.log.now) (sym none.1) (subst (λ n. Shown [] [] said c.args.client.now.session.seen n) (sym c.requires.log) (none_shown said c.args.client.now.session.seen));
      held = c.new-held.ensures.passes ∙ sym (ap held_passes none.0);
      few_ends = omega (arith, c.args.ends.now.ok, ap length none.1);
      few_refused = omega (arith, c.args.refused.now.ok, ap length none.2);
      ends_capacity = refl;
      refused_capacity = refl;
    }

pub run_row-requires : goal.run_row-requires
run_row-requires g c =
    let i = c.loop-row.invariant in
    let same = on-and-on _ _ _ i.same (raises-on _ _ _ _ _ _ _ c.raise_mark.ensures.raises) in
    record {
      fits = subst (λ who. IsRowOf g.N.PoolName.parameters who c.row-item.result) (sym same.client) (row-there _ _ c.args.script.now c.loop-row.row-index c.row-item.result c.loop-row-test.true c.row-item.is c.requires.fits);
      uncut = same.before ∙ c.requires.uncut;
      once = same.once (none-once _ c.requires.new.0);
      held = i.held ∙ ap held_passes (sym (raises-said _ _ _ _ _ _ _ c.raise_mark.ensures.raises));
      ends_room = omega (arith, i.few_ends, i.ends_capacity, c.requires.ends_room, c.loop-row-test.true);
      refused_room = omega (arith, i.few_refused, i.refused_capacity, c.requires.refused_room, c.loop-row-test.true);
    }

pub loop-row-preserved : goal.loop-row-preserved
loop-row-preserved g c =
    let reads = g.P.Port.read_gives in
    let writes = g.P.Port.write_gives in
    let i = c.loop-row.invariant in
    let mark = c.raise_mark.ensures in
    let mid = c.raise_mark.new.client in
    let ran = c.run_row.ensures in
    let now = c.run_row.new in
    let row = c.row-item.result in
    let rows = take c.loop-row.row-index c.args.script.now in
    let ends = reverse c.loop-row.ends.items in
    let first = c.args.client.now.port in
    let more : take (c.loop-row.row-index + 1) c.args.script.now ≡ rows ++ row ∷ [] = one-row-more c.args.script.now c.loop-row.row-index row c.loop-row-test.true c.row-item.is in
    let so_far : PlaysRows reads writes rows mid.session.said ends c.loop-row.refused.items first mid.port =
    subst (λ es. PlaysRows reads writes rows es ends c.loop-row.refused.items first mid.port) (sym (raises-said _ _ _ _ _ _ _ mark.raises))
    (subst (λ port. PlaysRows reads writes rows c.loop-row.client.session.said ends c.loop-row.refused.items first port) (sym mark.port) i.plays) in
    let plays = ran.plays rows first so_far in
    let one_end : reverse now.ends.items ≡ length now.client.session.said ∷ ends = ap reverse ran.end ∙ reverse-append c.loop-row.ends.items (length now.client.session.said ∷ []) in
    let led = led-row _ _ rows row ends c.loop-row.client.session mid.session now.client.session c.loop-row.log c.raise_mark.new.log _ _ i.plays.pieces
    (subst (λ es. FollowsBy session (reverse (rows ++ row ∷ [])) es now.client.session.said (reverse now.refused.items)) one_end plays.pieces) (i.same.client ∙ c.requires.first) mark.raises ran.grows ran.same.goes_on i.log i.shown in
    record {
      same = on-and-on _ _ _ (on-and-on _ _ _ i.same (raises-on _ _ _ _ _ _ _ mark.raises)) ran.same;
      plays = subst (λ rs. PlaysRows reads writes rs now.client.session.said (reverse now.ends.items) now.refused.items first now.client.port) (sym more) plays;
      log = led.0 ∙ ap logged (sym more);
      shown = subst (λ rs. Shown rs (reverse now.ends.items) now.client.session.said now.client.session.seen c.raise_mark.new.log) (sym more)
          (subst (λ es. Shown (rows ++ row ∷ []) es now.client.session.said now.client.session.seen c.raise_mark.new.log) (sym one_end) led.1);
      held = ran.held;
      few_ends = omega (arith, i.few_ends, ap length ran.end, length-append c.loop-row.ends.items (length now.client.session.said ∷ []), now.ends.ok, c.loop-row.ends.ok);
      few_refused = omega (arith, ran.few, i.few_refused);
      ends_capacity = ran.ends_capacity ∙ i.ends_capacity;
      refused_capacity = ran.refused_capacity ∙ i.refused_capacity;
    }

pub returns : goal.returns
returns g c =
    let i = c.loop-row.invariant in
    let before = c.loop-row.client in
    let sees = c.show_marks.ensures.sees in
    let now = c.show_marks.new.session in
    let ends = reverse c.loop-row.ends.items in
    let whole : take c.loop-row.row-index c.args.script.now ≡ c.args.script.now = take_all c.loop-row.row-index c.args.script.now (omega (arith, c.loop-row-test.false)) in
    let same = sees-on _ _ _ _ sees in
    let said : now.said ≡ before.session.said = ap (λ (x : SessionValue). x.said) sees.same in
    record {
      same = on-and-on _ _ _ i.same same;
      plays = subst (λ rows. PlaysRows g.P.Port.read_gives g.P.Port.write_gives rows now.said ends c.loop-row.refused.items c.args.client.now.port before.port) whole
          (subst (λ es. PlaysRows g.P.Port.read_gives g.P.Port.write_gives (take c.loop-row.row-index c.args.script.now) es ends c.loop-row.refused.items c.args.client.now.port before.port) (sym said) i.plays);
      log = c.show_marks.ensures.same ∙ i.log ∙ ap logged whole;
      bounded = subst (λ rows. IsBounded rows ends (length now.said) now.seen) whole
          (subst (λ es. IsBounded (take c.loop-row.row-index c.args.script.now) ends (length es) now.seen) (sym said)
          (bounded_now _ ends before.session.said before.session.seen now.seen c.loop-row.log i.shown sees.goes_on (has-all _ _ _ _ (i.same.client ∙ c.requires.first) sees.list_is) (omega (arith, c.show_marks.ensures.within, c.show_marks.ensures.same))));
      ends_capacity = i.ends_capacity;
      refused_capacity = i.refused_capacity;
    }
