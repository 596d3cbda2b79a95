use Rattle.std.proofs.Common.{◌+◌, refl, sym, subst}
use Rattle.bp_replacer.specs.Hands.{IsHeld}
use Rattle.bp_replacer.proofs.HandLaws.{held_one_more}
use Rattle.bp_replacer.proofs.hands.Hands.first.Goals as goal

pub loop-i-preserved : goal.loop-i-preserved
loop-i-preserved c =
    let seats = c.args.seats.now in
    let hands = c.self.inside.seats in
    let i = c.loop-i.i in
    record {
      same = refl;
      held = subst (IsHeld seats hands (i + 1) c.args.time) (sym c.earlier-first.ensures) (held_one_more seats hands i c.args.time c.loop-i.first c.aged_at.result c.loop-i.invariant.held c.aged_at.ensures);
    }
