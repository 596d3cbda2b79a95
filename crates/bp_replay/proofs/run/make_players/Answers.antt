-- One player after the other.
use Rattle.std.proofs.Common.{◌≡◌, sym, ap, subst, suc, length, vec_len, arith, rules}
use Rattle.std.specs.Vec.Iter.{into_iter_items}
use Rattle.bp_replay.specs.Scripts.{lists, CanPlay, EachCanPlay}
use Rattle.bp_replay.proofs.Making.{made_more, next_can_play}
use Rattle.bp_replay.proofs.run.make_players.Goals as goal

pub loop-script-preserved : goal.loop-script-preserved
loop-script-preserved c =
    let i = c.loop-script.invariant in
    let next = c.in-Some.ensures.steps.0 in
    let one : vec_len c.push.new.self ≡ suc (vec_len c.loop-script.players) = omega (arith, c.in-Ok.ensures.len) in
    record {
      made = made_more c.args.geometry c.loop-script.players.items _ _ _ _ c.in-Some.script.items _ _ c.in_ok-player.player i.made (ap lists next) c.in-Ok.ensures.items (search (rules, c.in_ok-player.ensures)) one;
      fits = subst (λ n. EachCanPlay c.args.geometry n (lists (into_iter_items c.next.new.self))) (sym one) (next_can_play c.args.geometry _ c.in-Some.script.items _ _ i.fits (ap lists next)).1;
      few = omega (arith, i.few, one, ap length next);
    }

pub new-requires : goal.new-requires
new-requires c =
    let fits = (next_can_play c.args.geometry _ c.in-Some.script.items _ _ c.loop-script.invariant.fits (ap lists c.in-Some.ensures.steps.0)).0 in
    record { fits = subst (λ n. CanPlay c.args.geometry n c.in-Some.script.items) (sym c.len.ensures) fits }
