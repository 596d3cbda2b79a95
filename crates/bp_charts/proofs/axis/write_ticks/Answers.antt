use Rattle.std.proofs.Common.{◌≡◌, ◌+◌, ◌^◌, arith, sym, subst}
use Rattle.std.specs.Io.KnownBytes.{Appends}
use Rattle.std.proofs.KnownBytes.{Appends-nil, Appends-trans}
use Rattle.bp_charts.specs.Axis.{tick_at, tick_text, ticks_text}
use Rattle.bp_charts.proofs.Pieces.{ticks_text-next}
use Rattle.bp_charts.proofs.axis.write_ticks.Goals as goal

pub loop-step-init : goal.loop-step-init
unfolding ticks_text
loop-step-init g c = Appends-nil (g.W.Write.contents c.args.writer.now)

pub loop-step-preserved : goal.loop-step-preserved
loop-step-preserved g c =
    let w = g.W.Write.contents in
    let s = c.args.scale.now in
    let n = c.loop-step.step in
    let tick = tick_text (tick_at s n) (2 ^ (s.low + n)) in
    let here : Appends (w c.loop-step.writer) (w c.write_tick.new.writer) tick = rw (← c.tick_at.ensures, ← c.frames_at.ensures) c.in_ok-write_tick.ensures in
    subst (Appends (w c.args.writer.now) (w c.write_tick.new.writer)) (sym (ticks_text-next s n))
    (Appends-trans (w c.args.writer.now) (w c.loop-step.writer) (w c.write_tick.new.writer) (ticks_text s n) tick c.loop-step.invariant here)

pub returns : goal.returns
returns g c =
    let w = g.W.Write.contents in
    let all : c.loop-step.step ≡ c.args.scale.now.doublings + 1 = omega arith in
    subst (λ n. Appends (w c.args.writer.now) (w c.loop-step.writer) (ticks_text c.args.scale.now n)) all c.loop-step.invariant
