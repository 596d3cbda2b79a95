-- One K after the other.
use Rattle.std.proofs.Common.{◌∙◌, ◌++◌, ◌+◌, ap, sym}
use Rattle.bp_run.specs.Drawing.{if_among, names_up_to}
use Rattle.bp_run.proofs.Drawn.{names-next}
use Rattle.bp_run.proofs.drawing.names_of.Goals as goal

pub loop-less-init : goal.loop-less-init
unfolding names_up_to
loop-less-init c = c.new-names.ensures.items

pub loop-less-preserved : goal.loop-less-preserved
loop-less-preserved c =
    c.in_ok-add_name.ensures ∙ ap (λ names. names ++ if_among c.args.ks.now (c.loop-less.less + 1)) c.loop-less.invariant
    ∙ sym (names-next c.args.ks.now c.loop-less.less)
