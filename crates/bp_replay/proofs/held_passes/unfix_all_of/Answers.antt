-- Each pass of the client is the next one to go back; the others are left.
use Rattle.std.proofs.Common.{◌+◌, sym, ◌∙◌, subst}
use Rattle.bp_replay.specs.Rows.{GoingBack}
use Rattle.bp_replay.proofs.ScriptSteps.{going-known}
use Rattle.bp_replay.proofs.ClientPasses.{left_from, next-is, turn-given, left-other}
use Rattle.bp_replay.proofs.held_passes.unfix_all_of.Goals as goal
use Rattle.bp_replay.proofs.held_passes.unfix_all_of.Goals.{then-is_taken_by, else-is_taken_by}

pub unfix_note-requires : goal.unfix_note-requires
unfix_note-requires g c = record {
  known = going-known c.args.core.now c.loop-note.core c.args.held.now _ c.note-item.result c.requires.ends_in c.loop-note.invariant
      (next-is c.args.client c.loop-note.note-index c.args.held.now c.note-item.result c.loop-note-test.true c.note-item.is c.requires.least (sym c.is_taken_by.ensures ∙ c.if-is_taken_by.true));
}

pub loop-note-preserved : goal.loop-note-preserved
loop-note-preserved g c = elim c.if-is_taken_by.branch [
  | then-is_taken_by w ↦ subst (GoingBack c.args.core.now c.args.held.now (left_from c.args.client c.args.held.now (c.loop-note.note-index + 1))) (sym w.core-is)
      (turn-given c.args.client c.loop-note.note-index c.args.held.now c.note-item.result c.loop-note-test.true c.note-item.is c.args.core.now c.loop-note.core w.unfix_note.new.core
      (c.serials_differ.ensures c.args.held.now c.requires.ends_in) c.requires.least (sym c.is_taken_by.ensures ∙ w.if-is_taken_by.true) c.loop-note.invariant w.unfix_note.ensures.entry)
  | else-is_taken_by w ↦ subst (λ gs. GoingBack c.args.core.now c.args.held.now gs c.if-is_taken_by.core)
      (sym (left-other c.args.client c.loop-note.note-index c.args.held.now c.note-item.result c.loop-note-test.true c.note-item.is (sym c.is_taken_by.ensures ∙ w.if-is_taken_by.false)))
      (subst (GoingBack c.args.core.now c.args.held.now (left_from c.args.client c.args.held.now c.loop-note.note-index)) (sym w.core-is) c.loop-note.invariant)
]
