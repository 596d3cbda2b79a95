-- The latest pass goes back, and is at hand no more.
use Rattle.std.proofs.Common.{◌≡◌, Some, sym, ap, subst, ◌∙◌, ◌==◌, not, []}
use Rattle.std.specs.Prelude.{find, filter, reverse, IfSome}
use Rattle.bp_trail.specs.Event.{Grant}
use Rattle.bp_trail.specs.Passes.{passes_out}
use Rattle.bp_scripts.specs.Script.{latest_pass, is_pass_of}
use Rattle.bp_replay.proofs.PieceSteps.{find-there}
use Rattle.bp_replay.proofs.Once.{differ-once, posted-once}
use Rattle.bp_replay.proofs.Stepping.{latest_found, unfix_said}
use Rattle.bp_replay.proofs.Holding.{posted-holds}
use Rattle.bp_replay.proofs.steps.unfix.Goals as goal

pub unfix_note-requires : goal.unfix_note-requires
unfix_note-requires g c = record { held = (find-there (is_pass_of c.args.client.now.session.client c.args.page) c.in-Some.note (passes_out c.args.client.now.session.said) (sym c.latest.ensures ∙ c.in-Some.is)).is_there }

pub take_latest-requires : goal.take_latest-requires
take_latest-requires g c = record { differ = differ-once c.args.client.now.session.said c.args.held.now.passes c.requires.held c.requires.once }

pub returns-clause-same : goal.returns-clause-same
returns-clause-same g c = record { client = c.unfix_note.ensures.client; before = c.unfix_note.ensures.before; once = posted-once c.in-Some.note _ _ c.unfix_note.ensures.said; goes_on = ([], c.unfix_note.ensures.seen) }

pub returns-clause-outcome : goal.returns-clause-outcome
returns-clause-outcome g c = unfix_said _ _ c.in-Some.note _ _ (sym c.latest.ensures ∙ c.in-Some.is) c.unfix_note.ensures.said

pub returns-clause-held : goal.returns-clause-held
returns-clause-held g c =
    let said = c.args.client.now.session.said in
    let held = c.args.held.now.passes in
    let own : latest_pass said c.args.client.now.session.client c.args.page ≡ Some c.in-Some.note = sym c.latest.ensures ∙ c.in-Some.is in
    let taken : c.take_latest.result ≡ Some c.in-Some.note =
    latest_found held said c.args.client.now.session.client c.args.page c.take_latest.result c.requires.held
    (c.take_latest.ensures.note ∙ ap (λ who. find (is_pass_of who c.args.page) (reverse held)) (c.client.ensures ∙ c.unfix_note.ensures.client)) ∙ own in
    posted-holds c.in-Some.note said c.unfix_note.new.session.said held c.take_latest.new.self.passes c.requires.held
    (subst (λ o. IfSome o (λ (n : Grant). c.take_latest.new.self.passes ≡ filter (λ (h : Grant). not (h.serial == n.serial)) held)) taken c.take_latest.ensures.taken)
    c.unfix_note.ensures.said
