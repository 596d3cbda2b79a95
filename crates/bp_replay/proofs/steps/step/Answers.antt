-- Each step by its own call.
use Rattle.std.proofs.Common.{sym, ◌∙◌}
use Rattle.bp_replay.proofs.steps.step.Goals as goal

pub returns-in-Fix : goal.returns-in-Fix
returns-in-Fix g c =
    let said = c.fix.ensures in
    rw c.in-Fix.is (record { same = said.same; known = said.known; work = said.work; outcome = said.outcome; held = said.held })

pub returns-in-Unfix : goal.returns-in-Unfix
returns-in-Unfix g c =
    let said = c.unfix.ensures in
    rw c.in-Unfix.is (record { same = said.same; known = said.known; work = said.port; outcome = said.outcome; held = said.held })

pub returns-in-Read : goal.returns-in-Read
returns-in-Read g c =
    let said = c.read.ensures in
    rw c.in-Read.is (record { same = said.same; known = said.known; work = said.port; outcome = said.outcome; held = c.requires.held ∙ sym said.held })

pub returns-in-Flush : goal.returns-in-Flush
returns-in-Flush g c =
    let said = c.flush.ensures in
    rw c.in-Flush.is (record { same = said.same; known = said.known; work = said.work; outcome = said.outcome; held = c.requires.held ∙ sym said.held })

pub returns-in-Discard : goal.returns-in-Discard
returns-in-Discard g c =
    let said = c.discard.ensures in
    rw c.in-Discard.is (record { same = said.same; known = said.known; work = said.port; outcome = said.outcome; held = c.requires.held ∙ sym said.held })

pub returns-in-Tick : goal.returns-in-Tick
returns-in-Tick g c =
    let said = c.tick.ensures in
    rw c.in-Tick.is (record { same = said.same; known = said.known; work = said.port; outcome = said.outcome; held = c.requires.held ∙ sym said.held })

pub returns-in-Purge : goal.returns-in-Purge
returns-in-Purge g c =
    let said = c.purge.ensures in
    rw c.in-Purge.is (record { same = said.same; known = said.known; work = said.port; outcome = said.outcome; held = c.requires.held ∙ sym said.held })
