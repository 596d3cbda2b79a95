-- The core's three entries are the list's.
use Rattle.std.proofs.Common.{rules, ap, ◌∙◌, ◌≡◌, []}
use Rattle.bp_trail.specs.Clock.{durable}
use Rattle.bp_core.specs.CoreView.{CoreView}
use Rattle.bp_session_log.specs.Books.{all_held}
use Rattle.bp_session_log.specs.Turns.{and_read}
use Rattle.bp_session_log.proofs.Reading.{held_at_once}
use Rattle.bp_session_log.proofs.book.Book.ask_read_resident.Goals as goal

pub returns-clause-adds : goal.returns-clause-adds
returns-clause-adds g c =
    let done = rw c.in-Some.is at c.in_ok-note.ensures.outcome in
    let said = c.args.self.now.said in
    let image = c.unwrap-image.result.now in
    let n = c.in-Some.note.serial in
    let grows : c.tell_look.new.self.said ≡ and_read c.args.self.now.client c.args.page n image said = search rules in
    record {
      parameters = ap (λ (v : CoreView). v.parameters) done.3;
      before = ap (λ (v : CoreView). v.before) done.3;
      client = search rules;
      size = search rules;
      handed_out = search rules;
      piece = and_read c.args.self.now.client c.args.page n image [];
      goes_on = search rules;
      grows = grows;
      still_held = ap all_held grows ∙ held_at_once c.args.self.now.client c.args.page n image said;
      durable_stays = ap (λ (v : CoreView). durable v.past) done.3;
    }
