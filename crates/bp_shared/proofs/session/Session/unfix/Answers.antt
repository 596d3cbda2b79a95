-- The pass is posted: the list, the ring and what the line does not have yet get it.
use Rattle.std.proofs.Common.{rules, ◌≡◌, reverse}
use Rattle.rtrb.specs.Ring.{sent}
use Rattle.bp_session_log.specs.Books.{unfixes}
use Rattle.bp_shared.specs.Telling.{IsLineOf}
use Rattle.bp_shared.proofs.Telling.{line_told, sent_told}
use Rattle.bp_shared.proofs.session.Session.unfix.Goals as goal

pub invariant_of-self-2 : goal.invariant_of-self-2
invariant_of-self-2 g c =
    let e = c.else-cached_slots-eq0.self-inside in
    let line : IsLineOf (g.N.PartNames.ring e.part).board e.line e.book.client e.book.said = search rules in
    let same : sent e.producer ≡ reverse (unfixes e.book.said) = search rules in
    let held = c.if-not-tell_unfix.false in (
      search rules,
      search rules,
      sent_told e.book c.tell_unfix.new.self _ _ c.note-note.result same c.push_reserved.ensures.sent.0 (c.tell_unfix.ensures.told held) (c.tell_unfix.ensures.whose held),
      line_told _ e.book c.tell_unfix.new.self e.line c.note-note.result line (c.tell_unfix.ensures.told held) (c.tell_unfix.ensures.whose held),
      search rules,
      search rules,
      search rules,
      search rules,
    )
