-- One ticket fewer, one pass more, and one blank spent; or nothing, and the blank is put back.
use Rattle.std.proofs.Common.{rules, sym, subst, ◌∙◌, All, ℕ, [], ◌∷◌}
use Rattle.std.proofs.lemmas.List.Elements.{All-append}
use Rattle.bp_session_log.proofs.Asking.{loaded_alike}
use Rattle.bp_session_log.proofs.Keeping.{next_past, next_len, next_capacity}
use Rattle.bp_session_log.proofs.Ending.{keeps_loaded}
use Rattle.bp_session_log.proofs.book.Book.end_load.Goals as goal

pub copied-copy-requires-clause-sized : goal.copied-copy-requires-clause-sized
copied-copy-requires-clause-sized g c = subst (λ (n : ℕ). All (λ b. g.K.ListKeeper.fits b n) c.self.inside.blanks.items) (search rules) c.self.invariant.1

pub invariant_of-self : goal.invariant_of-self
invariant_of-self g c =
    let blanks = c.copied-copy.new.blanks.items in
    let told = c.record_load.ensures in (
      keeps_loaded _ _ _ _ _ _ _ _ _ _ _ _ _ _ c.args.ticket c.note-note.result.serial c.args.image c.self.invariant.0 (search rules)
          (next_past _ _ _ _ _ told ∙ search rules)
          (c.add.ensures.out ∙ search rules)
          (next_len _ _ _ _ _ told) (next_capacity _ _ _ _ _ told) c.add.ensures.room
          (search rules),
      subst (λ (n : ℕ). All (λ b. g.K.ListKeeper.fits b n) blanks) (search rules) c.copied-copy.ensures.sized,
    )

pub invariant_of-self-in-Err-Unknown : goal.invariant_of-self-in-Err-Unknown
invariant_of-self-in-Err-Unknown g c =
    let r = c.self.invariant.0 in
    let size = c.self.inside.geometry.size in
    let blanks = c.copied-copy.new.blanks.items in
    let rest : All (λ b. g.K.ListKeeper.fits b size) blanks = subst (λ (n : ℕ). All (λ b. g.K.ListKeeper.fits b n) blanks) (search rules) c.copied-copy.ensures.sized in (
      record {
        held_are = r.held_are;
        own = r.own;
        tickets_are = r.tickets_are;
        entries_fit = r.entries_fit;
        passes_fit = r.passes_fit;
        copies_fit = search rules;
        counted = r.counted;
      },
      subst (λ bs. All (λ b. g.K.ListKeeper.fits b size) bs) (sym c.push_reserved.ensures.items) (All-append (λ b. g.K.ListKeeper.fits b size) blanks (c.clear.result ∷ []) rest (search rules)),
    )

pub returns-in-Ok-clause-keeps : goal.returns-in-Ok-clause-keeps
returns-in-Ok-clause-keeps g c = record {
  adds = record {
    parameters = search rules;
    before = search rules;
    owner = search rules;
    alike = rw (← c.self.view_is)
        (loaded_alike _ _ _ _ c.self.inside.client c.grant-given.result c.args.image c.in-Ok.pass (search rules) c.in-Ok.ensures
        (next_past _ _ _ _ _ c.record_load.ensures ∙ search rules));
  };
  durable_stays = search rules;
}
