-- The core is cut, and its taker gets the piece.
use Rattle.std.proofs.Common.{refl, sym, ap, subst, ◌∙◌, ◌≤◌, [], ◌∷◌, length, length-append, vec_capacity}
use Rattle.rtrb.specs.Ring.{received}
use Rattle.bp_trail.specs.Parameters.{Parameters}
use Rattle.bp_shared.specs.Taking.{after_pieces}
use Rattle.bp_shared.proofs.Taking.{one_more, handed_out, comes_next, still_locked, not_cut, gave_too_many}
use Rattle.bp_shared.proofs.Telling.{earlier_cut, shown_cut}
use Rattle.bp_shared.proofs.Posting.{posted_cut}
use Rattle.bp_shared.proofs.Working.{why-of}
use Rattle.bp_shared.proofs.locked_pool.cut_section.LockedPool+N+RecordingKeeper.cut.Goals as goal

pub join_ends-requires-clause-pair : goal.join_ends-requires-clause-pair
join_ends-requires-clause-pair g c =
    c.taker.invariant ∙ ap (λ n. (g.N.PartNames.ring n).trail) (rw (← c.self.view_is, ← c.taker.view_is) at c.requires.part) ∙ sym c.self.invariant.1.ring_is

pub join_ends-requires-clause-emptied : goal.join_ends-requires-clause-emptied
join_ends-requires-clause-emptied g c = c.self.invariant.1.emptied

pub pass_on-requires-clause-pair : goal.pass_on-requires-clause-pair
pass_on-requires-clause-pair g c =
    c.taker.invariant ∙ ap (λ n. (g.N.PartNames.ring n).trail) (rw (← c.self.view_is, ← c.taker.view_is) at c.requires.part) ∙ sym c.self.invariant.1.ring_is

pub pass_on-requires-clause-emptied : goal.pass_on-requires-clause-emptied
pass_on-requires-clause-emptied g c = c.self.invariant.1.emptied

pub invariant_of-taker : goal.invariant_of-taker
invariant_of-taker g c = c.join_ends.ensures.consumer ∙ c.taker.invariant

pub invariant_of-taker-2 : goal.invariant_of-taker-2
invariant_of-taker-2 g c = c.pass_on.ensures.consumer ∙ c.taker.invariant

pub invariant_of-self : goal.invariant_of-self
invariant_of-self g c =
    let room = subst (λ (p : Parameters). p.room ≤ vec_capacity c.args.spare) (sym c.self.invariant.0.parameters_are) c.requires.room in
    let still = (not_cut c.self.inside.core c.cut_into.new.self _ (ap why-of (c.in-Err.ensures.enough room)) c.in-Err.ensures.refused).1 in
    let joined = c.join_ends.ensures in
    rw still (
      c.self.invariant.0,
      record { ring_is = joined.producer ∙ c.self.invariant.1.ring_is; emptied = joined.emptied; pieces_are = c.self.invariant.1.pieces_are ∙ ap (after_pieces g.N.PartNames.before) (sym joined.sent) },
      c.self.invariant.2,
      c.self.invariant.3,
      c.self.invariant.4,
      c.self.invariant.5,
    )

pub returns-in-Err : goal.returns-in-Err
returns-in-Err g c =
    let before = g.N.PartNames.before in
    let old = c.self.inside in
    let room = subst (λ (p : Parameters). p.room ≤ vec_capacity c.args.spare) (sym c.self.invariant.0.parameters_are) c.requires.room in
    let full = c.in-Err.ensures.enough room in
    let refused = not_cut old.core c.cut_into.new.self _ (ap why-of full) c.in-Err.ensures.refused in
    let joined = c.join_ends.ensures in
    let had = ap (after_pieces before) joined.all ∙ sym c.self.invariant.1.pieces_are in
    let t = rw refused.1 at c.trail.ensures in
    rw (← c.self.view_is) (rw (← c.taker.view_is) (record {
      done = tt;
      memory = tt;
      next = tt;
      refused = full;
      cause = gave_too_many g.N.PartNames.parameters _ old.core c.trail.result.now c.self.invariant.0.parameters_are had t.entries t.room t.legal refused.0;
      same = rw refused.1 refl;
      unchanged = rw joined.received refl;
    }))

pub invariant_of-self-2 : goal.invariant_of-self-2
invariant_of-self-2 g c =
    let cut = c.in-Ok.ensures.done in
    let passed = c.pass_on.ensures in (
      still_locked _ _ _ _ _ _ c.self.invariant.0 cut,
      handed_out _ _ _ _ c.in-Ok.entries c.self.inside.core c.cut_into.new.self c.self.invariant.1 cut passed.producer passed.emptied passed.sent,
      shown_cut _ _ _ c.self.inside.core c.cut_into.new.self _ c.self.invariant.2 cut,
      posted_cut _ _ _ c.self.inside.core c.cut_into.new.self _ c.self.invariant.3 cut,
      c.self.invariant.4,
      earlier_cut _ _ c.self.inside.core c.cut_into.new.self _ c.self.invariant.5 cut,
    )

pub returns : goal.returns
returns g c =
    let before = g.N.PartNames.before in
    let passed = c.pass_on.ensures in
    let had = ap (after_pieces before) passed.all ∙ sym c.self.invariant.1.pieces_are in
    let takes = ap (after_pieces before) passed.received ∙ one_more before (received c.taker.inside.taken) c.in-Ok.entries in
    let more = ap length passed.received ∙ length-append (received c.taker.inside.taken) (c.in-Ok.entries ∷ []) in
    rw (← c.self.view_is) (rw (← c.taker.view_is) (rw passed.same (record {
      done = record { cuts = c.in-Ok.ensures.done; rings_stay = refl; ends_stay = refl; had_all = had; takes = takes };
      memory = subst (λ (p : Parameters). p.room ≤ vec_capacity c.in-Ok.entries) c.self.invariant.0.parameters_are c.in-Ok.ensures.memory;
      next = comes_next _ _ _ c.self.inside.core c.cut_into.new.self c.in-Ok.entries.items c.self.invariant.0.parameters_are had more takes c.in-Ok.ensures.done;
      refused = tt;
      cause = tt;
      same = tt;
      unchanged = tt;
    })))
