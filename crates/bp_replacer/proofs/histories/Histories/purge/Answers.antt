use Rattle.std.proofs.Common.{◌≡◌, ◌≢◌, ℕ, ◌+◌, ◌-◌, true, false, is_some, length, Some, None, refl, sym, ap, ◌∙◌, subst, arith}
use Rattle.std.specs.Option.{option_copied_mut}
use Rattle.std.proofs.lemmas.Bool.{false≢true, ne_eqb}
use Rattle.bp_replacer.specs.declared.settings.Settings.{Settings}
use Rattle.bp_replacer.specs.contracts.histories.Histories.{the_view}
use Rattle.bp_replacer.specs.Histories.{Blocks, KeepsPlaces, forgets}
use Rattle.bp_replacer.proofs.KeptLaws.{number, kept_after, kept_without, is_lent, was_sound}
use Rattle.bp_replacer.proofs.QueueLaws.{takes, queued_unmarked, room_again, queued_again, queued_forgotten, queued_nobody}
use Rattle.bp_replacer.proofs.PurgeWalk.{IsPurged, purged_same, purged_dropped, written_stays, queue_stays, removed_stays, all_done, pops_less, pushes_none, ends_gone, ends_forgotten, ends_kept, ends_held, ends_no_later, ends_counted, ends_placed}
use Rattle.bp_replacer.proofs.histories.Histories.purge.Goals as goal

-- ---- a page without a block

pub loop-page-smaller-in_default-copied : goal.loop-page-smaller-in_default-copied
loop-page-smaller-in_default-copied c = pops_less _ _ _ _ c.in-Some.ensures.taken c.in-Some.ensures.below

pub loop-page-preserved-in_default-copied : goal.loop-page-preserved-in_default-copied
loop-page-preserved-in_default-copied c = record {
  settings = c.loop-page.invariant.settings;
  kept = c.loop-page.invariant.kept;
  queued = queued_nobody _ _ _ _ _ c.loop-page.invariant.queued (sym c.get.ensures.value ∙ sym c.copied.ensures ∙ c.in_default-copied.is) c.in-Some.ensures.taken c.pop_below.ensures.room;
  purged = purged_same _ _ _ _ _ _ _ (ap (λ (s : Settings). s.retained) c.loop-page.invariant.settings) refl (ap (λ (s : Settings). s.k) c.loop-page.invariant.settings) refl c.loop-page.invariant.purged (queue_stays c.loop-page.self-inside c.pop_below.new.self);
}

pub unwrap-kept-requires : goal.unwrap-kept-requires
unwrap-kept-requires c = is_lent _ _ _ c.loop-page.invariant.kept _ _ (sym c.get.ensures.value ∙ sym c.copied.ensures ∙ c.in-Some-copied.is ∙ ap Some (sym c.slot-slot.ensures)) _ c.get_mut.ensures.value

-- ---- a page that is held

pub loop-page-smaller-then-kept : goal.loop-page-smaller-then-kept
loop-page-smaller-then-kept c = pops_less _ _ _ _ c.in-Some.ensures.taken c.in-Some.ensures.below

pub loop-page-preserved-then-kept : goal.loop-page-preserved-then-kept
loop-page-preserved-then-kept c =
    let sound = was_sound _ _ _ c.loop-page.invariant.kept _ _ (sym c.get.ensures.value ∙ sym c.copied.ensures ∙ c.in-Some-copied.is ∙ ap Some (sym c.slot-slot.ensures)) _ (sym c.get_mut.ensures.value ∙ ap option_copied_mut c.unwrap-kept.ensures) in
    record {
      settings = c.loop-page.invariant.settings;
      kept = kept_after _ _ _ c.loop-page.invariant.kept _ _ (sym c.get.ensures.value ∙ sym c.copied.ensures ∙ c.in-Some-copied.is ∙ ap Some (sym c.slot-slot.ensures)) _ (sym c.get_mut.ensures.value ∙ ap option_copied_mut c.unwrap-kept.ensures) _ record { bounded = sound.bounded; free_waits = λ free. absurd (false≢true (sym free ∙ c.if-kept.true)); waits_known = λ waits. absurd (false≢true waits) };
      queued = queued_unmarked _ _ _ c.loop-page.invariant.kept _ c.loop-page.invariant.queued _ _ (sym c.get.ensures.value ∙ sym c.copied.ensures ∙ c.in-Some-copied.is ∙ ap Some (sym c.slot-slot.ensures)) _ _ (sym c.get_mut.ensures.value ∙ ap option_copied_mut c.unwrap-kept.ensures) _ _ refl c.in-Some.ensures.taken c.pop_below.ensures.room refl;
      purged = purged_same _ _ _ _ _ _ _ (ap (λ (s : Settings). s.retained) c.loop-page.invariant.settings) refl (ap (λ (s : Settings). s.k) c.loop-page.invariant.settings) refl c.loop-page.invariant.purged (written_stays c.loop-page.self-inside c.loop-page.invariant.kept _ _ (sym c.get.ensures.value ∙ sym c.copied.ensures ∙ c.in-Some-copied.is ∙ ap Some (sym c.slot-slot.ensures)) _ (sym c.get_mut.ensures.value ∙ ap option_copied_mut c.unwrap-kept.ensures) _ c.pop_below.new.self refl refl refl);
    }

-- ---- a page that was referenced since

pub push-requires : goal.push-requires
push-requires c = room_again _ _ _ c.loop-page.invariant.kept _ c.loop-page.invariant.queued _ _ (sym c.get.ensures.value ∙ sym c.copied.ensures ∙ c.in-Some-copied.is ∙ ap Some (sym c.slot-slot.ensures)) _ c.unwrap-kept.result.now (sym c.get_mut.ensures.value ∙ ap option_copied_mut c.unwrap-kept.ensures) _ _ refl c.in-Some.ensures.taken c.pop_below.ensures.room

pub loop-page-smaller-then-kept-bound : goal.loop-page-smaller-then-kept-bound
loop-page-smaller-then-kept-bound c =
    let less = pops_less c.saturating_sub-bound.result _ _ _ c.in-Some.ensures.taken c.in-Some.ensures.below in
    let same = pushes_none c.saturating_sub-bound.result _ _ _ c.push.ensures.pages (omega arith) in
    omega (arith, less, same)

pub loop-page-preserved-then-kept-bound : goal.loop-page-preserved-then-kept-bound
loop-page-preserved-then-kept-bound c =
    let sound = was_sound _ _ _ c.loop-page.invariant.kept _ _ (sym c.get.ensures.value ∙ sym c.copied.ensures ∙ c.in-Some-copied.is ∙ ap Some (sym c.slot-slot.ensures)) _ (sym c.get_mut.ensures.value ∙ ap option_copied_mut c.unwrap-kept.ensures) in
    record {
      settings = c.loop-page.invariant.settings;
      kept = kept_after _ _ _ c.loop-page.invariant.kept _ _ (sym c.get.ensures.value ∙ sym c.copied.ensures ∙ c.in-Some-copied.is ∙ ap Some (sym c.slot-slot.ensures)) _ (sym c.get_mut.ensures.value ∙ ap option_copied_mut c.unwrap-kept.ensures) _ sound;
      queued = queued_again _ _ _ c.loop-page.invariant.kept _ c.loop-page.invariant.queued _ _ (sym c.get.ensures.value ∙ sym c.copied.ensures ∙ c.in-Some-copied.is ∙ ap Some (sym c.slot-slot.ensures)) _ _ (sym c.get_mut.ensures.value ∙ ap option_copied_mut c.unwrap-kept.ensures) _ _ refl c.in-Some.ensures.taken c.pop_below.ensures.room _ refl c.push.ensures.pages c.push.ensures.room;
      purged = purged_same _ _ _ _ _ _ _ (ap (λ (s : Settings). s.retained) c.loop-page.invariant.settings) refl (ap (λ (s : Settings). s.k) c.loop-page.invariant.settings) refl c.loop-page.invariant.purged (written_stays c.loop-page.self-inside c.loop-page.invariant.kept _ _ (sym c.get.ensures.value ∙ sym c.copied.ensures ∙ c.in-Some-copied.is ∙ ap Some (sym c.slot-slot.ensures)) _ (sym c.get_mut.ensures.value ∙ ap option_copied_mut c.unwrap-kept.ensures) _ c.push.new.self refl refl refl);
    }

-- ---- a page that is forgotten

pub loop-page-smaller : goal.loop-page-smaller
loop-page-smaller c = pops_less _ _ _ _ c.in-Some.ensures.taken c.in-Some.ensures.below

pub loop-page-preserved : goal.loop-page-preserved
loop-page-preserved c =
    let others : (q : ℕ) → q ≢ c.in-Some.page → number c.remove.new.self.entries q ≡ number c.loop-page.self-inside.places.entries q = λ q other. c.remove.ensures.updates.2 q (ne_eqb c.in-Some.page q (λ e. other (sym e))) in
    let none : number c.remove.new.self.entries c.in-Some.page ≡ None = c.remove.ensures.updates.1 in
    let changes = takes _ _ _ c.loop-page.invariant.kept _ c.loop-page.invariant.queued _ _ (sym c.get.ensures.value ∙ sym c.copied.ensures ∙ c.in-Some-copied.is ∙ ap Some (sym c.slot-slot.ensures)) _ (sym c.get_mut.ensures.value ∙ ap option_copied_mut c.unwrap-kept.ensures) _ others none in
    let after = rw (← c.remove-else-kept-bound.ensures.slots) at changes in
    let bound_is : c.saturating_sub-bound.result ≡ c.args.t - c.loop-page.self-inside.settings.retained = c.saturating_sub-bound.ensures ∙ ap (λ (s : Settings). c.args.t - s.retained) (sym c.loop-page.invariant.settings) in
    let some : is_some c.remove.result ≡ true = ap is_some (c.remove.ensures.value ∙ (sym c.get.ensures.value ∙ sym c.copied.ensures ∙ c.in-Some-copied.is ∙ ap Some (sym c.slot-slot.ensures))) in
    let less : length c.remove.new.self.entries + 1 ≡ length c.loop-page.self-inside.places.entries = rw some at c.remove.ensures.len in
    record {
      settings = c.loop-page.invariant.settings;
      kept = kept_without _ _ _ _ _ _ after _ c.loop-page.invariant.kept none;
      queued = rw c.remove-else-kept-bound.ensures.slots (queued_forgotten _ _ _ c.loop-page.invariant.kept _ c.loop-page.invariant.queued _ _ (sym c.get.ensures.value ∙ sym c.copied.ensures ∙ c.in-Some-copied.is ∙ ap Some (sym c.slot-slot.ensures)) _ (sym c.get_mut.ensures.value ∙ ap option_copied_mut c.unwrap-kept.ensures) _ others none _ _ refl c.in-Some.ensures.taken c.pop_below.ensures.room);
      purged =
          purged_dropped _ c.loop-page.self-inside record { settings = c.loop-page.self-inside.settings; places = c.remove.new.self; blocks = c.remove-else-kept-bound.new.self; waiting = c.pop_below.new.self } _ _ _ _ (ap (λ (s : Settings). s.retained) c.loop-page.invariant.settings) refl (ap (λ (s : Settings). s.k) c.loop-page.invariant.settings) refl c.loop-page.invariant.kept _ _
          (sym c.get.ensures.value ∙ sym c.copied.ensures ∙ c.in-Some-copied.is ∙ ap Some (sym c.slot-slot.ensures)) _ (sym c.get_mut.ensures.value ∙ ap option_copied_mut c.unwrap-kept.ensures) c.if-kept.false (rw (← bound_is) c.if-kept-bound.false)
          none (removed_stays c.loop-page.self-inside record { settings = c.loop-page.self-inside.settings; places = c.remove.new.self; blocks = c.remove-else-kept-bound.new.self; waiting = c.pop_below.new.self } _ _ after) c.one_if-forgotten_before.result c.one_if-forgotten_before.ensures (rw less c.loop-page.invariant.purged);
    }

-- ---- at the end

pub overflow_sub-result : goal.overflow_sub-result
overflow_sub-result c = omega (arith, c.loop-page.invariant.purged.fewer, c.len.ensures.len)

-- nothing is left to forget
done : (c : goal.After-len) (page : ℕ) → forgets (the_view c.loop-page.self-inside) c.args.t page ≡ false
done c =
    let bound_is : c.saturating_sub-bound.result ≡ c.args.t - c.loop-page.self-inside.settings.retained = c.saturating_sub-bound.ensures ∙ ap (λ (s : Settings). c.args.t - s.retained) (sym c.loop-page.invariant.settings) in
    all_done c.loop-page.self-inside c.args.t c.loop-page.invariant.kept c.loop-page.invariant.queued (rw (← bound_is) c.in_default.ensures.none_below)

k : (c : goal.After-len) → (the_view c.loop-page.self-inside).k ≡ c.args.self.now.k
k c = ap (λ (s : Settings). s.k) c.loop-page.invariant.settings ∙ ap (λ (h : Blocks). h.k) c.self.view_is

retained : (c : goal.After-len) → (the_view c.loop-page.self-inside).retained ≡ c.args.self.now.retained
retained c = ap (λ (s : Settings). s.retained) c.loop-page.invariant.settings ∙ ap (λ (h : Blocks). h.retained) c.self.view_is

purged : (c : goal.After-len) → IsPurged c.args.self.now (the_view c.loop-page.self-inside) c.args.t c.len-before.result (length c.loop-page.self-inside.places.entries) c.loop-page.forgotten_before
purged c = subst (λ h. IsPurged h (the_view c.loop-page.self-inside) c.args.t c.len-before.result (length c.loop-page.self-inside.places.entries) c.loop-page.forgotten_before) c.self.view_is c.loop-page.invariant.purged

pub returns-clause-forgotten : goal.returns-clause-forgotten
returns-clause-forgotten c = ends_forgotten _ _ _ _ _ _ (k c) (retained c) (purged c) (done c)

pub returns-clause-vanishes : goal.returns-clause-vanishes
returns-clause-vanishes c = ends_gone _ _ _ _ _ _ (k c) (retained c) (purged c) (done c)

pub returns-clause-kept : goal.returns-clause-kept
returns-clause-kept c = ends_kept _ _ _ _ _ _ (k c) (retained c) (purged c) (done c)

pub returns-clause-held : goal.returns-clause-held
returns-clause-held c = ends_held _ _ _ _ _ _ (k c) (retained c) (purged c) (done c)

pub returns-clause-no_later : goal.returns-clause-no_later
returns-clause-no_later c = ends_no_later _ _ _ _ _ _ (k c) (retained c) (purged c) (done c)

pub returns-clause-counted : goal.returns-clause-counted
returns-clause-counted c = λ bound past. omega (arith, ends_counted _ _ _ _ _ _ (k c) (retained c) (purged c) (done c) bound past, c.len.ensures.len)

pub returns-clause-places : goal.returns-clause-places
unfolding KeepsPlaces
returns-clause-places c = λ page was held. ends_placed _ _ _ _ _ _ (k c) (retained c) (purged c) (done c) page held
