use Rattle.std.proofs.Common.{◌≡◌, sym, ◌∙◌, ap, if◌then◌else◌, Some, None, subst, false}
use Rattle.bp_trail.specs.Places.{resident}
use Rattle.bp_core.specs.CoreView.{CoreView, EachPast}
use Rattle.std.proofs.lemmas.Bool.{true≢false}
use Rattle.bp_trail.specs.Victim.{victim}
use Rattle.bp_core.specs.Outcomes.IsQuiet.{fix_none, fix_log}
use Rattle.bp_core.specs.Outcomes.IsBegin.{by_fix}
use Rattle.bp_trail.proofs.Victim.{victim-is, candidate-resident}
use Rattle.bp_core.proofs.Uses.{is_there}
use Rattle.bp_core.proofs.pool.PoolCore.evict_for.Goals as goal

pub record_unchanged-requires-clause-quiet : goal.record_unchanged-requires-clause-quiet
record_unchanged-requires-clause-quiet g c = fix_none c.args.page

pub unwrap-frame-requires : goal.unwrap-frame-requires
unwrap-frame-requires g c =
    let v = c.args.self.now in
    let chosen : victim v.parameters v.past ≡ Some c.in-Some.victim = sym (ap (λ b. if b then None else victim v.parameters v.past) c.requires.full) ∙ sym c.victim.ensures.next ∙ c.in-Some.is in
    is_there c.frame.result _ c.frame.ensures.away (λ gone.
    true≢false (sym (candidate-resident v.parameters v.past c.in-Some.victim (victim-is v.parameters v.past c.in-Some.victim chosen).eligible) ∙ subst (λ (v : CoreView). EachPast v (λ past. resident past c.in-Some.victim ≡ false)) c.victim.ensures.same gone))

pub record_unchanged-requires-then-lt-clause-quiet : goal.record_unchanged-requires-then-lt-clause-quiet
record_unchanged-requires-then-lt-clause-quiet g c = fix_log c.args.page c.unwrap-frame.result.now.page_lsn

pub begin_write_out-requires-clause-begins : goal.begin_write_out-requires-clause-begins
begin_write_out-requires-clause-begins g c = by_fix c.args.page
