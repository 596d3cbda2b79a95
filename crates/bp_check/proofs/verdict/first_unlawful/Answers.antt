use Rattle.std.proofs.Common.{◌≡◌, ◌++◌, None, [], subst, reverse}
use Rattle.std.specs.Prelude.{◌↔◌, IfSome}
use Rattle.bp_trail.specs.Legal.{Legal}
use Rattle.bp_check.specs.Setups.{parameters_of, with_room}
use Rattle.bp_check.specs.Verdict.{IsFirstUnlawfulAfter}
use Rattle.bp_check.specs.Seen.{Seen}
use Rattle.bp_check.proofs.Judging.{legal-from-nothing, legal-to-nothing, all-from-nothing}
use Rattle.bp_check.proofs.verdict.first_unlawful.Goals as goal

pub returns-in-Ok-go_on-clause-legal : goal.returns-in-Ok-go_on-clause-legal
returns-in-Ok-go_on-clause-legal c = λ room.
    let s = c.args.setup.now in
    let said : (c.in-Ok-go_on.place ≡ None) ↔ Legal (parameters_of s room) (reverse c.args.trail.now ++ []) =
    subst (λ (t : Seen). (c.in-Ok-go_on.place ≡ None) ↔ Legal (with_room t.parameters room) (reverse c.args.trail.now ++ t.past)) c.in-Ok.ensures (c.in-Ok-go_on.ensures.legal room) in
    (λ none. legal-from-nothing (parameters_of s room) c.args.trail.now (said.0 none), λ legal. said.1 (legal-to-nothing (parameters_of s room) c.args.trail.now legal))

pub returns-in-Ok-go_on-clause-first : goal.returns-in-Ok-go_on-clause-first
returns-in-Ok-go_on-clause-first c = λ room.
    let s = c.args.setup.now in
    all-from-nothing (parameters_of s room) c.args.trail.now c.in-Ok-go_on.place
    (subst (λ (t : Seen). IfSome c.in-Ok-go_on.place (IsFirstUnlawfulAfter (with_room t.parameters room) t.past c.args.trail.now)) c.in-Ok.ensures (c.in-Ok-go_on.ensures.first room))
