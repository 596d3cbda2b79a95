use Rattle.std.proofs.Common.{◌≡◌, reverse, not, ◌==◌, rules}
use Rattle.std.proofs.lemmas.Fn.{filter_same}
use Rattle.bp_trail.specs.Event.{Grant}
use Rattle.bp_trail.specs.Lists.{without}
use Rattle.bp_check.proofs.Reversed.{ended, given}
use Rattle.bp_check.proofs.grants.Grants.pass_on.Goals as goal
use Rattle.bp_check.proofs.grants.Grants.pass_on.Goals.{in-Some, in_default}

pub returns-in_ok-push : goal.returns-in_ok-push
returns-in_ok-push c =
    let left : reverse c.match-ends.self-inside.out.items ≡ without (λ (g : Grant). g.serial) c.args.ends c.args.self.now =
    elim c.match-ends.branch [
      | in-Some w ↦ rw (w.self-inside-is, w.in-Some.is)
          (ended (λ (g : Grant). g.serial) w.in-Some.serial c.self.inside.out.items w.retain.new.self.items c.args.self.now
          (filter_same _ (λ (g : Grant). not (g.serial == w.in-Some.serial)) _ (λ x b f k. search rules) _ _ w.retain.ensures.filtered) c.self.view_is)
      | in_default w ↦ rw (w.self-inside-is, w.in_default.is) c.self.view_is
    ] in
    given (λ (g : Grant). g.serial) c.args.ends c.args.gives c.in-Some-gives.given c.match-ends.self-inside.out.items c.push.new.self.items c.args.self.now
    c.in_ok-push.ensures.items c.in-Some-gives.is left

pub returns-in_default-gives : goal.returns-in_default-gives
returns-in_default-gives c =
    rw c.in_default-gives.is
    (elim c.match-ends.branch [
      | in-Some w ↦ rw (w.self-inside-is, w.in-Some.is)
          (ended (λ (g : Grant). g.serial) w.in-Some.serial c.self.inside.out.items w.retain.new.self.items c.args.self.now
          (filter_same _ (λ (g : Grant). not (g.serial == w.in-Some.serial)) _ (λ x b f k. search rules) _ _ w.retain.ensures.filtered) c.self.view_is)
      | in_default w ↦ rw (w.self-inside-is, w.in_default.is) c.self.view_is
    ])
