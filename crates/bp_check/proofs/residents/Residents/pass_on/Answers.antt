use Rattle.std.proofs.Common.{◌≡◌, ℕ, reverse, not, ◌==◌, rules}
use Rattle.std.proofs.lemmas.Fn.{filter_same}
use Rattle.bp_trail.specs.Lists.{without}
use Rattle.bp_check.proofs.Reversed.{ended, given}
use Rattle.bp_check.proofs.residents.Residents.pass_on.Goals as goal
use Rattle.bp_check.proofs.residents.Residents.pass_on.Goals.{in-Some, in_default}

pub returns-in_ok-push : goal.returns-in_ok-push
returns-in_ok-push c =
    let left : reverse c.match-leaves.self-inside.pages.items ≡ without (λ (q : ℕ). q) c.args.leaves c.args.self.now =
    elim c.match-leaves.branch [
      | in-Some w ↦ rw (w.self-inside-is, w.in-Some.is)
          (ended (λ (q : ℕ). q) w.in-Some.page c.self.inside.pages.items w.retain.new.self.items c.args.self.now
          (filter_same _ (λ (q : ℕ). not (q == w.in-Some.page)) _ (λ x b f k. search rules) _ _ w.retain.ensures.filtered) c.self.view_is)
      | in_default w ↦ rw (w.self-inside-is, w.in_default.is) c.self.view_is
    ] in
    given (λ (q : ℕ). q) c.args.leaves c.args.loaded c.in-Some-loaded.page c.match-leaves.self-inside.pages.items c.push.new.self.items c.args.self.now
    c.in_ok-push.ensures.items c.in-Some-loaded.is left

pub returns-in_default-loaded : goal.returns-in_default-loaded
returns-in_default-loaded c =
    rw c.in_default-loaded.is
    (elim c.match-leaves.branch [
      | in-Some w ↦ rw (w.self-inside-is, w.in-Some.is)
          (ended (λ (q : ℕ). q) w.in-Some.page c.self.inside.pages.items w.retain.new.self.items c.args.self.now
          (filter_same _ (λ (q : ℕ). not (q == w.in-Some.page)) _ (λ x b f k. search rules) _ _ w.retain.ensures.filtered) c.self.view_is)
      | in_default w ↦ rw (w.self-inside-is, w.in_default.is) c.self.view_is
    ])
