use Rattle.std.proofs.Common.{[], rules, arith, refl}
use Rattle.bp_trail.specs.Clients.{of_client}
use Rattle.bp_trail.proofs.OfClient.{of_client-append, of_client-hit, of_client-miss}
use Rattle.bp_check.proofs.Comparing.{agree_more, agree_skip, agree_fail}
use Rattle.bp_check.proofs.agreement.agrees.Goals as goal
use Rattle.bp_check.proofs.agreement.agrees.Goals.{then-e-client+else-not-is_next, else-e-client}

pub returns-then-not-is_next : goal.returns-then-not-is_next
returns-then-not-is_next c =
    let i = c.loop-e.invariant in
    let give = of_client c.args.client in (
      (λ no. absurd (search rules)),
      λ all. c.if-not-is_next.ensures.1
          (agree_fail give _ _ _ _ _ _ _ (of_client-append c.args.client) c.loop-e-test.true c.e-item.is (of_client-hit _ _ [] c.if-e-client.true) i.0 i.1 all),
    )

pub loop-e-preserved : goal.loop-e-preserved
loop-e-preserved c =
    let i = c.loop-e.invariant in
    let give = of_client c.args.client in
    let parts = of_client-append c.args.client in
    elim c.if-e-client.branch [
      | then-e-client+else-not-is_next w ↦
          let h = w.if-not-is_next.ensures.0 refl in
          rw w.at-is (omega (arith, h.0), agree_more give _ _ _ _ _ _ _ parts c.loop-e-test.true c.e-item.is (of_client-hit _ _ [] w.if-e-client.true) h.0 h.1 i.1)
      | else-e-client w ↦ rw w.at-is (i.0, agree_skip give _ _ _ _ _ _ parts c.loop-e-test.true c.e-item.is (of_client-miss _ _ [] w.if-e-client.false) i.1)
    ]
