-- The write, by the latest pass, which the session holds.
use Rattle.std.proofs.Common.{◌≡◌, Some, sym, ◌∙◌}
use Rattle.bp_scripts.specs.Script.{latest_pass}
use Rattle.bp_replay.proofs.Once.{stays, latest-own}
use Rattle.bp_replay.proofs.Stepping.{IsLatest, write_row, write_known}
use Rattle.bp_replay.proofs.steps.write.Goals as goal

pub returns-clause-same : goal.returns-clause-same
returns-clause-same g c = stays _ _ _ _ _ c.write_from-written.ensures.look.keeps

pub returns-clause-known : goal.returns-clause-known
returns-clause-known g c = write_known _ _ _ _ _ _ _ _ c.write_from-written.ensures.outcome

pub returns-clause-outcome : goal.returns-clause-outcome
returns-clause-outcome g c =
    let found : latest_pass c.args.client.now.session.said c.args.client.now.session.client c.args.page ≡ Some c.in-Some.note = sym c.latest.ensures ∙ c.in-Some.is in
    let latest : IsLatest c.args.client.now.session.said c.args.client.now.session.client c.args.page c.in-Some.note c.pass-pass.result = record { found = found; page_is = c.pass-pass.ensures.page; serial_is = c.pass-pass.ensures.serial } in
    rw (sym c.bytes.ensures)
    (write_row _ _ _ _ _ c.in-Some.note c.pass-pass.result _ _ _ latest (λ no. latest-own c.args.page c.in-Some.note c.pass-pass.result c.args.client.now.session found c.pass-pass.ensures.client c.pass-pass.ensures.page c.pass-pass.ensures.serial (c.write_from-written.ensures.look.unknown no)) c.write_from-written.ensures.outcome)
