-- The read, by the latest pass, which the session holds.
use Rattle.std.proofs.Common.{◌≡◌, Some, sym, ◌∙◌, []}
use Rattle.bp_scripts.specs.Script.{latest_pass}
use Rattle.bp_replay.proofs.Once.{stays, latest-own}
use Rattle.bp_replay.proofs.Stepping.{IsLatest, read_row, read_known}
use Rattle.bp_replay.proofs.steps.read.Goals as goal

pub returns-clause-same : goal.returns-clause-same
returns-clause-same g c = stays _ _ _ _ _ c.read_into-read.ensures.look.keeps

pub returns-clause-known : goal.returns-clause-known
returns-clause-known g c = read_known c.args.client.now.session.client c.pass-pass.result c.read_into-read.result [] c.read_into-read.new.into c.args.client.now.session.said c.read_into-read.new.session.said c.read_into-read.ensures.outcome

pub returns-clause-outcome : goal.returns-clause-outcome
returns-clause-outcome g c =
    let found : latest_pass c.args.client.now.session.said c.args.client.now.session.client c.args.page ≡ Some c.in-Some.note = sym c.latest.ensures ∙ c.in-Some.is in
    let latest : IsLatest c.args.client.now.session.said c.args.client.now.session.client c.args.page c.in-Some.note c.pass-pass.result = record { found = found; page_is = c.pass-pass.ensures.page; serial_is = c.pass-pass.ensures.serial } in
    read_row c.args.client.now.session.client c.args.page c.in-Some.note c.pass-pass.result c.read_into-read.result [] c.read_into-read.new.into c.args.client.now.session.said c.read_into-read.new.session.said latest (λ no. latest-own c.args.page c.in-Some.note c.pass-pass.result c.args.client.now.session found c.pass-pass.ensures.client c.pass-pass.ensures.page c.pass-pass.ensures.serial (c.read_into-read.ensures.look.unknown no)) c.read_into-read.ensures.outcome
