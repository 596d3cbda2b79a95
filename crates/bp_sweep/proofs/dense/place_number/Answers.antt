-- The page of a number that came before, and of one that is new.
use Rattle.std.proofs.Common.{◌≡◌, ◌∙◌, nat_eq, ◌∷◌, Some, None}
use Rattle.std.specs.HashMap.{get}
use Rattle.bp_sweep.proofs.Gathering.{finds, adds, index-more}
use Rattle.bp_sweep.proofs.dense.place_number.Goals as goal

pub returns-in-Some : goal.returns-in-Some
returns-in-Some c = λ seen index.
    let value = c.get.ensures.value in
    let copied = c.copied.ensures in
    let is = c.in-Some.is in
    let found : get nat_eq c.args.places.now c.args.number ≡ Some c.in-Some.page = cc in
    (seen, finds c.args.places.now c.args.places.now c.args.number c.in-Some.page seen index found, index)

pub returns-in-Ok : goal.returns-in-Ok
returns-in-Ok c = λ seen index.
    let value = c.get.ensures.value in
    let copied = c.copied.ensures in
    let is = c.in_default.is in
    let missing : get nat_eq c.args.places.now c.args.number ≡ None = cc in
    let old = c.in-Ok.ensures.old ∙ missing in
    let more = rw old at c.in-Ok.ensures.len in (
      c.args.number ∷ seen,
      adds c.args.places.now c.insert.new.self c.args.number c.len-page.result seen index missing c.len-page.ensures.len,
      index-more c.args.places.now c.insert.new.self c.args.number c.len-page.result seen index c.len-page.ensures.len c.if-page-ge-MAX_NUMBERS.false c.in-Ok.ensures.updates.0 more,
    )
