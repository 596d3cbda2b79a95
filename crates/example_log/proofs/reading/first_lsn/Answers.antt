use Rattle.std.proofs.Common.{◌≡◌, ◌++◌, inr, sym, ◌∙◌}
use Rattle.example_log.specs.Frames.{IsRecord, NoFrame, frame}
use Rattle.example_log.proofs.Framing.{frame-same}
use Rattle.example_log.proofs.Heads.{some-of, none-of}
use Rattle.example_log.proofs.reading.first_lsn.Goals as goal

pub returns-in-Some-clause-first : goal.returns-in-Some-clause-first
returns-in-Some-clause-first c = λ lsn payload rest fit e.
    (let told = some-of c.in_ok-found.field-0 c.in-Some.found (λ f. c.args.bytes.now ≡ frame f.lsn f.payload.now ++ f.rest.now) c.in-Some.is c.in_ok-found.ensures.some in
    let range = some-of c.in_ok-found.field-0 c.in-Some.found (λ f. IsRecord f.lsn f.payload.now) c.in-Some.is c.in_ok-found.ensures.range in
    let is = some-of c.in_ok-found.field-0 c.in-Some.found (λ f. f.payload.now ≡ c.args.head.now) c.in-Some.is c.in_ok-found.ensures.same in
    let same = frame-same lsn c.in-Some.found.lsn payload c.in-Some.found.payload.now rest c.in-Some.found.rest.now fit range (sym e ∙ told) in
    (same.0, same.1 ∙ is))

pub returns-in-None-clause-first : goal.returns-in-None-clause-first
returns-in-None-clause-first c = λ lsn payload rest fit e.
    absurd (none-of c.in_ok-found.field-0 (NoFrame c.args.bytes.now) c.in-None.is c.in_ok-found.ensures.none lsn payload rest fit e)

pub returns-in-Some-clause-stands : goal.returns-in-Some-clause-stands
returns-in-Some-clause-stands c =
    inr (
      c.in-Some.found.payload.now,
      c.in-Some.found.rest.now,
      some-of c.in_ok-found.field-0 c.in-Some.found (λ f. IsRecord f.lsn f.payload.now) c.in-Some.is c.in_ok-found.ensures.range,
      some-of c.in_ok-found.field-0 c.in-Some.found (λ f. c.args.bytes.now ≡ frame f.lsn f.payload.now ++ f.rest.now) c.in-Some.is c.in_ok-found.ensures.some,
    )
