-- A line is no reference, or its number comes in.
use Rattle.std.proofs.Common.{arith}
use Rattle.bp_sweep.proofs.Gathering.{holds-count, holds-more, place-fails, says-none, says-too-much}
use Rattle.bp_sweep.proofs.dense.Gathered.add.Goals as goal

pub returns-then-len-ge-MAX_REFERENCES : goal.returns-then-len-ge-MAX_REFERENCES
returns-then-len-ge-MAX_REFERENCES c = λ numbers seen holds.
    says-too-much c.args.line numbers seen c.args.said c.new.result (omega (arith, c.if-len-ge-MAX_REFERENCES.true, c.len.ensures, holds-count c.args.self.now numbers seen holds)) c.new.ensures.line c.new.ensures.why

pub returns-in-Err : goal.returns-in-Err
returns-in-Err c = λ numbers seen holds.
    says-none c.args.line numbers seen c.args.said c.in-Err.why c.new-in-Err.result (omega (arith, c.if-len-ge-MAX_REFERENCES.false, c.len.ensures, holds-count c.args.self.now numbers seen holds)) c.in-Err.is c.new-in-Err.ensures.line c.new-in-Err.ensures.why

pub returns-in-Err-place_number : goal.returns-in-Err-place_number
returns-in-Err-place_number c = λ numbers seen holds.
    place-fails c.args.line c.in-Ok.number numbers seen c.args.said c.in-Err-place_number.why c.place_number.new.places c.new-in-Err-place_number.result
    (omega (arith, c.if-len-ge-MAX_REFERENCES.false, c.len.ensures, holds-count c.args.self.now numbers seen holds)) c.in-Ok.is (c.in-Err-place_number.ensures seen holds.index) c.new-in-Err-place_number.ensures.line c.new-in-Err-place_number.ensures.why

pub returns-in-Ok-push : goal.returns-in-Ok-push
returns-in-Ok-push c = λ numbers seen holds.
    let (newer, comes, index) = c.in-Ok-place_number.ensures seen holds.index in (
      c.in-Ok.number,
      newer,
      c.in-Ok.is,
      holds-more c.args.self.now (record { pages = c.push.new.self; places = c.place_number.new.places }) numbers seen newer c.in-Ok.number c.in-Ok-place_number.page holds
          (omega (arith, c.if-len-ge-MAX_REFERENCES.false, c.len.ensures)) comes index c.in-Ok-push.ensures.items,
    )
