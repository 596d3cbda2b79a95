use Rattle.std.proofs.Common.{◌==◌, ap, sym, ◌∙◌, bit_and, bit_or, ◌-◌, ◌^◌}
use Rattle.std.specs.Prelude.{if◌then◌else◌}
use Rattle.std.proofs.lemmas.Nat.{one_shl}
use Rattle.bp_frames.specs.PageSets.{is_set}
use Rattle.bp_frames.proofs.Bits.{set-bit, clear-bit}
use Rattle.bp_frames.proofs.bit_row.with_bit.Goals as goal

pub returns-then-is_in : goal.returns-then-is_in
returns-then-is_in c = λ i lt.
    ap (λ mask. is_set (bit_or c.args.word mask) i) (one_shl c.args.bit 64 c.requires)
    ∙ set-bit c.args.word c.args.bit i c.requires
    ∙ sym (ap (λ b. if i == c.args.bit then b else is_set c.args.word i) c.if-is_in.true)

pub returns-else-is_in : goal.returns-else-is_in
returns-else-is_in c = λ i lt.
    ap (λ mask. is_set (bit_and c.args.word (2 ^ 64 - 1 - mask)) i) (one_shl c.args.bit 64 c.requires)
    ∙ clear-bit c.args.word c.args.bit i c.requires lt
    ∙ sym (ap (λ b. if i == c.args.bit then b else is_set c.args.word i) c.if-is_in.false)
