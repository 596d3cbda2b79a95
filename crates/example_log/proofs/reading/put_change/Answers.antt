use Rattle.std.proofs.Common.{◌∙◌, ◌++◌, ap, ℕ, List}
use Rattle.std.specs.Int.{w64, to_le_bytes}
use Rattle.example_log.proofs.CommitsRead.{put-change}
use Rattle.example_log.proofs.reading.put_change.Goals as goal

pub returns : goal.returns
returns c =
    put-change c.args.into.now.items c.extend_from_slice.new.self.items c.extend_from_slice-2.new.self.items c.extend_from_slice-3.new.self.items c.extend_from_slice-4.new.self.items c.bytes-bytes.result.now c.args.change.now
    (c.in_ok-extend_from_slice.ensures.items ∙ ap (λ (t : List ℕ). c.args.into.now.items ++ t) (c.to_le_bytes.ensures ∙ ap (to_le_bytes w64) c.number.ensures))
    (c.in_ok-extend_from_slice-2.ensures.items ∙ ap (λ (t : List ℕ). c.extend_from_slice.new.self.items ++ t) (c.to_le_bytes-2.ensures ∙ ap (to_le_bytes w64) c.from.ensures))
    (c.in_ok-extend_from_slice-3.ensures.items ∙ ap (λ (t : List ℕ). c.extend_from_slice-2.new.self.items ++ t) c.to_le_bytes-3.ensures)
    c.in_ok-extend_from_slice-4.ensures.items c.bytes-bytes.ensures
