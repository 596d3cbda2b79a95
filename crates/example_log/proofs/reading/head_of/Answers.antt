use Rattle.std.proofs.Common.{◌∙◌, ap, List, ℕ, ◌++◌}
use Rattle.example_log.proofs.Heads.{put-head}
use Rattle.example_log.proofs.reading.head_of.Goals as goal

pub returns : goal.returns
returns c =
    put-head c.new-head.result.items c.extend_from_slice.new.self.items c.extend_from_slice-2.new.self.items c.extend_from_slice-3.new.self.items c.extend_from_slice-4.new.self.items c.args.size c.args.device.now.pages c.args.device.now.size c.args.table.now c.new-head.ensures.items
    (c.in_ok-extend_from_slice.ensures.items ∙ ap (λ (t : List ℕ). c.new-head.result.items ++ t) c.to_le_bytes.ensures)
    (c.in_ok-extend_from_slice-2.ensures.items ∙ ap (λ (t : List ℕ). c.extend_from_slice.new.self.items ++ t) c.to_le_bytes-2.ensures)
    (c.in_ok-extend_from_slice-3.ensures.items ∙ ap (λ (t : List ℕ). c.extend_from_slice-2.new.self.items ++ t) c.to_le_bytes-3.ensures)
    c.in_ok-extend_from_slice-4.ensures.items
