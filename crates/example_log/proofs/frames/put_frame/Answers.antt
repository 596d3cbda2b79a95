use Rattle.std.proofs.Common.{◌∙◌, ◌++◌, ap, ℕ, List}
use Rattle.example_log.proofs.Framing.{put-parts}
use Rattle.example_log.proofs.frames.put_frame.Goals as goal

pub returns : goal.returns
returns c =
    put-parts c.args.into.now.items c.extend_from_slice.new.self.items c.extend_from_slice-2.new.self.items c.extend_from_slice-3.new.self.items c.extend_from_slice-4.new.self.items c.args.lsn c.checksum.result c.args.payload.now
    (c.in_ok-extend_from_slice.ensures.items ∙ ap (λ (t : List ℕ). c.args.into.now.items ++ t) c.to_le_bytes.ensures)
    (c.in_ok-extend_from_slice-2.ensures.items ∙ ap (λ (t : List ℕ). c.extend_from_slice.new.self.items ++ t) c.to_le_bytes-2.ensures)
    (c.in_ok-extend_from_slice-3.ensures.items ∙ ap (λ (t : List ℕ). c.extend_from_slice-2.new.self.items ++ t) c.to_le_bytes-3.ensures)
    c.in_ok-extend_from_slice-4.ensures.items c.checksum.ensures
