use Rattle.std.proofs.Common.{◌≡◌, codes, ◌++◌, take, append_assoc, sym, ◌∙◌}
use Rattle.std.specs.Fmt.{decimal}
use Rattle.std.specs.Io.KnownBytes.{Appends}
use Rattle.std.proofs.KnownBytes.{Appends-trans}
use Rattle.hex.specs.Hex.{encode_lower}
use Rattle.bp_trace.specs.Lines.{read_line}
use Rattle.bp_trace.proofs.Writes.{appends_then, take_to_min}
use Rattle.bp_trace.proofs.lines.write_read.Goals as goal

pub returns : goal.returns
unfolding read_line
returns g c =
    let w = g.W.Write.contents in
    let text = codes "read " ++ (decimal c.args.client ++ (codes " " ++ (decimal c.args.page ++ codes " "))) in
    let first : Appends (w c.args.writer.now) (w c.write.new.self) text = c.in_ok-write.ensures.bytes in
    let shown : take 16 c.args.image.now ≡ c.split_at.result.0.now = take_to_min c.args.image.now 16 c.min.result c.min.ensures ∙ sym c.split_at.ensures.front in
    let second : Appends (w c.write.new.self) (w c.write_hex.new.writer) (encode_lower (take 16 c.args.image.now)) = rw shown c.in_ok-write_hex.ensures in
    appends_then c.writeln.result (w c.args.writer.now) (w c.write_hex.new.writer) (w c.writeln.new.self) (text ++ encode_lower (take 16 c.args.image.now)) (codes "\n") _
    (Appends-trans (w c.args.writer.now) (w c.write.new.self) (w c.write_hex.new.writer) text (encode_lower (take 16 c.args.image.now)) first second) c.writeln.ensures.bytes (simp append_assoc)
