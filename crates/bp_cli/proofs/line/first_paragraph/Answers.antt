use Rattle.std.proofs.Common.{◌∙◌, Bor, List, ℕ, ap, codes, map}
use Rattle.std.specs.List.{join_by}
use Rattle.bp_cli.proofs.OneLine.{join-texts}
use Rattle.bp_cli.proofs.line.first_paragraph.Goals as goal

pub returns : goal.returns
returns c = c.in_ok-line.ensures.ok
    ∙ join-texts (codes " ") c.as_slice.result.now
    ∙ ap (λ (lines : List (Bor (List ℕ))). join_by (λ line. line) (codes " ") (map (λ line. line.now) lines)) c.as_slice.ensures.value
    ∙ ap (join_by (λ line. line) (codes " ")) c.in_ok-lines.ensures
