use Rattle.std.proofs.Common.{Bor, List, ℕ, rules}
use Rattle.std.proofs.lemmas.Iterator.{YieldsList-from_map_by}
use Rattle.std.proofs.lemmas.Iterator.Consumers.{YieldsList-at, map_from_collect}
use Rattle.std.proofs.lemmas.Iterator.Search.{YieldsList-from_take_while}
use Rattle.std.proofs.lemmas.Iterator.Splits.{YieldsList-from_lines}
use Rattle.bp_cli.specs.Line.{is_filled, unindented}
use Rattle.bp_cli.proofs.line.first_lines.Goals as goal

pub returns : goal.returns
returns c = map_from_collect _ c.collect.ensures.ran
    (YieldsList-from_take_while _ is_filled
    (YieldsList-at c.take_while.ensures.source
    (YieldsList-from_map_by _ (λ (line : Bor (List ℕ)). line.now) unindented
    (YieldsList-at c.map.ensures.source (YieldsList-from_lines c.args.text.now c.lines.ensures.rest))
    c.map.ensures.closure (λ x r q k. search rules)))
    c.take_while.ensures.closure c.take_while.ensures.done (λ x b q k. search rules))
