use Rattle.std.proofs.Common.{◌∙◌, [], ◌∷◌, ap, map, sym, subst, All}
use Rattle.std.proofs.lemmas.List.Elements.{All-from_recursion}
use Rattle.clap.specs.Words.{rule_of}
use Rattle.bp_cli.proofs.Building.{IsLocal}
use Rattle.bp_cli.proofs.command.sweep_arguments.Goals as goal

pub returns-clause-rules : goal.returns-clause-rules
returns-clause-rules c =
    ap (map rule_of) c.in_ok-arguments.ensures.items
    ∙ (λ i. c.positional.ensures.rule i ∷ c.bare_word.ensures.rule i ∷ c.word_option.ensures.rule i ∷ c.number_option.ensures.rule i ∷ c.bare_number.ensures.rule i ∷ c.bare_word-2.ensures.rule i ∷ [])

pub returns-clause-local : goal.returns-clause-local
returns-clause-local c =
    subst (All IsLocal) (sym c.in_ok-arguments.ensures.items)
    (All-from_recursion IsLocal (c.positional.result ∷ c.bare_word.result ∷ c.word_option.result ∷ c.number_option.result ∷ c.bare_number.result ∷ c.bare_word-2.result ∷ [])
    (c.positional.ensures.local, (c.bare_word.ensures.local, (c.word_option.ensures.local, (c.number_option.ensures.local, (c.bare_number.ensures.local, (c.bare_word-2.ensures.local, tt)))))))
