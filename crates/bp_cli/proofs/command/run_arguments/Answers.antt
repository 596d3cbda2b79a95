use Rattle.std.proofs.Common.{◌∙◌, [], ◌∷◌, ap, map, sym, subst, All}
use Rattle.std.proofs.lemmas.List.Elements.{All-from_recursion}
use Rattle.clap.specs.Words.{rule_of}
use Rattle.bp_cli.proofs.Building.{IsLocal}
use Rattle.bp_cli.proofs.command.run_arguments.Goals as goal

pub returns-clause-rules : goal.returns-clause-rules
returns-clause-rules c =
    ap (map rule_of) c.in_ok-arguments.ensures.items
    ∙ (λ i. c.positional.ensures.rule i ∷ c.positional-2.ensures.rule i ∷ c.number_option.ensures.rule i ∷ c.number_option-2.ensures.rule i ∷ c.number_option-3.ensures.rule i ∷ c.number_option-4.ensures.rule i ∷ c.number_option-5.ensures.rule i ∷ c.number_option-6.ensures.rule i ∷ c.word_option.ensures.rule i ∷ c.flag.ensures.rule i ∷ [])

pub returns-clause-local : goal.returns-clause-local
returns-clause-local c =
    subst (All IsLocal) (sym c.in_ok-arguments.ensures.items)
    (All-from_recursion IsLocal (c.positional.result ∷ c.positional-2.result ∷ c.number_option.result ∷ c.number_option-2.result ∷ c.number_option-3.result ∷ c.number_option-4.result ∷ c.number_option-5.result ∷ c.number_option-6.result ∷ c.word_option.result ∷ c.flag.result ∷ [])
    (c.positional.ensures.local, (c.positional-2.ensures.local, (c.number_option.ensures.local, (c.number_option-2.ensures.local, (c.number_option-3.ensures.local, (c.number_option-4.ensures.local, (c.number_option-5.ensures.local, (c.number_option-6.ensures.local, (c.word_option.ensures.local, (c.flag.ensures.local, tt)))))))))))
