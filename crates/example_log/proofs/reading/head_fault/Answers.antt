use Rattle.std.proofs.Common.{◌∙◌, sym}
use Rattle.std.proofs.lemmas.Slice.Eq.{bytes_eq-Decides}
use Rattle.example_log.specs.Heads.HeadFault.{other_table, other_size, other_pages}
use Rattle.example_log.proofs.Heads.{unnot, untrue}
use Rattle.example_log.proofs.reading.head_fault.Goals as goal

pub returns-then-ne : goal.returns-then-ne
returns-then-ne c = λ differs. other_table (λ e. untrue _ ((bytes_eq-Decides _ _).1 (c.split_front.ensures.rest ∙ e ∙ sym c.split_front-2.ensures.rest)) (sym c.ne.ensures ∙ c.if-ne.true))

pub returns-then-ne-2 : goal.returns-then-ne-2
returns-then-ne-2 c = λ differs.
    other_size (sym c.split_front.ensures.rest ∙ (bytes_eq-Decides _ _).0 (unnot _ (sym c.ne.ensures ∙ c.if-ne.false)) ∙ c.split_front-2.ensures.rest)
    (λ e. untrue _ ((bytes_eq-Decides _ _).1 (c.split_front-3.ensures.front ∙ e ∙ sym c.split_front-4.ensures.front)) (sym c.ne-2.ensures ∙ c.if-ne-2.true))

pub returns : goal.returns
returns c = λ differs.
    other_pages (sym c.split_front.ensures.rest ∙ (bytes_eq-Decides _ _).0 (unnot _ (sym c.ne.ensures ∙ c.if-ne.false)) ∙ c.split_front-2.ensures.rest)
    (sym c.split_front-3.ensures.front ∙ (bytes_eq-Decides _ _).0 (unnot _ (sym c.ne-2.ensures ∙ c.if-ne-2.false)) ∙ c.split_front-4.ensures.front) differs
