use Rattle.std.proofs.Common.{rules, ◌≡◌, ◌∙◌, sym, arith, drop}
use Rattle.bp_page.specs.Slots.{page_in}
use Rattle.bp_page.proofs.Header.{IsBytes, headed_slot-of, headed_slot-parts}
use Rattle.bp_page.proofs.slots.unslot2.Goals as goal

pub returns-in-Ok-clause-found : goal.returns-in-Ok-clause-found
returns-in-Ok-clause-found c =
    let bytes : IsBytes c.args.slot.now = λ i. let f = c.type_inv.slot i in omega arith in
    let image : drop 16 c.args.slot.now ≡ c.in-Ok.image = sym (c.in-Ok.ensures ∙ c.split_at.ensures.back) in
    let page : page_in c.args.slot.now ≡ c.args.page =
    sym c.numbers_in-found.ensures.page ∙ sym c.number.ensures ∙ c.if-number.false ∙ c.number-2.ensures in
    headed_slot-of c.args.page c.numbers_in-found.result.1 c.in-Ok.image c.args.slot.now c.requires bytes
    page (sym c.numbers_in-found.ensures.lsn) image

pub returns-in-Ok-clause-written : goal.returns-in-Ok-clause-written
returns-in-Ok-clause-written c lsn image fits spelled =
    let parts = headed_slot-parts c.args.page lsn image c.args.slot.now (search rules) fits spelled in
    let same : c.in-Ok.image ≡ drop 16 c.args.slot.now = c.in-Ok.ensures ∙ c.split_at.ensures.back in
    ((c.numbers_in-found.ensures.lsn ∙ parts.1, same ∙ parts.2), tt)

pub returns-then-number-clause-written : goal.returns-then-number-clause-written
returns-then-number-clause-written c lsn image fits spelled =
    let parts = headed_slot-parts c.args.page lsn image c.args.slot.now (search rules) fits spelled in
    absurd (c.if-number.true (c.number.ensures ∙ c.numbers_in-found.ensures.page ∙ parts.0 ∙ sym c.number-2.ensures))
