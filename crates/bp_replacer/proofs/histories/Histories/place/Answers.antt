use Rattle.std.proofs.Common.{◌≡◌, true, Option, None, Some, is_some, unwrap_or, refl, ap, ◌∙◌, subst}
use Rattle.std.proofs.lemmas.Bool.{false≢true}
use Rattle.bp_replacer.specs.declared.histories.Block.{Block}
use Rattle.bp_replacer.specs.Histories.{has_block, find_block, no_block}
use Rattle.bp_replacer.proofs.KeptLaws.{number, some_number}
use Rattle.bp_replacer.proofs.histories.Histories.place.Goals as goal

some_is : (c : goal.After-copied) → is_some c.copied.result ≡ has_block c.args.self.now c.args.page
some_is c =
    let is : c.copied.result ≡ number c.self.inside.places.entries c.args.page = c.copied.ensures ∙ c.get.ensures.value ∙ ap (number c.self.inside.places.entries) c.number.ensures in
    ap is_some is ∙ subst (λ h. is_some (number c.self.inside.places.entries c.args.page) ≡ has_block h c.args.page) c.self.view_is (some_number c.self.inside.blocks.slots c.self.inside.places.entries c.args.page)

pub returns-clause-some : goal.returns-clause-some
returns-clause-some c = some_is c

-- what is held has a block
held_some : (o : Option Block) → (unwrap_or o no_block).held ≡ true → is_some o ≡ true
held_some None held = absurd (false≢true held)
held_some (Some b) held = refl

pub returns-clause-held : goal.returns-clause-held
returns-clause-held c = λ held. some_is c ∙ held_some (find_block c.args.self.now.entries c.args.page) held
