use Rattle.bp_trail.specs.Device.{all_known}
use Rattle.bp_trail.proofs.Content.{held-plain, honest-of}
use Rattle.bp_trail.proofs.LegalLaws.{each-answers, each-sends}
use Rattle.bp_trail.proofs.laws.pages_hold_the_plain_map.Goals as goal

pub returns-clause-held : goal.returns-clause-held
returns-clause-held c = λ p past l m q honest here. held-plain p m past q l honest here

pub returns-clause-content : goal.returns-clause-content
returns-clause-content c = each-answers

pub returns-clause-sent : goal.returns-clause-sent
returns-clause-sent c = each-sends

pub returns-clause-each_page : goal.returns-clause-each_page
returns-clause-each_page c = λ m p past honest. honest-of (all_known m) p past honest
