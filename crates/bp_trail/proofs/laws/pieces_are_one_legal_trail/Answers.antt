use Rattle.bp_trail.proofs.Cuts.{pieces-joined, reads-since}
use Rattle.bp_trail.proofs.Plain.{plain-in-piece}
use Rattle.bp_trail.proofs.laws.pieces_are_one_legal_trail.Goals as goal

pub returns-clause-joined : goal.returns-clause-joined
returns-clause-joined c = pieces-joined

pub returns-clause-reads : goal.returns-clause-reads
returns-clause-reads c = λ q opening trail legal h leads m known p images due honest. reads-since q m known p h trail (legal h leads) images due honest

pub returns-clause-writes : goal.returns-clause-writes
returns-clause-writes c = λ q m trail h p. plain-in-piece q m p h trail
