-- What came before the end of a trail.
use Rattle.std.proofs.Common.{List, [], ◌∷◌, ◌++◌}
use Rattle.bp_trail.specs.Parameters.{Parameters}
use Rattle.bp_trail.specs.Lists.{EachEntry}
use Rattle.bp_trail.specs.Trail.{Trail}
use Rattle.bp_trail.specs.Legal.{Legal}

pub legal-before : (c : Parameters) (s h : Trail) → Legal c (s ++ h) → Legal c h
legal-before c [] h l = l
legal-before c (e ∷ s) h l = legal-before c s h l.before

-- an earlier part keeps what each entry of the whole keeps
pub each_before : {X : Type 0} (P : List X → X → Type 0) (newer past : List X) → EachEntry P (newer ++ past) → EachEntry P past
each_before P [] past h = h
each_before P (e ∷ newer) past h = each_before P newer past h.before
