use Rattle.bp_trail.proofs.Places.{places}
use Rattle.bp_trail.proofs.Residents.{frames}
use Rattle.bp_trail.proofs.LegalLaws.{once, pinned-resident}
use Rattle.std.proofs.lemmas.Bool.{ltb-true}
use Rattle.bp_trail.proofs.Ranges.{ranges}
use Rattle.bp_trail.proofs.laws.pages_have_one_place.Goals as goal

pub returns-clause-once : goal.returns-clause-once
returns-clause-once c = once

pub returns-clause-loading_is_away : goal.returns-clause-loading_is_away
returns-clause-loading_is_away c = λ p past q l. (places p past l).away q

pub returns-clause-pinned_is_here : goal.returns-clause-pinned_is_here
returns-clause-pinned_is_here c = pinned-resident

pub returns-clause-unsaved_is_here : goal.returns-clause-unsaved_is_here
returns-clause-unsaved_is_here c = λ p past q l. (places p past l).dirty q

pub returns-clause-within_frames : goal.returns-clause-within_frames
returns-clause-within_frames c = λ p past l. (frames p past l).within

pub returns-clause-resident_in_range : goal.returns-clause-resident_in_range
returns-clause-resident_in_range c = λ p past q l here. ltb-true _ _ ((ranges p past l).pages q here)

pub returns-clause-loading_in_range : goal.returns-clause-loading_in_range
returns-clause-loading_in_range c = λ p past q l here. ltb-true _ _ ((ranges p past l).reads q here)
