-- Passes that a session gives back.
use Rattle.std.specs.Prelude.{◌≡◌, List, ◌∷◌, All}
use Rattle.bp_trail.specs.Event.{Grant}
use Rattle.bp_trail.specs.Trail.{Trail}
use Rattle.bp_trail.specs.HeldPasses.{held_passes, unfix_of}

-- some of the passes held, which are one client's, go back, that taken first before the others
pub data GoBack : Trail → Trail → Type 0 where
  no_more : {said : Trail} → GoBack said said
  one_more : {said after : Trail} (g : Grant) (later : List Grant) → GoBack said after
      → held_passes after ≡ g ∷ later → All (λ h. h.client ≡ g.client) later
      → GoBack said (unfix_of g ∷ after)
