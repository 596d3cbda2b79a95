-- The numbers that the lists of a sweep say are within their limits, and there are not too many.
use Rattle.std.proofs.Common.{◌≡◌, ℕ, List, Option, Some, None}
use Rattle.bp_trace.specs.NumberLists.{numbers_listed}
use Rattle.bp_trace.proofs.Listed.{AreListed, listed_are}
use Rattle.bp_cli.specs.Asked.{IsFrames, IsStamps}
use Rattle.bp_cli.specs.Words.{◌>>=◌}

pub frames_listed : (text : Option (List ℕ)) (numbers : List ℕ) → (text >>= numbers_listed 1 65536) ≡ Some numbers → AreListed IsFrames numbers
frames_listed None numbers e = cc
frames_listed (Some text) numbers e = listed_are IsFrames 1 65536 (λ n least most. record { some_frames = least; few_frames = most }) text numbers e

pub ks_listed : (text : Option (List ℕ)) (numbers : List ℕ) → (text >>= numbers_listed 1 16) ≡ Some numbers → AreListed IsStamps numbers
ks_listed None numbers e = cc
ks_listed (Some text) numbers e = listed_are IsStamps 1 16 (λ n least most. record { some_stamps = least; few_stamps = most }) text numbers e
