-- The spans of a page's references, with one reference more.
use Rattle.std.proofs.Common.{◌≡◌, ℕ, ◌-◌, Bool, true, false, nat_lt, List, [], ◌∷◌, refl}
use Rattle.bp_references.specs.Burst.{Reference, time, is_hit, last_time}
use Rattle.bp_references.specs.Burst.Reference.{hit, fault}
use Rattle.bp_references.proofs.BurstLaws.{newest}
use Rattle.bp_trail.specs.References.{is_empty}
use Rattle.bp_check.specs.Spans.{spans, with_reference, last_of, has_none}

pub last-spans : (c : ℕ) (known : List Reference) → last_of (spans c known) ≡ last_time known
last-spans c [] = refl
last-spans c (r ∷ known) = rw (newest c r known).is refl

pub none-spans : (c : ℕ) (known : List Reference) → has_none (spans c known) ≡ is_empty known
none-spans c [] = refl
none-spans c (r ∷ known) = rw (newest c r known).is refl

-- a reference opens a burst, or stands in the newest one
pub spans-cons : (c : ℕ) (r : Reference) (known : List Reference) → spans c (r ∷ known) ≡ with_reference c (is_hit r) (time r) (spans c known)
spans-cons c (hit t) [] = refl
spans-cons c (fault t) [] = refl
spans-cons c (fault t) (q ∷ known) = let n = newest c q known in rw n.is refl
spans-cons c (hit t) (q ∷ known) = go (nat_lt c (t - time q)) refl
  where
    go : (b : Bool) → nat_lt c (t - time q) ≡ b → spans c (hit t ∷ q ∷ known) ≡ with_reference c true t (spans c (q ∷ known))
    go true e = let n = newest c q known in rw (e, n.is) (rw e refl)
    go false e = let n = newest c q known in rw (e, n.is) (rw e refl)
