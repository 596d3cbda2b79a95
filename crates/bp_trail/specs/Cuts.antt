-- A trail that is handed out piece by piece: each piece opens where the ones before it led.
use Rattle.std.specs.Prelude.{◌≡◌, ℕ, true, List, [], ◌∷◌, ◌++◌, Option, Some}
use Rattle.bp_trail.specs.declared.entries.Entry.{Entry}
use Rattle.bp_trail.specs.declared.entries.Call.TheVariants.{Read}
use Rattle.bp_trail.specs.declared.entries.Reply.TheVariants.{Content}
use Rattle.bp_trail.specs.Parameters.{Parameters}
use Rattle.bp_trail.specs.Lists.{EachEntry}
use Rattle.bp_trail.specs.Trail.{Trail}
use Rattle.bp_trail.specs.Places.{resident}
use Rattle.bp_trail.specs.Images.{held, plain_since}
use Rattle.bp_trail.specs.Legal.{Legal}
use Rattle.bp_trail.specs.Device.{HonestOfSince}
use Rattle.bp_trail.specs.Standing.{Standing, standing}

-- h may be what came before a trail that opens from this standing
pub record Precedes (c : Parameters) (opening : Standing) (h : Trail) : Type 0 where
  pub legal : Legal c h
  pub leads_to : standing c h ≡ opening

-- P of the trail with each history before it that it may have
abbrev pub AfterEach : Parameters → Standing → Trail → (Trail → Type 0) → Type 0
AfterEach c opening trail P = (h : Trail) → Precedes c opening h → P (trail ++ h)

-- what the trail opens from, it goes on from lawfully, and leads to the next standing
abbrev pub LeadsOn : Parameters → Standing → Trail → Standing → Type 0
LeadsOn c opening trail next = AfterEach c opening trail (Precedes c next)

-- pieces of a trail, the newest first, each with the standing that it opens from: that where the
-- one before it led, and the first that of no entries
pub record Piece : Type 0 where
  pub opening : Standing
  pub trail : Trail

abbrev pub Chained : Parameters → List Piece → Standing → Type 0
Chained c [] next = next ≡ standing c []
Chained c (piece ∷ older) next =
    record {
      here : LeadsOn c piece.opening piece.trail next;
      before : Chained c older piece.opening;
    }

abbrev pub joined : List Piece → Trail
joined [] = []
joined (piece ∷ older) = piece.trail ++ joined older

-- a read of p answers the image of the plain map
abbrev pub AnswersBy : (ℕ → List ℕ) → (ℕ → Option (List ℕ)) → ℕ → Trail → Entry → Type 0
AnswersBy m known p past e =
    (n : ℕ) (image : List ℕ) → e.call ≡ Read n p → e.reply ≡ Content image
    → image ≡ plain_since m known past p

-- Each read of p since answers by each plain map that begins with the image held at the opening,
-- over a device that was honest of p since. At the opening the device was due to give this image
-- too, where that is known. If p was unsaved then, and is discarded before it is written out, it is
-- not: then nothing is asked of the next read of p, and the plain map takes what it brings
abbrev pub ReadsSince : Parameters → Standing → Trail → Type 0
ReadsSince c opening trail =
    (h : Trail) → Precedes c opening h → (m : ℕ → List ℕ) (known : ℕ → Option (List ℕ)) (p : ℕ)
    → (resident h p ≡ true → m p ≡ held h p)
    → ((image : List ℕ) → known p ≡ Some image → image ≡ m p) → HonestOfSince known p trail
    → EachEntry (AnswersBy m known p) trail
