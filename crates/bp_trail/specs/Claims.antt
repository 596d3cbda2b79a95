-- What holds of images in every legal trail.
use Rattle.std.specs.Prelude.{◌≡◌, ℕ, List, Option, true, false, IsSome}
use Rattle.bp_trail.specs.declared.entries.Entry.{Entry}
use Rattle.bp_trail.specs.declared.entries.Call.TheVariants.{ReadEnd, Read}
use Rattle.bp_trail.specs.declared.entries.Reply.TheVariants.{WriteFirst, Content}
use Rattle.bp_trail.specs.Event.{grant}
use Rattle.bp_trail.specs.Trail.{Trail}
use Rattle.bp_trail.specs.Passes.{reads_out}
use Rattle.bp_trail.specs.Places.{resident}
use Rattle.bp_trail.specs.Images.{held, plain_map}
use Rattle.bp_trail.specs.Legal.{is_out}
use Rattle.bp_trail.specs.Device.{due, discarded_since_sent, HonestOf}

-- where each read of a page brought what was due, the page holds the plain map's image while it is
-- resident
abbrev pub HeldIsPlain : Trail → Type 0
HeldIsPlain past =
    (m : ℕ → List ℕ) (p : ℕ) → HonestOf m p past → resident past p ≡ true
    → held past p ≡ plain_map m past p

-- what each read that is out is due to give is known, but of a page that was discarded since its
-- last write-out began
abbrev pub ReadsAreKnown : Trail → Type 0
ReadsAreKnown past =
    (m : ℕ → List ℕ) (who p t : ℕ) → is_out (grant who p t) (reads_out past) ≡ true
    → discarded_since_sent past p ≡ false → IsSome (due m past p)

-- ---- of one entry, and what stands before it

-- a read end finds known what is due, but of such a page
abbrev pub FindsDue : Trail → Entry → Type 0
FindsDue past e =
    (m : ℕ → List ℕ) (t p : ℕ) (image : Option (List ℕ)) → e.call ≡ ReadEnd t p image
    → discarded_since_sent past p ≡ false → IsSome (due m past p)

-- where the device was honest of the page so far, the content that is answered is the plain map's
abbrev pub AnswersPlain : Trail → Entry → Type 0
AnswersPlain past e =
    (m : ℕ → List ℕ) (n p : ℕ) (image : List ℕ) → HonestOf m p past → e.call ≡ Read n p
    → e.reply ≡ Content image → image ≡ plain_map m past p

-- and so is each image that goes out
abbrev pub SendsPlain : Trail → Entry → Type 0
SendsPlain past e =
    (m : ℕ → List ℕ) (t p : ℕ) (image : List ℕ) → HonestOf m p past
    → e.reply ≡ WriteFirst t p image → image ≡ plain_map m past p
