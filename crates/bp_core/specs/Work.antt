-- Which work a driver had its device do, by the entries that it added. What a port says of its
-- calls, `reads` and `writes`, leads from the port as it was to the port as it is.
use Rattle.std.specs.Prelude.{◌≡◌, ℕ, Bool, List, [], ◌∷◌, ◌++◌, replicate, Option, Some, None, Result, Ok}
use Rattle.std.specs.Prelude.{Err}
use Rattle.std.specs.Result.{is_ok}
use Rattle.bp_page.specs.declared.refusals.PortFault.{PortFault}
use Rattle.bp_page.specs.declared.refusals.PortFault.TheVariants.{Memory}
use Rattle.bp_trail.specs.declared.entries.Call.{Call}
use Rattle.bp_trail.specs.declared.entries.Call.TheVariants.{ReadEnd, WriteEnd}
use Rattle.bp_trail.specs.declared.entries.Reply.{Reply}
use Rattle.bp_trail.specs.declared.entries.Reply.TheVariants.{WriteFirst}
use Rattle.bp_trail.specs.Saved.{page_lsn}
use Rattle.bp_trail.specs.Trail.{Trail}
use Rattle.bp_trail.specs.Ends.{read_failure}
use Rattle.bp_core.specs.CoreView.{CoreView}
use Rattle.bp_core.specs.Added.{Ends, with_piece}

-- by a read of a page, with this result; by a write of a page, with its image, page LSN and result
abbrev pub Reads : Type 0 → Type 1
Reads A = A → ℕ → Result (List ℕ) PortFault → A → Type 0

abbrev pub Writes : Type 0 → Type 1
Writes A = A → ℕ → List ℕ → ℕ → Result (Unit {0}) PortFault → A → Type 0

-- an image of so many bytes 0, or no memory for it
abbrev pub IsBlank : ℕ → Result (List ℕ) PortFault → Type 0
IsBlank size (Ok image) = image ≡ replicate size 0
IsBlank size (Err Memory) = Unit {0}
IsBlank size (Err fault) = ⊥

-- a page that is made in place of a read: the port is not asked
abbrev pub MadeBlank : {A : Type 0} → ℕ → A → ℕ → Result (List ℕ) PortFault → A → Type 0
MadeBlank size port page found after = IsBlank size found × (after ≡ port)

-- the image that a read brought
abbrev pub image_found : Result (List ℕ) PortFault → Option (List ℕ)
image_found (Ok image) = Some image
image_found (Err fault) = None

-- a read that brought none is answered by its fault
abbrev pub IsAnswered : Result (List ℕ) PortFault → Reply → Type 0
IsAnswered (Ok image) reply = Unit {0}
IsAnswered (Err fault) reply = reply ≡ read_failure fault

-- the page was read, and its end has what was found
pub record IsRead {A : Type 0} (reads : Reads A) (page : ℕ) (image : Option (List ℕ))
    (reply : Reply) (port after : A) : Type 0 where
  pub found : Result (List ℕ) PortFault
  pub gave : reads port page found after
  pub image_is : image ≡ image_found found
  pub answered : IsAnswered found reply

-- the page was written, with the image of the write-out that had just begun and the page LSN, and
-- its end says whether that was good
pub record IsWritten {A : Type 0} (writes : Writes A) (past : Trail) (ticket page : ℕ) (good : Bool)
    (port after : A) : Type 0 where
  pub image : List ℕ
  pub began : Ends (WriteFirst ticket page image) past
  pub written : Result (Unit {0}) PortFault
  pub gave : writes port page image (page_lsn past page) written after
  pub good_is : good ≡ is_ok written

-- the work of one entry after these: the read or the write that it ends, and none for any other
abbrev pub Works : {A : Type 0} → Reads A → Writes A → Trail → Call → Reply → A → A → Type 0
Works reads writes past (ReadEnd ticket page image) reply port after =
    IsRead reads page image reply port after
Works reads writes past (WriteEnd ticket page good) reply port after =
    IsWritten writes past ticket page good port after
Works reads writes past _ reply port after = after ≡ port

-- that of the entries of a piece, from the oldest
abbrev pub WorksThrough : {A : Type 0} → Reads A → Writes A → Trail → Trail → A → A → Type 0
WorksThrough reads writes past [] port after = after ≡ port
WorksThrough {A} reads writes past (e ∷ older) port after =
    (mid : A) × WorksThrough reads writes past older port mid
    × Works reads writes (older ++ past) e.call e.reply mid after

-- the device did the work of the entries that were added, in their order, and nothing else
pub record DoesWork {A : Type 0} (reads : Reads A) (writes : Writes A) (old : CoreView) (port : A)
    (new : CoreView) (after : A) : Type 0 where
  pub piece : Trail
  pub is : new ≡ with_piece old piece
  pub through : WorksThrough reads writes old.past piece port after
