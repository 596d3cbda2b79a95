-- Whole page files of both versions, by the images of their pages, and the writes of a blank one.
use Rattle.std.specs.Prelude.{◌≡◌, ℕ, zero, suc, ◌*◌, Bool, true, List, [], ◌∷◌, ◌++◌, length, replicate, All, Option}
use Rattle.std.specs.Io.KnownBytes.{Consumes, Appends}
use Rattle.bp_page.specs.declared.limits.Geometry.{Geometry}
use Rattle.bp_page.specs.Slots.{raw_slot, headed_slot}
use Rattle.bp_ports.specs.Files.{Transfer, StoreSync, slot_length, slot_of}

-- the slots of images one after the other, of pages numbered from this one on
abbrev pub slots_from : (ℕ → List ℕ → List ℕ) → ℕ → List (List ℕ) → List ℕ
slots_from slot page [] = []
slots_from slot page (image ∷ images) = slot page image ++ slots_from slot (suc page) images

-- a slot of version 1 tells no number, and one of version 2 the page's, here with LSN 0
abbrev pub unnumbered : ℕ → List ℕ → List ℕ
unnumbered page image = raw_slot image

abbrev pub numbered : ℕ → List ℕ → List ℕ
numbered page image = headed_slot page 0 image

-- the files of these images
abbrev pub raw_file : List (List ℕ) → List ℕ
raw_file images = slots_from unnumbered 0 images

abbrev pub headed_file : List (List ℕ) → List ℕ
headed_file images = slots_from numbered 0 images

-- one page was read and written
pub record MigratesPage (page : ℕ) (image : List ℕ)
    (unread left old new : Option (List ℕ)) : Type 0 where
  pub read : Consumes unread left image
  pub written : Appends old new (headed_slot page 0 image)

-- the file of so many images was read, each of the page size, and that of the other version written
pub record Copies (pages size : ℕ) (unread left old new : Option (List ℕ)) : Type 0 where
  pub images : List (List ℕ)
  pub count : length images ≡ pages
  pub sized : All (λ image. length image ≡ size) images
  pub read : Consumes unread left (raw_file images)
  pub written : Appends old new (headed_file images)

abbrev pub Migrates : Geometry → Option (List ℕ) → Option (List ℕ) → Option (List ℕ)
    → Option (List ℕ) → Type 0
Migrates g unread left old new = Copies g.pages g.size unread left old new

-- so many slots from page 0 on were written to a store, one after the other, each with so many
-- bytes 0, and with its page's number and LSN 0 where slots have these
abbrev pub WritesBlank : {S : Type 0} → Transfer S → Bool → ℕ → ℕ → S → S → Type 0
WritesBlank writes headed size zero store after = after ≡ store
WritesBlank {S} writes headed size (suc pages) store after =
    (between : S) × WritesBlank writes headed size pages store between
    × writes between (pages * slot_length headed size) (slot_of headed pages 0 (replicate size 0))
    true after

-- so many slots of a store were written so, then the store was synced, and it was asked for no other
-- read, write or sync
abbrev pub FillsSlots : {S : Type 0} → Transfer S → StoreSync S → Bool → ℕ → ℕ → S → S → Type 0
FillsSlots {S} writes syncs headed size pages store after =
    (filled : S) × WritesBlank writes headed size pages store filled × syncs filled true after

-- the slot of each page was
abbrev pub FillsStore : {S : Type 0} → Transfer S → StoreSync S → Bool → Geometry → S → S → Type 0
FillsStore writes syncs headed geometry store after =
    FillsSlots writes syncs headed geometry.size geometry.pages store after
