-- The bytes of a page in its file.
use Rattle.std.specs.Prelude.{ℕ, ◌+◌, List, ◌++◌}
use Rattle.byteorder.specs.Endian.{little_number, little_bytes}
use Rattle.bp_page.specs.declared.slots.Format.{Format}
use Rattle.bp_page.specs.declared.slots.Format.TheVariants.{Plain, Headed}

-- a slot of version 1: the image as it is
abbrev pub raw_slot : List ℕ → List ℕ
raw_slot image = image

-- a slot of version 2: the page number and the page LSN, eight bytes each and little end first, and
-- then the image
unfoldable pub headed_slot : ℕ → ℕ → List ℕ → List ℕ
headed_slot page lsn image = little_bytes 8 page ++ little_bytes 8 lsn ++ image

-- the page number that stands in a slot of version 2
abbrev pub page_in : List ℕ → ℕ
page_in slot = little_number 8 slot

-- the bytes of a slot of each version
abbrev pub slot_size : Format → ℕ → ℕ
slot_size Plain size = size
slot_size Headed size = 16 + size
