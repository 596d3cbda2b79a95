-- The bytes of each page.
use Rattle.std.specs.Prelude.{ℕ, if◌then◌else◌, List, [], ◌∷◌, Option, Some, None}
use Rattle.bp_trail.specs.declared.entries.Entry.{Entry}
use Rattle.bp_trail.specs.Trail.{Trail}
use Rattle.bp_trail.specs.Event.{discards, loads, written, image_read}
use Rattle.bp_trail.specs.Device.{due_since, all_known}

-- the image of p that was loaded, with the writes since
abbrev pub held : Trail → ℕ → List ℕ
held [] p = []
held (e ∷ past) p = if loads p e then image_read e.call else written p e (held past p)

-- the writes of the trail put into a map of pages to images
abbrev pub written_into : (ℕ → List ℕ) → Trail → ℕ → List ℕ
written_into m [] p = m p
written_into m (e ∷ past) p = written p e (written_into m past p)

-- ---- the plain map: what a reader would see with no pool. A write patches its page. A discarded page
-- goes back to what the device is due to give of it. Where that is not known, the page is what the
-- next good read brings

abbrev pub after_discard : (due : Option (List ℕ)) → List ℕ → List ℕ
after_discard None image = image
after_discard (Some due) image = due

abbrev pub after_read : (due : Option (List ℕ)) → (read image : List ℕ) → List ℕ
after_read None read image = read
after_read (Some due) read image = image

-- the image of p after an entry that found it as `image`, when `due` was due
abbrev pub plain_with : ℕ → Entry → Option (List ℕ) → List ℕ → List ℕ
plain_with p e due image =
    if discards p e then after_discard due image
    else if loads p e then after_read due (image_read e.call) image
    else written p e image

-- since an opening at which the pages were those of m, and the device was due to give `known`
abbrev pub plain_since : (ℕ → List ℕ) → (ℕ → Option (List ℕ)) → Trail → ℕ → List ℕ
plain_since m known [] p = m p
plain_since m known (e ∷ past) p =
    plain_with p e (due_since known past p) (plain_since m known past p)

-- a map of pages to images, all of them on the device, after the entries of the trail
abbrev pub plain_map : (ℕ → List ℕ) → Trail → ℕ → List ℕ
plain_map m past p = plain_since m (all_known m) past p
