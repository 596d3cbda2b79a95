-- Worked trails with discards, oldest first, and what the definitions say after them.
use Rattle.std.proofs.Common.{◌≡◌, refl, inl, ℕ, List, [], ◌∷◌, replicate, reverse, filter_map, Option, Some, None, true, false}
use Rattle.bp_references.specs.Burst.Reference.{fault}
use Rattle.bp_trail.specs.declared.entries.Entry.{Entry}
use Rattle.bp_trail.specs.declared.entries.Call.{Call}
use Rattle.bp_trail.specs.declared.entries.Call.TheVariants.{Tick, Mark, Fix, ReadEnd, WriteEnd, Read, Write, Unfix, Flush, Discard}
use Rattle.bp_trail.specs.declared.entries.Reply.{Reply}
use Rattle.bp_trail.specs.declared.entries.Reply.TheVariants.{Done, Hit, Load, WriteFirst, NeedLog, Busy, Fixed, Cleaned, WriteFailed, Content, Absent, Discarded, Pinned}
use Rattle.bp_trail.specs.Parameters.{Parameters}
use Rattle.bp_trail.specs.Lists.{greatest}
use Rattle.bp_trail.specs.Event.{lsn_written}
use Rattle.bp_trail.specs.Trail.{Trail}
use Rattle.bp_trail.specs.Clock.{durable}
use Rattle.bp_trail.specs.Places.{resident}
use Rattle.bp_trail.specs.Saved.{unsaved, page_lsn, first_lsn}
use Rattle.bp_trail.specs.References.{references}
use Rattle.bp_trail.specs.Images.{held, plain_map, plain_since}
use Rattle.bp_trail.specs.Device.{due, discarded_since_sent}
use Rattle.bp_trail.specs.Legal.{Legal}
use Rattle.bp_trail.specs.Totals.{totals_of}
use Rattle.bp_trail.proofs.Rows.{lawful}

-- two frames, LRU-2
abbrev two : Parameters
two = record { frames = 2; k = 2; correlated = 0; retained = 1000; pages = 16; size = 16; clients = 2; room = 100 }

abbrev by : ℕ → Call → Reply → Entry
by client call reply = record { client = client; call = call; reply = reply }

abbrev blank : List ℕ
blank = replicate 16 0

abbrev first_byte : ℕ → List ℕ
first_byte b = b ∷ replicate 15 0

-- all pages blank at the opening
abbrev blanks : ℕ → List ℕ
blanks p = blank

-- the entries but for the newest
abbrev before_last : Trail → Trail
before_last [] = []
before_last (e ∷ past) = past

-- a page with an unsaved write is discarded, though the log is not durable as far
abbrev dropped : Trail
dropped =
    by 0 (Fix 1) (Load 0 None) ∷
    by 0 (ReadEnd 0 1 (Some blank)) (Fixed 0) ∷
    by 0 (Write 0 1 0 (7 ∷ []) 5) Done ∷
    by 1 (Discard 1) Pinned ∷
    by 0 (Unfix 0 1) Done ∷
    by 0 (Flush 1) (NeedLog 5) ∷
    by 1 (Discard 1) Discarded ∷ []

pub dropped-legal : Legal two (reverse dropped)
dropped-legal = record { here = record { client = refl; allowed = refl; reply = inl refl }; before = record { here = record { client = refl; allowed = refl; reply = inl refl }; before = record { here = record { client = refl; allowed = refl; reply = inl refl }; before = record { here = record { client = refl; allowed = refl; reply = inl refl }; before = record { here = record { client = refl; allowed = refl; reply = inl refl }; before = record { here = record { client = refl; allowed = refl; reply = inl refl }; before = record { here = record { client = refl; allowed = refl; reply = inl refl }; before = tt } } } } } } }

-- before the discard, and after it
pub dropped-leaves : (resident (before_last (reverse dropped)) 1 ≡ true) × (resident (reverse dropped) 1 ≡ false)
dropped-leaves = (refl, refl)

pub dropped-is_saved : (unsaved (before_last (reverse dropped)) 1 ≡ true) × (unsaved (reverse dropped) 1 ≡ false)
dropped-is_saved = (refl, refl)

pub dropped-wants_no_redo : (first_lsn (before_last (reverse dropped)) 1 ≡ Some 5) × (first_lsn (reverse dropped) 1 ≡ None)
dropped-wants_no_redo = (refl, refl)

pub dropped-is_forgotten : (references two (before_last (reverse dropped)) 1 ≡ fault 1 ∷ []) × (references two (reverse dropped) 1 ≡ [])
dropped-is_forgotten = (refl, refl)

pub dropped-goes_back : (plain_map blanks (before_last (reverse dropped)) 1 ≡ first_byte 7) × (plain_map blanks (reverse dropped) 1 ≡ blank)
dropped-goes_back = (refl, refl)

pub dropped-counts : ((totals_of dropped).discards ≡ 1) × ((totals_of dropped).refused ≡ 2) × ((totals_of dropped).evictions ≡ 0)
unfolding totals_of
dropped-counts = (refl, refl, refl)

-- it is discarded once more while it is away, and read again
abbrev read_again : Trail
read_again =
    by 0 (Fix 1) (Load 0 None) ∷
    by 0 (ReadEnd 0 1 (Some blank)) (Fixed 0) ∷
    by 0 (Write 0 1 0 (7 ∷ []) 5) Done ∷
    by 0 (Unfix 0 1) Done ∷
    by 1 (Discard 1) Discarded ∷
    by 1 (Discard 1) Absent ∷
    by 0 (Tick 1) Done ∷
    by 0 (Fix 1) (Load 1 None) ∷
    by 1 (Discard 1) Busy ∷
    by 0 (ReadEnd 1 1 (Some blank)) (Fixed 1) ∷
    by 0 (Read 1 1) (Content blank) ∷ []

pub read_again-legal : Legal two (reverse read_again)
read_again-legal = record { here = record { client = refl; allowed = refl; reply = inl refl }; before = record { here = record { client = refl; allowed = refl; reply = inl refl }; before = record { here = record { client = refl; allowed = refl; reply = inl refl }; before = record { here = record { client = refl; allowed = refl; reply = inl refl }; before = record { here = record { client = refl; allowed = refl; reply = inl refl }; before = record { here = record { client = refl; allowed = refl; reply = inl refl }; before = record { here = record { client = refl; allowed = refl; reply = inl refl }; before = record { here = record { client = refl; allowed = refl; reply = inl refl }; before = record { here = record { client = refl; allowed = refl; reply = inl refl }; before = record { here = record { client = refl; allowed = refl; reply = inl refl }; before = record { here = record { client = refl; allowed = refl; reply = inl refl }; before = tt } } } } } } } } } } }

-- it begins with no history, no write, and what the device had
pub read_again-has_one_reference : references two (reverse read_again) 1 ≡ fault 2 ∷ []
read_again-has_one_reference = refl

pub read_again-has_no_lsn : (page_lsn (reverse read_again) 1 ≡ 0) × (unsaved (reverse read_again) 1 ≡ false)
read_again-has_no_lsn = (refl, refl)

pub read_again-is_as_it_was : (held (reverse read_again) 1 ≡ blank) × (plain_map blanks (reverse read_again) 1 ≡ blank)
read_again-is_as_it_was = (refl, refl)

-- it went out before, and was written since
abbrev sent_first : Trail
sent_first =
    by 0 (Fix 1) (Load 0 None) ∷
    by 0 (ReadEnd 0 1 (Some blank)) (Fixed 0) ∷
    by 0 (Write 0 1 0 (7 ∷ []) 5) Done ∷
    by 0 (Mark 5) Done ∷
    by 0 (Flush 1) (WriteFirst 1 1 (first_byte 7)) ∷
    by 1 (Discard 1) Busy ∷
    by 0 (WriteEnd 1 1 true) Cleaned ∷
    by 0 (Write 0 1 0 (8 ∷ []) 6) Done ∷
    by 0 (Unfix 0 1) Done ∷
    by 0 (Discard 1) Discarded ∷ []

pub sent_first-legal : Legal two (reverse sent_first)
sent_first-legal = record { here = record { client = refl; allowed = refl; reply = inl refl }; before = record { here = record { client = refl; allowed = refl; reply = inl refl }; before = record { here = record { client = refl; allowed = refl; reply = inl refl }; before = record { here = record { client = refl; allowed = refl; reply = inl refl }; before = record { here = record { client = refl; allowed = refl; reply = inl refl }; before = record { here = record { client = refl; allowed = refl; reply = inl refl }; before = record { here = record { client = refl; allowed = refl; reply = inl refl }; before = record { here = record { client = refl; allowed = refl; reply = inl refl }; before = record { here = record { client = refl; allowed = refl; reply = inl refl }; before = record { here = record { client = refl; allowed = refl; reply = inl refl }; before = tt } } } } } } } } } }

-- what went out is kept, and no more
pub sent_first-keeps : (plain_map blanks (before_last (reverse sent_first)) 1 ≡ first_byte 8) × (plain_map blanks (reverse sent_first) 1 ≡ first_byte 7)
sent_first-keeps = (refl, refl)

-- its write-out failed before it is discarded: the device has the image or has it not
abbrev not_known : Trail
not_known =
    by 0 (Fix 1) (Load 0 None) ∷
    by 0 (ReadEnd 0 1 (Some blank)) (Fixed 0) ∷
    by 0 (Write 0 1 0 (9 ∷ []) 1) Done ∷
    by 0 (Mark 1) Done ∷
    by 0 (Flush 1) (WriteFirst 1 1 (first_byte 9)) ∷
    by 0 (WriteEnd 1 1 false) WriteFailed ∷
    by 0 (Unfix 0 1) Done ∷
    by 0 (Discard 1) Discarded ∷
    by 0 (Fix 1) (Load 2 None) ∷ []

pub not_known-legal : Legal two (reverse not_known)
not_known-legal = record { here = record { client = refl; allowed = refl; reply = inl refl }; before = record { here = record { client = refl; allowed = refl; reply = inl refl }; before = record { here = record { client = refl; allowed = refl; reply = inl refl }; before = record { here = record { client = refl; allowed = refl; reply = inl refl }; before = record { here = record { client = refl; allowed = refl; reply = inl refl }; before = record { here = record { client = refl; allowed = refl; reply = inl refl }; before = record { here = record { client = refl; allowed = refl; reply = inl refl }; before = record { here = record { client = refl; allowed = refl; reply = inl refl }; before = record { here = record { client = refl; allowed = refl; reply = inl refl }; before = tt } } } } } } } } }

pub not_known-is_due : (due blanks (reverse not_known) 1 ≡ None) × (discarded_since_sent (reverse not_known) 1 ≡ true)
not_known-is_due = (refl, refl)

-- so the page is what the read brings
pub not_known-takes : (image : List ℕ) → plain_map blanks (by 0 (ReadEnd 2 1 (Some image)) (Fixed 1) ∷ reverse not_known) 1 ≡ image
not_known-takes image = refl

-- since an opening before the discard, where the page was unsaved: so it is too
abbrev unknown : ℕ → Option (List ℕ)
unknown p = None

pub not_known-since : (image : List ℕ) → plain_since (λ p. first_byte 9) unknown
    (by 0 (ReadEnd 2 1 (Some image)) (Fixed 1) ∷ by 0 (Fix 1) (Load 2 None) ∷ by 0 (Discard 1) Discarded ∷ []) 1 ≡ image
not_known-since image = refl

-- what goes out later waits for the log of the writes since
abbrev lesser_lsn : Trail
lesser_lsn =
    by 0 (Fix 1) (Load 0 None) ∷
    by 0 (ReadEnd 0 1 (Some blank)) (Fixed 0) ∷
    by 0 (Write 0 1 0 (9 ∷ []) 9) Done ∷
    by 0 (Unfix 0 1) Done ∷
    by 0 (Discard 1) Discarded ∷
    by 0 (Fix 1) (Load 1 None) ∷
    by 0 (ReadEnd 1 1 (Some blank)) (Fixed 1) ∷
    by 0 (Write 1 1 0 (2 ∷ []) 2) Done ∷
    by 0 (Mark 2) Done ∷
    by 0 (Flush 1) (WriteFirst 2 1 (first_byte 2)) ∷ []

pub lesser_lsn-legal : Legal two (reverse lesser_lsn)
lesser_lsn-legal = record { here = record { client = refl; allowed = refl; reply = inl refl }; before = record { here = record { client = refl; allowed = refl; reply = inl refl }; before = record { here = record { client = refl; allowed = refl; reply = inl refl }; before = record { here = record { client = refl; allowed = refl; reply = inl refl }; before = record { here = record { client = refl; allowed = refl; reply = inl refl }; before = record { here = record { client = refl; allowed = refl; reply = inl refl }; before = record { here = record { client = refl; allowed = refl; reply = inl refl }; before = record { here = record { client = refl; allowed = refl; reply = inl refl }; before = record { here = record { client = refl; allowed = refl; reply = inl refl }; before = record { here = record { client = refl; allowed = refl; reply = inl refl }; before = tt } } } } } } } } } }

pub lesser_lsn-is_behind : (greatest (filter_map (lsn_written 1) (reverse lesser_lsn)) ≡ 9) × (durable (reverse lesser_lsn) ≡ 2)
lesser_lsn-is_behind = (refl, refl)

-- a discard takes no page that is pinned, loading, or being written out
abbrev discards_pinned : Trail
discards_pinned =
    by 0 (Fix 1) (Load 0 None) ∷
    by 0 (ReadEnd 0 1 (Some blank)) (Fixed 0) ∷
    by 0 (Discard 1) Discarded ∷ []

pub discards_pinned-refused : Legal two (reverse discards_pinned) → ⊥
discards_pinned-refused l = let e = lawful _ _ l.here.reply refl in cc

abbrev discards_loading : Trail
discards_loading =
    by 0 (Fix 1) (Load 0 None) ∷
    by 0 (Discard 1) Absent ∷ []

pub discards_loading-refused : Legal two (reverse discards_loading) → ⊥
discards_loading-refused l = let e = lawful _ _ l.here.reply refl in cc

abbrev discards_in_a_write_out : Trail
discards_in_a_write_out =
    by 0 (Fix 1) (Load 0 None) ∷
    by 0 (ReadEnd 0 1 (Some blank)) (Fixed 0) ∷
    by 0 (Write 0 1 0 (9 ∷ []) 0) Done ∷
    by 0 (Unfix 0 1) Done ∷
    by 0 (Flush 1) (WriteFirst 1 1 (first_byte 9)) ∷
    by 0 (Discard 1) Discarded ∷ []

pub discards_in_a_write_out-refused : Legal two (reverse discards_in_a_write_out) → ⊥
discards_in_a_write_out-refused l = let e = lawful _ _ l.here.reply refl in cc

-- and it leaves no frame with the page
abbrev finds_what_was_discarded : Trail
finds_what_was_discarded =
    by 0 (Fix 1) (Load 0 None) ∷
    by 0 (ReadEnd 0 1 (Some blank)) (Fixed 0) ∷
    by 0 (Unfix 0 1) Done ∷
    by 0 (Discard 1) Discarded ∷
    by 0 (Fix 1) (Hit 1) ∷ []

pub finds_what_was_discarded-refused : Legal two (reverse finds_what_was_discarded) → ⊥
finds_what_was_discarded-refused l = let e = lawful _ _ l.here.reply refl in cc
