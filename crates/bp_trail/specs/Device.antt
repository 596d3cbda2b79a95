-- A device that gives back what was written.
use Rattle.std.specs.Prelude.{◌≡◌, ℕ, Bool, ◌==◌, if◌then◌else◌, List, [], ◌∷◌, Option, Some, None, IsTrue}
use Rattle.bp_trail.specs.declared.entries.Entry.{Entry}
use Rattle.bp_trail.specs.declared.entries.Reply.{Reply}
use Rattle.bp_trail.specs.declared.entries.Reply.TheVariants.{WriteFirst}
use Rattle.bp_trail.specs.Lists.{some, after_last, EachEntry}
use Rattle.bp_trail.specs.Event.{page_of, begins_of, discards, ends_well, loads, image_read}
use Rattle.bp_trail.specs.Trail.{Trail}

-- what a read of p gives after past, where that is known: the image of the last write-out of p,
-- once that has ended well, or the opening image
abbrev pub due_after : (known : Bool) → List ℕ → Option (List ℕ)
due_after known image = if known then Some image else None

abbrev pub due_with : Trail → ℕ → Reply → Option (List ℕ) → Option (List ℕ)
due_with past p (WriteFirst t q image) older =
    if q == p then due_after (some (λ e. ends_well t e.call) past) image else older
due_with past p _ older = older

-- the entries of past, among all of `whole`. At the opening `known` was due of each page, where that
-- is known
abbrev pub due_among : Trail → (ℕ → Option (List ℕ)) → Trail → ℕ → Option (List ℕ)
due_among whole known [] p = known p
due_among whole known (e ∷ past) p = due_with whole p e.reply (due_among whole known past p)

abbrev pub due_since : (ℕ → Option (List ℕ)) → Trail → ℕ → Option (List ℕ)
due_since known past p = due_among past known past p

-- at the opening the device has the images of m
abbrev pub all_known : (ℕ → List ℕ) → ℕ → Option (List ℕ)
all_known m p = Some (m p)

abbrev pub due : (ℕ → List ℕ) → Trail → ℕ → Option (List ℕ)
due m past p = due_since (all_known m) past p

-- a read that ended well brought in what was due, where that is known
abbrev pub BringsDueSince : (ℕ → Option (List ℕ)) → Trail → Entry → Type 0
BringsDueSince known past e =
    (image : List ℕ) → IsTrue (loads (page_of e.call) e)
    → due_since known past (page_of e.call) ≡ Some image → image_read e.call ≡ image

abbrev pub BringsDue : (ℕ → List ℕ) → Trail → Entry → Type 0
BringsDue m past e = BringsDueSince (all_known m) past e

abbrev pub HonestSince : (ℕ → Option (List ℕ)) → Trail → Type 0
HonestSince known past = EachEntry (BringsDueSince known) past

abbrev pub Honest : (ℕ → List ℕ) → Trail → Type 0
Honest m past = HonestSince (all_known m) past

-- the same of the reads of p alone
abbrev pub HonestOfSince : (ℕ → Option (List ℕ)) → ℕ → Trail → Type 0
HonestOfSince known p past =
    EachEntry (λ before e. page_of e.call ≡ p → BringsDueSince known before e) past

abbrev pub HonestOf : (ℕ → List ℕ) → ℕ → Trail → Type 0
HonestOf m p past = HonestOfSince (all_known m) p past

-- p was discarded, and no write-out of it began since. What is due of it may be unknown then, though
-- p is read again: its last write-out may have failed
abbrev pub discarded_since_sent : Trail → ℕ → Bool
discarded_since_sent past p = some (discards p) (after_last (λ e. begins_of p e.reply) past)
