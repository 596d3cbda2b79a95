-- What a crash leaves, and what redo makes of it: the records of the log, put into the images that
-- the device has.
use Rattle.std.specs.Prelude.{◌≡◌, ◌⊎◌, ℕ, ◌+◌, ◌≤◌, min, nat_lt, nat_le, Bool, not, ◌&&◌, ◌||◌, ◌==◌, if◌then◌else◌, IsTrue, IsFalse, List, [], ◌∷◌, ◌++◌, length, reverse, filter, filter_map, Option, Some, None}
use Rattle.bp_page.specs.Patched.{patched}
use Rattle.bp_trail.specs.declared.entries.Entry.{Entry}
use Rattle.bp_trail.specs.declared.entries.Call.{Call}
use Rattle.bp_trail.specs.declared.entries.Call.TheVariants.{Write}
use Rattle.bp_trail.specs.declared.entries.Reply.TheVariants.{WriteFirst}
use Rattle.bp_trail.specs.declared.records.LogRecord.{LogRecord}
use Rattle.bp_trail.specs.Lists.{some, every, least_since, EachEntry}
use Rattle.bp_trail.specs.Event.{page_of, discards, loads, writes, lsn_of, lsn_written}
use Rattle.bp_trail.specs.Trail.{Trail}
use Rattle.bp_trail.specs.Parameters.{Parameters}
use Rattle.bp_trail.specs.Clock.{durable}
use Rattle.bp_trail.specs.Saved.{began_saving, settles, page_lsn}
use Rattle.bp_trail.specs.Legal.{Legal}
use Rattle.bp_trail.specs.Device.{BringsDue, HonestOf}
use Rattle.bp_trail.specs.Standing.{Content}

-- ---- the log

-- a record tells a write. A list of records is newest first, as a trail is
abbrev pub record_of : Call → LogRecord
record_of (Write n p offset bytes lsn) = record { page = p; offset = offset; bytes = bytes; lsn = lsn }
record_of _ = record { page = 0; offset = 0; bytes = []; lsn = 0 }

-- the records of the writes of p
abbrev pub record_written : ℕ → Entry → Option LogRecord
record_written p e = if writes p e then Some (record_of e.call) else None

abbrev pub records : ℕ → Trail → List LogRecord
records p past = filter_map (record_written p) past

-- the entries but for the writes beyond the end of the log
abbrev pub within : ℕ → Trail → Trail
within end past = filter (λ e. nat_le (lsn_of e.call) end) past

-- what the log has of p from an LSN on
abbrev pub wanted : ℕ → ℕ → LogRecord → Bool
wanted from p r = (r.page == p) && nat_le from r.lsn

abbrev pub records_from : ℕ → List LogRecord → ℕ → List LogRecord
records_from from log p = filter (wanted from p) log

-- no LSN is below an older one; and each is above every older one
abbrev pub NeverFall : List LogRecord → Type 0
NeverFall log = EachEntry (λ older r. IsTrue (every (λ o. nat_le o.lsn r.lsn) older)) log

abbrev pub Rise : List LogRecord → Type 0
Rise log = EachEntry (λ older r. IsTrue (every (λ o. nat_lt o.lsn r.lsn) older)) log

-- the bytes of each record lie within a page of this size
abbrev pub AllFit : ℕ → List LogRecord → Type 0
AllFit size [] = Unit {0}
AllFit size (r ∷ older) = (r.offset + length r.bytes ≤ size) × AllFit size older

-- of a log that is oldest first: the oldest record of p, from an LSN on, whose bytes do not lie within
-- a page of this size
pub record FirstMisfit (size from p : ℕ) (log : List LogRecord) : Type 0 where
  pub before : List LogRecord
  pub misfit : LogRecord
  pub rest : List LogRecord
  pub stands : log ≡ before ++ misfit ∷ rest
  pub fit : AllFit size (records_from from (reverse before) p)
  pub beyond : ¬ AllFit size (records_from from (misfit ∷ []) p)

-- a record has all bytes of a page of this size, and the bytes of those before it lie within one
pub record HasFullImage (size : ℕ) (log : List LogRecord) : Type 0 where
  pub newer : List LogRecord
  pub full : LogRecord
  pub older : List LogRecord
  pub stands : log ≡ newer ++ full ∷ older
  pub offset : full.offset ≡ 0
  pub bytes : length full.bytes ≡ size
  pub fit : AllFit size older

-- ---- redo

-- the bytes of a record put into an image, and those of each, the oldest first
abbrev pub patch : LogRecord → List ℕ → List ℕ
patch r image = patched r.offset r.bytes image

abbrev pub put : List LogRecord → List ℕ → List ℕ
put [] image = image
put (r ∷ older) image = patch r (put older image)

-- redo of p from an LSN on, into an image of p
abbrev pub redo : ℕ → List LogRecord → ℕ → List ℕ → List ℕ
redo from log p image = put (records_from from log p) image

-- redo from an LSN on makes of this image what the log from `start` on makes of the first one
pub record Recovers (log : List LogRecord) (start from p : ℕ) (first image : List ℕ) : Type 0 where
  pub from_start : start ≤ from
  pub same : redo from log p image ≡ redo start log p first

-- Redo by page LSN: a record is acted on only if its LSN is above that of the page, which it then
-- is. To apply is to `patch`, or to do in another way what the write did.
abbrev pub apply_newer : (LogRecord → List ℕ → List ℕ) → LogRecord → Content → Content
apply_newer apply r x =
    if nat_lt x.page_lsn r.lsn then record { image = apply r x.image; page_lsn = r.lsn } else x

abbrev pub apply_all_newer : (LogRecord → List ℕ → List ℕ) → List LogRecord → Content → Content
apply_all_newer apply [] x = x
apply_all_newer apply (r ∷ older) x = apply_newer apply r (apply_all_newer apply older x)

abbrev pub redo_by_lsn : (LogRecord → List ℕ → List ℕ) → ℕ → List LogRecord → ℕ → Content
    → Content
redo_by_lsn apply from log p x = apply_all_newer apply (records_from from log p) x

-- on the page as its write found it, each record does what its write did
abbrev pub AppliesAlike : (LogRecord → List ℕ → List ℕ) → List LogRecord → List ℕ → Type 0
AppliesAlike apply log image = EachEntry (λ older r. apply r (put older image) ≡ patch r (put older image)) log

-- each record acted on, the oldest first, in whatever image
abbrev pub apply_all : (LogRecord → List ℕ → List ℕ) → List LogRecord → List ℕ → List ℕ
apply_all apply [] image = image
apply_all apply (r ∷ older) image = apply r (apply_all apply older image)

-- a record of p makes the page anew: to apply it on what the older ones make of this image gives what
-- the page had after its write
pub record MakesAnew (apply : LogRecord → List ℕ → List ℕ) (log : List LogRecord) (start from p : ℕ)
    (first image : List ℕ) : Type 0 where
  pub newer : List LogRecord
  pub full : LogRecord
  pub older : List LogRecord
  pub rest : List LogRecord
  pub all : records_from start log p ≡ newer ++ full ∷ rest
  pub needed : records_from from log p ≡ newer ++ full ∷ older
  pub anew : apply full (apply_all apply older image) ≡ put (full ∷ rest) first

-- Redo by page LSN with full images: such a record is acted on whatever the page LSN is, which then
-- is that of the record
abbrev pub apply_newer_or_full : (LogRecord → Bool) → (LogRecord → List ℕ → List ℕ) → LogRecord
    → Content → Content
apply_newer_or_full is_full apply r x =
    if is_full r || nat_lt x.page_lsn r.lsn
    then record { image = apply r x.image; page_lsn = r.lsn } else x

abbrev pub apply_all_newer_or_full : (LogRecord → Bool) → (LogRecord → List ℕ → List ℕ)
    → List LogRecord → Content → Content
apply_all_newer_or_full is_full apply [] x = x
apply_all_newer_or_full is_full apply (r ∷ older) x =
    apply_newer_or_full is_full apply r (apply_all_newer_or_full is_full apply older x)

abbrev pub redo_with_full_images : (LogRecord → Bool) → (LogRecord → List ℕ → List ℕ) → ℕ
    → List LogRecord → ℕ → Content → Content
redo_with_full_images is_full apply from log p x =
    apply_all_newer_or_full is_full apply (records_from from log p) x

-- On an image of a page's size the full image gives its bytes, and a record that lies within the page
-- leaves the size. `patch` does so.
pub record PutsIn (apply : LogRecord → List ℕ → List ℕ) (size : ℕ) (full : LogRecord) : Type 0 where
  pub gives : (image : List ℕ) → length image ≡ size → apply full image ≡ full.bytes
  pub sized : (r : LogRecord) (image : List ℕ) → length image ≡ size
      → r.offset + length r.bytes ≤ size → length (apply r image) ≡ size

-- ---- the device

-- an image that went out of p, and no later write-out of p was safe. A write-out is safe if it ended
-- well in `synced`: the trail when the last good sync of the device began before which no sync had
-- failed; or an older one; or the whole trail where the device keeps what it was given
pub record WentOut (synced past : Trail) (p : ℕ) : Type 0 where
  pub later : Trail
  pub entry : Entry
  pub earlier : Trail
  pub ticket : ℕ
  pub image : List ℕ
  pub stands : past ≡ later ++ entry ∷ earlier
  pub begins : entry.reply ≡ WriteFirst ticket p image
  pub last : IsFalse (some (λ e. began_saving synced p e.reply) later)

-- no write-out of p was safe
abbrev pub NoneSafe : Trail → Trail → ℕ → Type 0
NoneSafe synced past p = IsFalse (some (λ e. began_saving synced p e.reply) past)

-- What the device may have of p after a crash: such an image, or what it had at first. `first` is what
-- the device keeps, and not only what reads of it bring: after a failed sync these may bring more
abbrev pub MayHave : (ℕ → List ℕ) → Trail → Trail → ℕ → List ℕ → Type 0
MayHave first synced past p image =
    ((out : WentOut synced past p) × (image ≡ out.image))
    ⊎ (NoneSafe synced past p × (image ≡ first p))

-- the same of a device that has page LSNs, each as it is when the image goes out
abbrev pub MayHaveStamped : (ℕ → Content) → Trail → Trail → ℕ → Content → Type 0
MayHaveStamped first synced past p x =
    ((out : WentOut synced past p)
    × (x ≡ record { image = out.image; page_lsn = page_lsn out.earlier p }))
    ⊎ (NoneSafe synced past p × (x ≡ first p))

-- ---- what an engine keeps

-- Page p is used again: a write gives all of its bytes, whatever it had, and is within the log. Each
-- good read of p since then brought what was due, and p was not discarded since. Before that the reads
-- may have brought anything.
pub record UsedAgain (size : ℕ) (first : ℕ → List ℕ) (end : ℕ) (past : Trail) (p : ℕ) : Type 0 where
  pub later : Trail
  pub entry : Entry
  pub earlier : Trail
  pub stands : past ≡ later ++ entry ∷ earlier
  pub writes_it : IsTrue (writes p entry)
  pub offset : (record_of entry.call).offset ≡ 0
  pub bytes : length (record_of entry.call).bytes ≡ size
  pub opening : length (first p) ≡ size
  pub logged : lsn_of entry.call ≤ end
  pub honest : EachEntry (λ between e. page_of e.call ≡ p
      → BringsDue first (between ++ entry ∷ earlier) e) later
  pub kept : IsFalse (some (discards p) later)

-- the device gave back of p what was written, from the opening on or since p was used again, and p
-- was not discarded since then: what was written before a discard is not what the page has, though
-- the log has it
pub data GaveBack (size : ℕ) (first : ℕ → List ℕ) (end : ℕ) (past : Trail) (p : ℕ) : Type 0 where
  from_opening : HonestOf first p past → IsFalse (some (discards p) past)
      → GaveBack size first end past p
  since_used_again : UsedAgain size first end past p → GaveBack size first end past p

-- p was read anew, and all of its writes since are beyond the end of the log. It was not discarded
-- since
pub record ReadBeyond (end : ℕ) (past : Trail) (p : ℕ) : Type 0 where
  pub later : Trail
  pub read : Entry
  pub earlier : Trail
  pub stands : past ≡ later ++ read ∷ earlier
  pub reads_it : IsTrue (loads p read)
  pub beyond : IsTrue (every (λ e. not (writes p e) || nat_lt end (lsn_of e.call)) later)
  pub kept : IsFalse (some (discards p) later)

-- the first record of a page that is used again says that it is new: to apply it gives the page all
-- of its bytes, whatever it has
abbrev pub TellsNew : {size : ℕ} {first : ℕ → List ℕ} {end : ℕ} {past : Trail} {p : ℕ}
    → (LogRecord → List ℕ → List ℕ) → GaveBack size first end past p → Type 0
TellsNew apply (GaveBack.from_opening honest kept) = Unit {0}
TellsNew apply (GaveBack.since_used_again u) =
    (image : List ℕ) → apply (record_of u.entry.call) image ≡ (record_of u.entry.call).bytes

-- the least LSN of the writes of p after which no write-out of it began that was safe, and no discard
-- of it came
abbrev pub first_unsafe : Trail → Trail → ℕ → Option ℕ
first_unsafe synced past p =
    least_since (lsn_written p) (settles synced p) past

-- redo may begin at an LSN that is not above any of these
abbrev pub IsRedoPoint : ℕ → Trail → Trail → ℕ → Type 0
IsRedoPoint from synced past p = (least : ℕ) → first_unsafe synced past p ≡ Some least → from ≤ least

-- From `start` on the log has of p the records of its writes, up to the log's end, in their order.
-- After these may stand records whose write never came to be, none below the redo point. The log
-- counts here what was cut off it in this run: redo asks for none of that.
pub record LogHas (log : List LogRecord) (start from end : ℕ) (past : Trail) (p : ℕ) : Type 0 where
  pub unwritten : List LogRecord
  pub stands : records_from start log p ≡ unwritten ++ records p (within end past)
  pub unwritten_from : IsTrue (every (λ r. nat_le from r.lsn) unwritten)

-- What is so of page p where the pool is stopped after `past`. The device had `first` at first, and
-- gave back of p what was written. The log has the records of p from `start` on, and ends at `end`,
-- which is not below the durable mark. Redo begins at `from`.
pub record Stopped (c : Parameters) (first : ℕ → List ℕ) (synced past : Trail)
    (log : List LogRecord) (start from end p : ℕ) : Type 0 where
  pub legal : Legal c past
  pub gave_back : GaveBack c.size first end past p
  pub mark : durable past ≤ end
  pub has : LogHas log start from end past p
  pub from_start : start ≤ from
  pub point : IsRedoPoint from synced past p

-- ---- a checkpoint

-- the lesser of the next LSN and the least of the writes that have not gone out
abbrev pub redo_point : Option ℕ → ℕ → ℕ
redo_point None next = next
redo_point (Some least) next = min least next

-- no write of p has an LSN below this one
abbrev pub WritesFrom : ℕ → ℕ → Trail → Type 0
WritesFrom next p late =
    EachEntry (λ before e. (lsn : ℕ) → lsn_written p e ≡ Some lsn → next ≤ lsn) late
