-- Crashes from which redo recovers the page, and for each premise a crash from which it does not without it. All of it computes.
use Rattle.std.proofs.Common.{◌≡◌, inl, inr, refl, sym, ap, ◌∙◌, ℕ, ◌+◌, ◌≤◌, nat_lt, true, false, ◌==◌, if◌then◌else◌, List, [], ◌∷◌, ◌++◌, length, get_or, Some, None, arith}
use Rattle.std.proofs.lemmas.Option.{none-some}
use Rattle.std.proofs.lemmas.Bool.{or_parts}
use Rattle.bp_trail.specs.declared.entries.Entry.{Entry}
use Rattle.bp_trail.specs.declared.entries.Call.TheVariants.{Mark, Fix, ReadEnd, WriteEnd, Write, Unfix, Flush, Discard}
use Rattle.bp_trail.specs.declared.entries.Reply.TheVariants.{Done, Load, WriteFirst, Fixed, Cleaned, Discarded}
use Rattle.bp_trail.specs.declared.records.LogRecord.{LogRecord}
use Rattle.bp_trail.specs.Parameters.{Parameters}
use Rattle.bp_trail.specs.Lists.{some, every}
use Rattle.bp_trail.specs.Event.{discards}
use Rattle.bp_trail.specs.Trail.{Trail}
use Rattle.bp_trail.specs.Clock.{durable}
use Rattle.bp_trail.specs.Places.{resident}
use Rattle.bp_trail.specs.Images.{held, plain_map}
use Rattle.bp_trail.specs.Saved.{began_saving, IsRedoFrom}
use Rattle.bp_trail.specs.Legal.{Legal}
use Rattle.bp_trail.specs.Device.{HonestOf}
use Rattle.bp_trail.specs.Recovery.GaveBack.{from_opening, since_used_again}
use Rattle.bp_trail.specs.Pieces.{by}
use Rattle.bp_trail.specs.Standing.{Content}
use Rattle.bp_trail.specs.Recovery.{record_of, records, records_from, within, NeverFall, Rise, patch, redo, redo_by_lsn, AppliesAlike, apply_all, redo_point, NoneSafe, MayHave, MayHaveStamped, IsRedoPoint, UsedAgain, ReadBeyond, LogHas, Stopped}

-- one frame, and a file of one page of two bytes
abbrev pub c : Parameters
c = record { frames = 1; k = 1; correlated = 0; retained = 0; pages = 1; size = 2; clients = 1; room = 100 }

abbrev pub zeros : ℕ → List ℕ
zeros p = 0 ∷ 0 ∷ []

abbrev pub put_at : ℕ → ℕ → ℕ → Entry
put_at offset byte lsn = by 0 (Write 0 0 offset (byte ∷ []) lsn) Done

abbrev pub told : ℕ → ℕ → ℕ → LogRecord
told offset byte lsn = record { page = 0; offset = offset; bytes = byte ∷ []; lsn = lsn }

-- the page is read, and written to under LSN 1; the log is durable so far; the page goes out, and is saved; it is written to again
abbrev pub opened : Trail
opened = by 0 (ReadEnd 0 0 (Some (0 ∷ 0 ∷ []))) (Fixed 0) ∷ by 0 (Fix 0) (Load 0 None) ∷ []

abbrev pub written_once : Trail
written_once = put_at 0 7 1 ∷ opened

abbrev pub marked_once : Trail
marked_once = by 0 (Mark 1) Done ∷ written_once

abbrev pub flush_of : Entry
flush_of = by 0 (Flush 0) (WriteFirst 1 0 (7 ∷ 0 ∷ []))

abbrev pub going_out : Trail
going_out = flush_of ∷ marked_once

abbrev pub saved_once : Trail
saved_once = by 0 (WriteEnd 1 0 true) Cleaned ∷ going_out

abbrev pub written_twice : Trail
written_twice = put_at 1 8 2 ∷ saved_once

pub lawful-opened : Legal c opened
lawful-opened = record {
  here = record { client = refl; allowed = refl; reply = inl refl };
  before = record { here = record { client = refl; allowed = refl; reply = inl refl }; before = tt };
}

pub lawful-once : Legal c written_once
lawful-once = record { here = record { client = refl; allowed = refl; reply = inl refl }; before = lawful-opened }

lawful-marked : Legal c marked_once
lawful-marked = record { here = record { client = refl; allowed = refl; reply = inl refl }; before = lawful-once }

lawful-going : Legal c going_out
lawful-going = record { here = record { client = refl; allowed = refl; reply = inl refl }; before = lawful-marked }

pub lawful-saved : Legal c saved_once
lawful-saved = record { here = record { client = refl; allowed = refl; reply = inl refl }; before = lawful-going }

pub lawful-twice : Legal c written_twice
lawful-twice = record { here = record { client = refl; allowed = refl; reply = inl refl }; before = lawful-saved }

pub honest-opened : HonestOf zeros 0 opened
honest-opened = record { here = λ i image h d. cc; before = record { here = λ i image h d. cc; before = tt } }

pub honest-once : HonestOf zeros 0 written_once
honest-once = record { here = λ i image h d. cc; before = honest-opened }

honest-going : HonestOf zeros 0 going_out
honest-going = record { here = λ i image h d. cc; before = record { here = λ i image h d. cc; before = honest-once } }

pub honest-saved : HonestOf zeros 0 saved_once
honest-saved = record { here = λ i image h d. cc; before = honest-going }

pub honest-twice : HonestOf zeros 0 written_twice
honest-twice = record { here = λ i image h d. cc; before = honest-saved }

-- two images that differ at a byte
pub differ : (i : ℕ) (xs ys : List ℕ) → (get_or xs i 0 ≡ get_or ys i 0 → ⊥) → xs ≡ ys → ⊥
differ i xs ys n e = n (ap (λ zs. get_or zs i 0) e)

abbrev pub first_record : LogRecord
first_record = told 0 7 1

abbrev pub second_record : LogRecord
second_record = told 1 8 2

-- ---- crashes from which redo recovers

-- the second write is in the log and not on the device; redo begins at it
recovered-stopped : Stopped c zeros written_twice written_twice (second_record ∷ first_record ∷ []) 0 2 2 0
recovered-stopped = record {
  legal = lawful-twice;
  gave_back = from_opening honest-twice refl;
  mark = omega arith;
  has = record { unwritten = []; stands = refl; unwritten_from = refl };
  from_start = omega arith;
  point = λ least e. (let is : 2 ≡ least = cc in omega arith);
}

pub recovered-has : MayHave zeros written_twice written_twice 0 (7 ∷ 0 ∷ [])
recovered-has = inl (record { later = put_at 1 8 2 ∷ by 0 (WriteEnd 1 0 true) Cleaned ∷ []; entry = flush_of; earlier = marked_once; ticket = 1; image = 7 ∷ 0 ∷ []; stands = refl; begins = refl; last = refl }, refl)

recovered : redo 2 (second_record ∷ first_record ∷ []) 0 (7 ∷ 0 ∷ []) ≡ 7 ∷ 8 ∷ []
recovered = refl

recovered-is_plain : plain_map zeros (within 2 written_twice) 0 ≡ 7 ∷ 8 ∷ []
recovered-is_plain = refl

-- where the log ends before it, it is not there
ends-sooner : plain_map zeros (within 1 written_twice) 0 ≡ 7 ∷ 0 ∷ []
ends-sooner = refl

-- while a page goes out, the device may have either image
before-it : MayHave zeros going_out going_out 0 (0 ∷ 0 ∷ [])
before-it = inr (refl, refl)

after-it : MayHave zeros going_out going_out 0 (7 ∷ 0 ∷ [])
after-it = inl (record { later = []; entry = flush_of; earlier = marked_once; ticket = 1; image = 7 ∷ 0 ∷ []; stands = refl; begins = refl; last = refl }, refl)

-- once it is saved it has the newer one
saved-has : MayHave zeros saved_once saved_once 0 (7 ∷ 0 ∷ [])
saved-has = inl (record { later = by 0 (WriteEnd 1 0 true) Cleaned ∷ []; entry = flush_of; earlier = marked_once; ticket = 1; image = 7 ∷ 0 ∷ []; stands = refl; begins = refl; last = refl }, refl)

saved-not_first : NoneSafe saved_once saved_once 0 → ⊥
saved-not_first none = cc

-- unless the last sync began before, and then redo has to begin sooner
pub unsynced-has : MayHave zeros marked_once saved_once 0 (0 ∷ 0 ∷ [])
unsynced-has = inr (refl, refl)

unsynced-stopped : Stopped c zeros marked_once saved_once (first_record ∷ []) 0 1 1 0
unsynced-stopped = record {
  legal = lawful-saved;
  gave_back = from_opening honest-saved refl;
  mark = omega arith;
  has = record { unwritten = []; stands = refl; unwritten_from = refl };
  from_start = omega arith;
  point = λ least e. (let is : 1 ≡ least = cc in omega arith);
}

unsynced : redo 1 (first_record ∷ []) 0 (0 ∷ 0 ∷ []) ≡ 7 ∷ 0 ∷ []
unsynced = refl

-- ---- what no crash of the model leaves, and what an engine may not take

-- a lost write: a write-out that ended well is on a device that forgets nothing
lost : (later : Trail) (entry : Entry) (earlier : Trail) (ticket : ℕ) (image : List ℕ) → saved_once ≡ later ++ entry ∷ earlier → entry.reply ≡ WriteFirst ticket 0 image
    → some (λ e. began_saving saved_once 0 e.reply) later ≡ false → 0 ∷ 0 ∷ [] ≡ image → ⊥
lost [] entry earlier ticket image stands begins last is = (let same : by 0 (WriteEnd 1 0 true) Cleaned ≡ entry = cc in cc)
lost (d ∷ []) entry earlier ticket image stands begins last is =
    let same : flush_of ≡ entry = cc in
    let went : WriteFirst 1 0 (7 ∷ 0 ∷ []) ≡ WriteFirst ticket 0 image = ap (λ (e : Entry). e.reply) same ∙ begins in
    let image_is : 7 ∷ 0 ∷ [] ≡ image = cc in
    differ 0 (7 ∷ 0 ∷ []) (0 ∷ 0 ∷ []) (λ e. absurd (omega arith)) (image_is ∙ sym is)
lost (d ∷ f ∷ later) entry earlier ticket image stands begins last is =
    let same : flush_of ≡ f = cc in
    let saves : began_saving saved_once 0 f.reply ≡ true = ap (λ (e : Entry). began_saving saved_once 0 e.reply) (sym same) in
    let a = or_parts (began_saving saved_once 0 d.reply) _ last in
    let b = or_parts (began_saving saved_once 0 f.reply) _ a.1 in
    cc

lost-write : MayHave zeros saved_once saved_once 0 (0 ∷ 0 ∷ []) → ⊥
lost-write (inl (out, is)) = lost out.later out.entry out.earlier out.ticket out.image out.stands out.begins out.last is
lost-write (inr (none, is)) = saved-not_first none

-- an image ahead of the log: a log that ends below the durable mark
ahead-of_log : Stopped c zeros going_out going_out [] 0 0 0 0 → ⊥
ahead-of_log s = let le = s.mark in absurd (omega arith)

-- a redo point that is one too late
in-time : IsRedoPoint 1 written_once written_once 0
in-time least e = (let is : 1 ≡ least = cc in omega arith)

one-too_late : IsRedoPoint 2 written_once written_once 0 → ⊥
one-too_late point = (let le = point 1 refl in absurd (omega arith))

-- ---- each premise is needed: the others hold, and the page is not recovered

-- mark: the log ends below the durable mark, and the image is ahead of it
without-mark : Legal c going_out × HonestOf zeros 0 going_out × LogHas [] 0 0 0 going_out 0 × IsRedoPoint 0 going_out going_out 0 × MayHave zeros going_out going_out 0 (7 ∷ 0 ∷ [])
    × (redo 0 [] 0 (7 ∷ 0 ∷ []) ≡ redo 0 [] 0 (0 ∷ 0 ∷ []) → ⊥)
without-mark = (lawful-going, honest-going, record { unwritten = []; stands = refl; unwritten_from = refl }, λ least e. omega arith, after-it, differ 0 _ _ (λ e. absurd (omega arith)))

-- legal: the image goes out with no mark
abbrev sent_early : Trail
sent_early = flush_of ∷ written_once

without-legal : HonestOf zeros 0 sent_early × (durable sent_early ≤ 0) × LogHas [] 0 0 0 sent_early 0 × IsRedoPoint 0 sent_early sent_early 0 × MayHave zeros sent_early sent_early 0 (7 ∷ 0 ∷ [])
    × (redo 0 [] 0 (7 ∷ 0 ∷ []) ≡ redo 0 [] 0 (0 ∷ 0 ∷ []) → ⊥)
without-legal = (
  record { here = λ i image h d. cc; before = honest-once },
  omega arith,
  record { unwritten = []; stands = refl; unwritten_from = refl },
  λ least e. omega arith,
  inl (record { later = []; entry = flush_of; earlier = written_once; ticket = 1; image = 7 ∷ 0 ∷ []; stands = refl; begins = refl; last = refl }, refl),
  differ 0 _ _ (λ e. absurd (omega arith)),
)

-- honest: the device gives back what it never had
abbrev misread : Trail
misread = by 0 (Mark 1) Done ∷ put_at 0 7 1 ∷ by 0 (ReadEnd 0 0 (Some (5 ∷ 5 ∷ []))) (Fixed 0) ∷ by 0 (Fix 0) (Load 0 None) ∷ []

abbrev flush_misread : Entry
flush_misread = by 0 (Flush 0) (WriteFirst 1 0 (7 ∷ 5 ∷ []))

without-honest : Legal c (flush_misread ∷ misread) × (durable (flush_misread ∷ misread) ≤ 1) × LogHas (first_record ∷ []) 0 0 1 (flush_misread ∷ misread) 0 × IsRedoPoint 0 (flush_misread ∷ misread) (flush_misread ∷ misread) 0
    × MayHave zeros (flush_misread ∷ misread) (flush_misread ∷ misread) 0 (7 ∷ 5 ∷ [])
    × (redo 0 (first_record ∷ []) 0 (7 ∷ 5 ∷ []) ≡ redo 0 (first_record ∷ []) 0 (0 ∷ 0 ∷ []) → ⊥)
without-honest = (
  record {
    here = record { client = refl; allowed = refl; reply = inl refl };
    before = record {
      here = record { client = refl; allowed = refl; reply = inl refl };
      before = record {
        here = record { client = refl; allowed = refl; reply = inl refl };
        before = record {
          here = record { client = refl; allowed = refl; reply = inl refl };
          before = record { here = record { client = refl; allowed = refl; reply = inl refl }; before = tt };
        };
      };
    };
  },
  omega arith,
  record { unwritten = []; stands = refl; unwritten_from = refl },
  λ least e. omega arith,
  inl (record { later = []; entry = flush_misread; earlier = misread; ticket = 1; image = 7 ∷ 5 ∷ []; stands = refl; begins = refl; last = refl }, refl),
  differ 1 _ _ (λ e. absurd (omega arith)),
)

-- has: a write has no record
without-has : Legal c saved_once × HonestOf zeros 0 saved_once × (durable saved_once ≤ 1) × IsRedoPoint 2 saved_once saved_once 0 × MayHave zeros saved_once saved_once 0 (7 ∷ 0 ∷ [])
    × (redo 2 [] 0 (7 ∷ 0 ∷ []) ≡ redo 0 [] 0 (0 ∷ 0 ∷ []) → ⊥)
without-has = (lawful-saved, honest-saved, omega arith, λ least e. absurd (none-some least e), saved-has, differ 0 _ _ (λ e. absurd (omega arith)))

-- its order: two clients append records of the page, and write in the other order. The log's LSNs rise, and the page had the bytes of the older record last
abbrev crossed : Trail
crossed = put_at 0 7 5 ∷ put_at 0 8 6 ∷ opened

abbrev log_crossed : List LogRecord
log_crossed = told 0 8 6 ∷ told 0 7 5 ∷ []

without-order : Legal c crossed × HonestOf zeros 0 crossed × (durable crossed ≤ 6) × NeverFall (records_from 0 log_crossed 0) × MayHave zeros crossed crossed 0 (0 ∷ 0 ∷ [])
    × (redo 0 log_crossed 0 (0 ∷ 0 ∷ []) ≡ plain_map zeros (within 6 crossed) 0 → ⊥)
without-order = (
  record {
    here = record { client = refl; allowed = refl; reply = inl refl };
    before = record { here = record { client = refl; allowed = refl; reply = inl refl }; before = lawful-opened };
  },
  record { here = λ i image h d. cc; before = record { here = λ i image h d. cc; before = honest-opened } },
  omega arith,
  record { here = refl; before = record { here = refl; before = tt } },
  inr (refl, refl),
  differ 0 _ _ (λ e. absurd (omega arith)),
)

-- unwritten_from: a record whose write never came to be is below the redo point
without-unwritten_from : Legal c opened × HonestOf zeros 0 opened × (durable opened ≤ 1) × (records_from 0 (first_record ∷ []) 0 ≡ (first_record ∷ []) ++ records 0 (within 1 opened))
    × IsRedoPoint 2 opened opened 0 × MayHave zeros opened opened 0 (0 ∷ 0 ∷ [])
    × (redo 2 (first_record ∷ []) 0 (0 ∷ 0 ∷ []) ≡ redo 0 (first_record ∷ []) 0 (0 ∷ 0 ∷ []) → ⊥)
without-unwritten_from = (lawful-opened, honest-opened, omega arith, refl, λ least e. absurd (none-some least e), inr (refl, refl), differ 0 _ _ (λ e. absurd (omega arith)))

-- from_start: redo begins before the point from which the log has the writes of this run
without-from_start : Legal c opened × HonestOf zeros 0 opened × (durable opened ≤ 1) × LogHas (first_record ∷ []) 2 0 1 opened 0 × IsRedoPoint 0 opened opened 0 × MayHave zeros opened opened 0 (0 ∷ 0 ∷ [])
    × (redo 0 (first_record ∷ []) 0 (0 ∷ 0 ∷ []) ≡ redo 2 (first_record ∷ []) 0 (0 ∷ 0 ∷ []) → ⊥)
without-from_start = (lawful-opened, honest-opened, omega arith, record { unwritten = []; stands = refl; unwritten_from = refl }, λ least e. omega arith, inr (refl, refl), differ 0 _ _ (λ e. absurd (omega arith)))

-- point: redo begins too late
without-point : Legal c written_once × HonestOf zeros 0 written_once × (durable written_once ≤ 1) × LogHas (first_record ∷ []) 0 2 1 written_once 0 × MayHave zeros written_once written_once 0 (0 ∷ 0 ∷ [])
    × (redo 2 (first_record ∷ []) 0 (0 ∷ 0 ∷ []) ≡ redo 0 (first_record ∷ []) 0 (0 ∷ 0 ∷ []) → ⊥)
without-point = (lawful-once, honest-once, omega arith, record { unwritten = []; stands = refl; unwritten_from = refl }, inr (refl, refl), differ 0 _ _ (λ e. absurd (omega arith)))

-- MayHave: the device has lost a write-out that ended well
without-has_it : Stopped c zeros saved_once saved_once (first_record ∷ []) 0 2 1 0
    × (redo 2 (first_record ∷ []) 0 (0 ∷ 0 ∷ []) ≡ redo 0 (first_record ∷ []) 0 (0 ∷ 0 ∷ []) → ⊥)
without-has_it = (
  record { legal = lawful-saved; gave_back = from_opening honest-saved refl; mark = omega arith; has = record { unwritten = []; stands = refl; unwritten_from = refl }; from_start = omega arith; point = λ least e. absurd (none-some least e) },
  differ 0 _ _ (λ e. absurd (omega arith)),
)

-- NeverFall: the newer write of two has the lesser LSN, and redo begins between them
abbrev fallen : Trail
fallen = by 0 (Mark 5) Done ∷ put_at 0 8 3 ∷ put_at 0 7 5 ∷ opened

abbrev flush_fallen : Entry
flush_fallen = by 0 (Flush 0) (WriteFirst 1 0 (8 ∷ 0 ∷ []))

abbrev saved_fallen : Trail
saved_fallen = by 0 (WriteEnd 1 0 true) Cleaned ∷ flush_fallen ∷ fallen

without-never_fall : Stopped c zeros saved_fallen saved_fallen (told 0 8 3 ∷ told 0 7 5 ∷ []) 0 4 5 0 × MayHave zeros saved_fallen saved_fallen 0 (8 ∷ 0 ∷ [])
    × (redo 4 (told 0 8 3 ∷ told 0 7 5 ∷ []) 0 (8 ∷ 0 ∷ []) ≡ redo 0 (told 0 8 3 ∷ told 0 7 5 ∷ []) 0 (0 ∷ 0 ∷ []) → ⊥)
without-never_fall = (
  record {
    legal = record {
      here = record { client = refl; allowed = refl; reply = inl refl };
      before = record {
        here = record { client = refl; allowed = refl; reply = inl refl };
        before = record {
          here = record { client = refl; allowed = refl; reply = inl refl };
          before = record {
            here = record { client = refl; allowed = refl; reply = inl refl };
            before = record { here = record { client = refl; allowed = refl; reply = inl refl }; before = lawful-opened };
          };
        };
      };
    };
    gave_back = from_opening (record {
      here = λ i image h d. cc;
      before = record {
        here = λ i image h d. cc;
        before = record { here = λ i image h d. cc; before = record { here = λ i image h d. cc; before = record { here = λ i image h d. cc; before = honest-opened } } };
      };
    }) refl;
    mark = omega arith;
    has = record { unwritten = []; stands = refl; unwritten_from = refl };
    from_start = omega arith;
    point = λ least e. absurd (none-some least e);
  },
  inl (record { later = by 0 (WriteEnd 1 0 true) Cleaned ∷ []; entry = flush_fallen; earlier = fallen; ticket = 1; image = 8 ∷ 0 ∷ []; stands = refl; begins = refl; last = refl }, refl),
  differ 0 _ _ (λ e. absurd (omega arith)),
)

-- Rise, for redo by page LSN: two writes have one LSN, and the page goes out between them. Redo that looks at no page LSN recovers it
abbrev stamped_first : ℕ → Content
stamped_first p = record { image = 0 ∷ 0 ∷ []; page_lsn = 0 }

abbrev written_meanwhile : Trail
written_meanwhile = put_at 0 8 1 ∷ going_out

without-rise : Stopped c zeros written_meanwhile written_meanwhile (told 0 8 1 ∷ first_record ∷ []) 0 0 1 0 × NeverFall (records_from 0 (told 0 8 1 ∷ first_record ∷ []) 0)
    × (every (λ r. nat_lt 0 r.lsn) (records_from 0 (told 0 8 1 ∷ first_record ∷ []) 0) ≡ true)
    × MayHaveStamped stamped_first written_meanwhile written_meanwhile 0 (record { image = 7 ∷ 0 ∷ []; page_lsn = 1 })
    × ((redo_by_lsn patch 0 (told 0 8 1 ∷ first_record ∷ []) 0 (record { image = 7 ∷ 0 ∷ []; page_lsn = 1 })).image ≡ redo 0 (told 0 8 1 ∷ first_record ∷ []) 0 (0 ∷ 0 ∷ []) → ⊥)
    × (redo 0 (told 0 8 1 ∷ first_record ∷ []) 0 (7 ∷ 0 ∷ []) ≡ 8 ∷ 0 ∷ [])
without-rise = (
  record {
    legal = record { here = record { client = refl; allowed = refl; reply = inl refl }; before = lawful-going };
    gave_back = from_opening (record { here = λ i image h d. cc; before = honest-going }) refl;
    mark = omega arith;
    has = record { unwritten = []; stands = refl; unwritten_from = refl };
    from_start = omega arith;
    point = λ least e. omega arith;
  },
  record { here = refl; before = record { here = refl; before = tt } },
  refl,
  inl (record { later = put_at 0 8 1 ∷ []; entry = flush_of; earlier = marked_once; ticket = 1; image = 7 ∷ 0 ∷ []; stands = refl; begins = refl; last = refl }, refl),
  differ 0 _ _ (λ e. absurd (omega arith)),
  refl,
)

-- and the device has at first a page LSN that is not below those of the log
without-first_below : Rise (records_from 0 (first_record ∷ []) 0) × Stopped c zeros written_once written_once (first_record ∷ []) 0 0 1 0
    × MayHaveStamped (λ p. record { image = 0 ∷ 0 ∷ []; page_lsn = 5 }) written_once written_once 0 (record { image = 0 ∷ 0 ∷ []; page_lsn = 5 })
    × ((redo_by_lsn patch 0 (first_record ∷ []) 0 (record { image = 0 ∷ 0 ∷ []; page_lsn = 5 })).image ≡ redo 0 (first_record ∷ []) 0 (0 ∷ 0 ∷ []) → ⊥)
without-first_below = (
  record { here = refl; before = tt },
  record { legal = lawful-once; gave_back = from_opening honest-once refl; mark = omega arith; has = record { unwritten = []; stands = refl; unwritten_from = refl }; from_start = omega arith; point = λ least e. omega arith },
  inr (refl, refl),
  differ 0 _ _ (λ e. absurd (omega arith)),
)

-- Records that are acted on may tell what to add, and not what comes of it. Redo by page LSN then adds 1 to the byte where it is not yet added
abbrev add_one : LogRecord → List ℕ → List ℕ
add_one r image = (get_or image 0 0 + 1) ∷ get_or image 1 0 ∷ []

abbrev counted : Trail
counted = put_at 0 2 2 ∷ by 0 (Flush 0) (WriteFirst 1 0 (1 ∷ 0 ∷ [])) ∷ by 0 (Mark 1) Done ∷ put_at 0 1 1 ∷ opened

counted-alike : AppliesAlike add_one (records 0 counted) (0 ∷ 0 ∷ [])
counted-alike = record { here = refl; before = record { here = refl; before = tt } }

counted-recovered : (redo_by_lsn add_one 0 (records 0 counted) 0 (record { image = 1 ∷ 0 ∷ []; page_lsn = 1 })).image ≡ 2 ∷ 0 ∷ []
counted-recovered = refl

-- where the log has a whole page and then what was added, a torn page is made from the log alone
abbrev begun_whole : Trail
begun_whole = put_at 0 2 2 ∷ by 0 (Write 0 0 0 (1 ∷ 0 ∷ []) 1) Done ∷ opened

abbrev whole_or_one_more : LogRecord → List ℕ → List ℕ
whole_or_one_more r image = if r.lsn == 1 then r.bytes else add_one r image

made-anew : apply_all whole_or_one_more (records_from 1 (records 0 begun_whole) 0) (9 ∷ 9 ∷ []) ≡ 2 ∷ 0 ∷ []
made-anew = refl

-- ---- a page that is used again

-- The device has 7 0 of it. The pool was told of zeros, and the first write has all bytes
abbrev pub old : ℕ → List ℕ
old p = 7 ∷ 0 ∷ []

abbrev pub whole_write : Entry
whole_write = by 0 (Write 0 0 0 (3 ∷ 4 ∷ []) 2) Done

abbrev pub used_again : Trail
used_again = put_at 1 8 3 ∷ whole_write ∷ opened

again : UsedAgain 2 old 3 used_again 0
again = record {
  later = put_at 1 8 3 ∷ [];
  entry = whole_write;
  earlier = opened;
  stands = refl;
  writes_it = refl;
  offset = refl;
  bytes = refl;
  opening = refl;
  logged = omega arith;
  honest = record { here = λ i image h d. cc; before = tt };
  kept = refl;
}

pub again-stopped : Stopped c old used_again used_again (records 0 used_again) 0 2 3 0
again-stopped = record {
  legal = record {
    here = record { client = refl; allowed = refl; reply = inl refl };
    before = record { here = record { client = refl; allowed = refl; reply = inl refl }; before = lawful-opened };
  };
  gave_back = since_used_again again;
  mark = omega arith;
  has = record { unwritten = []; stands = refl; unwritten_from = refl };
  from_start = omega arith;
  point = λ least e. (let is : 2 ≡ least = cc in omega arith);
}

again-unread : HonestOf old 0 used_again → ⊥
again-unread h = differ 0 (0 ∷ 0 ∷ []) (7 ∷ 0 ∷ []) (λ e. absurd (omega arith)) (h.before.before.here refl (7 ∷ 0 ∷ []) refl refl)

again-redone : redo 2 (records 0 used_again) 0 (7 ∷ 0 ∷ []) ≡ 3 ∷ 8 ∷ []
again-redone = refl

again-held : held used_again 0 ≡ 3 ∷ 8 ∷ []
again-held = refl

-- where the log ends before that record, the page is as it was before
again-unlogged : ReadBeyond 1 (whole_write ∷ opened) 0
again-unlogged = record { later = whole_write ∷ []; read = by 0 (ReadEnd 0 0 (Some (0 ∷ 0 ∷ []))) (Fixed 0); earlier = by 0 (Fix 0) (Load 0 None) ∷ []; stands = refl; reads_it = refl; beyond = refl; kept = refl }

again-before : plain_map old (within 1 (whole_write ∷ opened)) 0 ≡ 7 ∷ 0 ∷ []
again-before = refl

-- where its first record has not all bytes, redo leaves old ones that no reader saw
without-whole : Legal c (put_at 1 8 2 ∷ opened) × MayHave old (put_at 1 8 2 ∷ opened) (put_at 1 8 2 ∷ opened) 0 (7 ∷ 0 ∷ []) × IsRedoPoint 2 (put_at 1 8 2 ∷ opened) (put_at 1 8 2 ∷ opened) 0
    × (held (put_at 1 8 2 ∷ opened) 0 ≡ 0 ∷ 8 ∷ []) × (redo 2 (second_record ∷ []) 0 (7 ∷ 0 ∷ []) ≡ 7 ∷ 8 ∷ [])
without-whole = (record { here = record { client = refl; allowed = refl; reply = inl refl }; before = lawful-opened }, inr (refl, refl), λ least e. (let is : 2 ≡ least = cc in omega arith), refl, refl)

-- kept: a page is discarded, and the log still has its write. No write is left to save, so redo may begin after it, and the whole log makes another page
abbrev discarded_since : Trail
discarded_since = by 0 (Discard 0) Discarded ∷ by 0 (Unfix 0 0) Done ∷ written_once

lawful-discarded : Legal c discarded_since
lawful-discarded = record { here = record { client = refl; allowed = refl; reply = inl refl }; before = record { here = record { client = refl; allowed = refl; reply = inl refl }; before = lawful-once } }

without-kept : Legal c discarded_since × HonestOf zeros 0 discarded_since × (some (discards 0) discarded_since ≡ true) × LogHas (first_record ∷ []) 0 2 1 discarded_since 0 × IsRedoPoint 2 discarded_since discarded_since 0
    × MayHave zeros discarded_since discarded_since 0 (0 ∷ 0 ∷ []) × (plain_map zeros discarded_since 0 ≡ 0 ∷ 0 ∷ []) × (redo 2 (first_record ∷ []) 0 (0 ∷ 0 ∷ []) ≡ redo 0 (first_record ∷ []) 0 (0 ∷ 0 ∷ []) → ⊥)
without-kept = (
  lawful-discarded,
  record { here = λ i image h d. cc; before = record { here = λ i image h d. cc; before = honest-once } },
  refl,
  record { unwritten = []; stands = refl; unwritten_from = refl },
  λ least e. absurd (none-some least e),
  inr (refl, refl),
  refl,
  differ 0 _ _ (λ e. absurd (omega arith)),
)

-- so it is where it is discarded after the write by which it was used again
abbrev discarded_again : Trail
discarded_again = by 0 (Discard 0) Discarded ∷ by 0 (Unfix 0 0) Done ∷ whole_write ∷ opened

without-kept_again : Legal c discarded_again × (length (record_of whole_write.call).bytes ≡ 2) × (some (discards 0) discarded_again ≡ true) × LogHas (records 0 discarded_again) 0 3 2 discarded_again 0
    × IsRedoPoint 3 discarded_again discarded_again 0 × MayHave old discarded_again discarded_again 0 (7 ∷ 0 ∷ []) × (redo 3 (records 0 discarded_again) 0 (7 ∷ 0 ∷ []) ≡ redo 0 (records 0 discarded_again) 0 (7 ∷ 0 ∷ []) → ⊥)
without-kept_again = (
  record {
    here = record { client = refl; allowed = refl; reply = inl refl };
    before = record {
      here = record { client = refl; allowed = refl; reply = inl refl };
      before = record { here = record { client = refl; allowed = refl; reply = inl refl }; before = lawful-opened };
    };
  },
  refl,
  refl,
  record { unwritten = []; stands = refl; unwritten_from = refl },
  λ least e. absurd (none-some least e),
  inr (refl, refl),
  differ 0 _ _ (λ e. absurd (omega arith)),
)

-- but once it is used again after the discard, redo recovers it, though the log has the write that was dropped
abbrev used_after : Trail
used_after = by 0 (Write 1 0 0 (3 ∷ 4 ∷ []) 2) Done ∷ by 0 (ReadEnd 1 0 (Some (0 ∷ 0 ∷ []))) (Fixed 1) ∷ by 0 (Fix 0) (Load 1 None) ∷ discarded_since

used_after-stopped : Stopped c zeros used_after used_after (records 0 used_after) 0 2 2 0
used_after-stopped = record {
  legal = record {
    here = record { client = refl; allowed = refl; reply = inl refl };
    before = record {
      here = record { client = refl; allowed = refl; reply = inl refl };
      before = record { here = record { client = refl; allowed = refl; reply = inl refl }; before = lawful-discarded };
    };
  };
  gave_back = since_used_again (record {
    later = [];
    entry = by 0 (Write 1 0 0 (3 ∷ 4 ∷ []) 2) Done;
    earlier = by 0 (ReadEnd 1 0 (Some (0 ∷ 0 ∷ []))) (Fixed 1) ∷ by 0 (Fix 0) (Load 1 None) ∷ discarded_since;
    stands = refl;
    writes_it = refl;
    offset = refl;
    bytes = refl;
    opening = refl;
    logged = omega arith;
    honest = tt;
    kept = refl;
  });
  mark = omega arith;
  has = record { unwritten = []; stands = refl; unwritten_from = refl };
  from_start = omega arith;
  point = λ least e. (let is : 2 ≡ least = cc in omega arith);
}

used_after-has : records 0 used_after ≡ record { page = 0; offset = 0; bytes = 3 ∷ 4 ∷ []; lsn = 2 } ∷ first_record ∷ []
used_after-has = refl

used_after-redone : redo 2 (records 0 used_after) 0 (0 ∷ 0 ∷ []) ≡ 3 ∷ 4 ∷ []
used_after-redone = refl

used_after-is_plain : plain_map zeros used_after 0 ≡ 3 ∷ 4 ∷ []
used_after-is_plain = refl

-- ---- a checkpoint, and redo that is interrupted

-- a write after a checkpoint has an LSN below the one that was noted
without-writes_from : IsRedoFrom opened None × (IsRedoPoint (redo_point None 2) opened (put_at 0 7 1 ∷ opened) 0 → ⊥)
without-writes_from = (λ p. refl, λ point. (let le = point 1 refl in absurd (omega arith)))

-- redo that stopped halfway: a record reaches beyond the page
without-fit : redo 0 ([] ++ told 5 7 1 ∷ []) 0 (redo 0 (told 5 7 1 ∷ []) 0 []) ≡ redo 0 ([] ++ told 5 7 1 ∷ []) 0 [] → ⊥
without-fit = differ 1 _ _ (λ e. absurd (omega arith))

-- ---- the second run

-- it reads what the device has, and redoes the second write
abbrev run_again : Trail
run_again = put_at 1 8 2 ∷ by 0 (ReadEnd 0 0 (Some (7 ∷ 0 ∷ []))) (Fixed 0) ∷ by 0 (Fix 0) (Load 0 None) ∷ []

abbrev left : ℕ → List ℕ
left p = 7 ∷ 0 ∷ []

run_again-redoes : Legal c run_again × HonestOf left 0 run_again × (records 0 run_again ≡ [] ++ records_from 2 (second_record ∷ first_record ∷ []) 0) × (resident run_again 0 ≡ true)
run_again-redoes = (
  record {
    here = record { client = refl; allowed = refl; reply = inl refl };
    before = record {
      here = record { client = refl; allowed = refl; reply = inl refl };
      before = record { here = record { client = refl; allowed = refl; reply = inl refl }; before = tt };
    };
  },
  record { here = λ i image h d. cc; before = record { here = λ i image h d. cc; before = record { here = λ i image h d. cc; before = tt } } },
  refl,
  refl,
)

run_again-holds : held run_again 0 ≡ 7 ∷ 8 ∷ []
run_again-holds = refl
