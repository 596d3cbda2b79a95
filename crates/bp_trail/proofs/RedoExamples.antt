-- Checkpoints, second crashes and torn pages that keep the premises of the laws, and pages that redo leaves wrong without them. All of it computes.
use Rattle.std.proofs.Common.{◌≡◌, inl, inr, refl, sym, subst, ◌∙◌, ℕ, ◌≤◌, Bool, true, false, ◌==◌, [], ◌∷◌, ◌++◌, length, Some, None, arith}
use Rattle.std.proofs.lemmas.Option.{none-some}
use Rattle.std.proofs.lemmas.Bool.{eqb-true}
use Rattle.bp_trail.specs.declared.entries.Call.TheVariants.{WriteEnd}
use Rattle.bp_trail.specs.declared.entries.Reply.TheVariants.{Cleaned}
use Rattle.bp_trail.specs.declared.records.LogRecord.{LogRecord}
use Rattle.bp_trail.specs.Trail.{Trail}
use Rattle.bp_trail.specs.Images.{plain_map}
use Rattle.bp_trail.specs.Saved.{first_lsn, IsRedoFrom}
use Rattle.bp_trail.specs.Recovery.GaveBack.{from_opening}
use Rattle.bp_trail.specs.Pieces.{by}
use Rattle.bp_trail.specs.Standing.{Content}
use Rattle.bp_trail.specs.Recovery.{records, within, patch, put, redo, redo_by_lsn, redo_with_full_images, redo_point, HasFullImage, Recovers, Stopped}
use Rattle.bp_trail.proofs.Crashes.{checkpoint-recovers, stopped-again, recovers-torn}
use Rattle.bp_trail.proofs.Full.{redo-torn, patch-puts_in}
use Rattle.bp_trail.proofs.Stamped.{recovers-bytes}
use Rattle.bp_trail.proofs.CrashExamples.{c, zeros, put_at, told, written_once, marked_once, flush_of, saved_once, written_twice, first_record, second_record, whole_write, used_again, lawful-once, lawful-saved, lawful-twice, honest-once, honest-saved, honest-twice, unsynced-has, again-stopped}

-- ---- a checkpoint

-- the page was saved when the sync began, and the next LSN was 2: redo begins there
all-saved : IsRedoFrom saved_once None
all-saved p = go (0 == p) refl
  where
    go : (b : Bool) → (0 == p) ≡ b → first_lsn saved_once p ≡ None
    go true i = subst (λ q. first_lsn saved_once q ≡ None) (eqb-true 0 p i) refl
    go false i = rw i refl

checkpointed : redo (redo_point None 2) (second_record ∷ first_record ∷ []) 0 (7 ∷ 0 ∷ []) ≡ put [] (plain_map zeros (within 2 written_twice) 0)
checkpointed =
    checkpoint-recovers c zeros saved_once (put_at 1 8 2 ∷ []) (second_record ∷ first_record ∷ []) None 1 2 2 0 (7 ∷ 0 ∷ []) lawful-twice (from_opening honest-twice refl) (omega arith)
    (record { unwritten = []; stands = refl; unwritten_from = refl }) (omega arith) (record { here = refl; before = record { here = refl; before = tt } }) all-saved
    (record { here = λ lsn e. (let is : 2 ≡ lsn = cc in omega arith); before = tt })
    (inl (record { later = put_at 1 8 2 ∷ by 0 (WriteEnd 1 0 true) Cleaned ∷ []; entry = flush_of; earlier = marked_once; ticket = 1; image = 7 ∷ 0 ∷ []; stands = refl; begins = refl; last = refl }, refl))

-- the page had not gone out when the sync began: redo begins at its write, and the device may have lost what went out since
one-unsaved : IsRedoFrom marked_once (Some 1)
one-unsaved = ((0, refl), rest)
  where
    rest : (p later : ℕ) → first_lsn marked_once p ≡ Some later → 1 ≤ later
    rest p later e = go (0 == p) refl
      where
        go : (b : Bool) → (0 == p) ≡ b → 1 ≤ later
        go true i = (let here : first_lsn marked_once 0 ≡ Some later = subst (λ q. first_lsn marked_once q ≡ Some later) (sym (eqb-true 0 p i)) e in let is : 1 ≡ later = cc in omega arith)
        go false i = (let none : first_lsn marked_once p ≡ None = rw i refl in absurd (none-some later (sym none ∙ e)))

checkpointed-sooner : redo (redo_point (Some 1) 2) (first_record ∷ []) 0 (0 ∷ 0 ∷ []) ≡ put [] (plain_map zeros (within 1 saved_once) 0)
checkpointed-sooner =
    checkpoint-recovers c zeros marked_once (by 0 (WriteEnd 1 0 true) Cleaned ∷ flush_of ∷ []) (first_record ∷ []) (Some 1) 1 2 1 0 (0 ∷ 0 ∷ []) lawful-saved (from_opening honest-saved refl) (omega arith)
    (record { unwritten = []; stands = refl; unwritten_from = refl }) (omega arith) (record { here = refl; before = tt }) one-unsaved
    (record { here = λ lsn e. absurd (none-some lsn e); before = record { here = λ lsn e. absurd (none-some lsn e); before = tt } })
    unsynced-has

-- ---- a second crash

-- The first run left the page as it was at first, and the log has its write. The second run made that write again, the page
-- went out, and one record was added
twice-stopped : Stopped c zeros written_twice written_twice ((second_record ∷ []) ++ (first_record ∷ [])) 1 2 2 0
twice-stopped = record {
  legal = lawful-twice;
  gave_back = from_opening honest-twice refl;
  mark = omega arith;
  has = record { unwritten = []; stands = refl; unwritten_from = refl };
  from_start = omega arith;
  point = λ least e. (let is : 2 ≡ least = cc in omega arith);
}

twice-recovers : Recovers ((second_record ∷ []) ++ (first_record ∷ [])) 0 2 0 (0 ∷ 0 ∷ []) (7 ∷ 0 ∷ [])
twice-recovers =
    stopped-again c zeros written_twice written_twice (first_record ∷ []) (second_record ∷ []) 0 1 2 2 0 (0 ∷ 0 ∷ []) (7 ∷ 0 ∷ []) (record { from_start = omega arith; same = refl }) refl twice-stopped
    (record { here = refl; before = record { here = refl; before = tt } })
    (inl (record { later = put_at 1 8 2 ∷ by 0 (WriteEnd 1 0 true) Cleaned ∷ []; entry = flush_of; earlier = marked_once; ticket = 1; image = 7 ∷ 0 ∷ []; stands = refl; begins = refl; last = refl }, refl))

-- ---- pages that are torn

-- a part of the page is written, then all of it, then a part
abbrev whole_between : Trail
whole_between = put_at 1 8 3 ∷ whole_write ∷ written_once

whole-stopped : Stopped c zeros whole_between whole_between (records 0 whole_between) 0 1 3 0
whole-stopped = record {
  legal = record {
    here = record { client = refl; allowed = refl; reply = inl refl };
    before = record { here = record { client = refl; allowed = refl; reply = inl refl }; before = lawful-once };
  };
  gave_back = from_opening (record { here = λ i image h d. cc; before = record { here = λ i image h d. cc; before = honest-once } }) refl;
  mark = omega arith;
  has = record { unwritten = []; stands = refl; unwritten_from = refl };
  from_start = omega arith;
  point = λ least e. (let is : 1 ≡ least = cc in omega arith);
}

abbrev whole_record : LogRecord
whole_record = record { page = 0; offset = 0; bytes = 3 ∷ 4 ∷ []; lsn = 2 }

abbrev whole-image : HasFullImage 2 (records 0 whole_between)
whole-image = record { newer = told 1 8 3 ∷ []; full = whole_record; older = first_record ∷ []; stands = refl; offset = refl; bytes = refl; fit = (omega arith, tt) }

torn-recovered : redo 1 (records 0 whole_between) 0 (9 ∷ 9 ∷ []) ≡ redo 0 (records 0 whole_between) 0 (0 ∷ 0 ∷ [])
torn-recovered =
    recovers-torn c zeros whole_between whole_between (records 0 whole_between) 0 1 3 0 (9 ∷ 9 ∷ []) whole-stopped
    (record { here = refl; before = record { here = refl; before = record { here = refl; before = tt } } }) whole-image refl

torn-is : redo 0 (records 0 whole_between) 0 (0 ∷ 0 ∷ []) ≡ 3 ∷ 8 ∷ []
torn-is = refl

-- The page LSN of a torn page may be newer than its bytes. Redo by page LSN then passes the full image over
abbrev torn : Content
torn = record { image = 9 ∷ 9 ∷ []; page_lsn = 3 }

without-full_images : (redo_by_lsn patch 1 (records 0 whole_between) 0 torn).image ≡ 9 ∷ 9 ∷ []
without-full_images = refl

-- so a full image is put in whatever the page LSN is
abbrev has_two_bytes : LogRecord → Bool
has_two_bytes r = length r.bytes == 2

torn-by_page_lsn : (redo_with_full_images has_two_bytes patch 1 (records 0 whole_between) 0 torn).image ≡ put [] (plain_map zeros (within 3 whole_between) 0)
torn-by_page_lsn =
    redo-torn has_two_bytes patch zeros whole_between (records 0 whole_between) 0 1 3 0 torn (record { unwritten = []; stands = refl; unwritten_from = refl }) (omega arith)
    (record { here = refl; before = record { here = refl; before = record { here = refl; before = tt } } })
    (record { here = refl; before = record { here = refl; before = record { here = refl; before = tt } } })
    whole-image (omega arith) refl (patch-puts_in 2 whole_record refl refl) refl

-- and a page that has each write keeps what it has
untorn-by_page_lsn : (redo_with_full_images has_two_bytes patch 1 (records 0 whole_between) 0 (record { image = 3 ∷ 8 ∷ []; page_lsn = 3 })).image ≡ 3 ∷ 8 ∷ []
untorn-by_page_lsn = refl

-- ---- a page that is used again, by page LSN

-- the device has old bytes of it, under an old LSN
abbrev stamped_old : ℕ → Content
stamped_old p = record { image = 7 ∷ 0 ∷ []; page_lsn = 1 }

again-by_page_lsn : (redo_by_lsn patch 2 (records 0 used_again) 0 (stamped_old 0)).image ≡ redo 0 (records 0 used_again) 0 (7 ∷ 0 ∷ [])
again-by_page_lsn =
    recovers-bytes c stamped_old used_again used_again (records 0 used_again) 0 2 3 0 (stamped_old 0) again-stopped
    (record { here = refl; before = record { here = refl; before = tt } }) refl (inr (refl, refl))
