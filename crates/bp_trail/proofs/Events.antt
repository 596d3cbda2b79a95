-- The forms that a lawful entry has, with what each says of the trail before it.
use Rattle.std.proofs.Common.{◌≡◌, refl, sym, subst, inl, inr, ℕ, ◌≤◌, nat_lt, Bool, true, false, not, ◌==◌, if◌then◌else◌, List, Option, Some, None}
use Rattle.std.proofs.lemmas.Bool.{and_parts, eqb-true, ltb-false}
use Rattle.bp_trail.specs.declared.entries.Entry.{Entry}
use Rattle.bp_trail.specs.declared.entries.Call.{Call}
use Rattle.bp_trail.specs.declared.entries.Call.TheVariants.{Tick, Mark, Fix, ReadEnd, WriteEnd, Read, Write, Unfix, Flush, Discard, Purge}
use Rattle.bp_trail.specs.declared.entries.Reply.{Reply}
use Rattle.bp_trail.specs.declared.entries.Reply.TheVariants.{Done, Hit, Load, WriteFirst, NoVictim, NeedLog, Busy, Fixed, ReadFailed, WrongPage, Cleaned, StillDirty, WriteFailed, Content, Clean, Absent, Discarded, Pinned, Forgot}
use Rattle.bp_trail.specs.Parameters.{Parameters}
use Rattle.bp_trail.specs.Event.{grant}
use Rattle.bp_trail.specs.Trail.{Trail}
use Rattle.bp_trail.specs.Clock.{durable}
use Rattle.bp_trail.specs.Passes.{passes, tickets, reads_out, writes_out, passes_out, pins}
use Rattle.bp_trail.specs.Places.{resident, loading, writing}
use Rattle.bp_trail.specs.Saved.{unsaved, written_since, page_lsn}
use Rattle.bp_trail.specs.Images.{held}
use Rattle.bp_trail.specs.References.{forgotten}
use Rattle.bp_trail.specs.Victim.{victim}
use Rattle.bp_trail.specs.PageMap.{has_free_frame, replace_reply, fix_reply, flush_reply, discard_reply, write_end_reply, reply_of, MayReply}
use Rattle.bp_trail.specs.PageMap.FindsWrongPage.{another_page}
use Rattle.bp_trail.specs.Legal.{is_out, allowed, IsLawful}

-- a fix that finds its page away
pub record Misses (past : Trail) (p : ℕ) : Type 0 where
  pub not_loading : loading past p ≡ false
  pub not_resident : resident past p ≡ false

-- a write-out of p begins: it is unsaved, and the log is durable as far as its writes
pub record MayGo (past : Trail) (p : ℕ) : Type 0 where
  pub unsaved_page : unsaved past p ≡ true
  pub logged : page_lsn past p ≤ durable past

-- a page that is discarded
pub record MayLeave (past : Trail) (p : ℕ) : Type 0 where
  pub not_loading : loading past p ≡ false
  pub here : resident past p ≡ true
  pub not_writing : writing past p ≡ false
  pub unpinned : pins past p ≡ 0

pub data Event (c : Parameters) (past : Trail) (who : ℕ) : Call → Reply → Type 0 where
  ticked : (n : ℕ) → Event c past who (Tick n) Done
  marked : (lsn : ℕ) → Event c past who (Mark lsn) Done
  fix_hit : (p : ℕ) → loading past p ≡ false → resident past p ≡ true → Event c past who (Fix p) (Hit (passes past))
  fix_load : (p : ℕ) → Misses past p → has_free_frame c past ≡ true → Event c past who (Fix p) (Load (tickets past) None)
  fix_replace : (p v : ℕ) → Misses past p → victim c past ≡ Some v → unsaved past v ≡ false → Event c past who (Fix p) (Load (tickets past) (Some v))
  fix_write : (p v : ℕ) → Misses past p → victim c past ≡ Some v → MayGo past v → Event c past who (Fix p) (WriteFirst (tickets past) v (held past v))
  fix_busy : (p : ℕ) → loading past p ≡ true → Event c past who (Fix p) Busy
  fix_none : (p : ℕ) → Misses past p → victim c past ≡ None → Event c past who (Fix p) NoVictim
  fix_log : (p v : ℕ) → Misses past p → victim c past ≡ Some v → Event c past who (Fix p) (NeedLog (page_lsn past v))
  flush_busy : (p : ℕ) → Event c past who (Flush p) Busy
  flush_absent : (p : ℕ) → resident past p ≡ false → Event c past who (Flush p) Absent
  flush_clean : (p : ℕ) → resident past p ≡ true → unsaved past p ≡ false → Event c past who (Flush p) Clean
  flush_log : (p : ℕ) → Event c past who (Flush p) (NeedLog (page_lsn past p))
  flush_write : (p : ℕ) → resident past p ≡ true → writing past p ≡ false → MayGo past p → Event c past who (Flush p) (WriteFirst (tickets past) p (held past p))
  discard_busy : (p : ℕ) → Event c past who (Discard p) Busy
  discard_absent : (p : ℕ) → Misses past p → Event c past who (Discard p) Absent
  discard_pinned : (p : ℕ) → Event c past who (Discard p) Pinned
  discarded : (p : ℕ) → MayLeave past p → Event c past who (Discard p) Discarded
  read_good : (t p : ℕ) (image : List ℕ) → is_out (grant who p t) (reads_out past) ≡ true → Event c past who (ReadEnd t p (Some image)) (Fixed (passes past))
  read_bad : (t p : ℕ) → is_out (grant who p t) (reads_out past) ≡ true → Event c past who (ReadEnd t p None) ReadFailed
  read_wrong : (t p : ℕ) → is_out (grant who p t) (reads_out past) ≡ true → Event c past who (ReadEnd t p None) WrongPage
  write_bad : (t p : ℕ) → is_out (grant who p t) (writes_out past) ≡ true → Event c past who (WriteEnd t p false) WriteFailed
  write_clean : (t p : ℕ) → is_out (grant who p t) (writes_out past) ≡ true → written_since past t p ≡ false → Event c past who (WriteEnd t p true) Cleaned
  write_dirty : (t p : ℕ) → is_out (grant who p t) (writes_out past) ≡ true → written_since past t p ≡ true → Event c past who (WriteEnd t p true) StillDirty
  page_read : (n p : ℕ) → is_out (grant who p n) (passes_out past) ≡ true → Event c past who (Read n p) (Content (held past p))
  page_written : (n p offset : ℕ) (bytes : List ℕ) (lsn : ℕ) → is_out (grant who p n) (passes_out past) ≡ true → Event c past who (Write n p offset bytes lsn) Done
  unfixed : (n p : ℕ) → is_out (grant who p n) (passes_out past) ≡ true → Event c past who (Unfix n p) Done
  purged : Event c past who Purge (Forgot (forgotten c past))

module _ (c : Parameters) (past : Trail) (who : ℕ) where
  replaced : (p : ℕ) → Misses past p → (o : Option ℕ) → victim c past ≡ o → Event c past who (Fix p) (replace_reply past o)
  replaced p m None e = fix_none p m e
  replaced p m (Some v) e = go (unsaved past v) refl (nat_lt (durable past) (page_lsn past v)) refl
    where
      go : (u : Bool) → unsaved past v ≡ u → (d : Bool) → nat_lt (durable past) (page_lsn past v) ≡ d
          → Event c past who (Fix p) (if u then (if d then NeedLog (page_lsn past v) else WriteFirst (tickets past) v (held past v)) else Load (tickets past) (Some v))
      go false h d k = fix_replace p v m e h
      go true h true k = fix_log p v m e
      go true h false k = fix_write p v m e (record { unsaved_page = h; logged = ltb-false (durable past) (page_lsn past v) k })

  fixed : (p : ℕ) → Event c past who (Fix p) (fix_reply c past p)
  fixed p = go (loading past p) refl (resident past p) refl (has_free_frame c past) refl
    where
      go : (l : Bool) → loading past p ≡ l → (r : Bool) → resident past p ≡ r → (f : Bool) → has_free_frame c past ≡ f
          → Event c past who (Fix p) (if l then Busy else if r then Hit (passes past) else if f then Load (tickets past) None else replace_reply past (victim c past))
      go true i r j f k = fix_busy p i
      go false i true j f k = fix_hit p i j
      go false i false j true k = fix_load p (record { not_loading = i; not_resident = j }) k
      go false i false j false k = replaced p (record { not_loading = i; not_resident = j }) (victim c past) refl

  flushed : (p : ℕ) → Event c past who (Flush p) (flush_reply past p)
  flushed p = go (loading past p) (resident past p) refl (writing past p) refl (unsaved past p) refl (nat_lt (durable past) (page_lsn past p)) refl
    where
      go : (l r : Bool) → resident past p ≡ r → (w : Bool) → writing past p ≡ w → (u : Bool) → unsaved past p ≡ u → (d : Bool) → nat_lt (durable past) (page_lsn past p) ≡ d
          → Event c past who (Flush p) (if l then Busy else if not r then Absent else if w then Busy else if u then (if d then NeedLog (page_lsn past p) else WriteFirst (tickets past) p (held past p)) else Clean)
      go true r i w j u k d h = flush_busy p
      go false false i w j u k d h = flush_absent p i
      go false true i true j u k d h = flush_busy p
      go false true i false j false k d h = flush_clean p i k
      go false true i false j true k true h = flush_log p
      go false true i false j true k false h = flush_write p i j (record { unsaved_page = k; logged = ltb-false (durable past) (page_lsn past p) h })

  dropped : (p : ℕ) → Event c past who (Discard p) (discard_reply past p)
  dropped p = go (loading past p) refl (resident past p) refl (writing past p) refl (pins past p == 0) refl
    where
      go : (l : Bool) → loading past p ≡ l → (r : Bool) → resident past p ≡ r → (w : Bool) → writing past p ≡ w → (n : Bool) → (pins past p == 0) ≡ n
          → Event c past who (Discard p) (if l then Busy else if not r then Absent else if w then Busy else if n then Discarded else Pinned)
      go true h r i w j n k = discard_busy p
      go false h false i w j n k = discard_absent p (record { not_loading = h; not_resident = i })
      go false h true i true j n k = discard_busy p
      go false h true i false j true k = discarded p (record { not_loading = h; here = i; not_writing = j; unpinned = eqb-true (pins past p) 0 k })
      go false h true i false j false k = discard_pinned p

  write_ended : (t p : ℕ) → is_out (grant who p t) (writes_out past) ≡ true → Event c past who (WriteEnd t p true) (write_end_reply past t p true)
  write_ended t p o = go (written_since past t p) refl
    where
      go : (b : Bool) → written_since past t p ≡ b → Event c past who (WriteEnd t p true) (if b then StillDirty else Cleaned)
      go true h = write_dirty t p o h
      go false h = write_clean t p o h

  event_of_call : (call : Call) → allowed c past who call ≡ true → Event c past who call (reply_of c past call)
  event_of_call (Tick n) a = ticked n
  event_of_call (Mark lsn) a = marked lsn
  event_of_call (Fix p) a = fixed p
  event_of_call (Flush p) a = flushed p
  event_of_call (Discard p) a = dropped p
  event_of_call (ReadEnd t p None) a = read_bad t p (and_parts _ _ a).0
  event_of_call (ReadEnd t p (Some image)) a = read_good t p image (and_parts _ _ a).0
  event_of_call (WriteEnd t p false) a = write_bad t p a
  event_of_call (WriteEnd t p true) a = write_ended t p a
  event_of_call (Read n p) a = page_read n p a
  event_of_call (Write n p offset bytes lsn) a = page_written n p offset bytes lsn (and_parts _ _ a).0
  event_of_call (Unfix n p) a = unfixed n p a
  event_of_call Purge a = purged

  event_of_reply : (call : Call) (reply : Reply) → allowed c past who call ≡ true → MayReply c past call reply → Event c past who call reply
  event_of_reply call reply a (inl is) = subst (λ r. Event c past who call r) (sym is) (event_of_call call a)
  event_of_reply _ _ a (inr (another_page t p)) = read_wrong t p (and_parts _ _ a).0

pub event-of : (c : Parameters) (past : Trail) (e : Entry) → IsLawful c past e → Event c past e.client e.call e.reply
event-of c past e l = event_of_reply c past e.client e.call e.reply l.allowed l.reply
