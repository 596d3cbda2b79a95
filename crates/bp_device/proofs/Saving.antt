-- A flush writes to no page, so each saved page stays saved, and one that ends well saves its page.
use Rattle.std.proofs.Common.{subst, ◌≡◌, refl, sym, ap, inl, inr, ℕ, ◌+◌, Bool, true, false, not, ◌&&◌, ◌||◌, ◌==◌, if◌then◌else◌, List, [], ◌∷◌, ◌++◌, Some, Result, Ok, Err, arith}
use Rattle.std.proofs.Math.Nat.{eq-or-lt_of_le}
use Rattle.std.proofs.lemmas.Bool.{cases_lt, eq-eqb, and_parts, and_from, or_right, not-true, false_from_ne_true}
use Rattle.bp_page.specs.declared.refusals.Refusal.{Refusal}
use Rattle.bp_trail.specs.declared.entries.Entry.{Entry}
use Rattle.bp_trail.specs.declared.entries.Call.TheVariants.{Flush, WriteEnd}
use Rattle.bp_trail.specs.declared.entries.Reply.{Reply}
use Rattle.bp_trail.specs.declared.entries.Reply.TheVariants.{WriteFirst, NeedLog, Busy, Clean, Absent, Cleaned, StillDirty}
use Rattle.bp_trail.specs.declared.ends.Flushed.{Flushed}
use Rattle.bp_trail.specs.Parameters.{Parameters}
use Rattle.bp_trail.specs.Lists.{since, every}
use Rattle.bp_trail.specs.Event.{writes, discards, ends_well}
use Rattle.bp_trail.specs.Trail.{Trail}
use Rattle.bp_trail.specs.Clock.{durable}
use Rattle.bp_trail.specs.Passes.{tickets}
use Rattle.bp_trail.specs.Places.{resident, loading, writing}
use Rattle.bp_trail.specs.Saved.{began_saving, settles, unsaved, page_lsn}
use Rattle.bp_trail.specs.Images.{held}
use Rattle.std.specs.Prelude.{nat_lt}
use Rattle.bp_trail.specs.PageMap.{flush_reply}
use Rattle.bp_trail.specs.Legal.{Legal}
use Rattle.bp_trail.specs.Pieces.{Manner, Outcome, by, FlushGoesOn, FlushPiece}
use Rattle.bp_trail.specs.Pieces.Manner.{driver}
use Rattle.bp_trail.specs.Pieces.Outcome.{accepted}
use Rattle.bp_trail.specs.Pieces.FlushGoesOn.{begins, marked, waited}
use Rattle.bp_trail.specs.Pieces.FlushPiece.{clean, absent, cleaned, still_dirty, need_log, busy, write_failed, lost_write, no_room, no_memory}
use Rattle.bp_trail.proofs.Lists.{since-mono}
use Rattle.bp_core.specs.CoreView.{CoreView, EachPast}
use Rattle.bp_core.specs.Unsaved.{AreSaved, FindsUnsaved}
use Rattle.bp_core.proofs.Held.{away-saved}
use Rattle.bp_device.specs.Drivers.{DrivesFlush}
use Rattle.bp_device.proofs.SecondTry.{reply-is}

-- one more entry undoes no write-out
began-more : (past : Trail) (e : Entry) (p : ℕ) (r : Reply) → began_saving past p r ≡ true → began_saving (e ∷ past) p r ≡ true
began-more past e p (WriteFirst t q image) k = let a = and_parts (q == p) _ k in and_from (q == p) _ a.0 (or_right (ends_well t e.call) _ a.1)
began-more past e p _ k = cc

settled-more : (past : Trail) (e : Entry) (p : ℕ) (x : Entry) → settles past p x ≡ true → settles (e ∷ past) p x ≡ true
settled-more past e p x h = go (discards p x) h
  where
    go : (d : Bool) → (d || began_saving past p x.reply) ≡ true → (d || began_saving (e ∷ past) p x.reply) ≡ true
    go true i = refl
    go false i = began-more past e p x.reply i

-- one that writes to no page leaves a saved page saved
saved-more : (past : Trail) (e : Entry) (p : ℕ) → writes p e ≡ false → unsaved past p ≡ false → unsaved (e ∷ past) p ≡ false
saved-more past e p quiet saved = parts (writes p e) (settles (e ∷ past) p e) (since (writes p) (settles (e ∷ past) p) past) quiet still
  where
    parts : (w b s : Bool) → w ≡ false → s ≡ false → (w || (not b && s)) ≡ false
    parts true b s i j = cc
    parts false true s i j = refl
    parts false false s i j = j

    still : since (writes p) (settles (e ∷ past) p) past ≡ false
    still = false_from_ne_true _ (λ m.
        let u = since-mono (writes p) (settles past p) (settles (e ∷ past) p) past (settled-more past e p) m in
        let w : unsaved past p ≡ true = u in
        cc)

saved-piece : (past piece : Trail) (p : ℕ) → every (λ e. not (writes p e)) piece ≡ true → unsaved past p ≡ false → unsaved (piece ++ past) p ≡ false
saved-piece past [] p quiet saved = saved
saved-piece past (e ∷ older) p quiet saved =
    let q = and_parts (not (writes p e)) _ quiet in
    saved-more (older ++ past) e p (not-true (writes p e) q.0) (saved-piece past older p q.1 saved)

-- the entries of a flush
goes-quiet : (m : Manner) (client page p : ℕ) (piece : Trail) → FlushGoesOn m client page piece → every (λ e. not (writes p e)) piece ≡ true
goes-quiet m client page p _ begins = refl
goes-quiet m client page p _ (marked lsn s on) = goes-quiet m client page p _ on
goes-quiet m client page p _ (waited s on) = goes-quiet m client page p _ on

piece-quiet : (m : Manner) (client page p : ℕ) (piece : Trail) (outcome : Outcome) → FlushPiece m client page piece outcome → every (λ e. not (writes p e)) piece ≡ true
piece-quiet m client page p _ _ (clean on) = goes-quiet m client page p _ on
piece-quiet m client page p _ _ (absent on) = goes-quiet m client page p _ on
piece-quiet m client page p _ _ (cleaned t image on) = goes-quiet m client page p _ on
piece-quiet m client page p _ _ (still_dirty t image on) = goes-quiet m client page p _ on
piece-quiet m client page p _ _ (need_log lsn on) = goes-quiet m client page p _ on
piece-quiet m client page p _ _ (busy d on) = goes-quiet m client page p _ on
piece-quiet m client page p _ _ (write_failed t image on) = goes-quiet m client page p _ on
piece-quiet m client page p _ _ (lost_write t image s on) = goes-quiet m client page p _ on
piece-quiet m client page p _ _ (no_room on) = goes-quiet m client page p _ on
piece-quiet m client page p _ _ (no_memory on) = goes-quiet m client page p _ on

pub flush-keeps : (old new : CoreView) (client page p : ℕ) (result : Result Flushed Refusal) → DrivesFlush old client page result new → unsaved old.past p ≡ false → unsaved new.past p ≡ false
flush-keeps old new client page p (Ok f) d saved =
    subst (λ (core : CoreView). unsaved core.past p ≡ false) (sym d.is) (saved-piece old.past d.piece p (piece-quiet driver client page p d.piece accepted d.of_row.0) saved)
flush-keeps old new client page p (Err why) d saved =
    subst (λ (core : CoreView). unsaved core.past p ≡ false) (sym d.is) (saved-piece old.past d.piece p (piece-quiet driver client page p d.piece _ d.of_row) saved)

pub flush-parameters : (old new : CoreView) (client page : ℕ) (result : Result Flushed Refusal) → DrivesFlush old client page result new → new.parameters ≡ old.parameters
flush-parameters old new client page (Ok f) d = ap (λ core. core.parameters) d.is
flush-parameters old new client page (Err why) d = ap (λ core. core.parameters) d.is

-- where the lawful reply to a flush is that the page is saved, or away, it is
abbrev Replied : Bool → Bool → Bool → Bool → Bool → ℕ → ℕ → ℕ → List ℕ → Reply
Replied l r w u d lsn t p image = if l then Busy else if not r then Absent else if w then Busy else if u then (if d then NeedLog lsn else WriteFirst t p image) else Clean

says-clean : (l r w u d : Bool) (lsn t p : ℕ) (image : List ℕ) → Clean ≡ Replied l r w u d lsn t p image → u ≡ false
says-clean true r w u d lsn t p image is = cc
says-clean false false w u d lsn t p image is = cc
says-clean false true true u d lsn t p image is = cc
says-clean false true false true true lsn t p image is = cc
says-clean false true false true false lsn t p image is = cc
says-clean false true false false d lsn t p image is = refl

says-absent : (l r w u d : Bool) (lsn t p : ℕ) (image : List ℕ) → Absent ≡ Replied l r w u d lsn t p image → r ≡ false
says-absent true r w u d lsn t p image is = cc
says-absent false false w u d lsn t p image is = refl
says-absent false true true u d lsn t p image is = cc
says-absent false true false true true lsn t p image is = cc
says-absent false true false true false lsn t p image is = cc
says-absent false true false false d lsn t p image is = cc

and-no : (b : Bool) → (b && false) ≡ false
and-no true = refl
and-no false = refl

module _ (c : Parameters) (past : Trail) (client page : ℕ) where
  lawful-reply : (reply : Reply) → Legal c (by client (Flush page) reply ∷ past) → reply ≡ flush_reply past page
  lawful-reply reply legal = reply-is (Flush page) reply refl legal.here.reply

  clean-is : Legal c (by client (Flush page) Clean ∷ past) → unsaved past page ≡ false
  clean-is legal = says-clean (loading past page) (resident past page) (writing past page) (unsaved past page) (nat_lt (durable past) (page_lsn past page)) (page_lsn past page) (tickets past) page (held past page) (lawful-reply Clean legal)

  absent-is : Legal c (by client (Flush page) Absent ∷ past) → unsaved past page ≡ false
  absent-is legal =
      sym (away-saved c past legal.before page
      (says-absent (loading past page) (resident past page) (writing past page) (unsaved past page) (nat_lt (durable past) (page_lsn past page)) (page_lsn past page) (tickets past) page (held past page) (lawful-reply Absent legal)))

  -- a write-out that began and ended well, with no entry between
  ended-is : (t : ℕ) (image : List ℕ) (reply : Reply) → began_saving (by client (WriteEnd t page true) reply ∷ by client (Flush page) (WriteFirst t page image) ∷ past) page reply ≡ false
      → unsaved (by client (WriteEnd t page true) reply ∷ by client (Flush page) (WriteFirst t page image) ∷ past) page ≡ false
  ended-is t image reply none = rw (none, eq-eqb page page refl, eq-eqb t t refl) (and-no _)

saved-by : (c : Parameters) (past piece : Trail) (client page : ℕ) (outcome : Outcome) → outcome ≡ accepted → Legal c (piece ++ past) → FlushPiece driver client page piece outcome → unsaved (piece ++ past) page ≡ false
saved-by c past _ client page _ ok legal (clean {older} on) = saved-more (older ++ past) (by client (Flush page) Clean) page refl (clean-is c (older ++ past) client page legal)
saved-by c past _ client page _ ok legal (absent {older} on) = saved-more (older ++ past) (by client (Flush page) Absent) page refl (absent-is c (older ++ past) client page legal)
saved-by c past _ client page _ ok legal (cleaned {older} t image on) = ended-is c (older ++ past) client page t image Cleaned refl
saved-by c past _ client page _ ok legal (still_dirty {older} t image on) = ended-is c (older ++ past) client page t image StillDirty refl
saved-by c past _ client page _ ok legal (need_log lsn on) = cc
saved-by c past _ client page _ ok legal (busy d on) = cc
saved-by c past _ client page _ ok legal (write_failed t image on) = cc
saved-by c past _ client page _ ok legal (lost_write t image s on) = cc
saved-by c past _ client page _ ok legal (no_room on) = cc
saved-by c past _ client page _ ok legal (no_memory on) = cc

pub flush-saves : (old new : CoreView) (client page : ℕ) (f : Flushed) → EachPast new (Legal new.parameters) → DrivesFlush old client page (Ok f) new → unsaved new.past page ≡ false
flush-saves old new client page f legal d =
    subst (λ (core : CoreView). unsaved core.past page ≡ false) (sym d.is)
    (saved-by old.parameters old.past d.piece client page accepted refl (subst (λ (core : CoreView). Legal core.parameters core.past) d.is legal) d.of_row.0)

-- what is saved below a page that is looked for from there on
pub saved-up : (from end : ℕ) (past : Trail) → AreSaved 0 from past → AreSaved from end past → AreSaved 0 end past
saved-up from end past below here p z l = elim (cases_lt p from) as (λ _. unsaved past p ≡ false) [ inl less ↦ below p z less | inr more ↦ here p more l ]

-- the pages up to one that was flushed
pub saved-more-pages : (old new : CoreView) (client page from pages : ℕ) (f : Flushed) → AreSaved 0 from old.past → FindsUnsaved pages from old.past (Some page)
    → EachPast new (Legal new.parameters) → DrivesFlush old client page (Ok f) new → AreSaved 0 (page + 1) new.past
saved-more-pages old new client page from pages f below found legal d p z l =
    elim (eq-or-lt_of_le {n = p} {m = page} (omega arith)) as (λ _. unsaved new.past p ≡ false) [
      | inl same ↦ rw same (flush-saves old new client page f legal d)
      | inr less ↦ flush-keeps old new client page p (Ok f) d (saved-up from page old.past below found.3 p z less)
    ]
