-- What the words on one entry of a legal trail say, in its call and its reply.
use Rattle.std.specs.Prelude.{◌≡◌, ℕ, Bool, true, false, ◌==◌, List, Option, Some, None, ◌⊎◌, ◌↔◌, Decides}
use Rattle.bp_trail.specs.declared.entries.Entry.{Entry}
use Rattle.bp_trail.specs.declared.entries.Call.{Call}
use Rattle.bp_trail.specs.declared.entries.Call.TheVariants.{Tick, Mark, Fix, ReadEnd, WriteEnd, Read, Write, Unfix, Flush, Discard, Purge}
use Rattle.bp_trail.specs.declared.entries.Reply.{Reply}
use Rattle.bp_trail.specs.declared.entries.Reply.TheVariants.{Done, Hit, Load, WriteFirst, NoVictim, NeedLog, Busy, Fixed, ReadFailed, WrongPage, Cleaned, StillDirty, WriteFailed, Content, Clean, Absent, Discarded, Pinned, Forgot}
use Rattle.bp_trail.specs.Event.{Grant, ticks, marked, lsn_written, hits, loads, writes, discards, begins_of, ends_well, pass_back, read_ticket_back, write_ticket_back}
use Rattle.bp_trail.specs.Passes.{pass_of, read_ticket_of, write_ticket_of}
use Rattle.bp_trail.specs.Sentences.{evicts, leaves, gives_back}

-- the whole table: which replies can stand with a call
abbrev pub can_answer : Call → Reply → Bool
can_answer (Tick n) Done = true
can_answer (Mark lsn) Done = true
can_answer (Fix p) (Hit pass) = true
can_answer (Fix p) (Load t victim) = true
can_answer (Fix p) (WriteFirst t victim image) = true
can_answer (Fix p) NoVictim = true
can_answer (Fix p) (NeedLog lsn) = true
can_answer (Fix p) Busy = true
can_answer (ReadEnd t p (Some image)) (Fixed pass) = true
can_answer (ReadEnd t p None) ReadFailed = true
can_answer (ReadEnd t p None) WrongPage = true
can_answer (WriteEnd t p true) Cleaned = true
can_answer (WriteEnd t p true) StillDirty = true
can_answer (WriteEnd t p false) WriteFailed = true
can_answer (Read pass p) (Content image) = true
can_answer (Write pass p offset bytes lsn) Done = true
can_answer (Unfix pass p) Done = true
can_answer (Flush p) (WriteFirst t q image) = q == p
can_answer (Flush p) (NeedLog lsn) = true
can_answer (Flush p) Busy = true
can_answer (Flush p) Clean = true
can_answer (Flush p) Absent = true
can_answer (Discard p) Discarded = true
can_answer (Discard p) Pinned = true
can_answer (Discard p) Busy = true
can_answer (Discard p) Absent = true
can_answer Purge (Forgot pages) = true
can_answer _ _ = false

-- which calls each reply is of, and how good ends are answered, and reads that end without an image
pub record FitsItsCall (e : Entry) : Type 0 where
  pub hit : (n : ℕ) → e.reply ≡ Hit n → (p : ℕ) × (e.call ≡ Fix p)
  pub load : (t : ℕ) (victim : Option ℕ) → e.reply ≡ Load t victim → (p : ℕ) × (e.call ≡ Fix p)
  pub write_first : (t p : ℕ) (image : List ℕ) → e.reply ≡ WriteFirst t p image
      → ((q : ℕ) × (e.call ≡ Fix q)) ⊎ (e.call ≡ Flush p)
  pub fixed : (n : ℕ) → e.reply ≡ Fixed n
      → (t : ℕ) × (p : ℕ) × (image : List ℕ) × (e.call ≡ ReadEnd t p (Some image))
  pub read_well : (t p : ℕ) (image : List ℕ) → e.call ≡ ReadEnd t p (Some image)
      → (n : ℕ) × (e.reply ≡ Fixed n)
  pub unread : (e.reply ≡ ReadFailed) ⊎ (e.reply ≡ WrongPage)
      → (t : ℕ) × (p : ℕ) × (e.call ≡ ReadEnd t p None)
  pub read_badly : (t p : ℕ) → e.call ≡ ReadEnd t p None
      → (e.reply ≡ ReadFailed) ⊎ (e.reply ≡ WrongPage)
  pub saved : (e.reply ≡ Cleaned) ⊎ (e.reply ≡ StillDirty)
      → (t : ℕ) × (p : ℕ) × (e.call ≡ WriteEnd t p true)
  pub written_well : (t p : ℕ) → e.call ≡ WriteEnd t p true
      → (e.reply ≡ Cleaned) ⊎ (e.reply ≡ StillDirty)
  pub discarded : (e.reply ≡ Discarded) ⊎ (e.reply ≡ Pinned) → (p : ℕ) × (e.call ≡ Discard p)

pub record IsHit (p : ℕ) (e : Entry) : Type 0 where
  pub pass : ℕ
  pub call : e.call ≡ Fix p
  pub reply : e.reply ≡ Hit pass

pub record IsGoodReadEnd (p : ℕ) (e : Entry) : Type 0 where
  pub ticket : ℕ
  pub image : List ℕ
  pub pass : ℕ
  pub call : e.call ≡ ReadEnd ticket p (Some image)
  pub reply : e.reply ≡ Fixed pass

pub record IsEviction (p : ℕ) (e : Entry) : Type 0 where
  pub asked : ℕ
  pub ticket : ℕ
  pub call : e.call ≡ Fix asked
  pub reply : e.reply ≡ Load ticket (Some p)

-- the page left its frame, or was in none
pub record IsDiscard (p : ℕ) (e : Entry) : Type 0 where
  pub call : e.call ≡ Discard p
  pub reply : (e.reply ≡ Discarded) ⊎ (e.reply ≡ Absent)

abbrev pub IsLeaving : ℕ → Entry → Type 0
IsLeaving p e = IsEviction p e ⊎ ((e.call ≡ Discard p) × (e.reply ≡ Discarded))

pub record IsWrite (p : ℕ) (e : Entry) : Type 0 where
  pub pass : ℕ
  pub offset : ℕ
  pub bytes : List ℕ
  pub lsn : ℕ
  pub call : e.call ≡ Write pass p offset bytes lsn
  pub reply : e.reply ≡ Done

pub record IsBegin (p : ℕ) (e : Entry) : Type 0 where
  pub ticket : ℕ
  pub image : List ℕ
  pub reply : e.reply ≡ WriteFirst ticket p image

pub record IsGoodWriteEnd (ticket : ℕ) (e : Entry) : Type 0 where
  pub page : ℕ
  pub good : Bool
  pub call : e.call ≡ WriteEnd ticket page good
  pub reply : (e.reply ≡ Cleaned) ⊎ (e.reply ≡ StillDirty)

-- a pass given to a client: by a hit, or by a read that ended well
pub record GivesPass (g : Grant) (e : Entry) : Type 0 where
  pub client : e.client ≡ g.client
  pub how : ((e.call ≡ Fix g.page) × (e.reply ≡ Hit g.serial))
      ⊎ ((t : ℕ) × (image : List ℕ) × (e.call ≡ ReadEnd t g.page (Some image))
      × (e.reply ≡ Fixed g.serial))

pub record GivesReadTicket (g : Grant) (e : Entry) : Type 0 where
  pub client : e.client ≡ g.client
  pub victim : Option ℕ
  pub call : e.call ≡ Fix g.page
  pub reply : e.reply ≡ Load g.serial victim

pub record GivesWriteTicket (g : Grant) (e : Entry) : Type 0 where
  pub client : e.client ≡ g.client
  pub image : List ℕ
  pub reply : e.reply ≡ WriteFirst g.serial g.page image

-- each word on an entry
pub record SaysSo (e : Entry) : Type 0 where
  pub hits : (p : ℕ) → Decides (hits p e) (IsHit p e)
  pub loads : (p : ℕ) → Decides (loads p e) (IsGoodReadEnd p e)
  pub evicts : (p : ℕ) → Decides (evicts p e) (IsEviction p e)
  pub leaves : (p : ℕ) → Decides (leaves p e) (IsLeaving p e)
  pub discards : (p : ℕ) → Decides (discards p e) (IsDiscard p e)
  pub writes : (p : ℕ) → Decides (writes p e) (IsWrite p e)
  pub begins_of : (p : ℕ) → Decides (begins_of p e.reply) (IsBegin p e)
  pub ends_well : (t : ℕ) → Decides (ends_well t e.call) (IsGoodWriteEnd t e)
  pub pass_of : (g : Grant) → (pass_of e ≡ Some g) ↔ GivesPass g e
  pub read_ticket_of : (g : Grant) → (read_ticket_of e ≡ Some g) ↔ GivesReadTicket g e
  pub write_ticket_of : (g : Grant) → (write_ticket_of e ≡ Some g) ↔ GivesWriteTicket g e
  pub unfixes : (g : Grant)
      → Decides (gives_back (λ e. pass_back e.call) g e) ((p : ℕ) × (e.call ≡ Unfix g.serial p))
  pub ends_read : (g : Grant)
      → Decides (gives_back (λ e. read_ticket_back e.call) g e)
      ((p : ℕ) × (image : Option (List ℕ)) × (e.call ≡ ReadEnd g.serial p image))
  pub ends_write : (g : Grant)
      → Decides (gives_back (λ e. write_ticket_back e.call) g e)
      ((p : ℕ) × (good : Bool) × (e.call ≡ WriteEnd g.serial p good))
  pub ticks : (n : ℕ) → (ticks e.call ≡ Some n) ↔ (e.call ≡ Tick n)
  pub marked : (lsn : ℕ) → (marked e.call ≡ Some lsn) ↔ (e.call ≡ Mark lsn)
  pub lsn_written : (p lsn : ℕ)
      → (lsn_written p e ≡ Some lsn) ↔ ((w : IsWrite p e) × (w.lsn ≡ lsn))
