-- What a keeper of a trail is seen as: its entries, newest first, and how many there may be with no
-- memory taken.
use Rattle.std.specs.Prelude.{◌≡◌, ℕ, suc, Bool, true, List, [], ◌∷◌, Some}
use Rattle.bp_trail.specs.declared.entries.Grant.{Grant}
use Rattle.bp_trail.specs.declared.entries.Call.{Call}
use Rattle.bp_trail.specs.declared.entries.Call.TheVariants.{Read, ReadEnd, Write}
use Rattle.bp_trail.specs.declared.entries.Reply.{Reply}
use Rattle.bp_trail.specs.declared.entries.Reply.TheVariants.{WriteFirst}
use Rattle.bp_trail.specs.Trail.{Trail}

-- the entries so far, with those that cuts have handed out; how many are kept; and whether the kept
-- ones open where no entries lead
pub record Kept : Type 0 where
  pub before : Trail
  pub past : Trail
  pub len : ℕ
  pub capacity : ℕ
  pub fresh : Bool

abbrev pub with_next : Kept → ℕ → Call → Reply → Kept
with_next kept client call reply =
    record kept {
      past = record { client = client; call = call; reply = reply } ∷ kept.past;
      len = suc kept.len;
    }

-- the same entries, with room for so many
abbrev pub with_capacity : Kept → ℕ → Kept
with_capacity kept capacity = record kept { capacity = capacity }

abbrev pub IsEmpty : Kept → Type 0
IsEmpty kept = (kept.before ≡ []) × (kept.past ≡ []) × (kept.len ≡ 0) × (kept.fresh ≡ true)

-- a read and a write by a pass, the end of a read that went well, and the reply that gives a ticket
-- to write out
abbrev pub read_by : Grant → Call
read_by pass = Read pass.serial pass.page

abbrev pub write_by : Grant → ℕ → List ℕ → ℕ → Call
write_by pass offset bytes lsn = Write pass.serial pass.page offset bytes lsn

abbrev pub read_end : Grant → List ℕ → Call
read_end ticket image = ReadEnd ticket.serial ticket.page (Some image)

abbrev pub write_first : Grant → List ℕ → Reply
write_first ticket image = WriteFirst ticket.serial ticket.page image
