-- What each entry of a legal trail keeps: no pinned and no unsaved page is evicted, the victim is the
-- one that LRU-K names, no page is discarded that is pinned or that the device is at work on, and no
-- image goes out beyond the durable log.
use Rattle.std.specs.Prelude.{◌≡◌, ℕ, ◌≤◌, List, Some, filter_map, Contains, IsTrue, IsFalse}
use Rattle.bp_trail.specs.declared.entries.Entry.{Entry}
use Rattle.bp_trail.specs.declared.entries.Reply.TheVariants.{Load, WriteFirst}
use Rattle.bp_trail.specs.Parameters.{Parameters}
use Rattle.bp_trail.specs.Lists.{greatest, after_last, EachEntry}
use Rattle.bp_trail.specs.Event.{discards, writes, lsn_of, lsn_written}
use Rattle.bp_trail.specs.Trail.{Trail}
use Rattle.bp_trail.specs.Clock.{durable}
use Rattle.bp_trail.specs.Passes.{pins}
use Rattle.bp_trail.specs.Places.{loading, writing}
use Rattle.bp_trail.specs.Saved.{unsaved}
use Rattle.bp_trail.specs.Victim.{IsVictim}

pub record Evicts (c : Parameters) (past : Trail) (v : ℕ) : Type 0 where
  pub victim : IsVictim c past v
  pub unpinned : pins past v ≡ 0
  pub saved : IsFalse (unsaved past v)

abbrev pub EvictsSafely : Parameters → Trail → Entry → Type 0
EvictsSafely c past e = (t v : ℕ) → e.reply ≡ Load t (Some v) → Evicts c past v

-- a page that is discarded has no passes out, and neither a read nor a write-out
pub record IsIdle (past : Trail) (p : ℕ) : Type 0 where
  pub unpinned : pins past p ≡ 0
  pub not_loading : IsFalse (loading past p)
  pub not_writing : IsFalse (writing past p)

abbrev pub DiscardsSafely : Trail → Entry → Type 0
DiscardsSafely past e = (p : ℕ) → IsTrue (discards p e) → IsIdle past p

-- where a write-out of p begins, every earlier write of p since its last discard has a durable LSN
abbrev pub WritesBehindLog : Trail → Entry → Type 0
WritesBehindLog past e =
    (t p : ℕ) (image : List ℕ) → e.reply ≡ WriteFirst t p image
    → greatest (filter_map (lsn_written p) (after_last (discards p) past)) ≤ durable past

pub record IsSafe (c : Parameters) (past : Trail) (e : Entry) : Type 0 where
  pub evicts : EvictsSafely c past e
  pub discards : DiscardsSafely past e
  pub logged : WritesBehindLog past e

abbrev pub Safe : Parameters → Trail → Type 0
Safe c past = EachEntry (IsSafe c) past

-- the same of each earlier write
abbrev pub WritesAreDurable : Trail → Entry → Type 0
WritesAreDurable past e =
    (t p : ℕ) (image : List ℕ) (w : Entry) → e.reply ≡ WriteFirst t p image
    → Contains (after_last (discards p) past) w → IsTrue (writes p w) → lsn_of w.call ≤ durable past
