-- What the trail of every run has, in the order of time: the rules of the pool.
use Rattle.std.specs.Prelude.{◌≡◌, ℕ, false, List, reverse, Some}
use Rattle.bp_references.specs.Distance.{is_farther}
use Rattle.bp_trail.specs.declared.entries.Entry.{Entry}
use Rattle.bp_trail.specs.declared.entries.Reply.TheVariants.{Load}
use Rattle.bp_trail.specs.Parameters.{Parameters}
use Rattle.bp_trail.specs.Lists.{EachEntry}
use Rattle.bp_trail.specs.PageMap.{MayReply}
use Rattle.bp_trail.specs.Victim.{backward_distance}
use Rattle.bp_trail.specs.Sentences.{IsCandidate, IsFirst}
use Rattle.bp_trail.specs.Safety.{EvictsSafely, DiscardsSafely, WritesAreDurable}
use Rattle.bp_trail.specs.Claims.{AnswersPlain}

-- each reply is what the page map answers there; each page that is evicted has no pins and is not
-- unsaved, and is the eligible page that comes first, so that none is farther; each page that is
-- discarded has no pins, and neither a read nor a write-out; where an image goes out the log is
-- durable as far as each write of its page since its last discard; and each content is the plain
-- map's, if the device was honest of its page
pub record KeepsRules (c : Parameters) (trail : List Entry) : Type 0 where
  pub replies : EachEntry (λ before e. MayReply c before e.call e.reply) (reverse trail)
  pub evictions : EachEntry (EvictsSafely c) (reverse trail)
  pub victims : EachEntry (λ before e. (t v : ℕ) → e.reply ≡ Load t (Some v) → IsFirst c before v)
      (reverse trail)
  pub farthest : EachEntry (λ before e. (t v q : ℕ) → e.reply ≡ Load t (Some v)
      → IsCandidate c before q
      → is_farther (backward_distance c before q) (backward_distance c before v) ≡ false)
      (reverse trail)
  pub discards : EachEntry DiscardsSafely (reverse trail)
  pub write_outs : EachEntry WritesAreDurable (reverse trail)
  pub contents : EachEntry AnswersPlain (reverse trail)
