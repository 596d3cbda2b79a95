-- What a stopped pool leaves may be redone.
use Rattle.std.proofs.Common.{◌≡◌, inl, inr, ◌∙◌, ℕ, Bool, List, length, subst, sym}
use Rattle.bp_trail.specs.declared.records.LogRecord.{LogRecord}
use Rattle.bp_trail.specs.Parameters.{Parameters}
use Rattle.bp_trail.specs.Trail.{Trail}
use Rattle.bp_trail.specs.Images.{written_into}
use Rattle.bp_trail.specs.Recovery.{HasFullImage, NeverFall, Stopped, put, redo, records_from, within}
use Rattle.bp_trail.proofs.Redoing.{recovers-plain, redo-plain}
use Rattle.bp_trail.proofs.Crashes.{image-length, recovers-torn}
use Rattle.example_log.specs.Promise.{IsMended, MayBeRedone, PoolLeaves}

pub pool-left : (c : Parameters) (tears : Bool) (first left : ℕ → List ℕ) (synced past : Trail) (log : List LogRecord) (start from end : ℕ)
    → (s : (p : ℕ) → Stopped c first synced past log start from end p) → ((p : ℕ) → NeverFall (records_from start log p)) → ((p : ℕ) → length (first p) ≡ c.size)
    → ((p : ℕ) → IsMended tears c.size from log p) → ((p : ℕ) → PoolLeaves c.size from log first synced past p (left p))
    → MayBeRedone tears c.size from log (λ p. put (s p).has.unwritten (written_into first (within end past) p)) left
pool-left c tears first left synced past log start from end s rises sized mended leaves = record {
  sized = λ p. long p (leaves p);
  mended = mended;
  leads = λ p. leads p (leaves p);
}
  where
    long : (p : ℕ) → PoolLeaves c.size from log first synced past p (left p) → length (left p) ≡ c.size
    long p (inl may) = image-length c first synced end past p (left p) (s p).legal (s p).gave_back may ∙ sized p
    long p (inr torn) = torn.1

    leads : (p : ℕ) → PoolLeaves c.size from log first synced past p (left p) → redo from log p (left p) ≡ put (s p).has.unwritten (written_into first (within end past) p)
    leads p (inl may) = recovers-plain c first synced past log start from end p (left p) (s p) (rises p) may
    leads p (inr torn) =
        recovers-torn c first synced past log start from end p (left p) (s p) (rises p) (subst (λ n. HasFullImage n (records_from from log p)) (sym torn.1) torn.0) (torn.1 ∙ sym (sized p))
        ∙ redo-plain first past log start from end p (s p).has
