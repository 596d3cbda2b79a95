-- How each observation changes with one entry. Those with `refl` need no citation: they hold by computation where the entry is written out.
use Rattle.std.proofs.Common.{◌≡◌, refl, ℕ, suc, ◌+◌, max, Bool, true, false, not, ◌||◌, ◌==◌, if◌then◌else◌, List, [], ◌∷◌, filter, length, Option, Some, None, arith}
use Rattle.bp_page.specs.Patched.{patched}
use Rattle.bp_references.specs.Burst.Reference.{hit, fault}
use Rattle.bp_trail.specs.declared.entries.Entry.{Entry}
use Rattle.bp_trail.specs.declared.entries.Call.{Call}
use Rattle.bp_trail.specs.declared.entries.Call.TheVariants.{Tick, Mark, Fix, ReadEnd, WriteEnd, Write, Unfix, Purge}
use Rattle.bp_trail.specs.declared.entries.Reply.{Reply}
use Rattle.bp_trail.specs.declared.entries.Reply.TheVariants.{Done, Hit, Load, WriteFirst, Fixed, WriteFailed, Forgot}
use Rattle.bp_trail.specs.Parameters.{Parameters}
use Rattle.bp_trail.specs.Event.{grant}
use Rattle.bp_trail.specs.Trail.{Trail}
use Rattle.bp_trail.specs.Clock.{clock, durable}
use Rattle.bp_trail.specs.Passes.{passes, tickets, passes_out, is_of, pins}
use Rattle.bp_trail.specs.Places.{residents, resident, loading, writing}
use Rattle.bp_trail.specs.Saved.{unsaved, page_lsn}
use Rattle.bp_trail.specs.Images.{held}
use Rattle.bp_trail.specs.References.{references, forgets}
use Rattle.bp_trail.specs.Legal.{is_out, Legal}
use Rattle.bp_trail.proofs.Serials.{numbered, count-rest}

abbrev pub by : ℕ → Call → Reply → Entry
by client call reply = record { client = client; call = call; reply = reply }

module _ (past : Trail) (who : ℕ) where
  -- the clock and the mark
  pub clock-tick : (n : ℕ) → clock (by who (Tick n) Done ∷ past) ≡ clock past + n
  clock-tick n = omega arith

  pub clock-fix : (p : ℕ) (r : Reply) → clock (by who (Fix p) r ∷ past) ≡ clock past
  clock-fix p r = refl

  pub durable-mark : (lsn : ℕ) → durable (by who (Mark lsn) Done ∷ past) ≡ max lsn (durable past)
  durable-mark lsn = refl

  -- serial numbers
  pub passes-hit : (p n : ℕ) → passes (by who (Fix p) (Hit n) ∷ past) ≡ suc (passes past)
  passes-hit p n = refl

  pub tickets-load : (p t : ℕ) (v : Option ℕ) → tickets (by who (Fix p) (Load t v) ∷ past) ≡ suc (tickets past)
  tickets-load p t v = refl

  -- passes and pins
  pub passes_out-hit : (p n : ℕ) → passes_out (by who (Fix p) (Hit n) ∷ past) ≡ grant who p n ∷ passes_out past
  passes_out-hit p n = refl

  pub pins-hit : (p n q : ℕ) → pins (by who (Fix p) (Hit n) ∷ past) q ≡ (if p == q then suc (pins past q) else pins past q)
  pins-hit p n q = go (p == q)
    where
      go : (b : Bool) → length (if b then grant who p n ∷ filter (is_of q) (passes_out past) else filter (is_of q) (passes_out past)) ≡ (if b then suc (pins past q) else pins past q)
      go true = refl
      go false = refl

  pub pins-unfix : (c : Parameters) (n p q : ℕ) → Legal c past → is_out (grant who p n) (passes_out past) ≡ true
      → pins past q ≡ (if p == q then suc (pins (by who (Unfix n p) Done ∷ past) q) else pins (by who (Unfix n p) Done ∷ past) q)
  pins-unfix c n p q l o = count-rest (is_of q) who p n (passes_out past) (numbered c past l).passes_once o

  -- places
  pub loading-load : (p t q : ℕ) (v : Option ℕ) → loading (by who (Fix p) (Load t v) ∷ past) q ≡ (p == q || loading past q)
  loading-load p t q v = refl

  pub resident-load : (t p q n : ℕ) (image : List ℕ) → resident (by who (ReadEnd t p (Some image)) (Fixed n) ∷ past) q ≡ (p == q || resident past q)
  resident-load t p q n image = refl

  pub resident-kept : (p t q : ℕ) → resident (by who (Fix p) (Load t None) ∷ past) q ≡ resident past q
  resident-kept p t q = refl

  pub residents-evict : (p t v : ℕ) → residents (by who (Fix p) (Load t (Some v)) ∷ past) ≡ filter (λ q. not (q == v)) (residents past)
  residents-evict p t v = refl

  pub writing-begin : (p t v q : ℕ) (image : List ℕ) → writing (by who (Fix p) (WriteFirst t v image) ∷ past) q ≡ (v == q || writing past q)
  writing-begin p t v q image = refl

  -- writes
  pub unsaved-write : (n p q offset : ℕ) (bytes : List ℕ) (lsn : ℕ) → unsaved (by who (Write n p offset bytes lsn) Done ∷ past) q ≡ (p == q || unsaved past q)
  unsaved-write n p q offset bytes lsn = refl

  pub unsaved-failed : (t p q : ℕ) → unsaved (by who (WriteEnd t p false) WriteFailed ∷ past) q ≡ unsaved past q
  unsaved-failed t p q = refl

  pub page_lsn-write : (n p q offset : ℕ) (bytes : List ℕ) (lsn : ℕ) → page_lsn (by who (Write n p offset bytes lsn) Done ∷ past) q ≡ (if p == q then max lsn (page_lsn past q) else page_lsn past q)
  page_lsn-write n p q offset bytes lsn = go (p == q) refl
    where
      go : (b : Bool) → (p == q) ≡ b → page_lsn (by who (Write n p offset bytes lsn) Done ∷ past) q ≡ (if b then max lsn (page_lsn past q) else page_lsn past q)
      go true e = rw e refl
      go false e = rw e refl

  pub page_lsn-load : (t p q n : ℕ) (image : List ℕ) → page_lsn (by who (ReadEnd t p (Some image)) (Fixed n) ∷ past) q ≡ (if p == q then 0 else page_lsn past q)
  page_lsn-load t p q n image = go (p == q) refl
    where
      go : (b : Bool) → (p == q) ≡ b → page_lsn (by who (ReadEnd t p (Some image)) (Fixed n) ∷ past) q ≡ (if b then 0 else page_lsn past q)
      go true e = rw e refl
      go false e = rw e refl

  pub held-write : (n p q offset : ℕ) (bytes : List ℕ) (lsn : ℕ) → held (by who (Write n p offset bytes lsn) Done ∷ past) q ≡ (if p == q then patched offset bytes (held past q) else held past q)
  held-write n p q offset bytes lsn = refl

  pub held-load : (t p q n : ℕ) (image : List ℕ) → held (by who (ReadEnd t p (Some image)) (Fixed n) ∷ past) q ≡ (if p == q then image else held past q)
  held-load t p q n image = refl

  -- references
  pub references-hit : (c : Parameters) (p n q : ℕ) → references c (by who (Fix p) (Hit n) ∷ past) q ≡ (if p == q then hit (clock past) ∷ references c past q else references c past q)
  references-hit c p n q = refl

  pub references-fault : (c : Parameters) (t p q n : ℕ) (image : List ℕ) → references c (by who (ReadEnd t p (Some image)) (Fixed n) ∷ past) q ≡ (if p == q then fault (clock past) ∷ references c past q else references c past q)
  references-fault c t p q n image = refl

  pub references-purge : (c : Parameters) (n q : ℕ) → references c (by who Purge (Forgot n) ∷ past) q ≡ (if forgets c past q (references c past q) then [] else references c past q)
  references-purge c n q = refl
