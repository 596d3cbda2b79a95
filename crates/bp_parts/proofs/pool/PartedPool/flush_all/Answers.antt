-- One part after the other is flushed.
use Rattle.std.proofs.Common.{◌≡◌, refl, ◌∙◌, Result, Ok, Err}
use Rattle.bp_parts.specs.Flushes.FlushesParts.{none, part}
use Rattle.bp_parts.proofs.pool.PartedPool.flush_all.Goals as goal

done_of : {B : Type 0} (r : Result (Unit {0}) B) → ((why : B) → r ≡ Err why → ⊥) → r ≡ Ok tt
done_of (Ok x) never = refl
done_of (Err why) never = absurd (never why refl)

pub loop-part-init : goal.loop-part-init
loop-part-init g c = record { client = refl; device = refl; stripes = refl; flushed = none }

pub loop-part-preserved : goal.loop-part-preserved
loop-part-preserved g c =
    let i = c.loop-part.invariant in
    let e = c.flush_part.ensures in
    record { client = e.client ∙ i.client; device = e.device ∙ i.device; stripes = e.stripes ∙ i.stripes; flushed = part i.flushed (rw (done_of _ c.in_default.not-Err) at e.outcome) }
