-- How far a mark is raised, step after step.
use Rattle.std.proofs.Common.{ℕ, arith}
use Rattle.bp_workers.specs.Logs.{RaisesWithin}

pub raises-none : (durable raised : ℕ) → RaisesWithin durable raised durable raised
raises-none durable raised = record { lasts = omega arith; rises = omega arith; within = omega arith }

pub raises-then : (d r e s f t : ℕ) → RaisesWithin d r e s → RaisesWithin e s f t → RaisesWithin d r f t
raises-then d r e s f t a b = record {
  lasts = omega (arith, a.lasts, b.lasts);
  rises = omega (arith, a.rises, b.rises);
  within = omega (arith, a.within, b.within, b.lasts);
}
