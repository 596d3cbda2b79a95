-- One event.
use Rattle.std.proofs.Common.{arith}
use Rattle.bp_shared.proofs.Acting.{roomy_still, or_never}
use Rattle.bp_shared.proofs.pool.SharedPool.tick.Goals as goal

pub returns : goal.returns
returns g c =
    let done = c.make.ensures in
    record {
      keeps = record { client = done.client; before = done.before; acts = done.acts; roomy = roomy_still c.args.session.now c.make.new.session done.passes_left done.places_left };
      outcome = done.outcome;
      room = λ full. done.why _ full (λ is. cc);
      clock_full = λ over. done.why _ over (λ is. cc);
      memory = λ silent no. or_never (done.memory silent (omega arith) (omega arith) no);
    }
