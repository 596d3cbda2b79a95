-- A refusal that nothing here overcomes is answered.
use Rattle.std.proofs.Common.{◌≡◌, ◌≢◌, refl, ℕ, Bool}
use Rattle.bp_page.specs.declared.refusals.Refusal.{Refusal}
use Rattle.bp_page.specs.declared.refusals.Refusal.TheVariants as refusal
use Rattle.bp_trail.specs.Trail.{Trail}
use Rattle.bp_workers.specs.Tries.{Ticks, GivesUp}
use Rattle.bp_shared.proofs.Acting.{idle}
use Rattle.bp_workers.proofs.Raising.{raises-none}
use Rattle.bp_workers.proofs.durable.overcome.Goals as goal

gives_up_other : (ticks : Ticks) (client steps durable : ℕ) (why : Refusal) (ticked : Bool) (said : Trail) → ((lsn : ℕ) → why ≡ refusal.NeedLog lsn → ⊥) → why ≢ refusal.NoVictim → GivesUp ticks client steps durable why ticked why said said
gives_up_other ticks client steps durable (refusal.NeedLog lsn) ticked said no_log no_victim = absurd (no_log lsn refl)
gives_up_other ticks client steps durable refusal.NoVictim ticked said no_log no_victim = absurd (no_victim refl)
gives_up_other ticks client steps durable _ ticked said no_log no_victim = (refl, refl)

pub returns-in_default : goal.returns-in_default
returns-in_default g c =
    let session = c.args.session.now in
    record {
      client = refl;
      before = refl;
      acts = idle _ _ _;
      roomy = λ was. was;
      lent = refl;
      raises = raises-none _ _;
      goes_on = tt;
      known = λ unknown. unknown;
      gives_up = gives_up_other g.A.Asked.ticks session.client c.args.patience.ticks (g.L.DurableLog.durable_to c.args.log.now) c.args.why c.args.is_ticked.now session.said c.in_default.not-NeedLog c.in_default.not-NoVictim;
    }
