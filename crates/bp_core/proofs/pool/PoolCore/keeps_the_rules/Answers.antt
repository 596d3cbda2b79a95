use Rattle.std.proofs.Common.{subst}
use Rattle.bp_trail.specs.Safety.{Safe}
use Rattle.bp_trail.specs.Claims.{HeldIsPlain, ReadsAreKnown}
use Rattle.bp_trail.proofs.Eviction.{safe}
use Rattle.bp_trail.proofs.Content.{read_end_known, held-plain}
use Rattle.bp_core.proofs.pool.PoolCore.keeps_the_rules.Goals as goal

pub returns-clause-safe : goal.returns-clause-safe
returns-clause-safe g c = subst (λ v. Safe v.parameters v.past) c.self.view_is (safe _ _ c.self.invariant.agrees.legal)

pub returns-clause-plain : goal.returns-clause-plain
returns-clause-plain g c = subst (λ v. HeldIsPlain v.past) c.self.view_is (λ m p honest here. held-plain _ m _ p c.self.invariant.agrees.legal honest here)

pub returns-clause-known : goal.returns-clause-known
returns-clause-known g c = subst (λ v. ReadsAreKnown v.past) c.self.view_is (λ m who p t out d. read_end_known _ m _ who p t c.self.invariant.agrees.legal out d)
