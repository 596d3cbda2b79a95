use Rattle.std.proofs.Common.{◌≡◌, ◌≤◌, ℕ, ◌+◌, List, ◌++◌, length, reverse, length-append, subst, sym, ap, arith}
use Rattle.std.proofs.lemmas.List.{length-reverse}
use Rattle.bp_trail.specs.declared.entries.Entry.{Entry}
use Rattle.bp_trail.specs.Parameters.{Parameters}
use Rattle.bp_trail.specs.Trail.{Trail}
use Rattle.bp_trail.specs.Legal.{Legal}
use Rattle.bp_trail.specs.Cuts.{LeadsOn, ReadsSince}
use Rattle.bp_trail.specs.Standing.{standing}
use Rattle.bp_core.specs.CoreView.{opening}
use Rattle.bp_trail.proofs.Cuts.{leads-on, reads-after-each}
use Rattle.bp_trail.proofs.Since.{legal-before}
use Rattle.bp_core.specs.Agreement.{parameters_of}
use Rattle.bp_core.proofs.pool.queries.PoolCore+RecordingKeeper.trail.Goals as goal

-- the trail after what came before it is legal
whole : (c : Parameters) (items : List Entry) (before past : Trail) → reverse items ++ before ≡ past → Legal c past → Legal c (reverse items ++ before)
whole c items before past is legal = subst (Legal c) (sym is) legal

-- so many entries are those since the last cut
counted : (items : List Entry) (before past : Trail) (len : ℕ) → reverse items ++ before ≡ past → len + length before ≡ length past → length items ≡ len
counted items before past len is all = omega (arith, ap length is, length-append (reverse items) before, length-reverse items, all)

pub returns-clause-room : goal.returns-clause-room
returns-clause-room c =
    let r = c.self.invariant.trail_room in
    let len = counted c.entries.result.now _ _ _ c.entries.ensures r.counted in
    subst (λ v. length c.entries.result.now ≤ v.parameters.room) c.self.view_is (omega (arith, len, r.owed))

pub returns-clause-before : goal.returns-clause-before
returns-clause-before c =
    subst (λ v. Legal v.parameters v.before) c.self.view_is (legal-before (parameters_of c.self.inside.config) (reverse c.entries.result.now) c.self.inside.trail.before (whole _ c.entries.result.now _ _ c.entries.ensures c.self.invariant.agrees.legal))

pub returns-clause-leads_on : goal.returns-clause-leads_on
returns-clause-leads_on c =
    let q = parameters_of c.self.inside.config in
    let trail = reverse c.entries.result.now in
    subst (λ v. LeadsOn v.parameters (opening v) trail (standing v.parameters v.past)) c.self.view_is
    (subst (λ past. LeadsOn q (standing q c.self.inside.trail.before) trail (standing q past)) c.entries.ensures (leads-on q trail c.self.inside.trail.before (whole _ c.entries.result.now _ _ c.entries.ensures c.self.invariant.agrees.legal)))

pub returns-clause-reads : goal.returns-clause-reads
returns-clause-reads c =
    subst (λ v. ReadsSince v.parameters (opening v) (reverse c.entries.result.now)) c.self.view_is (reads-after-each (parameters_of c.self.inside.config) (reverse c.entries.result.now) c.self.inside.trail.before (whole _ c.entries.result.now _ _ c.entries.ensures c.self.invariant.agrees.legal))
