use Rattle.std.proofs.Common.{◌≡◌, ◌<◌, ◌∙◌, ap, subst, arith, length, true}
use Rattle.std.proofs.lemmas.Bool.{ltb-true}
use Rattle.bp_trail.specs.declared.entries.Call.TheVariants.{Read}
use Rattle.bp_trail.specs.declared.entries.Reply.TheVariants.{Content}
use Rattle.bp_trail.specs.Event.{grant}
use Rattle.bp_trail.specs.Legal.{is_out}
use Rattle.bp_trail.specs.Passes.{passes_out}
use Rattle.bp_trail.proofs.Ranges.{owned, owner}
use Rattle.bp_core.specs.Agreement.{parameters_of}
use Rattle.bp_core.specs.CoreView.{HasRoomFor}
use Rattle.bp_core.specs.Outcomes.IsQuiet.{page_read}
use Rattle.bp_core.proofs.Keeps.{adds, at-past, keeps-quiet}
use Rattle.bp_core.proofs.pool.PoolCore.read.Goals as goal

pub returns-clause-size : goal.returns-clause-size
returns-clause-size g c = ap length (c.in_ok-image.ensures ∙ c.bytes.ensures) ∙ c.in-Some.ensures.size

pub invariant_of-self : goal.invariant_of-self
invariant_of-self g c =
    let p = c.args.pass.now in
    let known = c.in-Some.ensures.known in
    let room : HasRoomFor 1 c.args.self.now = omega (arith, c.free.ensures) in
    let image = c.in_ok-image.image in
    let is_held = c.in_ok-image.ensures ∙ c.bytes.ensures ∙ c.in-Some.ensures.held in
    let out = at-past _ _ _ c.self.invariant _ c.self.view_is (λ q past. is_out (grant p.client p.page p.serial) (passes_out past) ≡ true) known in
    let client = subst (λ v. p.client < v.parameters.clients) c.self.view_is (ltb-true p.client c.self.inside.config.clients (owner (parameters_of c.self.inside.config) p.client p.page p.serial _ (owned (parameters_of c.self.inside.config) _ c.self.invariant.agrees.legal).passes out)) in
    rw (c.record_read.ensures, c.grant.ensures) (keeps-quiet _ _ _ c.self.invariant _ c.self.view_is p.client (Read p.serial p.page) (Content image) (page_read p.serial p.page image) client known (ap Content is_held) room)

pub returns-clause-outcome : goal.returns-clause-outcome
returns-clause-outcome g c =
    let p = c.args.pass.now in
    let room : HasRoomFor 1 c.args.self.now = omega (arith, c.free.ensures) in
    let is_held = c.in_ok-image.ensures ∙ c.bytes.ensures ∙ c.in-Some.ensures.held in (
      room,
      c.in-Some.ensures.known,
      adds _ _ _ c.self.invariant _ c.self.view_is p.client (Read p.serial p.page) (Content c.in_ok-image.image) _ _ (rw c.grant.ensures at c.record_read.ensures) (invariant_of-self g c),
    )
