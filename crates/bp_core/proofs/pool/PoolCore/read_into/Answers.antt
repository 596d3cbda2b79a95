use Rattle.std.proofs.Common.{◌≡◌, ◌<◌, sym, ◌∙◌, ap, subst, arith, take, drop, length, true}
use Rattle.std.proofs.lemmas.Bool.{ltb-true}
use Rattle.bp_trail.specs.declared.entries.Call.TheVariants.{Read}
use Rattle.bp_trail.specs.declared.entries.Reply.TheVariants.{Content}
use Rattle.bp_trail.specs.Event.{grant}
use Rattle.bp_trail.specs.Images.{held}
use Rattle.bp_trail.specs.Legal.{is_out}
use Rattle.bp_trail.specs.Passes.{passes_out}
use Rattle.bp_trail.proofs.Ranges.{owned, owner}
use Rattle.bp_core.specs.Agreement.{parameters_of}
use Rattle.bp_core.specs.CoreView.{HasRoomFor}
use Rattle.bp_core.specs.Outcomes.IsQuiet.{page_read}
use Rattle.bp_core.proofs.Keeps.{adds, at-past, keeps-quiet}
use Rattle.bp_core.proofs.Uses.{found}
use Rattle.bp_core.proofs.KeepsPasses.{frame-here}
use Rattle.bp_core.proofs.Lent.{image-held, image-sized}
use Rattle.bp_core.proofs.pool.PoolCore.read_into.Goals as goal

pub unwrap-slot-requires : goal.unwrap-slot-requires
unwrap-slot-requires g c =
    let p = c.args.pass.now in
    c.find.ensures.here ∙ frame-here _ _ _ c.self.invariant _ c.self.view_is p.client p.page p.serial (sym c.knows.ensures ∙ c.if-not-knows.false)

pub copy_to-requires : goal.copy_to-requires
copy_to-requires g c =
    let p = c.args.pass.now in
    let at = found c.self.inside.state.frames p.page c.find.result c.unwrap-slot.result c.find.ensures.found c.unwrap-slot.ensures in
    let sized = image-sized _ _ _ c.self.invariant _ c.self.view_is p.client p.page p.serial (sym c.knows.ensures ∙ c.if-not-knows.false) c.frame.result.now c.frame.ensures.here (c.frame.ensures.page ∙ at.1) in
    omega (arith, c.requires.fits, sized)

pub invariant_of-self : goal.invariant_of-self
invariant_of-self g c =
    let p = c.args.pass.now in
    let known = sym c.knows.ensures ∙ c.if-not-knows.false in
    let room : HasRoomFor 1 c.args.self.now = omega (arith, c.free.ensures) in
    let at = found c.self.inside.state.frames p.page c.find.result c.unwrap-slot.result c.find.ensures.found c.unwrap-slot.ensures in
    let image = c.frame.result.now.image in
    let is_held = image-held _ _ _ c.self.invariant _ c.self.view_is p.client p.page p.serial known c.frame.result.now c.frame.ensures.here (c.frame.ensures.page ∙ at.1) in
    let out = at-past _ _ _ c.self.invariant _ c.self.view_is (λ q past. is_out (grant p.client p.page p.serial) (passes_out past) ≡ true) known in
    let client = subst (λ v. p.client < v.parameters.clients) c.self.view_is (ltb-true p.client c.self.inside.config.clients (owner (parameters_of c.self.inside.config) p.client p.page p.serial _ (owned (parameters_of c.self.inside.config) _ c.self.invariant.agrees.legal).passes out)) in
    rw (c.record_read.ensures, c.grant.ensures) (keeps-quiet _ _ _ c.self.invariant _ c.self.view_is p.client (Read p.serial p.page) (Content image) (page_read p.serial p.page image) client known (ap Content is_held) room)

pub returns-clause-outcome : goal.returns-clause-outcome
returns-clause-outcome g c =
    let p = c.args.pass.now in
    let known = sym c.knows.ensures ∙ c.if-not-knows.false in
    let room : HasRoomFor 1 c.args.self.now = omega (arith, c.free.ensures) in
    let at = found c.self.inside.state.frames p.page c.find.result c.unwrap-slot.result c.find.ensures.found c.unwrap-slot.ensures in
    let is_held = image-held _ _ _ c.self.invariant _ c.self.view_is p.client p.page p.serial known c.frame.result.now c.frame.ensures.here (c.frame.ensures.page ∙ at.1) in (
      (
        room,
        known,
        adds _ _ _ c.self.invariant _ c.self.view_is p.client (Read p.serial p.page) (Content (held c.args.self.now.past p.page)) _ _ (rw (c.grant.ensures, is_held) at c.record_read.ensures) (invariant_of-self g c),
      ),
      c.copy_to.ensures ∙ ap (λ image. take (length c.args.into.now) (drop c.args.offset image)) is_held,
    )
