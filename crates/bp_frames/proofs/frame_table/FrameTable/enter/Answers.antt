use Rattle.std.proofs.Common.{◌∙◌, subst, sym, ap, arith}
use Rattle.bp_references.specs.Candidates.{entry_of, find_entry}
use Rattle.bp_replacer.specs.Seats.{Seated, seated_in}
use Rattle.bp_frames.specs.Tables.{Table, IsSeating}
use Rattle.bp_frames.proofs.Tables.{slot-here, slot-few}
use Rattle.bp_frames.proofs.Seating.{once, seating-entered, entered-here, entered-others}
use Rattle.bp_frames.proofs.frame_table.FrameTable.enter.Goals as goal

pub enter-requires : goal.enter-requires
enter-requires c = let lt = slot-few _ _ _ _ _ c.self.invariant.0 _ _ c.self.view_is c.args.slot.now c.requires in omega (arith, lt, c.self.invariant.2.seats_is)

pub invariant_of-self : goal.invariant_of-self
invariant_of-self c =
    let i = c.self.inside in
    let v = c.self.invariant in
    let here = slot-here _ _ _ _ _ c.self.invariant.0 _ _ c.self.view_is c.args.slot.now c.requires in
    let few = slot-few _ _ _ _ _ c.self.invariant.0 _ _ c.self.view_is c.args.slot.now c.requires in
    (v.0, v.1, subst (λ (s : Seated). IsSeating i.capacity i.places.items s.seats) (sym c.enter.ensures) (seating-entered _ _ _ _ _ v.0 i.candidates.seats v.2 c.args.slot.now.page c.args.slot.now.index here few c.args.hist_k c.args.last), v.3)

pub returns-clause-entered : goal.returns-clause-entered
returns-clause-entered c =
    let i = c.self.inside in
    let v = c.self.invariant in
    let here = slot-here _ _ _ _ _ c.self.invariant.0 _ _ c.self.view_is c.args.slot.now c.requires in
    let few = slot-few _ _ _ _ _ c.self.invariant.0 _ _ c.self.view_is c.args.slot.now c.requires in
    ap (λ (s : Seated). find_entry (seated_in s.seats) c.args.slot.now.page) c.enter.ensures ∙ entered-here _ _ _ _ _ v.0 i.candidates.seats v.2 c.args.slot.now.page c.args.slot.now.index here few c.args.hist_k c.args.last

pub returns-clause-others : goal.returns-clause-others
returns-clause-others c = λ q other.
    let i = c.self.inside in
    let v = c.self.invariant in
    let here = slot-here _ _ _ _ _ c.self.invariant.0 _ _ c.self.view_is c.args.slot.now c.requires in
    let few = slot-few _ _ _ _ _ c.self.invariant.0 _ _ c.self.view_is c.args.slot.now c.requires in
    ap (λ (s : Seated). find_entry (seated_in s.seats) q) c.enter.ensures ∙ entered-others _ _ _ _ _ v.0 i.candidates.seats v.2 c.args.slot.now.page c.args.slot.now.index here few c.args.hist_k c.args.last q other ∙ ap (λ (t : Table). entry_of t.candidates q) c.self.view_is

pub returns-clause-pages : goal.returns-clause-pages
returns-clause-pages c = λ before. once _ _ _ (invariant_of-self c).2
