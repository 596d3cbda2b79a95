-- The cores and the books of all parts.
use Rattle.std.proofs.Common.{◌≡◌, ap, arith, subst}
use Rattle.bp_parts.specs.Ending.{AreShelves, RoomValue}
use Rattle.bp_parts.proofs.Closing.{books_of}
use Rattle.bp_parts.proofs.ending.end_parts.Goals as goal

pub returns-clause-cores : goal.returns-clause-cores
returns-clause-cores g c = c.cores_of-cores.ensures.cores _ c.into_ends.ensures.ends

pub returns-clause-books : goal.returns-clause-books
returns-clause-books g c =
    books_of g.N.PartNames.past g.N.PartCount.parts _ _ c.end_all.new.closed.items _ _ c.end_all.ensures.ended c.cores_of-cores.ensures.same
    (omega (arith, c.cores_of-cores.ensures.count, c.end_all.ensures.same, c.close_each-closed.ensures.count, c.into_parts.ensures.count, c.cores_of-cores.result.ok, c.end_all.new.closed.ok))

pub end_all-requires-clause-books : goal.end_all-requires-clause-books
end_all-requires-clause-books g c =
    let parts : c.room.inside.parts ≡ g.N.PartCount.parts = omega (arith, ap (λ (r : RoomValue). r.parts) c.room.view_is, c.requires.room.0) in
    subst (λ n. AreShelves n c.room.inside.books.items) parts c.room.invariant.4
