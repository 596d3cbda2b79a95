use Rattle.std.proofs.Common.{◌≡◌, ◌++◌, List, refl, sym, ap, subst, reverse, take, length, length-append, ◌∙◌, arith}
use Rattle.std.proofs.lemmas.List.{take_all, length-reverse, length-take}
use Rattle.bp_trail.specs.Legal.{Legal}
use Rattle.bp_trail.specs.declared.entries.Entry.{Entry}
use Rattle.bp_check.specs.Setups.{with_room}
use Rattle.bp_check.specs.Seen.{Seen}
use Rattle.bp_check.proofs.Judging.{told-one, so-far-one, first-after, not-legal-after}
use Rattle.bp_check.proofs.judge.Judge.go_on.Goals as goal

pub returns-then-not-branch-clause-legal : goal.returns-then-not-branch-clause-legal
returns-then-not-branch-clause-legal c = λ room. (
  λ is. cc,
  λ legal. absurd (not-legal-after c.judge.inside.setup c.args.self.parameters c.args.self.past c.args.piece.now c.loop-place.place c.index-piece-place.result c.loop-place.judge (ap (λ (t : Seen). t.parameters) (sym c.judge.view_is)) c.loop-place.invariant.same c.loop-place.invariant.so_far (omega arith) c.index-piece-place.is
      c.in_ok-is_lawful.field-0 c.in_ok-is_lawful.ensures c.if-not-branch.true room legal),
)

pub returns-then-not-branch-clause-first : goal.returns-then-not-branch-clause-first
returns-then-not-branch-clause-first c = λ room.
    first-after c.judge.inside.setup c.args.self.parameters c.args.self.past c.args.piece.now c.loop-place.place c.index-piece-place.result c.loop-place.judge (ap (λ (t : Seen). t.parameters) (sym c.judge.view_is)) c.loop-place.invariant.same c.loop-place.invariant.so_far (omega arith) c.index-piece-place.is
    c.in_ok-is_lawful.field-0 c.in_ok-is_lawful.ensures c.if-not-branch.true room (c.loop-place.invariant.legal room)

pub with-requires-clause-few : goal.with-requires-clause-few
with-requires-clause-few c =
    let long : length c.loop-place.judge.past ≡ length (reverse (take c.loop-place.place c.args.piece.now) ++ c.args.self.past) = ap length c.loop-place.invariant.so_far in
    omega (arith, c.requires.few, long, length-append (reverse (take c.loop-place.place c.args.piece.now)) c.args.self.past, length-reverse (take c.loop-place.place c.args.piece.now), length-take c.loop-place.place c.args.piece.now)

pub loop-place-preserved : goal.loop-place-preserved
loop-place-preserved c =
    let t = c.loop-place.judge in
    let of = ap (λ (t : Seen). t.parameters) (sym c.judge.view_is) in
    let lawful = c.in_ok-is_lawful.ensures.0 c.if-not-branch.false in
    let parameters = ap (λ (t : Seen). t.parameters) c.in-Ok.ensures in
    let past = ap (λ (t : Seen). t.past) c.in-Ok.ensures in
    record {
      same = parameters ∙ c.loop-place.invariant.same;
      so_far = past ∙ so-far-one c.judge.inside.setup c.args.self.parameters c.args.self.past c.args.piece.now c.loop-place.place c.index-piece-place.result t of c.loop-place.invariant.same c.loop-place.invariant.so_far (omega arith) c.index-piece-place.is;
      legal = λ room. subst (Legal (with_room c.args.self.parameters room)) (sym past)
          (told-one c.judge.inside.setup c.args.self.parameters c.args.self.past c.args.piece.now c.loop-place.place c.index-piece-place.result t of c.loop-place.invariant.same c.loop-place.invariant.so_far (omega arith) c.index-piece-place.is room lawful (c.loop-place.invariant.legal room));
    }

pub returns-clause-told : goal.returns-clause-told
returns-clause-told c =
    c.loop-place.invariant.so_far ∙ ap (λ (es : List Entry). reverse es ++ c.args.self.past) (take_all c.loop-place.place c.args.piece.now (omega arith) ∙ sym (take_all (length c.args.piece.now) c.args.piece.now (omega arith)))

pub returns-clause-legal : goal.returns-clause-legal
returns-clause-legal c = λ room.
    let all = subst (Legal (with_room c.args.self.parameters room)) (c.loop-place.invariant.so_far ∙ ap (λ (es : List Entry). reverse es ++ c.args.self.past) (take_all c.loop-place.place c.args.piece.now (omega arith))) (c.loop-place.invariant.legal room) in
    (λ is. all, λ legal. refl)
