use Rattle.std.proofs.Common.{◌≡◌, ◌+◌, ◌<◌, true, Option, Some, None, length, take, sym, ap, ◌∙◌, subst, arith}
use Rattle.bp_trail.specs.Places.{residents}
use Rattle.bp_trail.specs.Victim.{rank, candidate, Rank as ARank}
use Rattle.bp_check.specs.declared.judge.choice.Rank.{Rank}
use Rattle.bp_check.specs.Ranks.{rank_of}
use Rattle.bp_check.specs.Seen.{Seen}
use Rattle.bp_check.proofs.Choosing.{Best, skips, begins, takes, keeps, victim-some, victim-none}
use Rattle.bp_check.proofs.judge.Judge.victim.Goals as goal
use Rattle.bp_check.proofs.judge.Judge.victim.Goals.{then-candidate+in-Some, then-candidate+in-None, else-candidate, then-before, else-before}

pub loop-place-preserved : goal.loop-place-preserved
loop-place-preserved c =
    let v = c.args.self.now in
    let pages = c.self.inside.residents in
    let place = c.loop-place.place in
    let below : place < length pages = omega (arith, c.len-place-end.ensures, c.loop-place-test.true) in
    let had = λ (o : Option Rank) (is : c.loop-place.first ≡ o). subst (λ (o : Option Rank). Best v.parameters v.past (take place pages) o) is c.loop-place.invariant in
    let next = λ (o : Option Rank) (is : c.if-candidate.first ≡ o) (best : Best v.parameters v.past (take (place + 1) pages) o). subst (λ (o : Option Rank). Best v.parameters v.past (take (place + 1) pages) o) (sym is) best in
    elim c.if-candidate.branch [
      | then-candidate+in-Some w ↦
          let r = w.rank-rank.result in
          let page : r.page ≡ c.at-page.result = ap (λ (x : ARank). x.page) w.rank-rank.ensures in
          let is : rank_of r ≡ rank v.parameters v.past r.page = w.rank-rank.ensures ∙ ap (rank v.parameters v.past) (sym page) in
          let eligible : candidate v.parameters v.past r.page ≡ true = ap (candidate v.parameters v.past) page ∙ sym w.if-candidate.ensures in
          elim w.if-before.branch [
            | then-before w' ↦ next (Some r) (w.first-is ∙ ap Some w'.first-is)
                (takes v.parameters v.past pages place below r w.in-Some.best (page ∙ c.at-page.ensures) is eligible (sym w'.if-before.ensures) (had (Some w.in-Some.best) w.in-Some.is))
            | else-before w' ↦ next (Some w.in-Some.best) (w.first-is ∙ ap Some w'.first-is)
                (keeps v.parameters v.past pages place below r w.in-Some.best (page ∙ c.at-page.ensures) is (sym w'.if-before.ensures) (had (Some w.in-Some.best) w.in-Some.is))
          ]
      | then-candidate+in-None w ↦
          let r = w.rank-rank.result in
          let page : r.page ≡ c.at-page.result = ap (λ (x : ARank). x.page) w.rank-rank.ensures in
          next (Some r) w.first-is
          (begins v.parameters v.past pages place below r (page ∙ c.at-page.ensures) (w.rank-rank.ensures ∙ ap (rank v.parameters v.past) (sym page))
          (ap (candidate v.parameters v.past) page ∙ sym w.if-candidate.ensures) (had None w.in-None.is))
      | else-candidate w ↦ next c.loop-place.first w.first-is
          (skips v.parameters v.past pages place below c.loop-place.first (ap (candidate v.parameters v.past) (sym c.at-page.ensures) ∙ sym w.if-candidate.ensures) c.loop-place.invariant)
    ]

pub returns-in-Some-first : goal.returns-in-Some-first
returns-in-Some-first c =
    let v = c.args.self.now in
    victim-some v.parameters v.past c.self.inside.residents c.loop-place.place c.in-Some-first.best
    (c.self.invariant.residents ∙ ap (λ (t : Seen). residents t.past) c.self.view_is) (omega (arith, c.len-place-end.ensures, c.loop-place-test.false))
    (subst (Best v.parameters v.past _) c.in-Some-first.is c.loop-place.invariant)

pub returns-in-None-first : goal.returns-in-None-first
returns-in-None-first c =
    let v = c.args.self.now in
    victim-none v.parameters v.past c.self.inside.residents c.loop-place.place
    (c.self.invariant.residents ∙ ap (λ (t : Seen). residents t.past) c.self.view_is) (omega (arith, c.len-place-end.ensures, c.loop-place-test.false))
    (subst (Best v.parameters v.past _) c.in-None-first.is c.loop-place.invariant)
