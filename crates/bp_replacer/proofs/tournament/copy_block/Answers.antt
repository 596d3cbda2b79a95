use Rattle.std.proofs.Common.{◌≡◌, ◌⊎◌, ◌∙◌, ◌+◌, ◌*◌, ◌<◌, ◌≤◌, true, false, length, None, Option, List, sym, subst, inl, inr, arith}
use Rattle.std.proofs.lemmas.Bool.{cases_lt}
use Rattle.bp_references.specs.Candidates.{Candidate}
use Rattle.bp_replacer.specs.Seats.{seat_at}
use Rattle.bp_replacer.specs.Young.{since, AreYoung}
use Rattle.bp_replacer.proofs.BlockLaws.{Leads, leads_more, leads_put}
use Rattle.bp_replacer.proofs.PassLaws.{copy_apart, copy_length, copy_anew, copy_known, known_past}
use Rattle.bp_replacer.proofs.YoungLaws.{later_others}
use Rattle.bp_replacer.proofs.tournament.copy_block.Goals as goal
use Rattle.bp_replacer.proofs.tournament.copy_block.Goals.{then-waits, else-waits}

pub loop-seat-preserved : goal.loop-seat-preserved
loop-seat-preserved c =
    let v = c.loop-seat.invariant in
    let seats = c.args.seats.now in
    let block = c.args.block in
    let seat = c.loop-seat.seat in
    let known = c.loop-seat.known in
    let known' = c.put.new.self in
    let times = c.loop-seat.young in
    let times' = c.wait_from-waits.new.self in
    let e = c.wait_from-waits.ensures in
    let kept = c.if-waits.kept in
    let lt : seat < length seats = omega (arith, c.loop-seat-test.true, c.end_of-end.ensures.end, c.len.ensures) in
    let below : seat < 16 * block + 16 = omega (arith, c.loop-seat-test.true, c.end_of-end.ensures.end) in
    let from : 16 * block ≤ seat = omega (arith, c.loop-seat.auto.seat) in
    let none : since times seat ≡ 0 = v.same_times seat (inr (omega arith)) ∙ c.requires.not_yet seat (omega (arith, from, below)) in
    let young : c.wait_from-waits.result ≡ true → AreYoung (since times' seat) (seat_at seats seat) = λ waited. subst (AreYoung (since times' seat)) c.find-entry.ensures (e.waits waited) in
    let which : ((c.wait_from-waits.result ≡ true) × (kept ≡ None)) ⊎ ((c.wait_from-waits.result ≡ false) × (kept ≡ seat_at seats seat)) = elim c.if-waits.branch [ then-waits w ↦ inl (w.if-waits.true, w.kept-is) | else-waits w ↦ inr (w.if-waits.false, w.kept-is ∙ c.find-entry.ensures) ] in
    let many = v.anew.as_many in
    let apart = copy_apart known known' seats times times' seat c.args.time c.wait_from-waits.result kept lt v.length_is many none c.put.ensures young e.refused e.later which in
    record {
      length_is = copy_length known known' seats times times' seat c.args.time c.wait_from-waits.result kept lt v.length_is many none c.put.ensures young e.refused e.later which;
      anew = copy_anew known known' seats times times' seat c.args.time c.wait_from-waits.result kept lt v.length_is many none c.put.ensures young e.refused e.later which v.anew;
      known_is = copy_known known known' seats times times' seat c.args.time c.wait_from-waits.result kept lt v.length_is many none c.put.ensures young e.refused e.later which (16 * block) v.known_is;
      same_known = λ k out. elim out [ inl before ↦ apart k (omega (arith, before, from)) ∙ v.same_known k (inl before) | inr past ↦ apart k (omega (arith, past)) ∙ v.same_known k (inr (omega (arith, past))) ];
      same_times = λ k out. elim out [ inl before ↦ later_others c.args.time seat times times' e.later k (omega (arith, before, from)) ∙ v.same_times k (inl before) | inr past ↦ later_others c.args.time seat times times' e.later k (omega (arith, past)) ∙ v.same_times k (inr (omega (arith, past))) ];
      known = c.or-leader.ensures.leads;
      leads = leads_more known' block seat c.loop-seat.leader.seat c.or-leader.result.seat from below (subst (λ (ss : List (Option Candidate)). Leads ss block seat c.loop-seat.leader.seat) (sym c.put.ensures) (leads_put known block seat c.loop-seat.leader.seat kept (omega (arith, lt, v.length_is)) v.leads)) c.or-leader.ensures.either c.or-leader.ensures.first;
    }

pub returns-clause-copied : goal.returns-clause-copied
returns-clause-copied c =
    let v = c.loop-seat.invariant in
    let seats = c.args.seats.now in
    let block = c.args.block in
    let seat = c.loop-seat.seat in
    let ended = c.end_of-end.ensures.end in
    let most : seat ≤ 16 * block + 16 = omega (arith, c.loop-seat.auto.seat-end (omega (arith, c.end_of-end.ensures.start)), ended) in
    record {
      length_is = v.length_is;
      known_is = λ k here. elim (cases_lt k seat) [
        | inl less ↦ v.known_is k (omega (arith, here)) less
        | inr past ↦ known_past c.loop-seat.known seats c.loop-seat.young k v.length_is (omega (arith, past, here, ended, c.len.ensures, c.loop-seat-test.false))
      ];
      same_known = λ k apart. elim (cases_lt k (16 * block)) [ inl before ↦ v.same_known k (inl before) | inr past ↦ v.same_known k (inr (omega (arith, past, apart, most))) ];
      same_times = λ k apart. elim (cases_lt k (16 * block)) [ inl before ↦ v.same_times k (inl before) | inr past ↦ v.same_times k (inr (omega (arith, past, apart, most))) ];
    }
