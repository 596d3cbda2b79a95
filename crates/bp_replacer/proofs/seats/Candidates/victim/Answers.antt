use Rattle.std.proofs.Common.{◌≡◌, ℕ, ◌-◌, ◌<◌, Some, None, false, List, Option, sym, subst}
use Rattle.bp_references.specs.Candidates.{Candidate, is_eligible, IsVictim, NoPageTwice}
use Rattle.bp_replacer.specs.Seats.{Seated, entered, seated_in, IsFirst}
use Rattle.bp_replacer.specs.declared.seats.Candidates.TheInside.{Inside}
use Rattle.bp_replacer.proofs.SeatSteps.{first_victim, no_victim}
use Rattle.bp_replacer.proofs.seats.Candidates.victim.Goals as goal

seated : Inside → Seated
seated i = record { correlated = i.correlated; seats = i.tree }

-- what the tree answers is the first of those old enough
old_enough : (i : Inside) (t time : ℕ) (seats : List (Option Candidate)) (answer first : Option Candidate) → seats ≡ i.tree → time ≡ t - i.correlated → answer ≡ first → IsFirst seats (λ x. x.1 < time) answer → IsFirst i.tree (λ x. x.1 < t - i.correlated) first
old_enough i t time seats answer first same at is f =
    subst (λ (seats : List (Option Candidate)). IsFirst seats (λ (x : Candidate). x.1 < t - i.correlated) first) same
    (subst (IsFirst seats (λ (x : Candidate). x.1 < t - i.correlated)) is (subst (λ n. IsFirst seats (λ (x : Candidate). x.1 < n) answer) at f))

pub returns-in_err-first-clause-none : goal.returns-in_err-first-clause-none
unfolding seated
returns-in_err-first-clause-none c =
    let i = c.self.inside in
    let once = subst (λ (v : Seated). NoPageTwice (seated_in v.seats)) (sym c.self.view_is) c.requires in
    let first = old_enough i c.args.t c.saturating_sub.result c.first_before.new.self c.first_before.result None c.first_before.ensures.same c.saturating_sub.ensures c.in_err-first.was c.first_before.ensures.first in
    let there : (page : ℕ) → is_eligible (entered c.args.self.now) c.args.t page ≡ false = λ page. subst (λ (v : Seated). is_eligible (entered v) c.args.t page ≡ false) c.self.view_is (no_victim (seated i) c.args.t once first page) in
    rw c.from_residual.ensures there

pub returns-clause-found : goal.returns-clause-found
unfolding seated
returns-clause-found c =
    let i = c.self.inside in
    let once = subst (λ (v : Seated). NoPageTwice (seated_in v.seats)) (sym c.self.view_is) c.requires in
    let first = old_enough i c.args.t c.saturating_sub.result c.first_before.new.self c.first_before.result (Some c.in_ok-first.first) c.first_before.ensures.same c.saturating_sub.ensures c.in_ok-first.was c.first_before.ensures.first in
    subst (λ (v : Seated). IsVictim (entered v) c.args.t c.in_ok-first.first.2) c.self.view_is (first_victim (seated i) c.args.t once c.in_ok-first.first first)
