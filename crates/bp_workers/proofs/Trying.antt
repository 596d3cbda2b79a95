-- Try after try.
use Rattle.std.proofs.Common.{◌≡◌, sym, ap, subst, ◌∙◌, ℕ, suc, ◌+◌, ◌-◌, ◌≤◌, ◌<◌, Bool, false, Result, Ok, Err, arith}
use Rattle.bp_page.specs.declared.refusals.Refusal.{Refusal}
use Rattle.bp_page.specs.declared.refusals.Refusal.TheVariants as refusal
use Rattle.bp_core.specs.declared.passes.Pass.{Pass}
use Rattle.bp_trail.specs.Trail.{Trail}
use Rattle.bp_trail.specs.Parameters.{Parameters}
use Rattle.bp_shared.specs.Keeping.{MayAct, Acts}
use Rattle.bp_shared.specs.Sessions.{SessionValue}
use Rattle.bp_shared.proofs.Acting.{acted, all_then, may_more}
use Rattle.bp_workers.specs.Tries.{Fixes, Ticks, GivesUp, GoesOn, Tries}
use Rattle.bp_workers.specs.Tries.Tries.{again, at_last, fixed, given_up}

module _ (client steps : ℕ) where
  -- what goes on with the mark raised so far goes on with it raised further
  goes-on-later : (raised later : ℕ) (why : Refusal) (ticked now : Bool) (said after : Trail) → raised ≤ later → GoesOn client steps raised why ticked now said after → GoesOn client steps later why ticked now said after
  goes-on-later raised later (refusal.NeedLog lsn) ticked now said after le h = (omega (arith, le, h.0), h.1, h.2)
  goes-on-later raised later refusal.NoVictim ticked now said after le h = h
  goes-on-later raised later _ ticked now said after le h = absurd h

-- what is tried from here on was tried from the start on
abbrev pub LeadsTo : Fixes → Ticks → (client page steps rounds raised : ℕ) → Bool → ℕ → Trail → Trail → Type 0
LeadsTo fixes ticks client page steps rounds raised ticked done said now =
    (durable later left : ℕ) (answer : Result Pass Refusal) (after : Trail) → raised ≤ later → left + done ≡ rounds
    → Tries fixes ticks client page steps durable later left ticked answer now after → Tries fixes ticks client page steps durable later rounds false answer said after

module _ (fixes : Fixes) (ticks : Ticks) (client page steps rounds : ℕ) where
  pub leads-none : (raised : ℕ) (said : Trail) → LeadsTo fixes ticks client page steps rounds raised false 0 said said
  leads-none raised said durable later left answer after le is t =
      let e : left ≡ rounds = omega (arith, is) in
      subst (λ n. Tries fixes ticks client page steps durable later n false answer said after) e t

  pub leads-more : (raised higher : ℕ) (ticked next : Bool) (done : ℕ) (said now tried mid : Trail) (why : Refusal) → LeadsTo fixes ticks client page steps rounds raised ticked done said now → raised ≤ higher
      → fixes client page (Err why) now tried → GoesOn client steps higher why ticked next tried mid → LeadsTo fixes ticks client page steps rounds higher next (done + 1) said mid
  leads-more raised higher ticked next done said now tried mid why leads rises refused goes durable later left answer after le is t =
      leads durable later (suc left) answer after (omega (arith, rises, le)) (omega (arith, is))
      (again why tried mid refused (goes-on-later client steps higher later why ticked next tried mid le goes) t)

  pub leads-fixed : (durable raised : ℕ) (ticked : Bool) (done : ℕ) (said now after : Trail) (pass : Pass) → LeadsTo fixes ticks client page steps rounds raised ticked done said now → done ≤ rounds
      → fixes client page (Ok pass) now after → Tries fixes ticks client page steps durable raised rounds false (Ok pass) said after
  leads-fixed durable raised ticked done said now after pass leads few found =
      leads durable raised (rounds - done) (Ok pass) after (omega arith) (omega (arith, few)) (fixed found)

  pub leads-given_up : (durable raised higher : ℕ) (ticked : Bool) (done : ℕ) (said now tried after : Trail) (why answer : Refusal) → LeadsTo fixes ticks client page steps rounds raised ticked done said now → done < rounds → raised ≤ higher
      → fixes client page (Err why) now tried → GivesUp ticks client steps durable why ticked answer tried after → Tries fixes ticks client page steps durable higher rounds false (Err answer) said after
  leads-given_up durable raised higher ticked done said now tried after why answer leads few rises refused ends =
      leads durable higher (suc (rounds - (done + 1))) (Err answer) after rises (omega (arith, few)) (given_up why tried refused ends)

  pub leads-end : (durable raised : ℕ) (ticked : Bool) (done : ℕ) (said now after : Trail) (answer : Result Pass Refusal) → LeadsTo fixes ticks client page steps rounds raised ticked done said now → done ≡ rounds
      → fixes client page answer now after → Tries fixes ticks client page steps durable raised rounds false answer said after
  leads-end durable raised ticked done said now after answer leads all found =
      leads durable raised 0 answer after (omega arith) (omega (arith, all)) (at_last found)

-- what the session was shown then
module _ (c : Parameters) (start : Trail) (old mid last : SessionValue) where
  pub gives-up-acts : (ticks : Ticks) (client steps durable : ℕ) (why : Refusal) (ticked : Bool) (answer : Refusal) (said after : Trail) → GivesUp ticks client steps durable why ticked answer said after
      → Acts {A = Pass} c start (Err why) old mid → MayAct c start mid last → Acts {A = Pass} c start (Err answer) old last
  gives-up-acts ticks client steps durable (refusal.NeedLog lsn) ticked answer said after h a m = acted {A = Pass} c start (Err answer) old last (all_then c start old mid last a m)
  gives-up-acts ticks client steps durable refusal.NoVictim ticked answer said after h a m = acted {A = Pass} c start (Err answer) old last (all_then c start old mid last a m)
  gives-up-acts ticks client steps durable refusal.OutOfMemory ticked answer said after h a m = subst (λ w. Acts {A = Pass} c start (Err w) old last) (sym h.0) (may_more c start old mid last a m)
  gives-up-acts ticks client steps durable refusal.UnknownPass ticked answer said after h a m = subst (λ w. Acts {A = Pass} c start (Err w) old last) (sym h.0) (may_more c start old mid last a m)
  gives-up-acts ticks client steps durable _ ticked answer said after h a m = acted {A = Pass} c start (Err answer) old last (all_then c start old mid last a m)

-- who gives up adds nothing
pub gives-up-stays : (ticks : Ticks) (client steps durable : ℕ) (why : Refusal) (ticked : Bool) (answer : Refusal) (said after : Trail) → GivesUp ticks client steps durable why ticked answer said after → after ≡ said
gives-up-stays ticks client steps durable (refusal.NeedLog lsn) ticked answer said after h = h.2
gives-up-stays ticks client steps durable refusal.NoVictim ticked answer said after h = h.2
gives-up-stays ticks client steps durable _ ticked answer said after h = h.1
