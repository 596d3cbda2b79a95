-- What a caller sees of a cut.
use Rattle.std.proofs.Common.{◌≡◌, ◌^◌, ◌≤◌, Bool, true, List, [], ◌++◌, reverse, sym, ◌∙◌, ap, subst, arith}
use Rattle.std.specs.Prelude.{Decides}
use Rattle.bp_trail.specs.declared.entries.Entry.{Entry}
use Rattle.bp_core.specs.declared.state.State.{State}
use Rattle.bp_trail.specs.Parameters.{Parameters}
use Rattle.bp_trail.specs.Trail.{Trail}
use Rattle.bp_trail.specs.Clock.{clock, durable}
use Rattle.bp_trail.specs.Passes.{passes, tickets}
use Rattle.bp_trail.specs.Legal.{Legal}
use Rattle.bp_trail.specs.Standing.{Standing, standing}
use Rattle.bp_trail.specs.Cuts.{Precedes}
use Rattle.bp_trail.proofs.Cuts.{leads-on}
use Rattle.bp_trail.proofs.Fresh.{standing-of-empty}
use Rattle.bp_core.specs.CoreView.{CoreView}
use Rattle.bp_keeper.specs.Kept.{Kept}
use Rattle.bp_core.specs.Outcomes.{Cuts}
use Rattle.bp_core.specs.Agreement.{IsCore, view_of}

-- the trail that a cut leaves
abbrev pub after_cut : Kept → Kept → Bool → Kept
after_cut trail later fresh = record later { before = trail.past; past = trail.past; len = 0; fresh = fresh }

module _ (c : Parameters) (trail : Kept) (x : State) (core : IsCore c trail x) (v : CoreView) (is : view_of c trail ≡ v) where
  pub cuts : (later : Kept) (fresh : Bool) → later ≡ after_cut trail later fresh → (entries : List Entry) → reverse entries ++ trail.before ≡ trail.past → x.passes_given ≤ 2 ^ 62 → x.tickets_given ≤ 2 ^ 62 → Cuts v entries (view_of c later)
  cuts later fresh after entries whole few_passes few_tickets = subst (λ u. Cuts u entries (view_of c later)) is (record {
    is = ap (view_of c) after;
    whole = whole;
    few_passes = omega (arith, few_passes, core.agrees.observed.passes_is);
    few_tickets = omega (arith, few_tickets, core.agrees.observed.tickets_is);
    leads_on = subst (λ past. let next : Standing = standing c past in (h : Trail) → Precedes c (standing c trail.before) h → Precedes c next (reverse entries ++ h)) (whole ∙ ap (λ k. k.before) (sym after)) (leads-on c (reverse entries) trail.before (subst (Legal c) (sym whole) core.agrees.legal));
    legal = subst (Legal c) (sym (ap (λ k. k.past) after)) core.agrees.legal;
  })

-- four numbers tell whether the entries lead where none do
pub nowhere : (c : Parameters) (past : Trail) (b : Bool) → Legal c past → (b ≡ true → (clock past ≡ 1) × (durable past ≡ 0) × (passes past ≡ 0) × (tickets past ≡ 0)) → ((clock past ≡ 1) × (durable past ≡ 0) × (passes past ≡ 0) × (tickets past ≡ 0) → b ≡ true)
    → Decides b (standing c past ≡ standing c [])
nowhere c past b l told tells = (
  (λ e. let n = told e in standing-of-empty c past l n.0 n.1 n.2 n.3),
  (λ e. tells (ap (λ (s : Standing). s.clock) e, ap (λ (s : Standing). s.durable) e, ap (λ (s : Standing). s.passes) e, ap (λ (s : Standing). s.tickets) e)),
)
