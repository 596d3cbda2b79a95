-- The room that a list keeps, after one of its passes went back.
use Rattle.std.proofs.Common.{◌≡◌, refl, sym, ap, subst, ◌∙◌, ℕ, suc, ◌+◌, ◌≤◌, Bool, true, false, ◌==◌, ◌||◌, not, cond, All, List, [], ◌∷◌, length, filter, arith}
use Rattle.std.proofs.lemmas.Bool.{eqb-true, eq-eqb, and_parts}
use Rattle.std.proofs.lemmas.List.Elements.{All-filter}
use Rattle.bp_trail.specs.declared.entries.Call.TheVariants.{Unfix}
use Rattle.bp_trail.specs.declared.entries.Reply.TheVariants.{Done}
use Rattle.bp_trail.specs.Event.{Grant, same_grant}
use Rattle.bp_trail.specs.Trail.{Trail}
use Rattle.bp_trail.specs.Passes.{passes_out}
use Rattle.bp_trail.specs.Legal.{is_out}
use Rattle.bp_trail.specs.Pieces.{by}
use Rattle.bp_session_log.specs.Books.{KeepsRoom, open_tickets}
use Rattle.bp_session_log.proofs.Ending.{filter_le, others}

-- a pass among those held is the client's, and there is one fewer without it
pub record Held (client : ℕ) (g : Grant) (gs : List Grant) : Type 0 where
  pub whose : g.client ≡ client
  pub fewer : length (filter (others g.serial) gs) + 1 ≤ length gs

pub held_there : (client : ℕ) (g : Grant) (gs : List Grant) → All (λ (x : Grant). x.client ≡ client) gs → is_out g gs ≡ true → Held client g gs
held_there client g [] own there = absurd (cc)
held_there client g (x ∷ gs) own there = go (same_grant g x) refl there (held_there client g gs (λ k d lt. own (suc k) d (omega arith)))
  where
    go : (b : Bool) → same_grant g x ≡ b → (b || is_out g gs) ≡ true → (is_out g gs ≡ true → Held client g gs) → Held client g (x ∷ gs)
    go true same h rest =
        let parts = and_parts (g.client == x.client) _ same in
        let serial : x.serial ≡ g.serial = sym (eqb-true g.serial x.serial (and_parts (g.page == x.page) _ parts.1).1) in
        record { whose = eqb-true g.client x.client parts.0 ∙ own 0 x (omega arith); fewer = rw (eq-eqb x.serial g.serial serial) (omega (arith, filter_le (others g.serial) gs)) }
    go false same h rest =
        let r = rest h in
        record {
          whose = r.whose;
          fewer = elim (x.serial == g.serial) as (λ b. length (cond (not b) (x ∷ filter (others g.serial) gs) (filter (others g.serial) gs)) + 1 ≤ length (x ∷ gs)) [ true ↦ omega (arith, r.fewer) | false ↦ omega (arith, r.fewer) ];
        }

pub held_of_list : (client : ℕ) (g : Grant) (said : Trail) (held : List Grant) → held ≡ passes_out said → All (λ (x : Grant). x.client ≡ client) held → is_out g (passes_out said) ≡ true → Held client g held
held_of_list client g said held are own there =
    held_there client g held own (ap (is_out g) are ∙ there)

pub keeps_unfixed : (client : ℕ) (said after : Trail) (held held' : List Grant) (tickets kept kept' copies : ℕ) (c c' h h' : ℕ) (g : Grant)
    → KeepsRoom client said held tickets kept copies c h → is_out g (passes_out said) ≡ true
    → after ≡ by client (Unfix g.serial g.page) Done ∷ said → held' ≡ filter (others g.serial) held → kept' ≡ kept + 1 → c' ≡ c → h ≤ h'
    → KeepsRoom client after held' tickets kept' copies c' h'
keeps_unfixed client said after held held' tickets kept kept' copies c c' h h' g r there grows holds more same_c same_h =
    let fewer : length held' + 1 ≤ length held = subst (λ gs. length gs + 1 ≤ length held) (sym holds) (held_of_list client g said held r.held_are r.own there).fewer in
    record {
      held_are = holds ∙ ap (filter (others g.serial)) r.held_are ∙ ap (λ es. passes_out es) (sym grows);
      own = subst (All (λ (x : Grant). x.client ≡ client)) (sym holds) (All-filter (others g.serial) (λ (x : Grant). x.client ≡ client) held r.own);
      tickets_are = subst (λ (es : Trail). tickets ≡ open_tickets es) (sym grows) (omega (arith, r.tickets_are));
      entries_fit = omega (arith, r.entries_fit, fewer, more, same_c);
      passes_fit = omega (arith, r.passes_fit, same_h);
      copies_fit = r.copies_fit;
      counted = omega (arith, r.counted, more, ap length grows);
    }
