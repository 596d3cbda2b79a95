-- The entries of a page that is read at once, in a client's list.
use Rattle.std.proofs.Common.{◌≡◌, refl, sym, ap, subst, ◌∙◌, ℕ, ◌+◌, ◌*◌, ◌≤◌, true, ◌&&◌, ◌||◌, ◌==◌, not, cond, All, List, ◌∷◌, length, filter, arith}
use Rattle.std.proofs.lemmas.Bool.{eq-eqb, and_from}
use Rattle.std.proofs.lemmas.List.Elements.{All-filter}
use Rattle.bp_trail.specs.Event.{Grant, grant, same_grant}
use Rattle.bp_trail.specs.Legal.{is_out}
use Rattle.bp_trail.specs.Passes.{passes_out}
use Rattle.bp_trail.specs.Trail.{Trail}
use Rattle.bp_session_log.specs.Books.{all_held, KeepsRoom, open_tickets}
use Rattle.bp_session_log.specs.Turns.{and_read}
use Rattle.bp_session_log.proofs.Ending.{filter_le, others}

itself : (g : Grant) → same_grant g g ≡ true
itself g = and_from (g.client == g.client) _ (eq-eqb g.client g.client refl) (and_from (g.page == g.page) _ (eq-eqb g.page g.page refl) (eq-eqb g.serial g.serial refl))

-- the pass that goes back is the one that was given
pub held_at_once : (client page n : ℕ) (image : List ℕ) (said : Trail) → all_held (and_read client page n image said) ≡ all_held said
held_at_once client page n image said = ap (λ b. (b || is_out (grant client page n) (passes_out said)) && (true && (true && all_held said))) (itself (grant client page n))

-- the passes held are as they were, if none has its number, and nothing more is owed
pub keeps_looked : (client page n : ℕ) (image : List ℕ) (said after : Trail) (held held' : List Grant) (tickets kept kept' copies c c' h h' : ℕ)
    → KeepsRoom client said held tickets kept copies c h
    → after ≡ and_read client page n image said → held' ≡ filter (others n) held → kept' ≡ kept + 3 → c' ≡ c → h ≤ h'
    → kept + (length held + 2 * tickets) + 3 ≤ c
    → KeepsRoom client after held' tickets kept' copies c' h'
keeps_looked client page n image said after held held' tickets kept kept' copies c c' h h' r grows holds more same_c same_h entries =
    let g = grant client page n in
    let rest = filter (others n) (passes_out said) in
    let fewer : length held' ≤ length held = subst (λ gs. length gs ≤ length held) (sym holds) (filter_le (others n) held) in
    record {
      held_are = holds ∙ ap (filter (others n)) r.held_are ∙ sym (ap (λ b. cond (not b) (g ∷ rest) rest) (eq-eqb n n refl)) ∙ ap (λ es. passes_out es) (sym grows);
      own = subst (All (λ (x : Grant). x.client ≡ client)) (sym holds) (All-filter (others n) (λ (x : Grant). x.client ≡ client) held r.own);
      tickets_are = subst (λ (es : Trail). tickets ≡ open_tickets es) (sym grows) (omega (arith, r.tickets_are));
      entries_fit = omega (arith, fewer, more, same_c, entries);
      passes_fit = omega (arith, r.passes_fit, same_h);
      copies_fit = r.copies_fit;
      counted = omega (arith, r.counted, more, ap length grows);
    }
