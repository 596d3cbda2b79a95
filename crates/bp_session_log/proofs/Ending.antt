-- The room that a list keeps, after the end of device work that its newest entry began.
use Rattle.std.proofs.Common.{rules, ◌≡◌, refl, sym, ap, subst, ◌∙◌, eqb, ℕ, ◌+◌, ◌-◌, ◌*◌, ◌≤◌, Bool, true, false, All, List, [], ◌∷◌, length, filter, arith, Some, None, Err}
use Rattle.std.proofs.lemmas.List.Elements.{All-append}
use Rattle.std.specs.Prelude.{not, if◌then◌else◌}
use Rattle.bp_page.specs.declared.refusals.Refusal.{Refusal}
use Rattle.bp_page.specs.declared.refusals.PortFault.{PortFault}
use Rattle.bp_page.specs.declared.refusals.PortFault.TheVariants as fault
use Rattle.bp_trail.specs.declared.entries.Call.TheVariants.{Fix, ReadEnd, WriteEnd}
use Rattle.bp_trail.specs.declared.entries.Reply.{Reply}
use Rattle.bp_trail.specs.declared.entries.Reply.TheVariants.{Hit, Load, WriteFirst, Fixed}
use Rattle.bp_core.specs.declared.passes.ReadTicket.{ReadTicket}
use Rattle.bp_trail.specs.Ends.{read_refusal, read_failure}
use Rattle.bp_trail.specs.Lists.{and_given}
use Rattle.bp_trail.specs.Event.{Grant, grant, pass_given}
use Rattle.bp_trail.specs.Trail.{Trail}
use Rattle.bp_trail.specs.Passes.{passes_out}
use Rattle.bp_trail.specs.Pieces.{by}
use Rattle.bp_session_log.specs.Books.{KeepsRoom, plain_reply, tickets_given, open_tickets, OwesRead, OwesWriteEnd}
use Rattle.bp_session_log.specs.Turns.{EndReadOutcome}

pub filter_le : {X : Type 0} (p : X → Bool) (xs : List X) → length (filter p xs) ≤ length xs
filter_le p [] = omega arith
filter_le p (x ∷ xs) = elim (p x) as (λ b. length (if◌then◌else◌ b (x ∷ filter p xs) (filter p xs)) ≤ length (x ∷ xs)) [ true ↦ omega (arith, filter_le p xs) | false ↦ omega (arith, filter_le p xs) ]

abbrev pub others : ℕ → Grant → Bool
others n g = not (eqb g.serial n)

-- device work that the newest entry began has an open ticket
pub read_owed : (client : ℕ) (ticket : ReadTicket) (said : Trail) → OwesRead client ticket said → 1 ≤ open_tickets said
read_owed client ticket said o = subst (λ (es : Trail). 1 ≤ open_tickets es) (sym o.gave) (omega arith)

pub write_owed : (client ticket : ℕ) (said : Trail) → OwesWriteEnd client ticket said → 1 ≤ open_tickets said
write_owed client ticket said o = subst (λ (es : Trail). 1 ≤ open_tickets es) (sym o.gave) (omega arith)

-- a pass that a fix gave at once
pub keeps_hit : (client page n : ℕ) (said after : Trail) (held held' : List Grant) (tickets kept kept' copies c c' h h' : ℕ)
    → KeepsRoom client said held tickets kept copies c h
    → after ≡ by client (Fix page) (Hit n) ∷ said → held' ≡ grant client page n ∷ held → kept' ≡ kept + 1 → c' ≡ c → h' + 1 ≡ h
    → kept + (length held + 2 * tickets) + 2 ≤ c → tickets + 1 ≤ h
    → KeepsRoom client after held' tickets kept' copies c' h'
keeps_hit client page n said after held held' tickets kept kept' copies c c' h h' r grows holds more same_c same_h entries passes =
    let g = grant client page n in
    let len : length held' ≡ length held + 1 = omega (arith, ap length holds) in
    record {
      held_are = holds ∙ ap (λ gs. g ∷ gs) r.held_are ∙ ap (λ es. passes_out es) (sym grows);
      own = subst (All (λ g. g.client ≡ client)) (sym holds) (All-append (λ (g : Grant). g.client ≡ client) (g ∷ []) held (search rules) r.own);
      tickets_are = subst (λ (es : Trail). tickets ≡ open_tickets es) (sym grows) (omega (arith, r.tickets_are));
      entries_fit = omega (arith, len, more, same_c, entries);
      passes_fit = omega (arith, same_h, passes);
      copies_fit = r.copies_fit;
      counted = omega (arith, r.counted, more, ap length grows);
    }

pub keeps_loaded : (client : ℕ) (said after : Trail) (held held' : List Grant) (tickets kept kept' copies copies' : ℕ) (c c' h h' : ℕ) (ticket : ReadTicket) (n : ℕ) (image : List ℕ)
    → KeepsRoom client said held tickets kept copies c h → OwesRead client ticket said
    → after ≡ by client (ReadEnd ticket.serial ticket.page (Some image)) (Fixed n) ∷ said → held' ≡ grant client ticket.page n ∷ held → kept' ≡ kept + 1 → c' ≡ c → h' + 1 ≡ h
    → copies ≤ copies' + 1
    → KeepsRoom client after held' (tickets - 1) kept' copies' c' h'
keeps_loaded client said after held held' tickets kept kept' copies copies' c c' h h' ticket n image r o grows holds more same_c same_h most =
    let g = grant client ticket.page n in
    let fewer = read_owed client ticket said o in
    let len : length held' ≡ length held + 1 = omega (arith, ap length holds) in
    record {
      held_are = holds ∙ ap (λ gs. g ∷ gs) r.held_are ∙ ap (λ es. passes_out es) (sym grows);
      own = subst (All (λ g. g.client ≡ client)) (sym holds) (All-append (λ (g : Grant). g.client ≡ client) (g ∷ []) held (search rules) r.own);
      tickets_are = subst (λ (es : Trail). tickets - 1 ≡ open_tickets es) (sym grows) (omega (arith, r.tickets_are));
      entries_fit = omega (arith, r.entries_fit, len, more, same_c, fewer, r.tickets_are);
      passes_fit = omega (arith, r.passes_fit, same_h, fewer, r.tickets_are);
      copies_fit = omega (arith, r.copies_fit, most, fewer, r.tickets_are);
      counted = omega (arith, r.counted, more, ap length grows);
    }

-- a read that failed gives no pass and no ticket
failed_gives : (client page : ℕ) (f : PortFault) → (pass_given client page (read_failure f) ≡ None) × (tickets_given (read_failure f) ≡ 0)
failed_gives client page fault.WrongPage = (refl, refl)
failed_gives client page _ = (refl, refl)

pub keeps_not_loaded : (client : ℕ) (said after : Trail) (held : List Grant) (tickets kept kept' copies : ℕ) (c c' h : ℕ) (ticket : ReadTicket) (f : PortFault)
    → KeepsRoom client said held tickets kept copies c h → OwesRead client ticket said
    → after ≡ by client (ReadEnd ticket.serial ticket.page None) (read_failure f) ∷ said → kept' ≡ kept + 1 → c' ≡ c
    → KeepsRoom client after held (tickets - 1) kept' copies c' h
keeps_not_loaded client said after held tickets kept kept' copies c c' h ticket f r o grows more same_c =
    let fewer = read_owed client ticket said o in
    let gives = failed_gives client ticket.page f in
    record {
      held_are = r.held_are ∙ sym (ap (λ g. and_given g (passes_out said)) gives.0) ∙ ap (λ es. passes_out es) (sym grows);
      own = r.own;
      tickets_are = subst (λ (es : Trail). tickets - 1 ≡ open_tickets es) (sym grows) (omega (arith, gives.1, r.tickets_are));
      entries_fit = omega (arith, r.entries_fit, more, same_c, fewer, r.tickets_are);
      passes_fit = omega (arith, r.passes_fit);
      copies_fit = omega (arith, r.copies_fit);
      counted = omega (arith, r.counted, more, ap length grows);
    }

-- what the core refuses it with is what the list's entry says
pub ended_badly : (ticket : ReadTicket) (f : PortFault) (why : Refusal) (said after : Trail) → why ≡ read_refusal f
    → after ≡ by ticket.client (ReadEnd ticket.serial ticket.page None) (read_failure f) ∷ said → EndReadOutcome ticket (Err f) (Err why) said after
ended_badly ticket f why said after is grows = subst (λ r. EndReadOutcome ticket (Err f) (Err r) said after) (sym is) (go f grows)
  where
    go : (f : PortFault) → after ≡ by ticket.client (ReadEnd ticket.serial ticket.page None) (read_failure f) ∷ said → EndReadOutcome ticket (Err f) (Err (read_refusal f)) said after
    go fault.WrongPage grows = (refl, grows)
    go _ grows = (refl, grows)

pub keeps_written : (client : ℕ) (said after : Trail) (held : List Grant) (tickets kept kept' copies : ℕ) (c c' h : ℕ) (ticket page : ℕ) (good : Bool) (reply : Reply)
    → KeepsRoom client said held tickets kept copies c h → OwesWriteEnd client ticket said → plain_reply reply ≡ true
    → after ≡ by client (WriteEnd ticket page good) reply ∷ said → kept' ≡ kept + 1 → c' ≡ c
    → KeepsRoom client after held (tickets - 1) kept' copies c' h
keeps_written client said after held tickets kept kept' copies c c' h ticket page good reply r o plain grows more same_c =
    let fewer = write_owed client ticket said o in
    let p = plain-with client page reply plain in
    record {
      held_are = r.held_are ∙ sym (ap (λ o. and_given o (passes_out said)) p.0) ∙ ap (λ es. passes_out es) (sym grows);
      own = r.own;
      tickets_are = subst (λ (es : Trail). tickets - 1 ≡ open_tickets es) (sym grows) (omega (arith, p.1, r.tickets_are));
      entries_fit = omega (arith, r.entries_fit, more, same_c, fewer, r.tickets_are);
      passes_fit = omega (arith, r.passes_fit);
      copies_fit = omega (arith, r.copies_fit);
      counted = omega (arith, r.counted, more, ap length grows);
    }
  where
    plain-with : (client page : ℕ) (reply : Reply) → plain_reply reply ≡ true → (pass_given client page reply ≡ None) × (tickets_given reply ≡ 0)
    plain-with client page (Hit n) h = cc
    plain-with client page (Fixed n) h = cc
    plain-with client page (Load t v) h = cc
    plain-with client page (WriteFirst t p image) h = cc
    plain-with client page _ h = (refl, refl)
