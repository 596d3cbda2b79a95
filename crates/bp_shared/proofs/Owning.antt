-- What a client's list leaves out is out in the trail.
use Rattle.std.proofs.Common.{◌≡◌, ◌≢◌, refl, sym, ap, subst, ◌∙◌, ℕ, Bool, true, false, not, ◌||◌, ◌==◌, List, [], ◌∷◌, ◌++◌, Option, Some, None, Result, Err}
use Rattle.std.proofs.lemmas.Bool.{true≢false, eq-eqb, and_from, false_from_ne_true}
use native.Mathlib.Decide.{ℕ_discrete}
use Rattle.bp_page.specs.declared.refusals.Refusal.{Refusal}
use Rattle.bp_page.specs.declared.refusals.Refusal.TheVariants as refusal
use Rattle.bp_page.specs.declared.refusals.PortFault.{PortFault}
use Rattle.bp_trail.specs.declared.entries.Entry.{Entry}
use Rattle.bp_trail.specs.declared.entries.Call.{Call}
use Rattle.bp_trail.specs.declared.entries.Call.TheVariants.{Fix}
use Rattle.bp_trail.specs.declared.entries.Reply.{Reply}
use Rattle.bp_trail.specs.declared.entries.Reply.TheVariants.{Load, WriteFirst}
use Rattle.bp_trail.specs.Parameters.{Parameters}
use Rattle.bp_trail.specs.Trail.{Trail}
use Rattle.bp_trail.specs.Lists.{and_given, without, outstanding}
use Rattle.bp_trail.specs.Event.{Grant, grant, same_grant, pass_back, read_ticket_back, write_ticket_back}
use Rattle.bp_trail.specs.Passes.{pass_of, read_ticket_of, write_ticket_of, passes_out, reads_out, writes_out}
use Rattle.bp_trail.specs.Pieces.{by}
use Rattle.bp_trail.specs.Legal.{is_out, Legal}
use Rattle.bp_trail.specs.Clients.{of_client}
use Rattle.bp_trail.proofs.OfClient.{of_client-hit, of_client-miss}
use Rattle.bp_trail.proofs.Lists.{some-filter}
use Rattle.bp_trail.proofs.Events.{Event, event-of}
use Rattle.bp_trail.proofs.Events.Event.{read_good, read_bad, read_wrong, write_bad, write_clean, write_dirty, unfixed}
use Rattle.bp_trail.proofs.Serials.{OneSerial, numbered}
use Rattle.bp_core.specs.declared.passes.Pass.{Pass}
use Rattle.bp_core.specs.declared.passes.ReadTicket.{ReadTicket}
use Rattle.bp_core.specs.declared.passes.WriteTicket.{WriteTicket}
use Rattle.bp_trail.specs.declared.ends.Ended.{Ended}
use Rattle.bp_core.specs.CoreView.{CoreView}
use Rattle.bp_core.specs.Outcomes.{pass_is_out, read_is_out, write_is_out, ReadOutcome, ReadIntoOutcome, WriteOutcome}
use Rattle.bp_session_log.specs.Books.{OwesRead, OwesWrite}
use Rattle.bp_session_log.specs.Causes.{EndsRead, EndsWrite}
use Rattle.bp_shared.specs.Telling.{IsListOf}
use Rattle.bp_shared.proofs.Holding.{left-passes, out-given, out-left, of-one}

pub itself : (g : Grant) → same_grant g g ≡ true
itself g = and_from (g.client == g.client) _ (eq-eqb g.client g.client refl) (and_from (g.page == g.page) _ (eq-eqb g.page g.page refl) (eq-eqb g.serial g.serial refl))

-- ---- passes, or tickets of either kind, of which each entry gives one at most, and takes back one at most that is out to its client
record AreGiven (c : Parameters) (gives : Entry → Option Grant) (ends : Entry → Option ℕ) : Type 0 where
  once : (past : Trail) → Legal c past → OneSerial (outstanding (λ (g : Grant). g.serial) gives ends past)
  own : (e : Entry) (past : Trail) → Legal c (e ∷ past) → (n : ℕ) → ends e ≡ Some n → (p : ℕ) × (is_out (grant e.client p n) (outstanding (λ (g : Grant). g.serial) gives ends past) ≡ true)

module _ (g : Grant) where
  -- an entry of both lists
  left-more : (b : Option ℕ) (xs ys : List Grant) → (is_out g xs ≡ true → is_out g ys ≡ true) → is_out g (without (λ (y : Grant). y.serial) b xs) ≡ true → is_out g (without (λ (y : Grant). y.serial) b ys) ≡ true
  left-more None xs ys more out = more out
  left-more (Some n) xs ys more out =
      out-left g n ys (λ same. true≢false (sym (left-passes (λ y. not (y.serial == n)) g xs out) ∙ ap not (eq-eqb g.serial n same)))
      (more (some-filter (same_grant g) (λ y. not (y.serial == n)) xs out))

  both-more : (o : Option Grant) (b : Option ℕ) (xs ys : List Grant) → (is_out g xs ≡ true → is_out g ys ≡ true) → is_out g (and_given o (without (λ (y : Grant). y.serial) b xs)) ≡ true → is_out g (and_given o (without (λ (y : Grant). y.serial) b ys)) ≡ true
  both-more None b xs ys more out = left-more b xs ys more out
  both-more (Some x) b xs ys more out = by-test (same_grant g x) out
    where
      by-test : (d : Bool) → (d || is_out g (without (λ (y : Grant). y.serial) b xs)) ≡ true → (d || is_out g (without (λ (y : Grant). y.serial) b ys)) ≡ true
      by-test true m = refl
      by-test false m = left-more b xs ys more m

module _ (c : Parameters) (start : Trail) (client : ℕ) (g : Grant) (whose : g.client ≡ client) (gives : Entry → Option Grant) (ends : Entry → Option ℕ) (are : AreGiven c gives ends) where
  abbrev out : Trail → List Grant
  out past = outstanding (λ (y : Grant). y.serial) gives ends past

  own-out : (since : Trail) → Legal c (since ++ start) → is_out g (out (of_client client since)) ≡ true → is_out g (out (since ++ start)) ≡ true
  own-out [] legal m = absurd (true≢false (sym m))
  own-out (e ∷ since) legal m = go (ℕ_discrete e.client client) (own-out since legal.before)
    where
      -- another client's entry takes nothing of this client back
      still : is_out g (out (since ++ start)) ≡ true → e.client ≢ client → (b : Option ℕ) → ends e ≡ b → is_out g (and_given (gives e) (without (λ (y : Grant). y.serial) b (out (since ++ start)))) ≡ true
      still here apart None is = out-given g (gives e) (out (since ++ start)) here
      still here apart (Some n) is =
          let o = are.own e (since ++ start) legal n is in
          out-given g (gives e) (without (λ (y : Grant). y.serial) (Some n) (out (since ++ start)))
          (out-left g n (out (since ++ start)) (λ same. apart (of-one (out (since ++ start)) (are.once (since ++ start) legal.before) (grant e.client o.0 n) g o.1 here (sym same) ∙ whose)) here)

      go : Dec (e.client ≡ client) → (is_out g (out (of_client client since)) ≡ true → is_out g (out (since ++ start)) ≡ true) → is_out g (out (e ∷ since ++ start)) ≡ true
      go (yes mine) before_it =
          both-more g (gives e) (ends e) (out (of_client client since)) (out (since ++ start)) before_it
          (subst (λ es. is_out g (out es) ≡ true) (of_client-hit client e since mine) m)
      go (no apart) before_it = still (before_it (subst (λ es. is_out g (out es) ≡ true) (of_client-miss client e since apart) m)) apart (ends e) refl

-- ---- each kind
passes-given : (c : Parameters) → AreGiven c pass_of (λ e. pass_back e.call)
passes-given c = record { once = λ past legal. (numbered c past legal).passes_once; own = λ e past legal n is. own past e.client e.call e.reply (event-of c past e legal.here) n is }
  where
    own : (past : Trail) (who : ℕ) (call : Call) (reply : Reply) → Event c past who call reply → (n : ℕ) → pass_back call ≡ Some n → (p : ℕ) × (is_out (grant who p n) (passes_out past) ≡ true)
    own past who _ _ (unfixed t p o) n is = (p, subst (λ x. is_out (grant who p x) (passes_out past) ≡ true) (let same : t ≡ n = cc in same) o)
    own past who _ _ _ n is = cc

reads-given : (c : Parameters) → AreGiven c read_ticket_of (λ e. read_ticket_back e.call)
reads-given c = record { once = λ past legal. (numbered c past legal).reads_once; own = λ e past legal n is. own past e.client e.call e.reply (event-of c past e legal.here) n is }
  where
    own : (past : Trail) (who : ℕ) (call : Call) (reply : Reply) → Event c past who call reply → (n : ℕ) → read_ticket_back call ≡ Some n → (p : ℕ) × (is_out (grant who p n) (reads_out past) ≡ true)
    own past who _ _ (read_good t p image o) n is = (p, subst (λ x. is_out (grant who p x) (reads_out past) ≡ true) (let same : t ≡ n = cc in same) o)
    own past who _ _ (read_bad t p o) n is = (p, subst (λ x. is_out (grant who p x) (reads_out past) ≡ true) (let same : t ≡ n = cc in same) o)
    own past who _ _ (read_wrong t p o) n is = (p, subst (λ x. is_out (grant who p x) (reads_out past) ≡ true) (let same : t ≡ n = cc in same) o)
    own past who _ _ _ n is = cc

writes-given : (c : Parameters) → AreGiven c write_ticket_of (λ e. write_ticket_back e.call)
writes-given c = record { once = λ past legal. (numbered c past legal).writes_once; own = λ e past legal n is. own past e.client e.call e.reply (event-of c past e legal.here) n is }
  where
    own : (past : Trail) (who : ℕ) (call : Call) (reply : Reply) → Event c past who call reply → (n : ℕ) → write_ticket_back call ≡ Some n → (p : ℕ) × (is_out (grant who p n) (writes_out past) ≡ true)
    own past who _ _ (write_bad t p o) n is = (p, subst (λ x. is_out (grant who p x) (writes_out past) ≡ true) (let same : t ≡ n = cc in same) o)
    own past who _ _ (write_clean t p o w) n is = (p, subst (λ x. is_out (grant who p x) (writes_out past) ≡ true) (let same : t ≡ n = cc in same) o)
    own past who _ _ (write_dirty t p o w) n is = (p, subst (λ x. is_out (grant who p x) (writes_out past) ≡ true) (let same : t ≡ n = cc in same) o)
    own past who _ _ _ n is = cc

-- ---- so a session's own tickets and passes are known to the pool
pub pass-known : (c : Parameters) (start past : Trail) (client : ℕ) (said : Trail) (pass : Pass) → Legal c past → IsListOf start past client said → pass.client ≡ client → pass_is_out pass said ≡ true → pass_is_out pass past ≡ true
pass-known c start past client said pass legal l whose held =
    subst (λ es. pass_is_out pass es ≡ true) (sym l.goes_on)
    (own-out c start client (grant pass.client pass.page pass.serial) whose pass_of (λ e. pass_back e.call) (passes-given c) l.since (subst (Legal c) l.goes_on legal)
    (subst (λ es. pass_is_out pass es ≡ true) (sym l.theirs) held))

pub read-known : (c : Parameters) (start past : Trail) (client : ℕ) (said : Trail) (ticket : ReadTicket) → Legal c past → IsListOf start past client said → OwesRead client ticket said → read_is_out ticket past ≡ true
read-known c start past client said ticket legal l owes =
    let g = grant ticket.client ticket.page ticket.serial in
    let listed : is_out g (reads_out said) ≡ true =
    subst (λ es. is_out g (reads_out es) ≡ true) (sym owes.gave)
    (subst (λ n. is_out g (reads_out (by n (Fix ticket.page) (Load ticket.serial owes.evicted) ∷ owes.before)) ≡ true) owes.whose (ap (λ b. b || is_out g (reads_out owes.before)) (itself g))) in
    subst (λ es. read_is_out ticket es ≡ true) (sym l.goes_on)
    (own-out c start client g owes.whose read_ticket_of (λ e. read_ticket_back e.call) (reads-given c) l.since (subst (Legal c) l.goes_on legal)
    (subst (λ es. is_out g (reads_out es) ≡ true) (sym l.theirs) listed))

pub write-known : (c : Parameters) (start past : Trail) (client : ℕ) (said : Trail) (ticket : WriteTicket) → Legal c past → IsListOf start past client said → OwesWrite client ticket said → write_is_out ticket past ≡ true
write-known c start past client said ticket legal l owes =
    let g = grant ticket.client ticket.page ticket.serial in
    let listed : is_out g (writes_out said) ≡ true =
    subst (λ es. is_out g (writes_out es) ≡ true) (sym owes.gave)
    (given owes.call (subst (λ n. is_out g (grant n ticket.page ticket.serial ∷ []) ≡ true) owes.whose (ap (λ b. b || false) (itself g)))) in
    subst (λ es. write_is_out ticket es ≡ true) (sym l.goes_on)
    (own-out c start client g owes.whose write_ticket_of (λ e. write_ticket_back e.call) (writes-given c) l.since (subst (Legal c) l.goes_on legal)
    (subst (λ es. is_out g (writes_out es) ≡ true) (sym l.theirs) listed))
  where
    -- the newest entry gave it, whatever it took back
    given : (call : Call) → is_out (grant ticket.client ticket.page ticket.serial) (grant client ticket.page ticket.serial ∷ []) ≡ true
        → is_out (grant ticket.client ticket.page ticket.serial) (writes_out (by client call (WriteFirst ticket.serial ticket.page ticket.image) ∷ owes.before)) ≡ true
    given call here = by-test (same_grant (grant ticket.client ticket.page ticket.serial) (grant client ticket.page ticket.serial)) here
      where
        by-test : (b : Bool) → (b || false) ≡ true → (b || is_out (grant ticket.client ticket.page ticket.serial) (without (λ (y : Grant). y.serial) (write_ticket_back call) (writes_out owes.before))) ≡ true
        by-test true m = refl
        by-test false m = absurd (true≢false (sym m))

-- ---- an end of device work whose ticket is known
pub read-not-unknown : (old new : CoreView) (ticket : ReadTicket) (read : Result (List ℕ) PortFault) (answer : Result Pass Refusal) → EndsRead old ticket read answer new → read_is_out ticket old.past ≡ true → answer ≢ Err refusal.UnknownTicket
read-not-unknown old new ticket read answer ended known is = true≢false (sym known ∙ (subst (λ a. EndsRead old ticket read a new) is ended).0)

pub write-not-unknown : (old new : CoreView) (ticket : WriteTicket) (written : Result (Unit {0}) PortFault) (answer : Result Ended Refusal) → EndsWrite old ticket written answer new → write_is_out ticket old.past ≡ true → answer ≢ Err refusal.UnknownTicket
write-not-unknown old new ticket written answer ended known is = true≢false (sym known ∙ (subst (λ a. EndsWrite old ticket written a new) is ended).0)

-- ---- a pass that the pool does not know is not the list's
lacks-own : (c : Parameters) (start past : Trail) (client : ℕ) (said : Trail) (pass : Pass) → Legal c past → IsListOf start past client said → pass.client ≡ client → pass_is_out pass past ≡ false → pass_is_out pass said ≡ false
lacks-own c start past client said pass legal l whose lacks = false_from_ne_true (pass_is_out pass said) (λ held. true≢false (sym (pass-known c start past client said pass legal l whose held) ∙ lacks))

pub read-lacks : (c : Parameters) (start : Trail) (old new : CoreView) (client : ℕ) (said : Trail) (pass : Pass) (answer : Result (List ℕ) Refusal) → ReadOutcome old pass answer new → Legal c old.past → IsListOf start old.past client said → pass.client ≡ client
    → answer ≡ Err refusal.UnknownPass → pass_is_out pass said ≡ false
read-lacks c start old new client said pass answer asked legal l whose is =
    lacks-own c start old.past client said pass legal l whose (subst (λ a. ReadOutcome old pass a new) is asked).1

pub read-into-lacks : {A : Type 0} (c : Parameters) (start : Trail) (old new : CoreView) (client : ℕ) (said : Trail) (pass : Pass) (offset : ℕ) (before after : List ℕ) (answer : Result A Refusal) → ReadIntoOutcome old pass offset before answer after new
    → Legal c old.past → IsListOf start old.past client said → pass.client ≡ client → answer ≡ Err refusal.UnknownPass → pass_is_out pass said ≡ false
read-into-lacks c start old new client said pass offset before after answer asked legal l whose is =
    lacks-own c start old.past client said pass legal l whose (subst (λ a. ReadIntoOutcome old pass offset before a after new) is asked).0.1

pub write-lacks : {A : Type 0} (c : Parameters) (start : Trail) (old new : CoreView) (client : ℕ) (said : Trail) (pass : Pass) (offset : ℕ) (bytes : List ℕ) (lsn : ℕ) (answer : Result A Refusal) → WriteOutcome old pass offset bytes lsn answer new
    → Legal c old.past → IsListOf start old.past client said → pass.client ≡ client → answer ≡ Err refusal.UnknownPass → pass_is_out pass said ≡ false
write-lacks c start old new client said pass offset bytes lsn answer asked legal l whose is =
    lacks-own c start old.past client said pass legal l whose (subst (λ a. WriteOutcome old pass offset bytes lsn a new) is asked).1
