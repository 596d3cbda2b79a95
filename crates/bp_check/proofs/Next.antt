-- One lawful entry more.
use Rattle.std.proofs.Common.{◌≡◌, ℕ, ◌+◌, ◌<◌, ◌≤◌, max, Bool, true, false, List, [], ◌∷◌, ◌++◌, length, take, drop, filter_map, Option, Some, None, unwrap_or, refl, sym, ap, ◌∙◌, arith}
use Rattle.std.specs.Prelude.{if◌then◌else◌, is_some}
use Rattle.std.specs.declared.vec.Vec.{Vec}
use Rattle.std.proofs.lemmas.Bool.{ltb-true}
use Rattle.std.proofs.lemmas.List.{take_at}
use Rattle.bp_trail.specs.declared.entries.Entry.{Entry}
use Rattle.bp_trail.specs.declared.entries.Call.{Call}
use Rattle.bp_trail.specs.declared.entries.Reply.{Reply}
use Rattle.bp_trail.specs.Parameters.{Parameters}
use Rattle.bp_trail.specs.Trail.{Trail}
use Rattle.bp_trail.specs.Event.{Grant, page_of, ticks, marked, pass_given, pass_back, read_ticket_back, write_ticket_back, ticket_given}
use Rattle.bp_trail.specs.Passes.{passes, tickets, reads_out, pass_of, read_ticket_of, write_ticket_of}
use Rattle.bp_trail.specs.Legal.{allowed, IsLawful, Legal}
use Rattle.bp_trail.proofs.Lists.{total-with, greatest-with}
use Rattle.bp_trail.proofs.Places.{out-of_page}
use Rattle.bp_trail.proofs.Ranges.{ranges}
use Rattle.bp_trail.proofs.Events.{Event, event-of}
use Rattle.bp_trail.proofs.Events.Event.{fix_hit, read_good}
use Rattle.bp_check.specs.declared.spans.Span.{Span}
use Rattle.bp_check.specs.Pages.{PageSeen, seen_at, seen_after}
use Rattle.bp_check.specs.Seen.{passed_on, pages_after, KeepsSpans, Keeps}
use Rattle.bp_check.proofs.PageSteps.{seen-with}

-- ---- what a lawful entry names is in range

module _ (c : Parameters) (past : Trail) (legal : Legal c past) where
  in-file : (who : ℕ) (call : Call) (reply : Reply) → Event c past who call reply → allowed c past who call ≡ true → (g : Grant) → pass_given who (page_of call) reply ≡ Some g → page_of call < c.pages
  in-file who _ _ (fix_hit p l r) a g i = ltb-true p c.pages a
  in-file who _ _ (read_good t p image o) a g i = ltb-true p c.pages ((ranges c past legal).reads p (out-of_page who p t (reads_out past) o))
  in-file who _ _ _ a g i = cc

  pub pass-in-file : (e : Entry) → IsLawful c past e → (g : Grant) → pass_of e ≡ Some g → page_of e.call < c.pages
  pass-in-file e lawful g i = in-file e.client e.call e.reply (event-of c past e lawful) lawful.allowed g i

-- ---- counts

counts-with : {X Y : Type 0} (f : X → Option Y) (x : X) (xs : List X) → length (filter_map f (x ∷ xs)) ≡ length (filter_map f xs) + (if is_some (f x) then 1 else 0)
counts-with {Y = Y} f x xs = go (f x) refl
  where
    go : (o : Option Y) → f x ≡ o → length (filter_map f (x ∷ xs)) ≡ length (filter_map f xs) + (if is_some (f x) then 1 else 0)
    go None i = rw i (omega arith)
    go (Some y) i = rw i (omega arith)

counts-few : {X Y : Type 0} (f : X → Option Y) (xs : List X) → length (filter_map f xs) ≤ length xs
counts-few f [] = omega arith
counts-few f (x ∷ xs) = go (is_some (f x)) (counts-with f x xs) (counts-few f xs)
  where
    go : (b : Bool) → length (filter_map f (x ∷ xs)) ≡ length (filter_map f xs) + (if b then 1 else 0) → length (filter_map f xs) ≤ length xs → length (filter_map f (x ∷ xs)) ≤ length (x ∷ xs)
    go true i few = omega (arith, i, few)
    go false i few = omega (arith, i, few)

pub passes-few : (past : Trail) → passes past ≤ length past
passes-few past = counts-few pass_of past

pub tickets-few : (past : Trail) → tickets past ≤ length past
tickets-few past = counts-few (λ e. ticket_given e.reply) past

-- a slice that was lent from a list of its length, and is written back
pub lent-back : {X : Type 0} (n : ℕ) (new items : List X) → length new ≡ n → take n (new ++ drop (length new) items) ≡ new
lent-back n new items is = take_at new (drop (length new) items) n is

-- ---- all that is kept

pub keeps-next : {A : Type 0} (c : Parameters) (past whole : Trail) (e : Entry) (told now mark given begun told' now' mark' given' begun' : ℕ) (out reads writes out' reads' writes' : List Grant) (here here' : List ℕ) (pages pages' : List PageSeen) (table table' : List (Vec Span A))
    → Keeps c past told now mark given begun out reads writes here pages table → IsLawful c past e → whole ≡ e ∷ past
    → told' ≡ told + 1 → now' ≡ now + unwrap_or (ticks e.call) 0 → mark' ≡ max (unwrap_or (marked e.call) 0) mark → given' ≡ given + (if is_some (pass_of e) then 1 else 0) → begun' ≡ begun + (if is_some (ticket_given e.reply) then 1 else 0)
    → out' ≡ passed_on (pass_of e) (pass_back e.call) out → reads' ≡ passed_on (read_ticket_of e) (read_ticket_back e.call) reads → writes' ≡ passed_on (write_ticket_of e) (write_ticket_back e.call) writes → here' ≡ pages_after e here
    → ((p : ℕ) → seen_at pages' p ≡ seen_after p e (seen_at pages p)) → length pages' ≡ length pages
    → KeepsSpans c past e now here reads table table' → length table' ≡ length table
    → Keeps c whole told' now' mark' given' begun' out' reads' writes' here' pages' table'
keeps-next c past whole e told now mark given begun told' now' mark' given' begun' out reads writes out' reads' writes' here here' pages pages' table table' kept lawful all more time marks gives begins outs readings writings comes states as_many spans whole_table =
    rw all record {
      legal = record { here = lawful; before = kept.legal };
      count = omega (arith, more, kept.count);
      clock = let t = total-with (λ d. ticks d.call) e past in omega (arith, time, kept.clock, t);
      durable = marks ∙ ap (max (unwrap_or (marked e.call) 0)) kept.durable ∙ sym (greatest-with (λ d. marked d.call) e past);
      passes = gives ∙ ap (λ n. n + (if is_some (pass_of e) then 1 else 0)) kept.passes ∙ sym (counts-with pass_of e past);
      tickets = begins ∙ ap (λ n. n + (if is_some (ticket_given e.reply) then 1 else 0)) kept.tickets ∙ sym (counts-with (λ d. ticket_given d.reply) e past);
      passes_out = outs ∙ ap (passed_on (pass_of e) (pass_back e.call)) kept.passes_out;
      reads_out = readings ∙ ap (passed_on (read_ticket_of e) (read_ticket_back e.call)) kept.reads_out;
      writes_out = writings ∙ ap (passed_on (write_ticket_of e) (write_ticket_back e.call)) kept.writes_out;
      residents = comes ∙ ap (pages_after e) kept.residents;
      pages = λ p. states p ∙ ap (seen_after p e) (kept.pages p) ∙ sym (seen-with c past e kept.legal lawful p);
      state_a_page = as_many ∙ kept.state_a_page;
      spans = spans lawful kept.clock kept.residents kept.reads_out kept.one_a_page kept.spans;
      one_a_page = whole_table ∙ kept.one_a_page;
    }

pub one-at-most : (b : Bool) → (if b then 1 else 0) ≤ 1
one-at-most true = omega arith
one-at-most false = omega arith
