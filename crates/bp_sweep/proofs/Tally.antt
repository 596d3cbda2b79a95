-- The totals grow with each entry, and a core that wrote to no page has none unsaved.
use Rattle.std.proofs.Common.{◌≡◌, refl, sym, ◌∙◌, ap, subst, ◌⊎◌, inl, inr, ℕ, ◌+◌, ◌^◌, ◌≤◌, arith, cond, Bool, true, false, not, ◌&&◌, ◌||◌, ◌==◌, if◌then◌else◌, List, [], ◌∷◌, length, Option, Some, None, Result, Ok, Err}
use Rattle.std.proofs.lemmas.Bool.{and_parts}
use Rattle.std.proofs.lemmas.List.Sums.{sum_by-cons}
use Rattle.bp_page.specs.declared.refusals.PortFault.{PortFault}
use Rattle.bp_page.specs.declared.refusals.PortFault.TheVariants as fault
use Rattle.bp_trail.specs.declared.entries.Entry.{Entry}
use Rattle.bp_trail.specs.declared.entries.Call.{Call}
use Rattle.bp_trail.specs.declared.entries.Call.TheVariants.{Fix, ReadEnd}
use Rattle.bp_trail.specs.declared.entries.Reply.{Reply}
use Rattle.bp_trail.specs.declared.entries.Reply.TheVariants.{Hit, Load, WriteFirst, Busy, Done, Fixed, ReadFailed}
use Rattle.bp_trail.specs.Event.{is_write, page_of}
use Rattle.bp_trail.specs.Event.{writes}
use Rattle.bp_trail.specs.Saved.{settles, unsaved}
use Rattle.bp_trail.specs.Lists.{since}
use Rattle.bp_trail.specs.Passes.{passes, tickets}
use Rattle.bp_trail.specs.Places.{loading, resident}
use Rattle.bp_trail.specs.Victim.{victim}
use Rattle.bp_trail.specs.PageMap.{has_free_frame, fix_reply, replace_reply, FindsWrongPage}
use Rattle.bp_trail.specs.Parameters.{Parameters}
use Rattle.bp_trail.specs.Trail.{Trail}
use Rattle.bp_trail.specs.Legal.{Legal}
use Rattle.bp_trail.specs.Pieces.{by}
use Rattle.bp_trail.specs.declared.totals.Totals.{Totals}
use Rattle.bp_trail.specs.Totals.{HasRoom, counted, no_totals, one, replies, totals_of}
use Rattle.bp_trail.specs.Totals.{is_hit, is_fault, is_eviction, is_failure, is_refusal, is_discarded}
use Rattle.bp_trail.specs.Totals.{is_write as is_write_reply}
use Rattle.bp_trail.specs.Ends.{read_failure}
use Rattle.bp_core.specs.CoreView.{CoreView, with_entry, HasRoomFor}
use Rattle.bp_page.specs.declared.refusals.Refusal.{Refusal}
use Rattle.bp_core.specs.declared.passes.Pass.{Pass}
use Rattle.bp_core.specs.declared.passes.ReadTicket.{ReadTicket}
use Rattle.bp_core.specs.declared.passes.EndRefusal.TheVariants as end_refusal
use Rattle.bp_core.specs.Outcomes.{Adds, ReadEndOutcome}
use Rattle.bp_sweep.specs.Referring.{is_unwritten, IsTallied}

-- ---- totals

module _ (test : Reply → Bool) where
  pub replies-more : (e : Entry) (past : Trail) → replies test (e ∷ past) ≡ replies test past + one (test e.reply)
  replies-more e past = omega (arith, sum_by-cons (λ (x : Entry). cond (test x.reply) 1 0) e past)

  one-most : (b : Bool) → one b ≤ 1
  one-most true = omega arith
  one-most false = omega arith

  pub replies-most : (past : Trail) → replies test past ≤ length past
  replies-most [] = omega arith
  replies-most (e ∷ past) = omega (arith, replies-more e past, one-most (test e.reply), replies-most past)

pub totals-more : (e : Entry) (past : Trail) → totals_of (e ∷ past) ≡ counted e.reply (totals_of past)
unfolding totals_of
totals-more e past = λ i. record {
  hits = replies-more is_hit e past i;
  faults = replies-more is_fault e past i;
  evictions = replies-more is_eviction e past i;
  writes = replies-more is_write_reply e past i;
  failed = replies-more is_failure e past i;
  refused = replies-more is_refusal e past i;
  discards = replies-more is_discarded e past i;
}

pub totals-none : no_totals ≡ totals_of []
unfolding totals_of
totals-none = refl

-- one reply more has room after so few entries
pub totals-room : (past : Trail) → length past ≤ 2 ^ 62 → HasRoom (totals_of past)
unfolding totals_of
totals-room past few = record {
  hits = omega (arith, few, replies-most is_hit past);
  faults = omega (arith, few, replies-most is_fault past);
  evictions = omega (arith, few, replies-most is_eviction past);
  writes = omega (arith, few, replies-most is_write_reply past);
  failed = omega (arith, few, replies-most is_failure past);
  refused = omega (arith, few, replies-most is_refusal past);
  discards = omega (arith, few, replies-most is_discarded past);
}

pub tally-room : (core : CoreView) (totals : Totals) → IsTallied core totals → length core.past ≤ 2 ^ 62 → HasRoom totals
tally-room core totals tallied few = subst HasRoom (sym tallied.counted) (totals-room core.past few)

-- a core with room has few entries
pub room-few : (core : CoreView) (totals : Totals) (n : ℕ) → IsTallied core totals → HasRoomFor n core → 1 ≤ n → length core.past + 1 ≤ 2 ^ 62
room-few core totals n tallied room some = let whole = ap length tallied.whole in omega (arith, whole, room, some, tallied.room)

-- ---- one entry more

pub tally-entry : (old new : CoreView) (totals : Totals) (client : ℕ) (call : Call) (reply : Reply) → IsTallied old totals → is_write call ≡ false → new ≡ with_entry old client call reply
    → IsTallied new (counted reply totals)
tally-entry old new totals client call reply t quiet is = subst (λ core. IsTallied core (counted reply totals)) (sym is) (record {
  whole = t.whole;
  room = t.room;
  unwritten = ap (λ b. not b && is_unwritten old.past) quiet ∙ t.unwritten;
  counted = ap (counted reply) t.counted ∙ sym (totals-more (by client call reply) old.past);
})

-- a reply of no kind leaves the totals
pub done-totals : (totals : Totals) → counted Done totals ≡ totals
done-totals totals = λ i. record {
  hits = same totals.hits i;
  faults = same totals.faults i;
  evictions = same totals.evictions i;
  writes = same totals.writes i;
  failed = same totals.failed i;
  refused = same totals.refused i;
  discards = same totals.discards i;
}
  where
    same : (n : ℕ) → n + 0 ≡ n
    same n = omega arith

-- a read that failed counts the same, whatever the fault
pub failed-alike : (f : PortFault) (totals : Totals) → counted ReadFailed totals ≡ counted (read_failure f) totals
failed-alike fault.WrongPage totals = refl
failed-alike _ totals = refl

-- the end of a read
pub tally-loaded : (old new : CoreView) (ticket : ReadTicket) (read : Result (List ℕ) PortFault) (n : ℕ) (pass : Pass) (totals after : Totals) → IsTallied old totals → ReadEndOutcome old ticket read (Ok pass) new
    → n ≡ pass.serial → after ≡ counted (Fixed n) totals → IsTallied new after
tally-loaded old new ticket (Ok image) n pass totals after t h same is =
    subst (IsTallied new) (sym (is ∙ ap (λ n. counted (Fixed n) totals) same)) (tally-entry old new totals ticket.client (ReadEnd ticket.serial ticket.page (Some image)) (Fixed pass.serial) t refl h.3.is)
tally-loaded old new ticket (Err f) n pass totals after t h same is = absurd h

pub tally-failed : (old new : CoreView) (ticket : ReadTicket) (read : Result (List ℕ) PortFault) (why : Refusal) (totals after : Totals) → IsTallied old totals
    → ReadEndOutcome old ticket read (Err (end_refusal.Failed why)) new → after ≡ counted ReadFailed totals → IsTallied new after
tally-failed old new ticket (Ok image) why totals after t h is = absurd h
tally-failed old new ticket (Err f) why totals after t h is =
    subst (IsTallied new) (sym (is ∙ failed-alike f totals)) (tally-entry old new totals ticket.client (ReadEnd ticket.serial ticket.page None) (read_failure f) t refl h.2.is)

-- ---- no write, and so nothing unsaved

no-write : (p : ℕ) (e : Entry) → is_write e.call ≡ false → writes p e ≡ false
no-write p e is = ap (λ b. b && (page_of e.call == p)) is

not-true : (b : Bool) → not b ≡ true → b ≡ false
not-true true is = sym is
not-true false is = refl

nothing-since : (p : ℕ) (stop : Entry → Bool) (past : Trail) → is_unwritten past ≡ true → since (writes p) stop past ≡ false
nothing-since p stop [] is = refl
nothing-since p stop (e ∷ past) is =
    let both = and_parts (not (is_write e.call)) (is_unwritten past) is in
    ap (λ b. b || (not (stop e) && since (writes p) stop past)) (no-write p e (not-true (is_write e.call) both.0)) ∙ ap (λ b. not (stop e) && b) (nothing-since p stop past both.1) ∙ never (not (stop e))
  where
    never : (b : Bool) → (b && false) ≡ false
    never true = refl
    never false = refl

pub nothing-unsaved : (past : Trail) (p : ℕ) → is_unwritten past ≡ true → unsaved past p ≡ false
nothing-unsaved past p is = nothing-since p (settles past p) past is

-- a fix that begins with a write-out
abbrev pub is_write_first : Reply → Bool
is_write_first (WriteFirst ticket page image) = true
is_write_first _ = false

no-write-first : (c : Parameters) (past : Trail) (p : ℕ) → is_unwritten past ≡ true → is_write_first (fix_reply c past p) ≡ false
no-write-first c past p is = by-loading (loading past p) (resident past p) (has_free_frame c past) (victim c past)
  where
    by-victim : (v : Option ℕ) → is_write_first (replace_reply past v) ≡ false
    by-victim None = refl
    by-victim (Some v) = rw (nothing-unsaved past v is) refl

    by-loading : (l r f : Bool) (v : Option ℕ) → is_write_first (if l then Busy else if r then Hit (passes past) else if f then Load (tickets past) None else replace_reply past v) ≡ false
    by-loading true r f v = refl
    by-loading false true f v = refl
    by-loading false false true v = refl
    by-loading false false false v = by-victim v

no-wrong-page : {A : Type 0} (p : ℕ) (reply : Reply) → A ⊎ FindsWrongPage (Fix p) reply → A
no-wrong-page p reply (inl is) = is
no-wrong-page {A = A} p reply (inr x') = elim x' [ ]

-- a core that wrote to no page begins no write-out
pub no-write-out : (old new : CoreView) (client page ticket victim : ℕ) (image : List ℕ) → is_unwritten old.past ≡ true → Adds old client (Fix page) (WriteFirst ticket victim image) new → ⊥
no-write-out old new client page ticket victim image is adds =
    let lawful : Legal old.parameters (by client (Fix page) (WriteFirst ticket victim image) ∷ old.past) = subst (λ core. Legal core.parameters core.past) adds.is adds.legal in
    let reply : WriteFirst ticket victim image ≡ fix_reply old.parameters old.past page = no-wrong-page page (WriteFirst ticket victim image) lawful.here.reply in
    let yes : true ≡ false = ap is_write_first reply ∙ no-write-first old.parameters old.past page is in
    cc
