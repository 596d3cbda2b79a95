-- A report that is told piece by piece is that of the pieces joined.
use Rattle.std.proofs.Common.{◌≡◌, refl, sym, ap, ◌∙◌, ℕ, ◌+◌, ◌≤◌, ◌<◌, cond, List, [], ◌∷◌, ◌++◌, length, drop, get_or, append_assoc, length-append, arith}
use Rattle.std.specs.Prelude.{Bool}
use Rattle.std.proofs.lemmas.List.Sums.{sum_by-cons}
use Rattle.bp_trail.specs.declared.entries.Entry.{Entry}
use Rattle.bp_trail.specs.declared.entries.Reply.{Reply}
use Rattle.bp_trail.specs.Trail.{Trail}
use Rattle.bp_trail.specs.Clock.{clock}
use Rattle.bp_trail.specs.declared.totals.Totals.{Totals}
use Rattle.bp_trace.specs.Lines.{event_line}
use Rattle.bp_trace.specs.Totals.{totals_text}
use Rattle.bp_trail.specs.Totals.{counted, is_discarded, is_eviction, is_failure, is_fault, is_hit, is_refusal, is_write, one, replies, totals_of}
use Rattle.bp_trace.specs.Report.{lines_after, report_text, steps_of}
use Rattle.bp_trace.specs.Pieces.{lines_from, Taken, none_taken, and_one, and_taken, text_of_pieces, joined, MayTake, TakesNoMore}
use Rattle.bp_trace.proofs.Entries.{clock-next, drop-item}

module _ (taken : Taken) (entries : List Entry) (i : ℕ) (e : Entry) (h : i < length entries) (is : e ≡ get_or entries i e) where
  pub and_taken-drop : and_taken taken (drop i entries) ≡ and_taken (and_one e taken) (drop (i + 1) entries)
  unfolding and_taken
  and_taken-drop = ap (and_taken taken) (drop-item entries i e h is)

  pub lines_from-drop : lines_from taken.time (drop i entries) ≡ event_line taken.time e ++ lines_from (and_one e taken).time (drop (i + 1) entries)
  unfolding lines_from
  lines_from-drop = ap (lines_from taken.time) (drop-item entries i e h is)

-- time does not run back
pub time-grows : (taken : Taken) (entries : List Entry) → taken.time ≤ (and_taken taken entries).time
unfolding and_taken
time-grows taken [] = omega arith
time-grows taken (e ∷ later) = omega (arith, time-grows (and_one e taken) later)

-- it is told by the time alone
pub time-alone : (a b : Taken) (entries : List Entry) → a.time ≡ b.time → (and_taken a entries).time ≡ (and_taken b entries).time
unfolding and_taken
time-alone a b [] same = same
time-alone a b (e ∷ later) same = time-alone (and_one e a) (and_one e b) later (ap (λ t. t + steps_of e.call) same)

and_taken-append : (taken : Taken) (xs ys : List Entry) → and_taken taken (xs ++ ys) ≡ and_taken (and_taken taken xs) ys
unfolding and_taken
and_taken-append taken [] ys = refl
and_taken-append taken (e ∷ xs) ys = and_taken-append (and_one e taken) xs ys

-- from an earlier time the same entries lead to an earlier one
time-earlier : (a b : Taken) (entries : List Entry) → a.time ≤ b.time → (and_taken a entries).time ≤ (and_taken b entries).time
unfolding and_taken
time-earlier a b [] le = le
time-earlier a b (e ∷ later) le = time-earlier (and_one e a) (and_one e b) later (omega (arith, le))

pub may-come : (old new : Taken) (piece next : List Entry) → TakesNoMore old piece new → MayTake old (piece ++ next) → MayTake new next
may-come old new piece next taken may = (
  omega (arith, time-earlier new (and_taken old piece) next taken.0, ap (λ (t : Taken). t.time) (and_taken-append old piece next), may.0),
  omega (arith, taken.1, may.1, length-append piece next),
)

lines_from-append : (taken : Taken) (xs ys : List Entry) → lines_from taken.time (xs ++ ys) ≡ lines_from taken.time xs ++ lines_from (and_taken taken xs).time ys
unfolding and_taken lines_from
lines_from-append taken [] ys = refl
lines_from-append taken (e ∷ xs) ys =
    ap (λ t. event_line taken.time e ++ t) (lines_from-append (and_one e taken) xs ys)
    ∙ sym (append_assoc (event_line taken.time e) (lines_from (and_one e taken).time xs) (lines_from (and_taken (and_one e taken) xs).time ys))

whole-text : (taken : Taken) (pieces : List (List Entry)) → text_of_pieces taken pieces ≡ lines_from taken.time (joined pieces) ++ totals_text (and_taken taken (joined pieces)).totals
unfolding text_of_pieces and_taken lines_from
whole-text taken [] = refl
whole-text taken (piece ∷ later) =
    ap (λ t. lines_from taken.time piece ++ t) (whole-text (and_taken taken piece) later)
    ∙ sym (append_assoc (lines_from taken.time piece) (lines_from (and_taken taken piece).time (joined later)) (totals_text (and_taken (and_taken taken piece) (joined later)).totals))
    ∙ ap (λ t. t ++ totals_text (and_taken (and_taken taken piece) (joined later)).totals) (sym (lines_from-append taken piece (joined later)))
    ∙ ap (λ (t : Taken). lines_from taken.time (piece ++ joined later) ++ totals_text t.totals) (sym (and_taken-append taken piece (joined later)))

-- ---- those of the definitions

same-lines : (past : Trail) (entries : List Entry) → lines_from (clock past) entries ≡ lines_after past entries
unfolding lines_from lines_after
same-lines past [] = refl
same-lines past (e ∷ later) = ap (λ t. event_line (clock past) e ++ lines_from t later) (sym (clock-next past e.client e.call e.reply)) ∙ ap (λ t. event_line (clock past) e ++ t) (same-lines (e ∷ past) later)

-- a total is what it was and one for each reply that passes
module _ (total : Totals → ℕ) (test : Reply → Bool) (grows : (r : Reply) (t : Totals) → total (counted r t) ≡ total t + one (test r)) where
  counted-all : (taken : Taken) (entries : List Entry) → total (and_taken taken entries).totals ≡ total taken.totals + replies test entries
  unfolding and_taken
  counted-all taken [] = omega arith
  counted-all taken (e ∷ later) = omega (arith, counted-all (and_one e taken) later, grows e.reply taken.totals, sum_by-cons (λ (x : Entry). cond (test x.reply) 1 0) e later)

same-totals : (entries : List Entry) → (and_taken none_taken entries).totals ≡ totals_of entries
unfolding totals_of
same-totals entries =
    let t = (and_taken none_taken entries).totals in
    let hits : t.hits ≡ replies is_hit entries = omega (arith, counted-all (λ t. t.hits) is_hit (λ r t. refl) none_taken entries) in
    let faults : t.faults ≡ replies is_fault entries = omega (arith, counted-all (λ t. t.faults) is_fault (λ r t. refl) none_taken entries) in
    let evictions : t.evictions ≡ replies is_eviction entries = omega (arith, counted-all (λ t. t.evictions) is_eviction (λ r t. refl) none_taken entries) in
    let writes : t.writes ≡ replies is_write entries = omega (arith, counted-all (λ t. t.writes) is_write (λ r t. refl) none_taken entries) in
    let failed : t.failed ≡ replies is_failure entries = omega (arith, counted-all (λ t. t.failed) is_failure (λ r t. refl) none_taken entries) in
    let refused : t.refused ≡ replies is_refusal entries = omega (arith, counted-all (λ t. t.refused) is_refusal (λ r t. refl) none_taken entries) in
    let discards : t.discards ≡ replies is_discarded entries = omega (arith, counted-all (λ t. t.discards) is_discarded (λ r t. refl) none_taken entries) in
    let found : t ≡ record { hits = replies is_hit entries; faults = replies is_fault entries; evictions = replies is_eviction entries; writes = replies is_write entries; failed = replies is_failure entries; refused = replies is_refusal entries; discards = replies is_discarded entries } =
    λ i. record { hits = hits i; faults = faults i; evictions = evictions i; writes = writes i; failed = failed i; refused = refused i; discards = discards i } in
    found

pub pieces-report : (pieces : List (List Entry)) → text_of_pieces none_taken pieces ≡ report_text (joined pieces)
pieces-report pieces =
    whole-text none_taken pieces
    ∙ ap (λ t. t ++ totals_text (and_taken none_taken (joined pieces)).totals) (same-lines [] (joined pieces))
    ∙ ap (λ t. lines_after [] (joined pieces) ++ totals_text t) (same-totals (joined pieces))
