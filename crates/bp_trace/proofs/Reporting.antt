-- What is written of a trail: its lines and its totals, or these alone.
use Rattle.std.proofs.Common.{◌≡◌, ◌∙◌, sym, ap, subst, ℕ, Bool, true, false, cond, if◌then◌else◌, List, [], ◌++◌, reverse, Option, Result, OnOk, true≢false}
use Rattle.std.specs.Io.KnownBytes.{Appends}
use Rattle.std.proofs.lemmas.List.Sorted.{IsPermutation-reverse, sum_by-IsPermutation}
use Rattle.bp_trail.specs.declared.entries.Entry.{Entry}
use Rattle.bp_trail.specs.declared.entries.Reply.{Reply}
use Rattle.bp_trail.specs.declared.totals.Totals.{Totals}
use Rattle.bp_trail.specs.Trail.{Trail}
use Rattle.bp_trail.specs.Totals.{is_discarded, is_eviction, is_failure, is_fault, is_hit, is_refusal, is_write, replies, totals_of}
use Rattle.bp_trace.specs.Report.{lines_after, report_text}
use Rattle.bp_trace.specs.Totals.{totals_text}
use Rattle.bp_trace.proofs.Writes.{appends_then}

-- the order of the entries does not matter
pub totals-reversed : (entries : List Entry) → totals_of (reverse entries) ≡ totals_of entries
unfolding totals_of
totals-reversed entries =
    let same : (test : Reply → Bool) → replies test (reverse entries) ≡ replies test entries =
    λ test. sum_by-IsPermutation (λ (e : Entry). cond (test e.reply) 1 0) entries (reverse entries) (IsPermutation-reverse entries) in
    cc (same is_hit, same is_fault, same is_eviction, same is_write, same is_failure, same is_refusal, same is_discarded)

module _ {T E : Type 0} (r : Result T E) where
  pub written-whole : (totals : Bool) (a b c : Option (List ℕ)) (past : Trail) (lines : List ℕ) (t : Totals) → totals ≡ false → lines ≡ lines_after [] (reverse past) → t ≡ totals_of (reverse past)
      → Appends a b lines → OnOk r (Appends b c (totals_text t)) → OnOk r (Appends a c (if totals then totals_text (totals_of (reverse past)) else report_text (reverse past)))
  written-whole false a b c past lines t whole is counts p q =
      appends_then r a b c lines (totals_text t) (report_text (reverse past)) p q (ap (λ x. x ++ totals_text t) is ∙ ap (λ u. lines_after [] (reverse past) ++ totals_text u) counts)
  written-whole true a b c past lines t whole is counts p q = absurd (true≢false whole)

  pub written-totals : (totals : Bool) (a c : Option (List ℕ)) (past : Trail) (t : Totals) → totals ≡ true → t ≡ totals_of (reverse past)
      → OnOk r (Appends a c (totals_text t)) → OnOk r (Appends a c (if totals then totals_text (totals_of (reverse past)) else report_text (reverse past)))
  written-totals true a c past t alone counts q = subst (λ u. OnOk r (Appends a c (totals_text u))) counts q
  written-totals false a c past t alone counts q = absurd (true≢false (sym alone))
