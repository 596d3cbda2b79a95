-- The pages that are gone over for the victim, and for a purge.
use Rattle.std.proofs.Common.{◌≡◌, ℕ, zero, suc, ◌+◌, ◌-◌, ◌<◌, ◌≤◌, Bool, true, false, ◌||◌, ◌==◌, List, [], ◌∷◌, length, take, get_or, reverse, Option, Some, None, refl, sym, ap, subst, ◌∙◌, inl, inr, arith}
use Rattle.std.specs.Prelude.{◌⊎◌}
use Rattle.std.specs.declared.vec.Vec.{Vec}
use Rattle.std.proofs.lemmas.Bool.{eqb-true, true≢false, lt-ltb, ltb-true}
use Rattle.std.proofs.lemmas.Bool.Decides.{nat_tests}
use Rattle.std.proofs.lemmas.List.{take_more, take_all}
use Rattle.bp_references.specs.Burst.{Reference, bursts}
use Rattle.bp_references.specs.Numbers.{count_below}
use Rattle.bp_replacer.proofs.PurgeLaws.{count_below_same}
use Rattle.bp_references.specs.Stamp.{stamp, burst_stamp}
use Rattle.bp_trail.specs.Parameters.{Parameters}
use Rattle.bp_trail.specs.Trail.{Trail}
use Rattle.bp_trail.specs.Lists.{some}
use Rattle.bp_trail.specs.Event.{Grant}
use Rattle.bp_trail.specs.Clock.{clock}
use Rattle.bp_trail.specs.Passes.{reads_out}
use Rattle.bp_trail.specs.Places.{residents, resident}
use Rattle.bp_trail.specs.References.{references, forgets, forgotten}
use Rattle.bp_trail.specs.Victim.{rank, before, candidate, victim, Rank as ARank}
use Rattle.bp_trail.specs.Legal.{Legal}
use Rattle.bp_trail.proofs.Lists.{member, some-append}
use Rattle.bp_trail.proofs.Ranges.{ranges}
use Rattle.bp_trail.proofs.Sentences.{candidate-decides, first-victim, victimless}
use Rattle.bp_trail.proofs.Victim.{candidate-resident}
use Rattle.bp_check.specs.declared.spans.Span.{Span}
use Rattle.bp_check.specs.declared.judge.choice.Rank.{Rank}
use Rattle.bp_check.specs.Ranks.{rank_of}
use Rattle.bp_check.specs.Spans.{spans, spans_at, outdated}
use Rattle.bp_check.specs.Seen.{AreSpans}
use Rattle.bp_check.proofs.References.{last-spans, none-spans}
use Rattle.bp_check.proofs.SpanLemmas.{spans_at-get}

pub resident-below : (c : Parameters) (past : Trail) (p : ℕ) → Legal c past → resident past p ≡ true → p < c.pages
resident-below c past p legal here = ltb-true p c.pages ((ranges c past legal).pages p here)

-- the list of a page that is read from the table
pub read-spans : {A : Type 0} (table : List (Vec Span A)) (n p : ℕ) (d : Vec Span A) (xs : List Span) → n ≡ p → p < length table → xs ≡ (get_or table n d).items → reverse xs ≡ spans_at table p
read-spans table n p d xs is below read = ap reverse (read ∙ ap (λ k. (get_or table k d).items) is) ∙ sym (spans_at-get table p d below)

-- the K-th stamp
pub stamp-at : (k c : ℕ) (refs : List Reference) → 1 ≤ k → burst_stamp (bursts c refs) (k - 1) ≡ stamp k c k refs
stamp-at zero c refs some = absurd (omega arith)
stamp-at (suc place) c refs some =
    let same : suc place - 1 ≡ place = omega arith in
    rw (same, lt-ltb place (suc place) (omega arith)) refl

-- ---- a purge

pub outdated-forgets : (c : Parameters) (past : Trail) (now p : ℕ) (pages : List ℕ) (reads : List Grant) (known : List Reference) → now ≡ clock past → pages ≡ residents past → reads ≡ reads_out past
    → outdated c.retained now pages reads p (spans c.correlated known) ≡ forgets c past p known
outdated-forgets c past now p pages reads known time here loading =
    rw (time, here, loading, none-spans c.correlated known, last-spans c.correlated known) refl

pub counts-forgotten : {A : Type 0} (c : Parameters) (past : Trail) (now : ℕ) (pages : List ℕ) (reads : List Grant) (table : List (Vec Span A)) → now ≡ clock past → pages ≡ residents past → reads ≡ reads_out past → length table ≡ c.pages → AreSpans c past table
    → count_below (λ p. outdated c.retained now pages reads p (spans_at table p)) (length table) ≡ forgotten c past
counts-forgotten c past now pages reads table time here loading whole are =
    ap (count_below (λ p. outdated c.retained now pages reads p (spans_at table p))) whole
    ∙ count_below_same (λ p. forgets c past p (references c past p)) (λ p. outdated c.retained now pages reads p (spans_at table p)) c.pages
    (λ p below. ap (outdated c.retained now pages reads p) (are p below) ∙ outdated-forgets c past now p pages reads (references c past p) time here loading)

-- ---- the victim

before-total : (a b c : ARank) → before a b ≡ false → before c b ≡ true → before a c ≡ false
before-total a b c h k = grind (arith, nat_tests)

before-itself : (a : ARank) → before a a ≡ false
before-itself a = grind (arith, nat_tests)

before-apart : (a b : ARank) → before b a ≡ false → (b.page ≡ a.page → ⊥) → before a b ≡ true
before-apart a b h k = grind (arith, nat_tests)

module _ (c : Parameters) (past : Trail) where
  -- the page comes first of the candidates among these
  pub record IsBest (pages : List ℕ) (r : Rank) : Type 0 where
    pub is : rank_of r ≡ rank c past r.page
    pub eligible : candidate c past r.page ≡ true
    pub first : (q : ℕ) → member q pages ≡ true → candidate c past q ≡ true → before (rank c past q) (rank c past r.page) ≡ false

  abbrev pub Best : List ℕ → Option Rank → Type 0
  Best pages None = (q : ℕ) → member q pages ≡ true → candidate c past q ≡ false
  Best pages (Some r) = IsBest pages r

  one_more : (pages : List ℕ) (place q : ℕ) → place < length pages → member q (take (place + 1) pages) ≡ true → (member q (take place pages) ≡ true) ⊎ (q ≡ get_or pages place 0)
  one_more pages place q below m = go (member q (take place pages)) (get_or pages place 0 == q) refl refl (sym (some-append (λ x. x == q) (take place pages) (get_or pages place 0 ∷ [])) ∙ ap (member q) (sym (take_more pages place 0 below)) ∙ m)
    where
      go : (a b : Bool) → member q (take place pages) ≡ a → (get_or pages place 0 == q) ≡ b → (a || (b || false)) ≡ true → (member q (take place pages) ≡ true) ⊎ (q ≡ get_or pages place 0)
      go true b i j k = inl i
      go false true i j k = inr (sym (eqb-true (get_or pages place 0) q j))
      go false false i j k = absurd (true≢false (sym k))

  module _ (pages : List ℕ) (place : ℕ) (below : place < length pages) where
    pub skips : (o : Option Rank) → candidate c past (get_or pages place 0) ≡ false → Best (take place pages) o → Best (take (place + 1) pages) o
    skips None not_one best = λ q m. elim (one_more pages place q below m) [ inl old ↦ best q old | inr new ↦ subst (λ x. candidate c past x ≡ false) (sym new) not_one ]
    skips (Some r) not_one best = record {
      is = best.is;
      eligible = best.eligible;
      first = λ q m k. elim (one_more pages place q below m) [ inl old ↦ best.first q old k | inr new ↦ absurd (true≢false (sym k ∙ ap (candidate c past) new ∙ not_one)) ];
    }

    pub begins : (r : Rank) → r.page ≡ get_or pages place 0 → rank_of r ≡ rank c past r.page → candidate c past r.page ≡ true → Best (take place pages) None → Best (take (place + 1) pages) (Some r)
    begins r here is eligible none = record {
      is = is;
      eligible = eligible;
      first = λ q m k. elim (one_more pages place q below m) [
        | inl old ↦ absurd (true≢false (sym k ∙ none q old))
        | inr new ↦ ap (λ x. before (rank c past x) (rank c past r.page)) (new ∙ sym here) ∙ before-itself (rank c past r.page)
      ];
    }

    pub takes : (r best : Rank) → r.page ≡ get_or pages place 0 → rank_of r ≡ rank c past r.page → candidate c past r.page ≡ true → before (rank_of r) (rank_of best) ≡ true → IsBest (take place pages) best → IsBest (take (place + 1) pages) r
    takes r best here is eligible sooner had = record {
      is = is;
      eligible = eligible;
      first = λ q m k. elim (one_more pages place q below m) [
        | inl old ↦ before-total (rank c past q) (rank c past best.page) (rank c past r.page) (had.first q old k) (subst (λ x. before x (rank c past best.page) ≡ true) is (subst (λ x. before (rank_of r) x ≡ true) had.is sooner))
        | inr new ↦ ap (λ x. before (rank c past x) (rank c past r.page)) (new ∙ sym here) ∙ before-itself (rank c past r.page)
      ];
    }

    pub keeps : (r best : Rank) → r.page ≡ get_or pages place 0 → rank_of r ≡ rank c past r.page → before (rank_of r) (rank_of best) ≡ false → IsBest (take place pages) best → IsBest (take (place + 1) pages) best
    keeps r best here is later had = record {
      is = had.is;
      eligible = had.eligible;
      first = λ q m k. elim (one_more pages place q below m) [
        | inl old ↦ had.first q old k
        | inr new ↦ ap (λ x. before (rank c past x) (rank c past best.page)) (new ∙ sym here) ∙ subst (λ x. before x (rank c past best.page) ≡ false) is (subst (λ x. before (rank_of r) x ≡ false) had.is later)
      ];
    }

  among : (pages : List ℕ) (place q : ℕ) → pages ≡ residents past → length pages ≤ place → candidate c past q ≡ true → member q (take place pages) ≡ true
  among pages place q are all k = ap (member q) (take_all place pages all ∙ are) ∙ candidate-resident c past q k

  pub victim-some : (pages : List ℕ) (place : ℕ) (r : Rank) → pages ≡ residents past → length pages ≤ place → IsBest (take place pages) r → Some r.page ≡ victim c past
  victim-some pages place r are all best = sym (first-victim c past r.page record {
    eligible = (candidate-decides c past r.page).0 best.eligible;
    first = λ q k apart. let k' = (candidate-decides c past q).1 k in before-apart (rank c past r.page) (rank c past q) (best.first q (among pages place q are all k') k') apart;
  })

  pub victim-none : (pages : List ℕ) (place : ℕ) → pages ≡ residents past → length pages ≤ place → Best (take place pages) None → None ≡ victim c past
  victim-none pages place are all none = sym (victimless c past (λ q k. let k' = (candidate-decides c past q).1 k in true≢false (sym k' ∙ none q (among pages place q are all k'))))
