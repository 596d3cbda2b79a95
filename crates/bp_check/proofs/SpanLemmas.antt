-- Spans of bursts, and tables of them.
use Rattle.std.proofs.Common.{◌≡◌, ◌≢◌, ℕ, zero, suc, ◌+◌, ◌-◌, ◌<◌, ◌≤◌, Bool, true, false, not, List, [], ◌∷◌, ◌++◌, All, length, map, take, set, get_or, reverse, refl, sym, ap, subst, ◌∙◌, add-one, below_more, arith}
use Rattle.std.specs.Prelude.{if◌then◌else◌}
use Rattle.std.specs.declared.vec.Vec.{Vec}
use Rattle.std.proofs.lemmas.Bool.{lt-ltb, le-ltb}
use Rattle.std.proofs.lemmas.List.{take_more, take_all, take_more_set, length-reverse, length-map, length-set, get_or-map, get_or_read, get_or-set_same, get_or-set_other, map-set}
use Rattle.std.proofs.lemmas.List.Elements.{All-head, All-tail}
use Rattle.bp_references.specs.Burst.{Burst, first_time, width, is_opened_by_hit}
use Rattle.bp_references.specs.Stamp.{burst_at, counted_widths, burst_stamp}
use Rattle.bp_trail.proofs.Counting.{reverse-push}
use Rattle.bp_check.specs.declared.spans.Span.{Span}
use Rattle.bp_check.specs.Spans.{span, with_reference, spans_at}

-- ---- one page's list

as_many : (all : List Burst) (known : List Span) → reverse known ≡ map span all → length all ≡ length known
as_many all known is = sym (length-map all span) ∙ ap length (sym is) ∙ length-reverse known

-- the span that is read is that of the burst
pub span-read : (all : List Burst) (known : List Span) (place : ℕ) (x : Span) → reverse known ≡ map span all → place < length known → ((d : Span) → x ≡ get_or (reverse known) place d) → x ≡ span (burst_at all place)
span-read all known place x is below read =
    let within : place < length all = subst (λ n. place < n) (sym (as_many all known is)) below in
    read x ∙ ap (λ (ss : List Span). get_or ss place x) is ∙ get_or-map span all place [] x within

counted-step : (all : List Burst) (newer : ℕ) → counted_widths all (newer + 1) ≡ counted_widths all newer + (if is_opened_by_hit (burst_at all newer) then width (burst_at all (newer + 1)) else 0)
counted-step all newer = rw add-one refl

pub counted-more : (all : List Burst) (newer : ℕ) (x y : Span) → x ≡ span (burst_at all newer) → x.by_hit ≡ true → y ≡ span (burst_at all (newer + 1)) → counted_widths all newer + (y.last - y.first) ≡ counted_widths all (newer + 1)
counted-more all newer x y is hit after =
    let opened : is_opened_by_hit (burst_at all newer) ≡ true = ap (λ (s : Span). s.by_hit) (sym is) ∙ hit in
    ap (λ (s : Span). counted_widths all newer + (s.last - s.first)) after
    ∙ ap (λ b. counted_widths all newer + (if b then width (burst_at all (newer + 1)) else 0)) (sym opened)
    ∙ sym (counted-step all newer)

pub counted-same : (all : List Burst) (newer : ℕ) (x : Span) → x ≡ span (burst_at all newer) → x.by_hit ≡ false → counted_widths all newer ≡ counted_widths all (newer + 1)
counted-same all newer x is fault =
    let opened : is_opened_by_hit (burst_at all newer) ≡ false = ap (λ (s : Span). s.by_hit) (sym is) ∙ fault in
    let none : counted_widths all newer ≡ counted_widths all newer + 0 = omega arith in
    none ∙ ap (λ b. counted_widths all newer + (if b then width (burst_at all (newer + 1)) else 0)) (sym opened) ∙ sym (counted-step all newer)

pub stamp-there : (all : List Burst) (known : List Span) (place counted : ℕ) (x : Span) → reverse known ≡ map span all → place < length known → ((d : Span) → x ≡ get_or (reverse known) place d) → counted ≡ counted_widths all place
    → x.first + counted ≡ burst_stamp all place
stamp-there all known place counted x is below read counts =
    let within : place < length all = subst (λ n. place < n) (sym (as_many all known is)) below in
    ap (λ (s : Span). s.first + counted) (span-read all known place x is below read)
    ∙ ap (λ n. first_time (burst_at all place) + n) counts
    ∙ sym (ap (λ b. if b then first_time (burst_at all place) + counted_widths all place else 0) (lt-ltb place (length all) within))

pub stamp-absent : (all : List Burst) (known : List Span) (place : ℕ) → reverse known ≡ map span all → length known ≤ place → 0 ≡ burst_stamp all place
stamp-absent all known place is past =
    let beyond : length all ≤ place = subst (λ n. n ≤ place) (sym (as_many all known is)) past in
    sym (ap (λ b. if b then first_time (burst_at all place) + counted_widths all place else 0) (le-ltb place (length all) beyond))

-- a reference in the newest burst
pub refer-newest : (known : List Span) (n correlated now : ℕ) (y z x : Span) → n + 1 ≡ length known → y ≡ get_or known n y → z ≡ get_or known n z → now - y.last ≤ correlated → x ≡ record { first = z.first; last = now; by_hit = z.by_hit }
    → reverse (set known n x) ≡ with_reference correlated true now (reverse known)
refer-newest known n correlated now y z x count read again soon is =
    let within : n < length known = omega arith in
    let same : z ≡ y = again ∙ sym (get_or_read known n y within read z) in
    let whole : known ≡ take n known ++ y ∷ [] = sym (take_all (n + 1) known (omega arith)) ∙ take_more known n y within ∙ ap (λ (s : Span). take n known ++ s ∷ []) (sym read) in
    let changed : set known n x ≡ take n known ++ x ∷ [] = sym (take_all (n + 1) (set known n x) (omega (arith, length-set known n x))) ∙ take_more_set known n x within in
    let older : List Span = reverse (take n known) in
    ap reverse changed ∙ reverse-push (take n known) x ∙ ap (λ (s : Span). s ∷ older) (is ∙ ap (λ (s : Span). record { first = s.first; last = now; by_hit = s.by_hit }) same)
    ∙ sym (ap (with_reference correlated true now) (ap reverse whole ∙ reverse-push (take n known) y) ∙ ap (λ b. if not b then record y { last = now } ∷ older else record { first = now; last = now; by_hit = true } ∷ y ∷ older) (le-ltb correlated (now - y.last) soon))

-- ---- the table

module _ {A : Type 0} where
  pub spans_at-same : (table : List (Vec Span A)) (at : ℕ) (v : Vec Span A) → at < length table → spans_at (set table at v) at ≡ reverse v.items
  spans_at-same table at v below =
      let below-lists : at < length (map (λ (v : Vec Span A). v.items) table) = subst (λ n. at < n) (sym (length-map table (λ (v : Vec Span A). v.items))) below in
      ap (λ (ls : List (List Span)). reverse (get_or ls at [])) (map-set (λ (v : Vec Span A). v.items) table at v) ∙ ap reverse (get_or-set_same (map (λ (v : Vec Span A). v.items) table) at v.items [] below-lists)

  pub spans_at-other : (table : List (Vec Span A)) (at p : ℕ) (v : Vec Span A) → p ≢ at → spans_at (set table at v) p ≡ spans_at table p
  spans_at-other table at p v apart =
      ap (λ (ls : List (List Span)). reverse (get_or ls p [])) (map-set (λ (v : Vec Span A). v.items) table at v) ∙ ap reverse (get_or-set_other (map (λ (v : Vec Span A). v.items) table) at p v.items [] apart)

  pub spans_at-read : (table : List (Vec Span A)) (at : ℕ) (v : Vec Span A) → at < length table → v ≡ get_or table at v → spans_at table at ≡ reverse v.items
  spans_at-read table at v below read = ap reverse (get_or-map (λ (v : Vec Span A). v.items) table at v [] below ∙ ap (λ (v : Vec Span A). v.items) (sym read))

  pub spans_at-get : (table : List (Vec Span A)) (at : ℕ) (d : Vec Span A) → at < length table → spans_at table at ≡ reverse (get_or table at d).items
  spans_at-get table at d below = ap reverse (get_or-map (λ (v : Vec Span A). v.items) table at d [] below)

  pub none_at : (table : List (Vec Span A)) → All (λ v. v.items ≡ []) table → (p : ℕ) → spans_at table p ≡ []
  none_at [] empty p = refl
  none_at (v ∷ table) empty zero = ap reverse (All-head (λ v. v.items ≡ []) v table empty)
  none_at (v ∷ table) empty (suc p) = none_at table (All-tail (λ v. v.items ≡ []) v table empty) p

  -- the pages below this one are gone over: those that pass the test were left without spans
  module _ (test : ℕ → List Span → Bool) (first : List (Vec Span A)) where
    pub record AreDone (table : List (Vec Span A)) (at : ℕ) : Type 0 where
      pub length_is : length table ≡ length first
      pub done : (p : ℕ) → p < at → spans_at table p ≡ (if test p (spans_at first p) then [] else spans_at first p)
      pub left : (p : ℕ) → at ≤ p → spans_at table p ≡ spans_at first p

    done-more : (table after : List (Vec Span A)) (at : ℕ) → AreDone table at → length after ≡ length table → ((p : ℕ) → p ≢ at → spans_at after p ≡ spans_at table p)
        → spans_at after at ≡ (if test at (spans_at first at) then [] else spans_at first at) → AreDone after (at + 1)
    done-more table after at so_far same others here = record {
      length_is = same ∙ so_far.length_is;
      done = below_more (λ p. spans_at after p ≡ (if test p (spans_at first p) then [] else spans_at first p)) at (λ p below. others p (λ e. absurd (omega arith)) ∙ so_far.done p below) here;
      left = λ p above. others p (λ e. absurd (omega arith)) ∙ so_far.left p (omega arith);
    }

    read-at : (table : List (Vec Span A)) (at : ℕ) (v : Vec Span A) → AreDone table at → at < length table → v ≡ get_or table at v → spans_at first at ≡ reverse v.items
    read-at table at v so_far below read = sym (so_far.left at (omega arith)) ∙ spans_at-read table at v below read

    pub done-out : (table after : List (Vec Span A)) (at : ℕ) (v w : Vec Span A) → AreDone table at → at < length table → v ≡ get_or table at v → after ≡ set table at w → w.items ≡ [] → test at (reverse v.items) ≡ true → AreDone after (at + 1)
    done-out table after at v w so_far below read is none passes =
        done-more table after at so_far (ap length is ∙ length-set table at w) (λ p apart. ap (λ t. spans_at t p) is ∙ spans_at-other table at p w apart)
        (ap (λ t. spans_at t at) is ∙ spans_at-same table at w below ∙ ap reverse none
        ∙ sym (ap (λ b. if b then [] else spans_at first at) (ap (test at) (read-at table at v so_far below read) ∙ passes)))

    pub done-kept : (table after : List (Vec Span A)) (at : ℕ) (v : Vec Span A) → AreDone table at → at < length table → v ≡ get_or table at v → after ≡ set table at v → test at (reverse v.items) ≡ false → AreDone after (at + 1)
    done-kept table after at v so_far below read is passes =
        done-more table after at so_far (ap length is ∙ length-set table at v) (λ p apart. ap (λ t. spans_at t p) is ∙ spans_at-other table at p v apart)
        (ap (λ t. spans_at t at) is ∙ spans_at-same table at v below ∙ sym (read-at table at v so_far below read)
        ∙ sym (ap (λ b. if b then [] else spans_at first at) (ap (test at) (read-at table at v so_far below read) ∙ passes)))
