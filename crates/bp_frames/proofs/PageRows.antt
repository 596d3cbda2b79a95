-- Rows of bits over rows of bits: what is found in one of them from a number on, and what a bit that changes leaves.
use Rattle.std.proofs.Common.{◌≡◌, ◌≢◌, ℕ, zero, suc, ◌+◌, ◌*◌, ◌/◌, ◌%◌, ◌^◌, ◌<◌, ◌≤◌, ◌==◌, true, false, not, List, [], ◌∷◌, ◌++◌, length, length-append, length-set, get_or, set, replicate, Option, Some, None, refl, sym, ap, ◌∙◌, inl, inr, arith}
use Rattle.std.specs.Prelude.{IfSome, IfNone, if◌then◌else◌}
use Rattle.std.proofs.lemmas.Bool.{cases_eq, cases_lt, eq-eqb, ne_eqb, true≢false}
use Rattle.std.proofs.lemmas.List.{get_or_past, get_or-set_same, get_or-set_other, get_or_push}
use Rattle.bp_trail.proofs.Counting.{get-left}
use Rattle.bp_frames.specs.PageSets.{IsNext, NoneFrom, holds, holds_any, row_at, AreSummed, AreShaped, ArePageRows}
use Rattle.bp_frames.proofs.Seating.{length-replicated}
use Rattle.bp_frames.proofs.Bits.{no-bits, none-any, past-any}

-- ---- one row and the one above it
module _ (rows : List (List ℕ)) (level : ℕ) (shaped : AreShaped rows) (summed : AreSummed rows level) (lt : level < length rows) where
  abbrev pub row : List ℕ
  row = row_at rows level

  abbrev pub above : List ℕ
  above = row_at rows (level + 1)

  none-word : (word : ℕ) → 1 ≤ word → holds above word ≡ false → holds_any row word ≡ false
  none-word word positive none = elim (cases_lt (level + 1) (length rows)) [
    | inl more ↦ sym (summed level word (omega arith) more) ∙ none
    | inr page_lsn ↦ past-any row word (let one = shaped.page_lsn level (omega (arith, lt, page_lsn)) in omega (arith, one, positive))
  ]

  some-word : (word : ℕ) → holds above word ≡ true → holds_any row word ≡ true
  some-word word some = elim (cases_lt (level + 1) (length rows)) [
    | inl more ↦ sym (summed level word (omega arith) more) ∙ some
    | inr page_lsn ↦ absurd (true≢false (sym some ∙ ap (λ r. holds r word) (get_or_past rows (level + 1) [] page_lsn) ∙ no-bits [] (word / 64) word refl refl))
  ]

  pub word-in_range : (word : ℕ) → holds above word ≡ true → word < length row
  word-in_range word some = elim (cases_lt word (length row)) [
    | inl within ↦ within
    | inr past ↦ absurd (true≢false (sym (some-word word some) ∙ past-any row word past))
  ]

  clear : (q : ℕ) → holds_any row (q / 64) ≡ false → holds row q ≡ false
  clear q none = no-bits row (q / 64) q (none-any row (q / 64) none) refl

  module _ (from : ℕ) (here : (q : ℕ) → from ≤ q → q / 64 ≡ from / 64 → holds row q ≡ false) where
    pub none-from : NoneFrom (holds above) (from / 64 + 1) → NoneFrom (holds row) from
    none-from none q le = elim (cases_eq (q / 64) (from / 64)) [
      | inl same ↦ here q le same
      | inr other ↦ (let later : from / 64 + 1 ≤ q / 64 = omega (arith, le, other) in clear q (none-word (q / 64) (omega (arith, later)) (none (q / 64) later)))
    ]

    module _ (word : ℕ) (next : IsNext (holds above) (from / 64 + 1) word) where
      pub found-from : (o : Option ℕ) → IfSome o (λ q. word * 64 ≤ q) → IfSome o (λ q. q / 64 ≡ word * 64 / 64) → IfSome o (λ q. holds row q ≡ true) → IfSome o (λ q. (r : ℕ) → word * 64 ≤ r → r < q → holds row r ≡ false) → IfSome o (IsNext (holds row) from)
      found-from None before same here_is none = tt
      found-from (Some q) before same here_is none = record {
        not_before = omega (arith, before, next.not_before);
        here = here_is;
        none_between = λ r le less. elim (cases_eq (r / 64) (from / 64)) [
          | inl own ↦ here r le own
          | inr other ↦
              let later : from / 64 + 1 ≤ r / 64 = omega (arith, le, other) in
              elim (cases_lt r (word * 64)) [
                | inl below ↦ clear r (none-word (r / 64) (omega (arith, later)) (next.none_between (r / 64) later (omega (arith, below))))
                | inr inside ↦ none r inside less
              ]
        ];
      }

      pub some-from : (P : Type 0) → (o : Option ℕ) → IfNone o (word * 64 % 64 ≡ 0 → holds_any row (word * 64 / 64) ≡ false) → IfNone o P
      some-from P (Some q) empty = tt
      some-from P None empty =
          let word_is : word * 64 / 64 ≡ word = omega arith in
          absurd (true≢false (sym (some-word word next.here) ∙ ap (holds_any row) (sym word_is) ∙ empty (omega arith)))

-- ---- a bit of a row changes
module _ (rows : List (List ℕ)) (level at : ℕ) (shaped : AreShaped rows) (summed : AreSummed rows level) (lt : level < length rows) (row' : List ℕ) (length' : length row' ≡ length (row_at rows level)) (others : (w : ℕ) → w ≢ at / 64 → holds_any row' w ≡ holds_any (row_at rows level) w) where
  abbrev pub changed : List (List ℕ)
  changed = set rows level row'

  pub row-here : row_at changed level ≡ row'
  row-here = get_or-set_same rows level row' [] lt

  pub row-other : (k : ℕ) → k ≢ level → row_at changed k ≡ row_at rows k
  row-other k other = get_or-set_other rows level k row' [] other

  pub rows-count : length changed ≡ length rows
  rows-count = length-set rows level row'

  pub row-lengths : (k : ℕ) → length (row_at changed k) ≡ length (row_at rows k)
  row-lengths k = elim (cases_eq k level) [
    | inl same ↦ ap (λ n. length (row_at changed n)) same ∙ ap length row-here ∙ length' ∙ ap (λ n. length (row_at rows n)) (sym same)
    | inr other ↦ ap length (row-other k other)
  ]

  pub still-shaped : AreShaped changed
  still-shaped = record {
    some = omega (arith, shaped.some, rows-count);
    wide = λ k more. (let was = shaped.wide k (omega (arith, more, rows-count)) in omega (arith, was, row-lengths k, row-lengths (k + 1)));
    page_lsn = λ k last. (let was = shaped.page_lsn k (omega (arith, last, rows-count)) in omega (arith, was, row-lengths k));
    few = λ k. omega (arith, shaped.few k, row-lengths k);
  }

  pub above-in_range : level + 1 < length rows → at / 64 < length (row_at rows level) → at / 64 / 64 < length (row_at changed (level + 1))
  above-in_range more within = let wide = shaped.wide level more in omega (arith, wide, within, row-lengths (level + 1))

  pub summed-above : AreSummed changed (level + 1)
  summed-above k w le more =
      ap (λ r. holds r w) (row-other (k + 1) (λ e. absurd (omega (arith, e, le)))) ∙ summed k w (omega (arith, le)) (omega (arith, more, rows-count))
      ∙ ap (λ r. holds_any r w) (sym (row-other k (λ e. absurd (omega (arith, e, le)))))

  -- and no bit of a row above
  pub summed-ended : (level + 1 < length rows → holds_any row' (at / 64) ≡ holds_any (row_at rows level) (at / 64)) → AreSummed changed level
  summed-ended same k w le more = elim (cases_eq k level) [
    | inl own ↦
        let below : level + 1 < length rows = omega (arith, more, rows-count, own) in
        ap (λ r. holds r w) (row-other (k + 1) (λ e. absurd (omega (arith, e, le)))) ∙ summed k w le (omega (arith, more, rows-count)) ∙ ap (λ n. holds_any (row_at rows n) w) own
        ∙ (elim (cases_eq w (at / 64)) [
          | inl this ↦ ap (holds_any (row_at rows level)) this ∙ sym (same below) ∙ ap (holds_any row') (sym this)
          | inr other ↦ sym (others w other)
        ])
        ∙ ap (λ r. holds_any r w) (sym row-here) ∙ ap (λ n. holds_any (row_at changed n) w) (sym own)
    | inr other ↦ summed-above k w (omega (arith, le, other)) more
  ]

  -- and so the bit of its word above
  module _ (after : List (List ℕ)) (count : length after ≡ length changed) (below : (k : ℕ) → k < level + 1 → row_at after k ≡ row_at changed k) (put : (q : ℕ) → holds (row_at after (level + 1)) q ≡ (if q == at / 64 then holds_any row' (at / 64) else holds (row_at changed (level + 1)) q)) (above-summed : AreSummed after (level + 1)) where
    pub summed-after : AreSummed after level
    summed-after k w le more = elim (cases_eq k level) [
      | inl own ↦
          let room : level + 1 < length rows = omega (arith, more, count, rows-count, own) in
          ap (λ n. holds (row_at after (n + 1)) w) own ∙ put w
          ∙ (elim (cases_eq w (at / 64)) [
            | inl this ↦ ap (λ b. if b then holds_any row' (at / 64) else holds (row_at changed (level + 1)) w) (eq-eqb w (at / 64) this) ∙ ap (holds_any row') (sym this)
            | inr other ↦
                ap (λ b. if b then holds_any row' (at / 64) else holds (row_at changed (level + 1)) w) (ne_eqb w (at / 64) other)
                ∙ ap (λ r. holds r w) (row-other (level + 1) (λ e. absurd (omega (arith, e)))) ∙ summed level w (omega arith) room ∙ sym (others w other)
          ])
          ∙ ap (λ r. holds_any r w) (sym row-here ∙ sym (below level (omega arith))) ∙ ap (λ n. holds_any (row_at after n) w) (sym own)
      | inr other ↦ above-summed k w (omega (arith, le, other)) more
    ]

-- ---- rows with no bit, from the lowest up
pub record AreBuilt (limit : ℕ) (rows : List (List ℕ)) (words : ℕ) : Type 0 where
  pub none : (level word : ℕ) → get_or (row_at rows level) word 0 ≡ 0
  pub some : 0 < length rows
  pub wide : (level : ℕ) → level + 1 < length rows → length (row_at rows level) ≤ 64 * length (row_at rows (level + 1))
  pub last : (level : ℕ) → level + 1 ≡ length rows → length (row_at rows level) ≡ words
  pub few : (level : ℕ) → length (row_at rows level) < 2 ^ 48
  pub words_few : words < 2 ^ 47
  pub within : limit ≤ 64 * length (row_at rows 0)

zeros : (n word : ℕ) → get_or {A = ℕ} (replicate n 0) word 0 ≡ 0
zeros zero word = refl
zeros (suc n) zero = refl
zeros (suc n) (suc word) = zeros n word

pub built-first : (limit : ℕ) → limit ≤ 2 ^ 32 → AreBuilt limit (replicate (limit / 64 + 1) 0 ∷ []) (limit / 64 + 1)
built-first limit le =
    let wide : length {A = ℕ} (replicate (limit / 64 + 1) 0) ≡ limit / 64 + 1 = length-replicated (limit / 64 + 1) 0 in
    record {
      none = none;
      some = omega arith;
      wide = λ level more. absurd (omega (arith, more));
      last = last wide;
      few = few wide;
      words_few = omega (arith, le);
      within = omega (arith, wide);
    }
  where
    none : (level word : ℕ) → get_or (row_at (replicate (limit / 64 + 1) 0 ∷ []) level) word 0 ≡ 0
    none zero word = zeros (limit / 64 + 1) word
    none (suc level) word = refl

    last : length {A = ℕ} (replicate (limit / 64 + 1) 0) ≡ limit / 64 + 1 → (level : ℕ) → level + 1 ≡ 1 → length (row_at (replicate (limit / 64 + 1) 0 ∷ []) level) ≡ limit / 64 + 1
    last wide zero is = wide
    last wide (suc level) is = absurd (omega (arith, is))

    few : length {A = ℕ} (replicate (limit / 64 + 1) 0) ≡ limit / 64 + 1 → (level : ℕ) → length (row_at (replicate (limit / 64 + 1) 0 ∷ []) level) < 2 ^ 48
    few wide zero = omega (arith, wide, le)
    few wide (suc level) = omega arith

module _ (limit : ℕ) (rows : List (List ℕ)) (words : ℕ) (b : AreBuilt limit rows words) where
  pub built-more : AreBuilt limit (rows ++ replicate (words / 64 + 1) 0 ∷ []) (words / 64 + 1)
  built-more = record {
    none = λ level word. elim (cases_lt level (length rows)) [
      | inl old ↦ ap (λ r. get_or r word 0) (kept level old) ∙ b.none level word
      | inr new ↦ elim (cases_eq level (length rows)) [
        | inl same ↦ ap (λ r. get_or r word 0) (get_or_push rows fresh [] level (sym same)) ∙ zeros (words / 64 + 1) word
        | inr past ↦ ap (λ r. get_or r word 0) (get_or_past more level [] (omega (arith, grown, new, past)))
      ]
    ];
    some = omega (arith, grown);
    wide = λ level lt. elim (cases_lt (level + 1) (length rows)) [
      | inl old ↦ (let was = b.wide level old in omega (arith, was, ap length (kept level (omega (arith, old))), ap length (kept (level + 1) old)))
      | inr new ↦
          let last = b.last level (omega (arith, lt, grown, new)) in
          omega (arith, last, ap length (kept level (omega (arith, lt, grown))), ap length (get_or_push rows fresh [] (level + 1) (omega (arith, lt, grown, new))), fresh-length)
    ];
    last = λ level is. ap length (get_or_push rows fresh [] level (omega (arith, is, grown))) ∙ fresh-length;
    few = λ level. elim (cases_lt level (length rows)) [
      | inl old ↦ omega (arith, b.few level, ap length (kept level old))
      | inr new ↦ elim (cases_eq level (length rows)) [
        | inl same ↦ omega (arith, ap length (get_or_push rows fresh [] level (sym same)), fresh-length, b.words_few)
        | inr past ↦ omega (arith, ap length (get_or_past more level [] (omega (arith, grown, new, past))))
      ]
    ];
    words_few = omega (arith, b.words_few);
    within = omega (arith, b.within, ap length (kept 0 b.some));
  }
    where
      fresh : List ℕ
      fresh = replicate (words / 64 + 1) 0

      more : List (List ℕ)
      more = rows ++ fresh ∷ []

      grown : length more ≡ length rows + 1
      grown = length-append rows (fresh ∷ [])

      fresh-length : length fresh ≡ words / 64 + 1
      fresh-length = length-replicated (words / 64 + 1) 0

      kept : (level : ℕ) → level < length rows → row_at more level ≡ row_at rows level
      kept level lt = get-left rows (fresh ∷ []) level [] lt

  pub built-clear : (level q : ℕ) → holds (row_at rows level) q ≡ false
  built-clear level q = no-bits (row_at rows level) (q / 64) q (b.none level (q / 64)) refl

  pub built-whole : words ≤ 1 → ArePageRows limit rows
  built-whole one = record {
    shaped = record { some = b.some; wide = b.wide; page_lsn = λ level is. omega (arith, b.last level is, one); few = b.few };
    summed = λ level word le more. built-clear (level + 1) word ∙ sym (ap (λ n. not (n == 0)) (b.none level word));
    within = b.within;
  }
