-- A row that is written reads back.
use Rattle.std.proofs.Common.{◌≡◌, refl, subst, ℕ, ◌+◌, ◌<◌, ◌≤◌, ◌^◌, nat_lt, nat_le, arith, List, [], ◌∷◌, true, false, Some, Ok, length, map}
use Rattle.std.specs.Prelude.{All, codes}
use Rattle.std.specs.Fmt.{decimal}
use Rattle.std.proofs.lemmas.Bool.{eq-eqb, le-leb, le-ltb, lt-ltb}
use Rattle.std.proofs.lemmas.Fmt.{decimal_nonempty, digits_decimal, digits_value-decimal, length-decimal-le}
use Rattle.std.proofs.lemmas.List.Elements.{All-head, All-tail}
use Rattle.hex.specs.Hex.{IsBytes, encode_lower}
use Rattle.hex.proofs.HexLemmas.{decode_of-encode_lower}
use Rattle.bp_page.specs.declared.limits.Geometry.{Geometry}
use Rattle.bp_scripts.specs.declared.rows.Row.{Row}
use Rattle.bp_scripts.specs.declared.rows.Step.{Step}
use Rattle.bp_scripts.specs.declared.rows.Step.TheVariants as step
use Rattle.bp_trail.specs.Parameters.{Parameters}
use Rattle.bp_scripts.specs.Fits.{StepFits}
use Rattle.bp_trace.specs.Numbers.{digits_in, number_in}
use Rattle.bp_trace.specs.Fields.{most_client, page_in, six_of}
use Rattle.bp_trace.specs.Record.{op_in, row_in, step_in, texts_row, write_in}
use Rattle.bp_trace.specs.Script.{most_rows, script_from}
use Rattle.bp_trace.specs.InRange.{AreNumberedFrom, CanBeSaid, IsInRange, SpeaksForLog}
use Rattle.bp_trace.specs.Written.{written_row, written_step}
use Rattle.bp_trace.proofs.Digits.{numerals}

pub number_in-decimal : (n : ℕ) → n ≤ 2 ^ 62 → number_in (decimal n) ≡ Some n
unfolding number_in digits_in
number_in-decimal n h =
    let fits : n < 2 ^ 64 = omega arith in
    let some = le-leb 1 (length (decimal n)) (decimal_nonempty n fits) in
    let few = le-leb (length (decimal n)) 19 (length-decimal-le 19 n (omega arith) (omega arith) fits) in
    let within = le-leb n (2 ^ 62) h in
    rw (some, few, digits_decimal numerals n fits, digits_value-decimal numerals n fits, within) refl

-- the page of a geometry is small enough to be said
page-said : (g : Geometry) (page : ℕ) → page < g.pages → page ≤ 2 ^ 62
page-said g page h = let few = g.in_limits.few_pages in omega arith

offset-said : (g : Geometry) (offset count : ℕ) → offset + count ≤ g.size → offset ≤ 2 ^ 62
offset-said g offset count h = let small = g.in_limits.small in omega arith

page_in-decimal : (g : Geometry) (page : ℕ) → page < g.pages → page_in g (decimal page) ≡ Ok page
unfolding page_in
page_in-decimal g page h = rw (number_in-decimal page (page-said g page h), lt-ltb page g.pages h) refl

write_in-written : (g : Geometry) (client page offset : ℕ) (bytes : List ℕ) (lsn : ℕ) → page < g.pages → offset + length bytes ≤ g.size → IsBytes bytes → lsn ≤ 2 ^ 62
    → write_in g (record { client = decimal client; op = codes "write"; number = decimal page; offset = decimal offset; bytes = encode_lower bytes; lsn = decimal lsn })
    ≡ Ok (step.Write page offset bytes lsn)
unfolding write_in
write_in-written g client page offset bytes lsn in_file in_page are_bytes said =
    rw (
      number_in-decimal page (page-said g page in_file),
      number_in-decimal offset (offset-said g offset (length bytes) in_page),
      number_in-decimal lsn said,
      decode_of-encode_lower bytes are_bytes,
      lt-ltb page g.pages in_file,
      le-leb (offset + length bytes) g.size in_page,
    ) refl

module _ (g : Geometry) (c : Parameters) (pages : c.pages ≡ g.pages) (size : c.size ≡ g.size) (n client : ℕ) (few : client ≤ most_client) where
  said : number_in (decimal client) ≡ Some client
  said = number_in-decimal client (omega arith)

  small : nat_le client most_client ≡ true
  small = le-leb client most_client few

  pub step-reads_back : (s : Step) → SpeaksForLog client s → StepFits c s → CanBeSaid s
      → row_in g n (decimal client ∷ written_step s) ≡ Ok (record { row = n; client = client; step = s })
  unfolding row_in six_of texts_row op_in step_in
  step-reads_back (step.Fix page) own fits number = rw (said, small, page_in-decimal g page (rw pages at fits)) refl
  step-reads_back (step.Unfix page) own fits number = rw (said, small, page_in-decimal g page (rw pages at fits)) refl
  step-reads_back (step.Read page) own fits number = rw (said, small, page_in-decimal g page (rw pages at fits)) refl
  step-reads_back (step.Flush page) own fits number = rw (said, small, page_in-decimal g page (rw pages at fits)) refl
  step-reads_back (step.Discard page) own fits number = rw (said, small, page_in-decimal g page (rw pages at fits)) refl
  step-reads_back (step.Write page offset bytes lsn) own fits number =
      rw (said, small, write_in-written g client page offset bytes lsn (rw pages at fits.0) (rw size at fits.1) number.0 number.1) refl
  step-reads_back (step.Tick steps) own fits number = rw (said, small, number_in-decimal steps number) refl
  step-reads_back (step.Log lsn) own fits number = rw (said, small, eq-eqb client 0 own, number_in-decimal lsn number) refl
  step-reads_back step.Purge own fits number = rw (said, small) refl

-- a row that is in range reads back from the fields that it is written in
pub row-reads_back : (g : Geometry) (row : Row) → IsInRange g row → row_in g row.row (written_row row) ≡ Ok row
row-reads_back g row h =
    let c : Parameters = record { frames = 0; k = 0; correlated = 0; retained = 0; pages = g.pages; size = g.size; clients = row.client + 1; room = 0 } in
    let fits = h.fits c refl refl (omega arith) in
    step-reads_back g c refl refl row.row row.client h.client row.step h.log fits.step_fits h.said

pub rows-read_back : (g : Geometry) (n : ℕ) (rows : List Row) → n + length rows ≤ most_rows + 1 → AreNumberedFrom n rows → All (IsInRange g) rows
    → script_from g n (map written_row rows) ≡ Ok rows
unfolding script_from
rows-read_back g n [] few numbered in_range = refl
rows-read_back g n (row ∷ rest) few numbered in_range =
    let within : nat_lt most_rows n ≡ false = le-ltb most_rows n (omega arith) in
    let first = subst (λ k. row_in g k (written_row row) ≡ Ok row) numbered.0 (row-reads_back g row (All-head (IsInRange g) row rest in_range)) in
    let later = rows-read_back g (n + 1) rest (omega arith) numbered.1 (All-tail (IsInRange g) row rest in_range) in
    rw (within, first, later) refl
