-- How a column of records is read, record by record.
use Rattle.std.proofs.Common.{◌≡◌, refl, sym, ◌∙◌, ap, subst, ℕ, ◌+◌, ◌<◌, ◌≤◌, arith, inl, if◌then◌else◌, Bool, true, false, List, [], ◌∷◌, ◌++◌, length, length-append, append_assoc, map, drop, Option, Some, None, Result, Ok, Err, nat_eq, eqb-true, ◌&&◌}
use Rattle.std.proofs.lemmas.Bool.{and_parts}
use Rattle.std.proofs.lemmas.List.{map-append}
use Rattle.std.specs.Prelude.{IfSome}
use Rattle.csv.specs.Reading.{ReadRecord, Ready, reader_trim}
use Rattle.csv.specs.declared.reader.Reader.{Reader}
use Rattle.csv.specs.declared.reader.Trim.TheVariants as trim
use Rattle.bp_trace.specs.Reading.{Leaves}
use Rattle.bp_trace.proofs.CsvRecords.{takes_next, takes_none}
use Rattle.bp_sweep.specs.declared.dense.Gathered.{Gathered}
use Rattle.bp_sweep.specs.declared.faults.ReferenceFault.{ReferenceFault}
use Rattle.bp_sweep.specs.Dense.{Pages}
use Rattle.bp_sweep.specs.References.{Answers, IsOutside, Said, most_references}
use Rattle.bp_sweep.specs.Gathering.{Gathers, Holds, pages_gathered}
use Rattle.bp_sweep.specs.Column.{AnswersRows, Fields, ReadsColumn, TakesRecord, field_in, headers, is_title, record_said, rows_in}
use Rattle.bp_sweep.proofs.Gathering.{gathers-all, gathers-fault}

-- ---- the header

module _ (column : ℕ) where
  -- what is passed over as a header: nothing, or one record whose field is a title
  abbrev pub IsHeader : List Fields → Type 0
  IsHeader [] = Unit {0}
  IsHeader (row ∷ []) = is_title (field_in column row) ≡ true
  IsHeader _ = ⊥

  headers-append : (taken left : List Fields) → headers column taken ≡ 0 → (taken ≡ [] → headers column left ≡ 0) → headers column (taken ++ left) ≡ 0
  headers-append [] left none begins = begins refl
  headers-append (row ∷ taken) left none begins = none

  -- a record that is no title begins no list with a header
  headers-none : (row : Fields) (later : List Fields) → is_title (field_in column row) ≡ false → headers column (row ∷ later) ≡ 0
  headers-none row later is = ap (λ b. if b then 1 else 0) is

  -- what is answered of all is answered of those after the header
  with-header : (rows header all : List Fields) (r : Result Pages ReferenceFault) → rows ≡ header ++ all → IsHeader header → (header ≡ [] → headers column all ≡ 0)
      → Answers (length header + 1) (map (record_said column) all) r → AnswersRows column rows r
  with-header rows [] all r is is_header none answers =
      subst (λ rs. AnswersRows column rs r) (sym is) (subst (λ h. Answers (h + 1) (map (record_said column) (drop h all)) r) (sym (none refl)) answers)
  with-header rows (row ∷ []) all r is is_header none answers =
      subst (λ rs. AnswersRows column rs r) (sym is)
      (subst (λ (b : Bool). Answers ((if b then 1 else 0) + 1) (map (record_said column) (drop (if b then 1 else 0) (row ∷ all))) r) (sym is_header) answers)
  with-header rows (row ∷ other ∷ more) all r is is_header none answers = absurd is_header

  header-short : (header : List Fields) → IsHeader header → length header < 2
  header-short [] is = omega arith
  header-short (row ∷ []) is = omega arith
  header-short (row ∷ other ∷ more) is = absurd is

-- ---- reading

module _ {R : Type 0} (rem : R → Option (List ℕ)) (column : ℕ) where
  -- the records that are left come after the header and those that were taken
  pub record Lasts (reader : Reader R) (header taken : List Fields) (bytes : List ℕ) : Type 0 where
    pub left : List Fields
    pub leaves : Leaves rem reader left
    pub split : rows_in bytes ≡ header ++ (taken ++ left)

  -- these numbers came in, and the record with this number is next
  pub record Reading (known : Option (List ℕ)) (reader : Reader R) (line : ℕ) (g : Gathered) : Type 0 where
    pub numbers : List ℕ
    pub seen : List ℕ
    pub header : List Fields
    pub taken : List Fields
    pub holds : Holds g numbers seen
    pub is_header : IsHeader column header
    pub begins : header ≡ [] → headers column taken ≡ 0
    pub said : map (record_said column) taken ≡ map Ok numbers
    pub count : length taken ≡ length numbers
    pub line_is : line ≡ (length header + 1) + length numbers
    pub plain : reader_trim reader ≡ trim.None
    pub ready : Ready reader
    pub lasts : (bytes : List ℕ) → known ≡ Some bytes → Lasts reader header taken bytes

  -- a record was taken of those that were left
  took : (old new : Reader R) (header taken : List Fields) (bytes : List ℕ) (row : Fields) → Lasts old header taken bytes → ReadRecord rem old new true row
      → (later : List Fields) × Leaves rem new later × (rows_in bytes ≡ header ++ (taken ++ row ∷ later))
  took old new header taken bytes row l read =
      let took = takes_next rem old new row l.left l.leaves read in
      (took.rest, took.leaves, l.split ∙ ap (λ rs. header ++ (taken ++ rs)) took.split)

  -- the first record of all is next
  is-first : (line : ℕ) (header taken : List Fields) (numbers : List ℕ) → length taken ≡ length numbers → line ≡ (length header + 1) + length numbers → header ≡ [] → taken ≡ [] → line ≡ 1
  is-first line header taken numbers count at none none_taken =
      let a : length header ≡ 0 = ap length none in let b : length taken ≡ 0 = ap length none_taken in omega (arith, count, at, a, b)

  pub reading-next : (known : Option (List ℕ)) (old new : Reader R) (line : ℕ) (said : Said) (row : Fields) (g after : Gathered) → Reading known old line g → TakesRecord rem old new column row (Some said)
      → reader_trim new ≡ trim.None → Ready new → (line ≡ 1 → is_title (field_in column row) ≡ false)
      → ((numbers seen : List ℕ) → Holds g numbers seen → Gathers numbers seen line said (Ok tt) after) → Reading known new (line + 1) after
  reading-next known old new line said row g after r (read, says) plain ready no_title gathers =
      let (n, newer, is, holds) = gathers r.numbers r.seen r.holds in
      record {
        numbers = r.numbers ++ n ∷ [];
        seen = newer;
        header = r.header;
        taken = r.taken ++ row ∷ [];
        holds = holds;
        is_header = r.is_header;
        begins = λ none. headers-append column r.taken (row ∷ []) (r.begins none)
            (λ none_taken. headers-none column row [] (no_title (is-first line r.header r.taken r.numbers r.count r.line_is none none_taken)));
        said = map-append (record_said column) r.taken (row ∷ [])
            ∙ ap (λ all. all ++ record_said column row ∷ []) r.said
            ∙ ap (λ s. map Ok r.numbers ++ s ∷ []) (sym says ∙ is)
            ∙ sym (map-append Ok r.numbers (n ∷ []));
        count = omega (arith, r.count, length-append r.taken (row ∷ []), length-append r.numbers (n ∷ []));
        line_is = omega (arith, r.line_is, length-append r.numbers (n ∷ []));
        plain = plain;
        ready = ready;
        lasts = λ bytes known_is.
            let (later, leaves, split) = took old new r.header r.taken bytes row (r.lasts bytes known_is) read in
            record { left = later; leaves = leaves; split = split ∙ ap (λ all. r.header ++ all) (sym (append_assoc r.taken (row ∷ []) later)) };
      }

  -- the first record is a header
  pub reading-header : (known : Option (List ℕ)) (old new : Reader R) (line : ℕ) (said : Said) (row : Fields) (g : Gathered) → Reading known old line g → TakesRecord rem old new column row (Some said)
      → reader_trim new ≡ trim.None → Ready new → line ≡ 1 → is_title (field_in column row) ≡ true → Reading known new (line + 1) g
  reading-header known old new line said row g r (read, says) plain ready first title = go r.header r.taken r.numbers r.holds r.count r.line_is r.lasts
    where
      go : (header taken : List Fields) (numbers : List ℕ) → Holds g numbers r.seen → length taken ≡ length numbers → line ≡ (length header + 1) + length numbers
          → ((bytes : List ℕ) → known ≡ Some bytes → Lasts old header taken bytes) → Reading known new (line + 1) g
      go (h ∷ header) taken numbers holds count at lasts = absurd (omega (arith, at, first))
      go [] (t ∷ taken) numbers holds count at lasts = absurd (omega (arith, at, first, count))
      go [] [] (n ∷ numbers) holds count at lasts = absurd (omega (arith, at, first))
      go [] [] [] holds count at lasts = record {
        numbers = [];
        seen = r.seen;
        header = row ∷ [];
        taken = [];
        holds = holds;
        is_header = title;
        begins = λ none. refl;
        said = refl;
        count = refl;
        line_is = omega (arith, first);
        plain = plain;
        ready = ready;
        lasts = λ bytes known_is.
            let (later, leaves, split) = took old new [] [] bytes row (lasts bytes known_is) read in
            record { left = later; leaves = leaves; split = split };
      }

  pub reading-end : (known : Option (List ℕ)) (old new : Reader R) (line : ℕ) (row : Fields) (g : Gathered) → Reading known old line g → TakesRecord rem old new column row None → IfSome known (ReadsColumn (Ok (pages_gathered g)) column)
  reading-end None old new line row g r takes = tt
  reading-end (Some bytes) old new line row g r (fields, read) =
      let l = r.lasts bytes refl in
      with-header column (rows_in bytes) r.header (r.taken ++ []) (Ok (pages_gathered g))
      (l.split ∙ ap (λ rs. r.header ++ (r.taken ++ rs)) (takes_none rem old new fields l.left l.leaves read))
      r.is_header (λ none. headers-append column r.taken [] (r.begins none) (λ _. refl))
      (gathers-all (length r.header + 1) (map (record_said column) (r.taken ++ [])) g r.numbers r.seen r.holds
      (map-append (record_said column) r.taken [] ∙ ap (λ all. all ++ []) r.said))

  pub reading-fault : (known : Option (List ℕ)) (old new : Reader R) (line : ℕ) (said : Said) (row : Fields) (g after : Gathered) (fault : ReferenceFault) → Reading known old line g → TakesRecord rem old new column row (Some said)
      → (line ≡ 1 → is_title (field_in column row) ≡ false) → ((numbers seen : List ℕ) → Holds g numbers seen → Gathers numbers seen line said (Err fault) after) → IfSome known (ReadsColumn (Err fault) column)
  reading-fault None old new line said row g after fault r takes no_title gathers = tt
  reading-fault (Some bytes) old new line said row g after fault r (read, says) no_title gathers =
      let (later, leaves, split) = took old new r.header r.taken bytes row (r.lasts bytes refl) read in
      with-header column (rows_in bytes) r.header (r.taken ++ row ∷ later) (Err fault) split r.is_header
      (λ none. headers-append column r.taken (row ∷ later) (r.begins none)
      (λ none_taken. headers-none column row later (no_title (is-first line r.header r.taken r.numbers r.count r.line_is none none_taken))))
      (gathers-fault (length r.header + 1) line (map (record_said column) (r.taken ++ row ∷ later)) (map (record_said column) later) said g after r.numbers r.seen fault r.holds
      (map-append (record_said column) r.taken (row ∷ later) ∙ ap (λ all. all ++ record_said column row ∷ map (record_said column) later) r.said ∙ ap (λ s. map Ok r.numbers ++ s ∷ map (record_said column) later) (sym says))
      r.line_is (gathers r.numbers r.seen r.holds))

  pub reading-outside : (known : Option (List ℕ)) (fault : ReferenceFault) → IsOutside fault → IfSome known (ReadsColumn (Err fault) column)
  reading-outside None fault outside = tt
  reading-outside (Some bytes) fault outside = inl outside

  pub reading-gathered : (known : Option (List ℕ)) (reader : Reader R) (line : ℕ) (g : Gathered) → Reading known reader line g → (numbers : List ℕ) × (seen : List ℕ) × Holds g numbers seen
  reading-gathered known reader line g r = (r.numbers, r.seen, r.holds)

  -- the records read so far have a bound
  pub reading-few : (known : Option (List ℕ)) (reader : Reader R) (line : ℕ) (g : Gathered) → Reading known reader line g → line ≤ most_references + 2
  reading-few known reader line g r = omega (arith, r.line_is, r.holds.few, header-short column r.header r.is_header)

  -- it trims no field, as before
  pub takes-plain : (old new : Reader R) (row : Fields) (found : Option Said) → TakesRecord rem old new column row found → reader_trim old ≡ trim.None → reader_trim new ≡ trim.None
  takes-plain old new row None (fields, read) plain = read.3 ∙ plain
  takes-plain old new row (Some said) (read, is) plain = read.3 ∙ plain

-- ---- which record is a header

pub no-header : (line : ℕ) (title is_header : Bool) → is_header ≡ (nat_eq line 1 && title) → is_header ≡ false → line ≡ 1 → title ≡ false
no-header line title is_header is none first = sym (sym none ∙ is ∙ ap (λ n. nat_eq n 1 && title) first)

pub header-line : (line : ℕ) (title is_header : Bool) → is_header ≡ (nat_eq line 1 && title) → is_header ≡ true → line ≡ 1
header-line line title is_header is there = eqb-true line 1 (and_parts (nat_eq line 1) title (sym is ∙ there)).0

pub header-title : (line : ℕ) (title is_header : Bool) → is_header ≡ (nat_eq line 1 && title) → is_header ≡ true → title ≡ true
header-title line title is_header is there = (and_parts (nat_eq line 1) title (sym is ∙ there)).1
