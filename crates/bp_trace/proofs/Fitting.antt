-- The rows of records are those that a trace can say.
use Rattle.std.proofs.Common.{◌≡◌, refl, sym, ap, subst, ℕ, ◌+◌, ◌<◌, ◌≤◌, ◌==◌, ◌&&◌, not, nat_lt, nat_le, arith, cond, List, [], ◌∷◌, true, false, Bool, Option, Some, None, Result, Ok, Err, length}
use Rattle.std.specs.Prelude.{All, ◌^◌}
use Rattle.std.proofs.lemmas.Bool.{ltb-true, ltb-false, leb-true, eqb-true}
use Rattle.std.proofs.lemmas.List.Elements.{All-cons}
use Rattle.bp_page.specs.declared.limits.Geometry.{Geometry}
use Rattle.bp_trace.specs.declared.faults.InputFault.{InputFault}
use Rattle.bp_trace.specs.declared.faults.InputFault.TheVariants as input_fault
use Rattle.bp_scripts.specs.declared.rows.Row.{Row}
use Rattle.bp_scripts.specs.declared.rows.Step.{Step}
use Rattle.bp_scripts.specs.declared.rows.Step.TheVariants as step
use Rattle.bp_trail.specs.Parameters.{Parameters}
use Rattle.bp_scripts.specs.Fits.{StepFits}
use Rattle.bp_trace.specs.declared.record.Op.{Op}
use Rattle.bp_trace.specs.declared.record.Op.TheVariants as op
use Rattle.bp_trace.specs.declared.faults.TraceFault.{TraceFault}
use Rattle.hex.specs.Hex.{IsBytes, decode_of}
use Rattle.hex.specs.declared.error.FromHexError.{FromHexError}
use Rattle.hex.proofs.HexLemmas.{decode_of-ok}
use Rattle.bp_trace.specs.Numbers.{at_most, digits_in, number_in}
use Rattle.bp_trace.specs.Fields.{Texts, six_of, client_of, client_in, number_wanted, bytes_of, bytes_of, bytes_wanted, or_refuse, refused_if, most_client, page_below, page_in, ◌>>=◌}
use Rattle.bp_trace.specs.Record.{op_in, is_log, has_extra, place_in, write_in, step_in, texts_row, row_in}
use Rattle.bp_trace.specs.Script.{most_rows, IsScriptOfSome, at_row, script_from}
use Rattle.bp_trace.specs.InRange.{SpeaksForLog, CanBeSaid, IsInRange, AreNumberedFrom, IsScript}

-- where a step and what follows it answer Ok, so did the step
record Goes {A B E : Type 0} (r : Result A E) (f : A → Result B E) (b : B) : Type 0 where
  value : A
  was : r ≡ Ok value
  then : f value ≡ Ok b

goes : {A B E : Type 0} (r : Result A E) (f : A → Result B E) (b : B) → (r >>= f) ≡ Ok b → Goes r f b
goes (Ok a) f b is = record { value = a; was = refl; then = is }
goes (Err e) f b is = cc

page-below : (g : Geometry) (text : List ℕ) (page : ℕ) → page_in g text ≡ Ok page → page < g.pages
unfolding page_in
page-below g text page is = let found = goes (number_wanted text) (page_below g.pages) page is in below found.value (nat_lt found.value g.pages) refl found.then
  where
    below : (n : ℕ) (b : Bool) → nat_lt n g.pages ≡ b → cond {A = Result ℕ InputFault} b (Ok n) (Err input_fault.OutOfPage) ≡ Ok page → page < g.pages
    below n true is same = let e : n ≡ page = cc in subst (λ m. m < g.pages) e (ltb-true n g.pages is)
    below n false is same = cc

number-said : (text : List ℕ) (n : ℕ) → number_wanted text ≡ Ok n → n ≤ 2 ^ 62
unfolding number_in
number-said text n is = go (nat_le 1 (length text) && nat_le (length text) 19) (digits_in text) is
  where
    within : (m : ℕ) (b : Bool) → nat_le m (2 ^ 62) ≡ b → or_refuse input_fault.BadNumber (cond {A = Option ℕ} b (Some m) None) ≡ Ok n → n ≤ 2 ^ 62
    within m true le same = let e : m ≡ n = cc in subst (λ k. k ≤ 2 ^ 62) e (leb-true m (2 ^ 62) le)
    within m false le same = cc

    go : (b : Bool) (o : Option ℕ) → or_refuse input_fault.BadNumber (cond {A = Option ℕ} b (at_most (2 ^ 62) o) None) ≡ Ok n → n ≤ 2 ^ 62
    go true (Some m) same = within m (nat_le m (2 ^ 62)) refl same
    go true None same = cc
    go false o same = cc

bytes-said : (text bytes : List ℕ) → bytes_wanted text ≡ Ok bytes → IsBytes bytes
bytes-said text bytes is = go (decode_of text) refl is
  where
    go : (r : Result (List ℕ) FromHexError) → decode_of text ≡ r → bytes_of r ≡ Ok bytes → IsBytes bytes
    go (Ok found) was same = let e : found ≡ bytes = cc in subst IsBytes e (decode_of-ok text found was).3
    go (Err e) was same = cc

-- a write that lies within a page of the file
record IsPlaced (g : Geometry) (s : Step) : Type 0 where
  page : ℕ
  offset : ℕ
  bytes : List ℕ
  lsn : ℕ
  is : step.Write page offset bytes lsn ≡ s
  of_file : page < g.pages
  of_page : offset + length bytes ≤ g.size
  said : CanBeSaid (step.Write page offset bytes lsn)

placed : (g : Geometry) (page offset : ℕ) (bytes : List ℕ) (lsn : ℕ) (s : Step) → CanBeSaid (step.Write page offset bytes lsn) → place_in g page offset bytes lsn ≡ Ok s → IsPlaced g s
placed g page offset bytes lsn s said is = go (nat_lt page g.pages) (nat_le (offset + length bytes) g.size) refl refl is
  where
    go : (a b : Bool) → nat_lt page g.pages ≡ a → nat_le (offset + length bytes) g.size ≡ b
        → cond {A = Result Step InputFault} (a && b) (Ok (step.Write page offset bytes lsn)) (Err input_fault.OutOfPage) ≡ Ok s → IsPlaced g s
    go true true of_file of_page same = record {
      page = page;
      offset = offset;
      bytes = bytes;
      lsn = lsn;
      is = cc same;
      of_file = ltb-true page g.pages of_file;
      of_page = leb-true (offset + length bytes) g.size of_page;
      said = said;
    }
    go true false of_file of_page same = cc
    go false b of_file of_page same = cc

written : (g : Geometry) (t : Texts) (s : Step) → write_in g t ≡ Ok s → IsPlaced g s
unfolding write_in
written g t s is =
    let page = goes (number_wanted t.number) (λ page. after_page page) s is in
    let offset = goes (number_wanted t.offset) (λ offset. after_offset page.value offset) s page.then in
    let lsn = goes (number_wanted t.lsn) (λ lsn. after_lsn page.value offset.value lsn) s offset.then in
    let bytes = goes (bytes_wanted t.bytes) (λ bytes. place_in g page.value offset.value bytes lsn.value) s lsn.then in
    placed g page.value offset.value bytes.value lsn.value s (bytes-said t.bytes bytes.value bytes.was, number-said t.lsn lsn.value lsn.was) bytes.then
  where
    after_lsn : ℕ → ℕ → ℕ → Result Step InputFault
    after_lsn page offset lsn = bytes_wanted t.bytes >>= (λ bytes. place_in g page offset bytes lsn)

    after_offset : ℕ → ℕ → Result Step InputFault
    after_offset page offset = number_wanted t.lsn >>= (λ lsn. after_lsn page offset lsn)

    after_page : ℕ → Result Step InputFault
    after_page page = number_wanted t.offset >>= (λ offset. after_offset page offset)

-- what is asked of a step of a client, by a pool of these parameters
abbrev Suits : Parameters → ℕ → Step → Type 0
Suits c client s = StepFits c s × SpeaksForLog client s × CanBeSaid s

module _ (g : Geometry) (c : Parameters) (pages : c.pages ≡ g.pages) (size : c.size ≡ g.size) (client : ℕ) (t : Texts) (s : Step) where
  of_page : (make : ℕ → Step) → ((page : ℕ) → page < c.pages → Suits c client (make page)) → page_in g t.number >>= (λ page. Ok (make page)) ≡ Ok s → Suits c client s
  of_page make suits is =
      let found = goes (page_in g t.number) (λ page. Ok (make page)) s is in
      let e : make found.value ≡ s = cc (found.then) in
      subst (Suits c client) e (suits found.value (subst (λ n. found.value < n) (sym pages) (page-below g t.number found.value found.was)))

  of_number : (make : ℕ → Step) → ((n : ℕ) → n ≤ 2 ^ 62 → Suits c client (make n)) → number_wanted t.number >>= (λ n. Ok (make n)) ≡ Ok s → Suits c client s
  of_number make suits is =
      let found = goes (number_wanted t.number) (λ n. Ok (make n)) s is in
      let e : make found.value ≡ s = cc (found.then) in
      subst (Suits c client) e (suits found.value (number-said t.number found.value found.was))

  of_write : IsPlaced g s → Suits c client s
  of_write p = subst (Suits c client) p.is ((subst (λ n. p.page < n) (sym pages) p.of_file, subst (λ n. p.offset + length p.bytes ≤ n) (sym size) p.of_page), tt, p.said)

  first_of_log : (own : Unit {0}) → refused_if (not (client == 0)) input_fault.BadClient ≡ Ok own → client ≡ 0
  first_of_log own is = go (client == 0) refl is
    where
      go : (b : Bool) → (client == 0) ≡ b → refused_if (not b) input_fault.BadClient ≡ Ok own → client ≡ 0
      go true e same = eqb-true client 0 e
      go false e same = cc

  pub step-suits : (o : Op) (own : Unit {0}) → refused_if (is_log o && not (client == 0)) input_fault.BadClient ≡ Ok own → step_in g o t ≡ Ok s → Suits c client s
  unfolding step_in
  step-suits op.Fix own first is = of_page step.Fix (λ page h. (h, tt, tt)) is
  step-suits op.Unfix own first is = of_page step.Unfix (λ page h. (h, tt, tt)) is
  step-suits op.Read own first is = of_page step.Read (λ page h. (h, tt, tt)) is
  step-suits op.Flush own first is = of_page step.Flush (λ page h. (h, tt, tt)) is
  step-suits op.Discard own first is = of_page step.Discard (λ page h. (h, tt, tt)) is
  step-suits op.Write own first is = of_write (written g t s is)
  step-suits op.Tick own first is = of_number step.Tick (λ n h. (tt, tt, h)) is
  step-suits op.Log own first is = let zero = first_of_log own first in of_number step.Log (λ n h. (tt, zero, h)) is
  step-suits op.Purge own first is = let e : step.Purge ≡ s = cc in subst (Suits c client) e (tt, tt, tt)

client-below : (o : Option ℕ) (n : ℕ) → client_of o ≡ Ok n → n ≤ most_client
client-below None n is = cc
client-below (Some m) n is = go (nat_le m most_client) refl is
  where
    go : (b : Bool) → nat_le m most_client ≡ b → cond {A = Result ℕ InputFault} b (Ok m) (Err input_fault.BadClient) ≡ Ok n → n ≤ most_client
    go true le same = let e : m ≡ n = cc in subst (λ k. k ≤ most_client) e (leb-true m most_client le)
    go false le same = cc

-- a row is in range, and has the number of its record
abbrev IsRow : Geometry → ℕ → Row → Type 0
IsRow g n row = IsInRange g row × (row.row ≡ n)

texts-row : (g : Geometry) (n : ℕ) (t : Texts) (row : Row) → texts_row g n t ≡ Ok row → IsRow g n row
unfolding texts_row
texts-row g n t row is =
    let client = goes (client_in t.client) (λ client. after_client client) row is in
    let o = goes (op_in t.op) (λ o. after_op client.value o) row client.then in
    let own = goes (refused_if (is_log o.value && not (client.value == 0)) input_fault.BadClient) (λ own. after_own client.value o.value) row o.then in
    let bare = goes (refused_if (has_extra o.value t) input_fault.BadShape) (λ bare. after_bare client.value o.value) row own.then in
    let s = goes (step_in g o.value t) (λ s. Ok (made client.value s)) row bare.then in
    let suits : (c : Parameters) → c.pages ≡ g.pages → c.size ≡ g.size → Suits c client.value s.value =
    λ c pages size. step-suits g c pages size client.value t s.value o.value own.value own.was s.was in
    let any : Parameters = record { frames = 0; k = 0; correlated = 0; retained = 0; pages = g.pages; size = g.size; clients = 0; room = 0 } in
    let e : made client.value s.value ≡ row = cc (s.then) in
    subst (IsRow g n) e (
      record {
        client = client-below (number_in t.client) client.value client.was;
        log = (suits any refl refl).1;
        said = (suits any refl refl).2;
        fits = λ c pages size below. record { client_in = below; step_fits = (suits c pages size).0 };
      },
      refl,
    )
  where
    made : ℕ → Step → Row
    made client s = record { row = n; client = client; step = s }

    after_bare : ℕ → Op → Result Row InputFault
    after_bare client o = step_in g o t >>= (λ s. Ok (made client s))

    after_own : ℕ → Op → Result Row InputFault
    after_own client o = refused_if (has_extra o t) input_fault.BadShape >>= (λ bare. after_bare client o)

    after_op : ℕ → Op → Result Row InputFault
    after_op client o = refused_if (is_log o && not (client == 0)) input_fault.BadClient >>= (λ own. after_own client o)

    after_client : ℕ → Result Row InputFault
    after_client client = op_in t.op >>= (λ o. after_op client o)

record-row : (g : Geometry) (n : ℕ) (fields : List (List ℕ)) (row : Row) → row_in g n fields ≡ Ok row → IsRow g n row
unfolding row_in
record-row g n fields row is = let t = goes (or_refuse input_fault.BadShape (six_of fields)) (λ t. texts_row g n t) row is in texts-row g n t.value row t.then

at_row-ok : {X : Type 0} (n : ℕ) (r : Result X InputFault) (x : X) → at_row n r ≡ Ok x → r ≡ Ok x
at_row-ok n (Ok y) x is = let same : y ≡ x = cc in ap (λ z. Ok z) same
at_row-ok n (Err e) x is = cc

-- ---- the rows of records

record AreRows (g : Geometry) (n : ℕ) (rows : List Row) : Type 0 where
  few : n ≤ most_rows + 1 → n + length rows ≤ most_rows + 1
  numbered : AreNumberedFrom n rows
  in_range : All (IsInRange g) rows

not-past : (n : ℕ) (within : Unit {0}) → at_row n (refused_if (nat_lt most_rows n) input_fault.TooLong) ≡ Ok within → n ≤ most_rows
not-past n within is = go (nat_lt most_rows n) refl is
  where
    go : (b : Bool) → nat_lt most_rows n ≡ b → at_row n (refused_if b input_fault.TooLong) ≡ Ok within → n ≤ most_rows
    go true past same = cc
    go false past same = ltb-false most_rows n past

script_from-rows : (g : Geometry) (n : ℕ) (found : List (List (List ℕ))) (rows : List Row) → script_from g n found ≡ Ok rows → AreRows g n rows
unfolding script_from
script_from-rows g n [] rows is =
    let e : [] ≡ rows = cc in
    subst (AreRows g n) e (record { few = λ h. omega arith; numbered = tt; in_range = λ k d h. absurd (omega arith) })
script_from-rows g n (r ∷ rest) rows is =
    let within = goes (at_row n (refused_if (nat_lt most_rows n) input_fault.TooLong)) (λ within. after_within) rows is in
    let row = goes (at_row n (row_in g n r)) (λ row. after_row row) rows within.then in
    let others = goes (script_from g (n + 1) rest) (λ others. Ok (row.value ∷ others)) rows row.then in
    let e : row.value ∷ others.value ≡ rows = cc (others.then) in
    let first = record-row g n r row.value (at_row-ok n (row_in g n r) row.value row.was) in
    let later = script_from-rows g (n + 1) rest others.value others.was in
    let here = not-past n within.value within.was in
    let room : n + 1 + length others.value ≤ most_rows + 1 = later.few (omega arith) in
    subst (AreRows g n) e (record {
      few = λ h. omega arith;
      numbered = (first.1, later.numbered);
      in_range = All-cons (IsInRange g) row.value others.value first.0 later.in_range;
    })
  where
    after_row : Row → Result (List Row) TraceFault
    after_row row = script_from g (n + 1) rest >>= (λ others. Ok (row ∷ others))

    after_within : Result (List Row) TraceFault
    after_within = at_row n (row_in g n r) >>= (λ row. after_row row)

-- the rows of some records are those that a trace can say
pub some-script : (g : Geometry) (rows : List Row) → IsScriptOfSome g rows → IsScript g rows
some-script g rows some =
    let are = script_from-rows g 1 some.found rows some.read in
    let few = are.few (omega arith) in
    record { few = omega arith; numbered = are.numbered; in_range = are.in_range }
