-- Redo by page LSN over a page that is torn: a full image is put in whatever the page LSN is, and redo goes on from there.
use Rattle.std.proofs.Common.{◌≡◌, refl, sym, ap, subst, ◌∙◌, ℕ, ◌≤◌, nat_lt, nat_le, Bool, true, false, ◌||◌, if◌then◌else◌, cond, List, [], ◌∷◌, ◌++◌, length, filter, arith}
use Rattle.std.proofs.lemmas.List.Elements.{filter-append}
use Rattle.std.proofs.lemmas.Bool.{and_parts, and_from, ltb-true, lt-ltb, le-leb}
use Rattle.bp_trail.specs.declared.records.LogRecord.{LogRecord}
use Rattle.bp_trail.specs.Lists.{every}
use Rattle.bp_trail.specs.Trail.{Trail}
use Rattle.bp_trail.specs.Images.{written_into}
use Rattle.bp_trail.specs.Standing.{Content}
use Rattle.bp_trail.specs.Recovery.{within, records_from, Rise, AllFit, HasFullImage, patch, put, apply_all_newer, apply_newer_or_full, apply_all_newer_or_full, redo_with_full_images, AppliesAlike, PutsIn, LogHas}
use Rattle.bp_trail.proofs.Bytes.{length-patched, patched-whole, full-bytes, filter-fit, from_lsn}
use Rattle.bp_trail.proofs.Recovered.{filter-every, refilter}
use Rattle.bp_trail.proofs.Redoing.{redo-plain}
use Rattle.bp_trail.proofs.Stamped.{rise-front, rise-above, newer-below, all-newer}

or-either : (a b : Bool) → b ≡ true → (a || b) ≡ b
or-either true b h = sym h
or-either false b h = refl

-- records that rise above the page LSN are each acted on
or-newer : (is_full : LogRecord → Bool) (apply : LogRecord → List ℕ → List ℕ) (rs : List LogRecord) (x : Content) → Rise rs → every (λ r. nat_lt x.page_lsn r.lsn) rs ≡ true → apply_all_newer_or_full is_full apply rs x ≡ apply_all_newer apply rs x
or-newer is_full apply [] x rise h = refl
or-newer is_full apply (r ∷ rs) x rise h =
    let a = and_parts (nat_lt x.page_lsn r.lsn) _ h in
    let y = apply_all_newer apply rs x in
    let test : nat_lt y.page_lsn r.lsn ≡ true = lt-ltb y.page_lsn r.lsn (newer-below apply rs x r.lsn (ltb-true x.page_lsn r.lsn a.0) rise.here) in
    ap (apply_newer_or_full is_full apply r) (or-newer is_full apply rs x rise.before a.1)
    ∙ ap (λ (b : Bool). if b then record { image = apply r y.image; page_lsn = r.lsn } else y) (or-either (is_full r) (nat_lt y.page_lsn r.lsn) test)

-- records that lie within the page leave its size, whichever are acted on
full-sized : (is_full : LogRecord → Bool) (apply : LogRecord → List ℕ → List ℕ) (size : ℕ) (full : LogRecord) (rs : List LogRecord) (x : Content) → PutsIn apply size full → AllFit size rs → length x.image ≡ size
    → length (apply_all_newer_or_full is_full apply rs x).image ≡ size
full-sized is_full apply size full [] x put_in fit is = is
full-sized is_full apply size full (r ∷ rs) x put_in fit is =
    let y = apply_all_newer_or_full is_full apply rs x in
    go (is_full r || nat_lt y.page_lsn r.lsn) (full-sized is_full apply size full rs x put_in fit.1 is)
  where
    go : (b : Bool) → length (apply_all_newer_or_full is_full apply rs x).image ≡ size
        → length (if b then record { image = apply r (apply_all_newer_or_full is_full apply rs x).image; page_lsn = r.lsn } else apply_all_newer_or_full is_full apply rs x).image ≡ size
    go true ih = put_in.sized r (apply_all_newer_or_full is_full apply rs x).image ih fit.0
    go false ih = ih

full-append : (is_full : LogRecord → Bool) (apply : LogRecord → List ℕ → List ℕ) (newer older : List LogRecord) (x : Content) → apply_all_newer_or_full is_full apply (newer ++ older) x ≡ apply_all_newer_or_full is_full apply newer (apply_all_newer_or_full is_full apply older x)
full-append is_full apply [] older x = refl
full-append is_full apply (r ∷ newer) older x = ap (apply_newer_or_full is_full apply r) (full-append is_full apply newer older x)

above-from : (from n : ℕ) (rs : List LogRecord) → from ≤ n → every (λ o. nat_lt n o.lsn) rs ≡ true → every (from_lsn from) rs ≡ true
above-from from n [] le h = refl
above-from from n (r ∷ rs) le h =
    let a = and_parts (nat_lt n r.lsn) _ h in
    let lt = ltb-true n r.lsn a.0 in
    and_from _ _ (le-leb from r.lsn (omega arith)) (above-from from n rs le a.1)

-- what redo wants, from the full image on and before it
full-wanted : (log : List LogRecord) (start from p size : ℕ) → start ≤ from → Rise (records_from start log p) → (w : HasFullImage size (records_from start log p)) → from ≤ w.full.lsn → records_from from log p ≡ w.newer ++ w.full ∷ filter (from_lsn from) w.older
full-wanted log start from p size le rises w le_full =
    let f = filter (from_lsn from) in
    let newer = above-from from w.full.lsn w.newer le_full (rise-above w.newer w.older w.full (subst Rise w.stands rises)) in
    let here : nat_le from w.full.lsn ≡ true = le-leb from w.full.lsn le_full in
    refilter start from p le log
    ∙ ap f w.stands
    ∙ filter-append (from_lsn from) w.newer (w.full ∷ w.older)
    ∙ ap (λ xs. xs ++ f (w.full ∷ w.older)) (filter-every (from_lsn from) w.newer newer)
    ∙ ap (λ (b : Bool). w.newer ++ cond b (w.full ∷ f w.older) (f w.older)) here

pub redo-torn : (is_full : LogRecord → Bool) (apply : LogRecord → List ℕ → List ℕ) (first : ℕ → List ℕ) (past : Trail) (log : List LogRecord) (start from end p : ℕ) (x : Content)
    → (h : LogHas log start from end past p) → start ≤ from → Rise (records_from start log p) → AppliesAlike apply (records_from start log p) (first p)
    → (w : HasFullImage (length (first p)) (records_from start log p)) → from ≤ w.full.lsn → is_full w.full ≡ true → PutsIn apply (length (first p)) w.full → length x.image ≡ length (first p)
    → (redo_with_full_images is_full apply from log p x).image ≡ put h.unwritten (written_into first (within end past) p)
redo-torn is_full apply first past log start from end p x h le rises alike w le_full told put_in long =
    let size = length (first p) in
    let older = filter (from_lsn from) w.older in
    let z = apply_all_newer_or_full is_full apply older x in
    let y : Content = record { image = apply w.full z.image; page_lsn = w.full.lsn } in
    let rising : Rise (w.newer ++ w.full ∷ w.older) = subst Rise w.stands rises in
    let sized = full-sized is_full apply size w.full older x put_in (filter-fit size (from_lsn from) w.older w.fit) long in
    let applied : apply_newer_or_full is_full apply w.full z ≡ y = ap (λ (b : Bool). if b || nat_lt z.page_lsn w.full.lsn then y else z) told in
    let has : y.image ≡ put (w.full ∷ w.older) (first p) = put_in.gives z.image sized ∙ sym (full-bytes w.full w.older size (first p) w.offset w.bytes w.fit refl) in
    let front = rise-front w.newer (w.full ∷ w.older) rising in
    let above = rise-above w.newer w.older w.full rising in
    ap (λ (y : Content). y.image)
    (ap (λ rs. apply_all_newer_or_full is_full apply rs x) (full-wanted log start from p size le rises w le_full)
    ∙ full-append is_full apply w.newer (w.full ∷ older) x
    ∙ ap (apply_all_newer_or_full is_full apply w.newer) applied
    ∙ or-newer is_full apply w.newer y front above)
    ∙ (all-newer apply w.newer (w.full ∷ w.older) (first p) y has front above (subst (λ rs. AppliesAlike apply rs (first p)) w.stands alike)).image_is
    ∙ ap (λ rs. put rs (first p)) (sym w.stands)
    ∙ redo-plain first past log start from end p h

-- bytes that are put in are put in so
pub patch-puts_in : (size : ℕ) (full : LogRecord) → full.offset ≡ 0 → length full.bytes ≡ size → PutsIn patch size full
patch-puts_in size full z long = record {
  gives = λ image is. patched-whole full.offset full.bytes image z (long ∙ sym is);
  sized = λ r image is fit. length-patched r.offset r.bytes image (omega arith) ∙ is;
}
