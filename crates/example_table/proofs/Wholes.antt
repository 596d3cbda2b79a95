-- The first change of each page is of all its bytes.
use Rattle.std.proofs.Common.{◌≡◌, inl, inr, refl, sym, ap, subst, ◌∙◌, ℕ, zero, suc, ◌+◌, ◌<◌, ◌≤◌, nat_le, Bool, true, false, cond, ◌&&◌, ◌||◌, ◌==◌, List, [], ◌∷◌, ◌++◌, length, map, reverse, take, get_or, replicate, append_assoc, arith}
use Rattle.std.specs.Prelude.{◌⊎◌, slice_index_or, Result, Ok, Err, IfOk, OnErr, OnOk}
use Rattle.std.specs.Result.{IsErr}
use Rattle.bp_core.specs.Outcomes.{KnowsPass}
use Rattle.bp_core.specs.declared.passes.Pass.{Pass}
use Rattle.bp_device.specs.Owned.{OwnedView}
use Rattle.std.specs.List.{cons_option}
use Rattle.std.proofs.lemmas.Bool.{eqb-true, le-leb, or_cases, or_parts, true≢false}
use Rattle.std.proofs.lemmas.List.{length_push, reverse-append, map_push, take_more}
use Rattle.std.proofs.Common.{Some, None}
use Rattle.bp_page.specs.Patched.{patched}
use Rattle.bp_trail.specs.declared.records.LogRecord.{LogRecord}
use Rattle.bp_trail.specs.Parameters.{Parameters}
use Rattle.bp_trail.specs.Lists.{some}
use Rattle.bp_trail.specs.Trail.{Trail}
use Rattle.bp_trail.specs.Event.{is_write, page_of, discards}
use Rattle.bp_trail.specs.Legal.{Legal}
use Rattle.bp_trail.specs.Images.{held}
use Rattle.bp_trail.specs.Passes.{passes_out}
use Rattle.bp_trail.specs.Places.{resident}
use Rattle.bp_trail.specs.Recovery.{AllFit, HasFullImage, put, redo, record_of, records, records_from, wanted}
use Rattle.bp_trail.proofs.Bytes.{length-put, full-bytes}
use Rattle.bp_trail.proofs.Content.{held-plain}
use Rattle.bp_trail.proofs.Places.{out-of_page, places}
use Rattle.bp_trail.proofs.Plain.{plain-is_writes}
use Rattle.bp_trail.proofs.Recovered.{written-put}
use Rattle.example_log.specs.Commits.{changes_of}
use Rattle.example_log.proofs.CommitsRead.{changes_of-push}
use Rattle.example_log.specs.declared.log.LogFile.{LogFile}
use Rattle.example_log.specs.Disk.{DeviceCall, Honest}
use Rattle.example_log.specs.Files.{FileCall}
use Rattle.example_table.specs.declared.table.TableFault.{TableFault}
use Rattle.example_table.specs.Images.{AreImaged, AreImagedOnce, AreLogged, AreWhole, FirstsAreFull, IsFull, IsWhole, NotesEach, NotesMore, is_of, whole_of}
use Rattle.std.specs.Bool.{MatchBool}
use Rattle.example_table.specs.PoolLives.{PoolLife}
use Rattle.example_table.specs.Tables.{Cut, contents, writes_of}
use Rattle.example_table.specs.TableCalls.{HasCommit, IsTable, LeavesCommit, under}
use Rattle.example_table.proofs.PoolLives.{honest, honest-then, then-life}
use Rattle.example_table.proofs.Tables.{changes-append, told}

-- ---- the changes of a page

some-append : (f : LogRecord → Bool) (xs ys : List LogRecord) → some f (xs ++ ys) ≡ (some f xs || some f ys)
some-append f [] ys = refl
some-append f (x ∷ xs) ys = ap (λ (b : Bool). f x || b) (some-append f xs ys) ∙ assoc (f x) (some f xs) (some f ys)
  where
    assoc : (a b c : Bool) → (a || (b || c)) ≡ ((a || b) || c)
    assoc true b c = refl
    assoc false b c = refl

pub some-reverse : (f : LogRecord → Bool) (xs : List LogRecord) → some f (reverse xs) ≡ some f xs
some-reverse f [] = refl
some-reverse f (x ∷ xs) = ap (some f) (reverse-append (x ∷ []) xs) ∙ some-append f (reverse xs) (x ∷ []) ∙ ap (λ (b : Bool). b || some f (x ∷ [])) (some-reverse f xs) ∙ turn (some f xs) (f x)
  where
    turn : (a b : Bool) → (a || (b || false)) ≡ (b || a)
    turn true true = refl
    turn true false = refl
    turn false true = refl
    turn false false = refl

wants : (p : ℕ) (r : LogRecord) (b : Bool) → (r.page == p) ≡ b → wanted 0 p r ≡ b
wants p r b i = ap (λ (x : Bool). x && nat_le 0 r.lsn) i ∙ ap (λ (x : Bool). b && x) (le-leb 0 r.lsn (omega arith)) ∙ and-true b
  where
    and-true : (b : Bool) → (b && true) ≡ b
    and-true true = refl
    and-true false = refl

records-next : (p : ℕ) (r : LogRecord) (older : List LogRecord) (b : Bool) → (r.page == p) ≡ b → records_from 0 (r ∷ older) p ≡ cond b (r ∷ records_from 0 older p) (records_from 0 older p)
records-next p r older b i = ap (λ (x : Bool). cond x (r ∷ records_from 0 older p) (records_from 0 older p)) (wants p r b i)

none-some : (p : ℕ) (log : List LogRecord) → records_from 0 log p ≡ [] → some (is_of p) log ≡ false
none-some p [] h = refl
none-some p (r ∷ log) h = go (r.page == p) refl (none-some p log)
  where
    go : (b : Bool) → (r.page == p) ≡ b → (records_from 0 log p ≡ [] → some (is_of p) log ≡ false) → ((r.page == p) || some (is_of p) log) ≡ false
    go true i before = (let e : r ∷ records_from 0 log p ≡ [] = sym (records-next p r log true i) ∙ h in absurd (cc))
    go false i before = ap (λ (b : Bool). b || some (is_of p) log) i ∙ before (sym (records-next p r log false i) ∙ h)

some-none : (p : ℕ) (log : List LogRecord) → some (is_of p) log ≡ false → records_from 0 log p ≡ []
some-none p [] h = refl
some-none p (r ∷ log) h = let a = or_parts (r.page == p) (some (is_of p) log) h in records-next p r log false a.0 ∙ some-none p log a.1

-- ---- what the log has of a page begins with all its bytes

pub firsts-older : (size : ℕ) (newer log : List LogRecord) → FirstsAreFull size (newer ++ log) → FirstsAreFull size log
firsts-older size [] log f = f
firsts-older size (r ∷ newer) log f = firsts-older size newer log f.before

pub full-of : (size : ℕ) (log : List LogRecord) → FirstsAreFull size log → (p : ℕ) → (records_from 0 log p ≡ []) ⊎ HasFullImage size (records_from 0 log p)
full-of size [] f p = inl refl
full-of size (r ∷ older) f p = go (r.page == p) refl (full-of size older f.before p)
  where
    go : (b : Bool) → (r.page == p) ≡ b → (records_from 0 older p ≡ []) ⊎ HasFullImage size (records_from 0 older p) → (records_from 0 (r ∷ older) p ≡ []) ⊎ HasFullImage size (records_from 0 (r ∷ older) p)
    go true i (inl none) =
        let first = f.here (subst (λ (n : ℕ). some (is_of n) older ≡ false) (sym (eqb-true r.page p i)) (none-some p older none)) in
        inr (record {
          newer = [];
          full = r;
          older = [];
          stands = records-next p r older true i ∙ ap (λ (t : List LogRecord). r ∷ t) none;
          offset = first.0;
          bytes = first.1;
          fit = tt;
        })
    go true i (inr h) = inr (record {
      newer = r ∷ h.newer;
      full = h.full;
      older = h.older;
      stands = records-next p r older true i ∙ ap (λ (t : List LogRecord). r ∷ t) h.stands;
      offset = h.offset;
      bytes = h.bytes;
      fit = h.fit;
    })
    go false i (inl none) = inl (records-next p r older false i ∙ none)
    go false i (inr h) = inr (subst (HasFullImage size) (sym (records-next p r older false i)) h)

-- ---- LSNs do not count

under-some : (lsn p : ℕ) (xs ys : List LogRecord) → some (is_of p) (reverse (map (under lsn) xs) ++ ys) ≡ some (is_of p) (reverse xs ++ ys)
under-some lsn p xs ys =
    some-append (is_of p) (reverse (map (under lsn) xs)) ys ∙ ap (λ (b : Bool). b || some (is_of p) ys) (some-reverse (is_of p) (map (under lsn) xs) ∙ same xs ∙ sym (some-reverse (is_of p) xs)) ∙ sym (some-append (is_of p) (reverse xs) ys)
  where
    same : (xs : List LogRecord) → some (is_of p) (map (under lsn) xs) ≡ some (is_of p) xs
    same [] = refl
    same (x ∷ xs) = ap (λ (b : Bool). (x.page == p) || b) (same xs)

map-reverse : (lsn : ℕ) (xs : List LogRecord) → reverse (map (under lsn) xs) ≡ map (under lsn) (reverse xs)
map-reverse lsn [] = refl
map-reverse lsn (x ∷ xs) = reverse-append (under lsn x ∷ []) (map (under lsn) xs) ∙ ap (λ (t : List LogRecord). t ++ under lsn x ∷ []) (map-reverse lsn xs) ∙ sym (map_push (under lsn) (reverse xs) x) ∙ ap (map (under lsn)) (sym (reverse-append (x ∷ []) xs))

firsts-under : (size lsn : ℕ) (xs log : List LogRecord) → FirstsAreFull size (xs ++ log) → FirstsAreFull size (map (under lsn) xs ++ log)
firsts-under size lsn [] log f = f
firsts-under size lsn (x ∷ xs) log f = record { here = λ none. f.here (sym (same xs) ∙ none); before = firsts-under size lsn xs log f.before }
  where
    same : (xs : List LogRecord) → some (is_of x.page) (map (under lsn) xs ++ log) ≡ some (is_of x.page) (xs ++ log)
    same [] = refl
    same (y ∷ ys) = ap (λ (b : Bool). (y.page == x.page) || b) (same ys)

pub firsts-made : (size lsn : ℕ) (made log : List LogRecord) → FirstsAreFull size (reverse made ++ log) → FirstsAreFull size (reverse (map (under lsn) made) ++ log)
firsts-made size lsn made log f = subst (λ (t : List LogRecord). FirstsAreFull size (t ++ log)) (sym (map-reverse lsn made)) (firsts-under size lsn (reverse made) log f)

put-next : (p : ℕ) (r : LogRecord) (older : List LogRecord) (image : List ℕ) (b : Bool) → (r.page == p) ≡ b → redo 0 (r ∷ older) p image ≡ cond b (patched r.offset r.bytes (redo 0 older p image)) (redo 0 older p image)
put-next p r older image true i = ap (λ (rs : List LogRecord). put rs image) (records-next p r older true i)
put-next p r older image false i = ap (λ (rs : List LogRecord). put rs image) (records-next p r older false i)

redo-under : (lsn p : ℕ) (xs : List LogRecord) (image : List ℕ) → redo 0 (map (under lsn) xs) p image ≡ redo 0 xs p image
redo-under lsn p [] image = refl
redo-under lsn p (x ∷ xs) image =
    put-next p (under lsn x) (map (under lsn) xs) image (x.page == p) refl
    ∙ ap (λ (i : List ℕ). cond (x.page == p) (patched x.offset x.bytes i) i) (redo-under lsn p xs image)
    ∙ sym (put-next p x xs image (x.page == p) refl)

redo-append : (p : ℕ) (newer older : List LogRecord) (image : List ℕ) → redo 0 (newer ++ older) p image ≡ redo 0 newer p (redo 0 older p image)
redo-append p [] older image = refl
redo-append p (x ∷ newer) older image =
    put-next p x (newer ++ older) image (x.page == p) refl
    ∙ ap (λ (i : List ℕ). cond (x.page == p) (patched x.offset x.bytes i) i) (redo-append p newer older image)
    ∙ sym (put-next p x newer (redo 0 older p image) (x.page == p) refl)

-- ---- what a pool holds of a page

records-all : (p : ℕ) (past : Trail) → records p past ≡ records_from 0 (writes_of past) p
records-all p [] = refl
records-all p (e ∷ past) = go (is_write e.call) refl (page_of e.call == p) refl (records-all p past)
  where
    go : (w : Bool) → is_write e.call ≡ w → (v : Bool) → (page_of e.call == p) ≡ v → records p past ≡ records_from 0 (writes_of past) p
        → cons_option (cond (is_write e.call && (page_of e.call == p)) (Some (record_of e.call)) None) (records p past) ≡ records_from 0 (cond (is_write e.call) (record_of e.call ∷ writes_of past) (writes_of past)) p
    go false w v i ih =
        ap (λ (b : Bool). cons_option (cond (b && (page_of e.call == p)) (Some (record_of e.call)) None) (records p past)) w ∙ ih
        ∙ sym (ap (λ (b : Bool). records_from 0 (cond b (record_of e.call ∷ writes_of past) (writes_of past)) p) w)
    go true w v i ih =
        ap (λ (b : Bool). cons_option (cond (b && (page_of e.call == p)) (Some (record_of e.call)) None) (records p past)) w
        ∙ ap (λ (b : Bool). cons_option (cond b (Some (record_of e.call)) None) (records p past)) i
        ∙ last v (ap (λ (n : ℕ). n == p) (told e.call w).0 ∙ i)
        ∙ sym (ap (λ (b : Bool). records_from 0 (cond b (record_of e.call ∷ writes_of past) (writes_of past)) p) w)
      where
        last : (v : Bool) → ((record_of e.call).page == p) ≡ v → cons_option (cond v (Some (record_of e.call)) None) (records p past) ≡ records_from 0 (record_of e.call ∷ writes_of past) p
        last true k = ap (λ (t : List LogRecord). record_of e.call ∷ t) ih ∙ sym (records-next p (record_of e.call) (writes_of past) true k)
        last false k = ih ∙ sym (records-next p (record_of e.call) (writes_of past) false k)

pub held-is : (c : Parameters) (tears : Bool) (first : ℕ → List ℕ) (past synced : Trail) (calls : List DeviceCall) → PoolLife past calls synced → Legal c past → Honest tears first calls → (p : ℕ) → some (discards p) past ≡ false → resident past p ≡ true
    → held past p ≡ redo 0 (writes_of past) p (first p)
held-is c tears first past synced calls life legal honestly p kept here =
    held-plain c first past p legal (honest c tears first past synced calls life legal honestly p) here
    ∙ plain-is_writes c first past p legal kept
    ∙ written-put first p past
    ∙ ap (λ (rs : List LogRecord). put rs (first p)) (records-all p past)

-- ---- the changes of a commit, one after the other

logged-push : (size : ℕ) (changes made : List LogRecord) (r m : LogRecord) → AreLogged size changes made → m.page ≡ r.page → (m ≡ r) ⊎ IsFull size m → AreLogged size (changes ++ r ∷ []) (made ++ m ∷ [])
logged-push size [] [] r m h page is = (page, is, tt)
logged-push size [] (y ∷ made) r m h page is = absurd h
logged-push size (x ∷ changes) [] r m h page is = absurd h
logged-push size (x ∷ changes) (y ∷ made) r m h page is = (h.0, h.1, logged-push size changes made r m h.2 page is)

pub whole-none : (size : ℕ) (calls : List DeviceCall) (all log : List LogRecord) → FirstsAreFull size log → AreWhole size calls all log [] []
whole-none size calls all log f = record { pages = λ p. refl; each = tt; full = f; same = λ tears first h p. refl }

pub whole-later : (size : ℕ) (later calls : List DeviceCall) (all log changes made : List LogRecord) → AreWhole size calls all log changes made → AreWhole size (later ++ calls) all log changes made
whole-later size later calls all log changes made w = record { pages = w.pages; each = w.each; full = w.full; same = λ tears first h p. w.same tears first (honest-then tears first later calls h) p }

module _ (size : ℕ) (calls : List DeviceCall) (all log changes made : List LogRecord) (w : AreWhole size calls all log changes made) (r : LogRecord) where
  push-reverse : (xs : List LogRecord) (x : LogRecord) → reverse (xs ++ x ∷ []) ≡ x ∷ reverse xs
  push-reverse xs x = reverse-append xs (x ∷ [])

  pages-next : (made_r : LogRecord) → made_r.page ≡ r.page → (p : ℕ) → some (is_of p) (reverse (made ++ made_r ∷ [])) ≡ some (is_of p) (reverse (changes ++ r ∷ []))
  pages-next made_r same p =
      ap (some (is_of p)) (push-reverse made made_r) ∙ ap (λ (n : ℕ). (n == p) || some (is_of p) (reverse made)) same ∙ ap (λ (b : Bool). (r.page == p) || b) (w.pages p)
      ∙ sym (ap (some (is_of p)) (push-reverse changes r))

  -- a page that has a change already
  pub whole-copied : (copy : LogRecord) → copy ≡ r → (some (is_of r.page) log ≡ true) ⊎ (some (is_of r.page) made ≡ true) → AreWhole size calls all log (changes ++ r ∷ []) (made ++ copy ∷ [])
  whole-copied copy is known = subst (λ (x : LogRecord). AreWhole size calls all log (changes ++ r ∷ []) (made ++ x ∷ [])) (sym is) (record {
    pages = pages-next r refl;
    each = logged-push size changes made r r w.each refl (inl refl);
    full = subst (λ (t : List LogRecord). FirstsAreFull size (t ++ log)) (sym (push-reverse made r)) (record { here = λ none. absurd (true≢false (sym there ∙ none)); before = w.full });
    same = λ tears first h p.
        (let x = redo 0 all p (first p) in
        ap (λ (t : List LogRecord). redo 0 t p x) (push-reverse made r) ∙ put-next p r (reverse made) x (r.page == p) refl
        ∙ ap (λ (i : List ℕ). cond (r.page == p) (patched r.offset r.bytes i) i) (w.same tears first h p)
        ∙ sym (put-next p r (reverse changes) x (r.page == p) refl) ∙ sym (ap (λ (t : List LogRecord). redo 0 t p x) (push-reverse changes r)));
  })
    where
      or-true : (b : Bool) → (b || true) ≡ true
      or-true true = refl
      or-true false = refl

      by : (some (is_of r.page) log ≡ true) ⊎ (some (is_of r.page) made ≡ true) → (some (is_of r.page) (reverse made) || some (is_of r.page) log) ≡ true
      by (inl k) = ap (λ (b : Bool). some (is_of r.page) (reverse made) || b) k ∙ or-true (some (is_of r.page) (reverse made))
      by (inr k) = ap (λ (b : Bool). b || some (is_of r.page) log) (some-reverse (is_of r.page) made ∙ k)

      there : some (is_of r.page) (reverse made ++ log) ≡ true
      there = some-append (is_of r.page) (reverse made) log ∙ by known

  -- a page that has none yet in this commit
  pub whole-imaged : (made_r : LogRecord) → IsWhole size calls all r made_r → some (is_of r.page) made ≡ false → AreWhole size calls all log (changes ++ r ∷ []) (made ++ made_r ∷ [])
  whole-imaged made_r is none = subst (λ (x : LogRecord). AreWhole size calls all log (changes ++ r ∷ []) (made ++ x ∷ [])) (sym is.made_is) (record {
    pages = pages-next (whole_of r is.bytes) refl;
    each = logged-push size changes made r (whole_of r is.bytes) w.each refl (inr (refl, long));
    full = subst (λ (t : List LogRecord). FirstsAreFull size (t ++ log)) (sym (push-reverse made (whole_of r is.bytes))) (record { here = λ first. (refl, long); before = w.full });
    same = λ tears first h p.
        (let x = redo 0 all p (first p) in
        ap (λ (t : List LogRecord). redo 0 t p x) (push-reverse made (whole_of r is.bytes)) ∙ put-next p (whole_of r is.bytes) (reverse made) x (r.page == p) refl
        ∙ at tears first h p (r.page == p) refl
        ∙ sym (put-next p r (reverse changes) x (r.page == p) refl) ∙ sym (ap (λ (t : List LogRecord). redo 0 t p x) (push-reverse changes r)));
  })
    where
      fits : AllFit size (record { page = r.page; offset = r.offset; bytes = r.bytes; lsn = r.lsn } ∷ [])
      fits = (is.fits, tt)

      long : length (patched r.offset r.bytes is.bytes) ≡ size
      long = length-put size (r ∷ []) is.bytes (is.fits, tt) is.long

      at : (tears : Bool) (first : ℕ → List ℕ) → Honest tears first calls → (p : ℕ) (b : Bool) → (r.page == p) ≡ b
          → cond b (patched 0 (patched r.offset r.bytes is.bytes) (redo 0 (reverse made) p (redo 0 all p (first p)))) (redo 0 (reverse made) p (redo 0 all p (first p))) ≡ cond b (patched r.offset r.bytes (redo 0 (reverse changes) p (redo 0 all p (first p)))) (redo 0 (reverse changes) p (redo 0 all p (first p)))
      at tears first h p false i = w.same tears first h p
      at tears first h p true i =
          let x = redo 0 all p (first p) in
          let same : r.page ≡ p = eqb-true r.page p i in
          let brought : is.bytes ≡ x = subst (λ (n : ℕ). is.bytes ≡ redo 0 all n (first n)) same (is.brought tears first h) in
          let none_made : some (is_of p) (reverse made) ≡ false = some-reverse (is_of p) made ∙ subst (λ (n : ℕ). some (is_of n) made ≡ false) same none in
          let none_changes : some (is_of p) (reverse changes) ≡ false = sym (w.pages p) ∙ none_made in
          let made_x : redo 0 (reverse made) p x ≡ x = ap (λ (rs : List LogRecord). put rs x) (some-none p (reverse made) none_made) in
          let changes_x : redo 0 (reverse changes) p x ≡ x = ap (λ (rs : List LogRecord). put rs x) (some-none p (reverse changes) none_changes) in
          ap (λ (i : List ℕ). patched 0 (patched r.offset r.bytes is.bytes) i) made_x
          ∙ full-bytes (whole_of r is.bytes) [] size x refl long tt (ap (λ (t : List ℕ). length t) (sym brought) ∙ is.long)
          ∙ ap (patched r.offset r.bytes) brought ∙ sym (ap (patched r.offset r.bytes) changes_x)

-- ---- each page has one image at most

pub whole-full : (size : ℕ) (calls : List DeviceCall) (all : List LogRecord) (r m : LogRecord) → IsWhole size calls all r m → (m.page ≡ r.page) × IsFull size m
whole-full size calls all r m w = (ap (λ (x : LogRecord). x.page) w.made_is, (ap (λ (x : LogRecord). x.offset) w.made_is, ap (λ (x : LogRecord). length x.bytes) w.made_is ∙ length-put size (r ∷ []) w.bytes (w.fits, tt) w.long))

once-push : (size : ℕ) (known : ℕ → Bool) (changes made : List LogRecord) (r m : LogRecord) → AreImagedOnce size known changes made → m.page ≡ r.page → MatchBool (some (is_of r.page) changes || known r.page) (m ≡ r) (IsFull size m)
    → AreImagedOnce size known (changes ++ r ∷ []) (made ++ m ∷ [])
once-push size known [] [] r m h page is = (page, is, tt)
once-push size known [] (y ∷ made) r m h page is = absurd h
once-push size known (x ∷ changes) [] r m h page is = absurd h
once-push size known (x ∷ changes) (y ∷ made) r m h page is =
    (h.0, h.1, once-push size (λ p. is_of p x || known p) changes made r m h.2 page (subst (λ (b : Bool). MatchBool b (m ≡ r) (IsFull size m)) (turn (is_of r.page x) (some (is_of r.page) changes) (known r.page)) is))
  where
    turn : (a b c : Bool) → ((a || b) || c) ≡ (b || (a || c))
    turn true true c = refl
    turn true false c = refl
    turn false true c = refl
    turn false false c = refl

-- what is known of a page by the changes made so far is so by those that were asked for
known-as : (size : ℕ) (calls : List DeviceCall) (all log changes made : List LogRecord) → AreWhole size calls all log changes made → (p : ℕ) (flag b : Bool) → (flag || some (is_of p) made) ≡ b → (some (is_of p) changes || flag) ≡ b
known-as size calls all log changes made w p flag b e =
    ap (λ (x : Bool). x || flag) (sym (some-reverse (is_of p) changes) ∙ sym (w.pages p) ∙ some-reverse (is_of p) made) ∙ swap (some (is_of p) made) flag ∙ e
  where
    swap : (a b : Bool) → (a || b) ≡ (b || a)
    swap true true = refl
    swap true false = refl
    swap false true = refl
    swap false false = refl

pub all-taken : (i : ℕ) (xs : List LogRecord) → length xs ≤ i → take i xs ≡ xs
all-taken zero [] le = refl
all-taken (suc i) [] le = refl
all-taken zero (x ∷ xs) le = absurd (omega arith)
all-taken (suc i) (x ∷ xs) le = ap (λ (t : List LogRecord). x ∷ t) (all-taken i xs (omega arith))

module _ (size : ℕ) (all log xs : List LogRecord) (i : ℕ) (r : LogRecord) (made now : List LogRecord) (next : LogRecord) (below : i < length xs) (is : r ≡ get_or xs i r) (pushed : now ≡ made ++ next ∷ []) where
  as-next : (calls : List DeviceCall) → AreWhole size calls all log (take i xs ++ r ∷ []) (made ++ next ∷ []) → AreWhole size calls all log (take (i + 1) xs) now
  as-next calls w = subst (λ (t : List LogRecord). AreWhole size calls all log t now) (sym (take_more xs i r below ∙ ap (λ (x : LogRecord). take i xs ++ x ∷ []) (sym is))) (subst (AreWhole size calls all log (take i xs ++ r ∷ [])) (sym pushed) w)

  next-once : (known : ℕ → Bool) → AreImagedOnce size known (take i xs) made → next.page ≡ r.page → MatchBool (some (is_of r.page) (take i xs) || known r.page) (next ≡ r) (IsFull size next) → AreImagedOnce size known (take (i + 1) xs) now
  next-once known h page so =
      subst (λ (t : List LogRecord). AreImagedOnce size known t now) (sym (take_more xs i r below ∙ ap (λ (x : LogRecord). take i xs ++ x ∷ []) (sym is)))
      (subst (AreImagedOnce size known (take i xs ++ r ∷ [])) (sym pushed) (once-push size known (take i xs) made r next h page so))

  pub next-copied-once : (calls : List DeviceCall) → AreWhole size calls all log (take i xs) made → next ≡ r → (flags : List Bool) → (slice_index_or flags r.page false || some (is_of r.page) made) ≡ true
      → AreImagedOnce size (λ p. slice_index_or flags p false) (take i xs) made → AreImagedOnce size (λ p. slice_index_or flags p false) (take (i + 1) xs) now
  next-copied-once calls w copied flags here h =
      next-once (λ p. slice_index_or flags p false) h (ap (λ (x : LogRecord). x.page) copied)
      (subst (λ (b : Bool). MatchBool b (next ≡ r) (IsFull size next)) (sym (known-as size calls all log (take i xs) made w r.page (slice_index_or flags r.page false) true here)) copied)

  pub next-imaged-once : (later calls : List DeviceCall) → AreWhole size calls all log (take i xs) made → IsWhole size (later ++ calls) all r next → (flags : List Bool) → (slice_index_or flags r.page false || some (is_of r.page) made) ≡ false
      → AreImagedOnce size (λ p. slice_index_or flags p false) (take i xs) made → AreImagedOnce size (λ p. slice_index_or flags p false) (take (i + 1) xs) now
  next-imaged-once later calls w whole flags none h =
      let full = whole-full size (later ++ calls) all r next whole in
      next-once (λ p. slice_index_or flags p false) h full.0
      (subst (λ (b : Bool). MatchBool b (next ≡ r) (IsFull size next)) (sym (known-as size calls all log (take i xs) made w r.page (slice_index_or flags r.page false) false none)) full.1)

  pub next-copied : (calls : List DeviceCall) → AreWhole size calls all log (take i xs) made → next ≡ r → (flags : List Bool) → AreImaged flags log → (slice_index_or flags r.page false || some (is_of r.page) made) ≡ true → AreWhole size calls all log (take (i + 1) xs) now
  next-copied calls w copied flags known here = as-next calls (whole-copied size calls all log (take i xs) made w r next copied (by (or_cases (slice_index_or flags r.page false) (some (is_of r.page) made) here)))
    where
      by : (slice_index_or flags r.page false ≡ true) ⊎ (some (is_of r.page) made ≡ true) → (some (is_of r.page) log ≡ true) ⊎ (some (is_of r.page) made ≡ true)
      by (inl flag) = inl (known r.page flag)
      by (inr there) = inr there

  pub next-imaged : (later more calls : List DeviceCall) → AreWhole size (more ++ calls) all log (take i xs) made → IsWhole size (later ++ (more ++ calls)) all r next → (flag : Bool) → (flag || some (is_of r.page) made) ≡ false → AreWhole size ((later ++ more) ++ calls) all log (take (i + 1) xs) now
  next-imaged later more calls w whole flag none =
      subst (λ (cs : List DeviceCall). AreWhole size cs all log (take (i + 1) xs) now) (sym (append_assoc later more calls))
      (as-next (later ++ (more ++ calls)) (whole-imaged size (later ++ (more ++ calls)) all log (take i xs) made (whole-later size later (more ++ calls) all log (take i xs) made w) r next whole (or_parts flag (some (is_of r.page) made) none).1))

-- ---- a commit makes of the pages what its changes make

pub commit-makes : (cut : Cut) (size lsn : ℕ) (calls : List DeviceCall) (commits : List (List LogRecord)) (changes made : List LogRecord)
    → AreWhole size calls (reverse (changes_of (cut.commits ++ commits))) (reverse (changes_of commits)) changes made → HasCommit size cut calls commits (commits ++ map (under lsn) made ∷ []) lsn changes
commit-makes cut size lsn calls commits changes made w = record {
  made = made;
  after_is = refl;
  each = w.each;
  makes = λ tears first h p.
      (ap (λ (rs : List LogRecord). redo 0 rs p (first p)) told_all
      ∙ redo-append p (reverse (map (under lsn) made)) (reverse (changes_of (cut.commits ++ commits))) (first p)
      ∙ ap (λ (t : List LogRecord). redo 0 t p (contents cut commits first p)) (map-reverse lsn made)
      ∙ redo-under lsn p (reverse made) (contents cut commits first p)
      ∙ w.same tears first h p);
}
  where
    told_all : reverse (changes_of (cut.commits ++ (commits ++ map (under lsn) made ∷ []))) ≡ reverse (map (under lsn) made) ++ reverse (changes_of (cut.commits ++ commits))
    told_all =
        ap (λ (cs : List (List LogRecord)). reverse (changes_of cs)) (sym (append_assoc cut.commits commits (map (under lsn) made ∷ [])))
        ∙ ap reverse (changes-append (cut.commits ++ commits) (map (under lsn) made ∷ []) ∙ ap (λ (t : List LogRecord). changes_of (cut.commits ++ commits) ++ t) (last (map (under lsn) made)))
        ∙ reverse-append (changes_of (cut.commits ++ commits)) (map (under lsn) made)
      where
        last : (xs : List LogRecord) → changes_of (xs ∷ []) ≡ xs
        last [] = refl
        last (x ∷ xs) = ap (λ (t : List LogRecord). x ∷ t) (last xs)

pub commit-later : {size : ℕ} (cut : Cut) (later calls : List DeviceCall) (commits after : List (List LogRecord)) (lsn : ℕ) (changes : List LogRecord) → HasCommit size cut calls commits after lsn changes → HasCommit size cut (later ++ calls) commits after lsn changes
commit-later {size = size} cut later calls commits after lsn changes h = record { made = h.made; after_is = h.after_is; each = h.each; makes = λ tears first k p. h.makes tears first (honest-then tears first later calls k) p }

-- ---- a pass of a page lends what all commits make of it

pub whole-made : {S P : Type 0} (table : List ℕ) (cut : Cut) (file : List ℕ) (start : ℕ) (synced : Trail) (calls : List DeviceCall) (log_calls : List FileCall) (commits : List (List LogRecord)) (records : ℕ) (pool : OwnedView P) (log : LogFile S)
    → IsTable table cut file start synced calls log_calls commits records [] pool log → (pass : Pass) → KnowsPass pool.core pass → (r : LogRecord) → pass.page ≡ r.page → (size : ℕ) → pool.core.parameters.size ≡ size → (result : Result LogRecord TableFault)
    → IfOk result (λ made. made ≡ whole_of r (held pool.core.past pass.page)) → IfOk result (λ made. length (held pool.core.past pass.page) ≡ pool.core.parameters.size) → IfOk result (λ made. r.offset + length r.bytes ≤ pool.core.parameters.size)
    → IfOk result (λ made. IsWhole size calls (reverse (changes_of (cut.commits ++ commits))) r made)
whole-made table cut file start synced calls log_calls commits records pool log is pass known r page size same (Err why) whole long fits = tt
whole-made table cut file start synced calls log_calls commits records pool log is pass known r page size same (Ok made) whole long fits = record {
  bytes = held pool.core.past pass.page;
  long = long ∙ same;
  fits = omega (arith, fits, same);
  made_is = whole;
  brought = λ tears first h.
      (held-is pool.core.parameters tears first pool.core.past synced calls (then-life cut.past cut.calls is.ran.cut_is.life pool.core.past synced calls is.ran.pool) is.ran.legal h pass.page (is.ran.kept pass.page)
      ((places pool.core.parameters pool.core.past is.ran.legal).pinned pass.page (out-of_page pass.client pass.page pass.serial (passes_out pool.core.past) known))
      ∙ ap (λ (rs : List LogRecord). redo 0 rs pass.page (first pass.page)) (sym is.ran.written)
      ∙ ap (λ (n : ℕ). redo 0 (reverse (changes_of (cut.commits ++ commits))) n (first n)) page);
}

pub whole-change-later : (size : ℕ) (later more calls : List DeviceCall) (all : List LogRecord) (r : LogRecord) (result : Result LogRecord TableFault) → IfOk result (λ made. IsWhole size (more ++ calls) all r made) → IfOk result (λ made. IsWhole size ((later ++ more) ++ calls) all r made)
whole-change-later size later more calls all r (Err why) w = tt
whole-change-later size later more calls all r (Ok made) w = record {
  bytes = w.bytes;
  long = w.long;
  fits = w.fits;
  made_is = w.made_is;
  brought = λ tears first h. w.brought tears first (honest-then tears first later (more ++ calls) (subst (Honest tears first) (append_assoc later more calls) h));
}

-- ---- flags

pub imaged-more : (flags : List Bool) (newer log : List LogRecord) → AreImaged flags log → AreImaged flags (newer ++ log)
imaged-more flags newer log f = λ p set. some-append (is_of p) newer log ∙ ap (λ (b : Bool). some (is_of p) newer || b) (f p set) ∙ or-true (some (is_of p) newer)
  where
    or-true : (b : Bool) → (b || true) ≡ true
    or-true true = refl
    or-true false = refl

pub no-flags : (n p : ℕ) → get_or (replicate n false) p false ≡ false
no-flags zero p = refl
no-flags (suc n) zero = refl
no-flags (suc n) (suc p) = no-flags n p

pub none-imaged : (flags : List Bool) (n : ℕ) → flags ≡ replicate n false → AreImaged flags []
none-imaged flags n e = λ p set. absurd (true≢false (sym set ∙ ap (λ (fs : List Bool). slice_index_or fs p false) e ∙ no-flags n p))

pub imaged-same : (a b : List Bool) (log more : List LogRecord) → a ≡ b → more ≡ log → AreImaged b log → AreImaged a more
imaged-same a b log more e f h = subst (λ (x : List Bool). AreImaged x more) (sym e) (subst (AreImaged b) (sym f) h)

pub imaged-noted : (old new : List Bool) (lsn : ℕ) (made : List LogRecord) (commits : List (List LogRecord)) → AreImaged old (reverse (changes_of commits))
    → ((p : ℕ) → slice_index_or new p false ≡ true → (slice_index_or old p false ≡ true) ⊎ (some (is_of p) made ≡ true)) → AreImaged new (reverse (changes_of (commits ++ map (under lsn) made ∷ [])))
imaged-noted old new lsn made commits known noted p set =
    ap (λ (cs : List LogRecord). some (is_of p) (reverse cs)) (changes_of-push commits (map (under lsn) made))
    ∙ ap (some (is_of p)) (reverse-append (changes_of commits) (map (under lsn) made))
    ∙ under-some lsn p made (reverse (changes_of commits))
    ∙ some-append (is_of p) (reverse made) (reverse (changes_of commits))
    ∙ by (noted p set)
  where
    or-true : (b : Bool) → (b || true) ≡ true
    or-true true = refl
    or-true false = refl

    by : (slice_index_or old p false ≡ true) ⊎ (some (is_of p) made ≡ true) → (some (is_of p) (reverse made) || some (is_of p) (reverse (changes_of commits))) ≡ true
    by (inl was) = ap (λ (b : Bool). some (is_of p) (reverse made) || b) (known p was) ∙ or-true (some (is_of p) (reverse made))
    by (inr now) = ap (λ (b : Bool). b || some (is_of p) (reverse (changes_of commits))) (some-reverse (is_of p) made ∙ now)

-- the flags of the pages of a commit are set, where the table goes on
pub notes-same : (a b : List Bool) (log more : List LogRecord) → a ≡ b → more ≡ log → NotesEach b log → NotesEach a more
notes-same a b log more e f h = subst (λ (x : List Bool). NotesEach x more) (sym e) (subst (NotesEach b) (sym f) h)

notes-added : (old new : List Bool) (lsn : ℕ) (made : List LogRecord) (commits : List (List LogRecord)) → NotesMore old made new → NotesEach old (reverse (changes_of commits)) → NotesEach new (reverse (changes_of (commits ++ map (under lsn) made ∷ [])))
notes-added old new lsn made commits m h = λ p below has. by p below
    (or_cases (some (is_of p) (reverse made)) (some (is_of p) (reverse (changes_of commits))) (sym (all p) ∙ has))
  where
    all : (p : ℕ) → some (is_of p) (reverse (changes_of (commits ++ map (under lsn) made ∷ []))) ≡ (some (is_of p) (reverse made) || some (is_of p) (reverse (changes_of commits)))
    all p =
        ap (λ (cs : List LogRecord). some (is_of p) (reverse cs)) (changes_of-push commits (map (under lsn) made))
        ∙ ap (some (is_of p)) (reverse-append (changes_of commits) (map (under lsn) made))
        ∙ under-some lsn p made (reverse (changes_of commits))
        ∙ some-append (is_of p) (reverse made) (reverse (changes_of commits))

    by : (p : ℕ) → p < length new → (some (is_of p) (reverse made) ≡ true) ⊎ (some (is_of p) (reverse (changes_of commits)) ≡ true) → slice_index_or new p false ≡ true
    by p below (inl now) = m.set p (omega (arith, m.room)) (sym (some-reverse (is_of p) made) ∙ now)
    by p below (inr was) = m.kept p (h p (omega (arith, m.room)) was)

pub notes-after : (old mid new : List Bool) (lsn : ℕ) (made : List LogRecord) (commits after : List (List LogRecord)) (ended : Bool) (result : Result ℕ TableFault) → mid ≡ old → OnOk result (NotesMore mid made new)
    → ((after ≡ commits) × (new ≡ mid)) ⊎ (after ≡ commits ++ map (under lsn) made ∷ []) → OnErr result (ended ≡ false → after ≡ commits) → IfOk result (λ got. (got ≡ lsn) × (after ≡ commits ++ map (under got) made ∷ []))
    → ended ≡ false → NotesEach old (reverse (changes_of commits)) → NotesEach new (reverse (changes_of after))
notes-after old mid new lsn made commits after ended (Ok got) e m which none ok alive h =
    subst (λ (cs : List (List LogRecord)). NotesEach new (reverse (changes_of cs))) (sym ok.1)
    (notes-added mid new got made commits m (notes-same mid old (reverse (changes_of commits)) (reverse (changes_of commits)) e refl h))
notes-after old mid new lsn made commits after ended (Err why) e m (inl same) none ok alive h =
    notes-same new old (reverse (changes_of commits)) (reverse (changes_of after)) (same.1 ∙ e) (ap (λ (x : List (List LogRecord)). reverse (changes_of x)) same.0) h
notes-after old mid new lsn made commits after ended (Err why) e m (inr added) none ok alive h =
    absurd (longer commits (map (under lsn) made) (sym (none alive) ∙ added))
  where
    longer : (cs : List (List LogRecord)) (x : List LogRecord) → cs ≡ cs ++ x ∷ [] → ⊥
    longer cs x e = (let n = ap (λ (t : List (List LogRecord)). length t) e ∙ length_push cs x in omega (arith, n))

pub imaged-added : (flags : List Bool) (lsn : ℕ) (made : List LogRecord) (commits : List (List LogRecord)) → AreImaged flags (reverse (changes_of commits)) → AreImaged flags (reverse (changes_of (commits ++ map (under lsn) made ∷ [])))
imaged-added flags lsn made commits known = imaged-noted flags flags lsn made commits known (λ p set. inl set)

-- ---- what a commit says

pub says-none : {size : ℕ} (cut : Cut) (calls : List DeviceCall) (commits : List (List LogRecord)) (lsn : ℕ) (changes : List LogRecord) (ended : Bool) (result : Result ℕ TableFault) → IsErr result → (cs : List DeviceCall) (after : List (List LogRecord)) → after ≡ commits → LeavesCommit size cut calls commits lsn changes ended result cs after
says-none {size = size} cut calls commits lsn changes ended (Ok x) e cs after same = absurd (cc)
says-none {size = size} cut calls commits lsn changes ended (Err why) e cs after same = (inl same, (λ no. same), tt)

-- what more calls leave
pub has-later : {size : ℕ} (cut : Cut) (later more calls : List DeviceCall) (commits after now : List (List LogRecord)) (lsn : ℕ) (changes : List LogRecord) → HasCommit size cut (more ++ calls) commits after lsn changes → now ≡ after → HasCommit size cut ((later ++ more) ++ calls) commits now lsn changes
has-later {size = size} cut later more calls commits after now lsn changes h same =
    subst (λ (x : List (List LogRecord)). HasCommit size cut ((later ++ more) ++ calls) commits x lsn changes) (sym same)
    (subst (λ (cs : List DeviceCall). HasCommit size cut cs commits after lsn changes) (sym (append_assoc later more calls)) (commit-later cut later (more ++ calls) commits after lsn changes h))

-- what a commit says once its record may be there
pub says-more : {size : ℕ} (cut : Cut) (later more calls : List DeviceCall) (commits after : List (List LogRecord)) (lsn : ℕ) (changes made : List LogRecord) (ended : Bool) (result : Result ℕ TableFault) {Q : Type 0}
    → HasCommit size cut (more ++ calls) commits (commits ++ map (under lsn) made ∷ []) lsn changes → ((after ≡ commits) × Q) ⊎ (after ≡ commits ++ map (under lsn) made ∷ []) → OnErr result (ended ≡ false → after ≡ commits)
    → IfOk result (λ got. (got ≡ lsn) × (after ≡ commits ++ map (under got) made ∷ [])) → LeavesCommit size cut calls commits lsn changes ended result (later ++ more) after
says-more {size = size} cut later more calls commits after lsn changes made ended (Err why) {Q = Q} has which none ok = (by which, none, tt)
  where
    by : ((after ≡ commits) × Q) ⊎ (after ≡ commits ++ map (under lsn) made ∷ []) → (after ≡ commits) ⊎ HasCommit size cut ((later ++ more) ++ calls) commits after lsn changes
    by (inl same) = inl same.0
    by (inr added) = inr (has-later cut later more calls commits (commits ++ map (under lsn) made ∷ []) after lsn changes has added)
says-more {size = size} cut later more calls commits after lsn changes made ended (Ok got) has which none ok =
    let there = has-later cut later more calls commits (commits ++ map (under lsn) made ∷ []) after lsn changes has (ok.1 ∙ ap (λ (n : ℕ). commits ++ map (under n) made ∷ []) ok.0) in
    (inr there, tt, (ok.0, subst (λ (n : ℕ). HasCommit size cut ((later ++ more) ++ calls) commits after n changes) (sym ok.0) there))
