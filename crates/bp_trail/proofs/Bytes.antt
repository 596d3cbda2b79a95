-- Bytes that are put into an image, and put again.
use Rattle.std.proofs.Common.{◌≡◌, inl, inr, refl, sym, ap, subst, ◌∙◌, ℕ, ◌+◌, ◌-◌, ◌≤◌, ◌<◌, nat_le, Bool, true, false, cond, List, [], ◌∷◌, ◌++◌, length, filter, take, drop, get_or, arith, length-append, length-drop, append-nil}
use Rattle.std.proofs.lemmas.List.{length-take, get_or-take, get_or-drop, get_or_append_left, get_or-append_right, ext_get_or, drop_all}
use Rattle.std.proofs.lemmas.Bool.{and_parts, cases_lt, leb-true, leb-false, lt-leb}
use Rattle.bp_page.specs.Patched.{patched}
use Rattle.bp_trail.specs.declared.records.LogRecord.{LogRecord}
use Rattle.bp_trail.specs.Lists.{every, EachEntry}
use Rattle.bp_trail.specs.Recovery.{NeverFall, AllFit, put}

pub length-patched : (offset : ℕ) (bytes image : List ℕ) → offset + length bytes ≤ length image → length (patched offset bytes image) ≡ length image
length-patched offset bytes image fits =
    let rest = drop (offset + length bytes) image in
    let whole : length (patched offset bytes image) ≡ length (take offset image ++ bytes) + length rest = length-append (take offset image ++ bytes) rest in
    omega (arith, fits, whole, length-append (take offset image) bytes, length-take offset image, length-drop (offset + length bytes) image)

-- the byte at i of such an image
module _ (offset : ℕ) (bytes image : List ℕ) (fits : offset + length bytes ≤ length image) (i : ℕ) where
  before : i < offset → get_or (patched offset bytes image) i 0 ≡ get_or image i 0
  before lt =
      let n : length (take offset image) ≡ offset = omega (arith, fits, length-take offset image) in
      let m : length (take offset image ++ bytes) ≡ offset + length bytes = omega (arith, n, length-append (take offset image) bytes) in
      get_or_append_left (take offset image ++ bytes) (drop (offset + length bytes) image) 0 i (omega arith)
      ∙ get_or_append_left (take offset image) bytes 0 i (omega arith)
      ∙ get_or-take offset image i 0 lt

  inside : offset ≤ i → i < offset + length bytes → get_or (patched offset bytes image) i 0 ≡ get_or bytes (i - offset) 0
  inside ge lt =
      let n : length (take offset image) ≡ offset = omega (arith, fits, length-take offset image) in
      let m : length (take offset image ++ bytes) ≡ offset + length bytes = omega (arith, n, length-append (take offset image) bytes) in
      get_or_append_left (take offset image ++ bytes) (drop (offset + length bytes) image) 0 i (omega arith)
      ∙ get_or-append_right (take offset image) bytes offset i 0 n ge

  behind : offset + length bytes ≤ i → get_or (patched offset bytes image) i 0 ≡ get_or image i 0
  behind ge =
      let n : length (take offset image) ≡ offset = omega (arith, fits, length-take offset image) in
      let m : length (take offset image ++ bytes) ≡ offset + length bytes = omega (arith, n, length-append (take offset image) bytes) in
      let back : (offset + length bytes) + (i - (offset + length bytes)) ≡ i = omega arith in
      get_or-append_right (take offset image ++ bytes) (drop (offset + length bytes) image) (offset + length bytes) i 0 m ge
      ∙ get_or-drop (offset + length bytes) image (i - (offset + length bytes)) 0
      ∙ ap (λ k. get_or image k 0) back

-- bytes that are put over the same byte leave the same byte
pub patched-alike : (offset : ℕ) (bytes a b : List ℕ) (i : ℕ) → offset + length bytes ≤ length a → offset + length bytes ≤ length b → get_or a i 0 ≡ get_or b i 0
    → get_or (patched offset bytes a) i 0 ≡ get_or (patched offset bytes b) i 0
patched-alike offset bytes a b i fa fb e = elim (cases_lt i offset) [
  | inl lt ↦ before offset bytes a fa i lt ∙ e ∙ sym (before offset bytes b fb i lt)
  | inr ge ↦ elim (cases_lt i (offset + length bytes)) [
    | inl lt ↦ inside offset bytes a fa i ge lt ∙ sym (inside offset bytes b fb i ge lt)
    | inr gt ↦ behind offset bytes a fa i gt ∙ e ∙ sym (behind offset bytes b fb i gt)
  ]
]

-- bytes that are put over all of an image
pub patched-whole : (offset : ℕ) (bytes image : List ℕ) → offset ≡ 0 → length bytes ≡ length image → patched offset bytes image ≡ bytes
patched-whole offset bytes image z long =
    subst (λ n. patched n bytes image ≡ bytes) (sym z)
    (ap (λ xs. bytes ++ xs) (drop_all (0 + length bytes) image (omega arith)) ∙ append-nil bytes)

-- ---- records that fit

pub length-put : (size : ℕ) (log : List LogRecord) (image : List ℕ) → AllFit size log → length image ≡ size → length (put log image) ≡ size
length-put size [] image f e = e
length-put size (r ∷ older) image f e =
    let h = length-put size older image f.1 e in
    let g = f.0 in
    length-patched r.offset r.bytes (put older image) (omega arith) ∙ h

pub filter-fit : (size : ℕ) (p : LogRecord → Bool) (log : List LogRecord) → AllFit size log → AllFit size (filter p log)
filter-fit size p [] f = tt
filter-fit size p (r ∷ older) f = go (p r) (filter-fit size p older f.1)
  where
    go : (b : Bool) → AllFit size (filter p older) → AllFit size (cond b (r ∷ filter p older) (filter p older))
    go true ih = (f.0, ih)
    go false ih = ih

pub fit-parts : (size : ℕ) (newer older : List LogRecord) → AllFit size (newer ++ older) → AllFit size newer × AllFit size older
fit-parts size [] older f = (tt, f)
fit-parts size (r ∷ newer) older f = let h = fit-parts size newer older f.1 in ((f.0, h.0), h.1)

-- ---- records from an LSN on

abbrev pub from_lsn : ℕ → LogRecord → Bool
from_lsn from r = nat_le from r.lsn

-- below the LSN are all that are older than one below it
pub none-older : (from n : ℕ) (older : List LogRecord) → n < from → every (λ o. nat_le o.lsn n) older ≡ true → filter (from_lsn from) older ≡ []
none-older from n [] lt h = refl
none-older from n (r ∷ older) lt h =
    let a = and_parts (nat_le r.lsn n) (every (λ o. nat_le o.lsn n) older) h in
    let le = leb-true r.lsn n a.0 in
    let below : nat_le from r.lsn ≡ false = lt-leb from r.lsn (omega arith) in
    rw below (none-older from n older lt a.1)

-- no record from the LSN on is older than one below it
abbrev pub Ordered : ℕ → List LogRecord → Type 0
Ordered from log = EachEntry (λ older r. from_lsn from r ≡ false → filter (from_lsn from) older ≡ []) log

pub ordered-never_fall : (from : ℕ) (log : List LogRecord) → NeverFall log → Ordered from log
ordered-never_fall from [] n = tt
ordered-never_fall from (r ∷ older) n = record { here = λ b. none-older from r.lsn older (leb-false from r.lsn b) n.here; before = ordered-never_fall from older n.before }

pub ordered-zero : (log : List LogRecord) → Ordered 0 log
ordered-zero [] = tt
ordered-zero (r ∷ older) = record { here = λ b. (let lt = leb-false 0 r.lsn b in absurd (omega arith)); before = ordered-zero older }

-- The last record that covers a byte decides it: so the newer of the records, put once more, leave it.
module _ (size i from : ℕ) (x y : List ℕ) (lx : length x ≡ size) (ly : length y ≡ size) where
  put-settled : (log : List LogRecord) → AllFit size log → Ordered from log → get_or y i 0 ≡ get_or (put log x) i 0
      → get_or (put (filter (from_lsn from) log) y) i 0 ≡ get_or y i 0
  put-settled [] f n e = refl
  put-settled (r ∷ older) f n e = go (from_lsn from r) refl (put-settled older f.1 n.before)
    where
      fx : r.offset + length r.bytes ≤ length (put older x)
      fx = let h = length-put size older x f.1 lx in let g = f.0 in omega arith

      fy : r.offset + length r.bytes ≤ length (put (filter (from_lsn from) older) y)
      fy = let h = length-put size (filter (from_lsn from) older) y (filter-fit size (from_lsn from) older f.1) ly in let g = f.0 in omega arith

      covered : r.offset ≤ i → i < r.offset + length r.bytes → get_or (put (r ∷ filter (from_lsn from) older) y) i 0 ≡ get_or y i 0
      covered ge lt = inside r.offset r.bytes (put (filter (from_lsn from) older) y) fy i ge lt ∙ sym (e ∙ inside r.offset r.bytes (put older x) fx i ge lt)

      go : (b : Bool) → from_lsn from r ≡ b → (get_or y i 0 ≡ get_or (put older x) i 0 → get_or (put (filter (from_lsn from) older) y) i 0 ≡ get_or y i 0)
          → get_or (put (cond b (r ∷ filter (from_lsn from) older) (filter (from_lsn from) older)) y) i 0 ≡ get_or y i 0
      go false b ih = rw (n.here b) refl
      go true b ih = elim (cases_lt i r.offset) [
        | inl lt ↦ before r.offset r.bytes (put (filter (from_lsn from) older) y) fy i lt ∙ ih (e ∙ before r.offset r.bytes (put older x) fx i lt)
        | inr ge ↦ elim (cases_lt i (r.offset + length r.bytes)) [
          | inl lt ↦ covered ge lt
          | inr gt ↦ behind r.offset r.bytes (put (filter (from_lsn from) older) y) fy i gt ∙ ih (e ∙ behind r.offset r.bytes (put older x) fx i gt)
        ]
      ]

-- Redo is idempotent: an image that has all of the records is left as it is by those from an LSN on.
pub put-again : (from : ℕ) (log : List LogRecord) (x : List ℕ) → AllFit (length x) log → Ordered from log → put (filter (from_lsn from) log) (put log x) ≡ put log x
put-again from log x f n =
    let whole = length-put (length x) log x f refl in
    let again = length-put (length x) (filter (from_lsn from) log) (put log x) (filter-fit (length x) (from_lsn from) log f) whole in
    ext_get_or 0 _ _ (again ∙ sym whole) (λ i lt. put-settled (length x) i from x (put log x) refl whole log f n refl)

pub put-append : (newer older : List LogRecord) (x : List ℕ) → put (newer ++ older) x ≡ put newer (put older x)
put-append [] older x = refl
put-append (r ∷ newer) older x = ap (patched r.offset r.bytes) (put-append newer older x)

-- where all bytes of the page are in one record, nothing of the image is left
pub full-bytes : (full : LogRecord) (older : List LogRecord) (size : ℕ) (x : List ℕ) → full.offset ≡ 0 → length full.bytes ≡ size → AllFit size older → length x ≡ size → put (full ∷ older) x ≡ full.bytes
full-bytes full older size x z long fit is = patched-whole full.offset full.bytes (put older x) z (long ∙ sym (length-put size older x fit is))
