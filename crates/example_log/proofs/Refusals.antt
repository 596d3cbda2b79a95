-- Why what is refused is no log.
use Rattle.std.proofs.Common.{◌≡◌, ◌≢◌, refl, sym, ap, subst, ◌∙◌, ℕ, ◌+◌, ◌^◌, ◌<◌, ◌≤◌, List, [], ◌∷◌, ◌++◌, length, map, append_assoc, arith, length-append}
use Rattle.std.specs.Prelude.{Result, Ok, Err, IfErr, IsErrAnd}
use Rattle.std.proofs.lemmas.List.{length-map}
use Rattle.bp_trail.specs.declared.records.LogRecord.{LogRecord}
use Rattle.example_log.specs.declared.log.LogFault.{LogFault}
use Rattle.example_log.specs.declared.log.LogFault.TheVariants.{Memory}
use Rattle.example_log.specs.Commits.{change_bytes, payload_of, log_of, IsChange, AreChanges, AreCommits, HasCommits, NoChange, Tells}
use Rattle.example_log.specs.Frames.{number, frame, frames, IsRecord, NoFrame}
use Rattle.example_log.specs.Lives.{AreRecords}
use Rattle.example_log.proofs.CommitsRead.{Reads, Finds, change-parts, change-same, head-same, length-change}
use Rattle.example_log.proofs.Framing.{frame-same, length-number, number-same}
use Rattle.example_log.proofs.Lives.{records-behind}
use Rattle.example_log.proofs.CommitsRead.{head-is}

-- ---- no change stands at the front of bytes

abbrev behind : (r : LogRecord) (rest : List ℕ) → List ℕ
behind r rest = number (length r.bytes) ++ (r.bytes ++ rest)

module _ (bytes : List ℕ) (lsn : ℕ) where
  pub none-short : length bytes < 8 → NoChange lsn bytes
  none-short short = λ r rest is e. omega (arith, ap length e, length-append (change_bytes r) rest, length-change r)

  module _ (a : ℕ) (one : List ℕ) (told : bytes ≡ number a ++ one) (fa : a < 2 ^ 64) where
    page : (r : LogRecord) (rest : List ℕ) → IsChange lsn r → bytes ≡ change_bytes r ++ rest → one ≡ number r.offset ++ behind r rest
    page r rest is e = (number-same a r.page one (number r.offset ++ behind r rest) fa is.page (sym told ∙ e ∙ change-parts r rest)).1

    pub none-one : length one < 8 → NoChange lsn bytes
    none-one short = λ r rest is e. omega (arith, ap length (page r rest is e), length-append (number r.offset) (behind r rest), length-number r.offset)

    module _ (b : ℕ) (two : List ℕ) (told₂ : one ≡ number b ++ two) (fb : b < 2 ^ 64) where
      offset : (r : LogRecord) (rest : List ℕ) → IsChange lsn r → bytes ≡ change_bytes r ++ rest → (b ≡ r.offset) × (two ≡ behind r rest)
      offset r rest is e = let small = is.offset in number-same b r.offset two (behind r rest) fb (omega arith) (sym told₂ ∙ page r rest is e)

      pub none-two : length two < 8 → NoChange lsn bytes
      none-two short = λ r rest is e. omega (arith, ap length (offset r rest is e).1, length-append (number (length r.bytes)) (r.bytes ++ rest), length-number (length r.bytes))

      module _ (c : ℕ) (three : List ℕ) (told₃ : two ≡ number c ++ three) (fc : c < 2 ^ 64) where
        size : (r : LogRecord) (rest : List ℕ) → IsChange lsn r → bytes ≡ change_bytes r ++ rest → (c ≡ length r.bytes) × (three ≡ r.bytes ++ rest)
        size r rest is e = number-same c (length r.bytes) three (r.bytes ++ rest) fc is.size (sym told₃ ∙ (offset r rest is e).1)

        pub none-far : 2 ^ 32 ≤ b → NoChange lsn bytes
        none-far far = λ r rest is e. (let small = is.offset in omega (arith, (offset r rest is e).0))

        pub none-cut : length three < c → NoChange lsn bytes
        none-cut short = λ r rest is e. (let h = size r rest is e in omega (arith, h.0, ap length h.1, length-append r.bytes rest))

-- ---- the changes of a commit

walk : (lsn : ℕ) (xs ys : List LogRecord) (rest : List ℕ) → AreChanges lsn xs → AreChanges lsn ys → payload_of ys ≡ payload_of xs ++ rest → (more : List LogRecord) × (rest ≡ payload_of more) × AreChanges lsn more
walk lsn [] ys rest f g e = (ys, sym e, g)
walk lsn (x ∷ xs) [] rest f g e = let n : 0 ≡ length ((change_bytes x ++ payload_of xs) ++ rest) = ap (λ (t : List ℕ). length t) e in absurd (omega (arith, length-append (change_bytes x ++ payload_of xs) rest, length-append (change_bytes x) (payload_of xs), length-change x))
walk lsn (x ∷ xs) (y ∷ ys) rest f g e =
    let h = change-same lsn y x (payload_of ys) (payload_of xs ++ rest) g.0 f.0 (e ∙ append_assoc (change_bytes x) (payload_of xs) rest) in
    walk lsn xs ys rest f.1 g.1 h.1

pub no-changes : (lsn : ℕ) (payload rest : List ℕ) (old new : List LogRecord) → Reads lsn payload rest old new → rest ≢ [] → NoChange lsn rest → (cs : List LogRecord) → AreChanges lsn cs → payload ≢ payload_of cs
no-changes lsn payload rest old new so some none cs are = λ e. go (walk lsn so.changes cs rest so.are are (sym e ∙ so.told))
  where
    go : (more : List LogRecord) × (rest ≡ payload_of more) × AreChanges lsn more → ⊥
    go ([], e, f) = some e
    go (r ∷ more, e, f) = none r (payload_of more) f.0 e

-- ---- the records of a log

walk-records : (lsn : ℕ) (xs ys : List (List ℕ)) (r s : List ℕ) → AreRecords lsn xs → AreRecords lsn ys → NoFrame s → frames lsn xs ++ r ≡ frames lsn ys ++ s → (more : List (List ℕ)) × (ys ≡ xs ++ more) × (r ≡ frames (lsn + length xs) more ++ s)
walk-records lsn [] ys r s f g n e = let z : lsn ≡ lsn + 0 = omega arith in (ys, refl, e ∙ ap (λ (k : ℕ). frames k ys ++ s) z)
walk-records lsn (x ∷ xs) [] r s f g n e = absurd (n lsn x (frames (lsn + 1) xs ++ r) f.0 (sym e ∙ append_assoc (frame lsn x) (frames (lsn + 1) xs) r))
walk-records lsn (x ∷ xs) (y ∷ ys) r s f g n e =
    let h = frame-same lsn lsn x y (frames (lsn + 1) xs ++ r) (frames (lsn + 1) ys ++ s) f.0 g.0 (sym (append_assoc (frame lsn x) (frames (lsn + 1) xs) r) ∙ e ∙ append_assoc (frame lsn y) (frames (lsn + 1) ys) s) in
    let w = walk-records (lsn + 1) xs ys r s f.1 g.1 n h.2 in
    let z : (lsn + 1) + length xs ≡ lsn + length (x ∷ xs) = omega arith in
    (w.0, ap (λ (t : List ℕ). t ∷ ys) (sym h.1) ∙ ap (λ (t : List (List ℕ)). x ∷ t) w.1, w.2 ∙ ap (λ (k : ℕ). frames k w.0 ++ s) z)

commit-at : (lsn : ℕ) (xs : List (List LogRecord)) (ys : List (List ℕ)) (m : List ℕ) (ms : List (List ℕ)) → AreCommits lsn xs → map payload_of xs ≡ ys ++ m ∷ ms → (c : List LogRecord) × (m ≡ payload_of c) × AreChanges (lsn + length ys) c
commit-at lsn [] [] m ms f e = absurd cc
commit-at lsn [] (y ∷ ys) m ms f e = absurd cc
commit-at lsn (x ∷ xs) [] m ms f e = let z : lsn ≡ lsn + 0 = omega arith in (x, sym (head-same (payload_of x) m (map payload_of xs) ms e).0, subst (λ (n : ℕ). AreChanges n x) z f.0)
commit-at lsn (x ∷ xs) (y ∷ ys) m ms f e =
    let h = commit-at (lsn + 1) xs ys m ms f.1 (head-same (payload_of x) y (map payload_of xs) (ys ++ m ∷ ms) e).1 in
    let z : (lsn + 1) + length ys ≡ lsn + length (y ∷ ys) = omega arith in
    (h.0, h.1, subst (λ (n : ℕ). AreChanges n h.0) z h.2)

-- the record behind those that were read is the next of the log, if one is there
pub next-is : (table bytes : List ℕ) (first last : ℕ) (changes : List LogRecord) (rest : List ℕ) (lsn : ℕ) (payload after : List ℕ) → Finds table bytes first last changes rest → rest ≡ frame lsn payload ++ after → IsRecord lsn payload
    → (f l : ℕ) (cs : List LogRecord) → HasCommits table bytes f l cs → (lsn ≡ last + 1) × (c : List LogRecord) × (payload ≡ payload_of c) × AreChanges lsn c
next-is table bytes first last changes rest lsn payload after so e fit f l cs h = go walked.0 walked.1 walked.2
  where
    same : f ≡ first
    same =
        (frame-same f first table table (frames (f + 1) (map payload_of h.commits) ++ h.is_read.rest) (frames (first + 1) (map payload_of so.commits) ++ rest) h.is_read.records.0 so.records.0
        (sym (head-is table bytes f l cs h) ∙ so.told ∙ append_assoc (frame first table) (frames (first + 1) (map payload_of so.commits)) rest)).0

    walked : (more : List (List ℕ)) × (log_of table h.commits ≡ log_of table so.commits ++ more) × (rest ≡ frames (first + length (log_of table so.commits)) more ++ h.is_read.rest)
    walked =
        walk-records first (log_of table so.commits) (log_of table h.commits) rest h.is_read.rest so.records (subst (λ (n : ℕ). AreRecords n (log_of table h.commits)) same h.is_read.records) h.is_read.ends
        (sym so.told ∙ subst (λ (n : ℕ). bytes ≡ frames n (log_of table h.commits) ++ h.is_read.rest) same h.is_read.stands)

    go : (more : List (List ℕ)) → log_of table h.commits ≡ log_of table so.commits ++ more → rest ≡ frames (first + length (log_of table so.commits)) more ++ h.is_read.rest
        → (lsn ≡ last + 1) × (c : List LogRecord) × (payload ≡ payload_of c) × AreChanges lsn c
    go [] told stands = absurd (h.is_read.ends lsn payload after fit (sym stands ∙ e))
    go (m ∷ ms) told stands =
        let at = first + length (log_of table so.commits) in
        let records : AreRecords first (log_of table so.commits ++ m ∷ ms) = subst (AreRecords first) told (subst (λ (n : ℕ). AreRecords n (log_of table h.commits)) same h.is_read.records) in
        let next = frame-same lsn at payload m after (frames (at + 1) ms ++ h.is_read.rest) fit (records-behind first (log_of table so.commits) (m ∷ ms) records).0 (sym e ∙ stands ∙ append_assoc (frame at m) (frames (at + 1) ms) h.is_read.rest) in
        let c = commit-at (f + 1) h.commits (map payload_of so.commits) m ms h.are (head-same table table (map payload_of h.commits) (map payload_of so.commits ++ m ∷ ms) told).1 in
        let ended = so.last_is in
        let count : (f + 1) + length (map payload_of so.commits) ≡ lsn = omega (arith, next.0, length-map so.commits payload_of, same) in
        (omega (arith, next.0, length-map so.commits payload_of), c.0, next.1 ∙ c.1, subst (λ (n : ℕ). AreChanges n c.0) count c.2)

-- ---- refusals

still-tells : (fault : LogFault) (P Q : Type 0) → (P → Q) → Tells fault P → Tells fault Q
still-tells Memory P Q f h = tt
still-tells _ P Q f h = f h

pub refused-on : {A : Type 0} (r : Result A LogFault) (fault : LogFault) (P Q : Type 0) → IsErrAnd r (λ e. e ≡ fault) → (P → Q) → Tells fault P → IfErr r (λ why. Tells why Q)
refused-on (Ok x) fault P Q k f p = tt
refused-on (Err e) fault P Q k f p = subst (λ (x : LogFault). Tells x Q) (sym k) (still-tells fault P Q f p)
