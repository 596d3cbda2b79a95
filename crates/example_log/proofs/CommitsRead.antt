-- What is read of commits.
use Rattle.std.proofs.Common.{◌≡◌, Bool, false, ℕ, ◌+◌, ◌-◌, ◌^◌, ◌<◌, ◌≤◌, List, [], ◌∷◌, ◌++◌, length, map, take, drop, refl, sym, ap, subst, ◌∙◌, append_assoc, append-nil, arith, length-append}
use Rattle.std.specs.Int.{w64, to_le_bytes}
use Rattle.std.proofs.lemmas.List.{map_push, take-append-drop, length-take, take_at, append_cancel_left, length_push, length-map}
use Rattle.bp_trail.specs.declared.records.LogRecord.{LogRecord}
use Rattle.example_log.specs.Frames.{number, frame, frames, IsRecord, NoFrame}
use Rattle.example_log.specs.Lives.{AreRecords, LogLife, Reopened, TellsTrue}
use Rattle.example_log.specs.Commits.{change_bytes, payload_of, log_of, changes_of, IsChange, AreChanges, AreCommits, HasCommits, Kept}
use Rattle.example_log.proofs.Framing.{length-number, length-frame, number-same}
use Rattle.example_log.specs.Files.{FileCall, FileLeaves, synced, written}
use Rattle.example_log.proofs.Lives.{frames-push, records-append, life-is, next, front, enough, remains}

-- what was put behind bytes, number by number
pub put-change : (old one two three four bytes : List ℕ) (r : LogRecord) → one ≡ old ++ to_le_bytes w64 r.page → two ≡ one ++ to_le_bytes w64 r.offset → three ≡ two ++ to_le_bytes w64 (length bytes) → four ≡ three ++ bytes
    → bytes ≡ r.bytes → four ≡ old ++ change_bytes r
unfolding number
put-change old one two three four bytes r a b c d e =
    let p = to_le_bytes w64 r.page in
    let o = to_le_bytes w64 r.offset in
    let n = to_le_bytes w64 (length bytes) in
    d ∙ ap (λ (t : List ℕ). t ++ bytes) (c ∙ ap (λ (t : List ℕ). t ++ n) (b ∙ ap (λ (t : List ℕ). t ++ o) a))
    ∙ regroup old p o n bytes ∙ ap (λ (k : List ℕ). old ++ (p ++ (o ++ (to_le_bytes w64 (length k) ++ k)))) e
  where
    regroup : (o a b c d : List ℕ) → (((o ++ a) ++ b) ++ c) ++ d ≡ o ++ (a ++ (b ++ (c ++ d)))
    regroup o a b c d = simp append_assoc

pub change-parts : (r : LogRecord) (rest : List ℕ) → change_bytes r ++ rest ≡ number r.page ++ (number r.offset ++ (number (length r.bytes) ++ (r.bytes ++ rest)))
change-parts r rest = simp append_assoc

-- a change that is read from the front of bytes
pub change-told : (bytes one two three front rest : List ℕ) (page offset size : ℕ) (r : LogRecord) → bytes ≡ number page ++ one → one ≡ number offset ++ two → two ≡ number size ++ three → size ≤ length three
    → front ≡ take size three → rest ≡ drop size three → r.page ≡ page → r.offset ≡ offset → r.bytes ≡ front → bytes ≡ change_bytes r ++ rest
change-told bytes one two three front rest page offset size r a b c fits fr re p o y =
    let body : r.bytes ≡ take size three = y ∙ fr in
    let long : length r.bytes ≡ size = ap (λ (t : List ℕ). length t) body ∙ omega (arith, length-take size three) in
    let ends : three ≡ r.bytes ++ rest = sym (ap (λ (t : List ℕ). t ++ rest) body ∙ ap (λ (t : List ℕ). take size three ++ t) re ∙ take-append-drop size three) in
    a ∙ ap (λ (n : ℕ). number n ++ one) (sym p)
    ∙ ap (λ (t : List ℕ). number r.page ++ t) (b ∙ ap (λ (n : ℕ). number n ++ two) (sym o)
    ∙ ap (λ (t : List ℕ). number r.offset ++ t) (c ∙ ap (λ (n : ℕ). number n ++ three) (sym long) ∙ ap (λ (t : List ℕ). number (length r.bytes) ++ t) ends))
    ∙ sym (change-parts r rest)

pub length-change : (r : LogRecord) → length (change_bytes r) ≡ 24 + length r.bytes
length-change r =
    omega (
      arith,
      length-append (number r.page) (number r.offset ++ (number (length r.bytes) ++ r.bytes)),
      length-append (number r.offset) (number (length r.bytes) ++ r.bytes),
      length-append (number (length r.bytes)) r.bytes,
      length-number r.page,
      length-number r.offset,
      length-number (length r.bytes),
    )

pub shorter : (bytes rest : List ℕ) (r : LogRecord) → bytes ≡ change_bytes r ++ rest → length rest < length bytes
shorter bytes rest r e = omega (arith, ap (λ (t : List ℕ). length t) e, length-append (change_bytes r) rest, length-change r)

pub shorter-frame : (bytes rest : List ℕ) (lsn : ℕ) (payload : List ℕ) → bytes ≡ frame lsn payload ++ rest → length rest < length bytes
shorter-frame bytes rest lsn payload e = omega (arith, ap (λ (t : List ℕ). length t) e, length-append (frame lsn payload) rest, length-frame lsn payload)

pub payload-push : (rs : List LogRecord) (r : LogRecord) → payload_of (rs ++ r ∷ []) ≡ payload_of rs ++ change_bytes r
payload-push [] r = append-nil (change_bytes r)
payload-push (s ∷ rs) r = ap (λ (t : List ℕ). change_bytes s ++ t) (payload-push rs r) ∙ sym (append_assoc (change_bytes s) (payload_of rs) (change_bytes r))

pub changes-push : (lsn : ℕ) (rs : List LogRecord) (r : LogRecord) → AreChanges lsn rs → IsChange lsn r → AreChanges lsn (rs ++ r ∷ [])
changes-push lsn [] r f g = (g, tt)
changes-push lsn (s ∷ rs) r f g = (f.0, changes-push lsn rs r f.1 g)

pub commits-push : (lsn : ℕ) (cs : List (List LogRecord)) (c : List LogRecord) → AreCommits lsn cs → AreChanges (lsn + length cs) c → AreCommits lsn (cs ++ c ∷ [])
commits-push lsn [] c f g = let e : lsn + 0 ≡ lsn = omega arith in (subst (λ (n : ℕ). AreChanges n c) e g, tt)
commits-push lsn (d ∷ cs) c f g =
    let e : lsn + length (d ∷ cs) ≡ (lsn + 1) + length cs = omega arith in
    (f.0, commits-push (lsn + 1) cs c f.1 (subst (λ (n : ℕ). AreChanges n c) e g))

pub changes_of-push : (cs : List (List LogRecord)) (c : List LogRecord) → changes_of (cs ++ c ∷ []) ≡ changes_of cs ++ c
changes_of-push [] c = append-nil c
changes_of-push (d ∷ cs) c = ap (λ (t : List LogRecord). d ++ t) (changes_of-push cs c) ∙ sym (append_assoc d (changes_of cs) c)

-- ---- the loop over the changes of a commit

pub record Reads (lsn : ℕ) (payload rest : List ℕ) (old new : List LogRecord) : Type 0 where
  pub changes : List LogRecord
  pub told : payload ≡ payload_of changes ++ rest
  pub are : AreChanges lsn changes
  pub new_is : new ≡ old ++ changes

pub reads-first : (lsn : ℕ) (payload : List ℕ) (old : List LogRecord) → Reads lsn payload payload old old
reads-first lsn payload old = record { changes = []; told = refl; are = tt; new_is = sym (append-nil old) }

pub reads-next : (lsn : ℕ) (payload rest after : List ℕ) (old mid new : List LogRecord) (r : LogRecord) → Reads lsn payload rest old mid → rest ≡ change_bytes r ++ after → IsChange lsn r → new ≡ mid ++ r ∷ [] → Reads lsn payload after old new
reads-next lsn payload rest after old mid new r so told fits is = record {
  changes = so.changes ++ r ∷ [];
  told = so.told ∙ ap (λ (t : List ℕ). payload_of so.changes ++ t) told ∙ sym (append_assoc (payload_of so.changes) (change_bytes r) after) ∙ ap (λ (t : List ℕ). t ++ after) (sym (payload-push so.changes r));
  are = changes-push lsn so.changes r so.are fits;
  new_is = is ∙ ap (λ (t : List LogRecord). t ++ r ∷ []) so.new_is ∙ append_assoc old so.changes (r ∷ []);
}

pub reads-all : (lsn : ℕ) (payload rest : List ℕ) (old new : List LogRecord) → Reads lsn payload rest old new → rest ≡ [] → (changes : List LogRecord) × (new ≡ old ++ changes) × (payload ≡ payload_of changes) × AreChanges lsn changes
reads-all lsn payload rest old new so e = (so.changes, so.new_is, so.told ∙ ap (λ (t : List ℕ). payload_of so.changes ++ t) e ∙ append-nil (payload_of so.changes), so.are)

-- ---- the loop over the records of a log

pub record Finds (table bytes : List ℕ) (first last : ℕ) (changes : List LogRecord) (rest : List ℕ) : Type 0 where
  pub commits : List (List LogRecord)
  pub told : bytes ≡ frames first (log_of table commits) ++ rest
  pub records : AreRecords first (log_of table commits)
  pub are : AreCommits (first + 1) commits
  pub last_is : last ≡ first + length commits
  pub changes_are : changes ≡ changes_of commits

pub finds-first : (table head bytes rest : List ℕ) (first : ℕ) (changes : List LogRecord) → bytes ≡ frame first head ++ rest → IsRecord first head → head ≡ table → changes ≡ [] → Finds table bytes first first changes rest
finds-first table head bytes rest first changes told fits same none = record {
  commits = [];
  told = told ∙ ap (λ (t : List ℕ). frame first t ++ rest) same ∙ ap (λ (t : List ℕ). t ++ rest) (sym (append-nil (frame first table)));
  records = (subst (IsRecord first) same fits, tt);
  are = tt;
  last_is = omega arith;
  changes_are = none;
}

pub finds-next : (table bytes : List ℕ) (first last lsn : ℕ) (changes new commit : List LogRecord) (payload rest after : List ℕ) → Finds table bytes first last changes rest → rest ≡ frame lsn payload ++ after → IsRecord lsn payload → lsn - 1 ≡ last
    → new ≡ changes ++ commit → payload ≡ payload_of commit → AreChanges lsn commit → Finds table bytes first lsn new after
finds-next table bytes first last lsn changes new commit payload rest after so told fits next is same are =
    let log = log_of table so.commits in
    let count : length log ≡ 1 + length so.commits = omega (arith, length-map so.commits payload_of) in
    let positive = fits.positive in
    let ended = so.last_is in
    let lsn-is : lsn ≡ first + length log = omega arith in
    let pushed : log_of table (so.commits ++ commit ∷ []) ≡ log ++ payload_of commit ∷ [] = ap (λ (t : List (List ℕ)). table ∷ t) (map_push payload_of so.commits commit) in
    let framed : frame lsn payload ≡ frame (first + length log) (payload_of commit) = ap (λ (n : ℕ). frame n payload) lsn-is ∙ ap (frame (first + length log)) same in
    let here : IsRecord (first + length log) (payload_of commit) = subst (IsRecord (first + length log)) same (subst (λ (n : ℕ). IsRecord n payload) lsn-is fits) in
    let under : lsn ≡ (first + 1) + length so.commits = omega arith in
    record {
      commits = so.commits ++ commit ∷ [];
      told = so.told ∙ ap (λ (t : List ℕ). frames first log ++ t) (told ∙ ap (λ (t : List ℕ). t ++ after) framed) ∙ sym (append_assoc (frames first log) (frame (first + length log) (payload_of commit)) after)
          ∙ ap (λ (t : List ℕ). t ++ after) (sym (ap (frames first) pushed ∙ frames-push first log (payload_of commit)));
      records = subst (AreRecords first) (sym pushed) (records-append first log (payload_of commit ∷ []) so.records (here, tt));
      are = commits-push (first + 1) so.commits commit so.are (subst (λ (n : ℕ). AreChanges n commit) under are);
      last_is = omega (arith, length_push so.commits commit);
      changes_are = is ∙ ap (λ (t : List LogRecord). t ++ commit) so.changes_are ∙ sym (changes_of-push so.commits commit);
    }

pub finds-all : (table bytes : List ℕ) (first last : ℕ) (changes : List LogRecord) (rest records : List ℕ) (so : Finds table bytes first last changes rest) → NoFrame rest → records ≡ frames first (log_of table so.commits)
    → (h : HasCommits table bytes first last changes) × (records ≡ frames first (log_of table h.commits))
finds-all table bytes first last changes rest records so none told = (
  record {
    commits = so.commits;
    is_read = record { rest = rest; stands = so.told; records = so.records; ends = none };
    are = so.are;
    last_is = so.last_is;
    changes_are = so.changes_are;
  },
  told,
)

-- ---- the same payloads are the same commits

same-record : (x y : LogRecord) → x.page ≡ y.page → x.offset ≡ y.offset → x.bytes ≡ y.bytes → x.lsn ≡ y.lsn → x ≡ y
same-record x y p o b l =
    ap (λ (n : ℕ). record { page = n; offset = x.offset; bytes = x.bytes; lsn = x.lsn }) p
    ∙ ap (λ (n : ℕ). record { page = y.page; offset = n; bytes = x.bytes; lsn = x.lsn }) o
    ∙ ap (λ (t : List ℕ). record { page = y.page; offset = y.offset; bytes = t; lsn = x.lsn }) b
    ∙ ap (λ (n : ℕ). record { page = y.page; offset = y.offset; bytes = y.bytes; lsn = n }) l

pub change-same : (lsn : ℕ) (x y : LogRecord) (r s : List ℕ) → IsChange lsn x → IsChange lsn y → change_bytes x ++ r ≡ change_bytes y ++ s → (x ≡ y) × (r ≡ s)
change-same lsn x y r s fx fy e =
    let one = number-same x.page y.page (number x.offset ++ (number (length x.bytes) ++ (x.bytes ++ r))) (number y.offset ++ (number (length y.bytes) ++ (y.bytes ++ s))) fx.page fy.page (sym (change-parts x r) ∙ e ∙ change-parts y s) in
    let two = number-same x.offset y.offset (number (length x.bytes) ++ (x.bytes ++ r)) (number (length y.bytes) ++ (y.bytes ++ s)) (wide x fx) (wide y fy) one.1 in
    let three = number-same (length x.bytes) (length y.bytes) (x.bytes ++ r) (y.bytes ++ s) fx.size fy.size two.1 in
    let bytes : x.bytes ≡ y.bytes = sym (take_at x.bytes r (length x.bytes) refl) ∙ ap (take (length x.bytes)) three.1 ∙ take_at y.bytes s (length x.bytes) (sym three.0) in
    (same-record x y one.0 two.0 bytes (fx.under ∙ sym fy.under), append_cancel_left y.bytes r s (subst (λ (t : List ℕ). t ++ r ≡ y.bytes ++ s) bytes three.1))
  where
    wide : (z : LogRecord) → IsChange lsn z → z.offset < 2 ^ 64
    wide z f = let small = f.offset in omega arith

pub payload-same : (lsn : ℕ) (xs ys : List LogRecord) → AreChanges lsn xs → AreChanges lsn ys → payload_of xs ≡ payload_of ys → xs ≡ ys
payload-same lsn [] [] f g e = refl
payload-same lsn [] (y ∷ ys) f g e = let n : 0 ≡ length (change_bytes y ++ payload_of ys) = ap (λ (t : List ℕ). length t) e in absurd (omega (arith, length-append (change_bytes y) (payload_of ys), length-change y))
payload-same lsn (x ∷ xs) [] f g e = let n : length (change_bytes x ++ payload_of xs) ≡ 0 = ap (λ (t : List ℕ). length t) e in absurd (omega (arith, length-append (change_bytes x) (payload_of xs), length-change x))
payload-same lsn (x ∷ xs) (y ∷ ys) f g e =
    let h = change-same lsn x y (payload_of xs) (payload_of ys) f.0 g.0 e in
    ap (λ (r : LogRecord). r ∷ xs) h.0 ∙ ap (λ (t : List LogRecord). y ∷ t) (payload-same lsn xs ys f.1 g.1 h.1)

pub head-same : (x y : List ℕ) (xs ys : List (List ℕ)) → x ∷ xs ≡ y ∷ ys → (x ≡ y) × (xs ≡ ys)
head-same x y xs ys e = let a : x ≡ y = cc in let b : xs ≡ ys = cc in (a, b)

commits-front : (lsn : ℕ) (xs ys : List (List LogRecord)) (more : List (List ℕ)) → AreCommits lsn xs → AreCommits lsn ys → map payload_of xs ≡ map payload_of ys ++ more → (lost : List (List LogRecord)) × (xs ≡ ys ++ lost)
commits-front lsn xs [] more f g e = (xs, refl)
commits-front lsn [] (y ∷ ys) more f g e = absurd cc
commits-front lsn (x ∷ xs) (y ∷ ys) more f g e =
    let h = head-same (payload_of x) (payload_of y) (map payload_of xs) (map payload_of ys ++ more) e in
    let first : x ≡ y = payload-same lsn x y f.0 g.0 h.0 in
    let rest = commits-front (lsn + 1) xs ys more f.1 g.1 h.1 in
    (rest.0, ap (λ (c : List LogRecord). c ∷ xs) first ∙ ap (λ (t : List (List LogRecord)). y ∷ t) rest.1)

pub whole-commits : (table first left : List ℕ) (start durable : ℕ) (alive : Bool) (calls later : List FileCall) (commits : List (List LogRecord)) (kept : List (List ℕ)) (n found last : ℕ) (changes : List LogRecord)
    → LogLife first start alive calls (log_of table commits) durable → AreCommits (start + 1) commits → Reopened first start calls (log_of table commits) durable later kept n → FileLeaves first later left
    → TellsTrue start (synced first later) (written first later) left → HasCommits table left found last changes → Kept start durable commits found last changes
whole-commits table first left start durable alive calls later commits kept n found last changes life are reopened leaves tells has =
    let r = remains first start (log_of table commits) durable alive calls (life-is first start alive calls (log_of table commits) durable life) later kept n reopened in
    let read = has.is_read in
    let log = log_of table has.commits in
    let opening : left ≡ frames start [] ++ (frame found table ++ (frames (found + 1) (map payload_of has.commits) ++ read.rest)) = read.stands ∙ append_assoc (frame found table) (frames (found + 1) (map payload_of has.commits)) read.rest in
    let first_one = next first start false later kept n left r.is leaves tells [] kept refl found table (frames (found + 1) (map payload_of has.commits) ++ read.rest) read.records.0 opening in
    let same : found ≡ start = first_one.3 ∙ omega arith in
    let records : AreRecords start log = subst (λ (k : ℕ). AreRecords k log) same read.records in
    let stands : left ≡ frames start log ++ read.rest = subst (λ (k : ℕ). left ≡ frames k log ++ read.rest) same read.stands in
    let f = front first start false later kept n left r.is leaves tells log read.rest records stands in
    let all : log_of table commits ≡ log ++ (f.0 ++ r.lost) = r.stands ∙ ap (λ (xs : List (List ℕ)). xs ++ r.lost) f.1 ∙ append_assoc log f.0 r.lost in
    let h = head-same table table (map payload_of commits) (map payload_of has.commits ++ (f.0 ++ r.lost)) all in
    let c = commits-front (start + 1) commits has.commits (f.0 ++ r.lost) are (subst (λ (k : ℕ). AreCommits (k + 1) has.commits) same has.are) h.1 in
    let e = enough first start false later kept n left r.is leaves tells log f.0 read.rest f.1 stands read.ends in
    let durably = r.durably in
    record {
      kept = has.commits;
      lost = c.0;
      stands = c.1;
      durably = omega (arith, e, length-map has.commits payload_of);
      first_is = same;
      last_is = has.last_is ∙ ap (λ (k : ℕ). k + length has.commits) same;
      changes_are = has.changes_are;
    }

-- the first record stands at the front
pub head-is : (table bytes : List ℕ) (f l : ℕ) (cs : List LogRecord) (h : HasCommits table bytes f l cs) → bytes ≡ frame f table ++ (frames (f + 1) (map payload_of h.commits) ++ h.is_read.rest)
head-is table bytes f l cs h = h.is_read.stands ∙ append_assoc (frame f table) (frames (f + 1) (map payload_of h.commits)) h.is_read.rest
