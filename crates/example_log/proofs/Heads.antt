-- The head of a log.
use Rattle.std.proofs.Common.{◌≡◌, ◌≢◌, ◌∙◌, refl, sym, ap, subst, inl, inr, ℕ, ◌+◌, ◌-◌, List, [], ◌++◌, length, map, take, append_assoc, length-append, arith, Bool, true, false, not, Option, Some, None}
use Rattle.std.proofs.lemmas.List.{take_at}
use Rattle.std.specs.Prelude.{◌⊎◌, Result, Ok, Err, IfErr, IsErrAnd, IfSome, IfNone}
use Rattle.bp_trail.specs.declared.records.LogRecord.{LogRecord}
use Rattle.example_log.specs.declared.log.LogFault.{LogFault}
use Rattle.example_log.specs.declared.log.LogFault.TheVariants.{Memory, NoChanges}
use Rattle.example_log.specs.Commits.{AreChanges, HasCommits, Tells, payload_of}
use Rattle.example_log.specs.Heads.{Behind, OtherHead, ReadFault}
use Rattle.example_log.specs.Heads.ReadFault.{memory, no_changes}
use Rattle.example_log.proofs.Framing.{frame-same}
use Rattle.example_log.proofs.CommitsRead.{head-is}
use Rattle.std.specs.Int.{w64, to_le_bytes}
use Rattle.example_log.specs.Frames.{number, frames, NoFrame}

pub unnot : (b : Bool) → not b ≡ false → b ≡ true
unnot true e = refl
unnot false e = absurd cc

pub untrue : (b : Bool) → b ≡ true → not b ≡ true → ⊥
untrue true e f = absurd cc
untrue false e f = absurd cc

pub put-head : (none one two three four : List ℕ) (size pages bytes : ℕ) (table : List ℕ) → none ≡ [] → one ≡ none ++ to_le_bytes w64 size → two ≡ one ++ to_le_bytes w64 pages → three ≡ two ++ to_le_bytes w64 bytes → four ≡ three ++ table
    → four ≡ number size ++ (number pages ++ (number bytes ++ table))
unfolding number
put-head none one two three four size pages bytes table z a b c d =
    let s = to_le_bytes w64 size in
    let p = to_le_bytes w64 pages in
    let n = to_le_bytes w64 bytes in
    d ∙ ap (λ (t : List ℕ). t ++ table) (c ∙ ap (λ (t : List ℕ). t ++ n) (b ∙ ap (λ (t : List ℕ). t ++ p) (a ∙ ap (λ (t : List ℕ). t ++ s) z))) ∙ regroup s p n table
  where
    regroup : (a b c d : List ℕ) → ((a ++ b) ++ c) ++ d ≡ a ++ (b ++ (c ++ d))
    regroup a b c d = simp append_assoc

pub some-of : {A : Type 0} (o : Option A) (x : A) (P : A → Type 0) → o ≡ Some x → IfSome o P → P x
some-of o x P e h = subst (λ q. IfSome q P) e h

pub none-of : {A : Type 0} (o : Option A) (Q : Type 0) → o ≡ None → IfNone o Q → Q
none-of o Q e h = subst (λ q. IfNone q Q) e h

-- what stands before the rest
pub before-rest : (bytes front rest : List ℕ) → bytes ≡ front ++ rest → take (length bytes - length rest) bytes ≡ front
before-rest bytes front rest e =
    let size : length bytes - length rest ≡ length front = omega (arith, ap (λ (t : List ℕ). length t) e, length-append front rest) in
    ap (λ (n : ℕ). take n bytes) size ∙ ap (take (length front)) e ∙ take_at front rest (length front) refl

-- ---- another head

pub no-log : (head bytes : List ℕ) → NoFrame bytes → (f l : ℕ) (cs : List LogRecord) → HasCommits head bytes f l cs → ⊥
no-log head bytes none f l cs h = none f head (frames (f + 1) (map payload_of h.commits) ++ h.is_read.rest) h.is_read.records.0 (head-is head bytes f l cs h)

pub other-head : (head bytes : List ℕ) (why : LogFault) → OtherHead head bytes why → (f l : ℕ) (cs : List LogRecord) → HasCommits head bytes f l cs → ⊥
other-head head bytes why o f l cs h =
    o.differs (sym (frame-same f o.lsn head o.payload (frames (f + 1) (map payload_of h.commits) ++ h.is_read.rest) o.rest h.is_read.records.0 o.is_record (sym (head-is head bytes f l cs h) ∙ o.stands)).1)

pub tells-any : (fault : LogFault) (P : Type 0) → P → Tells fault P
tells-any Memory P p = tt
tells-any _ P p = p

pub err-of : {A : Type 0} (r : Result A LogFault) (fault : LogFault) (P : LogFault → Type 0) → IsErrAnd r (λ e. e ≡ fault) → P fault → IfErr r P
err-of (Ok x) fault P k p = tt
err-of (Err e) fault P k p = subst P (sym k) p

-- why no changes were read behind the records so far
pub changes-fault : (why : LogFault) (head bytes : List ℕ) (commits : List (List LogRecord)) (first lsn : ℕ) (payload : List ℕ) → Behind head bytes commits first lsn payload → (why ≡ Memory) ⊎ (why ≡ NoChanges)
    → Tells why ((changes : List LogRecord) → AreChanges lsn changes → payload ≢ payload_of changes) → ReadFault head bytes why
changes-fault why head bytes commits first lsn payload at (inl e) told = subst (ReadFault head bytes) (sym e) memory
changes-fault why head bytes commits first lsn payload at (inr e) told =
    subst (ReadFault head bytes) (sym e) (no_changes {commits = commits} at (subst (λ w. Tells w ((changes : List LogRecord) → AreChanges lsn changes → payload ≢ payload_of changes)) e told))
