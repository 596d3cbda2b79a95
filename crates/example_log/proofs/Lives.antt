-- What a crash leaves of a log.
use Rattle.std.proofs.Common.{◌≡◌, inl, inr, ℕ, zero, suc, ◌+◌, ◌-◌, ◌<◌, ◌≤◌, Bool, true, false, cond, not, ◌||◌, List, [], ◌∷◌, ◌++◌, length, take, drop, replicate, get_or, refl, sym, ap, subst, ◌∙◌, append_assoc, append-nil, arith, length-append}
use Rattle.std.specs.Prelude.{◌⊎◌}
use Rattle.std.specs.Bool.{MatchBool}
use Rattle.std.proofs.lemmas.Bool.{cases_lt}
use Rattle.std.proofs.lemmas.List.{take_at, drop_at, drop-drop, take-append-drop, take-append-le, take_all, drop_all, length-take-le, drop-replicate, length-replicate, append_cancel_left, ext_get_or, get_or-take, get_or_append_left, length_push}
use Rattle.bp_page.specs.Patched.{patched}
use Rattle.example_log.specs.Frames.{frame, frames, IsRecord, NoFrame}
use Rattle.example_log.specs.Files.{FileCall, failed, written, settles, synced, Unsure, FileLeaves}
use Rattle.example_log.specs.Files.FileCall.{Write, Again, Wipe, Sync}
use Rattle.example_log.specs.Lives.{LogLife, AreRecords, IsRead, Reopened, SameAt, TellsTrue, whole}
use Rattle.example_log.specs.Lives.LogLife.{wiped, appended, synced as was_synced, unsynced, closed}
use Rattle.example_log.specs.Lives.Reopened.{ended, again, synced as was_settled}
use Rattle.example_log.proofs.Framing.{frame-same, zeros-none}

-- ---- records one after the other

pub frames-append : (start : ℕ) (xs ys : List (List ℕ)) → frames start (xs ++ ys) ≡ frames start xs ++ frames (start + length xs) ys
frames-append start [] ys = let e : start ≡ start + 0 = omega arith in ap (λ (n : ℕ). frames n ys) e
frames-append start (x ∷ xs) ys =
    let e : (start + 1) + length xs ≡ start + suc (length xs) = omega arith in
    ap (λ (t : List ℕ). frame start x ++ t) (frames-append (start + 1) xs ys ∙ ap (λ (n : ℕ). frames (start + 1) xs ++ frames n ys) e)
    ∙ sym (append_assoc (frame start x) (frames (start + 1) xs) (frames (start + suc (length xs)) ys))

pub frames-push : (start : ℕ) (xs : List (List ℕ)) (y : List ℕ) → frames start (xs ++ y ∷ []) ≡ frames start xs ++ frame (start + length xs) y
frames-push start xs y = frames-append start xs (y ∷ []) ∙ ap (λ (t : List ℕ). frames start xs ++ t) (append-nil (frame (start + length xs) y))

pub records-append : (start : ℕ) (xs ys : List (List ℕ)) → AreRecords start xs → AreRecords (start + length xs) ys → AreRecords start (xs ++ ys)
records-append start [] ys f g = let e : start + 0 ≡ start = omega arith in subst (λ (n : ℕ). AreRecords n ys) e g
records-append start (x ∷ xs) ys f g =
    let e : start + suc (length xs) ≡ (start + 1) + length xs = omega arith in
    (f.0, records-append (start + 1) xs ys f.1 (subst (λ (n : ℕ). AreRecords n ys) e g))

pub records-behind : (start : ℕ) (xs ys : List (List ℕ)) → AreRecords start (xs ++ ys) → AreRecords (start + length xs) ys
records-behind start [] ys f = let e : start ≡ start + 0 = omega arith in subst (λ (n : ℕ). AreRecords n ys) e f
records-behind start (x ∷ xs) ys f =
    let e : (start + 1) + length xs ≡ start + suc (length xs) = omega arith in
    subst (λ (n : ℕ). AreRecords n ys) e (records-behind (start + 1) xs ys f.1)

frames-front : (start n : ℕ) (log : List (List ℕ)) → length (frames start (take n log)) ≤ length (frames start log)
frames-front start n log =
    let parts = ap (λ (xs : List (List ℕ)). length (frames start xs)) (sym (take-append-drop n log)) ∙ ap (λ (t : List ℕ). length t) (frames-append start (take n log) (drop n log)) in
    omega (arith, parts, length-append (frames start (take n log)) (frames (start + length (take n log)) (drop n log)))

-- zeros in place of which bytes are put
patched-next : (a b : List ℕ) (m : ℕ) → length b ≤ m → patched (length a) b (a ++ replicate m 0) ≡ (a ++ b) ++ replicate (m - length b) 0
patched-next a b m fits =
    let zeros : List ℕ = replicate m 0 in
    let front : take (length a) (a ++ zeros) ≡ a = take_at a zeros (length a) refl in
    let split : drop (length a + length b) (a ++ zeros) ≡ drop (length b) (drop (length a) (a ++ zeros)) = sym (drop-drop-of (length a) (length b) (a ++ zeros)) in
    let behind : drop (length a + length b) (a ++ zeros) ≡ replicate (m - length b) 0 = split ∙ ap (drop (length b)) (drop_at a zeros (length a) refl) ∙ drop-replicate (length b) m 0 in
    ap (λ (t : List ℕ). (t ++ b) ++ drop (length a + length b) (a ++ zeros)) front ∙ ap (λ (t : List ℕ). (a ++ b) ++ t) behind
  where
    drop-drop-of : (i j : ℕ) (xs : List ℕ) → drop j (drop i xs) ≡ drop (i + j) xs
    drop-drop-of i j xs = drop-drop j i xs

-- ---- what its calls leave in the file

pub record LifeIs (first : List ℕ) (start : ℕ) (alive : Bool) (calls : List FileCall) (log : List (List ℕ)) (durable : ℕ) : Type 0 where
  pub room : length (frames start log) ≤ length first
  pub written_is : written first calls ≡ frames start log ++ replicate (length first - length (frames start log)) 0
  pub synced_is : synced first calls ≡ frames start (take durable log) ++ replicate (length first - length (frames start (take durable log))) 0
  pub unsure : (i : ℕ) → Unsure calls i → length (frames start (take durable log)) ≤ i
  pub count : durable ≤ length log
  pub records : AreRecords start log
  pub good : alive ≡ true → failed calls ≡ false

settled : (calls : List FileCall) → failed calls ≡ false → settles true calls ≡ true
settled calls good = ap not good

chosen : {A : Type 0} (b : Bool) (x y : A) → b ≡ true → cond b x y ≡ x
chosen true x y e = refl
chosen false x y e = absurd cc

nothing : (b : Bool) (P : Type 0) → b ≡ true → MatchBool b ⊥ P → ⊥
nothing true P e h = h
nothing false P e h = absurd cc

either-is : (a b : Bool) → a ≡ false → b ≡ false → (a || b) ≡ false
either-is true b e f = absurd cc
either-is false b e f = f

module _ (first : List ℕ) (start : ℕ) where
  abbrev N : ℕ
  N = length first

  begins : (before : List FileCall) → length (written first before) ≡ N → LifeIs first start true (Sync true ∷ Wipe N true ∷ before) [] 0
  begins before long =
      let wipe : List FileCall = Wipe N true ∷ before in
      let zeros : List ℕ = replicate N 0 in
      let none : drop (0 + length zeros) (written first before) ≡ [] = drop_all (0 + length zeros) (written first before) (omega (arith, length-replicate {A = ℕ} N 0)) in
      let whole : written first wipe ≡ replicate (N - 0) 0 = ap (λ (t : List ℕ). zeros ++ t) none ∙ append-nil zeros ∙ ap (λ (n : ℕ). replicate n 0) (omega arith) in
      record {
        room = omega arith;
        written_is = whole;
        synced_is = chosen (settles true wipe) (written first wipe) (synced first wipe) (settled wipe refl) ∙ whole;
        unsure = λ i h. absurd (nothing (settles true wipe) (Unsure wipe i) (settled wipe refl) h);
        count = omega arith;
        records = tt;
        good = λ _. refl;
      }

  module _ (calls : List FileCall) (log : List (List ℕ)) (durable : ℕ) (is : LifeIs first start true calls log durable) where
    grows : (payload : List ℕ) (good : Bool) → IsRecord (start + length log) payload
        → length (frames start log) + length (frame (start + length log) payload) ≤ N
        → LifeIs first start good (Write (length (frames start log)) (frame (start + length log) payload) good ∷ calls) (log ++ payload ∷ []) durable
    grows payload good fit room =
        let old = frames start log in
        let new = frame (start + length log) payload in
        let pushed : frames start (log ++ payload ∷ []) ≡ old ++ new = frames-push start log payload in
        let size : length (frames start (log ++ payload ∷ [])) ≡ length old + length new = ap (λ (t : List ℕ). length t) pushed ∙ length-append old new in
        let same : take durable (log ++ payload ∷ []) ≡ take durable log = take-append-le durable log (payload ∷ []) is.count in
        let left : (N - length old) - length new ≡ N - length (frames start (log ++ payload ∷ [])) = omega arith in
        let front = frames-front start durable log in
        record {
          room = omega arith;
          written_is = ap (patched (length old) new) is.written_is ∙ patched-next old new (N - length old) (omega arith)
              ∙ ap (λ (t : List ℕ). t ++ replicate ((N - length old) - length new) 0) (sym pushed) ∙ ap (λ (n : ℕ). frames start (log ++ payload ∷ []) ++ replicate n 0) left;
          synced_is = is.synced_is ∙ ap (λ (xs : List (List ℕ)). frames start xs ++ replicate (N - length (frames start xs)) 0) (sym same);
          unsure = λ i h. subst (λ (xs : List (List ℕ)). length (frames start xs) ≤ i) (sym same) (from i front h);
          count = omega (arith, length_push log payload, is.count);
          records = records-append start log (payload ∷ []) is.records (fit, tt);
          good = λ e. either-is (not good) (failed calls) (ap not e) (is.good refl);
        }
      where
        from : (i : ℕ) → length (frames start (take durable log)) ≤ length (frames start log)
            → ((length (frames start log) ≤ i) × (i < length (frames start log) + length (frame (start + length log) payload))) ⊎ Unsure calls i
            → length (frames start (take durable log)) ≤ i
        from i front (inl here) = let a = here.0 in omega arith
        from i front (inr older) = is.unsure i older

    settles-all : LifeIs first start true (Sync true ∷ calls) log (length log)
    settles-all =
        let all : take (length log) log ≡ log = take_all (length log) log (omega arith) in
        let yes = settled calls (is.good refl) in
        record {
          room = is.room;
          written_is = is.written_is;
          synced_is = chosen (settles true calls) (written first calls) (synced first calls) yes ∙ is.written_is
              ∙ ap (λ (xs : List (List ℕ)). frames start xs ++ replicate (N - length (frames start xs)) 0) (sym all);
          unsure = λ i h. absurd (nothing (settles true calls) (Unsure calls i) yes h);
          count = omega arith;
          records = is.records;
          good = λ _. is.good refl;
        }

    closes : LifeIs first start false calls log durable
    closes = record {
      room = is.room;
      written_is = is.written_is;
      synced_is = is.synced_is;
      unsure = is.unsure;
      count = is.count;
      records = is.records;
      good = λ no. absurd (cc);
    }

    settles-none : LifeIs first start false (Sync false ∷ calls) log durable
    settles-none = record {
      room = is.room;
      written_is = is.written_is;
      synced_is = is.synced_is;
      unsure = is.unsure;
      count = is.count;
      records = is.records;
      good = λ no. absurd (cc);
    }

  pub life-is : (alive : Bool) (calls : List FileCall) (log : List (List ℕ)) (durable : ℕ) → LogLife first start alive calls log durable → LifeIs first start alive calls log durable
  life-is _ _ _ _ (wiped {before = before} long) = begins before long
  life-is _ _ _ _ (appended {calls = calls} {log = log} {durable = durable} payload good older fit room) = grows calls log durable (life-is true calls log durable older) payload good fit room
  life-is _ _ _ _ (was_synced {calls = calls} {log = log} {durable = durable} older) = settles-all calls log durable (life-is true calls log durable older)
  life-is _ _ _ _ (unsynced {calls = calls} {log = log} {durable = durable} older) = settles-none calls log durable (life-is true calls log durable older)
  life-is _ _ _ _ (closed {calls = calls} {log = log} {durable = durable} older) = closes calls log durable (life-is true calls log durable older)

-- ---- what is read of what a crash leaves

take-head : (k : ℕ) (xs : List (List ℕ)) (q : List ℕ) (ys : List (List ℕ)) → take k xs ≡ q ∷ ys → (more : List (List ℕ)) × (xs ≡ q ∷ more)
take-head zero xs q ys e = absurd cc
take-head (suc k) [] q ys e = absurd cc
take-head (suc k) (x ∷ xs) q ys e = let same : x ≡ q = cc in (xs, ap (λ (z : List ℕ). z ∷ xs) same)

-- the next record, where those so far and these stand in a file of zeros
next-in : (start : ℕ) (before todo : List (List ℕ)) (k : ℕ) (file : List ℕ) (lsn : ℕ) (payload : List ℕ) → file ≡ frames start (before ++ todo) ++ replicate k 0 → AreRecords start (before ++ todo) → IsRecord lsn payload
    → take (length (frame lsn payload)) (drop (length (frames start before)) file) ≡ frame lsn payload
    → (q : List ℕ) × (more : List (List ℕ)) × (todo ≡ q ∷ more) × (lsn ≡ start + length before) × (payload ≡ q)
next-in start before todo k file lsn payload is records fit told = go todo records behind
  where
    behind : frames (start + length before) todo ++ replicate k 0 ≡ frame lsn payload ++ (drop (length (frame lsn payload)) (drop (length (frames start before)) file))
    behind =
        let split : file ≡ frames start before ++ (frames (start + length before) todo ++ replicate k 0) =
        is ∙ ap (λ (t : List ℕ). t ++ replicate k 0) (frames-append start before todo) ∙ append_assoc (frames start before) (frames (start + length before) todo) (replicate k 0) in
        let at : drop (length (frames start before)) file ≡ frames (start + length before) todo ++ replicate k 0 =
        ap (drop (length (frames start before))) split ∙ drop_at (frames start before) (frames (start + length before) todo ++ replicate k 0) (length (frames start before)) refl in
        sym at ∙ sym (take-append-drop (length (frame lsn payload)) (drop (length (frames start before)) file)) ∙ ap (λ (t : List ℕ). t ++ drop (length (frame lsn payload)) (drop (length (frames start before)) file)) told

    go : (xs : List (List ℕ)) → AreRecords start (before ++ xs) → frames (start + length before) xs ++ replicate k 0 ≡ frame lsn payload ++ (drop (length (frame lsn payload)) (drop (length (frames start before)) file))
        → (q : List ℕ) × (more : List (List ℕ)) × (xs ≡ q ∷ more) × (lsn ≡ start + length before) × (payload ≡ q)
    go [] r e = absurd (zeros-none k lsn payload (drop (length (frame lsn payload)) (drop (length (frames start before)) file)) fit e)
    go (q ∷ more) r e =
        let first = (records-behind start before (q ∷ more) r).0 in
        let h = frame-same (start + length before) lsn q payload (frames (start + length before + 1) more ++ replicate k 0) (drop (length (frame lsn payload)) (drop (length (frames start before)) file)) first fit
        (sym (append_assoc (frame (start + length before) q) (frames (start + length before + 1) more) (replicate k 0)) ∙ e) in
        (q, more, refl, sym h.0, sym h.1)

module _ (first : List ℕ) (start : ℕ) (alive : Bool) (calls : List FileCall) (log : List (List ℕ)) (durable : ℕ) (left : List ℕ)
    (is : LifeIs first start alive calls log durable) (leaves : FileLeaves first calls left) (tells : TellsTrue start (synced first calls) (written first calls) left) where
  abbrev kept : List ℕ
  kept = frames start (take durable log)

  -- what was synced stays
  pub front-is : left ≡ kept ++ drop (length kept) left
  front-is =
      let front = frames-front start durable log in
      let room = is.room in
      let long = leaves.long in
      let size : length (take (length kept) left) ≡ length kept = length-take-le (length kept) left (omega arith) in
      let same : take (length kept) left ≡ kept = ext_get_or 0 (take (length kept) left) kept size (λ i lt. at i (omega arith)) in
      sym (take-append-drop (length kept) left) ∙ ap (λ (t : List ℕ). t ++ drop (length kept) left) same
    where
      at : (i : ℕ) → i < length kept → get_or (take (length kept) left) i 0 ≡ get_or kept i 0
      at i lt =
          let front = frames-front start durable log in
          let room = is.room in
          let long = leaves.long in
          get_or-take (length kept) left i 0 lt ∙ from (leaves.each i (omega arith))
        where
          from : (get_or left i 0 ≡ get_or (synced first calls) i 0) ⊎ Unsure calls i → get_or left i 0 ≡ get_or kept i 0
          from (inl same) = same ∙ ap (λ (t : List ℕ). get_or t i 0) is.synced_is ∙ get_or_append_left kept (replicate (length first - length kept) 0) 0 i lt
          from (inr unsure) = let le = is.unsure i unsure in absurd (omega arith)

  part-is : (before todo : List (List ℕ)) → log ≡ before ++ todo → length before ≤ durable → take durable log ≡ before ++ take (durable - length before) todo
  part-is before todo e le = ap (take durable) e ∙ take-over durable before todo le
    where
      take-over : (n : ℕ) (xs ys : List (List ℕ)) → length xs ≤ n → take n (xs ++ ys) ≡ xs ++ take (n - length xs) ys
      take-over n [] ys le = ap (λ (m : ℕ). take m ys) (omega arith)
      take-over zero (x ∷ xs) ys le = absurd (omega arith)
      take-over (suc n) (x ∷ xs) ys le =
          let e : n - length xs ≡ suc n - suc (length xs) = omega arith in
          ap (λ (t : List (List ℕ)). x ∷ t) (take-over n xs ys (omega arith) ∙ ap (λ (m : ℕ). xs ++ take m ys) e)

  records-front : AreRecords start (take durable log)
  records-front = front-of start durable log is.records
    where
      front-of : (lsn n : ℕ) (xs : List (List ℕ)) → AreRecords lsn xs → AreRecords lsn (take n xs)
      front-of lsn zero xs f = tt
      front-of lsn (suc n) [] f = tt
      front-of lsn (suc n) (x ∷ xs) f = (f.0, front-of (lsn + 1) n xs f.1)

  -- a record that is read behind some of the log is its next one
  pub next : (before todo : List (List ℕ)) → log ≡ before ++ todo → (lsn : ℕ) (payload rest : List ℕ) → IsRecord lsn payload → left ≡ frames start before ++ (frame lsn payload ++ rest)
      → (q : List ℕ) × (more : List (List ℕ)) × (todo ≡ q ∷ more) × (lsn ≡ start + length before) × (payload ≡ q)
  next before todo e lsn payload rest fit told = go (tells before lsn payload rest fit told)
    where
      here : take (length (frame lsn payload)) (drop (length (frames start before)) left) ≡ frame lsn payload
      here =
          ap (λ (t : List ℕ). take (length (frame lsn payload)) (drop (length (frames start before)) t)) told
          ∙ ap (take (length (frame lsn payload))) (drop_at (frames start before) (frame lsn payload ++ rest) (length (frames start before)) refl)
          ∙ take_at (frame lsn payload) rest (length (frame lsn payload)) refl

      durably : SameAt (length (frames start before)) (length (frame lsn payload)) left (synced first calls) → (q : List ℕ) × (more : List (List ℕ)) × (todo ≡ q ∷ more) × (lsn ≡ start + length before) × (payload ≡ q)
      durably same = elim (cases_lt (length before) durable) [
        | inl lt ↦
            (let part = part-is before todo e (omega arith) in
            let h = next-in start before (take (durable - length before) todo) (length first - length kept) (synced first calls) lsn payload
            (is.synced_is ∙ ap (λ (xs : List (List ℕ)). frames start xs ++ replicate (length first - length kept) 0) part) (subst (AreRecords start) part records-front) fit (sym same ∙ here) in
            let t = take-head (durable - length before) todo h.0 h.1 h.2 in
            (h.0, t.0, t.1, h.3, h.4))
        | inr le ↦ absurd (beyond le)
      ]
        where
          beyond : durable ≤ length before → ⊥
          beyond le =
              let size : length kept ≤ length (frames start before) = subst (λ (xs : List (List ℕ)). length (frames start xs) ≤ length (frames start before)) (sym (ap (take durable) e ∙ take-append-le durable before todo le)) (frames-front start durable before) in
              let zeros : drop (length (frames start before)) (synced first calls) ≡ replicate ((length first - length kept) - (length (frames start before) - length kept)) 0 =
              ap (drop (length (frames start before))) is.synced_is ∙ drop-zeros kept (length first - length kept) (length (frames start before)) size in
              zeros-none ((length first - length kept) - (length (frames start before) - length kept)) lsn payload (drop (length (frame lsn payload)) (drop (length (frames start before)) (synced first calls))) fit
              (sym zeros ∙ sym (take-append-drop (length (frame lsn payload)) (drop (length (frames start before)) (synced first calls)))
              ∙ ap (λ (t : List ℕ). t ++ drop (length (frame lsn payload)) (drop (length (frames start before)) (synced first calls))) (sym same ∙ here))
            where
              drop-zeros : (a : List ℕ) (k n : ℕ) → length a ≤ n → drop n (a ++ replicate k 0) ≡ replicate (k - (n - length a)) 0
              drop-zeros a k n le =
                  let whole : n ≡ length a + (n - length a) = omega arith in
                  ap (λ (m : ℕ). drop m (a ++ replicate k 0)) whole ∙ sym (drop-drop (n - length a) (length a) (a ++ replicate k 0))
                  ∙ ap (drop (n - length a)) (drop_at a (replicate k 0) (length a) refl) ∙ drop-replicate (n - length a) k 0

      go : SameAt (length (frames start before)) (length (frame lsn payload)) left (synced first calls) ⊎ SameAt (length (frames start before)) (length (frame lsn payload)) left (written first calls)
          → (q : List ℕ) × (more : List (List ℕ)) × (todo ≡ q ∷ more) × (lsn ≡ start + length before) × (payload ≡ q)
      go (inl same) = durably same
      go (inr same) =
          next-in start before todo (length first - length (frames start log)) (written first calls) lsn payload
          (is.written_is ∙ ap (λ (xs : List (List ℕ)). frames start xs ++ replicate (length first - length (frames start log)) 0) e) (subst (AreRecords start) e is.records) fit (sym same ∙ here)

  -- what is read is a front of the log
  walked : (payloads before todo : List (List ℕ)) (rest : List ℕ) → log ≡ before ++ todo → AreRecords (start + length before) payloads → left ≡ frames start before ++ (frames (start + length before) payloads ++ rest)
      → (more : List (List ℕ)) × (todo ≡ payloads ++ more)
  walked [] before todo rest e records told = (todo, refl)
  walked (p ∷ ps) before todo rest e records told =
      let l = start + length before in
      let n = next before todo e l p (frames (l + 1) ps ++ rest) records.0 (told ∙ ap (λ (t : List ℕ). frames start before ++ t) (append_assoc (frame l p) (frames (l + 1) ps) rest)) in
      let todo-is : todo ≡ p ∷ n.1 = n.2 ∙ ap (λ (z : List ℕ). z ∷ n.1) (sym n.4) in
      let log-is : log ≡ (before ++ p ∷ []) ++ n.1 = e ∙ ap (λ (t : List (List ℕ)). before ++ t) todo-is ∙ sym (append_assoc before (p ∷ []) n.1) in
      let count : l + 1 ≡ start + length (before ++ p ∷ []) = omega (arith, length_push before p) in
      let regroup : left ≡ frames start (before ++ p ∷ []) ++ (frames (l + 1) ps ++ rest) =
      told ∙ ap (λ (t : List ℕ). frames start before ++ t) (append_assoc (frame l p) (frames (l + 1) ps) rest)
      ∙ sym (append_assoc (frames start before) (frame l p) (frames (l + 1) ps ++ rest))
      ∙ ap (λ (t : List ℕ). t ++ (frames (l + 1) ps ++ rest)) (sym (frames-push start before p)) in
      let h = walked ps (before ++ p ∷ []) n.1 rest log-is (subst (λ (m : ℕ). AreRecords m ps) count records.1) (regroup ∙ ap (λ (m : ℕ). frames start (before ++ p ∷ []) ++ (frames m ps ++ rest)) count) in
      (h.0, todo-is ∙ ap (λ (t : List (List ℕ)). p ∷ t) h.1)

  pub front : (payloads : List (List ℕ)) (rest : List ℕ) → AreRecords start payloads → left ≡ frames start payloads ++ rest → (more : List (List ℕ)) × (log ≡ payloads ++ more)
  front payloads rest records told =
      let e : start ≡ start + 0 = omega arith in
      walked payloads [] log rest refl (subst (λ (n : ℕ). AreRecords n payloads) e records) (told ∙ ap (λ (n : ℕ). frames n payloads ++ rest) e)

  -- and has what was synced
  pub enough : (payloads more : List (List ℕ)) (rest : List ℕ) → log ≡ payloads ++ more → left ≡ frames start payloads ++ rest → NoFrame rest → durable ≤ length payloads
  enough payloads more rest e told none = elim (cases_lt (length payloads) durable) [ inl lt ↦ absurd (missing lt) | inr le ↦ le ]
    where
      split : (k : ℕ) (xs : List (List ℕ)) → 0 < k → 0 < length xs → (q : List ℕ) × (ys : List (List ℕ)) × (take k xs ≡ q ∷ ys)
      split zero xs p l = absurd (omega arith)
      split (suc k) [] p l = absurd (omega arith)
      split (suc k) (x ∷ xs) p l = (x, take k xs, refl)

      missing : length payloads < durable → ⊥
      missing lt =
          let count = is.count in
          let size = ap (λ (xs : List (List ℕ)). length xs) e ∙ length-append payloads more in
          let s = split (durable - length payloads) more (omega arith) (omega arith) in
          let l = start + length payloads in
          let part : take durable log ≡ payloads ++ s.0 ∷ s.1 = part-is payloads more e (omega arith) ∙ ap (λ (t : List (List ℕ)). payloads ++ t) s.2 in
          let first-is : IsRecord l s.0 = (records-behind start payloads (s.0 ∷ s.1) (subst (AreRecords start) part records-front)).0 in
          let tail = drop (length kept) left in
          let stands : left ≡ frames start payloads ++ (frame l s.0 ++ (frames (l + 1) s.1 ++ tail)) =
          front-is ∙ ap (λ (xs : List (List ℕ)). frames start xs ++ tail) part ∙ ap (λ (t : List ℕ). t ++ tail) (frames-append start payloads (s.0 ∷ s.1))
          ∙ append_assoc (frames start payloads) (frame l s.0 ++ frames (l + 1) s.1) tail ∙ ap (λ (t : List ℕ). frames start payloads ++ t) (append_assoc (frame l s.0) (frames (l + 1) s.1) tail) in
          none l s.0 (frames (l + 1) s.1 ++ tail) first-is (append_cancel_left (frames start payloads) rest (frame l s.0 ++ (frames (l + 1) s.1 ++ tail)) (sym told ∙ stands))

-- ---- after openings

-- what they left of the log
pub record Remains (first : List ℕ) (start : ℕ) (log : List (List ℕ)) (durable : ℕ) (later : List FileCall) (found : List (List ℕ)) (n : ℕ) : Type 0 where
  pub is : LifeIs first start false later found n
  pub lost : List (List ℕ)
  pub stands : log ≡ found ++ lost
  pub durably : durable ≤ n

module _ (first : List ℕ) (start : ℕ) (log : List (List ℕ)) (durable : ℕ) where
  written-again : (later : List FileCall) (found kept : List (List ℕ)) (n : ℕ) (bytes : List ℕ) (good : Bool) → Remains first start log durable later found n → FileLeaves first later bytes
      → TellsTrue start (synced first later) (written first later) bytes → IsRead start kept bytes → Remains first start log durable (Again (whole (length first) start kept) good ∷ later) kept n
  written-again later found kept n bytes good r leaves tells read = record {
    is = record {
      room = fits;
      written_is = all;
      synced_is = r.is.synced_is ∙ ap (λ (xs : List (List ℕ)). frames start xs ++ replicate (length first - length (frames start xs)) 0) same;
      unsure = λ i h. subst (λ (xs : List (List ℕ)). length (frames start xs) ≤ i) same (r.is.unsure i h);
      count = most;
      records = read.records;
      good = λ no. absurd (cc);
    };
    lost = more.0 ++ r.lost;
    stands = r.stands ∙ ap (λ (xs : List (List ℕ)). xs ++ r.lost) more.1 ∙ append_assoc kept more.0 r.lost;
    durably = r.durably;
  }
    where
      more : (xs : List (List ℕ)) × (found ≡ kept ++ xs)
      more = front first start false later found n bytes r.is leaves tells kept read.rest read.records read.stands

      most : n ≤ length kept
      most = enough first start false later found n bytes r.is leaves tells kept more.0 read.rest more.1 read.stands read.ends

      same : take n found ≡ take n kept
      same = ap (take n) more.1 ∙ take-append-le n kept more.0 most

      fits : length (frames start kept) ≤ length first
      fits =
          let parts = ap (λ (xs : List (List ℕ)). length (frames start xs)) more.1 ∙ ap (λ (t : List ℕ). length t) (frames-append start kept more.0) in
          let room = r.is.room in
          omega (arith, parts, length-append (frames start kept) (frames (start + length kept) more.0))

      long : length (whole (length first) start kept) ≡ length first
      long = omega (arith, fits, length-append (frames start kept) (replicate (length first - length (frames start kept)) 0), length-replicate {A = ℕ} (length first - length (frames start kept)) 0)

      size : length (written first later) ≡ length first
      size =
          let room = r.is.room in
          ap (λ (t : List ℕ). length t) r.is.written_is ∙ omega (arith, length-append (frames start found) (replicate (length first - length (frames start found)) 0), length-replicate {A = ℕ} (length first - length (frames start found)) 0)

      all : patched 0 (whole (length first) start kept) (written first later) ≡ whole (length first) start kept
      all =
          ap (λ (t : List ℕ). whole (length first) start kept ++ t) (drop_all (0 + length (whole (length first) start kept)) (written first later) (omega (arith, long, size)))
          ∙ append-nil (whole (length first) start kept)

  synced-again : (later : List FileCall) (found : List (List ℕ)) (n : ℕ) (bytes : List ℕ) (good : Bool) → Remains first start log durable (Again bytes true ∷ later) found n
      → Remains first start log durable (Sync good ∷ Again bytes true ∷ later) found (cond good (length found) n)
  synced-again later found n bytes false r = record {
    is = record {
      room = r.is.room;
      written_is = r.is.written_is;
      synced_is = r.is.synced_is;
      unsure = r.is.unsure;
      count = r.is.count;
      records = r.is.records;
      good = λ no. absurd (cc);
    };
    lost = r.lost;
    stands = r.stands;
    durably = r.durably;
  }
  synced-again later found n bytes true r =
      let all : take (length found) found ≡ found = take_all (length found) found (omega arith) in
      let count = r.is.count in
      let durably = r.durably in
      record {
        is = record {
          room = r.is.room;
          written_is = r.is.written_is;
          synced_is = r.is.written_is ∙ ap (λ (xs : List (List ℕ)). frames start xs ++ replicate (length first - length (frames start xs)) 0) (sym all);
          unsure = λ i h. absurd h;
          count = omega arith;
          records = r.is.records;
          good = λ no. absurd (cc);
        };
        lost = r.lost;
        stands = r.stands;
        durably = omega arith;
      }

  module _ (alive : Bool) (calls : List FileCall) (is : LifeIs first start alive calls log durable) where
    pub remains : (later : List FileCall) (found : List (List ℕ)) (n : ℕ) → Reopened first start calls log durable later found n → Remains first start log durable later found n
    remains _ _ _ ended = record {
      is = record {
        room = is.room;
        written_is = is.written_is;
        synced_is = is.synced_is;
        unsure = is.unsure;
        count = is.count;
        records = is.records;
        good = λ no. absurd (cc);
      };
      lost = [];
      stands = sym (append-nil log);
      durably = omega arith;
    }
    remains _ _ _ (again {later = later} {found = found} {n = n} bytes kept good before leaves tells read) =
        written-again later found kept n bytes good (remains later found n before) leaves tells read
    remains _ _ _ (was_settled {later = later} {found = found} {n = n} bytes good before) = synced-again later found n bytes good (remains (Again bytes true ∷ later) found n before)
