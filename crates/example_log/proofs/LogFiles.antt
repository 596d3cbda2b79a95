-- What the calls of a log in a file add to its life.
use Rattle.std.proofs.Common.{◌≡◌, inl, inr, ℕ, ◌+◌, ◌^◌, ◌<◌, ◌≤◌, Bool, true, false, not, List, [], ◌∷◌, ◌++◌, length, replicate, refl, sym, ap, subst, ◌∙◌, arith, length-append}
use Rattle.std.proofs.lemmas.List.{length_push}
use Rattle.std.specs.Prelude.{◌⊎◌, Result, Ok, Err, IfOk, IfErr, IsErrAnd, OnErr}
use Rattle.std.specs.Result.{IsErr, is_ok}
use Rattle.bp_ports.specs.Files.{Transfer, StoreSync}
use Rattle.example_log.specs.declared.log.LogFile.{LogFile}
use Rattle.example_log.specs.Frames.{frame, frames, IsRecord}
use Rattle.example_log.specs.Files.{FileCall, FileDid, written}
use Rattle.example_log.specs.Files.FileCall.{Write, Again, Wipe, Sync}
use Rattle.example_log.specs.Lives.{LogLife}
use Rattle.example_log.specs.Moments.{AtEach}
use Rattle.example_log.specs.Lives.LogLife.{wiped as was_wiped, appended, synced as was_synced, unsynced, closed}
use Rattle.example_log.specs.LogFiles.{AppendFault, BeginFault, BeginsBy, StopFault, HasRoom, IsLogFile, GoesOn, Begins, Settles, WipesFile, Wipes}
use Rattle.example_log.specs.LogFiles.BeginsBy.{wiping, wiped as by_wiped, wrote as by_wrote, synced as by_synced}
use Rattle.example_log.specs.LogFiles.AppendFault.{has_ended, no_memory, no_lsn, no_room, failed as append_failed}
use Rattle.example_log.specs.LogFiles.StopFault.{no_memory as stop_no_memory, failed as stop_failed}
use Rattle.example_log.specs.LogFiles.BeginFault.{no_memory as begin_no_memory, wiped as begin_wiped, failed as begin_failed, no_lsn as begin_no_lsn, no_room as begin_no_room}
use Rattle.example_log.specs.LogFiles.Settles.{nothing as settles_nothing, unwritten as settles_unwritten, synced as settles_synced}
use Rattle.example_log.specs.declared.log.LogFault.{LogFault}
use Rattle.example_log.specs.declared.log.LogFault.TheVariants.{Device}
use Rattle.example_log.specs.LogFiles.Wipes.{nothing, wrote, unsynced as was_unsynced}
use Rattle.example_log.proofs.Lives.{frames-push}

pub err-if : {T E : Type 0} (r : Result T E) (P : T → Type 0) (Q : Type 0) → IsErr r → Q → IfOk r P × OnErr r Q
err-if (Ok x) P Q h q = absurd (cc)
err-if (Err e) P Q h q = (tt, q)

pub err-is : (A : Type 0) (x y : LogFault) (r : Result A LogFault) → r ≡ Err x → r ≡ Err y → x ≡ y
err-is A x y r e f = cc

-- this error
pub fault-is : {A : Type 0} (r : Result A LogFault) (fault : LogFault) (P : LogFault → Type 0) → IsErrAnd r (λ e. e ≡ fault) → P fault → IfErr r P
fault-is (Ok x) fault P k p = tt
fault-is (Err e) fault P k p = subst P (sym k) p

-- a call of the file failed
pub failed-as : {A B : Type 0} (r : Result A LogFault) (x : LogFault) (s : Result B LogFault) (P : LogFault → Type 0) → s ≡ Err x → s ≡ Err Device → IsErrAnd r (λ e. e ≡ x) → P Device → IfErr r P
failed-as {A} {B} r x s P is told k p = fault-is r Device P (subst (λ w. IsErrAnd r (λ e. e ≡ w)) (err-is B x Device s is told) k) p

pub file-did-append : {S : Type 0} (reads writes : Transfer S) (syncs : StoreSync S) (a b c : S) (newer older : List FileCall)
    → FileDid reads writes syncs a older b → FileDid reads writes syncs b newer c → FileDid reads writes syncs a (newer ++ older) c
file-did-append reads writes syncs a b c [] older h k = subst (λ x. FileDid reads writes syncs a older x) (sym k) h
file-did-append reads writes syncs a b c (call ∷ newer) older h k = (k.0, file-did-append reads writes syncs a b k.0 newer older h k.1, k.2)

module _ {S : Type 0} (reads writes : Transfer S) (syncs : StoreSync S) where
  pub weaken : (old new : LogFile S) (first : List ℕ) (start : ℕ) (calls : List FileCall) (P Q : List (List ℕ) → ℕ → Type 0)
      → ((log : List (List ℕ)) (durable : ℕ) → P log durable → Q log durable) → GoesOn reads writes syncs old new first start calls P → GoesOn reads writes syncs old new first start calls Q
  weaken old new first start calls P Q f g = record { more = g.more; log = g.log; durable = g.durable; one = g.one; did = g.did; is = g.is; is_so = f g.log g.durable g.is_so }

  -- a log that is ended
  pub closes : (old new : LogFile S) (first : List ℕ) (start : ℕ) (calls : List FileCall) (P : List (List ℕ) → ℕ → Type 0) → GoesOn reads writes syncs old new first start calls P
      → GoesOn reads writes syncs old (record { store = new.store; size = new.size; end = new.end; next = new.next; is_ended = true }) first start calls P
  closes old new first start calls P g = record {
    more = g.more;
    log = g.log;
    durable = g.durable;
    one = g.one;
    did = g.did;
    is = record { life = ends new.is_ended g.is.life; positive = g.is.positive; size = g.is.size; end = λ no. absurd (cc); next = λ no. absurd (cc) };
    is_so = g.is_so;
  }
    where
      ends : (b : Bool) → LogLife first start (not b) (g.more ++ calls) g.log g.durable → LogLife first start false (g.more ++ calls) g.log g.durable
      ends true life = life
      ends false life = closed life

  module _ (first : List ℕ) (start durable : ℕ) (calls : List FileCall) (log : List (List ℕ)) (old : LogFile S) (is : IsLogFile first start calls log durable old) where
    pub stays : (P : List (List ℕ) → ℕ → Type 0) → P log durable → GoesOn reads writes syncs old old first start calls P
    stays P p = record { more = []; log = log; durable = durable; one = omega arith; did = refl; is = is; is_so = p }

    alive : old.is_ended ≡ false → LogLife first start true calls log durable
    alive e = subst (λ (b : Bool). LogLife first start b calls log durable) (ap not e) is.life

    pub grows : (new : LogFile S) (payload bytes : List ℕ) (good : Bool) → old.is_ended ≡ false → bytes ≡ frame old.next payload → length payload < 2 ^ 64 → old.next < 2 ^ 64
        → old.end + length bytes ≤ old.size → writes old.store old.end bytes good new.store → not new.is_ended ≡ good → new.size ≡ old.size
        → (new.is_ended ≡ false → (new.end ≡ old.end + length bytes) × (new.next ≡ old.next + 1))
        → GoesOn reads writes syncs old new first start calls (λ after synced. (synced ≡ durable) × (after ≡ log ++ payload ∷ []))
    grows new payload bytes good e is-frame short fits room gave ended size places =
        let end = is.end e in
        let next = is.next e in
        let positive = is.positive in
        let told : bytes ≡ frame (start + length log) payload = is-frame ∙ ap (λ (n : ℕ). frame n payload) next in
        let long = ap (λ (t : List ℕ). length t) told in
        let whole = is.size in
        let call : writes old.store (length (frames start log)) (frame (start + length log) payload) good new.store =
        subst (λ (n : ℕ). writes old.store n (frame (start + length log) payload) good new.store) end (subst (λ (t : List ℕ). writes old.store old.end t good new.store) told gave) in
        let pushed = ap (λ (t : List ℕ). length t) (frames-push start log payload) ∙ length-append (frames start log) (frame (start + length log) payload) in
        let lived : LogLife first start good (Write (length (frames start log)) (frame (start + length log) payload) good ∷ calls) (log ++ payload ∷ []) durable =
        appended payload good (alive e) (record { positive = omega arith; fits = omega arith; size = short }) (omega arith) in
        record {
          more = Write (length (frames start log)) (frame (start + length log) payload) good ∷ [];
          log = log ++ payload ∷ [];
          durable = durable;
          one = omega arith;
          did = (old.store, refl, call);
          is = record {
            life = subst (λ (b : Bool). LogLife first start b (Write (length (frames start log)) (frame (start + length log) payload) good ∷ calls) (log ++ payload ∷ []) durable) (sym ended) lived;
            positive = is.positive;
            size = size ∙ is.size;
            end = λ a. (let p = places a in omega (arith, p.0, pushed, long, end));
            next = λ a. (let p = places a in omega (arith, p.1, length_push log payload, next));
          };
          is_so = (refl, refl);
        }

    pub syncs-well : (new : LogFile S) → old.is_ended ≡ false → syncs old.store true new.store → new.is_ended ≡ old.is_ended → new.size ≡ old.size → new.end ≡ old.end → new.next ≡ old.next
        → GoesOn reads writes syncs old new first start calls (λ after synced. (after ≡ log) × (synced ≡ length log))
    syncs-well new e gave ended size end next = record {
      more = Sync true ∷ [];
      log = log;
      durable = length log;
      one = omega arith;
      did = (old.store, refl, gave);
      is = record {
        life = subst (λ (b : Bool). LogLife first start b (Sync true ∷ calls) log (length log)) (sym (ap not (ended ∙ e))) (was_synced (alive e));
        positive = is.positive;
        size = size ∙ is.size;
        end = λ a. end ∙ is.end e;
        next = λ a. next ∙ is.next e;
      };
      is_so = (refl, refl);
    }

    pub syncs-badly : (new : LogFile S) → old.is_ended ≡ false → syncs old.store false new.store → new.is_ended ≡ true → new.size ≡ old.size
        → GoesOn reads writes syncs old new first start calls (λ after synced. (after ≡ log) × (synced ≡ durable))
    syncs-badly new e gave ended size = record {
      more = Sync false ∷ [];
      log = log;
      durable = durable;
      one = omega arith;
      did = (old.store, refl, gave);
      is = record {
        life = subst (λ (b : Bool). LogLife first start b (Sync false ∷ calls) log durable) (sym (ap not ended)) (unsynced (alive e));
        positive = is.positive;
        size = size ∙ is.size;
        end = λ a. (let b = sym ended ∙ a in absurd (cc));
        next = λ a. (let b = sym ended ∙ a in absurd (cc));
      };
      is_so = (refl, refl);
    }

  -- ---- a log that is begun

  module _ (old : LogFile S) (start : ℕ) (head : List ℕ) where
    abbrev Begun : LogFile S → Bool → Type 0
    Begun new good = Begins reads writes syncs old new start head good

    abbrev Unbegun : S → LogFault → Type 0
    Unbegun after why = BeginFault reads writes syncs old.size start head old.store after why

    pub unwiped-fault : (after : S) (why : LogFault) → StopFault reads writes syncs (Wipes old.size) old.store after why → Unbegun after why
    unwiped-fault after _ (stop_no_memory same) = begin_no_memory same
    unwiped-fault after _ (stop_failed calls did by bad) = begin_failed calls did (wiping by) bad

    pub wiped-not : (new : LogFile S) → WipesFile reads writes syncs old.size old.store false new.store → Begun new false
    wiped-not new w = record { calls = w.0; did = w.1; by = wiping w.2; is = λ e. absurd (cc) }

    -- the file as it is once it is wiped
    module _ (store : S) (size_now : ℕ) (as_before : size_now ≡ old.size) (w : WipesFile reads writes syncs old.size old.store true store) (positive : 1 ≤ start) (short : length head < 2 ^ 64) where
      abbrev empty : LogFile S
      empty = record { store = store; size = size_now; end = 0; next = start; is_ended = false }

      abbrev wiped_calls : ℕ → List FileCall
      wiped_calls size = Sync true ∷ Wipe size true ∷ []

      did-wipe : FileDid reads writes syncs old.store (wiped_calls old.size) store
      did-wipe = (w.0, (old.store, refl, w.1), w.2)

      pub empty-is : (first : List ℕ) (before : List FileCall) → length (written first before) ≡ length first → old.size ≡ length first
          → IsLogFile first start (wiped_calls (length first) ++ before) [] 0 empty
      empty-is first before long size = record { life = was_wiped long; positive = positive; size = as_before ∙ size; end = λ a. refl; next = λ a. omega arith }

      unbegun : (new : LogFile S) → new.store ≡ store → Begun new false
      unbegun new same = record { calls = wiped_calls old.size; did = subst (λ x. FileDid reads writes syncs old.store (wiped_calls old.size) x) (sym same) did-wipe; by = by_wiped; is = λ e. absurd (cc) }

      is-record : HasRoom empty head → IsRecord start head
      is-record room = let n = room.lsn in record { positive = positive; fits = omega arith; size = short }

      has-room : HasRoom empty head → length (frame start head) ≤ old.size
      has-room room = let n = room.room in omega arith

      -- the first record was not appended
      pub unappended : (new : LogFile S) (fault : LogFault) → AppendFault writes empty head new fault → Begun (record { store = new.store; size = new.size; end = new.end; next = new.next; is_ended = true }) false
      unappended new _ (has_ended e same) = absurd (cc)
      unappended new _ (no_memory e same) = unbegun _ (ap (λ (f : LogFile S). f.store) same)
      unappended new _ (no_lsn e le same) = unbegun _ (ap (λ (f : LogFile S). f.store) same)
      unappended new _ (no_room e lt same) = unbegun _ (ap (λ (f : LogFile S). f.store) same)
      unappended new _ (append_failed room ended gave) = record { calls = Write 0 (frame start head) false ∷ wiped_calls old.size; did = (store, did-wipe, gave); by = by_wrote false (is-record room) (has-room room); is = λ e. absurd (cc) }

      pub unappended-fault : (new : LogFile S) (fault : LogFault) → AppendFault writes empty head new fault → Unbegun new.store fault
      unappended-fault new _ (has_ended e same) = absurd (cc)
      unappended-fault new _ (no_memory e same) = begin_wiped (subst (λ (s : S). FileDid reads writes syncs old.store (wiped_calls old.size) s) (sym (ap (λ (f : LogFile S). f.store) same)) did-wipe)
      unappended-fault new _ (no_lsn e le same) = begin_no_lsn (omega arith)
      unappended-fault new _ (no_room e lt same) = begin_no_room (omega (arith, as_before))
      unappended-fault new _ (append_failed room ended gave) = begin_failed (Write 0 (frame start head) false ∷ wiped_calls old.size) (store, did-wipe, gave) (by_wrote false (is-record room) (has-room room)) refl

      -- it was appended, and synced or not
      module _ (mid : LogFile S) (room : HasRoom empty head) (gave : writes store 0 (frame start head) true mid.store) where
        begun_calls : Bool → List FileCall
        begun_calls good = Sync good ∷ Write 0 (frame start head) true ∷ wiped_calls old.size

        did-begin : (good : Bool) (new : LogFile S) → syncs mid.store good new.store → FileDid reads writes syncs old.store (Sync good ∷ Write 0 (frame start head) true ∷ wiped_calls old.size) new.store
        did-begin good new synced = (mid.store, (store, did-wipe, gave), synced)

        pub begun-unsynced : (new : LogFile S) → syncs mid.store false new.store → Begun new false
        begun-unsynced new synced = record { calls = Sync false ∷ Write 0 (frame start head) true ∷ wiped_calls old.size; did = did-begin false new synced; by = by_synced false (is-record room) (has-room room); is = λ e. absurd (cc) }

        pub unsynced-fault : (new : LogFile S) → syncs mid.store false new.store → Unbegun new.store Device
        unsynced-fault new synced = begin_failed (Sync false ∷ Write 0 (frame start head) true ∷ wiped_calls old.size) (did-begin false new synced) (by_synced false (is-record room) (has-room room)) refl

        life : (first : List ℕ) (before : List FileCall) → length (written first before) ≡ length first → old.size ≡ length first
            → LogLife first start true (Sync true ∷ Write 0 (frame start head) true ∷ (wiped_calls old.size ++ before)) (head ∷ []) 1
        life first before long size =
            let e : start ≡ start + 0 = omega arith in
            let fits : length (frame start head) ≤ length first = (let h = has-room room in omega arith) in
            let from : LogLife first start true (Write 0 (frame (start + 0) head) true ∷ (wiped_calls (length first) ++ before)) (head ∷ []) 0 =
            appended head true (was_wiped long) (subst (λ (n : ℕ). IsRecord n head) e (is-record room)) (subst (λ (n : ℕ). 0 + length (frame n head) ≤ length first) e (omega arith)) in
            was_synced (subst (λ (n : ℕ). LogLife first start true (Write 0 (frame start head) true ∷ (wiped_calls n ++ before)) (head ∷ []) 0) (sym size)
            (subst (λ (n : ℕ). LogLife first start true (Write 0 (frame n head) true ∷ (wiped_calls (length first) ++ before)) (head ∷ []) 0) (sym e) from))

        pub begun : (new : LogFile S) → syncs mid.store true new.store → new.is_ended ≡ false → new.size ≡ old.size → new.end ≡ mid.end → new.next ≡ mid.next → mid.is_ended ≡ false
            → ((first : List ℕ) (calls : List FileCall) → IsLogFile first start calls [] 0 empty → GoesOn reads writes syncs empty mid first start calls (λ log durable. log ≡ head ∷ []))
            → Begun new true
        begun new synced alive same end next there goes = record {
          calls = Sync true ∷ Write 0 (frame start head) true ∷ wiped_calls old.size;
          did = did-begin true new synced;
          by = by_synced true (is-record room) (has-room room);
          is = λ e first before long size.
              (let g = goes first (wiped_calls (length first) ++ before) (empty-is first before long size) in record {
                life = subst (λ (b : Bool). LogLife first start b (Sync true ∷ Write 0 (frame start head) true ∷ (wiped_calls old.size ++ before)) (head ∷ []) 1) (sym (ap not alive)) (life first before long size);
                positive = positive;
                size = same ∙ size;
                end = λ a. end ∙ g.is.end there ∙ ap (λ (l : List (List ℕ)). length (frames start l)) g.is_so;
                next = λ a. next ∙ g.is.next there ∙ ap (λ (l : List (List ℕ)). start + length l) g.is_so;
              });
        }

-- ---- a file that is written again

module _ {S : Type 0} (reads writes : Transfer S) (syncs : StoreSync S) (old mid new : S) (bytes again : List ℕ) (same : bytes ≡ again) where
  abbrev Led : S → Bool → Type 0
  Led after good = (calls : List FileCall) × FileDid reads writes syncs old calls after × Settles again calls good

  pub settles-not : (r : Result (Unit {0}) LogFault) → IsErr r → Led old (is_ok r)
  settles-not r e = subst (λ (b : Bool). Led old b) (not-ok r e) ([], refl, settles_nothing)
    where
      not-ok : (x : Result (Unit {0}) LogFault) → IsErr x → false ≡ is_ok x
      not-ok (Ok x) h = cc
      not-ok (Err x) h = refl

  pub settles-partly : (r : Result (Unit {0}) LogFault) → IsErr r → writes old 0 bytes false mid → Led mid (is_ok r)
  settles-partly r e gave = subst (λ (b : Bool). Led mid b) (not-ok r e) (Again again false ∷ [], (old, refl, subst (λ (t : List ℕ). writes old 0 t false mid) same gave), settles_unwritten)
    where
      not-ok : (x : Result (Unit {0}) LogFault) → IsErr x → false ≡ is_ok x
      not-ok (Ok x) h = cc
      not-ok (Err x) h = refl

  pub settles-unsynced : (r : Result (Unit {0}) LogFault) → IsErr r → writes old 0 bytes true mid → syncs mid false new → Led new (is_ok r)
  settles-unsynced r e gave synced = subst (λ (b : Bool). Led new b) (not-ok r e) (Sync false ∷ Again again true ∷ [], (mid, (old, refl, subst (λ (t : List ℕ). writes old 0 t true mid) same gave), synced), settles_synced false)
    where
      not-ok : (x : Result (Unit {0}) LogFault) → IsErr x → false ≡ is_ok x
      not-ok (Ok x) h = cc
      not-ok (Err x) h = refl

  pub settles-synced : (good : Bool) → writes old 0 bytes true mid → syncs mid good new → Led new good
  settles-synced good gave synced = (Sync good ∷ Again again true ∷ [], (mid, (old, refl, subst (λ (t : List ℕ). writes old 0 t true mid) same gave), synced), settles_synced good)

  abbrev Stopped : S → LogFault → Type 0
  Stopped after why = StopFault reads writes syncs (λ calls. Settles again calls false) old after why

  pub settle-unwritten : writes old 0 bytes false mid → Stopped mid Device
  settle-unwritten gave = stop_failed (Again again false ∷ []) (old, refl, subst (λ (t : List ℕ). writes old 0 t false mid) same gave) settles_unwritten refl

  pub settle-unsynced : writes old 0 bytes true mid → syncs mid false new → Stopped new Device
  settle-unsynced gave synced = stop_failed (Sync false ∷ Again again true ∷ []) (mid, (old, refl, subst (λ (t : List ℕ). writes old 0 t true mid) same gave), synced) (settles_synced false) refl

-- ---- a file that is wiped

module _ {S : Type 0} (reads writes : Transfer S) (syncs : StoreSync S) (size : ℕ) (old mid new : S) (zeros : List ℕ) (are : zeros ≡ replicate size 0) where
  abbrev Unwiped : S → LogFault → Type 0
  Unwiped after why = StopFault reads writes syncs (Wipes size) old after why

  pub wipe-unwritten : writes old 0 zeros false mid → Unwiped mid Device
  wipe-unwritten gave = stop_failed (Wipe size false ∷ []) (old, refl, subst (λ (t : List ℕ). writes old 0 t false mid) are gave) (wrote false) refl

  pub wipe-unsynced : writes old 0 zeros true mid → syncs mid false new → Unwiped new Device
  wipe-unsynced gave synced = stop_failed (Sync false ∷ Wipe size true ∷ []) (mid, (old, refl, subst (λ (t : List ℕ). writes old 0 t true mid) are gave), synced) was_unsynced refl

module _ {S : Type 0} (reads writes : Transfer S) (syncs : StoreSync S) (size : ℕ) (old mid new : S) (r : Result (Unit {0}) LogFault) (e : IsErr r) where
  abbrev Wiped : S → Type 0
  Wiped after = WipesFile reads writes syncs size old (is_ok r) after

  as-error : (after : S) → WipesFile reads writes syncs size old false after → Wiped after
  as-error after w = subst (λ (b : Bool). WipesFile reads writes syncs size old b after) (not-ok r e) w
    where
      not-ok : (x : Result (Unit {0}) LogFault) → IsErr x → false ≡ is_ok x
      not-ok (Ok x) h = cc
      not-ok (Err x) h = refl

  pub unwiped : Wiped old
  unwiped = as-error old ([], refl, nothing)

  pub wiped-partly : (zeros : List ℕ) → zeros ≡ replicate size 0 → writes old 0 zeros false mid → Wiped mid
  wiped-partly zeros are gave = as-error mid (Wipe size false ∷ [], (old, refl, subst (λ (t : List ℕ). writes old 0 t false mid) are gave), wrote false)

  pub wiped-unsynced : (zeros : List ℕ) → zeros ≡ replicate size 0 → writes old 0 zeros true mid → syncs mid false new → Wiped new
  wiped-unsynced zeros are gave synced = as-error new (Sync false ∷ Wipe size true ∷ [], (mid, (old, refl, subst (λ (t : List ℕ). writes old 0 t true mid) are gave), synced), was_unsynced)

-- after a refusal a log is as it was, or has ended
pub same-or-ended : {S : Type 0} (writes : Transfer S) (old new : LogFile S) (payload : List ℕ) (fault : LogFault) → AppendFault writes old payload new fault → (new ≡ old) ⊎ (new.is_ended ≡ true)
same-or-ended writes old new payload _ (has_ended e same) = inl same
same-or-ended writes old new payload _ (no_memory e same) = inl same
same-or-ended writes old new payload _ (no_lsn e le same) = inl same
same-or-ended writes old new payload _ (no_room e lt same) = inl same
same-or-ended writes old new payload _ (append_failed room ended gave) = inr ended

-- ---- each moment of calls that begin a log, and of those that write one again

pub each-by : (size start : ℕ) (head : List ℕ) (calls : List FileCall) → BeginsBy size start head calls → AtEach (BeginsBy size start head) calls
each-by size start head _ (wiping {calls = calls} w) = of-wipe calls w
  where
    of-wipe : (calls : List FileCall) → Wipes size calls → AtEach (BeginsBy size start head) calls
    of-wipe _ nothing = wiping nothing
    of-wipe _ (wrote good) = (wiping (wrote good), wiping nothing)
    of-wipe _ was_unsynced = (wiping was_unsynced, (wiping (wrote true), wiping nothing))
each-by size start head _ by_wiped = (by_wiped, (wiping (wrote true), wiping nothing))
each-by size start head _ (by_wrote good fit room) = (by_wrote good fit room, (by_wiped, (wiping (wrote true), wiping nothing)))
each-by size start head _ (by_synced good fit room) = (by_synced good fit room, (by_wrote true fit room, (by_wiped, (wiping (wrote true), wiping nothing))))
