-- A table at each moment of a call.
use Rattle.std.proofs.Common.{◌≡◌, refl, sym, ap, subst, ◌∙◌, ℕ, ◌≤◌, Bool, List, [], ◌∷◌, ◌++◌, map, append_assoc, append-nil, arith}
use Rattle.bp_trail.specs.declared.records.LogRecord.{LogRecord}
use Rattle.bp_trail.specs.Parameters.{Parameters}
use Rattle.bp_trail.specs.Trail.{Trail}
use Rattle.example_log.specs.Disk.{DeviceCall}
use Rattle.example_log.specs.Files.{FileCall}
use Rattle.example_log.specs.Moments.{AtEach, log_in, pages_in}
use Rattle.example_log.specs.Moments.Step.{OfPages}
use Rattle.example_log.proofs.Moments.{of-pages}
use Rattle.example_table.specs.PoolLives.{PoolFrom}
use Rattle.example_table.specs.PoolLives.PoolFrom.{opened, entered, read, not_read, wrote, was_synced}
use Rattle.example_table.specs.Tables.{Cut, Stands, TableRan}
use Rattle.example_table.proofs.Tables.{ran-then}

-- the calls of a device since a moment
pub calls-since : (begun : Trail) (begun_calls : List DeviceCall) (past : Trail) (calls : List DeviceCall) (synced : Trail) → PoolFrom begun begun_calls past calls synced → (since : List DeviceCall) × (calls ≡ since ++ begun_calls)
calls-since begun begun_calls _ _ _ opened = ([], refl)
calls-since begun begun_calls _ _ _ (entered {past = past} {synced = synced} {calls = calls} e w life) = calls-since begun begun_calls past calls synced life
calls-since begun begun_calls _ _ _ (read {past = past} {synced = synced} {calls = calls} e t p image i life) = let h = calls-since begun begun_calls past calls synced life in (DeviceCall.Read p image ∷ h.0, ap (λ (cs : List DeviceCall). DeviceCall.Read p image ∷ cs) h.1)
calls-since begun begun_calls _ _ _ (not_read {past = past} {synced = synced} {calls = calls} e t p i life) = let h = calls-since begun begun_calls past calls synced life in (DeviceCall.NotRead p ∷ h.0, ap (λ (cs : List DeviceCall). DeviceCall.NotRead p ∷ cs) h.1)
calls-since begun begun_calls _ _ _ (wrote {older = older} {synced = synced} {calls = calls} e f t p image good i j life) =
    let h = calls-since begun begun_calls (f ∷ older) calls synced life in (DeviceCall.Write p image good ∷ h.0, ap (λ (cs : List DeviceCall). DeviceCall.Write p image good ∷ cs) h.1)
calls-since begun begun_calls _ _ _ (was_synced {past = past} {synced = synced} {calls = calls} good life) = let h = calls-since begun begun_calls past calls synced life in (DeviceCall.Sync good ∷ h.0, ap (λ (cs : List DeviceCall). DeviceCall.Sync good ∷ cs) h.1)

module _ (c : Parameters) (table : List ℕ) (cut : Cut) (file : List ℕ) (start : ℕ) where
  abbrev At : List DeviceCall → List FileCall → List (List LogRecord) → List (List LogRecord) → ℕ → Type 0
  At = Stands c table cut file start

  pub stands-now : (alive : Bool) (past synced : Trail) (calls : List DeviceCall) (log_calls : List FileCall) (commits : List (List LogRecord)) (count : ℕ) (pending : List LogRecord) → TableRan c table cut file start alive past synced calls log_calls commits count pending
      → At calls log_calls commits commits count
  stands-now alive past synced calls log_calls commits count pending ran = record {
    alive = alive;
    past = past;
    synced = synced;
    now = commits;
    synced_records = count;
    pending = pending;
    ran = ran;
    no_fewer = omega arith;
    added = [];
    to_come = [];
    grown = sym (append-nil commits);
    grows = sym (append-nil commits);
  }

  pub grown-by : (calls : List DeviceCall) (log_calls : List FileCall) (before after : List (List LogRecord)) (count : ℕ) → At calls log_calls before after count → (x : List (List LogRecord)) × (after ≡ before ++ x)
  grown-by calls log_calls before after count s = (s.added ++ s.to_come, s.grows ∙ ap (λ (t : List (List LogRecord)). t ++ s.to_come) s.grown ∙ append_assoc before s.added s.to_come)

  -- a call of which that is a part leaves no fewer commits
  pub till-later : (calls : List DeviceCall) (log_calls : List FileCall) (before after end x : List (List LogRecord)) (count : ℕ) → end ≡ after ++ x → At calls log_calls before after count → At calls log_calls before end count
  till-later calls log_calls before after end x count e s = record {
    alive = s.alive;
    past = s.past;
    synced = s.synced;
    now = s.now;
    synced_records = s.synced_records;
    pending = s.pending;
    ran = s.ran;
    no_fewer = s.no_fewer;
    added = s.added;
    to_come = s.to_come ++ x;
    grown = s.grown;
    grows = e ∙ ap (λ (t : List (List LogRecord)). t ++ x) s.grows ∙ append_assoc s.now s.to_come x;
  }

  -- it found no more of them
  pub from-earlier : (calls : List DeviceCall) (log_calls : List FileCall) (first before after x : List (List LogRecord)) (records count : ℕ) → before ≡ first ++ x → records ≤ count → At calls log_calls before after count → At calls log_calls first after records
  from-earlier calls log_calls first before after x records count e le s = record {
    alive = s.alive;
    past = s.past;
    synced = s.synced;
    now = s.now;
    synced_records = s.synced_records;
    pending = s.pending;
    ran = s.ran;
    no_fewer = (let n = s.no_fewer in omega arith);
    added = x ++ s.added;
    to_come = s.to_come;
    grown = s.grown ∙ ap (λ (t : List (List LogRecord)). t ++ s.added) e ∙ append_assoc first x s.added;
    grows = s.grows;
  }

  module _ (alive : Bool) (past synced : Trail) (more calls : List DeviceCall) (log_calls : List FileCall) (commits : List (List LogRecord)) (count : ℕ) (pending : List LogRecord) (ran : TableRan c table cut file start alive past synced (more ++ calls) log_calls commits count pending)
      (since : (x : List DeviceCall) × (calls ≡ x ++ cut.calls)) where
    -- at an earlier moment of the device, while the log is as it is
    pub ran-at : (later so_far : List DeviceCall) → more ≡ later ++ so_far → (old settled : Trail) × (left : List LogRecord) × TableRan c table cut file start alive old settled (so_far ++ calls) log_calls commits count left
    ran-at later so_far e =
        let all : more ++ calls ≡ later ++ ((so_far ++ since.0) ++ cut.calls) =
        ap (λ (t : List DeviceCall). t ++ calls) e ∙ append_assoc later so_far calls ∙ ap (λ (t : List DeviceCall). later ++ (so_far ++ t)) since.1 ∙ ap (λ (t : List DeviceCall). later ++ t) (sym (append_assoc so_far since.0 cut.calls)) in
        let now : (so_far ++ since.0) ++ cut.calls ≡ so_far ++ calls = append_assoc so_far since.0 cut.calls ∙ ap (λ (t : List DeviceCall). so_far ++ t) (sym since.1) in
        let h = ran-then c table cut file start alive past synced (more ++ calls) log_calls commits count pending ran later (so_far ++ since.0) all in
        (h.0, h.1, h.2, subst (λ (cs : List DeviceCall). TableRan c table cut file start alive h.0 h.1 cs log_calls commits count h.2) now h.3)

    stands-at : (later so_far : List DeviceCall) → more ≡ later ++ so_far → At (pages_in (map OfPages so_far) ++ calls) (log_in (map OfPages so_far) ++ log_calls) commits commits count
    stands-at later so_far e =
        let h = ran-at later so_far e in
        subst (λ (cs : List DeviceCall). At (cs ++ calls) (log_in (map OfPages so_far) ++ log_calls) commits commits count) (sym (of-pages so_far).0)
        (subst (λ (fs : List FileCall). At (so_far ++ calls) (fs ++ log_calls) commits commits count) (sym (of-pages so_far).1) (stands-now alive h.0 h.1 (so_far ++ calls) log_calls commits count h.2 h.3))

    go : (later so_far : List DeviceCall) → more ≡ later ++ so_far → AtEach (λ so_far. At (pages_in so_far ++ calls) (log_in so_far ++ log_calls) commits commits count) (map OfPages so_far)
    go later [] e = stands-at later [] e
    go later (x ∷ so_far) e = (stands-at later (x ∷ so_far) e, go (later ++ x ∷ []) so_far (e ∙ sym (append_assoc later (x ∷ []) so_far)))

    pub each-page : AtEach (λ so_far. At (pages_in so_far ++ calls) (log_in so_far ++ log_calls) commits commits count) (map OfPages more)
    each-page = go [] more refl
