-- A call that is stopped at any moment.
use Rattle.std.proofs.Common.{◌≡◌, inl, inr, refl, sym, ap, subst, ◌∙◌, ℕ, zero, suc, ◌+◌, ◌≤◌, Bool, true, false, List, [], ◌∷◌, ◌++◌, length, map, take, drop, reverse, append_assoc, arith}
use Rattle.std.specs.Prelude.{◌⊎◌}
use Rattle.bp_trail.specs.declared.records.LogRecord.{LogRecord}
use Rattle.bp_trail.specs.Parameters.{Parameters}
use Rattle.bp_trail.specs.Recovery.{redo}
use Rattle.example_log.specs.Commits.{AreCommits, HasCommits, Kept, changes_of, log_of, payload_of}
use Rattle.example_log.specs.Disk.{DeviceCall, Honest, MayLeave}
use Rattle.bp_page.specs.declared.limits.Geometry.{Geometry}
use Rattle.example_log.specs.Files.{FileCall, FileLeaves, IsSettled, SettledLeaves, failed, synced as synced_bytes, written as written_bytes}
use Rattle.example_log.specs.Files.IsSettled.{settled}
use Rattle.example_log.specs.LogFiles.{Settles, wiped_by}
use Rattle.example_log.specs.LogFiles.Settles.{nothing as settles_nothing, unwritten, synced as settles_synced}
use Rattle.example_log.proofs.Moments.{each-last}
use Rattle.example_log.specs.Frames.{NoFrame, frames}
use Rattle.example_log.specs.Lives.{AreRecords, LogLife, Reopened, TellsTrue}
use Rattle.example_log.proofs.Found.{Longest, longest}
use Rattle.example_log.proofs.Lives.{Remains, life-is, remains}
use Rattle.example_log.specs.Lives.Reopened.{ended}
use Rattle.example_log.specs.LogFiles.Wipes.{nothing}
use Rattle.example_log.specs.Moments.{Step, log_in, pages_in, spare_in}
use Rattle.example_log.specs.Promise.{MayBeRedone}
use Rattle.example_log.proofs.CommitsRead.{whole-commits}
use Rattle.example_table.specs.Checkpoints.{IsMoving}
use Rattle.example_table.specs.Checkpoints.IsMoving.{staying, moving}
use Rattle.example_table.specs.Opening.{AreWithin, Beginning, BeginsBefore, FindsLog, IsNewer, IsOpening, IsWiped, MayBeOpened, again_of}
use Rattle.example_table.specs.Opening.IsOpening.{settling, redoing as redoing_it, beginning as beginning_it}
use Rattle.example_table.specs.Tables.{Cut, Stands}
use Rattle.example_table.proofs.Checkpoints.{may-be-opened, old-left}
use Rattle.example_table.proofs.Openings.{beginning, begins-before, each-beginning, found-in, is-emptied, newer-has, redoing, stood}
use Rattle.example_table.specs.Opening.Beginning.{wiping as wiping_it, begun as was_begun}
use Rattle.example_table.proofs.Sounding.{all-shut, all-sound, sound}
use Rattle.example_table.proofs.Tables.{mended}

-- ---- a log is found

records-front : (lsn k : ℕ) (xs : List (List ℕ)) → AreRecords lsn xs → AreRecords lsn (take k xs)
records-front lsn zero xs f = tt
records-front lsn (suc k) [] f = tt
records-front lsn (suc k) (x ∷ xs) f = (f.0, records-front (lsn + 1) k xs f.1)

commits-front : (lsn k : ℕ) (cs : List (List LogRecord)) → AreCommits lsn cs → AreCommits lsn (take k cs)
commits-front lsn zero cs f = tt
commits-front lsn (suc k) [] f = tt
commits-front lsn (suc k) (x ∷ cs) f = (f.0, commits-front (lsn + 1) k cs f.1)

payloads-front : (k : ℕ) (cs : List (List LogRecord)) → take k (map payload_of cs) ≡ map payload_of (take k cs)
payloads-front zero cs = refl
payloads-front (suc k) [] = refl
payloads-front (suc k) (x ∷ cs) = ap (λ (t : List (List ℕ)). payload_of x ∷ t) (payloads-front k cs)

take-front : (k : ℕ) (xs ys : List (List ℕ)) → k ≤ length xs → take k xs ≡ take k (xs ++ ys)
take-front zero xs ys le = refl
take-front (suc k) [] ys le = absurd (omega arith)
take-front (suc k) (x ∷ xs) ys le = ap (λ (t : List (List ℕ)). x ∷ t) (take-front k xs ys (omega arith))

pub log-read : (table file bytes : List ℕ) (start : ℕ) (alive : Bool) (calls later : List FileCall) (commits : List (List LogRecord)) (kept : List (List ℕ)) (durable n : ℕ) → LogLife file start alive calls (log_of table commits) durable → AreCommits (start + 1) commits
    → Reopened file start calls (log_of table commits) durable later kept n → 1 ≤ durable → FileLeaves file later bytes → TellsTrue start (synced_bytes file later) (written_bytes file later) bytes → (last : ℕ) × (changes : List LogRecord) × HasCommits table bytes start last changes
log-read table file bytes start alive calls later commits kept durable n life are reopened named leaves tells = go l.count refl l.most l.enough l.stands l.ends
  where
    r : Remains file start (log_of table commits) durable later kept n
    r = remains file start (log_of table commits) durable alive calls (life-is file start alive calls (log_of table commits) durable life) later kept n reopened

    l : Longest file start false later kept n bytes r.is leaves tells
    l = longest file start false later kept n bytes r.is leaves tells

    go : (k : ℕ) → k ≡ l.count → k ≤ length kept → n ≤ k → bytes ≡ frames start (take k kept) ++ drop (length (frames start (take k kept))) bytes → NoFrame (drop (length (frames start (take k kept))) bytes)
        → (last : ℕ) × (changes : List LogRecord) × HasCommits table bytes start last changes
    go zero same most enough stands ends = (let d = r.durably in absurd (omega arith))
    go (suc k) same most enough stands ends =
        let cs = take k commits in
        let read : take (suc k) kept ≡ log_of table cs =
        take-front (suc k) kept r.lost most ∙ ap (take (suc k)) (sym r.stands) ∙ ap (λ (t : List (List ℕ)). table ∷ t) (payloads-front k commits) in (
          start + length cs,
          changes_of cs,
          record {
            commits = cs;
            is_read = record {
              rest = drop (length (frames start (take (suc k) kept))) bytes;
              stands = stands ∙ ap (λ (t : List (List ℕ)). frames start t ++ drop (length (frames start (take (suc k) kept))) bytes) read;
              records = subst (AreRecords start) read (records-front start (suc k) kept r.is.records);
              ends = ends;
            };
            are = commits-front (start + 1) k commits are;
            last_is = refl;
            changes_are = refl;
          },
        )

pub log-found : (table file bytes other : List ℕ) (start : ℕ) (alive : Bool) (calls later : List FileCall) (commits : List (List LogRecord)) (kept : List (List ℕ)) (durable n : ℕ) → LogLife file start alive calls (log_of table commits) durable → AreCommits (start + 1) commits
    → Reopened file start calls (log_of table commits) durable later kept n → 1 ≤ durable → FileLeaves file later bytes → TellsTrue start (synced_bytes file later) (written_bytes file later) bytes → BeginsBefore start other
    → (found last : ℕ) × (changes : List LogRecord) × FindsLog table bytes other found last changes
log-found table file bytes other start alive calls later commits kept durable n life are reopened named leaves tells below =
    let h = log-read table file bytes start alive calls later commits kept durable n life are reopened named leaves tells in
    (start, h.0, h.1, inl (record { has = h.2; other = below }))

-- a log of no commit, of which so many records stand
one-read : (table : List ℕ) (log kept lost : List (List ℕ)) (k : ℕ) → (log ≡ []) ⊎ (log ≡ table ∷ []) → log ≡ kept ++ lost → suc k ≤ length kept → take (suc k) kept ≡ table ∷ []
one-read table log [] lost k is e le = absurd (omega arith)
one-read table log (x ∷ xs) lost k (inl none) e le = (let f : [] ≡ x ∷ (xs ++ lost) = sym none ∙ e in absurd (cc))
one-read table log (x ∷ xs) lost k (inr one) e le = go xs (sym one ∙ e)
  where
    none-of : (k : ℕ) → take {A = List ℕ} k [] ≡ []
    none-of zero = refl
    none-of (suc k) = refl

    go : (xs : List (List ℕ)) → table ∷ [] ≡ x ∷ (xs ++ lost) → x ∷ take k xs ≡ table ∷ []
    go [] f = (let same : table ≡ x = cc in ap (λ (t : List (List ℕ)). x ∷ t) (none-of k) ∙ ap (λ (t : List ℕ). t ∷ []) (sym same))
    go (y ∷ ys) f = absurd (cc)

-- one log is read in a file, and one that begins later may be begun in the other
either-found : (table bytes other_file other : List ℕ) (start to last : ℕ) (changes : List LogRecord) (before calls : List FileCall) → HasCommits table bytes start last changes → BeginsBefore to bytes → length (written_bytes other_file before) ≡ length other_file
    → BeginsBefore start (synced_bytes other_file before) → BeginsBefore start (written_bytes other_file before) → Beginning other_file to table before calls → FileLeaves other_file calls other → TellsTrue to (synced_bytes other_file calls) (written_bytes other_file calls) other
    → (found last : ℕ) × (changes : List LogRecord) × FindsLog table bytes other found last changes
either-found table bytes other_file other start to last changes before _ has below_to long below_synced below_written (wiping_it {more = more} wipes) leaves tells =
    (start, last, changes, inl (record { has = has; other = λ lsn payload rest fit e. stood other_file before long start below_synced below_written more to other wipes tells lsn payload rest fit e }))
either-found table bytes other_file other start to last changes before _ has below_to long below_synced below_written (was_begun {alive = alive} {calls = calls} {later = later} {log = log} {kept = kept} {durable = durable} {n = n} life log-is reopened) leaves tells =
    go l.count l.most l.stands l.ends
  where
    r : Remains other_file to log durable later kept n
    r = remains other_file to log durable alive calls (life-is other_file to alive calls log durable life) later kept n reopened

    l : Longest other_file to false later kept n other r.is leaves tells
    l = longest other_file to false later kept n other r.is leaves tells

    go : (k : ℕ) → k ≤ length kept → other ≡ frames to (take k kept) ++ drop (length (frames to (take k kept))) other → NoFrame (drop (length (frames to (take k kept))) other)
        → (found last : ℕ) × (changes : List LogRecord) × FindsLog table bytes other found last changes
    go zero most stands ends = (start, last, changes, inl (record { has = has; other = λ lsn payload rest fit e. absurd (ends lsn payload rest fit e) }))
    go (suc k) most stands ends =
        let read : take (suc k) kept ≡ log_of table [] = one-read table log kept r.lost k log-is r.stands most in
        let e : to ≡ to + 0 = omega arith in (
          to,
          to,
          [],
          inr (record {
            has = record {
              commits = [];
              is_read = record {
                rest = drop (length (frames to (take (suc k) kept))) other;
                stands = stands ∙ ap (λ (t : List (List ℕ)). frames to t ++ drop (length (frames to (take (suc k) kept))) other) read;
                records = subst (AreRecords to) read (records-front to (suc k) kept r.is.records);
                ends = ends;
              };
              are = tt;
              last_is = e;
              changes_are = refl;
            };
            other = below_to;
          }),
        )

-- ---- and mends what a crash left

module _ (c : Parameters) (tears : Bool) (first left : ℕ → List ℕ) (table file bytes other : List ℕ) (cut : Cut) (start : ℕ) (calls : List DeviceCall) (log_calls : List FileCall) (commits after : List (List LogRecord)) (records found last : ℕ) (changes : List LogRecord)
    (s : Stands c table cut file start calls log_calls commits after records) (honestly : Honest tears first calls) (sized : (p : ℕ) → length (first p) ≡ c.size) (file_left : FileLeaves file log_calls bytes) (tells : TellsTrue start (synced_bytes file log_calls) (written_bytes file log_calls) bytes)
    (below : BeginsBefore start other) (leaves : (p : ℕ) → MayLeave tears first calls p (left p)) (finds : FindsLog table bytes other found last changes) where
  has : HasCommits table bytes found last changes
  has = found-in table file bytes other start s.alive log_calls log_calls s.now (log_of table s.now) s.synced_records s.synced_records found last changes s.ran.log ended s.ran.named file_left tells below finds

  kept-now : Kept start s.synced_records s.now found last changes
  kept-now = whole-commits table file bytes start s.synced_records s.alive log_calls log_calls s.now (log_of table s.now) s.synced_records found last changes s.ran.log s.ran.are ended file_left tells has

  pub stands-mended : Kept start records after found last changes × MayBeRedone tears c.size 0 (reverse changes) (λ p. redo 0 (reverse (changes_of cut.commits ++ changes)) p (first p)) left
  stands-mended = (
    record {
      kept = kept-now.kept;
      lost = kept-now.lost ++ s.to_come;
      stands = s.grows ∙ ap (λ (cs : List (List LogRecord)). cs ++ s.to_come) kept-now.stands ∙ append_assoc kept-now.kept kept-now.lost s.to_come;
      durably = (let n = kept-now.durably in let m = s.no_fewer in omega arith);
      first_is = kept-now.first_is;
      last_is = kept-now.last_is;
      changes_are = kept-now.changes_are;
    },
    mended c tears first left table file bytes cut start s.alive s.past s.synced calls log_calls s.now s.synced_records found last changes s.pending log_calls (log_of table s.now) s.synced_records s.ran ended honestly sized file_left tells leaves has
        (sound c table cut file start s.alive s.past s.synced calls log_calls s.now s.synced_records s.pending s.ran tears found last changes kept-now),
  )

-- within a checkpoint, while either log may be found
pub moving-mended : (c : Parameters) (tears : Bool) (first left : ℕ → List ℕ) (table file other_file bytes other : List ℕ) (cut : Cut) (start : ℕ) (calls : List DeviceCall) (log_calls before : List FileCall) (commits : List (List LogRecord)) (records found last : ℕ) (changes : List LogRecord) (so_far : List Step)
    → IsMoving c table cut file start calls log_calls commits records other_file before so_far → Honest tears first (pages_in so_far ++ calls) → ((p : ℕ) → length (first p) ≡ c.size) → FileLeaves file (log_in so_far ++ log_calls) bytes → TellsTrue start (synced_bytes file (log_in so_far ++ log_calls)) (written_bytes file (log_in so_far ++ log_calls)) bytes
    → length (written_bytes other_file before) ≡ length other_file → BeginsBefore start (synced_bytes other_file before) → BeginsBefore start (written_bytes other_file before)
    → FileLeaves other_file (spare_in so_far ++ before) other → TellsTrue (start + 1 + length commits) (synced_bytes other_file (spare_in so_far ++ before)) (written_bytes other_file (spare_in so_far ++ before)) other
    → ((p : ℕ) → MayLeave tears first (pages_in so_far ++ calls) p (left p)) → FindsLog table bytes other found last changes
    → (Kept start records commits found last changes × MayBeRedone tears c.size 0 (reverse changes) (λ p. redo 0 (reverse (changes_of cut.commits ++ changes)) p (first p)) left) ⊎ MayBeRedone tears c.size 0 (reverse changes) (λ p. redo 0 (reverse (changes_of (cut.commits ++ commits))) p (first p)) left
moving-mended c tears first left table file other_file bytes other cut start calls log_calls before commits records found last changes so_far (staying none s) honestly sized file_left tells long below_synced below_written other_left other_tells leaves finds =
    inl (stands-mended c tears first left table file bytes other cut start (pages_in so_far ++ calls) (log_in so_far ++ log_calls) commits commits records found last changes s honestly sized file_left tells (go (spare_in so_far) none other_tells) leaves finds)
  where
    go : (begun : List FileCall) → begun ≡ [] → TellsTrue (start + 1 + length commits) (synced_bytes other_file (begun ++ before)) (written_bytes other_file (begun ++ before)) other → BeginsBefore start other
    go [] e tells = λ lsn payload rest fit is. stood other_file before long start below_synced below_written [] (start + 1 + length commits) other nothing tells lsn payload rest fit is
    go (x ∷ begun) e tells = absurd (cc)
moving-mended c tears first left table file other_file bytes other cut start calls log_calls before commits records found last changes so_far (moving {alive = alive} {past = past} ran saved pages_synced beginning) honestly sized file_left tells long below_synced below_written other_left other_tells leaves finds =
    inr (may-be-opened c tears first left table file other_file bytes other cut start alive past (pages_in so_far ++ calls) (log_in so_far ++ log_calls) (log_in so_far ++ log_calls) before (spare_in so_far ++ before) commits (log_of table commits) (1 + length commits) ran saved ended honestly sized file_left tells long below_synced below_written beginning other_left other_tells leaves
    (all-sound c table cut file start alive past past (pages_in so_far ++ calls) (log_in so_far ++ log_calls) commits (1 + length commits) [] ran tears (omega arith))
    (λ p. inr (all-shut c table cut file start alive past past (pages_in so_far ++ calls) (log_in so_far ++ log_calls) commits (1 + length commits) [] ran refl saved p)) found last changes finds)

-- a file that was written again, durably
settled-all : (again : List ℕ) (calls : List FileCall) (b : Bool) → Settles again calls b → b ≡ true → (first : List ℕ) (before : List FileCall) → length (written_bytes first before) ≡ length again → IsSettled first again (calls ++ before)
settled-all again _ _ settles_nothing e first before long = absurd (cc)
settled-all again _ _ unwritten e first before long = absurd (cc)
settled-all again _ _ (settles_synced good) e first before long = subst (λ (b : Bool). IsSettled first again (FileCall.Sync b ∷ FileCall.Again again true ∷ before)) (sym e) (settled long)

-- within an opening, once pages or the other file are written to
pub opening-mended : (tears : Bool) (device : Geometry) (wanted seen first left : ℕ → List ℕ) (table newer older newer_file file left_newer left_older : List ℕ) (begun last : ℕ) (changes : List LogRecord) (newer_before before : List FileCall) (so_far : List Step)
    → (is : IsNewer table newer older begun last changes) → IsOpening device (again_of is) table changes (last + 1) (length file) so_far → AreWithin device.pages device.size changes → MayBeRedone tears device.size 0 (reverse changes) wanted seen → MayBeRedone tears device.size 0 (reverse changes) wanted first
    → Honest tears seen (pages_in so_far) → ((p : ℕ) → MayLeave tears first (pages_in so_far) p (left p)) → length newer_file ≡ length (again_of is) → length (written_bytes newer_file newer_before) ≡ length (again_of is) → FileLeaves newer_file (log_in so_far ++ newer_before) left_newer
    → length (written_bytes file before) ≡ length file → BeginsBefore begun (synced_bytes file before) → BeginsBefore begun (written_bytes file before) → FileLeaves file (spare_in so_far ++ before) left_older
    → TellsTrue (last + 1) (synced_bytes file (spare_in so_far ++ before)) (written_bytes file (spare_in so_far ++ before)) left_older
    → ((pages_in so_far ≡ []) × (spare_in so_far ≡ [])) ⊎ MayBeOpened tears device.size table left_newer left_older wanted left
opening-mended tears device wanted seen first left table newer older newer_file file left_newer left_older begun last changes newer_before before so_far is (settling later no_pages no_spare settles e) within m k honest leaves size newer_long newer_left long below_synced below_written older_left tells = inl (no_pages, no_spare)
opening-mended tears device wanted seen first left table newer older newer_file file left_newer left_older begun last changes newer_before before so_far is (redoing_it none settles recovers) within m k honest leaves size newer_long newer_left long below_synced below_written older_left tells =
    inr (redoing tears device.pages device.size wanted seen first left table newer older left_newer begun last changes is
    (record { first = newer_file; calls = log_in so_far ++ newer_before; long = size; settled = settled-all (again_of is) (log_in so_far) true settles refl newer_file newer_before newer_long; leaves = newer_left }) m k
    left_older false (pages_in so_far) [] (pages_in so_far) (go (spare_in so_far) none tells) honest recovers refl leaves)
  where
    go : (begins : List FileCall) → begins ≡ [] → TellsTrue (last + 1) (synced_bytes file (begins ++ before)) (written_bytes file (begins ++ before)) left_older → BeginsBefore begun left_older
    go [] e tells = λ lsn payload rest fit at. stood file before long begun below_synced below_written [] (last + 1) left_older nothing tells lsn payload rest fit at
    go (x ∷ begins) e tells = absurd (cc)
opening-mended tears device wanted seen first left table newer older newer_file file left_newer left_older begun last changes newer_before before so_far is (beginning_it settles recovers pages_synced by) within m k honest leaves size newer_long newer_left long below_synced below_written older_left tells =
    inr (beginning tears device.pages device.size wanted seen first left table newer older left_newer begun last changes is
    (record { first = newer_file; calls = log_in so_far ++ newer_before; long = size; settled = settled-all (again_of is) (log_in so_far) true settles refl newer_file newer_before newer_long; leaves = newer_left }) m k
    (pages_in so_far) within honest recovers leaves file left_older before (spare_in so_far ++ before) long below_synced below_written
    (each-last (λ calls. Beginning file (last + 1) table before (calls ++ before)) (spare_in so_far) (each-beginning file (last + 1) table before long (spare_in so_far) by)) older_left tells)

pub stands-found : (c : Parameters) (table file bytes other : List ℕ) (cut : Cut) (start : ℕ) (calls : List DeviceCall) (log_calls : List FileCall) (commits after : List (List LogRecord)) (records : ℕ) → Stands c table cut file start calls log_calls commits after records → FileLeaves file log_calls bytes
    → TellsTrue start (synced_bytes file log_calls) (written_bytes file log_calls) bytes → BeginsBefore start other → (found last : ℕ) × (changes : List LogRecord) × FindsLog table bytes other found last changes
stands-found c table file bytes other cut start calls log_calls commits after records s leaves tells below = log-found table file bytes other start s.alive log_calls log_calls s.now (log_of table s.now) s.synced_records s.synced_records s.ran.log s.ran.are ended s.ran.named leaves tells below

pub moving-found : (c : Parameters) (table file other_file bytes other : List ℕ) (cut : Cut) (start : ℕ) (calls : List DeviceCall) (log_calls before : List FileCall) (commits : List (List LogRecord)) (records : ℕ) (so_far : List Step)
    → IsMoving c table cut file start calls log_calls commits records other_file before so_far → FileLeaves file (log_in so_far ++ log_calls) bytes → TellsTrue start (synced_bytes file (log_in so_far ++ log_calls)) (written_bytes file (log_in so_far ++ log_calls)) bytes
    → length (written_bytes other_file before) ≡ length other_file → BeginsBefore start (synced_bytes other_file before) → BeginsBefore start (written_bytes other_file before)
    → FileLeaves other_file (spare_in so_far ++ before) other → TellsTrue (start + 1 + length commits) (synced_bytes other_file (spare_in so_far ++ before)) (written_bytes other_file (spare_in so_far ++ before)) other
    → (found last : ℕ) × (changes : List LogRecord) × FindsLog table bytes other found last changes
moving-found c table file other_file bytes other cut start calls log_calls before commits records so_far (staying none s) leaves tells long below_synced below_written other_left other_tells =
    stands-found c table file bytes other cut start (pages_in so_far ++ calls) (log_in so_far ++ log_calls) commits commits records s leaves tells (go (spare_in so_far) none other_tells)
  where
    go : (begun : List FileCall) → begun ≡ [] → TellsTrue (start + 1 + length commits) (synced_bytes other_file (begun ++ before)) (written_bytes other_file (begun ++ before)) other → BeginsBefore start other
    go [] e tells = λ lsn payload rest fit is. stood other_file before long start below_synced below_written [] (start + 1 + length commits) other nothing tells lsn payload rest fit is
    go (x ∷ begun) e tells = absurd (cc)
moving-found c table file other_file bytes other cut start calls log_calls before commits records so_far (moving {alive = alive} {past = past} ran saved pages_synced beginning) leaves tells long below_synced below_written other_left other_tells =
    let h = log-read table file bytes start alive (log_in so_far ++ log_calls) (log_in so_far ++ log_calls) commits (log_of table commits) (1 + length commits) (1 + length commits) ran.log ran.are ended ran.named leaves tells in
    either-found table bytes other_file other start (start + 1 + length commits) h.0 h.1 before (spare_in so_far ++ before) h.2
    (old-left file start (start + 1 + length commits) alive (log_in so_far ++ log_calls) (log_in so_far ++ log_calls) (log_of table commits) (log_of table commits) (1 + length commits) (1 + length commits) ran.log ended (omega arith) bytes leaves tells)
    long below_synced below_written beginning other_left other_tells

pub opening-found : (tears : Bool) (device : Geometry) (table newer older newer_file file left_newer left_older : List ℕ) (begun last : ℕ) (changes : List LogRecord) (newer_before before : List FileCall) (so_far : List Step)
    → (is : IsNewer table newer older begun last changes) → IsOpening device (again_of is) table changes (last + 1) (length file) so_far → length newer_file ≡ length (again_of is) → length (written_bytes newer_file newer_before) ≡ length (again_of is) → FileLeaves newer_file (log_in so_far ++ newer_before) left_newer
    → length (written_bytes file before) ≡ length file → BeginsBefore begun (synced_bytes file before) → BeginsBefore begun (written_bytes file before) → FileLeaves file (spare_in so_far ++ before) left_older
    → TellsTrue (last + 1) (synced_bytes file (spare_in so_far ++ before)) (written_bytes file (spare_in so_far ++ before)) left_older
    → ((pages_in so_far ≡ []) × (spare_in so_far ≡ [])) ⊎ ((found l : ℕ) × (cs : List LogRecord) × FindsLog table left_newer left_older found l cs)
opening-found tears device table newer older newer_file file left_newer left_older begun last changes newer_before before so_far is (settling later no_pages no_spare settles e) size newer_long newer_left long below_synced below_written older_left tells = inl (no_pages, no_spare)
opening-found tears device table newer older newer_file file left_newer left_older begun last changes newer_before before so_far is (redoing_it none settles recovers) size newer_long newer_left long below_synced below_written older_left tells =
    inr (
      begun,
      last,
      changes,
      inl (record {
        has = newer-has tears device.pages device.size (λ p. []) (λ p. []) (λ p. []) (λ p. []) table newer older left_newer begun last changes is
            (record { first = newer_file; calls = log_in so_far ++ newer_before; long = size; settled = settled-all (again_of is) (log_in so_far) true settles refl newer_file newer_before newer_long; leaves = newer_left });
        other = go (spare_in so_far) none tells;
      }),
    )
  where
    go : (begins : List FileCall) → begins ≡ [] → TellsTrue (last + 1) (synced_bytes file (begins ++ before)) (written_bytes file (begins ++ before)) left_older → BeginsBefore begun left_older
    go [] e tells = λ lsn payload rest fit at. stood file before long begun below_synced below_written [] (last + 1) left_older nothing tells lsn payload rest fit at
    go (x ∷ begins) e tells = absurd (cc)
opening-found tears device table newer older newer_file file left_newer left_older begun last changes newer_before before so_far is (beginning_it settles recovers pages_synced by) size newer_long newer_left long below_synced below_written older_left tells =
    inr (
    let settled_now : SettledLeaves (again_of is) left_newer = record { first = newer_file; calls = log_in so_far ++ newer_before; long = size; settled = settled-all (again_of is) (log_in so_far) true settles refl newer_file newer_before newer_long; leaves = newer_left } in
    either-found table left_newer file left_older begun (last + 1) last changes before (spare_in so_far ++ before)
    (newer-has tears device.pages device.size (λ p. []) (λ p. []) (λ p. []) (λ p. []) table newer older left_newer begun last changes is settled_now)
    (begins-before tears device.pages device.size (λ p. []) (λ p. []) (λ p. []) (λ p. []) table newer older left_newer begun last changes is settled_now)
    long below_synced below_written (each-last (λ calls. Beginning file (last + 1) table before (calls ++ before)) (spare_in so_far) (each-beginning file (last + 1) table before long (spare_in so_far) by)) older_left tells)

none-before : (bytes : List ℕ) → NoFrame bytes → (to : ℕ) → BeginsBefore to bytes
none-before bytes none to = λ lsn payload rest fit e. absurd (none lsn payload rest fit e)

pub wiped-all : (file : List ℕ) (before : List FileCall) → length (written_bytes file before) ≡ length file → IsWiped file (wiped_by (length file) ++ before)
wiped-all file before long = (let e = is-emptied file before long in (e.well, e.long, none-before _ e.durably, none-before _ e.last, λ to left leaves. none-before left (e.left left leaves) to))
