use Rattle.example_log.specs.Moments.{log_in, pages_in}
use Rattle.std.proofs.Common.{◌≡◌, Bool, not, ◌+◌, ◌++◌, ◌∷◌, [], ℕ, List, length, map, reverse, drop, false, inl, inr, refl, sym, ap, subst, ◌∙◌, arith}
use Rattle.std.specs.Prelude.{◌⊎◌, true, slice_index_or}
use Rattle.std.proofs.lemmas.Bool.{true≢false}
use Rattle.std.proofs.lemmas.List.{length-map, drop_all}
use Rattle.bp_trail.specs.declared.records.LogRecord.{LogRecord}
use Rattle.example_log.specs.Commits.{AreChanges, changes_of, log_of, payload_of}
use Rattle.example_log.proofs.LogFiles.{err-if, weaken, same-or-ended}
use Rattle.example_table.specs.Images.{NotesMore}
use Rattle.example_table.specs.TableCalls.{TableGoes, under}
use Rattle.example_table.proofs.Tabling.{table-stays, table-then, table-weaken, log-appends, log-refuses, pending-next}
use Rattle.example_table.proofs.Faults.{full-of}
use Rattle.example_table.proofs.Wholes.{firsts-made}
use Rattle.example_table.proofs.table.Table.commit_whole.Goals as goal

either : (L : List (List ℕ)) (a b : List ℕ) (l : List (List ℕ)) → a ≡ b → (l ≡ L) ⊎ (l ≡ L ++ a ∷ []) → (l ≡ L) ⊎ (l ≡ L ++ b ∷ [])
either L a b l e (inl same) = inl same
either L a b l e (inr more) = inr (more ∙ ap (λ (t : List ℕ). L ++ t ∷ []) e)

count : (table : List ℕ) (commits : List (List LogRecord)) (start lsn : ℕ) → lsn ≡ start + length (log_of table commits) → lsn ≡ start + 1 + length commits
count table commits start lsn e = omega (arith, e, length-map commits payload_of)

pub returns-then-self-ge-NO_COMMIT-clause-goes : goal.returns-then-self-ge-NO_COMMIT-clause-goes
returns-then-self-ge-NO_COMMIT-clause-goes g c = λ table cut file start records synced calls log_calls commits is running firsts.
    table-stays g.S.LogStore.reads g.S.LogStore.writes g.S.LogStore.syncs g.P.Port.read_gives g.P.Port.write_gives g.P.Port.sync_gives table cut file start synced calls log_calls commits records [] c.args.self.now.pool c.args.self.now.log is _ (inl (refl, refl), (λ e. refl), (λ e. refl), tt)

pub returns-clause-limit : goal.returns-clause-limit
returns-clause-limit g c = omega (arith, c.in-Ok.ensures.next, c.if-self-ge-NO_COMMIT.false)

pub returns-in_err-payload-clause-goes : goal.returns-in_err-payload-clause-goes
returns-in_err-payload-clause-goes g c = λ table cut file start records synced calls log_calls commits is running firsts.
    (let e = err-if c.from_residual.result _ (c.args.self.now.is_ended ≡ false → commits ≡ commits) c.from_residual.ensures.0 (λ e. refl) in
    table-stays g.S.LogStore.reads g.S.LogStore.writes g.S.LogStore.syncs g.P.Port.read_gives g.P.Port.write_gives g.P.Port.sync_gives table cut file start synced calls log_calls commits records [] c.args.self.now.pool c.args.self.now.log is _ (inl (refl, refl), (λ e. refl), e.1, e.0))

pub returns-in-Err-clause-goes : goal.returns-in-Err-clause-goes
returns-in-Err-clause-goes g c = λ table cut file start records synced calls log_calls commits is running firsts.
    elim (same-or-ended (g.S.LogStore.writes c.port-2.result.now) c.args.self.now.log c.append.new.self c.deref.result.now c.in-Err.fault c.in-Err.ensures.fault) [
      | inl same ↦ subst (λ l. TableGoes g.S.LogStore.reads g.S.LogStore.writes g.S.LogStore.syncs g.P.Port.read_gives g.P.Port.write_gives g.P.Port.sync_gives c.args.self.now.pool c.args.self.now.pool c.args.self.now.log l table cut file start calls log_calls commits records (λ after n left. (((after ≡ commits) × (c.args.self.now.imaged.items ≡ c.args.self.now.imaged.items)) ⊎ (after ≡ commits ++ map (under (start + 1 + length commits)) c.args.changes.now ∷ [])) × (c.append.new.self.is_ended ≡ false → left ≡ []) × (c.append.new.self.is_ended ≡ false → after ≡ commits) × Unit {0})) (sym same)
          (table-stays g.S.LogStore.reads g.S.LogStore.writes g.S.LogStore.syncs g.P.Port.read_gives g.P.Port.write_gives g.P.Port.sync_gives table cut file start synced calls log_calls commits records [] c.args.self.now.pool c.args.self.now.log is _ (inl (refl, refl), (λ e. refl), (λ e. refl), tt))
      | inr ended ↦ (let l = start + 1 + length commits in
          let told = c.in_ok-payload.ensures.told l in
          log-refuses g.S.LogStore.reads g.S.LogStore.writes g.S.LogStore.syncs g.P.Port.read_gives g.P.Port.write_gives g.P.Port.sync_gives table cut file start synced calls log_calls commits records [] c.args.self.now.pool c.args.self.now.log is c.port-2.result.now c.port-2.ensures c.append.new.self (map (under l) c.args.changes.now) (λ x n. Unit {0}) (λ after n left. (((after ≡ commits) × (c.args.self.now.imaged.items ≡ c.args.self.now.imaged.items)) ⊎ (after ≡ commits ++ map (under (start + 1 + length commits)) c.args.changes.now ∷ [])) × (c.append.new.self.is_ended ≡ false → left ≡ []) × (c.append.new.self.is_ended ≡ false → after ≡ commits) × Unit {0}) (λ yes. absurd (true≢false (sym yes ∙ ap not ended))) refl told.1
          (firsts-made c.args.self.now.pool.core.parameters.size l c.args.changes.now (reverse (changes_of commits)) firsts)
          (weaken (g.S.LogStore.reads c.port-2.result.now) (g.S.LogStore.writes c.port-2.result.now) (g.S.LogStore.syncs c.port-2.result.now) c.args.self.now.log c.append.new.self file start log_calls _ _ (λ x n p. (p.0, tt, either (log_of table commits) c.deref.result.now (payload_of (map (under l) c.args.changes.now)) x (c.deref.ensures.value ∙ told.0) p.2))
          (c.in-Err.ensures.life file start records log_calls (log_of table commits) is.file_is))
          (inl (refl, refl), (λ e. absurd (true≢false (sym ended ∙ e))), (λ e. refl), tt)
          (inr refl, (λ e. absurd (true≢false (sym ended ∙ e))), (λ e. absurd (true≢false (sym ended ∙ e))), tt))
    ]

pub loop-change-init : goal.loop-change-init
loop-change-init g c = (
  c.in-Ok.ensures.alive,
  c.note_images.ensures.known,
  λ table cut file start records synced calls log_calls commits is running firsts.
      (let life = c.in-Ok.ensures.life file start records log_calls (log_of table commits) is.file_is in
      let told = c.in_ok-payload.ensures.told c.in-Ok.lsn in
      let lsn-is = count table commits start c.in-Ok.lsn life.is_so.1.0 in (
        lsn-is,
        log-appends g.S.LogStore.reads g.S.LogStore.writes g.S.LogStore.syncs g.P.Port.read_gives g.P.Port.write_gives g.P.Port.sync_gives table cut file start synced calls log_calls commits records [] c.args.self.now.pool c.args.self.now.log is c.port-2.result.now c.port-2.ensures c.append.new.self (map (under c.in-Ok.lsn) c.args.changes.now) _ (λ yes. ap not c.in-Ok.ensures.room.alive) refl (subst (λ (n : ℕ). AreChanges n (map (under c.in-Ok.lsn) c.args.changes.now)) lsn-is told.1)
            (firsts-made c.args.self.now.pool.core.parameters.size c.in-Ok.lsn c.args.changes.now (reverse (changes_of commits)) firsts)
            (weaken (g.S.LogStore.reads c.port-2.result.now) (g.S.LogStore.writes c.port-2.result.now) (g.S.LogStore.syncs c.port-2.result.now) c.args.self.now.log c.append.new.self file start log_calls _ _ (λ x n p. (p.0, p.1.1 ∙ ap (λ (t : List ℕ). log_of table commits ++ t ∷ []) (c.deref.ensures.value ∙ told.0))) life) (refl, refl),
      )),
  λ e. e,
  c.note_images.ensures.noted,
)

pub returns-in-Err-put-clause-goes : goal.returns-in-Err-put-clause-goes
returns-in-Err-put-clause-goes g c = λ table cut file start records synced calls log_calls commits is running firsts.
    (let v = c.loop-change.invariant.2 table cut file start records synced calls log_calls commits is running firsts in
    let t = v.1 in
    let u = under c.in-Ok.lsn in
    let changes = c.args.changes.now in
    let i = c.loop-change.change-index in
    let p = c.put.ensures.goes (reverse (map u (drop (i + 1) changes))) table cut file start t.durable t.synced ((pages_in t.steps) ++ calls) ((log_in t.steps) ++ log_calls) t.commits t.pending t.is
    (t.is_so.1 ∙ pending-next c.in-Ok.lsn changes i c.change-item.result c.loop-change-test.true c.change-item.is) in
    table-then g.S.LogStore.reads g.S.LogStore.writes g.S.LogStore.syncs g.P.Port.read_gives g.P.Port.write_gives g.P.Port.sync_gives table cut file start c.args.self.now.pool c.loop-change.self.pool c.put.new.self.pool c.args.self.now.log c.loop-change.self.log c.put.new.self.log calls log_calls _ _ t
    (table-weaken g.S.LogStore.reads g.S.LogStore.writes g.S.LogStore.syncs g.P.Port.read_gives g.P.Port.write_gives g.P.Port.sync_gives table cut file start _ _ _ _ ((pages_in t.steps) ++ calls) ((log_in t.steps) ++ log_calls) _ _ (λ cs n left q. (inr (q.0 ∙ t.is_so.0 ∙ ap (λ (n : ℕ). commits ++ map (under n) changes ∷ []) v.0), (λ e. absurd (true≢false e)), (λ e. absurd (true≢false e)), tt)) p))

pub loop-change-preserved : goal.loop-change-preserved
loop-change-preserved g c = (
  c.in-Ok-put.ensures.alive c.loop-change.invariant.0,
  (λ p set. c.loop-change.invariant.1 p (subst (λ fs. slice_index_or fs p false ≡ true) c.in-Ok-put.ensures.kept set)),
  λ table cut file start records synced calls log_calls commits is running firsts.
      (let v = c.loop-change.invariant.2 table cut file start records synced calls log_calls commits is running firsts in
      let t = v.1 in
      let u = under c.in-Ok.lsn in
      let changes = c.args.changes.now in
      let i = c.loop-change.change-index in
      let p = c.in-Ok-put.ensures.goes (reverse (map u (drop (i + 1) changes))) table cut file start t.durable t.synced ((pages_in t.steps) ++ calls) ((log_in t.steps) ++ log_calls) t.commits t.pending t.is
      (t.is_so.1 ∙ pending-next c.in-Ok.lsn changes i c.change-item.result c.loop-change-test.true c.change-item.is) in (
        v.0,
        table-then g.S.LogStore.reads g.S.LogStore.writes g.S.LogStore.syncs g.P.Port.read_gives g.P.Port.write_gives g.P.Port.sync_gives table cut file start c.args.self.now.pool c.loop-change.self.pool c.put.new.self.pool c.args.self.now.log c.loop-change.self.log c.put.new.self.log calls log_calls _ _ t
            (table-weaken g.S.LogStore.reads g.S.LogStore.writes g.S.LogStore.syncs g.P.Port.read_gives g.P.Port.write_gives g.P.Port.sync_gives table cut file start _ _ _ _ ((pages_in t.steps) ++ calls) ((log_in t.steps) ++ log_calls) _ _ (λ cs n left q. (q.0 ∙ t.is_so.0, q.2)) p),
      )),
  λ e. c.in-Ok-put.ensures.passes (c.loop-change.invariant.3 e),
  subst (NotesMore c.args.self.now.imaged.items c.args.changes.now) (sym c.in-Ok-put.ensures.kept) c.loop-change.invariant.4,
)

pub returns-clause-goes : goal.returns-clause-goes
returns-clause-goes g c = λ table cut file start records synced calls log_calls commits is running firsts.
    (let v = c.loop-change.invariant.2 table cut file start records synced calls log_calls commits is running firsts in
    let none = ap (λ (t : List LogRecord). reverse (map (under c.in-Ok.lsn) t)) (drop_all c.loop-change.change-index c.args.changes.now c.loop-change-test.false) in
    table-weaken g.S.LogStore.reads g.S.LogStore.writes g.S.LogStore.syncs g.P.Port.read_gives g.P.Port.write_gives g.P.Port.sync_gives table cut file start _ _ _ _ calls log_calls _ _
    (λ cs n left q. (inr (q.0 ∙ ap (λ (n : ℕ). commits ++ map (under n) c.args.changes.now ∷ []) v.0), (λ e. q.1 ∙ none), tt, (v.0, q.0))) v.1)

pub returns-in-Err-put-clause-passes : goal.returns-in-Err-put-clause-passes
returns-in-Err-put-clause-passes g c = λ e. c.put.ensures.passes (c.loop-change.invariant.3 e)

pub returns-in-Err-put-clause-flags : goal.returns-in-Err-put-clause-flags
returns-in-Err-put-clause-flags g c = ap (λ (fs : List Bool). length fs) c.put.ensures.kept ∙ c.loop-change.invariant.4.room

pub returns-clause-flags : goal.returns-clause-flags
returns-clause-flags g c = c.loop-change.invariant.4.room

pub returns-clause-added : goal.returns-clause-added
returns-clause-added g c = c.loop-change.invariant.4

pub returns-clause-passes : goal.returns-clause-passes
returns-clause-passes g c = c.loop-change.invariant.3

pub returns-in-Err-clause-full : goal.returns-in-Err-clause-full
returns-in-Err-clause-full g c = λ full. full-of (g.S.LogStore.writes c.port-2.result.now) c.args.self.now.log c.append.new.self c.deref.result.now 0 c.args.changes.now c.in-Err.fault (c.deref.ensures.value ∙ (c.in_ok-payload.ensures.told 0).0) c.in-Err.ensures.fault full
