use Rattle.example_log.specs.Moments.{log_in, pages_in}
use Rattle.std.proofs.Common.{◌≡◌, ◌+◌, ◌++◌, ◌∷◌, [], ℕ, List, length, map, reverse, false, inl, inr, refl, sym, ap, subst, ◌∙◌}
use Rattle.std.proofs.Common.{Bool, true}
use Rattle.bp_trail.specs.Lists.{some}
use Rattle.std.specs.Prelude.{◌⊎◌, slice_index_or, Err}
use Rattle.bp_trail.specs.Parameters.{Parameters}
use Rattle.bp_trail.specs.declared.records.LogRecord.{LogRecord}
use Rattle.example_log.specs.declared.log.LogFault.TheVariants.{Ended}
use Rattle.example_log.specs.Commits.{changes_of}
use Rattle.example_table.specs.declared.table.TableFault.TheVariants.{Log}
use Rattle.example_table.specs.Images.{AreImaged, AreImagedOnce, AreWhole, FirstsAreFull, is_of}
use Rattle.example_table.specs.TableCalls.{LeavesCommit, under}
use Rattle.example_table.proofs.Tabling.{so-is, so-so, stays-so, then-so}
use Rattle.example_table.proofs.Faults.{full-after}
use Rattle.example_table.proofs.Wholes.{commit-makes, imaged-noted, imaged-same, notes-after, notes-same, says-none, says-more}
use Rattle.example_table.proofs.table.Table.commit.Goals as goal

pub returns-then-self-clause-goes : goal.returns-then-self-clause-goes
returns-then-self-clause-goes g c = λ table cut file start records synced calls log_calls commits is known.
    stays-so g.S.LogStore.reads g.S.LogStore.writes g.S.LogStore.syncs g.P.Port.read_gives g.P.Port.write_gives g.P.Port.sync_gives table cut file start calls log_calls synced commits records [] c.args.self.now.pool c.args.self.now.log is _ ((λ e. refl), known, (λ e noted. noted))
    (LeavesCommit c.args.self.now.pool.core.parameters.size cut calls commits (start + 1 + length commits) c.args.changes.now c.args.self.now.is_ended (Err (Log Ended)))
    (says-none cut calls commits (start + 1 + length commits) c.args.changes.now c.args.self.now.is_ended (Err (Log Ended)) refl [] commits refl)

pub returns-in_err-check-clause-goes : goal.returns-in_err-check-clause-goes
returns-in_err-check-clause-goes g c = λ table cut file start records synced calls log_calls commits is known.
    stays-so g.S.LogStore.reads g.S.LogStore.writes g.S.LogStore.syncs g.P.Port.read_gives g.P.Port.write_gives g.P.Port.sync_gives table cut file start calls log_calls synced commits records [] c.args.self.now.pool c.args.self.now.log is _ ((λ e. refl), known, (λ e noted. noted))
    (LeavesCommit c.args.self.now.pool.core.parameters.size cut calls commits (start + 1 + length commits) c.args.changes.now c.args.self.now.is_ended c.from_residual.result)
    (says-none cut calls commits (start + 1 + length commits) c.args.changes.now c.args.self.now.is_ended c.from_residual.result c.from_residual.ensures.0 [] commits refl)

pub returns-in-Err-clause-goes : goal.returns-in-Err-clause-goes
returns-in-Err-clause-goes g c = λ table cut file start records synced calls log_calls commits is known.
    (let f = c.in-Err.ensures.goes table cut file start records synced calls log_calls commits is known in
    so-so g.S.LogStore.reads g.S.LogStore.writes g.S.LogStore.syncs g.P.Port.read_gives g.P.Port.write_gives g.P.Port.sync_gives table cut file start calls log_calls c.args.self.now.pool c.whole_changes.new.self.pool c.args.self.now.log c.whole_changes.new.self.log (λ after n left. (after ≡ commits) × (left ≡ [])) _
    (λ cs n left p. ((λ e. p.1), imaged-same c.whole_changes.new.self.imaged.items c.args.self.now.imaged.items (reverse (changes_of commits)) (reverse (changes_of cs)) c.in-Err.ensures.kept.0 (ap (λ (x : List (List LogRecord)). reverse (changes_of x)) p.0) known, (λ e noted. notes-same c.whole_changes.new.self.imaged.items c.args.self.now.imaged.items (reverse (changes_of commits)) (reverse (changes_of cs)) c.in-Err.ensures.kept.0 (ap (λ (x : List (List LogRecord)). reverse (changes_of x)) p.0) noted))) f.0
    (LeavesCommit c.args.self.now.pool.core.parameters.size cut calls commits (start + 1 + length commits) c.args.changes.now c.whole_changes.new.self.log.is_ended (Err c.in-Err.fault))
    (says-none cut calls commits (start + 1 + length commits) c.args.changes.now c.whole_changes.new.self.log.is_ended (Err c.in-Err.fault) refl (pages_in f.0.steps) f.0.commits f.0.is_so.0))

pub returns-clause-goes : goal.returns-clause-goes
returns-clause-goes g c = λ table cut file start records synced calls log_calls commits is known.
    (let f = c.in-Ok.ensures.goes table cut file start records synced calls log_calls commits is known in
    let l = start + 1 + length commits in
    let made = c.deref.result.now in
    let whole = subst (AreWhole c.args.self.now.pool.core.parameters.size ((pages_in f.0.steps) ++ calls) (reverse (changes_of (cut.commits ++ commits))) (reverse (changes_of commits)) c.args.changes.now) (sym c.deref.ensures.value) f.1.0 in
    let there = so-is g.S.LogStore.reads g.S.LogStore.writes g.S.LogStore.syncs g.P.Port.read_gives g.P.Port.write_gives g.P.Port.sync_gives table cut file start calls log_calls commits c.args.self.now.pool c.whole_changes.new.self.pool c.args.self.now.log c.whole_changes.new.self.log f.0 in
    let h = c.commit_whole.ensures.goes table cut file start f.0.durable f.0.synced ((pages_in f.0.steps) ++ calls) ((log_in f.0.steps) ++ log_calls) commits there (c.in-Ok.ensures.kept.1 ∙ c.if-self.false)
    (subst (λ (x : Parameters). FirstsAreFull x.size (reverse made ++ reverse (changes_of commits))) (sym f.0.parameters) whole.full) in
    let has = commit-makes cut c.args.self.now.pool.core.parameters.size l ((pages_in f.0.steps) ++ calls) commits c.args.changes.now made whole in
    let k = then-so g.S.LogStore.reads g.S.LogStore.writes g.S.LogStore.syncs g.P.Port.read_gives g.P.Port.write_gives g.P.Port.sync_gives table cut file start calls log_calls c.args.self.now.pool c.whole_changes.new.self.pool c.commit_whole.new.self.pool c.args.self.now.log c.whole_changes.new.self.log c.commit_whole.new.self.log _ _ f.0 commits (sym f.0.is_so.0) h
    (LeavesCommit c.args.self.now.pool.core.parameters.size cut calls commits l c.args.changes.now c.commit_whole.new.self.is_ended c.commit_whole.result)
    (says-more cut (pages_in h.steps) (pages_in f.0.steps) calls commits h.commits l c.args.changes.now made c.commit_whole.new.self.is_ended c.commit_whole.result has (h.is_so.0) h.is_so.2 h.is_so.3) in
    so-so g.S.LogStore.reads g.S.LogStore.writes g.S.LogStore.syncs g.P.Port.read_gives g.P.Port.write_gives g.P.Port.sync_gives table cut file start calls log_calls c.args.self.now.pool c.commit_whole.new.self.pool c.args.self.now.log c.commit_whole.new.self.log _ _
    (λ cs n left p. (p.1, images c.commit_whole.new.self.imaged.items c.whole_changes.new.self.imaged.items c.args.self.now.imaged.items l made commits cs c.in-Ok.ensures.kept.0 known c.commit_whole.ensures.noted p.0, notes-after c.args.self.now.imaged.items c.whole_changes.new.self.imaged.items c.commit_whole.new.self.imaged.items l made commits cs c.commit_whole.new.self.is_ended c.commit_whole.result c.in-Ok.ensures.kept.0 c.commit_whole.ensures.added p.0 p.2 p.3)) k.0
    (LeavesCommit c.args.self.now.pool.core.parameters.size cut calls commits l c.args.changes.now c.commit_whole.new.self.is_ended c.commit_whole.result) k.1)
  where
    images : (new mid old : List Bool) (lsn : ℕ) (made : List LogRecord) (commits after : List (List LogRecord)) → mid ≡ old → AreImaged old (reverse (changes_of commits))
        → ((p : ℕ) → slice_index_or new p false ≡ true → (slice_index_or mid p false ≡ true) ⊎ (some (is_of p) made ≡ true))
        → ((after ≡ commits) × (new ≡ mid)) ⊎ (after ≡ commits ++ map (under lsn) made ∷ []) → AreImaged new (reverse (changes_of after))
    images new mid old lsn made commits after e known noted (inl same) = imaged-same new old (reverse (changes_of commits)) (reverse (changes_of after)) (same.1 ∙ e) (ap (λ (x : List (List LogRecord)). reverse (changes_of x)) same.0) known
    images new mid old lsn made commits after e known noted (inr added) =
        subst (λ (x : List (List LogRecord)). AreImaged new (reverse (changes_of x))) (sym added) (imaged-noted mid new lsn made commits (imaged-same mid old (reverse (changes_of commits)) (reverse (changes_of commits)) e refl known) noted)

pub returns-in-Err-clause-full : goal.returns-in-Err-clause-full
returns-in-Err-clause-full g c = λ table cut file start records synced calls log_calls commits is known full. absurd (c.in-Err.ensures.fault full)

pub returns-clause-full : goal.returns-clause-full
returns-clause-full g c = λ table cut file start records synced calls log_calls commits is known.
    (let f = c.in-Ok.ensures.goes table cut file start records synced calls log_calls commits is known in
    let made = c.deref.result.now in
    full-after c.args.self.now.pool.core.parameters.size c.args.self.now.imaged.items c.args.self.now.log c.whole_changes.new.self.log c.args.changes.now made c.commit_whole.result c.in-Ok.ensures.place
    (subst (AreImagedOnce c.args.self.now.pool.core.parameters.size (λ p. slice_index_or c.args.self.now.imaged.items p false) c.args.changes.now) (sym c.deref.ensures.value) f.1.1) c.commit_whole.ensures.full)

pub returns-in-Err-clause-flags : goal.returns-in-Err-clause-flags
returns-in-Err-clause-flags g c = ap (λ (fs : List Bool). length fs) c.in-Err.ensures.kept.0

pub returns-clause-flags : goal.returns-clause-flags
returns-clause-flags g c = c.commit_whole.ensures.flags ∙ ap (λ (fs : List Bool). length fs) c.in-Ok.ensures.kept.0
