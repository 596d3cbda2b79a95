use Rattle.example_log.specs.Moments.{log_in, pages_in}
use Rattle.std.proofs.Common.{◌≡◌, ◌+◌, ◌++◌, [], List, reverse, take, refl, sym, subst, ◌∙◌}
use Rattle.std.specs.Prelude.{◌||◌, true, false, slice_index_or}
use Rattle.bp_trail.specs.Lists.{some}
use Rattle.bp_trail.specs.Parameters.{Parameters}
use Rattle.bp_trail.specs.declared.records.LogRecord.{LogRecord}
use Rattle.example_log.specs.Commits.{changes_of}
use Rattle.example_log.proofs.LogFiles.{err-if}
use Rattle.example_table.specs.Images.{AreImagedOnce, AreWhole, IsWhole, is_of}
use Rattle.example_table.proofs.Tabling.{so-is, table-next, table-stays, then-so}
use Rattle.example_table.proofs.Wholes.{all-taken, next-copied, next-copied-once, next-imaged, next-imaged-once, whole-none}
use Rattle.example_table.proofs.table.Table.whole_changes.Goals as goal
use Rattle.example_table.proofs.table.Table.whole_changes.Goals.{then-is_known+in_ok-copy_of+in_ok-push, else-is_known+in_ok-whole+in_ok-push-2}

pub loop-change-init : goal.loop-change-init
loop-change-init g c = (
  λ table cut file start records synced calls log_calls commits is known. (
    table-stays g.S.LogStore.reads g.S.LogStore.writes g.S.LogStore.syncs g.P.Port.read_gives g.P.Port.write_gives g.P.Port.sync_gives table cut file start synced calls log_calls commits records [] c.args.self.now.pool c.args.self.now.log is _ (refl, refl),
    subst (AreWhole c.args.self.now.pool.core.parameters.size _ (reverse (changes_of (cut.commits ++ commits))) (reverse (changes_of commits)) []) (sym c.new-made.ensures.items) (whole-none c.args.self.now.pool.core.parameters.size _ (reverse (changes_of (cut.commits ++ commits))) (reverse (changes_of commits)) is.ran.full),
    subst (AreImagedOnce c.args.self.now.pool.core.parameters.size (λ p. slice_index_or c.args.self.now.imaged.items p false) []) (sym c.new-made.ensures.items) tt,
  ),
  refl,
  refl,
  λ e. e,
  (refl, refl, refl),
)

pub returns-in_err-whole-clause-goes : goal.returns-in_err-whole-clause-goes
returns-in_err-whole-clause-goes g c = λ table cut file start records synced calls log_calls commits is known.
    (let t = c.loop-change.invariant.0 table cut file start records synced calls log_calls commits is known in
    let w = c.in_err-whole.ensures.goes table cut file start t.0.durable t.0.synced ((pages_in t.0.steps) ++ calls) ((log_in t.0.steps) ++ log_calls) commits
    (so-is g.S.LogStore.reads g.S.LogStore.writes g.S.LogStore.syncs g.P.Port.read_gives g.P.Port.write_gives g.P.Port.sync_gives table cut file start calls log_calls commits c.args.self.now.pool c.loop-change.self.pool c.args.self.now.log c.loop-change.self.log t.0) in
    (table-next g.S.LogStore.reads g.S.LogStore.writes g.S.LogStore.syncs g.P.Port.read_gives g.P.Port.write_gives g.P.Port.sync_gives table cut file start c.args.self.now.pool c.loop-change.self.pool c.whole.new.self.pool c.args.self.now.log c.loop-change.self.log c.whole.new.self.log calls log_calls _ _ t.0 commits t.0.durable (sym t.0.is_so.0) refl w.0, (err-if c.from_residual-in_err-whole.result _ (Unit {0}) c.from_residual-in_err-whole.ensures.0 tt).0))

pub returns-in_err-push-2-clause-goes : goal.returns-in_err-push-2-clause-goes
returns-in_err-push-2-clause-goes g c = λ table cut file start records synced calls log_calls commits is known.
    (let t = c.loop-change.invariant.0 table cut file start records synced calls log_calls commits is known in
    let w = c.in_ok-whole.ensures.goes table cut file start t.0.durable t.0.synced ((pages_in t.0.steps) ++ calls) ((log_in t.0.steps) ++ log_calls) commits
    (so-is g.S.LogStore.reads g.S.LogStore.writes g.S.LogStore.syncs g.P.Port.read_gives g.P.Port.write_gives g.P.Port.sync_gives table cut file start calls log_calls commits c.args.self.now.pool c.loop-change.self.pool c.args.self.now.log c.loop-change.self.log t.0) in
    (table-next g.S.LogStore.reads g.S.LogStore.writes g.S.LogStore.syncs g.P.Port.read_gives g.P.Port.write_gives g.P.Port.sync_gives table cut file start c.args.self.now.pool c.loop-change.self.pool c.whole.new.self.pool c.args.self.now.log c.loop-change.self.log c.whole.new.self.log calls log_calls _ _ t.0 commits t.0.durable (sym t.0.is_so.0) refl w.0, (err-if c.from_residual-in_err-push-2.result _ (Unit {0}) c.from_residual-in_err-push-2.ensures.0 tt).0))

pub loop-change-preserved : goal.loop-change-preserved
loop-change-preserved g c = elim c.if-is_known.branch [
  | then-is_known+in_ok-copy_of+in_ok-push w ↦ rw (w.self-is, w.made-is) (
    λ table cut file start records synced calls log_calls commits is known.
        (let t = c.loop-change.invariant.0 table cut file start records synced calls log_calls commits is known in
        let here = (subst (λ fs. (slice_index_or fs c.change-item.result.page false || some (is_of c.change-item.result.page) c.loop-change.made.items) ≡ true) c.loop-change.invariant.1
        (subst (λ ms. (slice_index_or c.loop-change.self.imaged.items c.change-item.result.page false || some (is_of c.change-item.result.page) ms) ≡ true) c.deref.ensures.value (sym c.is_known.ensures ∙ w.if-is_known.true))) in (
          t.0,
          next-copied c.args.self.now.pool.core.parameters.size (reverse (changes_of (cut.commits ++ commits))) (reverse (changes_of commits)) c.args.changes.now c.loop-change.change-index c.change-item.result c.loop-change.made.items w.push.new.self.items w.in_ok-copy_of.field-0 c.loop-change-test.true c.change-item.is w.in_ok-push.ensures.items
              ((pages_in t.0.steps) ++ calls) t.1 w.in_ok-copy_of.ensures c.args.self.now.imaged.items known here,
          next-copied-once c.args.self.now.pool.core.parameters.size (reverse (changes_of (cut.commits ++ commits))) (reverse (changes_of commits)) c.args.changes.now c.loop-change.change-index c.change-item.result c.loop-change.made.items w.push.new.self.items w.in_ok-copy_of.field-0 c.loop-change-test.true c.change-item.is w.in_ok-push.ensures.items
              ((pages_in t.0.steps) ++ calls) t.1 w.in_ok-copy_of.ensures c.args.self.now.imaged.items here t.2,
        )),
    c.loop-change.invariant.1,
    c.loop-change.invariant.2,
    c.loop-change.invariant.3,
    c.loop-change.invariant.4,
  )
  | else-is_known+in_ok-whole+in_ok-push-2 w ↦ rw (w.self-is, w.made-is) (
    λ table cut file start records synced calls log_calls commits is known.
        (let t = c.loop-change.invariant.0 table cut file start records synced calls log_calls commits is known in
        let v = w.in_ok-whole.ensures.goes table cut file start t.0.durable t.0.synced ((pages_in t.0.steps) ++ calls) ((log_in t.0.steps) ++ log_calls) commits
        (so-is g.S.LogStore.reads g.S.LogStore.writes g.S.LogStore.syncs g.P.Port.read_gives g.P.Port.write_gives g.P.Port.sync_gives table cut file start calls log_calls commits c.args.self.now.pool c.loop-change.self.pool c.args.self.now.log c.loop-change.self.log t.0) in
        let none = subst (λ ms. (slice_index_or c.loop-change.self.imaged.items c.change-item.result.page false || some (is_of c.change-item.result.page) ms) ≡ false) c.deref.ensures.value (sym c.is_known.ensures ∙ w.if-is_known.false) in
        let whole = subst (λ (x : Parameters). IsWhole x.size ((pages_in v.0.steps) ++ ((pages_in t.0.steps) ++ calls)) (reverse (changes_of (cut.commits ++ commits))) c.change-item.result w.in_ok-whole.field-0) t.0.parameters v.1 in
        let q = then-so g.S.LogStore.reads g.S.LogStore.writes g.S.LogStore.syncs g.P.Port.read_gives g.P.Port.write_gives g.P.Port.sync_gives table cut file start calls log_calls c.args.self.now.pool c.loop-change.self.pool w.whole.new.self.pool c.args.self.now.log c.loop-change.self.log w.whole.new.self.log (λ after n left. (after ≡ commits) × (left ≡ [])) (λ after n left. (after ≡ commits) × (left ≡ [])) t.0 commits (sym t.0.is_so.0) v.0
        (λ cs after. AreWhole c.args.self.now.pool.core.parameters.size (cs ++ calls) (reverse (changes_of (cut.commits ++ commits))) (reverse (changes_of commits)) (take (c.loop-change.change-index + 1) c.args.changes.now) w.push-else-is_known.new.self.items
        × AreImagedOnce c.args.self.now.pool.core.parameters.size (λ p. slice_index_or c.args.self.now.imaged.items p false) (take (c.loop-change.change-index + 1) c.args.changes.now) w.push-else-is_known.new.self.items) (
          next-imaged c.args.self.now.pool.core.parameters.size (reverse (changes_of (cut.commits ++ commits))) (reverse (changes_of commits)) c.args.changes.now c.loop-change.change-index c.change-item.result c.loop-change.made.items w.push-else-is_known.new.self.items w.in_ok-whole.field-0 c.loop-change-test.true c.change-item.is w.in_ok-push-2.ensures.items
              (pages_in v.0.steps) (pages_in t.0.steps) calls t.1 whole
              (slice_index_or c.loop-change.self.imaged.items c.change-item.result.page false)
              none,
          next-imaged-once c.args.self.now.pool.core.parameters.size (reverse (changes_of (cut.commits ++ commits))) (reverse (changes_of commits)) c.args.changes.now c.loop-change.change-index c.change-item.result c.loop-change.made.items w.push-else-is_known.new.self.items w.in_ok-whole.field-0 c.loop-change-test.true c.change-item.is w.in_ok-push-2.ensures.items
              (pages_in v.0.steps) ((pages_in t.0.steps) ++ calls) t.1 whole c.args.self.now.imaged.items
              (subst (λ fs. (slice_index_or fs c.change-item.result.page false || some (is_of c.change-item.result.page) c.loop-change.made.items) ≡ false) c.loop-change.invariant.1 none) t.2,
        ) in
        (q.0, q.1.0, q.1.1)),
    w.whole.ensures.kept.0 ∙ c.loop-change.invariant.1,
    w.whole.ensures.kept.1 ∙ c.loop-change.invariant.2,
    λ e. w.whole.ensures.passes (c.loop-change.invariant.3 e),
    (w.whole.ensures.place.0 ∙ c.loop-change.invariant.4.0, w.whole.ensures.place.1 ∙ c.loop-change.invariant.4.1, w.whole.ensures.place.2 ∙ c.loop-change.invariant.4.2),
  )
]

pub returns-clause-goes : goal.returns-clause-goes
returns-clause-goes g c = λ table cut file start records synced calls log_calls commits is known.
    (let t = c.loop-change.invariant.0 table cut file start records synced calls log_calls commits is known in (
      t.0,
      (
        subst (λ (xs : List LogRecord). AreWhole c.args.self.now.pool.core.parameters.size ((pages_in t.0.steps) ++ calls) (reverse (changes_of (cut.commits ++ commits))) (reverse (changes_of commits)) xs c.loop-change.made.items) (all-taken c.loop-change.change-index c.args.changes.now c.loop-change-test.false) t.1,
        subst (λ (xs : List LogRecord). AreImagedOnce c.args.self.now.pool.core.parameters.size (λ p. slice_index_or c.args.self.now.imaged.items p false) xs c.loop-change.made.items) (all-taken c.loop-change.change-index c.args.changes.now c.loop-change-test.false) t.2,
      ),
    ))

pub returns-in_err-copy_of-clause-passes : goal.returns-in_err-copy_of-clause-passes
returns-in_err-copy_of-clause-passes g c = c.loop-change.invariant.3

pub returns-in_err-push-clause-passes : goal.returns-in_err-push-clause-passes
returns-in_err-push-clause-passes g c = c.loop-change.invariant.3

pub returns-in_err-whole-clause-passes : goal.returns-in_err-whole-clause-passes
returns-in_err-whole-clause-passes g c = λ e. c.whole.ensures.passes (c.loop-change.invariant.3 e)

pub returns-in_err-push-2-clause-passes : goal.returns-in_err-push-2-clause-passes
returns-in_err-push-2-clause-passes g c = λ e. c.whole.ensures.passes (c.loop-change.invariant.3 e)

pub returns-clause-passes : goal.returns-clause-passes
returns-clause-passes g c = c.loop-change.invariant.3

pub returns-in_err-copy_of-clause-place : goal.returns-in_err-copy_of-clause-place
returns-in_err-copy_of-clause-place g c = c.loop-change.invariant.4

pub returns-in_err-push-clause-place : goal.returns-in_err-push-clause-place
returns-in_err-push-clause-place g c = c.loop-change.invariant.4

pub returns-in_err-whole-clause-place : goal.returns-in_err-whole-clause-place
returns-in_err-whole-clause-place g c = (c.whole.ensures.place.0 ∙ c.loop-change.invariant.4.0, c.whole.ensures.place.1 ∙ c.loop-change.invariant.4.1, c.whole.ensures.place.2 ∙ c.loop-change.invariant.4.2)

pub returns-in_err-push-2-clause-place : goal.returns-in_err-push-2-clause-place
returns-in_err-push-2-clause-place g c = (c.whole.ensures.place.0 ∙ c.loop-change.invariant.4.0, c.whole.ensures.place.1 ∙ c.loop-change.invariant.4.1, c.whole.ensures.place.2 ∙ c.loop-change.invariant.4.2)

pub returns-clause-place : goal.returns-clause-place
returns-clause-place g c = c.loop-change.invariant.4
