use Rattle.std.proofs.Common.{◌∙◌, ◌-◌, ◌++◌, ℕ, List, refl, ap, false, true, length, replicate, arith}
use Rattle.example_log.specs.LogFiles.{Settles, StopFault}
use Rattle.example_log.specs.LogFiles.StopFault.{no_memory}
use Rattle.example_log.specs.declared.log.LogFault.TheVariants.{Memory}
use Rattle.example_log.proofs.LogFiles.{failed-as, fault-is, settle-unsynced, settle-unwritten, settles-not, settles-partly, settles-synced, settles-unsynced}
use Rattle.example_log.proofs.log.LogFile.settle.Goals as goal

pub returns-in_err-extend_from_slice-clause-did : goal.returns-in_err-extend_from_slice-clause-did
returns-in_err-extend_from_slice-clause-did g c = settles-not (g.S.LogStore.reads c.args.pages.now) (g.S.LogStore.writes c.args.pages.now) (g.S.LogStore.syncs c.args.pages.now) c.args.self.now.store c.args.self.now.store c.args.self.now.store (c.args.records.now ++ replicate (c.args.self.now.size - length c.args.records.now) 0) (c.args.records.now ++ replicate (c.args.self.now.size - length c.args.records.now) 0) refl c.from_residual.result c.from_residual.ensures.0

pub returns-in_err-zeros-clause-did : goal.returns-in_err-zeros-clause-did
returns-in_err-zeros-clause-did g c = settles-not (g.S.LogStore.reads c.args.pages.now) (g.S.LogStore.writes c.args.pages.now) (g.S.LogStore.syncs c.args.pages.now) c.args.self.now.store c.args.self.now.store c.args.self.now.store (c.args.records.now ++ replicate (c.args.self.now.size - length c.args.records.now) 0) (c.args.records.now ++ replicate (c.args.self.now.size - length c.args.records.now) 0) refl c.from_residual-in_err-zeros.result c.from_residual-in_err-zeros.ensures.0

pub returns-in_err-extend_from_slice-2-clause-did : goal.returns-in_err-extend_from_slice-2-clause-did
returns-in_err-extend_from_slice-2-clause-did g c = settles-not (g.S.LogStore.reads c.args.pages.now) (g.S.LogStore.writes c.args.pages.now) (g.S.LogStore.syncs c.args.pages.now) c.args.self.now.store c.args.self.now.store c.args.self.now.store (c.args.records.now ++ replicate (c.args.self.now.size - length c.args.records.now) 0) (c.args.records.now ++ replicate (c.args.self.now.size - length c.args.records.now) 0) refl c.from_residual-in_err-extend_from_slice-2.result c.from_residual-in_err-extend_from_slice-2.ensures.0

pub returns-in_err-write-clause-did : goal.returns-in_err-write-clause-did
returns-in_err-write-clause-did g c = settles-partly (g.S.LogStore.reads c.args.pages.now) (g.S.LogStore.writes c.args.pages.now) (g.S.LogStore.syncs c.args.pages.now) c.args.self.now.store c.write.new.self.store c.write.new.self.store c.deref-2.result.now (c.args.records.now ++ replicate (c.args.self.now.size - length c.args.records.now) 0) (c.deref-2.ensures.value ∙ c.in_ok-extend_from_slice-2.ensures.items ∙ ap (λ (t : List ℕ). t ++ c.deref.result.now) (c.in_ok-extend_from_slice.ensures.items ∙ ap (λ (t : List ℕ). t ++ c.args.records.now) c.new-bytes.ensures.items) ∙ ap (λ (t : List ℕ). c.args.records.now ++ t) (c.deref.ensures.value ∙ c.in_ok-zeros.ensures.items_if_clones_equal (λ y h. h)) ∙ ap (λ (n : ℕ). c.args.records.now ++ replicate n 0) (omega (arith, c.saturating_sub.ensures))) c.from_residual-in_err-write.result c.from_residual-in_err-write.ensures.0 c.in_err-write.ensures.gives

pub returns-in_err-sync-clause-did : goal.returns-in_err-sync-clause-did
returns-in_err-sync-clause-did g c = settles-unsynced (g.S.LogStore.reads c.args.pages.now) (g.S.LogStore.writes c.args.pages.now) (g.S.LogStore.syncs c.args.pages.now) c.args.self.now.store c.write.new.self.store c.sync.new.self.store c.deref-2.result.now (c.args.records.now ++ replicate (c.args.self.now.size - length c.args.records.now) 0) (c.deref-2.ensures.value ∙ c.in_ok-extend_from_slice-2.ensures.items ∙ ap (λ (t : List ℕ). t ++ c.deref.result.now) (c.in_ok-extend_from_slice.ensures.items ∙ ap (λ (t : List ℕ). t ++ c.args.records.now) c.new-bytes.ensures.items) ∙ ap (λ (t : List ℕ). c.args.records.now ++ t) (c.deref.ensures.value ∙ c.in_ok-zeros.ensures.items_if_clones_equal (λ y h. h)) ∙ ap (λ (n : ℕ). c.args.records.now ++ replicate n 0) (omega (arith, c.saturating_sub.ensures))) c.from_residual-in_err-sync.result c.from_residual-in_err-sync.ensures.0 c.in_ok-write.ensures.gives c.in_err-sync.ensures.gives

pub returns-clause-did : goal.returns-clause-did
returns-clause-did g c = settles-synced (g.S.LogStore.reads c.args.pages.now) (g.S.LogStore.writes c.args.pages.now) (g.S.LogStore.syncs c.args.pages.now) c.args.self.now.store c.write.new.self.store c.sync.new.self.store c.deref-2.result.now (c.args.records.now ++ replicate (c.args.self.now.size - length c.args.records.now) 0) (c.deref-2.ensures.value ∙ c.in_ok-extend_from_slice-2.ensures.items ∙ ap (λ (t : List ℕ). t ++ c.deref.result.now) (c.in_ok-extend_from_slice.ensures.items ∙ ap (λ (t : List ℕ). t ++ c.args.records.now) c.new-bytes.ensures.items) ∙ ap (λ (t : List ℕ). c.args.records.now ++ t) (c.deref.ensures.value ∙ c.in_ok-zeros.ensures.items_if_clones_equal (λ y h. h)) ∙ ap (λ (n : ℕ). c.args.records.now ++ replicate n 0) (omega (arith, c.saturating_sub.ensures))) true c.in_ok-write.ensures.gives c.in_ok-sync.ensures.gives

pub returns-in_err-extend_from_slice-clause-fault : goal.returns-in_err-extend_from_slice-clause-fault
returns-in_err-extend_from_slice-clause-fault g c = fault-is c.from_residual.result Memory (StopFault (g.S.LogStore.reads c.args.pages.now) (g.S.LogStore.writes c.args.pages.now) (g.S.LogStore.syncs c.args.pages.now) (λ calls. Settles (c.args.records.now ++ replicate (c.args.self.now.size - length c.args.records.now) 0) calls false) c.args.self.now.store c.args.self.now.store) c.from_residual.ensures.1 (no_memory refl)

pub returns-in_err-zeros-clause-fault : goal.returns-in_err-zeros-clause-fault
returns-in_err-zeros-clause-fault g c = fault-is c.from_residual-in_err-zeros.result Memory (StopFault (g.S.LogStore.reads c.args.pages.now) (g.S.LogStore.writes c.args.pages.now) (g.S.LogStore.syncs c.args.pages.now) (λ calls. Settles (c.args.records.now ++ replicate (c.args.self.now.size - length c.args.records.now) 0) calls false) c.args.self.now.store c.args.self.now.store) c.from_residual-in_err-zeros.ensures.1 (no_memory refl)

pub returns-in_err-extend_from_slice-2-clause-fault : goal.returns-in_err-extend_from_slice-2-clause-fault
returns-in_err-extend_from_slice-2-clause-fault g c = fault-is c.from_residual-in_err-extend_from_slice-2.result Memory (StopFault (g.S.LogStore.reads c.args.pages.now) (g.S.LogStore.writes c.args.pages.now) (g.S.LogStore.syncs c.args.pages.now) (λ calls. Settles (c.args.records.now ++ replicate (c.args.self.now.size - length c.args.records.now) 0) calls false) c.args.self.now.store c.args.self.now.store) c.from_residual-in_err-extend_from_slice-2.ensures.1 (no_memory refl)

pub returns-in_err-write-clause-fault : goal.returns-in_err-write-clause-fault
returns-in_err-write-clause-fault g c =
    failed-as c.from_residual-in_err-write.result c.in_err-write.field-0.0 _ (StopFault (g.S.LogStore.reads c.args.pages.now) (g.S.LogStore.writes c.args.pages.now) (g.S.LogStore.syncs c.args.pages.now) (λ calls. Settles (c.args.records.now ++ replicate (c.args.self.now.size - length c.args.records.now) 0) calls false) c.args.self.now.store c.write.new.self.store) refl c.in_err-write.ensures.fault c.from_residual-in_err-write.ensures.1
    (settle-unwritten (g.S.LogStore.reads c.args.pages.now) (g.S.LogStore.writes c.args.pages.now) (g.S.LogStore.syncs c.args.pages.now) c.args.self.now.store c.write.new.self.store c.write.new.self.store c.deref-2.result.now (c.args.records.now ++ replicate (c.args.self.now.size - length c.args.records.now) 0) (c.deref-2.ensures.value ∙ c.in_ok-extend_from_slice-2.ensures.items ∙ ap (λ (t : List ℕ). t ++ c.deref.result.now) (c.in_ok-extend_from_slice.ensures.items ∙ ap (λ (t : List ℕ). t ++ c.args.records.now) c.new-bytes.ensures.items) ∙ ap (λ (t : List ℕ). c.args.records.now ++ t) (c.deref.ensures.value ∙ c.in_ok-zeros.ensures.items_if_clones_equal (λ y h. h)) ∙ ap (λ (n : ℕ). c.args.records.now ++ replicate n 0) (omega (arith, c.saturating_sub.ensures))) c.in_err-write.ensures.gives)

pub returns-in_err-sync-clause-fault : goal.returns-in_err-sync-clause-fault
returns-in_err-sync-clause-fault g c =
    failed-as c.from_residual-in_err-sync.result c.in_err-sync.field-0.0 _ (StopFault (g.S.LogStore.reads c.args.pages.now) (g.S.LogStore.writes c.args.pages.now) (g.S.LogStore.syncs c.args.pages.now) (λ calls. Settles (c.args.records.now ++ replicate (c.args.self.now.size - length c.args.records.now) 0) calls false) c.args.self.now.store c.sync.new.self.store) refl c.in_err-sync.ensures.fault c.from_residual-in_err-sync.ensures.1
    (settle-unsynced (g.S.LogStore.reads c.args.pages.now) (g.S.LogStore.writes c.args.pages.now) (g.S.LogStore.syncs c.args.pages.now) c.args.self.now.store c.write.new.self.store c.sync.new.self.store c.deref-2.result.now (c.args.records.now ++ replicate (c.args.self.now.size - length c.args.records.now) 0) (c.deref-2.ensures.value ∙ c.in_ok-extend_from_slice-2.ensures.items ∙ ap (λ (t : List ℕ). t ++ c.deref.result.now) (c.in_ok-extend_from_slice.ensures.items ∙ ap (λ (t : List ℕ). t ++ c.args.records.now) c.new-bytes.ensures.items) ∙ ap (λ (t : List ℕ). c.args.records.now ++ t) (c.deref.ensures.value ∙ c.in_ok-zeros.ensures.items_if_clones_equal (λ y h. h)) ∙ ap (λ (n : ℕ). c.args.records.now ++ replicate n 0) (omega (arith, c.saturating_sub.ensures))) c.in_ok-write.ensures.gives c.in_err-sync.ensures.gives)
