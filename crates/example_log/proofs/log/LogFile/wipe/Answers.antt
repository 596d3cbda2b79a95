use Rattle.std.proofs.Common.{◌∙◌, refl, subst, true}
use Rattle.example_log.specs.LogFiles.{StopFault, Wipes}
use Rattle.example_log.specs.LogFiles.StopFault.{no_memory}
use Rattle.example_log.specs.declared.log.LogFault.TheVariants.{Memory}
use Rattle.example_log.proofs.LogFiles.{failed-as, fault-is, unwiped, wipe-unsynced, wipe-unwritten, wiped-partly, wiped-unsynced}
use Rattle.example_log.proofs.log.LogFile.wipe.Goals as goal

pub returns-in_err-zeros-clause-wiped : goal.returns-in_err-zeros-clause-wiped
returns-in_err-zeros-clause-wiped g c = unwiped (g.S.LogStore.reads c.args.pages.now) (g.S.LogStore.writes c.args.pages.now) (g.S.LogStore.syncs c.args.pages.now) c.args.self.now.size c.args.self.now.store c.args.self.now.store c.args.self.now.store c.from_residual.result c.from_residual.ensures.0

pub returns-in_err-write-clause-wiped : goal.returns-in_err-write-clause-wiped
returns-in_err-write-clause-wiped g c =
    wiped-partly (g.S.LogStore.reads c.args.pages.now) (g.S.LogStore.writes c.args.pages.now) (g.S.LogStore.syncs c.args.pages.now) c.args.self.now.size c.args.self.now.store c.write.new.self.store c.write.new.self.store c.from_residual-in_err-write.result c.from_residual-in_err-write.ensures.0
    c.deref.result.now (c.deref.ensures.value ∙ c.in_ok-zeros.ensures.items_if_clones_equal (λ y h. h)) c.in_err-write.ensures.gives

pub returns-in_err-sync-clause-wiped : goal.returns-in_err-sync-clause-wiped
returns-in_err-sync-clause-wiped g c =
    wiped-unsynced (g.S.LogStore.reads c.args.pages.now) (g.S.LogStore.writes c.args.pages.now) (g.S.LogStore.syncs c.args.pages.now) c.args.self.now.size c.args.self.now.store c.write.new.self.store c.sync.new.self.store c.from_residual-in_err-sync.result c.from_residual-in_err-sync.ensures.0
    c.deref.result.now (c.deref.ensures.value ∙ c.in_ok-zeros.ensures.items_if_clones_equal (λ y h. h)) c.in_ok-write.ensures.gives c.in_err-sync.ensures.gives

pub returns-clause-wiped : goal.returns-clause-wiped
returns-clause-wiped g c = (c.write.new.self.store, subst (λ t. (g.S.LogStore.writes c.args.pages.now) c.args.self.now.store 0 t true c.write.new.self.store) (c.deref.ensures.value ∙ c.in_ok-zeros.ensures.items_if_clones_equal (λ y h. h)) c.in_ok-write.ensures.gives, c.in_ok-sync.ensures.gives)

pub returns-in_err-zeros-clause-fault : goal.returns-in_err-zeros-clause-fault
returns-in_err-zeros-clause-fault g c = fault-is c.from_residual.result Memory (StopFault (g.S.LogStore.reads c.args.pages.now) (g.S.LogStore.writes c.args.pages.now) (g.S.LogStore.syncs c.args.pages.now) (Wipes c.args.self.now.size) c.args.self.now.store c.args.self.now.store) c.from_residual.ensures.1 (no_memory refl)

pub returns-in_err-write-clause-fault : goal.returns-in_err-write-clause-fault
returns-in_err-write-clause-fault g c =
    failed-as c.from_residual-in_err-write.result c.in_err-write.field-0.0 _ (StopFault (g.S.LogStore.reads c.args.pages.now) (g.S.LogStore.writes c.args.pages.now) (g.S.LogStore.syncs c.args.pages.now) (Wipes c.args.self.now.size) c.args.self.now.store c.write.new.self.store) refl c.in_err-write.ensures.fault c.from_residual-in_err-write.ensures.1
    (wipe-unwritten (g.S.LogStore.reads c.args.pages.now) (g.S.LogStore.writes c.args.pages.now) (g.S.LogStore.syncs c.args.pages.now) c.args.self.now.size c.args.self.now.store c.write.new.self.store c.write.new.self.store c.deref.result.now (c.deref.ensures.value ∙ c.in_ok-zeros.ensures.items_if_clones_equal (λ y h. h)) c.in_err-write.ensures.gives)

pub returns-in_err-sync-clause-fault : goal.returns-in_err-sync-clause-fault
returns-in_err-sync-clause-fault g c =
    failed-as c.from_residual-in_err-sync.result c.in_err-sync.field-0.0 _ (StopFault (g.S.LogStore.reads c.args.pages.now) (g.S.LogStore.writes c.args.pages.now) (g.S.LogStore.syncs c.args.pages.now) (Wipes c.args.self.now.size) c.args.self.now.store c.sync.new.self.store) refl c.in_err-sync.ensures.fault c.from_residual-in_err-sync.ensures.1
    (wipe-unsynced (g.S.LogStore.reads c.args.pages.now) (g.S.LogStore.writes c.args.pages.now) (g.S.LogStore.syncs c.args.pages.now) c.args.self.now.size c.args.self.now.store c.write.new.self.store c.sync.new.self.store c.deref.result.now (c.deref.ensures.value ∙ c.in_ok-zeros.ensures.items_if_clones_equal (λ y h. h)) c.in_ok-write.ensures.gives c.in_err-sync.ensures.gives)
