use Rattle.std.proofs.Common.{◌∙◌, refl, subst, Bool, [], arith}
use Rattle.example_log.specs.LogFiles.{BeginFault, Begins}
use Rattle.example_log.proofs.Redoing.{err-false}
use Rattle.example_log.proofs.LogFiles.{failed-as, fault-is, weaken, wiped-not, unappended, unappended-fault, begun-unsynced, begun, unsynced-fault, unwiped-fault}
use Rattle.example_log.proofs.log.LogFile.begin.Goals as goal

pub returns-in_err-wipe-clause-begins : goal.returns-in_err-wipe-clause-begins
returns-in_err-wipe-clause-begins g c =
    subst (λ (b : Bool). Begins (g.S.LogStore.reads c.args.pages.now) (g.S.LogStore.writes c.args.pages.now) (g.S.LogStore.syncs c.args.pages.now) c.args.self.now c.wipe.new.self c.args.lsn c.args.head.now b) (err-false c.from_residual.result c.from_residual.ensures.0)
    (wiped-not (g.S.LogStore.reads c.args.pages.now) (g.S.LogStore.writes c.args.pages.now) (g.S.LogStore.syncs c.args.pages.now) c.args.self.now c.args.lsn c.args.head.now c.wipe.new.self c.in_err-wipe.ensures.wiped)

pub returns-in-Err-clause-begins : goal.returns-in-Err-clause-begins
returns-in-Err-clause-begins g c =
    unappended (g.S.LogStore.reads c.args.pages.now) (g.S.LogStore.writes c.args.pages.now) (g.S.LogStore.syncs c.args.pages.now) c.args.self.now c.args.lsn c.args.head.now c.wipe.new.self.store c.wipe.new.self.size c.in_ok-wipe.ensures.same.0 c.in_ok-wipe.ensures.wiped c.requires (omega arith) c.append.new.self c.in-Err.fault c.in-Err.ensures.fault

pub returns-in_err-sync-clause-begins : goal.returns-in_err-sync-clause-begins
returns-in_err-sync-clause-begins g c =
    subst (λ (b : Bool). Begins (g.S.LogStore.reads c.args.pages.now) (g.S.LogStore.writes c.args.pages.now) (g.S.LogStore.syncs c.args.pages.now) c.args.self.now c.sync.new.self c.args.lsn c.args.head.now b) (err-false c.from_residual-in_err-sync.result c.from_residual-in_err-sync.ensures.0)
    (begun-unsynced (g.S.LogStore.reads c.args.pages.now) (g.S.LogStore.writes c.args.pages.now) (g.S.LogStore.syncs c.args.pages.now) c.args.self.now c.args.lsn c.args.head.now c.wipe.new.self.store c.wipe.new.self.size c.in_ok-wipe.ensures.same.0 c.in_ok-wipe.ensures.wiped c.requires (omega arith) c.append.new.self c.in-Ok.ensures.room c.in-Ok.ensures.gives c.sync.new.self c.in_err-sync.ensures.gives)

pub returns-clause-begins : goal.returns-clause-begins
returns-clause-begins g c =
    begun (g.S.LogStore.reads c.args.pages.now) (g.S.LogStore.writes c.args.pages.now) (g.S.LogStore.syncs c.args.pages.now) c.args.self.now c.args.lsn c.args.head.now c.wipe.new.self.store c.wipe.new.self.size c.in_ok-wipe.ensures.same.0 c.in_ok-wipe.ensures.wiped c.requires (omega arith) c.append.new.self c.in-Ok.ensures.room c.in-Ok.ensures.gives
    c.sync.new.self c.in_ok-sync.ensures.gives (c.in_ok-sync.ensures.ended.1 ∙ c.in-Ok.ensures.alive) (c.in_ok-sync.ensures.same.0 ∙ c.in-Ok.ensures.size ∙ c.in_ok-wipe.ensures.same.0) c.in_ok-sync.ensures.same.1 c.in_ok-sync.ensures.same.2 c.in-Ok.ensures.alive
    (λ first calls is. weaken (g.S.LogStore.reads c.args.pages.now) (g.S.LogStore.writes c.args.pages.now) (g.S.LogStore.syncs c.args.pages.now) _ _ first c.args.lsn calls _ _ (λ l d p. p.1.1) (c.in-Ok.ensures.life first c.args.lsn 0 calls [] is))

pub returns-in_err-wipe-clause-fault : goal.returns-in_err-wipe-clause-fault
returns-in_err-wipe-clause-fault g c =
    fault-is c.from_residual.result c.in_err-wipe.field-0.0 (BeginFault (g.S.LogStore.reads c.args.pages.now) (g.S.LogStore.writes c.args.pages.now) (g.S.LogStore.syncs c.args.pages.now) c.args.self.now.size c.args.lsn c.args.head.now c.args.self.now.store c.wipe.new.self.store) c.from_residual.ensures.1
    (unwiped-fault (g.S.LogStore.reads c.args.pages.now) (g.S.LogStore.writes c.args.pages.now) (g.S.LogStore.syncs c.args.pages.now) c.args.self.now c.args.lsn c.args.head.now c.wipe.new.self.store c.in_err-wipe.field-0.0 c.in_err-wipe.ensures.fault)

pub returns-in-Err-clause-fault : goal.returns-in-Err-clause-fault
returns-in-Err-clause-fault g c = unappended-fault (g.S.LogStore.reads c.args.pages.now) (g.S.LogStore.writes c.args.pages.now) (g.S.LogStore.syncs c.args.pages.now) c.args.self.now c.args.lsn c.args.head.now c.wipe.new.self.store c.wipe.new.self.size c.in_ok-wipe.ensures.same.0 c.in_ok-wipe.ensures.wiped c.requires (omega arith) c.append.new.self c.in-Err.fault c.in-Err.ensures.fault

pub returns-in_err-sync-clause-fault : goal.returns-in_err-sync-clause-fault
returns-in_err-sync-clause-fault g c =
    failed-as c.from_residual-in_err-sync.result c.in_err-sync.field-0.0 _ (BeginFault (g.S.LogStore.reads c.args.pages.now) (g.S.LogStore.writes c.args.pages.now) (g.S.LogStore.syncs c.args.pages.now) c.args.self.now.size c.args.lsn c.args.head.now c.args.self.now.store c.sync.new.self.store) refl c.in_err-sync.ensures.fault c.from_residual-in_err-sync.ensures.1
    (unsynced-fault (g.S.LogStore.reads c.args.pages.now) (g.S.LogStore.writes c.args.pages.now) (g.S.LogStore.syncs c.args.pages.now) c.args.self.now c.args.lsn c.args.head.now c.wipe.new.self.store c.wipe.new.self.size c.in_ok-wipe.ensures.same.0 c.in_ok-wipe.ensures.wiped c.requires (omega arith) c.append.new.self c.in-Ok.ensures.room c.in-Ok.ensures.gives c.sync.new.self c.in_err-sync.ensures.gives)
