use Rattle.std.proofs.Common.{refl}
use Rattle.example_log.proofs.LogFiles.{weaken, syncs-well, syncs-badly}
use Rattle.example_log.proofs.log.LogFile.sync.Goals as goal

pub returns-in-Ok-clause-life : goal.returns-in-Ok-clause-life
returns-in-Ok-clause-life g c = λ first start durable calls log is alive.
    weaken (g.S.LogStore.reads c.args.pages.now) (g.S.LogStore.writes c.args.pages.now) (g.S.LogStore.syncs c.args.pages.now) _ _ first start calls _ _ (λ l d p. (p.0, p.1, tt))
    (syncs-well (g.S.LogStore.reads c.args.pages.now) (g.S.LogStore.writes c.args.pages.now) (g.S.LogStore.syncs c.args.pages.now) first start durable calls log c.args.self.now is _ alive c.in-Ok.ensures refl refl refl refl)

pub returns-in-Err-clause-life : goal.returns-in-Err-clause-life
returns-in-Err-clause-life g c = λ first start durable calls log is alive.
    weaken (g.S.LogStore.reads c.args.pages.now) (g.S.LogStore.writes c.args.pages.now) (g.S.LogStore.syncs c.args.pages.now) _ _ first start calls _ _ (λ l d p. (p.0, tt, p.1))
    (syncs-badly (g.S.LogStore.reads c.args.pages.now) (g.S.LogStore.writes c.args.pages.now) (g.S.LogStore.syncs c.args.pages.now) first start durable calls log c.args.self.now is _ alive c.in-Err.ensures refl refl)
