use Rattle.std.proofs.Common.{[], inl, inr, refl, true, false, Ok, ◌∙◌, ap}
use Rattle.example_table.specs.Opening.{UnreadFault}
use Rattle.example_table.specs.Opening.UnreadFault.{sizes, no_memory, unread_one, unread_two, head_of_one, head_of_two}
use Rattle.example_log.specs.declared.log.LogFault.TheVariants.{Memory}
use Rattle.example_table.specs.declared.table.TableFault.TheVariants.{Log}
use Rattle.example_log.specs.Heads.{head_of}
use Rattle.example_table.proofs.Openings.{fault-as, moves, moves-not, other-as, was-read, was-unread}
use Rattle.example_table.proofs.opening.open.Goals as goal

pub returns-in_err-head : goal.returns-in_err-head
returns-in_err-head g c = inl (c.from_residual.ensures.0, fault-as c.from_residual.result (Log Memory) (UnreadFault (g.S.LogStore.reads c.args.port.now) (head_of c.args.one.now.size (g.P.Port.geometry_of c.args.port.now) c.args.table.now) c.args.one.now c.args.two.now) c.from_residual.ensures.1 (no_memory c.if-one-two.false), refl, ([], refl, tt), ([], refl, tt))

pub returns-in_err-a : goal.returns-in_err-a
returns-in_err-a g c = inl (c.from_residual-in_err-a.ensures.0, fault-as c.from_residual-in_err-a.result (Log c.in_err-a.field-0.0) (UnreadFault (g.S.LogStore.reads c.args.port.now) (head_of c.args.one.now.size (g.P.Port.geometry_of c.args.port.now) c.args.table.now) c.args.one.now c.args.two.now) c.from_residual-in_err-a.ensures.1 (unread_one c.read_all.new.self.store c.if-one-two.false c.in_err-a.ensures.unread), refl, was-unread (g.S.LogStore.reads c.args.port.now) (g.S.LogStore.writes c.args.port.now) (g.S.LogStore.syncs c.args.port.now) c.args.one.now c.read_all.new.self c.in_err-a.field-0.0 c.in_err-a.ensures.unread, ([], refl, tt))

pub returns-in_err-b : goal.returns-in_err-b
returns-in_err-b g c = inl (c.from_residual-in_err-b.ensures.0, fault-as c.from_residual-in_err-b.result (Log c.in_err-b.field-0.0) (UnreadFault (g.S.LogStore.reads c.args.port.now) (head_of c.args.one.now.size (g.P.Port.geometry_of c.args.port.now) c.args.table.now) c.args.one.now c.args.two.now) c.from_residual-in_err-b.ensures.1 (unread_two c.read_all-2.new.self.store c.if-one-two.false c.in_err-b.ensures.unread), refl, was-read (g.S.LogStore.reads c.args.port.now) (g.S.LogStore.writes c.args.port.now) (g.S.LogStore.syncs c.args.port.now) c.args.one.now c.read_all.new.self c.in_ok-a.a.items c.in_ok-a.ensures.read.1, was-unread (g.S.LogStore.reads c.args.port.now) (g.S.LogStore.writes c.args.port.now) (g.S.LogStore.syncs c.args.port.now) c.args.two.now c.read_all-2.new.self c.in_err-b.field-0.0 c.in_err-b.ensures.unread)

pub returns-in_err-first_lsn : goal.returns-in_err-first_lsn
returns-in_err-first_lsn g c = inl (c.from_residual-in_err-first_lsn.ensures.0, fault-as c.from_residual-in_err-first_lsn.result (Log c.in_err-first_lsn.field-0.0) (UnreadFault (g.S.LogStore.reads c.args.port.now) (head_of c.args.one.now.size (g.P.Port.geometry_of c.args.port.now) c.args.table.now) c.args.one.now c.args.two.now) c.from_residual-in_err-first_lsn.ensures.1 (head_of_one c.in_ok-a.a.items c.read_all.new.self.store c.if-one-two.false c.in_ok-a.ensures.read.1 (other-as (head_of c.args.one.now.size (g.P.Port.geometry_of c.args.port.now) c.args.table.now) c.deref-2.result.now c.in_ok-a.a.items c.deref.result.now c.in_err-first_lsn.field-0.0 (c.deref-2.ensures.value ∙ c.in_ok-head.ensures ∙ ap (λ d. head_of c.args.one.now.size d c.args.table.now) c.geometry.ensures) c.deref.ensures.value c.in_err-first_lsn.ensures.other)), refl, was-read (g.S.LogStore.reads c.args.port.now) (g.S.LogStore.writes c.args.port.now) (g.S.LogStore.syncs c.args.port.now) c.args.one.now c.read_all.new.self c.in_ok-a.a.items c.in_ok-a.ensures.read.1, was-read (g.S.LogStore.reads c.args.port.now) (g.S.LogStore.writes c.args.port.now) (g.S.LogStore.syncs c.args.port.now) c.args.two.now c.read_all-2.new.self c.in_ok-b.b.items c.in_ok-b.ensures.read.1)

pub returns-in_err-first_lsn-2 : goal.returns-in_err-first_lsn-2
returns-in_err-first_lsn-2 g c = inl (c.from_residual-in_err-first_lsn-2.ensures.0, fault-as c.from_residual-in_err-first_lsn-2.result (Log c.in_err-first_lsn-2.field-0.0) (UnreadFault (g.S.LogStore.reads c.args.port.now) (head_of c.args.one.now.size (g.P.Port.geometry_of c.args.port.now) c.args.table.now) c.args.one.now c.args.two.now) c.from_residual-in_err-first_lsn-2.ensures.1 (head_of_two c.in_ok-b.b.items c.read_all-2.new.self.store c.if-one-two.false c.in_ok-b.ensures.read.1 (other-as (head_of c.args.one.now.size (g.P.Port.geometry_of c.args.port.now) c.args.table.now) c.deref-4.result.now c.in_ok-b.b.items c.deref-3.result.now c.in_err-first_lsn-2.field-0.0 (c.deref-4.ensures.value ∙ c.in_ok-head.ensures ∙ ap (λ d. head_of c.args.one.now.size d c.args.table.now) c.geometry.ensures) c.deref-3.ensures.value c.in_err-first_lsn-2.ensures.other)), refl, was-read (g.S.LogStore.reads c.args.port.now) (g.S.LogStore.writes c.args.port.now) (g.S.LogStore.syncs c.args.port.now) c.args.one.now c.read_all.new.self c.in_ok-a.a.items c.in_ok-a.ensures.read.1, was-read (g.S.LogStore.reads c.args.port.now) (g.S.LogStore.writes c.args.port.now) (g.S.LogStore.syncs c.args.port.now) c.args.two.now c.read_all-2.new.self c.in_ok-b.b.items c.in_ok-b.ensures.read.1)

pub returns-in_err-move_log : goal.returns-in_err-move_log
returns-in_err-move_log g c = inr (inr (moves-not g.S.LogStore.reads g.S.LogStore.writes g.S.LogStore.syncs g.P.Port.read_gives g.P.Port.write_gives g.P.Port.sync_gives (g.P.Port.geometry_of c.args.port.now) (head_of c.args.one.now.size (g.P.Port.geometry_of c.args.port.now) c.args.table.now) c.args.port.now c.move_log.new.port c.args.two.now c.args.one.now c.read_all-2.new.self c.read_all.new.self c.move_log.new.newer c.move_log.new.older
    c.deref-then-branch.result.now c.in_ok-b.b.items c.in_ok-a.a.items c.deref-then-branch-2.result.now c.deref-then-branch-3.result.now (c.deref-then-branch.ensures.value ∙ c.in_ok-head.ensures ∙ ap (λ d. head_of c.args.one.now.size d c.args.table.now) c.geometry.ensures) c.deref-then-branch-2.ensures.value c.deref-then-branch-3.ensures.value c.in_ok-b.ensures.read.1 c.in_ok-a.ensures.read.1 c.in_ok-b.ensures.read.0 c.in_ok-a.ensures.read.0 c.in_ok-b.ensures.same.0 c.in_ok-a.ensures.same.0
    false c.from_residual-in_err-move_log.result c.in_err-move_log.field-0.0 c.from_residual-in_err-move_log.ensures.1 c.in_err-move_log.ensures))

pub returns-then-branch : goal.returns-then-branch
returns-then-branch g c = inr (inr (moves g.S.LogStore.reads g.S.LogStore.writes g.S.LogStore.syncs g.P.Port.read_gives g.P.Port.write_gives g.P.Port.sync_gives (g.P.Port.geometry_of c.args.port.now) (head_of c.args.one.now.size (g.P.Port.geometry_of c.args.port.now) c.args.table.now) c.args.port.now c.move_log.new.port c.args.two.now c.args.one.now c.read_all-2.new.self c.read_all.new.self c.move_log.new.newer c.move_log.new.older
    c.deref-then-branch.result.now c.in_ok-b.b.items c.in_ok-a.a.items c.deref-then-branch-2.result.now c.deref-then-branch-3.result.now (c.deref-then-branch.ensures.value ∙ c.in_ok-head.ensures ∙ ap (λ d. head_of c.args.one.now.size d c.args.table.now) c.geometry.ensures) c.deref-then-branch-2.ensures.value c.deref-then-branch-3.ensures.value c.in_ok-b.ensures.read.1 c.in_ok-a.ensures.read.1 c.in_ok-b.ensures.read.0 c.in_ok-a.ensures.read.0 c.in_ok-b.ensures.same.0 c.in_ok-a.ensures.same.0
    false (Ok false) (Ok tt) c.in_ok-move_log.ensures (refl, refl) tt))

pub returns-in_err-move_log-2 : goal.returns-in_err-move_log-2
returns-in_err-move_log-2 g c = inr (inl (moves-not g.S.LogStore.reads g.S.LogStore.writes g.S.LogStore.syncs g.P.Port.read_gives g.P.Port.write_gives g.P.Port.sync_gives (g.P.Port.geometry_of c.args.port.now) (head_of c.args.one.now.size (g.P.Port.geometry_of c.args.port.now) c.args.table.now) c.args.port.now c.move_log-2.new.port c.args.one.now c.args.two.now c.read_all.new.self c.read_all-2.new.self c.move_log-2.new.newer c.move_log-2.new.older
    c.deref-5.result.now c.in_ok-a.a.items c.in_ok-b.b.items c.deref-6.result.now c.deref-7.result.now (c.deref-5.ensures.value ∙ c.in_ok-head.ensures ∙ ap (λ d. head_of c.args.one.now.size d c.args.table.now) c.geometry.ensures) c.deref-6.ensures.value c.deref-7.ensures.value c.in_ok-a.ensures.read.1 c.in_ok-b.ensures.read.1 c.in_ok-a.ensures.read.0 c.in_ok-b.ensures.read.0 c.in_ok-a.ensures.same.0 c.in_ok-b.ensures.same.0
    true c.from_residual-in_err-move_log-2.result c.in_err-move_log-2.field-0.0 c.from_residual-in_err-move_log-2.ensures.1 c.in_err-move_log-2.ensures))

pub returns : goal.returns
returns g c = inr (inl (moves g.S.LogStore.reads g.S.LogStore.writes g.S.LogStore.syncs g.P.Port.read_gives g.P.Port.write_gives g.P.Port.sync_gives (g.P.Port.geometry_of c.args.port.now) (head_of c.args.one.now.size (g.P.Port.geometry_of c.args.port.now) c.args.table.now) c.args.port.now c.move_log-2.new.port c.args.one.now c.args.two.now c.read_all.new.self c.read_all-2.new.self c.move_log-2.new.newer c.move_log-2.new.older
    c.deref-5.result.now c.in_ok-a.a.items c.in_ok-b.b.items c.deref-6.result.now c.deref-7.result.now (c.deref-5.ensures.value ∙ c.in_ok-head.ensures ∙ ap (λ d. head_of c.args.one.now.size d c.args.table.now) c.geometry.ensures) c.deref-6.ensures.value c.deref-7.ensures.value c.in_ok-a.ensures.read.1 c.in_ok-b.ensures.read.1 c.in_ok-a.ensures.read.0 c.in_ok-b.ensures.read.0 c.in_ok-a.ensures.same.0 c.in_ok-b.ensures.same.0
    true (Ok true) (Ok tt) c.in_ok-move_log-2.ensures (refl, refl) tt))

pub returns-then-one-two : goal.returns-then-one-two
returns-then-one-two g c = inl (refl, sizes c.if-one-two.true, refl, ([], refl, tt), ([], refl, tt))
