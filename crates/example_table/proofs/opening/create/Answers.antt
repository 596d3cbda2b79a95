use Rattle.std.proofs.Common.{inl, inr, refl, ap, ◌∙◌, subst, is_ok}
use Rattle.std.specs.Prelude.{IfErr}
use Rattle.example_log.specs.declared.log.LogFault.TheVariants.{Memory}
use Rattle.example_log.specs.Frames.{NoFrame}
use Rattle.example_log.specs.Heads.{head_of}
use Rattle.example_log.specs.LogFiles.{BeginFault}
use Rattle.example_log.specs.LogFiles.IsUnread.{no_memory}
use Rattle.example_table.specs.Opening.{BeginsLog}
use Rattle.example_table.specs.Opening.CreatesLog.{sizes, unread_one, unread_two, has_log, unwiped, begun}
use Rattle.example_table.proofs.Openings.{begins-log, created-as, emptied, framed-not}
use Rattle.example_table.proofs.opening.create.Goals as goal

pub returns-then-one-two : goal.returns-then-one-two
returns-then-one-two g c = sizes c.if-one-two.true

pub returns-in_err-head : goal.returns-in_err-head
returns-in_err-head g c = created-as (g.S.LogStore.reads c.args.port.now) (g.S.LogStore.writes c.args.port.now) (g.S.LogStore.syncs c.args.port.now) (head_of c.args.one.now.size (g.P.Port.geometry_of c.args.port.now) c.args.table.now) c.args.one.now c.args.two.now c.args.one.now c.args.two.now c.from_residual.result Memory c.from_residual.ensures.1 (unread_one c.if-one-two.false (no_memory refl))

pub returns-in_err-a : goal.returns-in_err-a
returns-in_err-a g c = created-as (g.S.LogStore.reads c.args.port.now) (g.S.LogStore.writes c.args.port.now) (g.S.LogStore.syncs c.args.port.now) (head_of c.args.one.now.size (g.P.Port.geometry_of c.args.port.now) c.args.table.now) c.args.one.now c.args.two.now c.read_all.new.self c.args.two.now c.from_residual-in_err-a.result c.in_err-a.field-0.0 c.from_residual-in_err-a.ensures.1 (unread_one c.if-one-two.false c.in_err-a.ensures.unread)

pub returns-in_err-b : goal.returns-in_err-b
returns-in_err-b g c = created-as (g.S.LogStore.reads c.args.port.now) (g.S.LogStore.writes c.args.port.now) (g.S.LogStore.syncs c.args.port.now) (head_of c.args.one.now.size (g.P.Port.geometry_of c.args.port.now) c.args.table.now) c.args.one.now c.args.two.now c.read_all.new.self c.read_all-2.new.self c.from_residual-in_err-b.result c.in_err-b.field-0.0 c.from_residual-in_err-b.ensures.1 (unread_two c.in_ok-a.a.items c.if-one-two.false c.in_ok-a.ensures.read.1 c.in_err-b.ensures.unread)

pub returns-in-Some : goal.returns-in-Some
returns-in-Some g c =
    has_log c.in_ok-a.a.items c.in_ok-b.b.items c.if-one-two.false (c.in_ok-a.ensures.read.0, c.in_ok-b.ensures.read.0) c.in_ok-a.ensures.read.1 c.in_ok-b.ensures.read.1 (inl (framed-not c.in_ok-a.a.items c.deref.result.now c.deref.ensures.value c.in-Some.field-0.lsn c.in-Some.field-0.payload.now c.in-Some.field-0.rest.now c.in-Some.ensures.range c.in-Some.ensures.some))

pub returns-in-Some-read_frame : goal.returns-in-Some-read_frame
returns-in-Some-read_frame g c =
    has_log c.in_ok-a.a.items c.in_ok-b.b.items c.if-one-two.false (c.in_ok-a.ensures.read.0, c.in_ok-b.ensures.read.0) c.in_ok-a.ensures.read.1 c.in_ok-b.ensures.read.1 (inr (framed-not c.in_ok-b.b.items c.deref-2.result.now c.deref-2.ensures.value c.in-Some-read_frame.field-0.lsn c.in-Some-read_frame.field-0.payload.now c.in-Some-read_frame.field-0.rest.now c.in-Some-read_frame.ensures.range c.in-Some-read_frame.ensures.some))

pub returns-in_err-wipe : goal.returns-in_err-wipe
returns-in_err-wipe g c =
    created-as (g.S.LogStore.reads c.args.port.now) (g.S.LogStore.writes c.args.port.now) (g.S.LogStore.syncs c.args.port.now) (head_of c.args.one.now.size (g.P.Port.geometry_of c.args.port.now) c.args.table.now) c.args.one.now c.args.two.now c.read_all.new.self c.wipe.new.self c.from_residual-in_err-wipe.result c.in_err-wipe.field-0.0 c.from_residual-in_err-wipe.ensures.1
    (unwiped c.read_all-2.new.self
    (record {
      a = c.in_ok-a.a.items;
      b = c.in_ok-b.b.items;
      size = c.if-one-two.false;
      long = (c.in_ok-a.ensures.read.0, c.in_ok-b.ensures.read.0);
      read_one = c.in_ok-a.ensures.read.1;
      read_two = c.in_ok-b.ensures.read.1;
      same = (c.in_ok-a.ensures.same.0, c.in_ok-b.ensures.same.0);
      blank = (subst NoFrame c.deref.ensures.value c.in_default.ensures.none, subst NoFrame c.deref-2.ensures.value c.in_default-read_frame.ensures.none);
    })
    c.in_err-wipe.ensures.fault c.in_err-wipe.ensures.wiped)

pub returns : goal.returns
returns g c =
    begun c.read_all.new.self c.read_all-2.new.self c.begin.result
    (record {
      a = c.in_ok-a.a.items;
      b = c.in_ok-b.b.items;
      size = c.if-one-two.false;
      long = (c.in_ok-a.ensures.read.0, c.in_ok-b.ensures.read.0);
      read_one = c.in_ok-a.ensures.read.1;
      read_two = c.in_ok-b.ensures.read.1;
      same = (c.in_ok-a.ensures.same.0, c.in_ok-b.ensures.same.0);
      blank = (subst NoFrame c.deref.ensures.value c.in_default.ensures.none, subst NoFrame c.deref-2.ensures.value c.in_default-read_frame.ensures.none);
    })
    (emptied (g.S.LogStore.reads c.args.port.now) (g.S.LogStore.writes c.args.port.now) (g.S.LogStore.syncs c.args.port.now) c.read_all-2.new.self c.wipe.new.self c.in_ok-wipe.ensures.wiped)
    (subst (λ t. BeginsLog (g.S.LogStore.reads c.args.port.now) (g.S.LogStore.writes c.args.port.now) (g.S.LogStore.syncs c.args.port.now) c.read_all.new.self c.begin.new.self 1 t (is_ok c.begin.result)) (c.deref-3.ensures.value ∙ c.in_ok-head.ensures ∙ ap (λ d. head_of c.args.one.now.size d c.args.table.now) c.geometry.ensures)
    (begins-log (g.S.LogStore.reads c.args.port.now) (g.S.LogStore.writes c.args.port.now) (g.S.LogStore.syncs c.args.port.now) c.read_all.new.self c.begin.new.self 1 c.deref-3.result.now (is_ok c.begin.result) c.begin.ensures.begins))
    (subst (λ n. IfErr c.begin.result (BeginFault (g.S.LogStore.reads c.args.port.now) (g.S.LogStore.writes c.args.port.now) (g.S.LogStore.syncs c.args.port.now) n 1 (head_of c.args.one.now.size (g.P.Port.geometry_of c.args.port.now) c.args.table.now) c.read_all.new.self.store c.begin.new.self.store)) c.in_ok-a.ensures.same.0
    (subst (λ t. IfErr c.begin.result (BeginFault (g.S.LogStore.reads c.args.port.now) (g.S.LogStore.writes c.args.port.now) (g.S.LogStore.syncs c.args.port.now) c.read_all.new.self.size 1 t c.read_all.new.self.store c.begin.new.self.store)) (c.deref-3.ensures.value ∙ c.in_ok-head.ensures ∙ ap (λ d. head_of c.args.one.now.size d c.args.table.now) c.geometry.ensures) c.begin.ensures.fault))
