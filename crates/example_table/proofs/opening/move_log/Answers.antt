use Rattle.std.proofs.Common.{refl, true, false, subst, ap, arith}
use Rattle.example_log.specs.LogFiles.{Settles, StopFault}
use Rattle.example_table.specs.Opening.MovesLog.{refused}
use Rattle.std.specs.Prelude.{Ok, Err}
use Rattle.example_log.specs.declared.log.LogFault.TheVariants.{Full, TwoLogs}
use Rattle.example_table.specs.declared.table.TableFault.TheVariants.{Log, Pages}
use Rattle.example_table.specs.Opening.MoveFault.{newer_fault, older_fault, two_logs, no_lsn}
use Rattle.example_table.proofs.Openings.{again-is, beyond-as, found, late, not-moved, redid, refused-as, was-moved, was-stopped, was-unsettled}
use Rattle.example_table.proofs.opening.move_log.Goals as goal

pub returns-in_err-settle : goal.returns-in_err-settle
returns-in_err-settle g c = λ long.
    (let device = g.P.Port.geometry_of c.args.port.now in
    let read = c.in_ok-found.ensures.read in
    let x = c.in_ok-found.found in
    let f = found device c.args.head.now c.args.bytes.now c.args.other.now c.geometry.result.pages c.geometry.result.size x.first x.last c.in_ok-first_lsn.field-0 x.changes.items c.deref.result.now read.0 c.in_ok-first_lsn.ensures.first (omega arith) (ap (λ d. d.pages) c.geometry.ensures) (ap (λ d. d.size) c.geometry.ensures) c.in_ok-check.ensures.within c.deref.ensures.value in
    let again = again-is c.args.head.now c.args.bytes.now c.args.other.now x.records.now x.first x.last c.args.newer.now.size x.changes.items f.is_newer long read.1 in
    let settled = subst (λ t. Settles t c.in_err-settle.ensures.did.0 false) again c.in_err-settle.ensures.did.2 in
    refused-as g.S.LogStore.reads g.S.LogStore.writes g.S.LogStore.syncs g.P.Port.read_gives g.P.Port.write_gives g.P.Port.sync_gives (g.P.Port.geometry_of c.args.port.now) c.args.head.now c.args.bytes.now c.args.other.now c.args.port.now c.args.port.now c.args.newer.now c.args.older.now c.settle.new.self c.args.older.now c.from_residual-in_err-settle.result (Log c.in_err-settle.field-0.0) c.from_residual-in_err-settle.ensures.1
    (was-unsettled g.S.LogStore.reads g.S.LogStore.writes g.S.LogStore.syncs g.P.Port.read_gives g.P.Port.write_gives g.P.Port.sync_gives (g.P.Port.geometry_of c.args.port.now) c.args.head.now c.args.bytes.now c.args.other.now c.args.port.now c.args.newer.now c.args.older.now c.settle.new.self f c.in_err-settle.ensures.did.0 false c.in_err-settle.ensures.did.1 settled refl (Log c.in_err-settle.field-0.0)
    (subst (λ t. StopFault (g.S.LogStore.reads c.args.port.now) (g.S.LogStore.writes c.args.port.now) (g.S.LogStore.syncs c.args.port.now) (λ calls. Settles t calls false) c.args.newer.now.store c.settle.new.self.store c.in_err-settle.field-0.0) again c.in_err-settle.ensures.fault)))

pub returns-in_err-redo_pages : goal.returns-in_err-redo_pages
returns-in_err-redo_pages g c = λ long.
    (let device = g.P.Port.geometry_of c.args.port.now in
    let read = c.in_ok-found.ensures.read in
    let x = c.in_ok-found.found in
    let f = found device c.args.head.now c.args.bytes.now c.args.other.now c.geometry.result.pages c.geometry.result.size x.first x.last c.in_ok-first_lsn.field-0 x.changes.items c.deref.result.now read.0 c.in_ok-first_lsn.ensures.first (omega arith) (ap (λ d. d.pages) c.geometry.ensures) (ap (λ d. d.size) c.geometry.ensures) c.in_ok-check.ensures.within c.deref.ensures.value in
    let again = again-is c.args.head.now c.args.bytes.now c.args.other.now x.records.now x.first x.last c.args.newer.now.size x.changes.items f.is_newer long read.1 in
    let settled = subst (λ t. Settles t c.in_ok-settle.ensures.did.0 true) again c.in_ok-settle.ensures.did.2 in
    let redone = redid g.P.Port.read_gives g.P.Port.write_gives g.P.Port.sync_gives device x.changes.items c.deref-2.result.now c.new.result c.args.port.now c.redo_pages.new.port false c.new.ensures c.deref-2.ensures.value c.in_err-redo_pages.ensures.redone in
    not-moved g.S.LogStore.reads g.S.LogStore.writes g.S.LogStore.syncs g.P.Port.read_gives g.P.Port.write_gives g.P.Port.sync_gives (g.P.Port.geometry_of c.args.port.now) c.args.head.now c.args.bytes.now c.args.other.now c.args.port.now c.redo_pages.new.port c.args.newer.now c.args.older.now c.settle.new.self c.args.older.now c.from_residual-in_err-redo_pages.result c.from_residual-in_err-redo_pages.ensures.0
    (was-stopped g.S.LogStore.reads g.S.LogStore.writes g.S.LogStore.syncs g.P.Port.read_gives g.P.Port.write_gives g.P.Port.sync_gives (g.P.Port.geometry_of c.args.port.now) c.args.head.now c.args.bytes.now c.args.other.now c.args.port.now c.args.newer.now c.args.older.now c.settle.new.self f c.in_ok-settle.ensures.did.0 true c.in_ok-settle.ensures.did.1 settled refl c.redo_pages.new.port false redone))

pub returns-in_err-begin : goal.returns-in_err-begin
returns-in_err-begin g c = λ long.
    (let device = g.P.Port.geometry_of c.args.port.now in
    let read = c.in_ok-found.ensures.read in
    let x = c.in_ok-found.found in
    let f = found device c.args.head.now c.args.bytes.now c.args.other.now c.geometry.result.pages c.geometry.result.size x.first x.last c.in_ok-first_lsn.field-0 x.changes.items c.deref.result.now read.0 c.in_ok-first_lsn.ensures.first (omega arith) (ap (λ d. d.pages) c.geometry.ensures) (ap (λ d. d.size) c.geometry.ensures) c.in_ok-check.ensures.within c.deref.ensures.value in
    let again = again-is c.args.head.now c.args.bytes.now c.args.other.now x.records.now x.first x.last c.args.newer.now.size x.changes.items f.is_newer long read.1 in
    let settled = subst (λ t. Settles t c.in_ok-settle.ensures.did.0 true) again c.in_ok-settle.ensures.did.2 in
    let redone = redid g.P.Port.read_gives g.P.Port.write_gives g.P.Port.sync_gives device x.changes.items c.deref-2.result.now c.new.result c.args.port.now c.redo_pages.new.port true c.new.ensures c.deref-2.ensures.value c.in_ok-redo_pages.ensures.redone in
    refused-as g.S.LogStore.reads g.S.LogStore.writes g.S.LogStore.syncs g.P.Port.read_gives g.P.Port.write_gives g.P.Port.sync_gives (g.P.Port.geometry_of c.args.port.now) c.args.head.now c.args.bytes.now c.args.other.now c.args.port.now c.redo_pages.new.port c.args.newer.now c.args.older.now c.settle.new.self c.begin.new.self c.from_residual-in_err-begin.result (Log c.in_err-begin.field-0.0) c.from_residual-in_err-begin.ensures.1
    (was-moved g.S.LogStore.reads g.S.LogStore.writes g.S.LogStore.syncs g.P.Port.read_gives g.P.Port.write_gives g.P.Port.sync_gives (g.P.Port.geometry_of c.args.port.now) c.args.head.now c.args.bytes.now c.args.other.now c.args.port.now c.args.newer.now c.args.older.now c.settle.new.self f c.in_ok-settle.ensures.did.0 true c.in_ok-settle.ensures.did.1 settled refl c.redo_pages.new.port true redone refl c.begin.new.self false c.in_err-begin.ensures.begins (Err (Log c.in_err-begin.field-0.0)) refl c.in_err-begin.ensures.fault))

pub returns : goal.returns
returns g c = λ long.
    (let device = g.P.Port.geometry_of c.args.port.now in
    let read = c.in_ok-found.ensures.read in
    let x = c.in_ok-found.found in
    let f = found device c.args.head.now c.args.bytes.now c.args.other.now c.geometry.result.pages c.geometry.result.size x.first x.last c.in_ok-first_lsn.field-0 x.changes.items c.deref.result.now read.0 c.in_ok-first_lsn.ensures.first (omega arith) (ap (λ d. d.pages) c.geometry.ensures) (ap (λ d. d.size) c.geometry.ensures) c.in_ok-check.ensures.within c.deref.ensures.value in
    let again = again-is c.args.head.now c.args.bytes.now c.args.other.now x.records.now x.first x.last c.args.newer.now.size x.changes.items f.is_newer long read.1 in
    let settled = subst (λ t. Settles t c.in_ok-settle.ensures.did.0 true) again c.in_ok-settle.ensures.did.2 in
    let redone = redid g.P.Port.read_gives g.P.Port.write_gives g.P.Port.sync_gives device x.changes.items c.deref-2.result.now c.new.result c.args.port.now c.redo_pages.new.port true c.new.ensures c.deref-2.ensures.value c.in_ok-redo_pages.ensures.redone in
    was-moved g.S.LogStore.reads g.S.LogStore.writes g.S.LogStore.syncs g.P.Port.read_gives g.P.Port.write_gives g.P.Port.sync_gives (g.P.Port.geometry_of c.args.port.now) c.args.head.now c.args.bytes.now c.args.other.now c.args.port.now c.args.newer.now c.args.older.now c.settle.new.self f c.in_ok-settle.ensures.did.0 true c.in_ok-settle.ensures.did.1 settled refl c.redo_pages.new.port true redone refl c.begin.new.self true c.in_ok-begin.ensures.begins (Ok tt) refl tt)

pub returns-in_err-found : goal.returns-in_err-found
returns-in_err-found g c = λ long.
    (refused-as g.S.LogStore.reads g.S.LogStore.writes g.S.LogStore.syncs g.P.Port.read_gives g.P.Port.write_gives g.P.Port.sync_gives (g.P.Port.geometry_of c.args.port.now) c.args.head.now c.args.bytes.now c.args.other.now c.args.port.now c.args.port.now c.args.newer.now c.args.older.now c.args.newer.now c.args.older.now c.from_residual.result (Log c.in_err-found.field-0.0) c.from_residual.ensures.1
    (refused (Log c.in_err-found.field-0.0) (newer_fault c.in_err-found.ensures.fault)))

pub returns-in_err-first_lsn : goal.returns-in_err-first_lsn
returns-in_err-first_lsn g c = λ long.
    (refused-as g.S.LogStore.reads g.S.LogStore.writes g.S.LogStore.syncs g.P.Port.read_gives g.P.Port.write_gives g.P.Port.sync_gives (g.P.Port.geometry_of c.args.port.now) c.args.head.now c.args.bytes.now c.args.other.now c.args.port.now c.args.port.now c.args.newer.now c.args.older.now c.args.newer.now c.args.older.now c.from_residual-in_err-first_lsn.result (Log c.in_err-first_lsn.field-0.0) c.from_residual-in_err-first_lsn.ensures.1
    (refused (Log c.in_err-first_lsn.field-0.0) (older_fault c.in_err-first_lsn.ensures.other)))

pub returns-in_err-check : goal.returns-in_err-check
returns-in_err-check g c = λ long.
    (refused-as g.S.LogStore.reads g.S.LogStore.writes g.S.LogStore.syncs g.P.Port.read_gives g.P.Port.write_gives g.P.Port.sync_gives (g.P.Port.geometry_of c.args.port.now) c.args.head.now c.args.bytes.now c.args.other.now c.args.port.now c.args.port.now c.args.newer.now c.args.older.now c.args.newer.now c.args.older.now c.from_residual-in_err-check.result (Pages c.in_err-check.field-0.0) c.from_residual-in_err-check.ensures.1
    (refused (Pages c.in_err-check.field-0.0) (beyond-as _ c.args.head.now c.args.bytes.now c.args.other.now c.geometry.result.pages c.geometry.result.size _ _ c.in_ok-found.found.changes.items c.deref.result.now c.in_err-check.field-0.0 c.in_ok-found.ensures.read.0 (ap (λ d. d.pages) c.geometry.ensures) (ap (λ d. d.size) c.geometry.ensures) c.deref.ensures.value c.in_err-check.ensures.beyond)))

pub returns-then-branch-found : goal.returns-then-branch-found
returns-then-branch-found g c = λ long. refused (Log TwoLogs) (two_logs c.in_ok-found.ensures.read.0 (late c.args.head.now c.args.bytes.now c.args.other.now c.in_ok-found.found.first c.in_ok-found.found.last c.in_ok-first_lsn.field-0 c.in_ok-found.found.changes.items c.in_ok-found.ensures.read.0 (omega arith) c.in_ok-first_lsn.ensures.stands))

pub returns-then-found : goal.returns-then-found
returns-then-found g c = λ long. refused (Log Full) (no_lsn c.in_ok-found.ensures.read.0 (omega (arith, c.if-found.true)))
