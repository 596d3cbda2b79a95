-- One section, in which the read may not have been asked.
use Rattle.std.proofs.Common.{◌≡◌, ap, sym, subst, ◌∙◌, []}
use Rattle.std.specs.Sync.Mutex.{mutex_guard_value}
use Rattle.bp_core.specs.CoreView.{LacksRoomFor}
use Rattle.bp_shared.specs.Locked.{LockedValue}
use Rattle.bp_shared.specs.Sessions.{SessionValue}
use Rattle.bp_shared.specs.Telling.{GoesOnFrom}
use Rattle.bp_shared.proofs.Acting.{gave_back}
use Rattle.bp_shared.proofs.Refusing.{read_into_full}
use Rattle.bp_shared.proofs.Returning.{still_full}
use Rattle.bp_shared.proofs.pool.SharedPool.read_and_unfix.Goals.{in-Ok, in-Err}
use Rattle.bp_shared.proofs.pool.SharedPool.read_and_unfix.Goals as goal

pub give_back-requires-clause-part : goal.give_back-requires-clause-part
give_back-requires-clause-part g c =
    let entered = c.lock_and_drain-state.ensures.entered in
    let here = c.deref_mut-2.ensures.value in
    elim c.match-reserved.branch [
      | in-Ok w ↦
          ap (λ (v : SessionValue). v.part) w.session-is ∙ w.read_into-read.ensures.acted.part ∙ entered.part ∙ ap (λ (v : LockedValue). v.part) (sym w.deref_mut.ensures.value)
          ∙ sym w.read_into-read.ensures.part ∙ ap (λ (v : LockedValue). v.part) (sym (here ∙ ap mutex_guard_value w.state-is))
      | in-Err w ↦ ap (λ (v : SessionValue). v.part) w.session-is ∙ entered.part ∙ ap (λ (v : LockedValue). v.part) (sym (here ∙ ap mutex_guard_value w.state-is))
    ]

pub returns-clause-acted : goal.returns-clause-acted
returns-clause-acted g c =
    let entered = c.lock_and_drain-state.ensures in
    let old = c.lock_and_drain-state.new.session in
    let mid = c.match-reserved.session in
    let on : GoesOnFrom old.seen mid.seen =
    elim c.match-reserved.branch [
      | in-Ok w ↦ subst (λ (v : SessionValue). GoesOnFrom old.seen v.seen) (sym w.session-is) w.read_into-read.ensures.acted.goes_on
      | in-Err w ↦ ([], ap (λ (v : SessionValue). v.seen) w.session-is)
    ] in
    let part : mid.part ≡ old.part =
    elim c.match-reserved.branch [
      | in-Ok w ↦ ap (λ (v : SessionValue). v.part) w.session-is ∙ w.read_into-read.ensures.acted.part
      | in-Err w ↦ ap (λ (v : SessionValue). v.part) w.session-is
    ] in
    let back = c.give_back.ensures in
    rw (← c.session.view_is) (gave_back _ _ _ mid c.give_back.new.session c.give_back.new.self.core entered.free (part ∙ ap (λ (v : SessionValue). v.part) entered.session) (subst (λ s. GoesOnFrom s mid.seen) (ap (λ (v : SessionValue). v.seen) entered.session) on) back.part back.free back.parameters back.legal back.seen back.list back.goes_on)

pub returns-clause-room : goal.returns-clause-room
returns-clause-room g c full =
    let back = c.give_back.ensures in
    let here = c.deref_mut-2.ensures.value in
    let lacks : LacksRoomFor 1 c.deref_mut-2.result.now.core =
    elim c.match-reserved.branch [
      | in-Ok w ↦
          (let read = w.read_into-read.ensures.in_step in
          let no = read_into_full _ _ _ _ _ _ _ read.event (sym w.read-is ∙ full) in
          subst (λ (v : LockedValue). LacksRoomFor 1 v.core) (sym (here ∙ ap mutex_guard_value w.state-is)) (subst (LacksRoomFor 1) (sym no.1) no.0))
      | in-Err w ↦ absurd (let is = sym w.read-is ∙ full in let why = w.in-Err.ensures.refused in cc)
    ] in
    still_full 1 _ _ _ c.give_back.new.self.core _ back.parameters lacks back.takes back.legal back.seen
