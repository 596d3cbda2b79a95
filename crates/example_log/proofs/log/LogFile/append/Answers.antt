use Rattle.std.specs.Prelude.{IsErrAnd}
use Rattle.example_log.specs.declared.log.LogFault.TheVariants.{Memory, Device as FileFailed}
use Rattle.example_log.specs.LogFiles.{AppendFault}
use Rattle.example_log.specs.LogFiles.AppendFault.{has_ended, no_memory, no_lsn, no_room, failed}
use Rattle.std.proofs.Common.{◌≡◌, ◌∙◌, ◌<◌, ◌≤◌, ◌+◌, ◌^◌, ◌++◌, ℕ, List, length, refl, sym, ap, subst, inl, inr, arith, true, false, not}
use Rattle.example_log.specs.Frames.{frame}
use Rattle.example_log.proofs.Framing.{length-frame}
use Rattle.example_log.proofs.LogFiles.{weaken, stays, grows, err-if, err-is, fault-is}
use Rattle.example_log.proofs.log.LogFile.append.Goals as goal

pub returns-then-self-clause-life : goal.returns-then-self-clause-life
returns-then-self-clause-life g c = λ first start durable calls log is.
    stays (g.S.LogStore.reads c.args.pages.now) (g.S.LogStore.writes c.args.pages.now) (g.S.LogStore.syncs c.args.pages.now) first start durable calls log c.args.self.now is _ (refl, tt, inl refl)

pub returns-in_err-put_frame-clause-life : goal.returns-in_err-put_frame-clause-life
returns-in_err-put_frame-clause-life g c = λ first start durable calls log is.
    (let e = err-if c.from_residual.result _ _ c.from_residual.ensures.0 (inl refl) in
    stays (g.S.LogStore.reads c.args.pages.now) (g.S.LogStore.writes c.args.pages.now) (g.S.LogStore.syncs c.args.pages.now) first start durable calls log c.args.self.now is _ (refl, e.0, e.1))

pub returns-then-lsn-clause-life : goal.returns-then-lsn-clause-life
returns-then-lsn-clause-life g c = λ first start durable calls log is.
    stays (g.S.LogStore.reads c.args.pages.now) (g.S.LogStore.writes c.args.pages.now) (g.S.LogStore.syncs c.args.pages.now) first start durable calls log c.args.self.now is _ (refl, tt, inl refl)

pub returns-then-len-saturating_sub-clause-life : goal.returns-then-len-saturating_sub-clause-life
returns-then-len-saturating_sub-clause-life g c = λ first start durable calls log is.
    stays (g.S.LogStore.reads c.args.pages.now) (g.S.LogStore.writes c.args.pages.now) (g.S.LogStore.syncs c.args.pages.now) first start durable calls log c.args.self.now is _ (refl, tt, inl refl)

pub returns-in_err-write-clause-life : goal.returns-in_err-write-clause-life
returns-in_err-write-clause-life g c = λ first start durable calls log is.
    (let bytes = c.deref.result.now in
    let framed : bytes ≡ frame c.args.self.now.next c.args.payload.now = c.deref.ensures.value ∙ c.in_ok-put_frame.ensures ∙ ap (λ (t : List ℕ). t ++ frame c.args.self.now.next c.args.payload.now) c.new-frame.ensures.items in
    let long : length bytes ≡ 24 + length c.args.payload.now = ap (λ (t : List ℕ). length t) framed ∙ length-frame c.args.self.now.next c.args.payload.now in
    let fits : length c.args.payload.now < 2 ^ 64 = omega arith in
    let room : c.args.self.now.end + length bytes ≤ c.args.self.now.size = omega arith in
    weaken (g.S.LogStore.reads c.args.pages.now) (g.S.LogStore.writes c.args.pages.now) (g.S.LogStore.syncs c.args.pages.now) _ _ first start calls _ _
    (λ l d p. (let e = err-if c.from_residual-in_err-write.result _ _ c.from_residual-in_err-write.ensures.0 (inr p.1) in (p.0, e.0, e.1)))
    (grows (g.S.LogStore.reads c.args.pages.now) (g.S.LogStore.writes c.args.pages.now) (g.S.LogStore.syncs c.args.pages.now) first start durable calls log c.args.self.now is c.write.new.self c.args.payload.now bytes false
    c.if-self.false framed fits (omega arith) room c.in_err-write.ensures.gives (ap not c.in_err-write.ensures.ended.0) c.in_err-write.ensures.same.0
    (λ a. (let b = sym c.in_err-write.ensures.ended.0 ∙ a in absurd (cc)))))

pub returns-clause-life : goal.returns-clause-life
returns-clause-life g c = λ first start durable calls log is.
    (let bytes = c.deref.result.now in
    let framed : bytes ≡ frame c.args.self.now.next c.args.payload.now = c.deref.ensures.value ∙ c.in_ok-put_frame.ensures ∙ ap (λ (t : List ℕ). t ++ frame c.args.self.now.next c.args.payload.now) c.new-frame.ensures.items in
    let long : length bytes ≡ 24 + length c.args.payload.now = ap (λ (t : List ℕ). length t) framed ∙ length-frame c.args.self.now.next c.args.payload.now in
    let fits : length c.args.payload.now < 2 ^ 64 = omega arith in
    let room : c.args.self.now.end + length bytes ≤ c.args.self.now.size = omega arith in
    weaken (g.S.LogStore.reads c.args.pages.now) (g.S.LogStore.writes c.args.pages.now) (g.S.LogStore.syncs c.args.pages.now) _ _ first start calls _ _
    (λ l d p. (p.0, (is.next c.if-self.false, p.1), tt))
    (grows (g.S.LogStore.reads c.args.pages.now) (g.S.LogStore.writes c.args.pages.now) (g.S.LogStore.syncs c.args.pages.now) first start durable calls log c.args.self.now is
    (record { store = c.write.new.self.store; size = c.write.new.self.size; end = c.write.new.self.end + c.len-2.result; next = c.args.self.now.next + 1; is_ended = c.write.new.self.is_ended }) c.args.payload.now bytes true
    c.if-self.false framed fits (omega arith) room c.in_ok-write.ensures.gives (ap not (c.in_ok-write.ensures.ended.1 ∙ c.if-self.false)) c.in_ok-write.ensures.same.0
    (λ a. (omega (arith, c.in_ok-write.ensures.same.1, c.len-2.ensures, c.deref.ensures.len), refl))))

pub returns-clause-room : goal.returns-clause-room
returns-clause-room g c =
    (let framed = c.deref.ensures.value ∙ c.in_ok-put_frame.ensures ∙ ap (λ (t : List ℕ). t ++ frame c.args.self.now.next c.args.payload.now) c.new-frame.ensures.items in
    let long = ap (λ (t : List ℕ). length t) framed in
    record { alive = c.if-self.false; lsn = omega arith; room = omega (arith, long, length-frame c.args.self.now.next c.args.payload.now) })

pub returns-then-self-clause-fault : goal.returns-then-self-clause-fault
returns-then-self-clause-fault g c = has_ended c.if-self.true refl

pub returns-in_err-put_frame-clause-fault : goal.returns-in_err-put_frame-clause-fault
returns-in_err-put_frame-clause-fault g c = fault-is c.from_residual.result Memory (AppendFault (g.S.LogStore.writes c.args.pages.now) c.args.self.now c.args.payload.now c.args.self.now) c.from_residual.ensures.1 (no_memory c.if-self.false refl)

pub returns-then-lsn-clause-fault : goal.returns-then-lsn-clause-fault
returns-then-lsn-clause-fault g c = no_lsn c.if-self.false (omega (arith, c.if-lsn.true)) refl

pub returns-then-len-saturating_sub-clause-fault : goal.returns-then-len-saturating_sub-clause-fault
returns-then-len-saturating_sub-clause-fault g c =
    (let framed = c.in_ok-put_frame.ensures ∙ ap (λ (t : List ℕ). t ++ frame c.args.self.now.next c.args.payload.now) c.new-frame.ensures.items in
    let long = ap (λ (t : List ℕ). length t) framed in
    no_room c.if-self.false (omega (arith, long, length-frame c.args.self.now.next c.args.payload.now, c.len.ensures, c.saturating_sub.ensures)) refl)

pub returns-in_err-write-clause-fault : goal.returns-in_err-write-clause-fault
returns-in_err-write-clause-fault g c =
    (let framed = c.deref.ensures.value ∙ c.in_ok-put_frame.ensures ∙ ap (λ (t : List ℕ). t ++ frame c.args.self.now.next c.args.payload.now) c.new-frame.ensures.items in
    fault-is c.from_residual-in_err-write.result FileFailed (AppendFault (g.S.LogStore.writes c.args.pages.now) c.args.self.now c.args.payload.now c.write.new.self) (subst (λ w. IsErrAnd c.from_residual-in_err-write.result (λ e. e ≡ w)) (err-is _ c.in_err-write.field-0.0 FileFailed _ refl c.in_err-write.ensures.fault) c.from_residual-in_err-write.ensures.1)
    (failed (record { alive = c.if-self.false; lsn = omega arith; room = omega (arith, ap (λ (t : List ℕ). length t) framed, length-frame c.args.self.now.next c.args.payload.now) }) c.in_err-write.ensures.ended.0 (subst (λ (t : List ℕ). (g.S.LogStore.writes c.args.pages.now) c.args.self.now.store c.args.self.now.end t false c.write.new.self.store) framed c.in_err-write.ensures.gives)))

pub returns-clause-gives : goal.returns-clause-gives
returns-clause-gives g c =
    (let framed = c.deref.ensures.value ∙ c.in_ok-put_frame.ensures ∙ ap (λ (t : List ℕ). t ++ frame c.args.self.now.next c.args.payload.now) c.new-frame.ensures.items in
    subst (λ (t : List ℕ). g.S.LogStore.writes c.args.pages.now c.args.self.now.store c.args.self.now.end t true c.write.new.self.store) framed c.in_ok-write.ensures.gives)
