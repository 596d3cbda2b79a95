use Rattle.std.proofs.Common.{[], ◌∷◌, length, refl, sym, ◌∙◌, ap, subst}
use Rattle.std.proofs.lemmas.List.{length-replicate}
use Rattle.example_log.specs.Disk.DeviceCall.{Read, NotRead}
use Rattle.example_log.specs.Steps.{Begins}
use Rattle.example_log.specs.Steps.Begins.{anew, read, not_read, no_memory}
use Rattle.example_log.proofs.redo.begin.Goals as goal
use Rattle.example_log.proofs.redo.begin.Goals.{in-Ok, in-Err}

pub returns-then-bytes-geometry-clause-began : goal.returns-then-bytes-geometry-clause-began
returns-then-bytes-geometry-clause-began g c = λ from log newer told.
    (let size = (g.P.Port.geometry_of c.args.port.now).size in
    let same = ap (λ d. d.size) c.geometry-geometry.ensures in (
      [],
      refl,
      elim c.match-blank.branch [
        | in-Ok w ↦ subst (λ r. Begins size from log c.args.page [] r) (sym w.result-is)
            (anew (record { newer = newer; full = c.args.first.now; older = []; stands = told; offset = c.if-first-eq0.true; bytes = sym (ap (λ b. length b) c.bytes.ensures) ∙ c.if-bytes-geometry.true ∙ same; fit = tt })
            (ap (λ b. length b) w.in-Ok.ensures ∙ length-replicate c.geometry-geometry.result.size 0 ∙ same))
        | in-Err w ↦ subst (λ r. Begins size from log c.args.page [] r) (sym w.result-is) no_memory
      ],
    ))

pub returns-in-Ok-read-clause-began : goal.returns-in-Ok-read-clause-began
returns-in-Ok-read-clause-began g c = λ from log newer told.
    (Read c.args.page c.in-Ok-read.image ∷ [], (c.args.port.now, refl, c.in-Ok-read.ensures.gives), read c.in-Ok-read.ensures.size)

pub returns-in-Err-read-clause-began : goal.returns-in-Err-read-clause-began
returns-in-Err-read-clause-began g c = λ from log newer told.
    (NotRead c.args.page ∷ [], (c.args.port.now, refl, (c.in-Err-read.fault, c.in-Err-read.ensures.gives)), not_read)
