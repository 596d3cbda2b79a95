-- `line` takes the next key. Assumes `Logic`.
use Rattle.std.proofs.Common.{[], ◌∷◌, ◌++◌, length, refl, sym, subst, List}
use seplogic.Ra.Ura.{Ura}
use mir.Syntax.{Fn}
use mir.Val.{Val, vptr}
use base.Logic.{SProp, ent, via, fst∗, snd∗}
use base.Fml.{ftrue, flft}
use prog.Memory.{Memory}
use prog.Routine.{Routine}
use prog.Wp.{Calls, Loops, WpFn, Tables}
use contract.Monad.{Fun, fact_use}
use contract.Running.{tables, tables_of}
use sound.WpLaws.{WpFn-mono}
use types.Logic.{Logic, sem}
use types.Kit.{‵, raw, ◌⊛◌, later, ◌$◌, ◌∵◌, !, qed, move, keep, split, join, fsplit, fsplit3, fjoin, fjoin3, suffices, done, use1, await, feq_i}
use types.Part.{agg}
use types.Run.{enter, returns, no_more}
use types.ByLocal.{alloc_all, pass_all, free_all, look_at, sets}
use denote.RattleType.{RattleType, owns}
use denote.Laws.{Are, Ises, owns_show, showss}
use denote.Signature.{plain, types_at}
use denote.Steps.{nothing, opens, closes}
use denote.Triple.Clauses.{Clauses, Ended, closing}
use denote.Triple.Entry.{on_entry, alive}
use denote.Triple.Spec.{Meets, triple_of}
use denote.Triple.Table.{entered}
use denote.Triple.Walked.{says, Stays, stay_ref, walk_of, ends_at, Goes-ref, walk_Meets}
use Rattle.bp_session_log.specs.Owned.{board_owns, line_owns}
use Rattle.bp_session_log.proofs.Walks.{none, none_made}
use Rattle.bp_session_log.proofs.Steps as steps
use Rattle.bp_session_log.specs.contracts.boards.Board as Board
use Rattle.bp_session_log.specs.contracts.boards.Line as Line
use Rattle.bp_session_log.specs.contracts.boards.Board.line as F
use Rattle.bp_session_log.specs.contracts.boards.Board.line.Key.{name as #self}
use Rattle.bp_session_log.proofs.boards.Board.line.Statement as stated
use Rattle.bp_session_log.proofs.boards.Board.line.Code as code

abbrev function : Fn
function = code.function

abbrev ended : Ended
ended = F.ended

abbrev A : RattleType
A = Board.the_row

abbrev B : RattleType
B = Line.the_row

abbrev stayed : Stays ended.signature.params ended.kept
stayed = (stay_ref (0 ∷ []) tt (plain (λ _. A)), tt)

module _ {M : Type 1} {𝓤 : Ura M} (𝓛 : Logic 𝓤) (at_mem : Memory → SProp 𝓤) (run : Routine → Fun 𝓤) where
  open 𝓛 use {H}

  abbrev held : Clauses 𝓤 ended
  held = F.clauses 𝓛 at_mem run

  module _ (C : Calls 𝓤 H) (Λ : Loops 𝓤 H) (z : (walk_of 𝓛 ended stayed held).Ghost) where
    abbrev Vss : Type 0
    Vss = List Val × Unit {0}

    abbrev At : Vss → (walk_of 𝓛 ended stayed held).Ghost
    At vss = ((z.0.0, z.0.1, z.0.2, z.0.3, vss), z.1)

    abbrev Goes : Vss → Type 1
    Goes vss = ent 𝓤 ((walk_of 𝓛 ended stayed held).pre (At vss)) (WpFn 𝓤 H C Λ function ((walk_of 𝓛 ended stayed held).args (At vss)) ((walk_of 𝓛 ended stayed held).post (At vss)))

    abbrev a : A.Denot
    a = z.0.3.0.now

    abbrev u : Val
    u = vptr z.0.3.0.ref_ptr.0 z.0.3.0.ref_ptr.1

    abbrev passed : Vss
    passed = (u ∷ [], tt)

    walks : Goes passed
    walks =
        let r = z.0.3.0 in
        let a' : A.Denot = record { name = a.name; lists = a.lists ++ [] ∷ [] } in
        let new : B.Denot = record { name = a.name; number = length a.lists; list = [] } in
        qed 𝓛 (((‵ (flft z.0.0.0 z.0.1.0) ⊛ ‵ ftrue) ⊛ ‵ (owns (types_at ended.signature.params z.0.0) z.0.3 passed)) ∷ raw ((held z.0.0 z.0.3).requires z.1) ∷ []) ∵
        split ! $ split ! $ move ! (2 ∷ []) $ fsplit ! $ fsplit3 ! $ keep ! (1 ∷ 2 ∷ 4 ∷ 5 ∷ []) $
        enter ! C Λ function (u ∷ []) _ $ alloc_all ! (λ l. pass_all ! refl ((tt, tt), tt) $
        opens ! tt A r.ref_ptr.0 r.ref_ptr.1 (λ cs. move ! (1 ∷ []) $ fsplit ! $ move ! (1 ∷ []) $
        use1 𝓛 (later (‵ (board_owns a.name a'.lists) ⊛ ‵ (line_owns a.name new.number []))) (steps.opens_line 𝓛 a.name a.lists) $
        await ! tt $ split ! $ move ! (2 ∷ 0 ∷ []) $ fjoin ! $ move ! (2 ∷ 0 ∷ 3 ∷ 4 ∷ 5 ∷ []) $ closes ! tt A a' cs r.ref_ptr.0 r.ref_ptr.1 $
        sets ! (agg ! (no_more !)) refl (tt, tt) $
        returns ! (look_at ! 0 refl) $ free_all ! refl $
        suffices ! _ (ends_at 𝓛 ended stayed held (At passed) none new (a', tt) (tt, tt)) $
        says ! (record { name = refl; lists = refl; name_is = refl; number_is = refl; empty = refl }) $
        feq_i ! (List Val) (u ∷ []) (u ∷ []) refl $ fjoin3 ! $ nothing ! $ move ! (1 ∷ 0 ∷ []) $ fjoin ! $
        move ! (2 ∷ []) $ none_made ! $ fjoin ! $ move ! (1 ∷ 0 ∷ []) $ join ! $ move ! (1 ∷ 2 ∷ []) $ join ! $ join ! $ done !))

  meets : (𝓣 : Tables 𝓤 H) → Meets 𝓛 ended.signature (WpFn 𝓤 H 𝓣.C 𝓣.Λ function) (closing 𝓛 ended held)
  meets 𝓣 =
      walk_Meets 𝓛 ended stayed (Goes-ref 𝓛 1 0 tt (plain (λ _. A)), tt) held
      (WpFn 𝓤 H 𝓣.C 𝓣.Λ function) (WpFn-mono 𝓤 H 𝓛.laws 𝓣 function)
      (λ z. let a = z.0.3 in let vss = z.0.4 in let Rs = types_at ended.signature.params z.0.0 in let On : SProp 𝓤 = on_entry 𝓛 ended.signature z.0.0 z.0.1 a vss in
      fact_use 𝓤 (Are Rs (Ises Rs) a vss) (via 𝓤 (sem 𝓛 (owns Rs a vss)) (via 𝓤 On (fst∗ 𝓤 On ((held z.0.0 a).requires z.1)) (snd∗ 𝓤 (alive 𝓛 ended.signature z.0.0 z.0.1) (sem 𝓛 (owns Rs a vss)))) (owns_show 𝓛 Rs (Ises Rs) (showss 𝓛 Rs) a vss)) (λ are.
      subst (Goes 𝓣.C 𝓣.Λ z) (λ i. (sym are.0.0 i, tt)) (walks 𝓣.C 𝓣.Λ z)))

pub line_spec : {M : Type 1} → stated.statement M
unfolding tables_of
line_spec 𝓤 𝓛 𝓜 𝓡 wired =
    let 𝓣 : Tables 𝓤 𝓛.H = tables_of 𝓤 𝓛.H 𝓜 (tables 𝓤 𝓛.H 𝓜 𝓡 𝓡.env) in
    entered 𝓤 𝓛.H (triple_of 𝓛 ended.signature (closing 𝓛 ended (held 𝓛 𝓜.mem 𝓡.returns))) 𝓣.C 𝓣.Λ #self function
    (code.unfolded 𝓤 𝓛.H 𝓜 𝓡 wired) (meets 𝓛 𝓜.mem 𝓡.returns 𝓣)
