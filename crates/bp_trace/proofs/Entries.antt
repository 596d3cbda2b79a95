-- The lines of a list of entries, one entry after the other.
use Rattle.std.proofs.Common.{◌≡◌, ◌∙◌, ℕ, suc, ◌+◌, ◌<◌, ◌^◌, cond, List, ◌∷◌, ◌++◌, length, drop, take, get_or, sym, ap, arith, add-one, drop-cons, length-take}
use Rattle.std.specs.Prelude.{Bool}
use Rattle.bp_trail.specs.declared.entries.Entry.{Entry}
use Rattle.bp_trail.specs.declared.entries.Call.{Call}
use Rattle.bp_trail.specs.declared.entries.Call.TheVariants.{Tick, Mark, Fix, ReadEnd, WriteEnd, Read, Write, Unfix, Flush, Discard, Purge}
use Rattle.bp_trail.specs.declared.entries.Reply.{Reply}
use Rattle.bp_scripts.specs.declared.rows.Refused.{Refused}
use Rattle.bp_trail.specs.Trail.{Trail}
use Rattle.bp_trail.specs.Clock.{clock}
use Rattle.bp_trace.specs.Lines.{event_line, refused_line}
use Rattle.bp_trace.specs.Report.{lines_after, rows_text, steps_of}

pub drop-item : {X : Type 0} (xs : List X) (i : ℕ) (x : X) → i < length xs → x ≡ get_or xs i x → drop i xs ≡ x ∷ drop (i + 1) xs
drop-item xs i x h is = rw add-one (drop-cons xs i x h ∙ ap (λ y. y ∷ drop (suc i) xs) (sym is))

pub lines_after-drop : (past : Trail) (entries : List Entry) (i : ℕ) (e : Entry) → i < length entries → e ≡ get_or entries i e
    → lines_after past (drop i entries) ≡ event_line (clock past) e ++ lines_after (e ∷ past) (drop (i + 1) entries)
unfolding lines_after
lines_after-drop past entries i e h is = ap (lines_after past) (drop-item entries i e h is)

pub rows_text-drop : (rows : List Refused) (i : ℕ) (d : Refused) → i < length rows → rows_text (drop i rows) ≡ refused_line (get_or rows i d) ++ rows_text (drop (i + 1) rows)
unfolding rows_text
rows_text-drop rows i d h = rw add-one (ap rows_text (drop-cons rows i d h))

-- an entry moves the clock by its call's steps
pub clock-next : (past : Trail) (client : ℕ) (call : Call) (reply : Reply) → clock (record { client = client; call = call; reply = reply } ∷ past) ≡ clock past + steps_of call
clock-next past client (Tick n) reply = omega arith
clock-next past client (Mark lsn) reply = omega arith
clock-next past client (Fix p) reply = omega arith
clock-next past client (ReadEnd t p image) reply = omega arith
clock-next past client (WriteEnd t p good) reply = omega arith
clock-next past client (Read n p) reply = omega arith
clock-next past client (Write n p offset bytes lsn) reply = omega arith
clock-next past client (Unfix n p) reply = omega arith
clock-next past client (Flush p) reply = omega arith
clock-next past client (Discard p) reply = omega arith
clock-next past client Purge reply = omega arith
