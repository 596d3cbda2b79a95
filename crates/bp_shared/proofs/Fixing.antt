-- A fix, turn by turn.
use Rattle.std.proofs.Common.{◌≡◌, ◌≢◌, refl, sym, ap, ◌∙◌, ℕ, true, false, List, [], ◌∷◌, ◌++◌, append_assoc, Option, Some, None, Result, Ok, Err, arith}
use Rattle.bp_page.specs.declared.refusals.Refusal.{Refusal}
use Rattle.bp_page.specs.declared.refusals.Refusal.TheVariants as refusal
use Rattle.bp_page.specs.declared.refusals.PortFault.{PortFault}
use Rattle.bp_trail.specs.declared.entries.Entry.{Entry}
use Rattle.bp_trail.specs.declared.entries.Call.TheVariants.{Fix, ReadEnd, WriteEnd}
use Rattle.bp_trail.specs.declared.entries.Reply.TheVariants.{Hit, Load, WriteFirst, NoVictim, NeedLog, Busy, Fixed, ReadFailed, WrongPage, Cleaned, StillDirty, WriteFailed}
use Rattle.bp_core.specs.declared.passes.Pass.{Pass}
use Rattle.bp_core.specs.declared.passes.ReadTicket.{ReadTicket}
use Rattle.bp_core.specs.declared.passes.WriteTicket.{WriteTicket}
use Rattle.bp_session_log.specs.declared.pending.Fix.{Fix as Fixing}
use Rattle.bp_session_log.specs.declared.pending.Fix.TheVariants as fixing
use Rattle.bp_trail.specs.declared.ends.Ended.{Ended}
use Rattle.bp_trail.specs.declared.ends.Ended.TheVariants as ended
use Rattle.bp_trail.specs.Event.{grant}
use Rattle.bp_trail.specs.Trail.{Trail}
use Rattle.bp_page.specs.Refusals.{number_of}
use Rattle.bp_trail.specs.Pieces.{by, FixGoesOn, FixPiece, Outcome}
use Rattle.bp_trail.specs.Pieces.Outcome.{accepted, refused}
use Rattle.bp_trail.specs.Pieces.Manner.{session}
use Rattle.bp_trail.specs.Pieces.FixGoesOn.{begins, marked, waited, cleaned, still_dirty}
use Rattle.bp_trail.specs.Pieces.FixPiece.{hit, fixed, no_victim, need_log, read_failed, wrong_page, write_failed, lost_read, lost_write, no_room, no_memory}
use Rattle.bp_session_log.specs.Books.{OwesRead, OwesWrite}
use Rattle.bp_session_log.specs.Turns.{FixTurn, EndReadOutcome, EndWriteOutcome, LoadOutcome, WriteOutOutcome}
use Rattle.bp_shared.proofs.Turning.{FixWaits, FixTurns, fix_marked}
use Rattle.bp_shared.specs.Sessions.{FixSaid}
use Rattle.bp_core.specs.Added.{Gives}
use Rattle.bp_core.specs.Work.{Reads, Writes}

goes_on-append : (client page : ℕ) (xs ys : Trail) → FixGoesOn session client page xs → FixGoesOn session client page ys → FixGoesOn session client page (xs ++ ys)
goes_on-append client page _ ys begins q = q
goes_on-append client page _ ys (marked lsn i p) q = marked lsn i (goes_on-append client page _ ys p q)
goes_on-append client page _ ys (waited i p) q = waited i (goes_on-append client page _ ys p q)
goes_on-append client page _ ys (cleaned t v image p) q = cleaned t v image (goes_on-append client page _ ys p q)
goes_on-append client page _ ys (still_dirty t v image p) q = still_dirty t v image (goes_on-append client page _ ys p q)

-- while it goes on it gives no pass
gives_none : (client page : ℕ) (piece : Trail) → FixGoesOn session client page piece → Gives piece None
gives_none client page _ begins = λ said. refl
gives_none client page _ (marked lsn i p) = gives_none client page _ p
gives_none client page _ (waited i p) = gives_none client page _ p
gives_none client page _ (cleaned t v image p) = gives_none client page _ p
gives_none client page _ (still_dirty t v image p) = gives_none client page _ p

pub waits_none : (client page : ℕ) (said : Trail) → FixWaits client page said said
waits_none client page said = record { piece = []; goes_on = begins; grows = refl }

waits_more : (client page : ℕ) (said mid after : Trail) → FixWaits client page said mid → FixWaits client page mid after → FixWaits client page said after
waits_more client page said mid after w v =
    record {
      piece = v.piece ++ w.piece;
      goes_on = goes_on-append client page v.piece w.piece v.goes_on w.goes_on;
      grows = v.grows ∙ ap (λ es. v.piece ++ es) w.grows ∙ sym (append_assoc v.piece w.piece said);
    }

-- a turn after those before
pub turn_more : (client page : ℕ) (answer : Result Fixing Refusal) (said mid after : Trail) → FixWaits client page said mid → FixTurn client page answer mid after → FixTurns client page answer said after
turn_more client page answer said mid after w t = record { marked = t.marked; waits = waits_more client page said mid t.marked w (fix_marked client page mid t.marked t.marks); asks = t.asks }

pub hit_said : (client page : ℕ) (pass : Pass) (said after : Trail) → FixTurns client page (Ok (fixing.Hit pass)) said after → FixSaid client page (Ok pass) said after
hit_said client page pass said after t =
    let w = t.waits in
    let e = by client (Fix page) (Hit pass.serial) in (
      t.asks.0,
      t.asks.1,
      record { piece = e ∷ w.piece; grows = t.asks.2 ∙ ap (λ es. e ∷ es) w.grows; of_row = hit pass.serial w.goes_on; gives = λ s. ap (λ gs. grant client page pass.serial ∷ gs) (gives_none client page w.piece w.goes_on s) },
    )

pub busy_waits : (client page : ℕ) (said after : Trail) → FixTurns client page (Err refusal.Busy) said after → FixWaits client page said after
busy_waits client page said after t =
    let e = by client (Fix page) Busy in
    record { piece = e ∷ t.waits.piece; goes_on = waited refl t.waits.goes_on; grows = t.asks.1 ∙ ap (λ es. e ∷ es) t.waits.grows }

pub refused_said : (client page : ℕ) (why : Refusal) (said after : Trail) → why ≢ refusal.Busy → FixTurns client page (Err why) said after → FixSaid client page (Err why) said after
refused_said client page refusal.NoVictim said after not t =
    let w = t.waits in
    let e = by client (Fix page) NoVictim in record { piece = e ∷ w.piece; grows = t.asks.1 ∙ ap (λ es. e ∷ es) w.grows; of_row = (no_victim w.goes_on, tt); gives = gives_none client page w.piece w.goes_on }
refused_said client page (refusal.NeedLog lsn) said after not t =
    let w = t.waits in
    let e = by client (Fix page) (NeedLog lsn) in record { piece = e ∷ w.piece; grows = t.asks.1 ∙ ap (λ es. e ∷ es) w.grows; of_row = (need_log lsn w.goes_on, refl); gives = gives_none client page w.piece w.goes_on }
refused_said client page refusal.Busy said after not t = absurd (not refl)
refused_said client page refusal.TrailFull said after not t =
    let w = t.waits in record { piece = w.piece; grows = t.asks.1 ∙ w.grows; of_row = (no_room w.goes_on, tt); gives = gives_none client page w.piece w.goes_on }
refused_said client page refusal.OutOfMemory said after not t =
    let w = t.waits in record { piece = w.piece; grows = t.asks.1 ∙ w.grows; of_row = (no_memory w.goes_on, tt); gives = gives_none client page w.piece w.goes_on }
refused_said client page _ said after not t = absurd (let no : false ≡ true = t.asks.0 in cc)

pub owes_read : (client page : ℕ) (ticket : ReadTicket) (evicted : Option ℕ) (said after : Trail) → FixTurn client page (Ok (fixing.Load ticket evicted)) said after → OwesRead client ticket after
owes_read client page ticket evicted said after t =
    record { evicted = evicted; before = t.marked; whose = t.asks.0; gave = t.asks.2 ∙ ap (λ p. by client (Fix p) (Load ticket.serial evicted) ∷ t.marked) (sym t.asks.1) }

pub owes_write : (client page : ℕ) (ticket : WriteTicket) (said after : Trail) → FixTurn client page (Ok (fixing.WriteFirst ticket)) said after → OwesWrite client ticket after
owes_write client page ticket said after t = record { call = Fix page; before = t.marked; whose = t.asks.0; gave = t.asks.1 }

-- the read and its end
pub load_said : {A : Type 0} (reads : Reads A) (port kept : A) (client page : ℕ) (ticket : ReadTicket) (evicted : Option ℕ) (answer : Result Pass Refusal) (said mid after : Trail) → FixTurns client page (Ok (fixing.Load ticket evicted)) said mid
    → LoadOutcome reads ticket answer mid after port kept → FixSaid client page answer said after
load_said reads port kept client page ticket evicted answer said mid after t l = go l.read answer l.ended
  where
    w : FixWaits client page said t.marked
    w = t.waits

    e : Entry
    e = by client (Fix page) (Load ticket.serial evicted)

    grown : mid ≡ e ∷ (w.piece ++ said)
    grown = t.asks.2 ∙ ap (λ es. e ∷ es) w.grows

    go : (read : Result (List ℕ) PortFault) (answer : Result Pass Refusal) → EndReadOutcome ticket read answer mid after → FixSaid client page answer said after
    go (Ok image) (Ok pass) h =
        let end = λ (c p : ℕ). by c (ReadEnd ticket.serial p (Some image)) (Fixed pass.serial) in (
          h.0 ∙ t.asks.0,
          h.1 ∙ t.asks.1,
          record {
            piece = end client page ∷ e ∷ w.piece;
            grows = h.2 ∙ ap (λ c. end c ticket.page ∷ mid) t.asks.0 ∙ ap (λ p. end client p ∷ mid) t.asks.1 ∙ ap (λ es. end client page ∷ es) grown;
            of_row = fixed ticket.serial pass.serial evicted image w.goes_on;
            gives = λ s. ap (λ gs. grant client page pass.serial ∷ gs) (gives_none client page w.piece w.goes_on s);
          },
        )
    go (Err fault) (Err refusal.ReadFailed) h =
        let end = λ (c p : ℕ). by c (ReadEnd ticket.serial p None) ReadFailed in
        record {
          piece = end client page ∷ e ∷ w.piece;
          grows = h.1 ∙ ap (λ c. end c ticket.page ∷ mid) t.asks.0 ∙ ap (λ p. end client p ∷ mid) t.asks.1 ∙ ap (λ es. end client page ∷ es) grown;
          of_row = (read_failed ticket.serial evicted w.goes_on, tt);
          gives = gives_none client page w.piece w.goes_on;
        }
    go (Err fault) (Err refusal.WrongPage) h =
        let end = λ (c p : ℕ). by c (ReadEnd ticket.serial p None) WrongPage in
        record {
          piece = end client page ∷ e ∷ w.piece;
          grows = h.1 ∙ ap (λ c. end c ticket.page ∷ mid) t.asks.0 ∙ ap (λ p. end client p ∷ mid) t.asks.1 ∙ ap (λ es. end client page ∷ es) grown;
          of_row = (wrong_page ticket.serial evicted w.goes_on, tt);
          gives = gives_none client page w.piece w.goes_on;
        }
    go (Ok image) (Err refusal.UnknownTicket) h = record { piece = e ∷ w.piece; grows = h ∙ grown; of_row = (lost_read ticket.serial evicted refl w.goes_on, tt); gives = gives_none client page w.piece w.goes_on }
    go (Err fault) (Err refusal.UnknownTicket) h = record { piece = e ∷ w.piece; grows = h ∙ grown; of_row = (lost_read ticket.serial evicted refl w.goes_on, tt); gives = gives_none client page w.piece w.goes_on }
    go _ _ h = absurd h

-- the victim's write-out and its end
pub written_waits : {A : Type 0} (writes : Writes A) (port kept : A) (client page : ℕ) (ticket : WriteTicket) (how : Ended) (said mid after : Trail) → FixTurns client page (Ok (fixing.WriteFirst ticket)) said mid → WriteOutOutcome writes ticket (Ok how) mid after port kept → FixWaits client page said after
written_waits writes port kept client page ticket how said mid after t o = go o.written how o.ended
  where
    w : FixWaits client page said t.marked
    w = t.waits

    e : Entry
    e = by client (Fix page) (WriteFirst ticket.serial ticket.page ticket.image)

    go : (written : Result (Unit {0}) PortFault) (how : Ended) → EndWriteOutcome ticket written (Ok how) mid after → FixWaits client page said after
    go (Ok done) ended.Cleaned h =
        let end = λ (c : ℕ). by c (WriteEnd ticket.serial ticket.page true) Cleaned in
        record { piece = end client ∷ e ∷ w.piece; goes_on = cleaned ticket.serial ticket.page ticket.image w.goes_on; grows = h ∙ ap (λ c. end c ∷ mid) t.asks.0 ∙ ap (λ es. end client ∷ es) (t.asks.1 ∙ ap (λ es. e ∷ es) w.grows) }
    go (Ok done) ended.StillDirty h =
        let end = λ (c : ℕ). by c (WriteEnd ticket.serial ticket.page true) StillDirty in
        record { piece = end client ∷ e ∷ w.piece; goes_on = still_dirty ticket.serial ticket.page ticket.image w.goes_on; grows = h ∙ ap (λ c. end c ∷ mid) t.asks.0 ∙ ap (λ es. end client ∷ es) (t.asks.1 ∙ ap (λ es. e ∷ es) w.grows) }
    go (Err fault) _ h = absurd h

pub unwritten_said : {A : Type 0} (writes : Writes A) (port kept : A) (client page : ℕ) (ticket : WriteTicket) (why : Refusal) (said mid after : Trail) → FixTurns client page (Ok (fixing.WriteFirst ticket)) said mid → WriteOutOutcome writes ticket (Err why) mid after port kept → FixSaid client page (Err why) said after
unwritten_said writes port kept client page ticket why said mid after t o = go o.written why o.ended
  where
    w : FixWaits client page said t.marked
    w = t.waits

    e : Entry
    e = by client (Fix page) (WriteFirst ticket.serial ticket.page ticket.image)

    grown : mid ≡ e ∷ (w.piece ++ said)
    grown = t.asks.1 ∙ ap (λ es. e ∷ es) w.grows

    go : (written : Result (Unit {0}) PortFault) (why : Refusal) → EndWriteOutcome ticket written (Err why) mid after → FixSaid client page (Err why) said after
    go (Err fault) refusal.WriteFailed h =
        let end = λ (c : ℕ). by c (WriteEnd ticket.serial ticket.page false) WriteFailed in
        record {
          piece = end client ∷ e ∷ w.piece;
          grows = h ∙ ap (λ c. end c ∷ mid) t.asks.0 ∙ ap (λ es. end client ∷ es) grown;
          of_row = (write_failed ticket.serial ticket.page ticket.image w.goes_on, tt);
          gives = gives_none client page w.piece w.goes_on;
        }
    go (Ok done) refusal.UnknownTicket h = record { piece = e ∷ w.piece; grows = h ∙ grown; of_row = (lost_write ticket.serial ticket.page ticket.image refl w.goes_on, tt); gives = gives_none client page w.piece w.goes_on }
    go (Err fault) refusal.UnknownTicket h = record { piece = e ∷ w.piece; grows = h ∙ grown; of_row = (lost_write ticket.serial ticket.page ticket.image refl w.goes_on, tt); gives = gives_none client page w.piece w.goes_on }
    go _ _ h = absurd h

-- no fix is refused for a pass
abbrev code : Outcome → ℕ
code accepted = 0
code (refused n) = n

not_of_pass : (client page : ℕ) (piece : Trail) (o : Outcome) → FixPiece session client page piece o → o ≡ refused 14 → ⊥
not_of_pass client page _ _ (hit pass i) is = let no = ap code is in omega (arith, no)
not_of_pass client page _ _ _ is = let no = ap code is in omega (arith, no)

pub no_pass_asked : (client page : ℕ) (why : Refusal) (said after : Trail) → FixSaid client page (Err why) said after → why ≡ refusal.UnknownPass → ⊥
no_pass_asked client page why said after said_so is = not_of_pass client page said_so.piece (refused (number_of why)) said_so.of_row.0 (ap (λ w. refused (number_of w)) is)
