-- The page LSN of a write-out, from its begin on.
use Rattle.std.proofs.Common.{◌≡◌, refl, ap, subst, ◌∙◌, ℕ, true, false, List, [], ◌∷◌, ◌++◌, Result, Ok, Err, inl, inr}
use Rattle.bp_page.specs.declared.refusals.Refusal.{Refusal}
use Rattle.bp_page.specs.declared.refusals.PortFault.{PortFault}
use Rattle.bp_trail.specs.declared.entries.Call.{Call}
use Rattle.bp_trail.specs.declared.entries.Call.TheVariants.{Mark, Fix, Flush, ReadEnd, WriteEnd}
use Rattle.bp_trail.specs.declared.entries.Reply.{Reply}
use Rattle.bp_trail.specs.declared.entries.Reply.TheVariants.{Done, WriteFirst}
use Rattle.bp_trail.specs.Parameters.{Parameters}
use Rattle.bp_trail.specs.Trail.{Trail}
use Rattle.bp_trail.specs.Pieces.{by}
use Rattle.bp_trail.specs.Saved.{page_lsn}
use Rattle.bp_trail.specs.declared.ends.Ended.{Ended}
use Rattle.bp_core.specs.CoreView.{CoreView}
use Rattle.bp_core.specs.Outcomes.{Adds}
use Rattle.bp_core.specs.Work.{Reads, Writes, Works, WorksThrough}
use Rattle.bp_core.specs.declared.passes.WriteTicket.{WriteTicket}
use Rattle.bp_session_log.specs.declared.pending.Fix.{Fix as Fixing}
use Rattle.bp_session_log.specs.declared.pending.Fix.TheVariants as fixing
use Rattle.bp_session_log.specs.declared.pending.Flush.{Flush as Flushing}
use Rattle.bp_session_log.specs.declared.pending.Flush.TheVariants as flushing
use Rattle.bp_session_log.specs.Causes.{Looks, AsksFix, AsksFlush, FixStep, FlushStep, not_refused}
use Rattle.bp_session_log.specs.Turns.{WriteOutOutcome}
use Rattle.bp_shared.specs.Keeping.{MayAct, Saw}
use Rattle.bp_shared.specs.Sessions.{SessionValue, WithSomeLsn, DoesWorkSaid}
use Rattle.bp_shared.specs.Telling.{GoesOnFrom}
use Rattle.bp_shared.specs.Writing.{Began, FixBegins, FlushBegins, WithLsnSeen}
use Rattle.bp_shared.proofs.Acting.{seen_on}

stays : (past : Trail) → GoesOnFrom past past
stays past = ([], refl)

pub acts_on : (c : Parameters) (start : Trail) (old new : SessionValue) → MayAct c start old new → GoesOnFrom old.seen new.seen
acts_on c start old new (inl i) = ([], i.seen)
acts_on c start old new (inr a) = a.goes_on

-- ---- a begin in what was seen
on : (client : ℕ) (from mid seen later : Trail) (page : ℕ) (image : List ℕ) (lsn : ℕ) → GoesOnFrom from mid → Began client mid seen page image lsn → GoesOnFrom seen later → Began client from later page image lsn
on client from mid seen later page image lsn a b c = record {
  call = b.call;
  ticket = b.ticket;
  before = b.before;
  since = seen_on from mid b.before a b.since;
  within = seen_on (by client b.call (WriteFirst b.ticket page image) ∷ b.before) seen later b.within c;
  lsn_is = b.lsn_is;
}

begins : (client : ℕ) (call : Call) (from seen : Trail) (core after : CoreView) (ticket : WriteTicket) → GoesOnFrom from core.past → ticket.lsn ≡ page_lsn core.past ticket.page → Adds core client call (WriteFirst ticket.serial ticket.page ticket.image) after → seen ≡ after.past
    → Began client from seen ticket.page ticket.image ticket.lsn
begins client call from seen core after ticket on lsn adds is = record {
  call = call;
  ticket = ticket.serial;
  before = core.past;
  since = on;
  within = ([], is ∙ ap (λ (v : CoreView). v.past) adds.is);
  lsn_is = lsn;
}

fix_begins : (client page : ℕ) (from seen : Trail) (core after : CoreView) (answer : Result Fixing Refusal) → GoesOnFrom from core.past → AsksFix client page answer core after → seen ≡ after.past → FixBegins client from answer seen
fix_begins client page from seen core after (Ok (fixing.WriteFirst ticket)) on asks is = begins client (Fix page) from seen core after ticket on asks.2 asks.3 is
fix_begins client page from seen core after (Ok (fixing.Hit pass)) on asks is = tt
fix_begins client page from seen core after (Ok (fixing.Load ticket evicted)) on asks is = tt
fix_begins client page from seen core after (Err why) on asks is = tt

-- after a look
look_on : (client durable : ℕ) (core looked : CoreView) → Looks client durable core not_refused looked → GoesOnFrom core.past looked.past
look_on client durable core looked (inl h) = ([], ap (λ (v : CoreView). v.past) h.2)
look_on client durable core looked (inr h) = (by client (Mark durable) Done ∷ [], ap (λ (v : CoreView). v.past) h.1.1.is)

pub fix_saw : (client page : ℕ) (answer : Result Fixing Refusal) (old new : SessionValue) → Saw (λ durable. FixStep client page durable answer) old new → FixBegins client old.seen answer new.seen
fix_saw client page (Err why) old new s = tt
fix_saw client page (Ok how) old new s = go s.event
  where
    go : FixStep client page s.durable (Ok how) s.core s.after → FixBegins client old.seen (Ok how) new.seen
    go (inl h) = absurd (let no : false ≡ true = h.0 in cc)
    go (inr h) = fix_begins client page old.seen new.seen h.0 s.after (Ok how) (seen_on old.seen s.core.past h.0.past s.goes_on (look_on client s.durable s.core h.0 h.1)) h.2 s.seen_is

flush_begins : (client page : ℕ) (from seen : Trail) (core after : CoreView) (answer : Result Flushing Refusal) → GoesOnFrom from core.past → AsksFlush client page answer core after → seen ≡ after.past → FlushBegins client from answer seen
flush_begins client page from seen core after (Ok (flushing.WriteFirst ticket)) on asks is = begins client (Flush page) from seen core after ticket on asks.3 asks.4 is
flush_begins client page from seen core after (Ok flushing.Clean) on asks is = tt
flush_begins client page from seen core after (Ok flushing.Absent) on asks is = tt
flush_begins client page from seen core after (Err why) on asks is = tt

pub flush_saw : (client page : ℕ) (answer : Result Flushing Refusal) (old new : SessionValue) → Saw (λ durable. FlushStep client page durable answer) old new → FlushBegins client old.seen answer new.seen
flush_saw client page (Err why) old new s = tt
flush_saw client page (Ok how) old new s = go s.event
  where
    go : FlushStep client page s.durable (Ok how) s.core s.after → FlushBegins client old.seen (Ok how) new.seen
    go (inl h) = absurd (let no : false ≡ true = h.0 in cc)
    go (inr h) = flush_begins client page old.seen new.seen h.0 s.after (Ok how) (seen_on old.seen s.core.past h.0.past s.goes_on (look_on client s.durable s.core h.0 h.1)) h.2 s.seen_is

-- ---- the same work, as another relation has it
module _ {A : Type 0} (reads : Reads A) (ws vs : Writes A) (weak : (port : A) (page : ℕ) (image : List ℕ) (lsn : ℕ) (written : Result (Unit {0}) PortFault) (after : A) → ws port page image lsn written after → vs port page image lsn written after) where
  one : (past : Trail) (call : Call) (reply : Reply) (port after : A) → Works reads (WithSomeLsn ws) past call reply port after → Works reads (WithSomeLsn vs) past call reply port after
  one past (ReadEnd ticket page image) reply port after w = w
  one past (WriteEnd ticket page good) reply port after w = record { image = w.image; began = w.began; written = w.written; gave = (w.gave.0, weak port page w.image w.gave.0 w.written after w.gave.1); good_is = w.good_is }
  one past _ reply port after w = w

  through : (past piece : Trail) (port after : A) → WorksThrough reads (WithSomeLsn ws) past piece port after → WorksThrough reads (WithSomeLsn vs) past piece port after
  through past [] port after w = w
  through past (e ∷ older) port after w = (w.0, through past older port w.0 w.1, one (older ++ past) e.call e.reply w.0 after w.2)

  work_as : (said after : Trail) (port kept : A) → DoesWorkSaid reads ws said after port kept → DoesWorkSaid reads vs said after port kept
  work_as said after port kept w = record { piece = w.piece; grows = w.grows; through = through said w.piece port kept w.through }

module _ {A : Type 0} (reads : Reads A) (writes : Writes A) where
  -- what one saw later has it too
  pub work_seen : (old mid new : SessionValue) (said after : Trail) (port kept : A) → GoesOnFrom mid.seen new.seen → DoesWorkSaid reads (WithLsnSeen old mid writes) said after port kept → DoesWorkSaid reads (WithLsnSeen old new writes) said after port kept
  work_seen old mid new said after port kept more w =
      work_as reads (WithLsnSeen old mid writes) (WithLsnSeen old new writes)
      (λ port page image lsn written after h. (on old.client old.seen old.seen mid.seen new.seen page image lsn (stays old.seen) h.0 more, h.1)) said after port kept w

  -- and so has what one saw from earlier on
  pub work_since : (old mid new : SessionValue) (said after : Trail) (port kept : A) → mid.client ≡ old.client → GoesOnFrom old.seen mid.seen → DoesWorkSaid reads (WithLsnSeen mid new writes) said after port kept → DoesWorkSaid reads (WithLsnSeen old new writes) said after port kept
  work_since old mid new said after port kept client more w =
      work_as reads (WithLsnSeen mid new writes) (WithLsnSeen old new writes)
      (λ port page image lsn written after h. (on old.client old.seen mid.seen new.seen new.seen page image lsn more (subst (λ n. Began n mid.seen new.seen page image lsn) client h.0) (stays new.seen), h.1)) said after port kept w

  -- whatever the LSN was
  pub work_of_some : (old new : SessionValue) (said after : Trail) (port kept : A) → DoesWorkSaid reads (WithLsnSeen old new writes) said after port kept → DoesWorkSaid reads writes said after port kept
  work_of_some old new said after port kept w = work_as reads (WithLsnSeen old new writes) writes (λ port page image lsn written after h. h.1) said after port kept w

-- the write of a write-out whose begin was seen
module _ {A : Type 0} (writes : Writes A) where
  pub wrote_seen : (old mid now new : SessionValue) (ticket : WriteTicket) (answer : Result Ended Refusal) (said after : Trail) (port kept : A) → mid.client ≡ old.client → GoesOnFrom old.seen mid.seen → Began mid.client mid.seen now.seen ticket.page ticket.image ticket.lsn → GoesOnFrom now.seen new.seen
      → WriteOutOutcome writes ticket answer said after port kept → WriteOutOutcome (WithLsnSeen old new writes) ticket answer said after port kept
  wrote_seen old mid now new ticket answer said after port kept client more began later o = record {
    written = o.written;
    gave = (on old.client old.seen mid.seen now.seen new.seen ticket.page ticket.image ticket.lsn more (subst (λ n. Began n mid.seen now.seen ticket.page ticket.image ticket.lsn) client began) later, o.gave);
    ended = o.ended;
  }
