-- One event in the core and in a client's list.
use Rattle.std.proofs.Common.{◌≡◌, ◌⊎◌, refl, sym, ap, subst, ◌∙◌, ℕ, true, false, [], ◌∷◌, ◌++◌, append_assoc, length, arith, All, Option, Some, None, Result, Ok, Err, inl, inr}
use Rattle.std.proofs.lemmas.List.Elements.{All-nil, All-cons, All-append}
use Rattle.bp_trail.specs.declared.entries.Call.{Call}
use Rattle.bp_trail.specs.declared.entries.Call.TheVariants.{Mark, Fix, Flush, Unfix}
use Rattle.bp_trail.specs.declared.entries.Reply.{Reply}
use Rattle.bp_trail.specs.declared.entries.Reply.TheVariants.{Done, Hit, Load, WriteFirst, Clean, Absent}
use Rattle.bp_trail.specs.declared.entries.Entry.{Entry}
use Rattle.bp_page.specs.declared.refusals.Refusal.{Refusal}
use Rattle.bp_page.specs.declared.refusals.Refusal.TheVariants as refusal
use Rattle.bp_session_log.specs.declared.pending.Fix.{Fix as Fixing}
use Rattle.bp_session_log.specs.declared.pending.Fix.TheVariants as fixing
use Rattle.bp_session_log.specs.declared.pending.Flush.{Flush as Flushing}
use Rattle.bp_session_log.specs.declared.pending.Flush.TheVariants as flushing
use Rattle.bp_trail.specs.Trail.{Trail}
use Rattle.bp_trail.specs.Pieces.{by}
use Rattle.bp_core.specs.CoreView.{CoreView, with_entry}
use Rattle.bp_session_log.specs.Books.{BookValue, SameOwner, Tells, Alike, AddsAlike, plain_call, unfixes, all_held}
use Rattle.bp_session_log.specs.Events.{Makes}
use Rattle.bp_session_log.specs.Turns.{and_told, refusal_reply, LookOutcome, AskFixOutcome, AskFlushOutcome, FixTurn, FlushTurn}
use Rattle.bp_session_log.proofs.Asking.{core_told}

-- no pass goes back by an entry whose call gives none back
unfixes_same : (client : ℕ) (call : Call) (reply : Reply) (said : Trail) → plain_call call ≡ true → unfixes (by client call reply ∷ said) ≡ unfixes said
unfixes_same client (Unfix n p) reply said h = absurd (let no : false ≡ true = h in cc)
unfixes_same client _ reply said h = refl

held_same : (client : ℕ) (call : Call) (reply : Reply) (said : Trail) → plain_call call ≡ true → all_held (by client call reply ∷ said) ≡ all_held said
held_same client (Unfix n p) reply said h = absurd (let no : false ≡ true = h in cc)
held_same client _ reply said h = refl

makes : (core left : CoreView) (book kept : BookValue) (call : Call) (reply : Reply) → SameOwner book kept → kept.said ≡ by book.client call reply ∷ book.said → left ≡ with_entry core book.client call reply → Makes core book left kept
makes core left book kept call reply owner grows is =
    let e = by book.client call reply in
    record { owner = owner; piece = e ∷ []; is = is; grows = grows; own = All-cons (λ x. x.client ≡ book.client) e [] refl (All-nil (λ x. x.client ≡ book.client)) }

-- one entry more
pub makes_one : (core left : CoreView) (book kept : BookValue) (call : Call) (reply : Reply) → plain_call call ≡ true → Tells book call reply kept → left ≡ with_entry core book.client call reply → Makes core book left kept
makes_one core left book kept call reply plain t is =
    makes core left book kept call reply
    (record {
      client = t.client;
      size = t.size;
      before = t.before;
      unfixes_are = ap unfixes t.said ∙ unfixes_same book.client call reply book.said plain;
      still_held = ap all_held t.said ∙ held_same book.client call reply book.said plain;
    })
    t.said is

-- a refusal that may be the reply of one
pub makes_told : (core left : CoreView) (book kept : BookValue) (call : Call) (o : Option Reply) → SameOwner book kept → kept.said ≡ and_told book.client call o book.said → left ≡ core_told core book.client call o → Makes core book left kept
makes_told core left book kept call None owner grows is = record { owner = owner; piece = []; is = is; grows = grows; own = All-nil (λ x. x.client ≡ book.client) }
makes_told core left book kept call (Some reply) owner grows is = makes core left book kept call reply owner grows is

-- ---- events by what the list got
-- a list got one entry of the client's, or none
abbrev pub OneMore : ℕ → Trail → Trail → Type 0
OneMore client said after = (after ≡ said) ⊎ ((call : Call) × (reply : Reply) × (after ≡ by client call reply ∷ said))

pub not_longer : (e : Entry) (es : Trail) → es ≡ e ∷ es → ⊥
not_longer e es is = let long = ap length is in absurd (omega arith)

abbrev pub first_client : ℕ → Trail → ℕ
first_client d [] = d
first_client d (e ∷ es) = e.client

pub look_one : {A : Type 0} (client seen : ℕ) (core : CoreView) (answer : Result A Refusal) (said after : Trail) → LookOutcome client core seen answer said after → OneMore client said after
look_one client seen core (Ok done) said after (inl h) = inl h.1
look_one client seen core (Ok done) said after (inr h) = inr (Mark seen, Done, h.1)
look_one client seen core (Err refusal.TrailFull) said after h = inl h.1
look_one client seen core (Err _) said after h = absurd h

pub and_told_one : (client : ℕ) (call : Call) (reply : Option Reply) (said after : Trail) → after ≡ and_told client call reply said → OneMore client said after
and_told_one client call None said after is = inl is
and_told_one client call (Some reply) said after is = inr (call, reply, is)

pub ask_fix_one : (client page : ℕ) (answer : Result Fixing Refusal) (said after : Trail) → AskFixOutcome client page answer said after → OneMore client said after
ask_fix_one client page (Ok (fixing.Hit pass)) said after h = inr (Fix page, Hit pass.serial, h.2)
ask_fix_one client page (Ok (fixing.Load ticket evicted)) said after h = inr (Fix page, Load ticket.serial evicted, h.2)
ask_fix_one client page (Ok (fixing.WriteFirst ticket)) said after h = inr (Fix page, WriteFirst ticket.serial ticket.page ticket.image, h.1)
ask_fix_one client page (Err why) said after h = and_told_one client (Fix page) (refusal_reply why) said after h.1

pub ask_flush_one : (client page : ℕ) (answer : Result Flushing Refusal) (said after : Trail) → AskFlushOutcome client page answer said after → OneMore client said after
ask_flush_one client page (Ok flushing.Clean) said after h = inr (Flush page, Clean, h)
ask_flush_one client page (Ok flushing.Absent) said after h = inr (Flush page, Absent, h)
ask_flush_one client page (Ok (flushing.WriteFirst ticket)) said after h = inr (Flush page, WriteFirst ticket.serial ticket.page ticket.image, h.2)
ask_flush_one client page (Err why) said after h = and_told_one client (Flush page) (refusal_reply why) said after h.1

pub makes_alike : (core left : CoreView) (book kept : BookValue) → AddsAlike core book left kept → OneMore book.client book.said kept.said → Makes core book left kept
makes_alike core left book kept adds more = go adds.alike more
  where
    go : Alike core book.said left kept.said → OneMore book.client book.said kept.said → Makes core book left kept
    go (inl a) more = record { owner = adds.owner; piece = []; is = a.0; grows = a.1; own = All-nil (λ e. e.client ≡ book.client) }
    go (inr a) (inl same) = absurd (not_longer a.0 book.said (sym same ∙ a.2))
    go (inr a) (inr more) = record {
      owner = adds.owner;
      piece = a.0 ∷ [];
      is = a.1;
      grows = a.2;
      own = All-cons (λ e. e.client ≡ book.client) a.0 [] (ap (first_client book.client) (sym a.2 ∙ more.2)) (All-nil (λ e. e.client ≡ book.client));
    }

-- one event after another
pub makes_both : (core mid left : CoreView) (book now kept : BookValue) → Makes core book mid now → Makes mid now left kept → Makes core book left kept
makes_both core mid left book now kept a b = record {
  owner = record {
    client = b.owner.client ∙ a.owner.client;
    size = b.owner.size ∙ a.owner.size;
    before = b.owner.before ∙ a.owner.before;
    unfixes_are = b.owner.unfixes_are ∙ a.owner.unfixes_are;
    still_held = b.owner.still_held ∙ a.owner.still_held;
  };
  piece = b.piece ++ a.piece;
  is = b.is ∙ ap (λ (v : CoreView). record v { past = b.piece ++ v.past }) a.is ∙ ap (λ es. record core { past = es }) (sym (append_assoc b.piece a.piece core.past));
  grows = b.grows ∙ ap (λ es. b.piece ++ es) a.grows ∙ sym (append_assoc b.piece a.piece book.said);
  own = All-append (λ e. e.client ≡ book.client) b.piece a.piece (subst (λ n. All (λ (e : Entry). e.client ≡ n) b.piece) a.owner.client b.own) a.own;
}

-- a turn whose look was refused
pub fix_not_looked : (client page seen : ℕ) (core : CoreView) (why : Refusal) (said after : Trail) → LookOutcome {A = Unit {0}} client core seen (Err why) said after → FixTurn client page (Err why) said after
fix_not_looked client page seen core refusal.TrailFull said after h = record { marked = said; marks = inl refl; asks = (refl, h.1) }
fix_not_looked client page seen core _ said after h = absurd h

pub flush_not_looked : (client page seen : ℕ) (core : CoreView) (why : Refusal) (said after : Trail) → LookOutcome {A = Unit {0}} client core seen (Err why) said after → FlushTurn client page (Err why) said after
flush_not_looked client page seen core refusal.TrailFull said after h = record { marked = said; marks = inl refl; asks = (refl, h.1) }
flush_not_looked client page seen core _ said after h = absurd h
