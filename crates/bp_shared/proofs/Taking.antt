-- What a cut hands out goes on from what was handed out before.
use Rattle.std.proofs.Common.{◌≡◌, refl, sym, ap, subst, ◌∙◌, ◌+◌, ◌<◌, ◌^◌, ◌≤◌, ◌⊎◌, List, [], ◌∷◌, ◌++◌, reverse, length, arith}
use Rattle.std.proofs.lemmas.List.{length-reverse}
use Rattle.std.specs.declared.vec.Vec.{Vec}
use Rattle.bp_page.specs.declared.refusals.Refusal.{Refusal}
use Rattle.bp_page.specs.declared.refusals.Refusal.TheVariants as refusal
use Rattle.rtrb.specs.declared.producer.Producer.{Producer}
use Rattle.rtrb.specs.Ring.{sent}
use Rattle.bp_trail.specs.declared.entries.Entry.{Entry}
use Rattle.bp_trail.specs.Parameters.{Parameters}
use Rattle.bp_trail.specs.Trail.{Trail}
use Rattle.bp_trail.specs.Clock.{durable}
use Rattle.bp_trail.specs.Passes.{passes, tickets}
use Rattle.bp_trail.specs.Cuts.{LeadsOn}
use Rattle.bp_trail.specs.Legal.{Legal}
use Rattle.bp_trail.specs.Standing.{standing}
use Rattle.bp_core.specs.CoreView.{CoreView}
use Rattle.bp_core.specs.Outcomes.{Cuts, CutRefused}
use Rattle.bp_mark.specs.Marks.{MarkName, ReaderValue}
use Rattle.bp_shared.specs.Locked.{IsLocked}
use Rattle.bp_session_log.specs.Rings.{RingName, ring_of}
use Rattle.bp_shared.specs.Taking.{IsEmptied, TakerValue, after_pieces, IsHandedOut, ComesNext, GaveTooMany}

pub one_more : {A : Type 0} (before : Trail) (sent : List (Vec Entry A)) (piece : Vec Entry A) → after_pieces before (sent ++ piece ∷ []) ≡ reverse piece.items ++ after_pieces before sent
one_more before [] piece = refl
one_more before (p ∷ ps) piece = one_more (reverse p.items ++ before) ps piece

pub handed_out : {A B P : Type 0} (name : RingName) (before : Trail) (pieces now : Producer (Vec Entry A) B P)
    (piece : Vec Entry A) (old new : CoreView) → IsHandedOut name before pieces old
    → Cuts old piece.items new → ring_of now ≡ ring_of pieces → IsEmptied now → sent now ≡ sent pieces ++ piece ∷ []
    → IsHandedOut name before now new
handed_out name before pieces now piece old new is cut ring emptied more = record {
  ring_is = ring ∙ is.ring_is;
  emptied = emptied;
  pieces_are = ap (λ (n : CoreView). n.before) cut.is ∙ sym cut.whole
      ∙ ap (λ (b : Trail). reverse piece.items ++ b) is.pieces_are
      ∙ sym (one_more before (sent pieces) piece) ∙ ap (after_pieces before) (sym more);
}

-- the piece, in the words of its taker
pub comes_next : (c : Parameters) (had has : TakerValue) (mid new : CoreView) (entries : List Entry) → mid.parameters ≡ c
    → had.past ≡ mid.before → has.pieces ≡ had.pieces + 1 → has.past ≡ reverse entries ++ had.past → Cuts mid entries new → ComesNext c had entries has
comes_next c had has mid new entries same is more takes cut = record { one_more = more; joins = takes; leads_on = leads; legal = legal }
  where
    same_new : new.parameters ≡ c
    same_new = ap (λ (n : CoreView). n.parameters) cut.is ∙ same

    -- all that was entered was handed out
    whole : mid.past ≡ has.past
    whole = sym cut.whole ∙ ap (λ b. reverse entries ++ b) (sym is) ∙ sym takes

    before : new.before ≡ has.past
    before = ap (λ (n : CoreView). n.before) cut.is ∙ whole

    legal : Legal c has.past
    legal =
        subst (λ p. Legal p has.past) same_new
        (subst (Legal new.parameters) (ap (λ (n : CoreView). n.past) cut.is ∙ whole) cut.legal)

    leads : LeadsOn c (standing c had.past) (reverse entries) (standing c has.past)
    leads =
        subst (λ b. LeadsOn c (standing c b) (reverse entries) (standing c has.past)) (sym is)
        (subst (λ b. LeadsOn c (standing c mid.before) (reverse entries) (standing c b)) before
        (subst (λ p. LeadsOn c (standing c mid.before) (reverse entries) (standing p new.before)) same_new
        (subst (λ p. LeadsOn p (standing p mid.before) (reverse entries) (standing new.parameters new.before)) same
        cut.leads_on)))

pub still_locked : (mark : MarkName) (c : Parameters) (old new : CoreView) (reader : ReaderValue) (entries : List Entry) → IsLocked mark c old reader → Cuts old entries new
    → IsLocked mark c new reader
still_locked mark c old new reader entries is cut =
    record {
      reader_is = is.reader_is;
      parameters_are = ap (λ (n : CoreView). n.parameters) cut.is ∙ is.parameters_are;
      seen = subst (λ n. n ≤ reader.seen) (sym (ap (λ (n : CoreView). durable n.past) cut.is)) is.seen;
    }

-- a cut that is refused for the clock's sake changes nothing
pub not_cut : (old new : CoreView) (why : Refusal) → why ≡ refusal.ClockFull → CutRefused old why new → ((2 ^ 62 < passes old.past) ⊎ (2 ^ 62 < tickets old.past)) × (new ≡ old)
not_cut old new why is h = subst (λ w. CutRefused old w new) is h

-- why, in the words of its taker
pub gave_too_many : (c : Parameters) (had : TakerValue) (core : CoreView) (entries : List Entry) → core.parameters ≡ c → had.past ≡ core.before → reverse entries ++ core.before ≡ core.past → length entries ≤ core.parameters.room
    → Legal core.parameters core.past → (2 ^ 62 < passes core.past) ⊎ (2 ^ 62 < tickets core.past) → GaveTooMany c had
gave_too_many c had core entries same is whole fits legal many = record {
  past = core.past;
  piece = reverse entries;
  goes_on = sym whole ∙ ap (λ b. reverse entries ++ b) (sym is);
  fits = subst (λ (p : Parameters). length (reverse entries) ≤ p.room) same (omega (arith, length-reverse entries, fits));
  legal = subst (λ p. Legal p core.past) same legal;
  many = many;
}
