-- What holds of a trail after one history that it may have holds after each.
use Rattle.std.proofs.Common.{◌≡◌, sym, ◌∙◌, ap, ℕ, true, List, [], ◌∷◌, ◌++◌, Option, Some, subst}
use Rattle.bp_trail.specs.declared.entries.Call.{Call}
use Rattle.bp_trail.specs.declared.entries.Call.TheVariants.{Read}
use Rattle.bp_trail.specs.declared.entries.Reply.{Reply}
use Rattle.bp_trail.specs.declared.entries.Reply.TheVariants.{Content}
use Rattle.bp_trail.specs.Parameters.{Parameters}
use Rattle.bp_trail.specs.Lists.{EachEntry}
use Rattle.bp_trail.specs.Trail.{Trail}
use Rattle.bp_trail.specs.Passes.{passes_out}
use Rattle.bp_trail.specs.Places.{resident}
use Rattle.bp_trail.specs.Images.{held}
use Rattle.bp_trail.specs.Legal.{Legal}
use Rattle.bp_trail.specs.Device.{HonestOfSince}
use Rattle.bp_trail.specs.Standing.{Standing, standing}
use Rattle.bp_trail.specs.Cuts.{Precedes, LeadsOn, Piece, Chained, joined, AnswersBy, ReadsSince, AfterEach}
use Rattle.bp_trail.proofs.Events.{Event, event-of}
use Rattle.bp_trail.proofs.Events.Event.{page_read}
use Rattle.bp_trail.proofs.Places.{places, out-of_page}
use Rattle.bp_trail.proofs.Standings.{same-from-standing, standing-from-same}
use Rattle.bp_trail.proofs.StandingsAlike.{follows}
use Rattle.bp_trail.proofs.Since.{legal-before}
use Rattle.bp_trail.proofs.Content.{held-plain-since}

-- what may follow one history may follow each of the same standing, and leads to the same standing
pub standing-decides : (c : Parameters) (trail h k : Trail) → Legal c (trail ++ h) → Legal c k → standing c h ≡ standing c k → Precedes c (standing c (trail ++ h)) (trail ++ k)
standing-decides c trail h k l m e =
    let f = follows c trail h k l m (same-from-standing c h k (legal-before c trail h l) m e) in
    record { legal = f.legal; leads_to = sym (standing-from-same c (trail ++ h) (trail ++ k) f.standing) }

pub leads-on : (c : Parameters) (trail before : Trail) → Legal c (trail ++ before) → LeadsOn c (standing c before) trail (standing c (trail ++ before))
leads-on c trail before l h p = standing-decides c trail before h l p.legal (sym p.leads_to)

pub legal-after-each : (c : Parameters) (trail before : Trail) → Legal c (trail ++ before) → AfterEach c (standing c before) trail (Legal c)
legal-after-each c trail before l h p = (leads-on c trail before l h p).legal

-- pieces that chain are one legal trail, which leads where the last one led
pub pieces-joined : (c : Parameters) (pieces : List Piece) (next : Standing) → Chained c pieces next → Precedes c next (joined pieces)
pieces-joined c [] next h = record { legal = tt; leads_to = sym h }
pieces-joined c (piece ∷ older) next h = h.here (joined older) (pieces-joined c older piece.opening h.before)

read-held : (c : Parameters) (s : Trail) (who : ℕ) → Legal c s → (call : Call) (reply : Reply) → Event c s who call reply → (n p : ℕ) (image : List ℕ) → call ≡ Read n p → reply ≡ Content image
    → (resident s p ≡ true) × (image ≡ held s p)
read-held c s who l _ _ (page_read k q o) n p image e f =
    let x : q ≡ p = cc in
    let y : held s q ≡ image = cc in
    (subst (λ z. resident s z ≡ true) x ((places c s l).pinned q (out-of_page who q k (passes_out s) o)), sym y ∙ ap (held s) x)
read-held c s who l _ _ _ n p image e f = cc

pub reads-since : (c : Parameters) (m : ℕ → List ℕ) (known : ℕ → Option (List ℕ)) (p : ℕ) (h s : Trail) → Legal c (s ++ h) → (resident h p ≡ true → m p ≡ held h p)
    → ((image : List ℕ) → known p ≡ Some image → image ≡ m p) → HonestOfSince known p s → EachEntry (AnswersBy m known p) s
reads-since c m known p h [] l o k d = tt
reads-since c m known p h (e ∷ s) l o k d = record {
  here = λ n image i j. let r = read-held c (s ++ h) e.client l.before e.call e.reply (event-of c (s ++ h) e l.here) n p image i j in r.1 ∙ held-plain-since c m known h s p l.before o k d.before r.0;
  before = reads-since c m known p h s l.before o k d.before;
}

pub reads-after-each : (c : Parameters) (trail before : Trail) → Legal c (trail ++ before) → ReadsSince c (standing c before) trail
reads-after-each c trail before l h leads m known p o k d = reads-since c m known p h trail (legal-after-each c trail before l h leads) o k d
