-- A discard, turn by turn: each is one event, with no look at the mark.
use Rattle.std.proofs.Common.{◌≡◌, ◌≢◌, refl, ap, ◌∙◌, ℕ, true, false, [], ◌∷◌, ◌++◌, None, Ok, Err}
use Rattle.bp_page.specs.declared.refusals.Refusal.{Refusal}
use Rattle.bp_page.specs.declared.refusals.Refusal.TheVariants as refusal
use Rattle.bp_trail.specs.declared.entries.Call.TheVariants.{Discard}
use Rattle.bp_trail.specs.declared.entries.Reply.TheVariants.{Discarded as Left, Absent, Pinned, Busy}
use Rattle.bp_trail.specs.declared.ends.Discarded.{Discarded}
use Rattle.bp_trail.specs.declared.ends.Discarded.TheVariants as how
use Rattle.bp_trail.specs.Trail.{Trail}
use Rattle.bp_trail.specs.Pieces.{by, DiscardGoesOn}
use Rattle.bp_trail.specs.Pieces.Manner.{session}
use Rattle.bp_trail.specs.Pieces.DiscardGoesOn.{begins, waited}
use Rattle.bp_trail.specs.Pieces.DiscardPiece.{discarded, absent, pinned, no_room, no_memory}
use Rattle.bp_core.specs.Added.{Gives}
use Rattle.bp_session_log.specs.Turns.{DiscardTurn}
use Rattle.bp_shared.specs.Sessions.{DiscardSaid}

-- waits so far, after which the discard goes on
pub record DiscardWaits (client page : ℕ) (said after : Trail) : Type 0 where
  pub piece : Trail
  pub goes_on : DiscardGoesOn session client page piece
  pub grows : after ≡ piece ++ said

gives_none : (client page : ℕ) (piece : Trail) → DiscardGoesOn session client page piece → Gives piece None
gives_none client page _ begins = λ said. refl
gives_none client page _ (waited i p) = gives_none client page _ p

pub waits_none : (client page : ℕ) (said : Trail) → DiscardWaits client page said said
waits_none client page said = record { piece = []; goes_on = begins; grows = refl }

-- one turn more
pub busy_waits : (client page : ℕ) (said mid after : Trail) → DiscardWaits client page said mid → DiscardTurn client page (Err refusal.Busy) mid after → DiscardWaits client page said after
busy_waits client page said mid after w t =
    let e = by client (Discard page) Busy in
    record { piece = e ∷ w.piece; goes_on = waited refl w.goes_on; grows = t.1 ∙ ap (λ es. e ∷ es) w.grows }

-- the last turn
pub left_said : (client page : ℕ) (answer : Discarded) (said mid after : Trail) → DiscardWaits client page said mid → DiscardTurn client page (Ok answer) mid after → DiscardSaid client page (Ok answer) said after
left_said client page how.Left said mid after w t =
    let e = by client (Discard page) Left in
    record { piece = e ∷ w.piece; grows = t ∙ ap (λ es. e ∷ es) w.grows; of_row = (discarded w.goes_on, refl); gives = gives_none client page w.piece w.goes_on }
left_said client page how.Absent said mid after w t =
    let e = by client (Discard page) Absent in
    record { piece = e ∷ w.piece; grows = t ∙ ap (λ es. e ∷ es) w.grows; of_row = (absent w.goes_on, refl); gives = gives_none client page w.piece w.goes_on }

pub refused_said : (client page : ℕ) (why : Refusal) (said mid after : Trail) → why ≢ refusal.Busy → DiscardWaits client page said mid → DiscardTurn client page (Err why) mid after → DiscardSaid client page (Err why) said after
refused_said client page refusal.Busy said mid after not w t = absurd (not refl)
refused_said client page refusal.Pinned said mid after not w t =
    let e = by client (Discard page) Pinned in
    record { piece = e ∷ w.piece; grows = t.1 ∙ ap (λ es. e ∷ es) w.grows; of_row = pinned w.goes_on; gives = gives_none client page w.piece w.goes_on }
refused_said client page refusal.TrailFull said mid after not w t = record { piece = w.piece; grows = t.1 ∙ w.grows; of_row = no_room w.goes_on; gives = gives_none client page w.piece w.goes_on }
refused_said client page refusal.OutOfMemory said mid after not w t = record { piece = w.piece; grows = t.1 ∙ w.grows; of_row = no_memory w.goes_on; gives = gives_none client page w.piece w.goes_on }
refused_said client page _ said mid after not w t = absurd (let no : false ≡ true = t.0 in cc)
