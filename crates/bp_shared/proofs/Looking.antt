-- A page that is read at once: its three entries in the trail, in the list and in the session's ring.
use Rattle.std.proofs.Common.{◌≡◌, ◌⊎◌, refl, sym, ap, subst, ◌∙◌, ℕ, ◌<◌, true, ◌||◌, List, [], ◌∷◌, ◌++◌, length, reverse, get_or, set, All, Some, Ok, Err, inl, inr}
use Rattle.std.proofs.lemmas.List.{reverse-reverse, append_cancel_right}
use Rattle.std.proofs.lemmas.List.Elements.{All-nil, All-cons}
use Rattle.bp_page.specs.declared.refusals.Refusal.{Refusal}
use Rattle.bp_page.specs.declared.refusals.Refusal.TheVariants as refusal
use Rattle.bp_trail.specs.declared.entries.Entry.{Entry}
use Rattle.bp_trail.specs.declared.entries.Call.TheVariants.{Fix, Read, Unfix}
use Rattle.bp_trail.specs.declared.entries.Reply.TheVariants.{Done, Hit, Content}
use Rattle.bp_trail.specs.Event.{Grant, grant}
use Rattle.bp_trail.specs.Legal.{is_out}
use Rattle.bp_trail.specs.Passes.{passes_out}
use Rattle.bp_trail.specs.Pieces.{by}
use Rattle.bp_trail.specs.Pieces.FixGoesOn.{begins}
use Rattle.bp_trail.specs.Pieces.FixPiece.{hit, no_room, no_memory}
use Rattle.bp_trail.specs.Trail.{Trail}
use Rattle.bp_core.specs.CoreView.{CoreView}
use Rattle.bp_core.specs.declared.passes.Pass.{Pass}
use Rattle.bp_core.specs.Work.{Reads, Writes}
use Rattle.bp_session_log.specs.Books.{AddsPiece, BookValue, unfixes}
use Rattle.bp_session_log.specs.Rings.{RingName, RingView}
use Rattle.bp_session_log.specs.Rings.GoBack.{none_taken, next_taken}
use Rattle.bp_session_log.specs.Turns.{ReadResidentTurn, and_read}
use Rattle.bp_shared.specs.Posting.{IsPosted, unfixed}
use Rattle.bp_shared.specs.Sessions.{DoesWorkSaid, LookSaid, PageReadSaid}
use Rattle.bp_shared.specs.Telling.{IsListOf}
use Rattle.bp_shared.proofs.Owning.{itself}
use Rattle.bp_shared.proofs.Posting.{posted_more, posted_one, came_back}
use Rattle.bp_shared.proofs.Telling.{Adds}

-- ---- what it says
pub looked : (client page offset : ℕ) (before : List ℕ) (g : Grant) (bytes : List ℕ) (said after : Trail) → ReadResidentTurn client page offset before (Ok (Some g)) bytes said after → LookSaid client page offset before (Ok true) bytes said after
looked client page offset before g bytes said after h = (g.serial, h.0, h.2, h.3)

pub look_refused : (client page offset : ℕ) (before : List ℕ) (why : Refusal) (bytes : List ℕ) (said after : Trail) → ReadResidentTurn client page offset before (Err why) bytes said after → LookSaid client page offset before (Err why) bytes said after
look_refused client page offset before refusal.TrailFull bytes said after h = h
look_refused client page offset before refusal.OutOfMemory bytes said after h = h
look_refused client page offset before _ bytes said after h = absurd h

-- as a call says it
pub look_said : (client page offset : ℕ) (before bytes : List ℕ) (said after : Trail) → LookSaid client page offset before (Ok true) bytes said after → PageReadSaid {A = Unit {0}} client page offset before (Ok tt) bytes said after
look_said client page offset before bytes said after h =
    let pass : Pass = record { client = client; page = page; serial = h.0 } in
    let fix = by client (Fix page) (Hit h.0) in
    inl (
      pass,
      fix ∷ said,
      (refl, refl, record { piece = fix ∷ []; grows = refl; of_row = hit h.0 begins; gives = λ s. refl }),
      (by client (Read h.0 page) (Content h.1) ∷ fix ∷ said, (h.1, (refl, refl), h.3), h.2),
    )

pub refusal_said : (client page offset : ℕ) (before : List ℕ) (why : Refusal) (bytes : List ℕ) (said after : Trail) → LookSaid client page offset before (Err why) bytes said after → PageReadSaid {A = Unit {0}} client page offset before (Err why) bytes said after
refusal_said client page offset before refusal.TrailFull bytes said after h = inr (refusal.TrailFull, refl, record { piece = []; grows = h.0; of_row = (no_room begins, tt); gives = λ s. refl }, h.1)
refusal_said client page offset before refusal.OutOfMemory bytes said after h = inr (refusal.OutOfMemory, refl, record { piece = []; grows = h.0; of_row = (no_memory begins, tt); gives = λ s. refl }, h.1)
refusal_said client page offset before _ bytes said after h = absurd h

-- it is refused for nothing else
pub look_refuses : (client page offset : ℕ) (before : List ℕ) (why : Refusal) (bytes : List ℕ) (said after : Trail) → LookSaid client page offset before (Err why) bytes said after → (why ≡ refusal.TrailFull) ⊎ (why ≡ refusal.OutOfMemory)
look_refuses client page offset before refusal.TrailFull bytes said after h = inl refl
look_refuses client page offset before refusal.OutOfMemory bytes said after h = inr refl
look_refuses client page offset before _ bytes said after h = absurd h

-- and the device has no work by it
module _ {A : Type 0} (reads : Reads A) (writes : Writes A) where
  pub look_work : (client page offset : ℕ) (before bytes : List ℕ) (said after : Trail) (port : A) → LookSaid client page offset before (Ok true) bytes said after → DoesWorkSaid reads writes said after port port
  look_work client page offset before bytes said after port h = record { piece = and_read client page h.0 h.1 []; grows = h.2; through = (port, (port, (port, refl, refl), refl), refl) }

  pub refusal_work : (client page offset : ℕ) (before : List ℕ) (why : Refusal) (bytes : List ℕ) (said after : Trail) (port : A) → LookSaid client page offset before (Err why) bytes said after → DoesWorkSaid reads writes said after port port
  refusal_work client page offset before refusal.TrailFull bytes said after port h = record { piece = []; grows = h.0; through = refl }
  refusal_work client page offset before refusal.OutOfMemory bytes said after port h = record { piece = []; grows = h.0; through = refl }
  refusal_work client page offset before _ bytes said after port h = absurd h

-- ---- which entries came
module _ (client page offset : ℕ) (before : List ℕ) (g : Grant) (bytes : List ℕ) (core left : CoreView) (book kept : BookValue) (a : AddsPiece core book left kept) (t : ReadResidentTurn client page offset before (Ok (Some g)) bytes book.said kept.said) where
  abbrev fix : Entry
  fix = by client (Fix page) (Hit g.serial)

  abbrev read : Entry
  read = by client (Read g.serial page) (Content t.0)

  abbrev unfix : Entry
  unfix = by client (Unfix g.serial page) Done

  piece_is : a.piece ≡ and_read client page g.serial t.0 []
  piece_is = append_cancel_right a.piece (and_read client page g.serial t.0 []) book.said (sym a.grows ∙ t.2)

  -- the trail ends in them
  pub look_ends : left.past ≡ and_read client page g.serial t.0 core.past
  look_ends = a.goes_on ∙ ap (λ es. es ++ core.past) piece_is

  pub look_adds : Adds client core.past book.said left.past kept.said
  look_adds = record {
    piece = a.piece;
    goes_on = a.goes_on;
    grows = a.grows;
    own = subst (All (λ (e : Entry). e.client ≡ client)) (sym piece_is)
        (All-cons (λ (e : Entry). e.client ≡ client) unfix (read ∷ fix ∷ []) refl (All-cons (λ (e : Entry). e.client ≡ client) read (fix ∷ []) refl (All-cons (λ (e : Entry). e.client ≡ client) fix [] refl (All-nil (λ (e : Entry). e.client ≡ client)))));
  }

  -- the pass went through the client's ring
  pub look_posted : (names : List RingName) (start : Trail) (rings : List RingView) (at : ℕ) (v d : RingView) → IsPosted names start rings core.past → at < length rings → at ≡ client → v.name ≡ (get_or rings at d).name → v.received ≡ (get_or rings at d).received ++ g ∷ []
      → IsPosted names start (set rings at v) left.past
  look_posted names start rings at v d p below is name received =
      let given = grant client page g.serial in
      let mid = read ∷ fix ∷ core.past in
      let more = posted_more names start rings core.past mid (read ∷ fix ∷ []) p refl refl in
      let out : is_out given (passes_out mid) ≡ true = ap (λ b. b || is_out given (passes_out core.past)) (itself given) in
      subst (IsPosted names start (set rings at v)) (sym (a.goes_on ∙ ap (λ es. es ++ core.past) piece_is))
      (posted_one names start rings mid (and_read client page g.serial t.0 core.past) at v d (given ∷ []) more below name (received ∙ ap (λ x. (get_or rings at d).received ++ x ∷ []) t.1) (next_taken given none_taken (sym is) out))

-- ---- in a section all that the session posted came out of its ring
pub all_came_out : (names : List RingName) (start : Trail) (rings : List RingView) (past : Trail) (client at : ℕ) (d : RingView) (said : Trail) (got went : List Grant) → IsPosted names start rings past → IsListOf start past client said → at < length rings → at ≡ client → got ≡ (get_or rings at d).received
    → went ≡ reverse (unfixes said) → got ≡ went
all_came_out names start rings past client at d said got went p l below is here sent =
    let back = came_back names start rings past at d p below in
    let since : back.since ≡ l.since = append_cancel_right back.since l.since start (sym back.goes_on ∙ l.goes_on) in
    let listed : unfixes said ≡ reverse (get_or rings at d).received =
    sym (ap unfixes l.theirs) ∙ ap (unfixed client) (sym since) ∙ ap (λ n. unfixed n back.since) (sym is) ∙ back.all in
    here ∙ sym (reverse-reverse (get_or rings at d).received) ∙ sym (ap reverse listed) ∙ sym sent
