-- The board, the trail and a client's list tell the same after each section.
use Rattle.std.proofs.Common.{◌≡◌, ◌≢◌, ◌⊎◌, refl, sym, ap, subst, ◌∙◌, ℕ, zero, suc, Bool, true, false, cond, List, [], ◌∷◌, ◌++◌, length, map, reverse, get_or, set, All, append_assoc, arith, Option, Some, None, Result, Ok, Err, inl, inr}
use Rattle.std.proofs.lemmas.List.{reverse-append, append_cancel_right, map-append, append-nil, get_or-set_same, get_or-set_other, length-append, length-reverse, nil_from_length}
use Rattle.std.proofs.lemmas.List.Elements.{filter-append, filter_map-append, All-nil, All-cons, All-head, All-tail, All-append}
use native.Mathlib.Decide.{ℕ_discrete}
use Rattle.bp_page.specs.declared.refusals.Refusal.{Refusal}
use Rattle.bp_page.specs.declared.refusals.Refusal.TheVariants as refusal
use Rattle.bp_page.specs.declared.refusals.PortFault.{PortFault}
use Rattle.bp_trail.specs.declared.entries.Call.{Call}
use Rattle.bp_trail.specs.declared.entries.Call.TheVariants.{Mark, Fix, ReadEnd, WriteEnd, Flush, Discard, Tick, Read, Write, Purge, Unfix}
use Rattle.bp_trail.specs.declared.entries.Reply.{Reply}
use Rattle.bp_trail.specs.declared.entries.Reply.TheVariants.{Done, Hit, Load, WriteFirst, Fixed, ReadFailed, WrongPage, WriteFailed, Clean, Absent, Content, Forgot}
use Rattle.bp_trail.specs.declared.entries.Entry.{Entry}
use Rattle.bp_trail.specs.Event.{Grant}
use Rattle.bp_trail.specs.Trail.{Trail}
use Rattle.bp_trail.specs.HeldPasses.{unfix_of}
use Rattle.bp_trail.specs.Pieces.{by}
use Rattle.bp_core.specs.declared.passes.Pass.{Pass}
use Rattle.bp_core.specs.declared.passes.ReadTicket.{ReadTicket}
use Rattle.bp_core.specs.declared.passes.WriteTicket.{WriteTicket}
use Rattle.bp_trail.specs.declared.ends.Ended.{Ended}
use Rattle.bp_trail.specs.declared.ends.Discarded.{Discarded}
use Rattle.bp_core.specs.CoreView.{CoreView}
use Rattle.bp_core.specs.Outcomes.{Cuts}
use Rattle.bp_trail.specs.Ends.{ended_reply, discarded_reply}
use Rattle.bp_trail.specs.Clients.{of_client}
use Rattle.bp_trail.proofs.OfClient.{of_client-append, of_client-hit, of_client-miss}
use Rattle.bp_session_log.specs.Boards.{Opens, Writes}
use Rattle.bp_session_log.specs.declared.boards.Board.{Board}
use Rattle.bp_session_log.specs.declared.boards.Line.{Line}
use Rattle.bp_session_log.specs.Rings.{GoBack, RingView, DrainsRings}
use Rattle.bp_session_log.specs.Rings.GoBack.{none_taken, next_taken}
use Rattle.bp_session_log.specs.Rings.DrainsRings.{none_left, next_ring}
use Rattle.bp_session_log.specs.Events.{Makes}
use Rattle.bp_session_log.proofs.Making.{OneMore, not_longer, first_client}
use Rattle.bp_session_log.specs.Books.{BookValue, Alike, Tells, OwesRead, OwesWrite, pass_unfixed, unfixes}
use Rattle.bp_session_log.specs.declared.pending.Fix.{Fix as Fixing}
use Rattle.bp_session_log.specs.declared.pending.Fix.TheVariants as fixing
use Rattle.bp_session_log.specs.declared.pending.Flush.{Flush as Flushing}
use Rattle.bp_session_log.specs.declared.pending.Flush.TheVariants as flushing
use Rattle.bp_session_log.specs.Turns.{LookOutcome, refusal_reply, and_told, AskFixOutcome, AskFlushOutcome, ReadSaid, ReadIntoSaid, WriteSaid, EndReadOutcome, EndWriteOutcome}
use Rattle.bp_shared.specs.Posting.{unfixed, IsUnfixedBy, TakesBack}
use Rattle.bp_shared.specs.Telling.{is_told, told, IsLineOf, IsShown, IsToldBy, IsListOf, IsBlank, GoesOnFrom, AreEarlier}

-- ---- what is told, part by part
told-append : (xs ys : Trail) → told (xs ++ ys) ≡ told xs ++ told ys
told-append xs ys = filter-append (λ e. is_told e.call) xs ys

-- ---- draining adds unfixes alone
pub record AddsUnfixes (start past : Trail) : Type 0 where
  pub passes : List Grant
  pub goes_on : past ≡ map unfix_of passes ++ start

no_unfixes : (past : Trail) → AddsUnfixes past past
no_unfixes past = record { passes = []; goes_on = refl }

more_unfixes : (start mid past : Trail) → AddsUnfixes start mid → AddsUnfixes mid past → AddsUnfixes start past
more_unfixes start mid past a b = record {
  passes = b.passes ++ a.passes;
  goes_on = b.goes_on ∙ ap (λ es. map unfix_of b.passes ++ es) a.goes_on ∙ sym (append_assoc (map unfix_of b.passes) (map unfix_of a.passes) start) ∙ ap (λ es. es ++ start) (sym (map-append unfix_of b.passes a.passes));
}

pub went_back : (client : ℕ) (start : Trail) (taken : List Grant) (past : Trail) → GoBack client start taken past → AddsUnfixes start past
went_back client start _ _ none_taken = no_unfixes start
went_back client start _ _ (next_taken {taken} {past} g before own out) =
    more_unfixes start past (unfix_of g ∷ past) (went_back client start taken past before) (record { passes = g ∷ []; goes_on = refl })

pub drained_unfixes : (most client : ℕ) (rings rings_after : List RingView) (start past : Trail) → DrainsRings most client rings rings_after start past → AddsUnfixes start past
drained_unfixes most client _ _ start _ none_left = no_unfixes start
drained_unfixes most client _ _ start past (next_ring {rings} {rings_after} {mid} first rest) =
    more_unfixes start mid past (went_back client start first.taken mid first.go_back) (drained_unfixes most (suc client) rings rings_after mid past rest)

pub taken_unfixes : (c : ℕ) (old new : CoreView) → TakesBack c old new → AddsUnfixes old.past new.past
taken_unfixes c old new b = record { passes = b.passes; goes_on = ap (λ (core : CoreView). core.past) b.is }

-- those of one client
back_more : (c : ℕ) (g : Grant) (gs own : List Grant) → Dec (g.client ≡ c) → of_client c (map unfix_of gs) ≡ map unfix_of own → (back : List Grant) × (of_client c (map unfix_of (g ∷ gs)) ≡ map unfix_of back)
back_more c g gs own (yes is) rest = (g ∷ own, of_client-hit c (unfix_of g) (map unfix_of gs) is ∙ ap (λ es. unfix_of g ∷ es) rest)
back_more c g gs own (no apart) rest = (own, of_client-miss c (unfix_of g) (map unfix_of gs) apart ∙ rest)

backs_of : (c : ℕ) (gs : List Grant) → (back : List Grant) × (of_client c (map unfix_of gs) ≡ map unfix_of back)
backs_of c [] = ([], refl)
backs_of c (g ∷ gs) = let rest = backs_of c gs in back_more c g gs rest.0 (ℕ_discrete g.client c) rest.1

-- none of them is told
pub backs_untold : (gs : List Grant) → told (map unfix_of gs) ≡ []
backs_untold [] = refl
backs_untold (g ∷ gs) = backs_untold gs

pub backs_unfix : (gs : List Grant) → unfixes (map unfix_of gs) ≡ gs
backs_unfix [] = refl
backs_unfix (g ∷ gs) = ap (λ xs. g ∷ xs) (backs_unfix gs)

-- a client's entries, all and those that are told
told_of : (c : ℕ) (es : Trail) → of_client c (told es) ≡ told (of_client c es)
told_of c [] = refl
told_of c (e ∷ es) = go (is_told e.call) refl (ℕ_discrete e.client c) (told_of c es)
  where
    listed : (b : Bool) → is_told e.call ≡ b → (xs : Trail) → told (e ∷ xs) ≡ cond b (e ∷ told xs) (told xs)
    listed b is xs = ap (λ t. cond t (e ∷ told xs) (told xs)) is

    go : (b : Bool) → is_told e.call ≡ b → Dec (e.client ≡ c) → of_client c (told es) ≡ told (of_client c es) → of_client c (told (e ∷ es)) ≡ told (of_client c (e ∷ es))
    go true is (yes own) rest = ap (of_client c) (listed true is es) ∙ of_client-hit c e (told es) own ∙ ap (λ xs. e ∷ xs) rest ∙ sym (listed true is (of_client c es)) ∙ ap told (sym (of_client-hit c e es own))
    go true is (no apart) rest = ap (of_client c) (listed true is es) ∙ of_client-miss c e (told es) apart ∙ rest ∙ ap told (sym (of_client-miss c e es apart))
    go false is (yes own) rest = ap (of_client c) (listed false is es) ∙ rest ∙ sym (listed false is (of_client c es)) ∙ ap told (sym (of_client-hit c e es own))
    go false is (no apart) rest = ap (of_client c) (listed false is es) ∙ rest ∙ ap told (sym (of_client-miss c e es apart))

-- a client's own entries, and those of another
all_own : (c : ℕ) (es : Trail) → All (λ e. e.client ≡ c) es → of_client c es ≡ es
all_own c [] own = refl
all_own c (e ∷ es) own = of_client-hit c e es (All-head (λ e. e.client ≡ c) e es own) ∙ ap (λ xs. e ∷ xs) (all_own c es (All-tail (λ e. e.client ≡ c) e es own))

none_own : (c d : ℕ) (es : Trail) → c ≢ d → All (λ e. e.client ≡ d) es → of_client c es ≡ []
none_own c d [] apart own = refl
none_own c d (e ∷ es) apart own =
    of_client-miss c e es (λ same. apart (sym same ∙ All-head (λ e. e.client ≡ d) e es own)) ∙ none_own c d es apart (All-tail (λ e. e.client ≡ d) e es own)

-- ---- the entries that a call adds are its client's
-- the trail and the list got the same entries, all of them the client's
pub record Adds (client : ℕ) (past said after told_after : Trail) : Type 0 where
  pub piece : Trail
  pub goes_on : after ≡ piece ++ past
  pub grows : told_after ≡ piece ++ said
  pub own : All (λ e. e.client ≡ client) piece

pub adds_none : (client : ℕ) (past said : Trail) → Adds client past said past said
adds_none client past said = record { piece = []; goes_on = refl; grows = refl; own = All-nil (λ e. e.client ≡ client) }

-- a list that got nothing: nor did the trail
pub same_core : (old new : CoreView) (said after : Trail) → Alike old said new after → after ≡ said → new ≡ old
same_core old new said after (inl a) same = a.0
same_core old new said after (inr a) same = absurd (not_longer a.0 said (sym same ∙ a.2))

pub adds_one : (client : ℕ) (old new : CoreView) (said after : Trail) → Alike old said new after → OneMore client said after → Adds client old.past said new.past after
adds_one client old new said after (inl a) more = record { piece = []; goes_on = ap (λ (core : CoreView). core.past) a.0; grows = a.1; own = All-nil (λ e. e.client ≡ client) }
adds_one client old new said after (inr a) (inl same) = absurd (not_longer a.0 said (sym same ∙ a.2))
adds_one client old new said after (inr a) (inr more) = record {
  piece = a.0 ∷ [];
  goes_on = ap (λ (core : CoreView). core.past) a.1;
  grows = a.2;
  own = All-cons (λ e. e.client ≡ client) a.0 [] (ap (first_client client) (sym a.2 ∙ more.2)) (All-nil (λ e. e.client ≡ client));
}

pub adds_both : (client : ℕ) (past said mid marked after told_after : Trail) → Adds client past said mid marked → Adds client mid marked after told_after → Adds client past said after told_after
adds_both client past said mid marked after told_after a b = record {
  piece = b.piece ++ a.piece;
  goes_on = b.goes_on ∙ ap (λ es. b.piece ++ es) a.goes_on ∙ sym (append_assoc b.piece a.piece past);
  grows = b.grows ∙ ap (λ es. b.piece ++ es) a.grows ∙ sym (append_assoc b.piece a.piece said);
  own = All-append (λ e. e.client ≡ client) b.piece a.piece b.own a.own;
}

-- the entries of an event
pub made : (core left : CoreView) (book kept : BookValue) → Makes core book left kept → Adds book.client core.past book.said left.past kept.said
made core left book kept m = record { piece = m.piece; goes_on = ap (λ (v : CoreView). v.past) m.is; grows = m.grows; own = m.own }

pub read_one : (client : ℕ) (pass : Pass) (answer : Result (List ℕ) Refusal) (said after : Trail) → ReadSaid client pass answer said after → OneMore client said after
read_one client pass (Ok image) said after h = inr (Read pass.serial pass.page, Content image, h.1)
read_one client pass (Err refusal.UnknownPass) said after h = inl h
read_one client pass (Err refusal.TrailFull) said after h = inl h.1
read_one client pass (Err refusal.OutOfMemory) said after h = inl h.1
read_one client pass (Err _) said after h = absurd h

pub read_into_one : {A : Type 0} (client : ℕ) (pass : Pass) (offset : ℕ) (before : List ℕ) (answer : Result A Refusal) (bytes : List ℕ) (said after : Trail) → ReadIntoSaid client pass offset before answer bytes said after → OneMore client said after
read_into_one client pass offset before (Ok done) bytes said after h = read_one client pass (Ok h.0) said after h.1
read_into_one client pass offset before (Err why) bytes said after h = read_one client pass (Err why) said after h.0

pub write_one : {A : Type 0} (client : ℕ) (pass : Pass) (offset : ℕ) (bytes : List ℕ) (lsn : ℕ) (answer : Result A Refusal) (said after : Trail) → WriteSaid client pass offset bytes lsn answer said after → OneMore client said after
write_one client pass offset bytes lsn (Ok done) said after h = inr (Write pass.serial pass.page offset bytes lsn, Done, h.1)
write_one client pass offset bytes lsn (Err refusal.UnknownPass) said after h = inl h
write_one client pass offset bytes lsn (Err refusal.TrailFull) said after h = inl h.1
write_one client pass offset bytes lsn (Err refusal.OutOfMemory) said after h = inl h.1
write_one client pass offset bytes lsn (Err _) said after h = absurd h

end_read_of : (ticket : ReadTicket) (read : Result (List ℕ) PortFault) (answer : Result Pass Refusal) (said after : Trail) → EndReadOutcome ticket read answer said after → OneMore ticket.client said after
end_read_of ticket (Ok image) (Ok pass) said after h = inr (ReadEnd ticket.serial ticket.page (Some image), Fixed pass.serial, h.2)
end_read_of ticket (Err fault) (Err refusal.ReadFailed) said after h = inr (ReadEnd ticket.serial ticket.page None, ReadFailed, h.1)
end_read_of ticket (Err fault) (Err refusal.WrongPage) said after h = inr (ReadEnd ticket.serial ticket.page None, WrongPage, h.1)
end_read_of ticket read (Err refusal.UnknownTicket) said after h = inl h
end_read_of ticket _ _ said after h = absurd h

pub end_read_one : (client : ℕ) (ticket : ReadTicket) (read : Result (List ℕ) PortFault) (answer : Result Pass Refusal) (said after : Trail) → OwesRead client ticket said → EndReadOutcome ticket read answer said after
    → OneMore client said after
end_read_one client ticket read answer said after owes h = subst (λ c. OneMore c said after) owes.whose (end_read_of ticket read answer said after h)

end_write_of : {A : Type 0} (ticket : WriteTicket) (written : Result A PortFault) (answer : Result Ended Refusal) (said after : Trail) → EndWriteOutcome ticket written answer said after → OneMore ticket.client said after
end_write_of ticket (Ok done) (Ok how) said after h = inr (WriteEnd ticket.serial ticket.page true, ended_reply how, h)
end_write_of ticket (Err fault) (Err refusal.WriteFailed) said after h = inr (WriteEnd ticket.serial ticket.page false, WriteFailed, h)
end_write_of ticket written (Err refusal.UnknownTicket) said after h = inl h
end_write_of ticket _ _ said after h = absurd h

pub end_write_one : {A : Type 0} (client : ℕ) (ticket : WriteTicket) (written : Result A PortFault) (answer : Result Ended Refusal) (said after : Trail) → OwesWrite client ticket said → EndWriteOutcome ticket written answer said after
    → OneMore client said after
end_write_one client ticket written answer said after owes h = subst (λ c. OneMore c said after) owes.whose (end_write_of ticket written answer said after h)

-- ---- the board after a section
pub line_written : (board client still : ℕ) (old new : Board) (had has : Line) (said after : Trail) → IsLineOf board had client said → Writes old had after new has → still ≡ client → IsLineOf board has still after
line_written board client still old new had has said after l w same = record { board_is = w.name_is ∙ l.board_is; number_is = w.number_is ∙ l.number_is ∙ sym same; posted = []; list_is = sym w.list_is }

-- a pass was posted
pub line_posted : (board client still : ℕ) (line : Line) (said after : Trail) (g : Grant) → IsLineOf board line client said → after ≡ unfix_of g ∷ said → still ≡ client → IsLineOf board line still after
line_posted board client still line said after g l more same = record { board_is = l.board_is; number_is = l.number_is ∙ sym same; posted = g ∷ l.posted; list_is = more ∙ ap (λ es. unfix_of g ∷ es) l.list_is }

pub line_told : (board : ℕ) (old new : BookValue) (line : Line) (g : Grant) → IsLineOf board line old.client old.said → Tells old (Unfix g.serial g.page) Done new → g.client ≡ old.client → IsLineOf board line new.client new.said
line_told board old new line g l t whose = line_posted board old.client new.client line old.said new.said g l (t.said ∙ ap (λ c. by c (Unfix g.serial g.page) Done ∷ old.said) (sym whose)) t.client

pub sent_told : (old new : BookValue) (had has : List Grant) (g : Grant) → had ≡ reverse (unfixes old.said) → has ≡ had ++ g ∷ [] → Tells old (Unfix g.serial g.page) Done new → g.client ≡ old.client → has ≡ reverse (unfixes new.said)
sent_told old new had has g are more t whose =
    more ∙ ap (λ gs. gs ++ g ∷ []) are ∙ sym (reverse-append (g ∷ []) (unfixes old.said))
    ∙ ap (λ (es : Trail). reverse (unfixes es)) (sym (t.said ∙ ap (λ c. by c (Unfix g.serial g.page) Done ∷ old.said) (sym whose)))

-- the line of a new list
pub line_new : (board client : ℕ) (line : Line) → line.name ≡ board → line.number ≡ client → line.list ≡ [] → IsLineOf board line client []
line_new board client line name number empty = record { board_is = name; number_is = number; posted = []; list_is = sym empty }

abbrev pub Listed : ℕ → Trail → Trail → Type 0
Listed c since list = (back : List Grant) × (of_client c since ≡ map unfix_of back ++ list)

-- the client's entries are its list, which was written; the others' got none
pub shown_listed : (board : ℕ) (start : Trail) (client : ℕ) (old new : Board) (had has : Line) (past after list : Trail) (since : Trail) → old.name ≡ board → had.number ≡ client → after ≡ since ++ start → of_client client since ≡ list
    → ((c : ℕ) → c ≢ client → Listed c since (get_or old.lists c [])) → Writes old had list new has → IsShown board start new after
shown_listed board start client old new had has past after list since name same goes_on mine others w = record {
  board_is = w.name ∙ name;
  since = since;
  goes_on = goes_on;
  each = λ c. each c (ℕ_discrete c client);
}
  where
    here : get_or new.lists client [] ≡ list
    here = ap (λ ls. get_or ls client []) w.lists ∙ ap (λ n. get_or (set old.lists had.number list) n []) (sym same) ∙ get_or-set_same old.lists had.number list [] w.within

    there : (c : ℕ) → c ≢ client → get_or new.lists c [] ≡ get_or old.lists c []
    there c apart = ap (λ ls. get_or ls c []) w.lists ∙ get_or-set_other old.lists had.number c list [] (λ is. apart (is ∙ same))

    each : (c : ℕ) → Dec (c ≡ client) → Listed c since (get_or new.lists c [])
    each c (yes is) = subst (λ n. Listed n since (get_or new.lists n [])) (sym is) ([], mine ∙ sym here)
    each c (no apart) = let o = others c apart in (o.0, o.1 ∙ ap (λ l. map unfix_of o.0 ++ l) (sym (there c apart)))

-- the trail and the list, which were the same of the client, got the same entries; then the line was
-- written
pub shown_more : (board : ℕ) (start : Trail) (client : ℕ) (old new : Board) (had has : Line) (past after said told_after : Trail) → IsShown board start old past → IsLineOf board had client said → IsListOf start past client said
    → Adds client past said after told_after → Writes old had told_after new has → IsShown board start new after
shown_more board start client old new had has past after said told_after s l t a w =
    shown_listed board start client old new had has past after told_after (a.piece ++ s.since) s.board_is l.number_is
    (a.goes_on ∙ ap (λ es. a.piece ++ es) s.goes_on ∙ sym (append_assoc a.piece s.since start)) mine others w
  where
    since_is : t.since ≡ s.since
    since_is = append_cancel_right t.since s.since start (sym t.goes_on ∙ s.goes_on)

    mine : of_client client (a.piece ++ s.since) ≡ told_after
    mine =
        of_client-append client a.piece s.since ∙ ap (λ es. es ++ of_client client s.since) (all_own client a.piece a.own)
        ∙ ap (λ es. a.piece ++ es) (ap (of_client client) (sym since_is) ∙ t.theirs) ∙ sym a.grows

    others : (c : ℕ) → c ≢ client → Listed c (a.piece ++ s.since) (get_or old.lists c [])
    others c apart = let o = s.each c in (o.0, of_client-append c a.piece s.since ∙ ap (λ es. es ++ of_client c s.since) (none_own c client a.piece apart a.own) ∙ o.1)

-- the session's list is still the client's part of the trail
pub listed_more : (start : Trail) (client : ℕ) (past after said told_after : Trail) → IsListOf start past client said → Adds client past said after told_after → IsListOf start after client told_after
listed_more start client past after said told_after t a = record {
  since = a.piece ++ t.since;
  goes_on = a.goes_on ∙ ap (λ es. a.piece ++ es) t.goes_on ∙ sym (append_assoc a.piece t.since start);
  theirs = of_client-append client a.piece t.since ∙ ap (λ es. es ++ of_client client t.since) (all_own client a.piece a.own) ∙ ap (λ es. a.piece ++ es) t.theirs ∙ sym a.grows;
}

-- passes went back
pub shown_drained : (board : ℕ) (start : Trail) (b : Board) (past mid : Trail) → IsShown board start b past → AddsUnfixes past mid → IsShown board start b mid
shown_drained board start b past mid s d = record {
  board_is = s.board_is;
  since = map unfix_of d.passes ++ s.since;
  goes_on = d.goes_on ∙ ap (λ es. map unfix_of d.passes ++ es) s.goes_on ∙ sym (append_assoc (map unfix_of d.passes) s.since start);
  each = λ c.
      let o = s.each c in
      let n = backs_of c d.passes in (
        n.0 ++ o.0,
        of_client-append c (map unfix_of d.passes) s.since ∙ ap (λ es. es ++ of_client c s.since) n.1 ∙ ap (λ es. map unfix_of n.0 ++ es) o.1
            ∙ sym (append_assoc (map unfix_of n.0) (map unfix_of o.0) (get_or b.lists c [])) ∙ ap (λ es. es ++ get_or b.lists c []) (sym (map-append unfix_of n.0 o.0)),
      );
}

-- the core was cut
pub shown_cut : (board : ℕ) (start : Trail) (b : Board) (old new : CoreView) (entries : List Entry) → IsShown board start b old.past → Cuts old entries new → IsShown board start b new.past
shown_cut board start b old new entries s cut = subst (λ p. IsShown board start b p) (sym (ap (λ (core : CoreView). core.past) cut.is)) s

-- a board with no entries, of a pool that was just made
pub shown_none : (board : ℕ) (start : Trail) (b : Board) (past : Trail) → b.name ≡ board → IsBlank b.lists → past ≡ start → IsShown board start b past
shown_none board start b past name blank is = record { board_is = name; since = []; goes_on = is; each = λ c. ([], sym (blank c)) }

pub blank_more : (lists : List Trail) → IsBlank lists → IsBlank (lists ++ [] ∷ [])
blank_more [] blank zero = refl
blank_more [] blank (suc c) = refl
blank_more (l ∷ lists) blank zero = blank 0
blank_more (l ∷ lists) blank (suc c) = blank_more lists (λ d. blank (suc d)) c

-- a session whose list is the client's part of the trail writes it once more
pub shown_again : (board : ℕ) (start : Trail) (client : ℕ) (old new : Board) (had has : Line) (past said : Trail) → IsShown board start old past → IsLineOf board had client said → IsListOf start past client said → Writes old had said new has → IsShown board start new past
shown_again board start client old new had has past said s l t w =
    shown_more board start client old new had has past past said said s l t (adds_none client past said) w

-- what the board has of a client, once its line is at hand
same_list : (board : ℕ) (client : ℕ) (old new : Board) (had has : Line) (said list : Trail) → IsLineOf board had client said → Writes old had list new has → get_or old.lists client [] ≡ had.list
same_list board client old new had has said list l w = ap (λ n. get_or old.lists n []) (sym l.number_is) ∙ w.was

pub told_by : (board : ℕ) (start : Trail) (client : ℕ) (old new : Board) (had has : Line) (past said list : Trail) → IsShown board start old past → IsLineOf board had client said → Writes old had list new has → IsToldBy start past client said
told_by board start client old new had has past said list s l w =
    let o = s.each client in
    let plain : (gs : List Grant) → told (map unfix_of gs ++ had.list) ≡ told had.list = λ gs. told-append (map unfix_of gs) had.list ∙ ap (λ es. es ++ told had.list) (backs_untold gs) in
    record {
      since = s.since;
      goes_on = s.goes_on;
      theirs = told_of client s.since ∙ ap told (o.1 ∙ ap (λ es. map unfix_of o.0 ++ es) (same_list board client old new had has said list l w)) ∙ plain o.0 ∙ sym (plain l.posted) ∙ ap told (sym l.list_is);
    }

-- where all that the session posted went back, its list is the client's part of the trail
pub listed_by : (board : ℕ) (start : Trail) (client : ℕ) (old new : Board) (had has : Line) (past said list : Trail) → IsShown board start old past → IsLineOf board had client said → Writes old had list new has → IsUnfixedBy start past client (unfixes said)
    → IsListOf start past client said
listed_by board start client old new had has past said list s l w u =
    let o = s.each client in
    let back = o.0 in
    let parts : of_client client s.since ≡ map unfix_of back ++ had.list = o.1 ∙ ap (λ es. map unfix_of back ++ es) (same_list board client old new had has said list l w) in
    let since_is : u.since ≡ s.since = append_cancel_right u.since s.since start (sym u.goes_on ∙ s.goes_on) in
    let of_parts : (gs : List Grant) → unfixes (map unfix_of gs ++ had.list) ≡ gs ++ unfixes had.list = λ gs.
    filter_map-append (λ e. pass_unfixed e.client e.call) (map unfix_of gs) had.list ∙ ap (λ xs. xs ++ unfixes had.list) (backs_unfix gs) in
    let both : back ++ unfixes had.list ≡ l.posted ++ unfixes had.list =
    sym (of_parts back) ∙ ap unfixes (sym parts) ∙ ap (λ es. unfixes (of_client client es)) (sym since_is) ∙ u.all ∙ ap unfixes l.list_is ∙ of_parts l.posted in
    record {
      since = s.since;
      goes_on = s.goes_on;
      theirs = parts ∙ ap (λ gs. map unfix_of gs ++ had.list) (append_cancel_right back l.posted (unfixes had.list) both) ∙ sym l.list_is;
    }

-- the session's own ring was emptied, and the line written
pub shown_own : (board : ℕ) (start : Trail) (client : ℕ) (old new : Board) (had has : Line) (past said : Trail) → IsShown board start old past → IsLineOf board had client said → Writes old had said new has → IsUnfixedBy start past client (unfixes said)
    → IsShown board start new past
shown_own board start client old new had has past said s l w u =
    shown_again board start client old new had has past said s l (listed_by board start client old new had has past said said s l w u) w

-- a later trail has all of it, and what the client did since
pub listed_later : (start noted seen : Trail) (client : ℕ) (said : Trail) → IsListOf start noted client said → GoesOnFrom noted seen → (later : Trail) × IsListOf start seen client (later ++ said)
listed_later start noted seen client said t on = (
  of_client client on.0,
  record {
    since = on.0 ++ t.since;
    goes_on = on.1 ∙ ap (λ es. on.0 ++ es) t.goes_on ∙ sym (append_assoc on.0 t.since start);
    theirs = of_client-append client on.0 t.since ∙ ap (λ es. of_client client on.0 ++ es) t.theirs;
  },
)

-- passes of another client went back
pub listed_taken_back : (start : Trail) (c client : ℕ) (old new : CoreView) (said : Trail) → client ≢ c → IsListOf start old.past client said → TakesBack c old new → IsListOf start new.past client said
listed_taken_back start c client old new said apart t b = record {
  since = map unfix_of b.passes ++ t.since;
  goes_on = ap (λ (core : CoreView). core.past) b.is ∙ ap (λ es. map unfix_of b.passes ++ es) t.goes_on ∙ sym (append_assoc (map unfix_of b.passes) t.since start);
  theirs = of_client-append client (map unfix_of b.passes) t.since ∙ ap (λ es. es ++ of_client client t.since) (none_back client c b.passes apart b.own) ∙ t.theirs;
}
  where
    none_back : (n m : ℕ) (gs : List Grant) → n ≢ m → All (λ (g : Grant). g.client ≡ m) gs → of_client n (map unfix_of gs) ≡ []
    none_back n m [] apart own = refl
    none_back n m (g ∷ gs) apart own =
        of_client-miss n (unfix_of g) (map unfix_of gs) (λ is. apart (sym is ∙ All-head (λ (g : Grant). g.client ≡ m) g gs own)) ∙ none_back n m gs apart (All-tail (λ (g : Grant). g.client ≡ m) g gs own)

-- rings were drained after a client's own, in which no pass waited that its list gave back: nothing more came out of that
pub listed_beside : (start past after : Trail) (client : ℕ) (said : Trail) (received known : List Grant) → IsListOf start past client said → AddsUnfixes past after → IsUnfixedBy start after client (reverse received) → received ++ known ≡ reverse (unfixes said) → IsListOf start after client said
listed_beside start past after client said received known t d u fifo = record {
  since = map unfix_of d.passes ++ t.since;
  goes_on = goes_on;
  theirs = parts ∙ ap (λ gs. map unfix_of gs ++ said) none;
}
  where
    backs : (back : List Grant) × (of_client client (map unfix_of d.passes) ≡ map unfix_of back)
    backs = backs_of client d.passes

    goes_on : after ≡ (map unfix_of d.passes ++ t.since) ++ start
    goes_on = d.goes_on ∙ ap (λ es. map unfix_of d.passes ++ es) t.goes_on ∙ sym (append_assoc (map unfix_of d.passes) t.since start)

    parts : of_client client (map unfix_of d.passes ++ t.since) ≡ map unfix_of backs.0 ++ said
    parts = of_client-append client (map unfix_of d.passes) t.since ∙ ap (λ es. es ++ of_client client t.since) backs.1 ∙ ap (λ es. map unfix_of backs.0 ++ es) t.theirs

    same : map unfix_of d.passes ++ t.since ≡ u.since
    same = append_cancel_right (map unfix_of d.passes ++ t.since) u.since start (sym goes_on ∙ u.goes_on)

    whole : backs.0 ++ unfixes said ≡ reverse received
    whole = ap (λ gs. gs ++ unfixes said) (sym (backs_unfix backs.0)) ∙ sym (filter_map-append (λ e. pass_unfixed e.client e.call) (map unfix_of backs.0) said) ∙ sym (ap unfixes parts) ∙ ap (unfixed client) same ∙ u.all

    none : backs.0 ≡ []
    none =
        let all = ap length whole in
        let posted = ap length fifo in
        nil_from_length backs.0 (omega (arith, all, posted, length-append backs.0 (unfixes said), length-reverse received, length-append received known, length-reverse (unfixes said)))

-- since a pool was made over a core that had said nothing, in the words of the whole trail
pub listed_whole : (past : Trail) (client : ℕ) (said : Trail) → IsListOf [] past client said → of_client client past ≡ said
listed_whole past client said t = ap (of_client client) (t.goes_on ∙ append-nil t.since) ∙ t.theirs

-- in the words of those entries that are no unfixes, and of the unfixes
pub listed_told : (start past : Trail) (client : ℕ) (said : Trail) → IsListOf start past client said → IsToldBy start past client said
listed_told start past client said t = record { since = t.since; goes_on = t.goes_on; theirs = told_of client t.since ∙ ap told t.theirs }

pub listed_unfixed : (start past : Trail) (client : ℕ) (said : Trail) → IsListOf start past client said → IsUnfixedBy start past client (unfixes said)
listed_unfixed start past client said t = record { since = t.since; goes_on = t.goes_on; all = ap unfixes t.theirs }

-- passes went back, of which nothing is told
pub told_still : (start past after : Trail) (client : ℕ) (said : Trail) → IsToldBy start past client said → AddsUnfixes past after → IsToldBy start after client said
told_still start past after client said t d = record {
  since = map unfix_of d.passes ++ t.since;
  goes_on = d.goes_on ∙ ap (λ es. map unfix_of d.passes ++ es) t.goes_on ∙ sym (append_assoc (map unfix_of d.passes) t.since start);
  theirs = ap (of_client client) (told-append (map unfix_of d.passes) t.since ∙ ap (λ es. es ++ told t.since) (backs_untold d.passes)) ∙ t.theirs;
}

-- ---- the board of what sessions saw
pub goes_on_more : (start past after piece : Trail) → GoesOnFrom start past → after ≡ piece ++ past → GoesOnFrom start after
goes_on_more start past after piece s grows = (piece ++ s.0, grows ∙ ap (λ es. piece ++ es) s.1 ∙ sym (append_assoc piece s.0 start))

-- the trail got more entries
earlier_more : (board : ℕ) (b : Board) (past after piece : Trail) → AreEarlier board b past → after ≡ piece ++ past → AreEarlier board b after
earlier_more board b past after piece e grows = record { board_is = e.board_is; each = λ n. goes_on_more (get_or b.lists n []) past after piece (e.each n) grows }

pub earlier_adds : (board : ℕ) (b : Board) (client : ℕ) (past after said told_after : Trail) → AreEarlier board b past → Adds client past said after told_after → AreEarlier board b after
earlier_adds board b client past after said told_after e a = earlier_more board b past after a.piece e a.goes_on

pub earlier_drained : (board : ℕ) (b : Board) (past mid : Trail) → AreEarlier board b past → AddsUnfixes past mid → AreEarlier board b mid
earlier_drained board b past mid e d = earlier_more board b past mid (map unfix_of d.passes) e d.goes_on

pub earlier_cut : (board : ℕ) (b : Board) (old new : CoreView) (entries : List Entry) → AreEarlier board b old.past → Cuts old entries new → AreEarlier board b new.past
earlier_cut board b old new entries e cut = subst (λ p. AreEarlier board b p) (sym (ap (λ (core : CoreView). core.past) cut.is)) e

-- each line that was opened was shown the trail of a pool that is made
set_last : (lists : List Trail) (last list : Trail) → set (lists ++ last ∷ []) (length lists) list ≡ lists ++ list ∷ []
set_last [] last list = refl
set_last (l ∷ lists) last list = ap (λ ls. l ∷ ls) (set_last lists last list)

pub all_shown : (past list : Trail) (old mid new : Board) (line has : Line) → All (λ l. l ≡ past) old.lists → Opens old mid line → Writes mid line list new has → list ≡ past → All (λ l. l ≡ past) new.lists
all_shown past list old mid new line has all o w is =
    let lists : new.lists ≡ old.lists ++ list ∷ [] =
    w.lists ∙ ap (λ ls. set ls line.number list) o.lists ∙ ap (λ n. set (old.lists ++ [] ∷ []) n list) o.number_is ∙ set_last old.lists [] list in
    subst (All (λ l. l ≡ past)) (sym lists) (All-append (λ l. l ≡ past) old.lists (list ∷ []) all (All-cons (λ l. l ≡ past) list [] is (All-nil (λ l. l ≡ past))))

pub earlier_shown : (board : ℕ) (b : Board) (past : Trail) → b.name ≡ board → All (λ l. l ≡ past) b.lists → AreEarlier board b past
earlier_shown board b past name all = record { board_is = name; each = each b.lists all }
  where
    each : (lists : List Trail) → All (λ l. l ≡ past) lists → (n : ℕ) → GoesOnFrom (get_or lists n []) past
    each [] all n = (past, sym (append-nil past))
    each (l ∷ lists) all zero = ([], sym (All-head (λ l. l ≡ past) l lists all))
    each (l ∷ lists) all (suc n) = each lists (All-tail (λ l. l ≡ past) l lists all) n

-- a line was opened, for which nothing was seen
pub earlier_opened : (board : ℕ) (old new : Board) (line : Line) (past : Trail) → AreEarlier board old past → Opens old new line → AreEarlier board new past
earlier_opened board old new line past e o = record { board_is = o.name ∙ e.board_is; each = λ n. subst (λ ls. GoesOnFrom (get_or ls n []) past) (sym o.lists) (more old.lists e.each n) }
  where
    more : (lists : List Trail) → ((n : ℕ) → GoesOnFrom (get_or lists n []) past) → (n : ℕ) → GoesOnFrom (get_or (lists ++ [] ∷ []) n []) past
    more [] each zero = (past, sym (append-nil past))
    more [] each (suc n) = (past, sym (append-nil past))
    more (l ∷ lists) each zero = each 0
    more (l ∷ lists) each (suc n) = more lists (λ m. each (suc m)) n

-- what a session saw before is an older part of the trail
pub line_earlier : (board : ℕ) (old new : Board) (had has : Line) (past list : Trail) → AreEarlier board old past → Writes old had list new has → GoesOnFrom had.list past
line_earlier board old new had has past list e w = subst (λ l. GoesOnFrom l past) w.was (e.each had.number)

-- a session sees the trail as it is
pub earlier_seen : (board : ℕ) (old new : Board) (had has : Line) (past : Trail) → AreEarlier board old past → Writes old had past new has → AreEarlier board new past
earlier_seen board old new had has past e w = record { board_is = w.name ∙ e.board_is; each = λ n. each n (ℕ_discrete n had.number) }
  where
    each : (n : ℕ) → Dec (n ≡ had.number) → GoesOnFrom (get_or new.lists n []) past
    each n (yes is) =
        ([], sym (ap (λ ls. get_or ls n []) w.lists ∙ ap (λ m. get_or (set old.lists had.number past) m []) is ∙ get_or-set_same old.lists had.number past [] w.within))
    each n (no apart) =
        subst (λ l. GoesOnFrom l past) (sym (ap (λ ls. get_or ls n []) w.lists ∙ get_or-set_other old.lists had.number n past [] apart)) (e.each n)

pub goes_on_taken : (c : ℕ) (start : Trail) (old new : CoreView) → GoesOnFrom start old.past → TakesBack c old new → GoesOnFrom start new.past
goes_on_taken c start old new s b = goes_on_more start old.past new.past (map unfix_of b.passes) s (ap (λ (core : CoreView). core.past) b.is)
