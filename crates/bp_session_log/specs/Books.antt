-- What a session keeps for itself, and the room in which it keeps what it owes.
use Rattle.std.specs.Prelude.{◌≡◌, ◌⊎◌, ℕ, ◌+◌, ◌-◌, ◌*◌, ◌≤◌, Bool, true, false, ◌&&◌, List, [], ◌∷◌, ◌++◌, length, reverse, filter_map, All, Option, Some, None}
use Rattle.bp_core.specs.declared.passes.Pass.{Pass}
use Rattle.bp_core.specs.declared.passes.ReadTicket.{ReadTicket}
use Rattle.bp_core.specs.declared.passes.WriteTicket.{WriteTicket}
use Rattle.bp_trail.specs.declared.entries.Call.{Call}
use Rattle.bp_trail.specs.declared.entries.Call.TheVariants.{Fix, ReadEnd, WriteEnd, Unfix}
use Rattle.bp_trail.specs.declared.entries.Reply.{Reply}
use Rattle.bp_trail.specs.declared.entries.Reply.TheVariants.{Done, Hit, Load, WriteFirst, Fixed}
use Rattle.bp_trail.specs.declared.entries.Entry.{Entry}
use Rattle.bp_trail.specs.Event.{Grant, grant}
use Rattle.bp_trail.specs.HeldPasses.{held_passes}
use Rattle.bp_trail.specs.Passes.{passes_out}
use Rattle.bp_trail.specs.Legal.{is_out}
use Rattle.bp_trail.specs.Trail.{Trail}
use Rattle.bp_trail.specs.Clock.{durable}
use Rattle.bp_trail.specs.Pieces.{by}
use Rattle.bp_core.specs.CoreView.{CoreView, with_entry}

-- a client's own list, newest first, and what cuts handed out of it, the bytes of a page, and the
-- room beyond all that the list owes: for entries, for passes held, and for copies of images; and
-- for how many copies there is a place
pub record BookValue : Type 0 where
  pub client : ℕ
  pub size : ℕ
  pub before : Trail
  pub said : Trail
  pub entries : ℕ
  pub passes : ℕ
  pub copies : ℕ
  pub places : ℕ

-- the pass is among those held
abbrev pub is_held : Pass → List Grant → Bool
is_held pass held = is_out (grant pass.client pass.page pass.serial) (reverse held)

-- the list and its owner stay
pub record SameBook (old new : BookValue) : Type 0 where
  pub client : new.client ≡ old.client
  pub size : new.size ≡ old.size
  pub before : new.before ≡ old.before
  pub said : new.said ≡ old.said

-- the pass that an entry gives back
abbrev pub pass_unfixed : ℕ → Call → Option Grant
pass_unfixed client (Unfix n p) = Some (grant client p n)
pass_unfixed client _ = None

-- the passes that these entries gave back, newest first
abbrev pub unfixes : Trail → List Grant
unfixes past = filter_map (λ e. pass_unfixed e.client e.call) past

-- a pass that goes back was held: the list so far gave it and did not give it back
abbrev pub back_held : ℕ → Call → Reply → Trail → Bool
back_held client (Unfix n p) Done before = is_out (grant client p n) (passes_out before)
back_held client (Unfix n p) _ before = false
back_held client _ reply before = true

-- each pass that the list gave back was held then
abbrev pub all_held : Trail → Bool
all_held [] = true
all_held (e ∷ before) = back_held e.client e.call e.reply before && all_held before

-- no pass went back
pub record SameOwner (old new : BookValue) : Type 0 where
  pub client : new.client ≡ old.client
  pub size : new.size ≡ old.size
  pub before : new.before ≡ old.before
  pub unfixes_are : unfixes new.said ≡ unfixes old.said
  pub still_held : all_held new.said ≡ all_held old.said

-- the list has one more entry of its owner
pub record Tells (old : BookValue) (call : Call) (reply : Reply) (new : BookValue) : Type 0 where
  pub client : new.client ≡ old.client
  pub size : new.size ≡ old.size
  pub before : new.before ≡ old.before
  pub said : new.said ≡ by old.client call reply ∷ old.said

-- the tickets that an entry gives, and those that it ends
abbrev pub tickets_given : Reply → ℕ
tickets_given (Load t victim) = 1
tickets_given (WriteFirst t p image) = 1
tickets_given _ = 0

abbrev pub tickets_ended : Call → ℕ
tickets_ended (ReadEnd t p image) = 1
tickets_ended (WriteEnd t p good) = 1
tickets_ended _ = 0

-- how many tickets a list, newest first, was given and did not end
abbrev pub open_tickets : Trail → ℕ
open_tickets [] = 0
open_tickets (e ∷ before) = tickets_given e.reply + (open_tickets before - tickets_ended e.call)

-- the entries that a list still owes: an unfix for each pass held, and an end and an unfix for each
-- open ticket
abbrev pub owed : Trail → ℕ
owed said = length (held_passes said) + 2 * open_tickets said

-- the passes held are those that the list leaves out, newest first, and there is room for what is
-- owed: an unfix for each of them; for each open ticket an end, an unfix and a copy of an image. No
-- more entries are kept than the list has
pub record KeepsRoom (client : ℕ) (said : Trail) (held : List Grant)
    (tickets kept copies for_said for_held : ℕ) : Type 0 where
  pub held_are : held ≡ passes_out said
  pub own : All (λ g. g.client ≡ client) held
  pub tickets_are : tickets ≡ open_tickets said
  pub entries_fit : kept + (length held + 2 * tickets) ≤ for_said
  pub passes_fit : tickets ≤ for_held
  pub copies_fit : tickets ≤ copies
  pub counted : kept ≤ length said

-- no pass or ticket is given back by the call, or given by the reply
abbrev pub plain_call : Call → Bool
plain_call (ReadEnd t p image) = false
plain_call (WriteEnd t p good) = false
plain_call (Unfix n p) = false
plain_call _ = true

abbrev pub plain_reply : Reply → Bool
plain_reply (Hit n) = false
plain_reply (Fixed n) = false
plain_reply (Load t victim) = false
plain_reply (WriteFirst t p image) = false
plain_reply _ = true

-- the newest entry of the list gave the client this ticket
pub record OwesRead (client : ℕ) (ticket : ReadTicket) (said : Trail) : Type 0 where
  pub evicted : Option ℕ
  pub before : Trail
  pub whose : ticket.client ≡ client
  pub gave : said ≡ by client (Fix ticket.page) (Load ticket.serial evicted) ∷ before

pub record OwesWriteEnd (client ticket : ℕ) (said : Trail) : Type 0 where
  pub call : Call
  pub page : ℕ
  pub image : List ℕ
  pub before : Trail
  pub gave : said ≡ by client call (WriteFirst ticket page image) ∷ before

pub record OwesWrite (client : ℕ) (ticket : WriteTicket) (said : Trail) : Type 0 where
  pub call : Call
  pub before : Trail
  pub whose : ticket.client ≡ client
  pub gave : said ≡ by client call (WriteFirst ticket.serial ticket.page ticket.image) ∷ before

-- the trail and the list get the same entry, or neither gets one
abbrev pub Alike : CoreView → Trail → CoreView → Trail → Type 0
Alike old said new after =
    ((new ≡ old) × (after ≡ said))
    ⊎ ((e : Entry) × (new ≡ with_entry old e.client e.call e.reply) × (after ≡ e ∷ said))

-- the core and its client's book got the same entry, or neither got one; no pass went back, and all
-- else stays but the room
pub record AddsAlike (core : CoreView) (book : BookValue) (left : CoreView) (kept : BookValue)
    : Type 0 where
  pub parameters : left.parameters ≡ core.parameters
  pub before : left.before ≡ core.before
  pub owner : SameOwner book kept
  pub alike : Alike core book.said left kept.said

-- and no more of the log is durable by it
pub record KeepsBook (core : CoreView) (book : BookValue) (left : CoreView) (kept : BookValue)
    : Type 0 where
  pub adds : AddsAlike core book left kept
  pub durable_stays : durable left.past ≡ durable core.past

-- the core and its client's book got the same entries, and no more of the log is durable by them; each
-- pass that went back was held, and all else stays but the room
pub record AddsPiece (core : CoreView) (book : BookValue) (left : CoreView) (kept : BookValue)
    : Type 0 where
  pub parameters : left.parameters ≡ core.parameters
  pub before : left.before ≡ core.before
  pub client : kept.client ≡ book.client
  pub size : kept.size ≡ book.size
  pub handed_out : kept.before ≡ book.before
  pub piece : Trail
  pub goes_on : left.past ≡ piece ++ core.past
  pub grows : kept.said ≡ piece ++ book.said
  pub still_held : all_held kept.said ≡ all_held book.said
  pub durable_stays : durable left.past ≡ durable core.past
