-- What is kept of the entries so far.
use Rattle.std.specs.Prelude.{◌≡◌, ℕ, ◌<◌, Bool, true, false, List, ◌∷◌, length, Option, None}
use Rattle.std.specs.declared.vec.Vec.{Vec}
use Rattle.bp_trail.specs.Parameters.{Parameters}
use Rattle.bp_trail.specs.Trail.{Trail}
use Rattle.bp_trail.specs.Lists.{and_given, without}
use Rattle.bp_trail.specs.Event.{Grant, page_of, loaded, left}
use Rattle.bp_trail.specs.Clock.{clock, durable}
use Rattle.bp_trail.specs.Passes.{passes, tickets, passes_out, reads_out, writes_out}
use Rattle.bp_trail.specs.Places.{residents}
use Rattle.bp_trail.specs.References.{references}
use Rattle.bp_trail.specs.declared.entries.Entry.{Entry}
use Rattle.bp_trail.specs.declared.entries.Call.{Call}
use Rattle.bp_trail.specs.declared.entries.Call.TheVariants.{ReadEnd}
use Rattle.bp_trail.specs.declared.entries.Reply.{Reply}
use Rattle.bp_trail.specs.declared.entries.Reply.TheVariants.{WrongPage}
use Rattle.bp_trail.specs.Legal.{IsLawful, Legal}
use Rattle.bp_check.specs.declared.spans.Span.{Span}
use Rattle.bp_check.specs.Pages.{PageSeen, seen_at, seen_of}
use Rattle.bp_check.specs.Spans.{spans, spans_at}

-- what the entries so far are seen as: they, newest first, and the parameters
pub record Seen : Type 0 where
  pub parameters : Parameters
  pub past : Trail

-- of passes or tickets of a kind, the one with the number that ends goes, and the one that is given
-- comes
abbrev pub passed_on : Option Grant → Option ℕ → List Grant → List Grant
passed_on gives ends out = and_given gives (without (λ (g : Grant). g.serial) ends out)

-- of the resident pages, the one that leaves by an entry goes, and the one that it loads comes
abbrev pub pages_after : Entry → List ℕ → List ℕ
pages_after e pages =
    and_given (loaded (page_of e.call) e.reply)
    (without (λ (q : ℕ). q) (left (page_of e.call) e.reply) pages)

-- by pages, what is kept of the page
abbrev pub ArePages : Trail → List PageSeen → Type 0
ArePages past pages = (p : ℕ) → seen_at pages p ≡ seen_of past p

-- by pages, the spans of the page's references
abbrev pub AreSpans : {A : Type 0} → Parameters → Trail → List (Vec Span A) → Type 0
AreSpans c past table =
    (p : ℕ) → p < c.pages → spans_at table p ≡ spans c.correlated (references c past p)

-- what is kept is what the entries say, and they are legal
pub record Keeps {A : Type 0} (c : Parameters) (past : Trail) (told now mark given begun : ℕ)
    (out reads writes : List Grant) (here : List ℕ) (states : List PageSeen)
    (table : List (Vec Span A)) : Type 0 where
  pub legal : Legal c past
  pub count : told ≡ length past
  pub clock : now ≡ clock past
  pub durable : mark ≡ durable past
  pub passes : given ≡ passes past
  pub tickets : begun ≡ tickets past
  pub passes_out : out ≡ passes_out past
  pub reads_out : reads ≡ reads_out past
  pub writes_out : writes ≡ writes_out past
  pub residents : here ≡ residents past
  pub pages : ArePages past states
  pub state_a_page : length states ≡ c.pages
  pub spans : AreSpans c past table
  pub one_a_page : length table ≡ c.pages

-- where the entry is lawful, and what is kept is what the entries before it say, the new spans are
-- those after it
abbrev pub KeepsSpans : {A : Type 0} → Parameters → Trail → Entry → ℕ → List ℕ → List Grant
    → List (Vec Span A) → List (Vec Span A) → Type 0
KeepsSpans c past e now pages reads old new =
    IsLawful c past e → now ≡ clock past → pages ≡ residents past → reads ≡ reads_out past
    → length old ≡ c.pages → AreSpans c past old → AreSpans c (e ∷ past) new

-- a read that ended without an image tells that it found another page
abbrev pub tells_wrong_page : Call → Reply → Bool
tells_wrong_page (ReadEnd t p None) WrongPage = true
tells_wrong_page call reply = false
