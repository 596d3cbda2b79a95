-- The six fields of a record, and what one field says, or why it is refused.
use Rattle.std.specs.Prelude.{◌≡◌, ℕ, nat_lt, nat_le, Bool, if◌then◌else◌, List, [], ◌∷◌, Option, Some, None, Result, Ok, Err}
use Rattle.hex.specs.Hex.{decode_of}
use Rattle.hex.specs.declared.error.FromHexError.{FromHexError}
use Rattle.bp_page.specs.declared.limits.Geometry.{Geometry}
use Rattle.bp_trace.specs.declared.faults.InputFault.{InputFault}
use Rattle.bp_trace.specs.declared.faults.InputFault.TheVariants as input_fault
use Rattle.bp_trace.specs.declared.fields.Fields.{Fields}
use Rattle.bp_trace.specs.Numbers.{number_in}

-- the six fields of a record, as bytes
pub record Texts : Type 0 where
  pub client : List ℕ
  pub op : List ℕ
  pub number : List ℕ
  pub offset : List ℕ
  pub bytes : List ℕ
  pub lsn : List ℕ

abbrev pub texts_of : Fields → Texts
texts_of f =
    record {
      client = f.client.now;
      op = f.op.now;
      number = f.number.now;
      offset = f.offset.now;
      bytes = f.bytes.now;
      lsn = f.lsn.now;
    }

unfoldable pub six_of : List (List ℕ) → Option Texts
six_of (a ∷ b ∷ c ∷ d ∷ e ∷ f ∷ []) =
    Some (record { client = a; op = b; number = c; offset = d; bytes = e; lsn = f })
six_of _ = None

-- one step after another, up to the first that fails
infixl 10 ◌>>=◌
abbrev pub ◌>>=◌ : {A B E : Type 0} → Result A E → (A → Result B E) → Result B E
(Ok x) >>= f = f x
(Err e) >>= f = Err e

abbrev pub or_refuse : {X : Type 0} → InputFault → Option X → Result X InputFault
or_refuse e None = Err e
or_refuse e (Some x) = Ok x

abbrev pub refused_if : Bool → InputFault → Result (Unit {0}) InputFault
refused_if b e = if b then Err e else Ok tt

-- the greatest number of a client
abbrev pub most_client : ℕ
most_client = 63

abbrev pub client_of : Option ℕ → Result ℕ InputFault
client_of None = Err input_fault.BadClient
client_of (Some n) = if nat_le n most_client then Ok n else Err input_fault.BadClient

abbrev pub client_in : List ℕ → Result ℕ InputFault
client_in text = client_of (number_in text)

abbrev pub number_wanted : List ℕ → Result ℕ InputFault
number_wanted text = or_refuse input_fault.BadNumber (number_in text)

abbrev pub page_below : ℕ → ℕ → Result ℕ InputFault
page_below pages n = if nat_lt n pages then Ok n else Err input_fault.OutOfPage

unfoldable pub page_in : Geometry → List ℕ → Result ℕ InputFault
page_in g text = do
  n ← number_wanted text
  page_below g.pages n

abbrev pub bytes_of : Result (List ℕ) FromHexError → Result (List ℕ) InputFault
bytes_of (Ok bytes) = Ok bytes
bytes_of (Err e) = Err input_fault.BadHex

-- pairs of hex digits of either case
abbrev pub bytes_wanted : List ℕ → Result (List ℕ) InputFault
bytes_wanted text = bytes_of (decode_of text)

-- what was answered is what a definition says, unless memory ran out
abbrev pub Refuses : {X : Type 0} → InputFault → Result X InputFault → Type 0
Refuses input_fault.OutOfMemory said = Unit {0}
Refuses e said = said ≡ Err e

abbrev pub Gives : {X : Type 0} → Result X InputFault → Result X InputFault → Type 0
Gives (Ok x) said = said ≡ Ok x
Gives (Err e) said = Refuses e said
