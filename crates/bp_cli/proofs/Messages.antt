-- What is said has no line end.
use Rattle.std.proofs.Common.{◌≡◌, ℕ, zero, suc, ◌+◌, ◌/◌, ◌%◌, ◌<◌, ◌==◌, ◌&&◌, ◌++◌, nat_lt, if◌then◌else◌, true, false, Bool, List, [], ◌∷◌, codes, string_bytes, refl, arith}
use Rattle.std.proofs.lemmas.Bool.{lt-ltb}
use Rattle.std.proofs.Math.Nat.{mod-lt}
use Rattle.std.specs.Fmt.{decimal, digit_glyph, digits, digits_onto}
use Rattle.bp_page.specs.Refusals.{number_of}
use Rattle.bp_trace.specs.Faults.{fault_number}
use Rattle.bp_cli.specs.Ending.{is_help, message_of}
use Rattle.bp_cli.specs.Line.{is_line, is_plain_byte}
use Rattle.bp_cli.specs.declared.ending.Ending.{Ending}
use Rattle.bp_cli.specs.declared.ending.Ending.TheVariants as ending
use Rattle.bp_cli.proofs.OneLine.{all-append, byte-plain}

glyph-line : (d : ℕ) (rest : List ℕ) → d < 10 → is_line rest ≡ true → is_line (digit_glyph false d ∷ rest) ≡ true
glyph-line d rest small h = go (nat_lt d 10) refl
  where
    go : (b : Bool) → nat_lt d 10 ≡ b → is_plain_byte (if b then 48 + d else 87 + d) && is_line rest ≡ true
    go true is = rw (byte-plain (48 + d) (omega arith) (λ e. omega arith)) h
    go false is = let bad : nat_lt d 10 ≡ true = lt-ltb d 10 small in cc

digits-line : (k n : ℕ) (rest : List ℕ) → is_line rest ≡ true → is_line (digits_onto k 10 false n rest) ≡ true
digits-line zero n rest h = h
digits-line (suc k) n rest h = go (n / 10 == 0) (digits-line k (n / 10) (digit_glyph false (n % 10) ∷ rest) (glyph-line (n % 10) rest (mod-lt n (omega arith)) h))
  where
    go : (b : Bool) → is_line (digits_onto k 10 false (n / 10) (digit_glyph false (n % 10) ∷ rest)) ≡ true
        → is_line (if b then digit_glyph false (n % 10) ∷ rest else digits_onto k 10 false (n / 10) (digit_glyph false (n % 10) ∷ rest)) ≡ true
    go true later = glyph-line (n % 10) rest (mod-lt n (omega arith)) h
    go false later = later

decimal-line : (n : ℕ) → is_line (decimal n) ≡ true
unfolding digits
decimal-line n = digits-line 64 n [] refl

both-line : (a b : List ℕ) → is_line a ≡ true → is_line b ≡ true → is_line (a ++ b) ≡ true
both-line = all-append is_plain_byte

pub message-line : (e : Ending) → is_help e ≡ false → is_line (message_of e) ≡ true
message-line (ending.Help text) e = cc
message-line ending.Version e = cc
message-line ending.WordsNotText e = refl
message-line (ending.CommandLine line) e = both-line (string_bytes line.text) (codes "; try 'bpool --help'") line.unbroken refl
message-line ending.PageFileNotOpened e = refl
message-line (ending.PageFileRefused refusal) e = both-line (codes "page file refused ") (decimal (number_of refusal)) refl (decimal-line (number_of refusal))
message-line ending.TraceNotOpened e = refl
message-line (ending.TraceRefused fault) e =
    both-line (codes "trace row ") (decimal fault.row ++ (codes " refused " ++ decimal fault.number)) refl
    (both-line (decimal fault.row) (codes " refused " ++ decimal fault.number) (decimal-line fault.row)
    (both-line (codes " refused ") (decimal fault.number) refl (decimal-line fault.number)))
message-line (ending.RunRefused refusal) e = both-line (codes "run refused ") (decimal (number_of refusal)) refl (decimal-line (number_of refusal))
message-line ending.OutputFailed e = refl
message-line ending.PictureNotWritten e = refl
message-line ending.ReferencesNotOpened e = refl
message-line (ending.ReferenceRefused line why) e =
    both-line (codes "reference line ") (decimal line ++ (codes " refused " ++ decimal (fault_number why))) refl
    (both-line (decimal line) (codes " refused " ++ decimal (fault_number why)) (decimal-line line)
    (both-line (codes " refused ") (decimal (fault_number why)) refl (decimal-line (fault_number why))))
