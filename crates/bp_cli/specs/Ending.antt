-- What the program says where it makes no report.
use Rattle.std.specs.Prelude.{ℕ, ◌++◌, ◌∷◌, [], true, false, Bool, List, codes, string_bytes, if◌then◌else◌}
use Rattle.std.specs.Fmt.{decimal}
use Rattle.bp_page.specs.Refusals.{number_of}
use Rattle.bp_trace.specs.Faults.{fault_number}
use Rattle.bp_cli.specs.declared.ending.Ending.{Ending}
use Rattle.bp_cli.specs.declared.ending.Ending.TheVariants as ending

-- the version of the program
abbrev pub version : List ℕ
version = codes "0.13.0"

abbrev pub message_of : Ending → List ℕ
message_of (ending.Help text) = string_bytes text
message_of ending.Version = codes "bpool " ++ (version ++ codes "\n")
message_of ending.WordsNotText = codes "error: a word is not UTF-8; try 'bpool --help'"
message_of (ending.CommandLine line) = string_bytes line.text ++ codes "; try 'bpool --help'"
message_of ending.PageFileNotOpened = codes "page file not opened"
message_of (ending.PageFileRefused refusal) =
    codes "page file refused " ++ decimal (number_of refusal)
message_of ending.TraceNotOpened = codes "trace not opened"
message_of (ending.TraceRefused fault) =
    codes "trace row " ++ (decimal fault.row ++ (codes " refused " ++ decimal fault.number))
message_of (ending.RunRefused refusal) = codes "run refused " ++ decimal (number_of refusal)
message_of ending.OutputFailed = codes "output failed"
message_of ending.PictureNotWritten = codes "picture not written"
message_of ending.ReferencesNotOpened = codes "references not opened"
message_of (ending.ReferenceRefused line why) =
    codes "reference line " ++ (decimal line ++ (codes " refused " ++ decimal (fault_number why)))

-- the ending is an answer: help, or the version
abbrev pub is_help : Ending → Bool
is_help (ending.Help text) = true
is_help ending.Version = true
is_help _ = false

-- an answer has status 0
abbrev pub status_of : Ending → ℕ
status_of ending = if is_help ending then 0 else 2

-- an answer is written as it is on the output, and anything else as a line on the error output
abbrev pub on_out : Ending → List ℕ
on_out ending = if is_help ending then message_of ending else []

abbrev pub on_err : Ending → List ℕ
on_err ending = if is_help ending then [] else message_of ending ++ 10 ∷ []
