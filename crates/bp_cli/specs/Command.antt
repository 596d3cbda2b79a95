-- The command line as clap reads it: what each word and option takes, and its default.
use Rattle.std.specs.Prelude.{◌≡◌, ℕ, Bool, false, true, List, [], ◌∷◌, codes, map, Some, All, Result, IfOk, Vec}
use Rattle.std.specs.declared.alloc.Global.{Global}
use Rattle.clap.specs.Words.{App, Rule, Shape, Text, new_app, new_rule, rule_of, with_subcommand}
use Rattle.clap.specs.Simple.{new_shape}
use Rattle.clap.specs.declared.builder.action.ArgAction.TheVariants.{SetTrue}
use Rattle.clap.specs.declared.builder.arg.Arg.{Arg}
use Rattle.clap.specs.declared.builder.value_parser.ValueParser.TheVariants as parser

-- a word that must be there
abbrev pub positional : Text → Rule
positional id = record (new_rule id) { value_names = 1; required = true }

-- an option that takes any word
abbrev pub valued : Text → Rule
valued id = record (new_rule id) { long = Some id; value_names = 1 }

-- an option that takes a whole number from low to high
abbrev pub number_option : Text → ℕ → ℕ → Text → Rule
number_option id low high default =
    record (new_rule id) {
      long = Some id;
      value_names = 1;
      parser = Some (parser.Unsigned low high);
      defaults = default ∷ [];
    }

-- an option without a default that takes a whole number from low to high
abbrev pub bare_number : Text → Bool → ℕ → ℕ → Rule
bare_number id must low high =
    record (new_rule id) {
      long = Some id;
      value_names = 1;
      required = must;
      parser = Some (parser.Unsigned low high);
    }

-- and one that takes any word
abbrev pub bare_word : Text → Bool → Rule
bare_word id must = record (new_rule id) { long = Some id; value_names = 1; required = must }

-- an option without a value
abbrev pub flag : Text → Rule
flag id = record (new_rule id) { long = Some id; action = Some SetTrue }

-- an option that takes any word, and has a default
abbrev pub word_option : Text → Text → Rule
word_option id default =
    record (new_rule id) { long = Some id; value_names = 1; defaults = default ∷ [] }

-- the arguments that were made have these rules
abbrev pub HaveRules : {E : Type 0} → List Rule → Result (Vec Arg Global) E → Type 0
HaveRules rules made = IfOk made (λ arguments. map rule_of arguments.items ≡ rules)

-- none of the arguments that were made is one of all commands
abbrev pub AreLocal : {E : Type 0} → Result (Vec Arg Global) E → Type 0
AreLocal made = IfOk made (λ arguments. All (λ a. a.global ≡ false) arguments.items)

abbrev pub run_rules : List Rule
run_rules =
    positional (codes "trace")
    ∷ positional (codes "page-file")
    ∷ number_option (codes "frames") 1 65536 (codes "8")
    ∷ number_option (codes "k") 1 16 (codes "2")
    ∷ number_option (codes "correlated") 0 4611686018427387904 (codes "0")
    ∷ number_option (codes "retained") 0 4611686018427387904 (codes "1000")
    ∷ number_option (codes "page-size") 16 65536 (codes "64")
    ∷ number_option (codes "format") 1 2 (codes "1")
    ∷ word_option (codes "order") (codes "trace")
    ∷ flag (codes "totals")
    ∷ []

abbrev pub run_shape : Shape
run_shape = record (new_shape (codes "run")) { rules = run_rules }

abbrev pub sweep_rules : List Rule
sweep_rules =
    positional (codes "references")
    ∷ bare_word (codes "frames") true
    ∷ word_option (codes "k") (codes "1,2")
    ∷ number_option (codes "correlated") 0 4611686018427387904 (codes "0")
    ∷ bare_number (codes "column") false 1 65536
    ∷ bare_word (codes "svg") false
    ∷ []

abbrev pub sweep_shape : Shape
sweep_shape = record (new_shape (codes "sweep")) { rules = sweep_rules }

abbrev pub migrate_rules : List Rule
migrate_rules =
    positional (codes "old") ∷ positional (codes "new")
    ∷ bare_number (codes "page-size") true 16 65536 ∷ []

abbrev pub migrate_shape : Shape
migrate_shape = record (new_shape (codes "migrate")) { rules = migrate_rules }

abbrev pub explain_rules : List Rule
explain_rules = positional (codes "number") ∷ []

abbrev pub explain_shape : Shape
explain_shape = record (new_shape (codes "explain")) { rules = explain_rules }

-- the words leave out the program's name, and one of them must be a command, or ask for the version
abbrev pub program_app : App
program_app =
    let plain = new_app (codes "bpool") in
    record plain {
      top = record plain.top {
        no_binary_name = true;
        subcommand_required = true;
        has_version = true;
      };
    }

-- the program with its commands
abbrev pub bpool_app : App
bpool_app =
    with_subcommand (with_subcommand (with_subcommand (with_subcommand program_app run_shape)
    sweep_shape) migrate_shape) explain_shape
