use Rattle.std.proofs.Common.{codes, ap, ◌≡◌, ◌∙◌, true}
use Rattle.std.proofs.lemmas.Result.{IfOk-weaker}
use Rattle.clap.specs.Words.{App, app_of, new_app}
use Rattle.clap.specs.Simple.{app_of_fields}
use Rattle.clap.specs.declared.builder.command.Command.{Command}
use Rattle.clap.specs.declared.builder.command.Command.TheViews.{out-Command}
use Rattle.clap.specs.declared.builder.command.Command.TheOpen.{Command-F}
use Rattle.bp_cli.proofs.command.program_command.Goals as goal

-- the settings of the command, as clap reads them
abbrev bare : App → App
bare a = record a { top = record a.top { no_binary_name = true; subcommand_required = true } }

abbrev versioned : App → App
versioned a = record a { top = record a.top { has_version = true } }

pub returns : goal.returns
returns c =
    let without_name : out-Command c.no_binary_name.result ≡ record (out-Command c.after_help.result) { no_binary_name = true } = c.no_binary_name.ensures in
    let needs_one : out-Command c.subcommand_required.result ≡ record (out-Command c.no_binary_name.result) { subcommand_required = true } = c.subcommand_required.ensures in
    let fields = needs_one ∙ ap (λ (f : Command-F Command). record f { subcommand_required = true }) without_name in
    let named : app_of c.about.result ≡ new_app (codes "bpool") = ap app_of_fields c.about.ensures ∙ c.new.ensures.app in
    let start : app_of c.after_help.result ≡ versioned (new_app (codes "bpool")) = ap app_of_fields c.after_help.ensures ∙ ap app_of_fields c.version.ensures ∙ ap versioned named in
    IfOk-weaker c.bin_name.result _ _ (λ r is. ap app_of_fields is.0 ∙ ap app_of_fields fields ∙ ap bare start) c.bin_name.ensures
