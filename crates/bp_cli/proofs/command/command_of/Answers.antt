use Rattle.std.proofs.Common.{◌≡◌, ◌∙◌, false, All, List, [], ap, fold, map}
use Rattle.std.proofs.lemmas.Result.{IfOk-at_ok, IfOk-weaker}
use Rattle.clap.specs.Words.{AddsArg, AddsInTurn, App, Rule, app_of, new_app, rule_of, shape_of, with_rule}
use Rattle.clap.specs.Simple.{app_of_fields, new_shape}
use Rattle.std.specs.declared.vec.Vec.{Vec}
use Rattle.clap.specs.declared.builder.arg.Arg.{Arg}
use Rattle.clap.specs.declared.builder.command.Command.{Command}
use Rattle.clap.specs.declared.builder.command.Command.TheViews.{out-Command}
use Rattle.clap.specs.declared.builder.command.Command.TheOpen.{Command-F}
use Rattle.bp_cli.proofs.Building.{IsLocal, adds_local, adds_rules, with_rules}
use Rattle.bp_cli.proofs.command.command_of.Goals as goal

pub returns-in-Ok-clause-shape : goal.returns-in-Ok-clause-shape
returns-in-Ok-clause-shape c all is local =
    let arguments = c.in-Ok.arguments.items in
    let bare = c.after_help.result in
    let rules = map rule_of arguments in
    let all_local : All IsLocal arguments = IfOk-at_ok (λ (v : Vec Arg _). All IsLocal v.items) c.in-Ok.is local in
    let start : app_of bare ≡ new_app c.args.name.now = ap app_of_fields c.after_help.ensures ∙ ap app_of_fields c.about.ensures ∙ c.new.ensures.app in
    IfOk-weaker c.args-in-Ok.result (AddsInTurn AddsArg bare arguments) (λ r. shape_of r ≡ record (new_shape c.args.name.now) { rules = all })
    (λ r adds. ap (λ (a : App). a.top) (adds_rules bare r arguments all_local adds ∙ ap (λ (a : App). fold with_rule a rules) start) ∙ with_rules c.args.name.now [] rules
    ∙ ap (λ (l : List Rule). record (new_shape c.args.name.now) { rules = l }) (IfOk-at_ok (λ (v : Vec Arg _). map rule_of v.items ≡ all) c.in-Ok.is is))
    c.args-in-Ok.ensures

pub returns-in-Ok-clause-local : goal.returns-in-Ok-clause-local
returns-in-Ok-clause-local c local =
    let arguments = c.in-Ok.arguments.items in
    let bare = c.after_help.result in
    let all_local : All IsLocal arguments = IfOk-at_ok (λ (v : Vec Arg _). All IsLocal v.items) c.in-Ok.is local in
    let with_help : (out-Command bare).has_globals ≡ (out-Command c.about.result).has_globals = ap (λ (f : Command-F Command). f.has_globals) c.after_help.ensures in
    let with_about : (out-Command c.about.result).has_globals ≡ (out-Command c.new.result).has_globals = ap (λ (f : Command-F Command). f.has_globals) c.about.ensures in
    IfOk-weaker c.args-in-Ok.result (AddsInTurn AddsArg bare arguments) (λ r. (out-Command r).has_globals ≡ false)
    (λ r adds. adds_local bare r arguments all_local adds (with_help ∙ with_about ∙ c.new.ensures.local))
    c.args-in-Ok.ensures
