-- A command with a list of arguments.
use Rattle.std.proofs.Common.{◌≡◌, ◌∙◌, Bool, ◌||◌, false, ap, ap₂, sym, List, [], ◌∷◌, ◌++◌, append_assoc, map, fold, All}
use Rattle.std.proofs.lemmas.List.{append-nil}
use Rattle.std.proofs.lemmas.List.Elements.{All-head, All-tail}
use Rattle.clap.specs.Simple.{new_shape}
use Rattle.clap.specs.Words.{AddsArg, AddsInTurn, App, Rule, Text, app_of, rule_of, with_rule}
use Rattle.clap.specs.declared.builder.arg.Arg.{Arg}
use Rattle.clap.specs.declared.builder.command.Command.{Command}
use Rattle.clap.specs.declared.builder.command.Command.TheViews.{out-Command}

abbrev pub IsLocal : Arg → Type 0
IsLocal a = a.global ≡ false

-- arguments that are not global add their rules in turn
pub adds_rules : (old new : Command) (args : List Arg) → All IsLocal args → AddsInTurn AddsArg old args new
    → app_of new ≡ fold with_rule (app_of old) (map rule_of args)
adds_rules old new [] local adds = ap app_of (sym adds)
adds_rules old new (a ∷ rest) local adds =
    adds_rules adds.0 new rest (All-tail IsLocal a rest local) adds.2
    ∙ ap (λ (app : App). fold with_rule app (map rule_of rest)) (adds.1.shape (All-head IsLocal a rest local))

-- and leave no global argument where there was none
pub adds_local : (old new : Command) (args : List Arg) → All IsLocal args → AddsInTurn AddsArg old args new
    → (out-Command old).has_globals ≡ false → (out-Command new).has_globals ≡ false
adds_local old new [] local adds none = rw adds at none
adds_local old new (a ∷ rest) local adds none =
    adds_local adds.0 new rest (All-tail IsLocal a rest local) adds.2
    (adds.1.globals ∙ ap₂ (λ (x y : Bool). x || y) none (All-head IsLocal a rest local))

-- the shape of a command with these rules
pub with_rules : (name : Text) (before rules : List Rule)
    → (fold with_rule (record { top = record (new_shape name) { rules = before }; subs = [] }) rules).top ≡ record (new_shape name) { rules = before ++ rules }
with_rules name before [] = ap (λ (all : List Rule). record (new_shape name) { rules = all }) (sym (append-nil before))
with_rules name before (rule ∷ rules) =
    with_rules name (before ++ rule ∷ []) rules
    ∙ ap (λ (all : List Rule). record (new_shape name) { rules = all }) (append_assoc before (rule ∷ []) rules)
