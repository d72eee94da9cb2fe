-- What commands are made of, as clap reads it.
use Rattle.std.specs.Prelude.{◌≡◌, ◌∷◌, ◌++◌, [], ℕ, Bool, List, Some, false, true, map}
use Rattle.clap.specs.Words.{App, Rule, Shape, new_app, new_rule, rule_of, shape_of, with_rule}
use Rattle.clap.specs.Words.{with_subcommand}
use Rattle.clap.specs.declared.builder.action.ArgAction.TheVariants.{Append, SetTrue}
use Rattle.clap.specs.declared.builder.arg.Arg.{Arg}
use Rattle.clap.specs.declared.builder.command.Command.{Command}
use Rattle.clap.specs.declared.builder.command.Command.TheViews.{out-Command as fields_of}
use Rattle.clap.specs.declared.builder.value_parser.ValueParser.TheVariants.{Unsigned}
use Rattle.command_line.specs.declared.parts.Form.{Form}
use Rattle.command_line.specs.declared.parts.Form.TheVariants.{Needed, Several, Flag, Valued}
use Rattle.command_line.specs.declared.parts.Form.TheVariants.{NeededNumber, Number, NumberOr}
use Rattle.command_line.specs.declared.parts.Parameter.{Parameter}

-- the command with `--version`
abbrev pub with_version : App → App
with_version app = record app { top = record app.top { has_version = true } }

-- the command with each of these arguments
abbrev pub with_rules : App → List Rule → App
with_rules app [] = app
with_rules app (rule ∷ rules) = with_rules (with_rule app rule) rules

-- the command with each of these commands below it
abbrev pub with_commands : App → List Shape → App
with_commands app [] = app
with_commands app (shape ∷ shapes) = with_commands (with_subcommand app shape) shapes

-- a value that has to be there, by its place
abbrev pub needed_rule : List ℕ → Rule
needed_rule id = record (new_rule id) { value_names = 1; required = true }

-- a number from low to high that has to be there, by its place
abbrev pub needed_number_rule : List ℕ → ℕ → ℕ → Rule
needed_number_rule id low high = record (needed_rule id) { parser = Some (Unsigned low high) }

-- values by their places, as many as there are
abbrev pub several_rule : List ℕ → Rule
several_rule id = record (new_rule id) { value_names = 1; action = Some Append }

-- `--id VALUE`
abbrev pub option_rule : List ℕ → Rule
option_rule id = record (new_rule id) { long = Some id; value_names = 1 }

-- `--id NUMBER`, of a number from low to high
abbrev pub number_rule : List ℕ → ℕ → ℕ → Rule
number_rule id low high = record (option_rule id) { parser = Some (Unsigned low high) }

-- `--id`
abbrev pub flag_rule : List ℕ → Rule
flag_rule id = record (new_rule id) { long = Some id; action = Some SetTrue }

-- an argument that is given in this way
abbrev pub rule_in : List ℕ → Form → Rule
rule_in id (Needed shown) = needed_rule id
rule_in id (NeededNumber shown low high) = needed_number_rule id low high
rule_in id (Several shown) = several_rule id
rule_in id Flag = flag_rule id
rule_in id (Valued shown) = option_rule id
rule_in id (Number shown low high) = number_rule id low high
rule_in id (NumberOr shown low high default) =
    record (number_rule id low high) { defaults = default.now ∷ [] }

abbrev pub rule_for : Parameter → Rule
rule_for parameter = rule_in parameter.id.now parameter.form

-- the command of this name with these arguments
abbrev pub app_of_parts : List ℕ → List Parameter → App
app_of_parts name parameters = with_rules (new_app name) (map rule_for parameters)

-- what clap reads of an argument, and whether it is one of the commands below too
abbrev pub part_of : Arg → Rule × Bool
part_of arg = (rule_of arg, arg.global)

abbrev pub part_for : Parameter → Rule × Bool
part_for parameter = (rule_for parameter, false)

-- what clap reads of a command above it, and whether it has arguments of the commands below too
abbrev pub heading_of : Command → Shape × Bool
heading_of command = (shape_of command, (fields_of command).has_globals)

-- the new commands are the old ones, and then this one
abbrev pub AddsCommand : App → List Command → List Command → Type 0
AddsCommand app old new = map heading_of new ≡ map heading_of old ++ (app.top, false) ∷ []

-- the commands are just these, in this order
abbrev pub AreCommands : List Shape → List Command → Type 0
AreCommands shapes made = map heading_of made ≡ map (λ shape. (shape, false)) shapes
