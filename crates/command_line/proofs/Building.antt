-- What is made by adding arguments and commands in turn.
use Rattle.std.proofs.Common.{◌≡◌, ◌∙◌, ◌||◌, ◌++◌, List, [], ◌∷◌, Bool, true, false, map, refl, sym, ap}
use Rattle.std.proofs.lemmas.List.{map-append}
use Rattle.clap.specs.Words.{AddsArg, AddsInTurn, AddsSubcommand, App, Shape, app_of, rule_of, shape_of, with_rule, with_subcommand}
use Rattle.clap.specs.declared.builder.arg.Arg.{Arg}
use Rattle.clap.specs.declared.builder.command.Command.{Command}
use Rattle.clap.specs.declared.builder.command.Command.TheViews.{out-Command as fields_of}
use Rattle.command_line.specs.declared.parts.Parameter.{Parameter}
use Rattle.command_line.specs.Parts.{AddsCommand, AreCommands, heading_of, part_for, part_of, rule_for, with_commands, with_rules}

abbrev head_of : {X : Type 0} → X → List X → X
head_of x [] = x
head_of x (y ∷ ys) = y

abbrev tail_of : {X : Type 0} → List X → List X
tail_of [] = []
tail_of (y ∷ ys) = ys

or_no : (b : Bool) → (b || false) ≡ b
or_no true = refl
or_no false = refl

-- a command with these arguments
pub args_added : (parameters : List Parameter) (old new : Command) (args : List Arg) → AddsInTurn AddsArg old args new
    → map part_of args ≡ map part_for parameters
    → (app_of new ≡ with_rules (app_of old) (map rule_for parameters)) × ((fields_of new).has_globals ≡ (fields_of old).has_globals)
args_added [] old new [] added are = (ap app_of (sym added), ap (λ c. (fields_of c).has_globals) (sym added))
args_added [] old new (a ∷ args) added are = absurd cc
args_added (p ∷ parameters) old new [] added are = absurd cc
args_added (p ∷ parameters) old new (a ∷ args) added are =
    let is : part_of a ≡ part_for p = ap (head_of (part_of a)) are in
    let local : a.global ≡ false = ap (λ part. part.1) is in
    let rule : rule_of a ≡ rule_for p = ap (λ part. part.0) is in
    let more = args_added parameters added.0 new args added.2 (ap tail_of are) in (
      more.0 ∙ ap (λ (app : App). with_rules app (map rule_for parameters)) (added.1.shape local ∙ ap (with_rule (app_of old)) rule),
      more.1 ∙ added.1.globals ∙ ap (λ (b : Bool). (fields_of old).has_globals || b) local ∙ or_no _,
    )

-- a command with these commands below it
pub commands_added : (shapes : List Shape) (old new : Command) (made : List Command) → AddsInTurn AddsSubcommand old made new
    → AreCommands shapes made → app_of new ≡ with_commands (app_of old) shapes
commands_added [] old new [] added are = ap app_of (sym added)
commands_added [] old new (m ∷ made) added are = absurd cc
commands_added (s ∷ shapes) old new [] added are = absurd cc
commands_added (s ∷ shapes) old new (m ∷ made) added are =
    let is : heading_of m ≡ (s, false) = ap (head_of (heading_of m)) are in
    let local : (fields_of m).has_globals ≡ false = ap (λ heading. heading.1) is in
    let shape : shape_of m ≡ s = ap (λ heading. heading.0) is in
    commands_added shapes added.0 new made added.2 (ap tail_of are)
    ∙ ap (λ (app : App). with_commands app shapes) (added.1.shape local ∙ ap (with_subcommand (app_of old)) shape)

heading_is : (command : Command) (app : App) → app_of command ≡ app → (fields_of command).has_globals ≡ false
    → heading_of command ≡ (app.top, false)
heading_is command app is local =
    ap (λ (a : App). (a.top, (fields_of command).has_globals)) is ∙ ap (λ (b : Bool). (app.top, b)) local

-- one more command, the last
pub command_added : (old new : List Command) (command : Command) (app : App) → new ≡ old ++ command ∷ []
    → app_of command ≡ app → (fields_of command).has_globals ≡ false → AddsCommand app old new
command_added old new command app more is local =
    ap (map heading_of) more ∙ map-append heading_of old (command ∷ [])
    ∙ ap (λ (h : Shape × Bool). map heading_of old ++ h ∷ []) (heading_is command app is local)
