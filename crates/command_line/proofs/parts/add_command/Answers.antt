use Rattle.std.proofs.Common.{◌≡◌, ◌∙◌, ap, false, map}
use Rattle.clap.specs.Simple.{app_of_fields}
use Rattle.clap.specs.Words.{App, app_of, new_app}
use Rattle.clap.specs.declared.builder.command.Command.{Command}
use Rattle.clap.specs.declared.builder.command.Command.TheOpen.{Command-F}
use Rattle.clap.specs.declared.builder.command.Command.TheViews.{out-Command as fields_of}
use Rattle.command_line.specs.Parts.{rule_for, with_rules}
use Rattle.command_line.proofs.Building.{args_added, command_added}
use Rattle.command_line.proofs.parts.add_command.Goals as goal

pub returns : goal.returns
returns c =
    let start = c.after_help-command.result in
    let command = c.in_ok-args-2.field-0 in
    let rules = map rule_for c.args.parameters.now in
    let app : app_of start ≡ new_app c.args.name.now =
    ap app_of_fields c.after_help-command.ensures ∙ ap app_of_fields c.about.ensures ∙ c.new.ensures.app in
    let local : (fields_of start).has_globals ≡ false =
    ap (λ (f : Command-F Command). f.has_globals) c.after_help-command.ensures ∙ ap (λ (f : Command-F Command). f.has_globals) c.about.ensures ∙ c.new.ensures.local in
    let made = args_added c.args.parameters.now start command c.in_ok-args.args.items c.in_ok-args-2.ensures c.in_ok-args.ensures in
    command_added _ _ command (with_rules (new_app c.args.name.now) rules) c.in_ok-push.ensures.items
    (made.0 ∙ ap (λ (a : App). with_rules a rules) app) (made.1 ∙ local)
