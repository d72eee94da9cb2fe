use Rattle.std.proofs.Common.{◌≡◌, ◌∙◌, ap, codes}
use Rattle.std.proofs.lemmas.Result.{IfOk-weaker}
use Rattle.clap.specs.Simple.{app_of_fields}
use Rattle.clap.specs.Words.{App, app_of, new_app}
use Rattle.command_line.specs.Commands.{commands, office_app}
use Rattle.command_line.specs.Parts.{with_commands, with_version}
use Rattle.command_line.proofs.Building.{commands_added}
use Rattle.command_line.proofs.words.office_command.Goals as goal

pub returns : goal.returns
unfolding office_app
returns c =
    let start = c.after_help-office.result in
    let app : app_of start ≡ with_version (new_app (codes "office")) =
    ap app_of_fields c.after_help-office.ensures ∙ ap app_of_fields c.about.ensures ∙ ap app_of_fields c.version.ensures
    ∙ ap with_version c.new.ensures.app in
    let made = commands_added commands start c.in_ok-subcommands.field-0 c.in_ok-commands.commands.items c.in_ok-subcommands.ensures c.in_ok-commands.ensures in
    IfOk-weaker c.bin_name.result _ _ (λ r h. ap app_of_fields h.0 ∙ made ∙ ap (λ (a : App). with_commands a commands) app) c.bin_name.ensures
