use Rattle.std.proofs.Common.{◌≡◌, ◌∙◌, ap, map, string_bytes, subst}
use Rattle.std.proofs.lemmas.Result.{IfOk-weaker}
use Rattle.clap.specs.Words.{App, FailsBy, app_of, fault_of, is_simple, is_simple_and_free, subcommand_of}
use Rattle.command_line.specs.Commands.{office_app}
use Rattle.command_line.proofs.Getters.{office_free, office_simple}
use Rattle.command_line.proofs.words.matches_of.Goals as goal

pub returns : goal.returns
returns c =
    let is : app_of c.in_ok-command.command ≡ office_app = c.in_ok-command.ensures in
    let parse = c.try_get_matches_from in
    let words = map string_bytes c.args.words.now in
    record {
      rows = IfOk-weaker parse.result _ _ (λ m h. (h (ap is_simple is ∙ office_simple)).1 ∙ ap (λ (a : App). subcommand_of a words) is) parse.ensures.matches;
      kinds = subst (λ (a : App). FailsBy (fault_of a words) parse.result) is (parse.ensures.kinds (ap is_simple_and_free is ∙ office_free));
    }
