use Rattle.std.proofs.Common.{None, codes, refl}
use Rattle.clap.specs.Words.{found_of, rows_of}
use Rattle.command_line.proofs.Getters.{flag_is, lacks, text_is}
use Rattle.command_line.proofs.RefusalFacts.{lacks_value, no_history}
use Rattle.command_line.proofs.history.history_of.Goals as goal

pub returns-clause-command : goal.returns-clause-command
returns-clause-command c =
    let f = found_of c.args.given.now in (
      refl,
      record {
        journal = text_is f (codes "journal") _ c.in_ok-journal.ensures;
        team = text_is f (codes "team") _ c.get_str-team.ensures;
        profile = text_is f (codes "profile") _ c.get_str-profile.ensures;
        user = text_is f (codes "user") _ c.get_str-user.ensures;
        since = c.in_ok-since.ensures.number;
        json = flag_is f (codes "json") _ c.get_flag-json.ensures.none c.get_flag-json.ensures.value c.get_flag-json.ensures.other;
      },
    )

pub returns-in_err-journal-clause-lacking : goal.returns-in_err-journal-clause-lacking
returns-in_err-journal-clause-lacking c =
    let f = found_of c.args.given.now in
    lacks _ _ (no_history (rows_of f) (λ words h. lacks_value _ _ (text_is f (codes "journal") None c.in_err-journal.ensures) h.journal))

pub returns-in_err-since-clause-lacking : goal.returns-in_err-since-clause-lacking
returns-in_err-since-clause-lacking c =
    let f = found_of c.args.given.now in
    lacks _ _ (no_history (rows_of f) (λ words h. c.in_err-since.ensures.lacking words.since h.since))
