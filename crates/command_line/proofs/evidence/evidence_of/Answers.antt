use Rattle.std.proofs.Common.{None, codes, refl}
use Rattle.clap.specs.Words.{found_of, rows_of}
use Rattle.command_line.proofs.Getters.{lacks, text_is}
use Rattle.command_line.proofs.RefusalFacts.{lacks_value, no_evidence}
use Rattle.command_line.proofs.evidence.evidence_of.Goals as goal

pub returns-clause-command : goal.returns-clause-command
returns-clause-command c =
    let f = found_of c.args.given.now in (
      refl,
      record {
        journal = text_is f (codes "journal") _ c.in_ok-journal.ensures;
        team = text_is f (codes "team") _ c.in_ok-team.ensures;
        profile = text_is f (codes "profile") _ c.in_ok-profile.ensures;
        revision = c.in_ok-revision.ensures.number;
        line = c.in_ok-line.ensures.line;
      },
    )

pub returns-in_err-journal-clause-lacking : goal.returns-in_err-journal-clause-lacking
returns-in_err-journal-clause-lacking c =
    let f = found_of c.args.given.now in
    lacks _ _ (no_evidence (rows_of f) (λ words h. lacks_value _ _ (text_is f (codes "journal") None c.in_err-journal.ensures) h.journal))

pub returns-in_err-team-clause-lacking : goal.returns-in_err-team-clause-lacking
returns-in_err-team-clause-lacking c =
    let f = found_of c.args.given.now in
    lacks _ _ (no_evidence (rows_of f) (λ words h. lacks_value _ _ (text_is f (codes "team") None c.in_err-team.ensures) h.team))

pub returns-in_err-profile-clause-lacking : goal.returns-in_err-profile-clause-lacking
returns-in_err-profile-clause-lacking c =
    let f = found_of c.args.given.now in
    lacks _ _ (no_evidence (rows_of f) (λ words h. lacks_value _ _ (text_is f (codes "profile") None c.in_err-profile.ensures) h.profile))

pub returns-in_err-revision-clause-lacking : goal.returns-in_err-revision-clause-lacking
returns-in_err-revision-clause-lacking c =
    let f = found_of c.args.given.now in
    lacks _ _ (no_evidence (rows_of f) (λ words h. c.in_err-revision.ensures.lacking words.revision h.revision))

pub returns-in_err-line-clause-lacking : goal.returns-in_err-line-clause-lacking
returns-in_err-line-clause-lacking c =
    let f = found_of c.args.given.now in
    lacks _ _ (no_evidence (rows_of f) (λ words h. c.in_err-line.ensures.lacking words.line h.line))
