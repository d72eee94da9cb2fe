use Rattle.journal_office.proofs.OpenFacts.{handed_back, opened}
use Rattle.journal_office.proofs.opening.reopen.Goals as goal

pub returns-in-Ok-clause-opened : goal.returns-in-Ok-clause-opened
returns-in-Ok-clause-opened g c =
    opened g.S.Store g.D.Disk c.args.mark c.args.office c.mend.new.office c.args.log c.mend.new.log c.in-Ok.is_settled c.new.result c.new.ensures c.in-Ok.ensures

pub returns-in-Err-clause-back : goal.returns-in-Err-clause-back
returns-in-Err-clause-back g c = handed_back g.S.Store g.D.Disk c.args.mark c.args.office c.mend.new.office c.args.log c.mend.new.log c.in-Err.why c.in-Err.ensures
