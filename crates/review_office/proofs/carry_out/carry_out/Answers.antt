use Rattle.std.proofs.Common.{sym, subst}
use Rattle.review_office.specs.Carries.{Asks, write_by}
use Rattle.review_office.proofs.carry_out.carry_out.Goals as goal

pub returns-in-Enrol : goal.returns-in-Enrol
returns-in-Enrol g c = subst (λ change. Asks g.S.Store (write_by c.args.allowed.now.caller change) c.args.conn.now c.write_enrolment.new.conn c.write_enrolment.result) (sym c.in-Enrol.is) c.write_enrolment.ensures

pub returns-in-AddRevision : goal.returns-in-AddRevision
returns-in-AddRevision g c = subst (λ change. Asks g.S.Store (write_by c.args.allowed.now.caller change) c.args.conn.now c.write_submission.new.conn c.write_submission.result) (sym c.in-AddRevision.is) c.write_submission.ensures

pub returns-in-Vote : goal.returns-in-Vote
returns-in-Vote g c = subst (λ change. Asks g.S.Store (write_by c.args.allowed.now.caller change) c.args.conn.now c.write_vote.new.conn c.write_vote.result) (sym c.in-Vote.is) c.write_vote.ensures

pub returns-in-ActOnRevision : goal.returns-in-ActOnRevision
returns-in-ActOnRevision g c = subst (λ change. Asks g.S.Store (write_by c.args.allowed.now.caller change) c.args.conn.now c.write_on_revision.new.conn c.write_on_revision.result) (sym c.in-ActOnRevision.is) (rw c.effect.ensures at c.write_on_revision.ensures)

pub returns-in-ActOnProfile : goal.returns-in-ActOnProfile
returns-in-ActOnProfile g c = subst (λ change. Asks g.S.Store (write_by c.args.allowed.now.caller change) c.args.conn.now c.write_on_profile.new.conn c.write_on_profile.result) (sym c.in-ActOnProfile.is) c.write_on_profile.ensures
