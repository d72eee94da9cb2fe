use Rattle.std.proofs.Common.{inr}
use Rattle.std.proofs.lemmas.Result.{err_from_is_err_and}
use Rattle.std.specs.Prelude.{codes}
use Rattle.json_tree.specs.View.{members_view}
use Rattle.profile_text.specs.FilterFound.{filter_seen}
use Rattle.profile_text.specs.FilterShape.{seccomp_rows}
use Rattle.profile_text.proofs.FilterPicks.{filter_walked}
use Rattle.profile_text.proofs.ObjectFacts.{object_refused, filter_read, filter_without_default}
use Rattle.profile_text.proofs.filter.filter_at.Goals as goal

pub returns-in_err-architectures : goal.returns-in_err-architectures
returns-in_err-architectures c =
    let p = err_from_is_err_and c.from_residual.result c.from_residual.ensures.1 in
    rw (p.1, p.2) (object_refused seccomp_rows (codes "/seccomp") (members_view c.args.members.now) _ _ _ c.in_err-architectures.ensures)

pub returns-in-Some : goal.returns-in-Some
returns-in-Some c = filter_read (codes "/seccomp") (members_view c.args.members.now) (filter_seen c.in_ok-architectures.field-0) _ (filter_walked (codes "/seccomp") (members_view c.args.members.now) _ _ _ (filter_seen c.in_ok-architectures.field-0) c.new.ensures.items c.new-2.ensures.items c.new-3.ensures.items c.in_ok-architectures.ensures) c.in-Some.is

pub returns-in_ok-of_member-in-None : goal.returns-in_ok-of_member-in-None
returns-in_ok-of_member-in-None c =
    inr (rw c.in_ok-of_member-in-None.ensures (filter_without_default (codes "/seccomp") (members_view c.args.members.now) (filter_seen c.in_ok-architectures.field-0) (filter_walked (codes "/seccomp") (members_view c.args.members.now) _ _ _ (filter_seen c.in_ok-architectures.field-0) c.new.ensures.items c.new-2.ensures.items c.new-3.ensures.items c.in_ok-architectures.ensures) c.in-None.is))
