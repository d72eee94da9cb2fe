use Rattle.std.proofs.Common.{inr}
use Rattle.std.proofs.lemmas.Result.{err_from_is_err_and}
use Rattle.json_tree.specs.View.{members_view}
use Rattle.profile_text.specs.FilterShape.{arg_rows}
use Rattle.profile_text.specs.Place.{path_of}
use Rattle.profile_text.proofs.FilterPicks.{arg_walked}
use Rattle.profile_text.proofs.ObjectFacts.{object_refused, arg_read, arg_without_index, arg_without_op, arg_without_value}
use Rattle.profile_text.proofs.argument.arg_at.Goals as goal

pub returns-in_err-found : goal.returns-in_err-found
returns-in_err-found c =
    let p = err_from_is_err_and c.from_residual.result c.from_residual.ensures.1 in
    rw (p.1, p.2) (object_refused arg_rows (path_of c.args.place) (members_view c.args.members.now) _ _ _ c.in_err-found.ensures)

pub returns-in_default : goal.returns-in_default
returns-in_default c =
    inr (rw c.in_ok-of_member.ensures (arg_without_index (path_of c.args.place) (members_view c.args.members.now) _ (arg_walked (path_of c.args.place) (members_view c.args.members.now) _ c.in_ok-found.ensures) c.in_default.is))

pub returns-in_default-op : goal.returns-in_default-op
returns-in_default-op c =
    inr (rw c.in_ok-of_member-2.ensures (arg_without_op (path_of c.args.place) (members_view c.args.members.now) _ _ (arg_walked (path_of c.args.place) (members_view c.args.members.now) _ c.in_ok-found.ensures) c.in-Some.is c.in_default-op.is))

pub returns-in_default-value : goal.returns-in_default-value
returns-in_default-value c =
    inr (rw c.in_ok-of_member-3.ensures (arg_without_value (path_of c.args.place) (members_view c.args.members.now) _ _ _ (arg_walked (path_of c.args.place) (members_view c.args.members.now) _ c.in_ok-found.ensures) c.in-Some.is c.in-Some-op.is c.in_default-value.is))

pub returns : goal.returns
returns c = arg_read (path_of c.args.place) (members_view c.args.members.now) _ _ _ _ (arg_walked (path_of c.args.place) (members_view c.args.members.now) _ c.in_ok-found.ensures) c.in-Some.is c.in-Some-op.is c.in-Some-value.is
