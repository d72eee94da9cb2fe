use Rattle.std.proofs.Common.{[], inr}
use Rattle.std.proofs.lemmas.Result.{err_from_is_err_and}
use Rattle.json_tree.specs.View.{members_view}
use Rattle.profile_text.specs.Document.{document_rows}
use Rattle.profile_text.specs.Shape.{members_faults}
use Rattle.profile_text.proofs.GivesFacts.{gives_alone}
use Rattle.profile_text.proofs.ReadFacts.{document_err, document_found, document_missing, document_walked}
use Rattle.profile_text.proofs.document.parts_in.Goals as goal

pub returns-in_err-sets : goal.returns-in_err-sets
returns-in_err-sets c =
    let p = err_from_is_err_and c.from_residual.result c.from_residual.ensures.1 in
    rw (p.1, p.2) (document_err (members_view c.args.members.now) _ (gives_alone _ (members_faults document_rows [] (members_view c.args.members.now)) _ _ c.in_err-sets.ensures))

pub returns-in-Some : goal.returns-in-Some
returns-in-Some c = document_found (members_view c.args.members.now) _ _ (document_walked (members_view c.args.members.now) _ c.in_ok-sets.ensures) c.in-Some.is

pub returns-in_ok-of-in-None : goal.returns-in_ok-of-in-None
returns-in_ok-of-in-None c =
    inr (rw c.in_ok-of-in-None.ensures (document_missing (members_view c.args.members.now) _ (document_walked (members_view c.args.members.now) _ c.in_ok-sets.ensures) c.in-None.is))
