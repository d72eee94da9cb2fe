use Rattle.std.proofs.Common.{inr, ap, option_map}
use Rattle.std.proofs.lemmas.Result.{err_from_is_err_and}
use Rattle.json_tree.specs.View.{members_view}
use Rattle.profile_text.specs.FilterFound.{entry_seen}
use Rattle.profile_text.specs.FilterShape.{entry_rows}
use Rattle.profile_text.specs.Place.{path_of}
use Rattle.profile_text.specs.declared.place.Place.TheVariants.{Entry}
use Rattle.profile_text.proofs.FilterPicks.{entry_walked}
use Rattle.profile_text.proofs.ObjectFacts.{object_refused, entry_read, entry_without_action, entry_without_names}
use Rattle.profile_text.proofs.entry.entry_at.Goals as goal

pub returns-in_err-word : goal.returns-in_err-word
returns-in_err-word c =
    let p = err_from_is_err_and c.from_residual.result c.from_residual.ensures.1 in
    rw (p.1, p.2) (object_refused entry_rows (path_of (Entry c.args.entry)) (members_view c.args.members.now) _ _ _ c.in_err-word.ensures)

pub returns-in_default : goal.returns-in_default
returns-in_default c =
    inr (rw c.in_ok-of_member.ensures (entry_without_action (path_of (Entry c.args.entry)) (members_view c.args.members.now) (entry_seen c.in_ok-word.field-0) (entry_walked (path_of (Entry c.args.entry)) (members_view c.args.members.now) _ (entry_seen c.in_ok-word.field-0) c.new.ensures.items c.in_ok-word.ensures) c.in_default.is))

pub returns-in_default-names : goal.returns-in_default-names
returns-in_default-names c =
    inr (rw c.in_ok-of_member-2.ensures (entry_without_names (path_of (Entry c.args.entry)) (members_view c.args.members.now) (entry_seen c.in_ok-word.field-0) _ (entry_walked (path_of (Entry c.args.entry)) (members_view c.args.members.now) _ (entry_seen c.in_ok-word.field-0) c.new.ensures.items c.in_ok-word.ensures) c.in-Some.is (ap (option_map (λ names. names.items)) c.in_default-names.is)))

pub returns : goal.returns
returns c =
    entry_read (path_of (Entry c.args.entry)) (members_view c.args.members.now) (entry_seen c.in_ok-word.field-0) _ _ (entry_walked (path_of (Entry c.args.entry)) (members_view c.args.members.now) _ (entry_seen c.in_ok-word.field-0) c.new.ensures.items c.in_ok-word.ensures) c.in-Some.is (ap (option_map (λ names. names.items)) c.in-Some-names.is)
