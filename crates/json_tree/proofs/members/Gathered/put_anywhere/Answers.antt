use Rattle.std.proofs.Common.{◌∙◌, sym, ap}
use Rattle.serde_json.specs.Data.{put}
use Rattle.json_tree.specs.Gathered.{gathered_view}
use Rattle.json_tree.specs.View.{view, members_view}
use Rattle.json_tree.proofs.Views.{members_view-insert_entry, rising_put}
use Rattle.json_tree.proofs.members.Gathered.put_anywhere.Goals as goal

pub returns-in_ok-put_among-in-Few-clause-ordered : goal.returns-in_ok-put_among-in-Few-clause-ordered
returns-in_ok-put_among-in-Few-clause-ordered c =
    rw c.in_ok-put_among-in-Few.ensures (rising_put c.args.name.now (view c.args.value) (members_view c.in-Few.few.items) (rw c.in-Few.is at c.requires))

pub returns-in_ok-insert-in-Few-clause-members : goal.returns-in_ok-insert-in-Few-clause-members
returns-in_ok-insert-in-Few-clause-members c =
    ap members_view c.in_ok-insert-in-Few.ensures.entries ∙ members_view-insert_entry c.in_ok-many-in-Few.many.entries c.args.name c.args.value
    ∙ ap (put c.args.name.now (view c.args.value)) (c.in_ok-many-in-Few.ensures ∙ ap (λ few. members_view few.items) c.replace.ensures.value ∙ sym (ap gathered_view c.in-Few.is))

pub returns-in_ok-insert-in-Many-clause-members : goal.returns-in_ok-insert-in-Many-clause-members
returns-in_ok-insert-in-Many-clause-members c =
    ap members_view c.in_ok-insert-in-Many.ensures.entries ∙ members_view-insert_entry c.in-Many.many.entries c.args.name c.args.value
    ∙ ap (put c.args.name.now (view c.args.value)) (sym (ap gathered_view c.in-Many.is))
