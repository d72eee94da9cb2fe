use Rattle.std.proofs.Common.{sym, ap, ◌∙◌}
use Rattle.json.specs.Print.{print}
use Rattle.json_tree.proofs.Writers.{shows_printed}
use Rattle.json_tree.proofs.writer.written_text.Goals as goal

pub returns : goal.returns
returns c =
    ap (λ v. v.items) c.from_utf8_unchecked.ensures.value ∙ c.truncate.ensures.items ∙ c.out.invariant.text ∙ ap print (sym (shows_printed c.out.inside c.out.invariant) ∙ c.out.view_is)
