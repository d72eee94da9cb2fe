use Rattle.std.proofs.Common.{[], ◌∷◌, ◌++◌, ap, refl, ◌∙◌}
use Rattle.json.specs.Reads.{token_of}
use Rattle.json_tree.proofs.Writers.{no_token, pushed, pushed_tokens}
use Rattle.json_tree.proofs.writer.Writer.token.Goals as goal

pub invariant_of-self : goal.invariant_of-self
invariant_of-self c =
    pushed c.self.inside _ c.self.invariant (token_of c.args.token) c.requires c.put_token.ensures.utf8 c.ends_value-self-inside.ensures c.in-Ok.ensures.puts

pub invariant_of-self-in-Err : goal.invariant_of-self-in-Err
invariant_of-self-in-Err c = no_token _ refl refl

pub returns-in-Ok : goal.returns-in-Ok
returns-in-Ok c =
    let w = c.self.inside in
    let t = token_of c.args.token in
    record {
      tokens = pushed_tokens w (record { bytes = c.put_token.new.bytes; end = c.in-Ok.end; after_value = c.ends_value-self-inside.result }) c.self.invariant t c.requires
          c.put_token.ensures.utf8 c.ends_value-self-inside.ensures c.in-Ok.ensures.puts
          ∙ ap (λ ts. ts ++ t ∷ []) c.self.view_is;
    }
