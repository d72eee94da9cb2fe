use Rattle.std.proofs.Common.{IsUtf8, sym, subst}
use Rattle.json.specs.Reads.{token_of}
use Rattle.json.specs.Print.{token_text}
use Rattle.json.proofs.Printed.Utf8.{IsUtf8-quoted, IsUtf8-key}
use Rattle.json_tree.proofs.token.put_plain_token.Goals as goal

pub returns-in-Key-clause-utf8 : goal.returns-in-Key-clause-utf8
returns-in-Key-clause-utf8 c = subst (λ k. IsUtf8 (token_text (token_of k))) (sym c.in-Key.is) (IsUtf8-key _ (subst IsUtf8 c.as_bytes.ensures.value c.as_bytes.ensures.utf8))

pub returns-in-String-clause-utf8 : goal.returns-in-String-clause-utf8
returns-in-String-clause-utf8 c = subst (λ k. IsUtf8 (token_text (token_of k))) (sym c.in-String.is) (IsUtf8-quoted _ (subst IsUtf8 c.as_bytes-in-String.ensures.value c.as_bytes-in-String.ensures.utf8))
