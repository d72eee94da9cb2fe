use Rattle.std.specs.Prelude.{⊤}
use Rattle.std.specs.Fmt.{digits}
use Rattle.serde_json.proofs.OnLiterals.{serde_json_on_literals}
use Rattle.http_requests.specs.Message.{message_from, phrase_of}
use Rattle.json_requests.specs.Answers.{answer_text}

-- what unfolds to compute the response to an answer that is written out
unfoldable pub response_on_literals : ⊤
unfolding digits serde_json_on_literals message_from phrase_of answer_text
response_on_literals = tt
