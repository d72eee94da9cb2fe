use Rattle.std.proofs.Common.{refl}
use Rattle.seccomp_doc.specs.Word.{is_arch, is_call_name, is_flag}
use Rattle.office_words.specs.Words.{is_token, is_word}
use Rattle.example_tests.proofs.examples.limits.examples_of_longest_words.Goals as goal

pub returns-clause-word : goal.returns-clause-word
unfolding is_word
returns-clause-word c = refl

pub returns-clause-long_word : goal.returns-clause-long_word
unfolding is_word
returns-clause-long_word c = refl

pub returns-clause-empty_word : goal.returns-clause-empty_word
unfolding is_word
returns-clause-empty_word c = refl

pub returns-clause-token : goal.returns-clause-token
unfolding is_token
returns-clause-token c = refl

pub returns-clause-long_token : goal.returns-clause-long_token
unfolding is_token
returns-clause-long_token c = refl

pub returns-clause-empty_token : goal.returns-clause-empty_token
unfolding is_token
returns-clause-empty_token c = refl

pub returns-clause-call : goal.returns-clause-call
unfolding is_call_name
returns-clause-call c = refl

pub returns-clause-long_call : goal.returns-clause-long_call
unfolding is_call_name
returns-clause-long_call c = refl

pub returns-clause-empty_call : goal.returns-clause-empty_call
unfolding is_call_name
returns-clause-empty_call c = refl

pub returns-clause-architecture : goal.returns-clause-architecture
unfolding is_arch
returns-clause-architecture c = refl

pub returns-clause-long_architecture : goal.returns-clause-long_architecture
unfolding is_arch
returns-clause-long_architecture c = refl

pub returns-clause-flag : goal.returns-clause-flag
unfolding is_flag
returns-clause-flag c = refl

pub returns-clause-long_flag : goal.returns-clause-long_flag
unfolding is_flag
returns-clause-long_flag c = refl
