use Rattle.std.proofs.Common.{◌≡◌, ◌∷◌, [], Bool, true, false, pos, cond, codes, Option, Some, None, refl, arith}
use Rattle.std.specs.Prelude.{option_map}
use Rattle.std.proofs.lemmas.List.Sorted.{IsPermutation-refl}
use Rattle.office_words.specs.Words.{is_word}
use Rattle.office_store.proofs.Columns.{word_is_utf8}
use Rattle.office_founding.specs.Examples.{old_user, old_revision, old_vote, old_baseline}
use Rattle.office_founding.proofs.examples.examples_of_databases_of_schema_1.Goals as goal

-- what is found of an entry, where it is the one
one_found : {K X : Type 0} (b : Bool) (e : K × X) → cond b (Some e.1) None ≡ option_map (λ (x : K × X). x.1) (cond b (Some e) None)
one_found true e = refl
one_found false e = refl

pub returns-clause-rows : goal.returns-clause-rows
unfolding is_word
returns-clause-rows c = λ db has. record {
  schema = has.schema;
  sound = has.sound;
  office = has.office;
  listed = omega arith;
  users = record {
    entries = old_user ∷ [];
    kept = record { kept = (pos 1, old_user) ∷ []; rows_are = has.users; apart = (tt, tt); same = IsPermutation-refl (old_user ∷ []) };
    own_keys = (tt, tt);
    formed = (record { name = refl; team = refl; roles = omega arith; digest = refl }, tt);
  };
  users_are = λ name. refl;
  revisions = record {
    entries = old_revision ∷ [];
    kept = record { kept = (pos 1, old_revision) ∷ []; rows_are = has.revisions; apart = (tt, tt); same = IsPermutation-refl (old_revision ∷ []) };
    own_keys = (tt, tt);
    formed = (record { profile = record { team = refl; profile = refl }; number = omega arith; author = refl; body = word_is_utf8 (codes "text") refl; digest = refl }, tt);
  };
  revisions_are = λ p n. one_found _ old_revision;
  votes = record {
    entries = old_vote ∷ [];
    kept = record { kept = (pos 1, old_vote) ∷ []; rows_are = has.votes; apart = (tt, tt); same = IsPermutation-refl (old_vote ∷ []) };
    own_keys = (tt, tt);
    formed = (record { profile = record { team = refl; profile = refl }; number = omega arith; voter = refl }, tt);
  };
  votes_are = λ p n voter. one_found _ old_vote;
  baselines = record {
    entries = old_baseline ∷ [];
    kept = record { kept = (pos 1, old_baseline) ∷ []; rows_are = has.baselines; apart = (tt, tt); same = IsPermutation-refl (old_baseline ∷ []) };
    own_keys = (tt, tt);
    formed = (record { team = refl; profile = refl; number = omega arith }, tt);
  };
  baselines_are = λ team. one_found _ old_baseline;
  none_held = λ p. refl;
}
