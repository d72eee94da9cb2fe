use Rattle.std.proofs.Common.{◌≡◌, inl, inr, ◌≤◌, List, [], ◌∷◌, ℕ, true, length, subst, arith}
use Rattle.std.proofs.lemmas.Bool.{and_parts}
use Rattle.std.proofs.lemmas.Bool.Decides.{nat_tests}
use Rattle.std.specs.Prelude.{nat_le, ◌&&◌}
use Rattle.std.specs.List.{list_all}
use Rattle.sqlite.specs.Effect.{Database}
use Rattle.sqlite.specs.Order.{Row}
use Rattle.sqlite.specs.declared.types.Value.TheVariants.{Null}
use Rattle.sqlite_rules.specs.Lists.{Has}
use Rattle.office_words.specs.declared.name.ProfileName.{ProfileName}
use Rattle.office_words.specs.Words.{is_word, is_word_byte}
use Rattle.office_words.specs.declared.fault.Fault.{Fault}
use Rattle.office_words.specs.declared.fault.Fault.TheVariants.{NoMemory, Disk, Full, NotAnOffice}
use Rattle.office_rows.specs.Refusals.{IsBig}
use Rattle.office_store.specs.Entries.{user_row, vote_row, baseline_entry, baseline_row, hold_row}
use Rattle.office_store.specs.Refusing.{LacksPlace, deletes_hold}
use Rattle.office_store.proofs.refusing.only_a_revision_is_too_big.Goals as goal

below : (n : ℕ) → nat_le n 64 ≡ true → n ≤ 64
below n e = grind (arith, nat_tests)

word_short : (bytes : List ℕ) → is_word bytes ≡ true → length bytes ≤ 64
unfolding is_word
word_short bytes e =
    below (length bytes) (and_parts (nat_le 1 (length bytes)) (nat_le (length bytes) 64) (and_parts (nat_le 1 (length bytes) && nat_le (length bytes) 64) (list_all is_word_byte bytes) e).0).1

-- the one row is too big
alone : (new : Row) → (row : Row) × Has (new ∷ []) row × IsBig row → IsBig new
alone new (row, inl is, big) = subst IsBig is big
alone new (row, inr none, big) = absurd none

pub returns-clause-user : goal.returns-clause-user
returns-clause-user c = λ u db formed lacks. omega (arith, word_short u.name formed.name, word_short u.team formed.team, formed.digest, alone (Null ∷ user_row u) lacks)

pub returns-clause-vote : goal.returns-clause-vote
returns-clause-vote c = λ v db formed lacks.
    omega (arith, word_short v.0.profile.team formed.profile.team, word_short v.0.profile.profile formed.profile.profile, word_short v.0.voter formed.voter, alone (Null ∷ vote_row v) lacks)

pub returns-clause-baseline : goal.returns-clause-baseline
returns-clause-baseline c = λ p n db formed lacks. omega (arith, word_short p.team formed.team, word_short p.profile formed.profile, alone (Null ∷ baseline_row (baseline_entry p n)) lacks)

pub returns-clause-hold : goal.returns-clause-hold
returns-clause-hold c = λ p db formed lacks. omega (arith, word_short p.team formed.team, word_short p.profile formed.profile, alone (Null ∷ hold_row p) lacks)

pub returns-clause-end_of_hold : goal.returns-clause-end_of_hold
returns-clause-end_of_hold c = λ p db f lacks. never p db f lacks
  where
    never : (p : ProfileName) (db : Database) (f : Fault) → LacksPlace (deletes_hold p) db f → ⊥
    never p db (NoMemory _) lacks = lacks
    never p db Disk lacks = lacks
    never p db Full lacks = lacks.1
    never p db NotAnOffice lacks = lacks

pub returns-clause-form : goal.returns-clause-form
returns-clause-form c = λ w db lacks. lacks
