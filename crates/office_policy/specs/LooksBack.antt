-- What is found by looking back over the history of an office.
use Rattle.std.specs.Prelude.{◌≡◌}
use Rattle.office_words.specs.Tables.{Tables}
use Rattle.office_policy.specs.History.{History}
use Rattle.office_policy.specs.Lawful.{IsLawfulHistory}
use Rattle.office_policy.specs.TablesOf.{tables_of}

-- what looking back gives, over the tables of a lawful history
abbrev pub LooksBack : {A : Type 0} → (History → A) → Tables → A → Type 0
LooksBack f t a = (h : History) → IsLawfulHistory h → t ≡ tables_of h → a ≡ f h
