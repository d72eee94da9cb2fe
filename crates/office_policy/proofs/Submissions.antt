-- The last submission of a profile, and the number after it.
use Rattle.std.proofs.Common.{◌≡◌, suc, Some, None, Option, sym, ap, arith}
use Rattle.std.specs.Prelude.{option_map}
use Rattle.office_words.specs.declared.name.ProfileName.{ProfileName}
use Rattle.office_words.specs.declared.row.RevisionRow.{RevisionRow}
use Rattle.office_words.specs.Reads.{IsLast}
use Rattle.office_policy.specs.History.{History}
use Rattle.office_policy.specs.Revisions.{revision_of, revision_count, last_revision, number_of}
use Rattle.office_policy.specs.TablesOf.{tables_of}
use Rattle.office_policy.proofs.RevisionFacts.{none_above, none_last, number_is, last_is}
use Rattle.office_policy.proofs.StateFacts.{row_at}

module _ (h : History) (p : ProfileName) where
  -- the last revision of the tables is that of the history
  pub last_found : (last : Option RevisionRow) → IsLast (tables_of h) p last → last ≡ last_revision h p
  last_found last is = sym (last_is h p last is)

  -- its number is how many there are
  pub last_number : (last : Option RevisionRow) → IsLast (tables_of h) p last → number_of last ≡ revision_count h p
  last_number None is = sym (none_last h p (is (revision_count h p)))
  last_number (Some r) is = sym (number_is h p r is)

  -- and no revision has the number after it
  pub next_free : revision_of h p (suc (revision_count h p)) ≡ None
  next_free =
      ap (option_map (row_at h p (suc (revision_count h p)) (revision_count h p)))
      (none_above h p (suc (revision_count h p)) (omega arith))
