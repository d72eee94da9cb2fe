-- What is told of the revisions of a profile.
use Rattle.std.proofs.Common.{◌≡◌, ◌∙◌, ℕ, List, map, take, length, min, ap, arith}
use Rattle.std.specs.Prelude.{nat_lt}
use Rattle.std.proofs.lemmas.Bool.Decides.{nat_tests}
use Rattle.std.proofs.lemmas.List.{length-map, length-take, take-map, take-take}
use Rattle.office_words.specs.declared.listed.ProfileRevision.{ProfileRevision}
use Rattle.review_policy.specs.declared.answer.Reply.TheVariants.{Revisions}
use Rattle.office_words.specs.Limits.{max_listed}
use Rattle.office_words.specs.declared.row.RevisionRow.{RevisionRow}
use Rattle.office_words.specs.Lists.{told_revision}
use Rattle.office_store.specs.Lists.{most_read}
use Rattle.office_policy.specs.Newest.{newest_told}

-- of one more than a list has, the list tells the first, and whether there are more
pub page_told : (rows : List RevisionRow) (told : List ProfileRevision) → told ≡ map told_revision (take most_read rows)
    → Revisions (take max_listed told) (nat_lt max_listed (length told)) ≡ newest_told rows
page_told rows told is = λ i. Revisions (first i) (longer i)
  where
    above : (n : ℕ) → nat_lt max_listed (min most_read n) ≡ nat_lt max_listed n
    above n = grind (arith, nat_tests)

    first : take max_listed told ≡ map told_revision (take max_listed rows)
    first = ap (take max_listed) is ∙ take-map told_revision max_listed (take most_read rows) ∙ ap (map told_revision) (take-take max_listed most_read rows (omega arith))

    longer : nat_lt max_listed (length told) ≡ nat_lt max_listed (length rows)
    longer = ap (λ l. nat_lt max_listed (length l)) is ∙ ap (nat_lt max_listed) (length-map (take most_read rows) told_revision ∙ length-take most_read rows) ∙ above (length rows)
