-- What a few reads find together is what looking back finds.
use Rattle.std.proofs.Common.{◌≡◌, ◌∙◌, ◌↔◌, ◌==◌, ℕ, suc, List, Bool, true, false, not, Option, Some, None, Ok, sym, map, take, ap, subst}
use Rattle.std.specs.Prelude.{option_map, unwrap_or}
use Rattle.sqlite.specs.State.{State}
use Rattle.office_words.specs.declared.name.ProfileName.{ProfileName}
use Rattle.office_words.specs.declared.listed.ProfileRevision.{ProfileRevision}
use Rattle.office_words.specs.Limits.{max_revisions}
use Rattle.office_words.specs.declared.row.RevisionRow.{RevisionRow}
use Rattle.office_words.specs.Tables.{Tables}
use Rattle.office_words.specs.Lists.{IsAuthor, AreBelow, AreNewest, told_revision}
use Rattle.office_store.specs.Calls.{IsRead}
use Rattle.office_store.specs.Briefs.{brief_of, IsBriefOf}
use Rattle.office_store.specs.Lists.{most_read}
use Rattle.office_store.specs.declared.briefs.Brief.{Brief}
use Rattle.office_words.specs.Reads.{HasRevision, IsIssued}
use Rattle.office_policy.specs.Revisions.{is_author, revision_count, issued_revision}
use Rattle.office_policy.specs.LooksBack.{LooksBack}
use Rattle.office_policy.specs.History.{History}
use Rattle.office_policy.specs.Lawful.{IsLawfulHistory}
use Rattle.office_policy.specs.Newest.{revisions_before}
use Rattle.office_policy.specs.TablesOf.{tables_of}
use Rattle.office_policy.proofs.LookUps.{author_is, found_is}
use Rattle.office_policy.proofs.IssuedFacts.{issued_is}
use Rattle.office_policy.proofs.NewestFacts.{below_is, all_below}
use Rattle.office_judging.specs.Looked.{newest_at}
use Rattle.office_judging.proofs.Judging.{read_as}

not_twice : (a b : Bool) → a ≡ not b → not a ≡ b
not_twice a true e = ap not e
not_twice a false e = ap not e

module _ (h : History) (lawful : IsLawfulHistory h) (t : Tables) (same : t ≡ tables_of h) (q p : ProfileName) (is : q ≡ p) where
  -- whether a user is an author of a profile
  pub author_back : (name : List ℕ) (found : Bool) → ((found ≡ true) ↔ IsAuthor t q name) → found ≡ is_author h p name
  author_back name found tells = author_is h q name found (subst (λ u. (found ≡ true) ↔ IsAuthor u q name) same tells) ∙ ap (λ x. is_author h x name) is

  -- the issued revision of a profile
  pub issued_back : (found : Option RevisionRow) → IsIssued t q found → found ≡ issued_revision h p
  issued_back found tells = issued_is h q found (subst (λ u. IsIssued u q found) same tells) ∙ ap (issued_revision h) is

  -- the same without its text
  pub brief_back : (found : Option Brief) → IsBriefOf (IsIssued t q) found → found ≡ option_map brief_of (issued_revision h p)
  brief_back None none = ap (option_map brief_of) (issued_back None none)
  brief_back (Some b) it = ap Some (sym it.2) ∙ ap (option_map brief_of) (issued_back (Some it.0) it.1)

  -- whether a profile has no revision
  pub none_back : (there : Bool) → ((there ≡ true) ↔ HasRevision t q) → not there ≡ (revision_count h p == 0)
  none_back there tells =
      not_twice there (revision_count h q == 0) (found_is h q there (subst (λ u. (there ≡ true) ↔ HasRevision u q) same tells)) ∙ ap (λ x. revision_count h x == 0) is

-- the newest revisions of a profile before a number
pub newest : (old new : State) (p : ProfileName) (before : Option ℕ) (below : ℕ) (told : List ProfileRevision) → below ≡ unwrap_or before (suc max_revisions)
    → {A : Type 0} (items : A → List ProfileRevision) (a : A) → items a ≡ told → IsRead old new (Ok a) (λ t found. AreNewest t p below most_read (items found))
    → IsRead old new (Ok told) (LooksBack (newest_at p before))
newest old new p before below told bound items a are_told = read_as old new _ _ a told (λ t (are : AreNewest t p below most_read (items a)) h lawful same.
    sym are_told ∙ are.newest ∙ ap (λ rows. map told_revision (take most_read rows)) (all h lawful before bound are.rows (subst (λ u. AreBelow u p below are.rows) same are.below_it)))
  where
    all : (h : History) → IsLawfulHistory h → (before : Option ℕ) → below ≡ unwrap_or before (suc max_revisions) → (rows : List RevisionRow) → AreBelow (tables_of h) p below rows → rows ≡ revisions_before h p before
    all h lawful None bound rows are = below_is h p below rows are ∙ ap (λ n. revisions_before h p (Some n)) bound ∙ all_below h lawful p
    all h lawful (Some n) bound rows are = below_is h p below rows are ∙ ap (λ m. revisions_before h p (Some m)) bound
