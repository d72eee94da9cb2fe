-- What the read of a profile after a name finds.
use Rattle.std.proofs.Common.{◌≡◌, ℕ, ℤ, pos, List, [], ◌∷◌, ◌++◌, codes, map, Option, Some, None, Result, Ok, Err, IfOk, Bool, true, Ordering, Less, Equal, Greater, refl, sym, ap, subst, ◌∙◌, true≢false}
use Rattle.std.specs.Prelude.{◌&&◌}
use Rattle.std.specs.List.{list_all}
use Rattle.std.specs.Ordering.{ordering_then, ordering_reverse, is_lt, is_gt}
use Rattle.std.proofs.lemmas.Cmp.{nat_list_cmp_total}
use Rattle.sqlite.specs.declared.types.Value.TheVariants.{Text, Int}
use Rattle.sqlite_sql.specs.declared.ops.BinaryOp.TheVariants.{Compare}
use Rattle.sqlite_sql.specs.declared.ops.CompareOp.TheVariants.{Gt}
use Rattle.sqlite_sql.specs.Query.{key_cmp}
use Rattle.sqlite.specs.Ops.{binary, is_true}
use Rattle.sqlite.specs.Order.{Row}
use Rattle.sqlite.specs.Term.{Term, col, op2, holds}
use Rattle.sqlite.specs.Command.TheVariants.{Select}
use Rattle.sqlite.specs.Collation.TheVariants.{Binary}
use Rattle.sqlite.specs.State.{State}
use Rattle.sqlite.specs.Listing.{understood}
use Rattle.sqlite_tied.specs.Compute.{everything}
use Rattle.sqlite_value.specs.declared.keys.Key.{Key}
use Rattle.sqlite_value.specs.Keys.{ascending}
use Rattle.sqlite_value.specs.Order.{value_cmp}
use Rattle.sqlite_value.proofs.OrderLemmas.{value_cmp-Text}
use Rattle.sqlite_rules.specs.Lists.{Has}
use Rattle.sqlite_rules.proofs.ListLemmas.{all_has}
use Rattle.office_words.specs.Words.{is_word}
use Rattle.office_words.specs.declared.listed.ListedRevision.{ListedRevision}
use Rattle.office_words.specs.declared.fault.Fault.{Fault}
use Rattle.office_words.specs.Tables.{Tables}
use Rattle.office_words.specs.Lists.{name_cmp, IsListed}
use Rattle.office_rows.specs.Entries.{row_of}
use Rattle.office_rows.specs.Faults.{FindsRow}
use Rattle.office_rows.proofs.Plain.{Means, from_test}
use Rattle.office_rows.proofs.Ordered.{first_query, IsFirstRow, finds_first}
use Rattle.office_store.specs.declared.walk.TheConstants.{LISTED_ABOVE}
use Rattle.office_store.specs.Schema.{office_schema}
use Rattle.office_store.specs.Entries.{Revision, revision_row, IsRevision, state_number}
use Rattle.office_store.specs.Lists.{listed_row, IsListedForm, IsFirstListed, ComesAfter, IsNextListed}
use Rattle.office_store.specs.Shown.{Shows}
use Rattle.office_store.proofs.Columns.{both_true, column_is, text_is, two_are}
use Rattle.office_store.proofs.RowsOf.{IsRowOf}
use Rattle.office_store.proofs.ListingReads.{listed_of, is_of, makes_listed, entry_of}
use Rattle.office_store.proofs.Following.{after_space, before_space, after_nothing}

abbrev shown_columns : List Term
shown_columns = col 1 2 ∷ col 1 3 ∷ col 1 5 ∷ []

-- the table's row is of the team, and of a profile above a text
abbrev above : List Term
above = column_is 1 0 ∷ op2 (Compare Gt Binary) (col 1 2) (col 0 1) ∷ []

abbrev by_name_state_and_number : List (Term × Key)
by_name_state_and_number = (col 1 2, ascending Binary) ∷ (col 1 5, ascending Binary) ∷ (col 1 3, ascending Binary) ∷ []

abbrev names : List (List ℕ)
names = codes "profile" ∷ codes "number" ∷ codes "state" ∷ []

above_means : Means office_schema LISTED_ABOVE.now (Select (record { lets = []; body = first_query shown_columns above 4 by_name_state_and_number }) names)
unfolding understood everything
above_means = record { is = refl; plain = (refl, refl); unlisted = refl }

abbrev key : Revision → Row
key e = Text e.0.profile ∷ Int (pos (state_number e.1.state)) ∷ Int (pos e.1.number) ∷ []

abbrev shown : Revision → Row
shown e = listed_row (listed_of e)

abbrev is_above : List ℕ → Revision → Bool
is_above text e = is_lt (name_cmp text e.0.profile)

-- of the team, and above the text
abbrev passes : List ℕ → List ℕ → Revision → Bool
passes team text e = is_of team e && is_above text e

abbrev above_params : List ℕ → List ℕ → Row
above_params team text = Text team ∷ Text text ∷ []

-- ---- the tests of the text

greater_turned : (o : Ordering) → is_gt o ≡ is_lt (ordering_reverse o)
greater_turned Less = refl
greater_turned Equal = refl
greater_turned Greater = refl

text_above : (a b : List ℕ) → is_true (binary (Compare Gt Binary) (Text a) (Text b)) ≡ is_lt (name_cmp b a)
unfolding binary
text_above a b = from_test _ ∙ ap is_gt (value_cmp-Text a b) ∙ greater_turned (name_cmp a b) ∙ ap is_lt (sym (nat_list_cmp_total.antisymm b a))

above_tested : (team text : List ℕ) (k : ℤ × Revision) → list_all (holds (above_params team text ∷ row_of revision_row k ∷ [])) above ≡ passes team text k.1
above_tested team text k = two_are _ _ _ _ (text_is k.1.0.team team) (text_above k.1.0.profile text)

-- ---- the order of the text

less_is : (o : Ordering) → is_lt o ≡ true → o ≡ Less
less_is Less e = refl
less_is Equal e = absurd cc
less_is Greater e = absurd cc

less_first : (o p : Ordering) → o ≡ Less → is_lt (ordering_then o p) ≡ true
less_first Less p e = refl
less_first Equal p e = absurd cc
less_first Greater p e = absurd cc

abbrev keys : List Key
keys = map {A = Term × Key} {B = Key} (λ o. o.1) by_name_state_and_number

-- a revision of an earlier profile comes first
earlier_first : (a b : Revision) → name_cmp a.0.profile b.0.profile ≡ Less → is_lt (key_cmp 0 keys (key a) (key b)) ≡ true
earlier_first a b less = less_first (value_cmp (Text a.0.profile) (Text b.0.profile)) _ (value_cmp-Text a.0.profile b.0.profile ∙ less)

module _ (old new : State) (t : Tables) (shows : Shows old t) where
  abbrev entries : List Revision
  entries = shows.office.revisions.entries

  formed_at : (e : Revision) → Has entries e → IsListedForm (listed_of e)
  formed_at e has = let formed = all_has IsRevision entries e shows.office.revisions.formed has in record { profile = formed.profile.profile; number = formed.number }

  -- the profile of what is listed has a word for its name
  pub listed_word : (team : List ℕ) (l : ListedRevision) → IsListed t team l → is_word l.profile ≡ true
  listed_word team l listed =
      let it = entry_of old new t shows team l listed in
      subst (λ (m : ListedRevision). is_word m.profile ≡ true) it.3 (formed_at it.0 it.1).profile

  -- what is listed of a profile above the text has an entry that passes
  record Passing (team text : List ℕ) (l : ListedRevision) : Type 0 where
    entry : Revision
    has : Has entries entry
    passed : passes team text entry ≡ true
    profile : entry.0.profile ≡ l.profile

  passing : (team text : List ℕ) (l : ListedRevision) → IsListed t team l → name_cmp text l.profile ≡ Less → Passing team text l
  passing team text l listed less =
      let it = entry_of old new t shows team l listed in
      let profile = ap (λ (m : ListedRevision). m.profile) it.3 in
      let over : is_above text it.0 ≡ true = ap is_lt (ap (name_cmp text) profile ∙ less) in
      record { entry = it.0; has = it.1; passed = (λ i. it.2 i && over i); profile = profile }

  abbrev IsFirstAbove : List ℕ → List ℕ → Option Row → Type 0
  IsFirstAbove team text = IsFirstRow revision_row shown key (passes team text) shown_columns above by_name_state_and_number (above_params team text) entries

  row_above : (team text : List ℕ) (r : Result (Option Row) Fault) → IfOk r (IsFirstAbove team text) → IfOk r (IsRowOf listed_row IsListedForm (IsNextListed t team (Some text)))
  row_above team text (Ok (Some row)) it =
      let e = it.0 in
      let both = both_true (is_of team e) (is_above text e) it.1.passed in (
        listed_of e,
        formed_at e it.1.has,
        it.2,
        (
          makes_listed old new t shows team e it.1.has both.0,
          less_is (name_cmp text e.0.profile) both.1,
          λ m listed less earlier.
              let p = passing team text m listed less in
              let first = earlier_first p.entry e (ap (λ (name : List ℕ). name_cmp name e.0.profile) p.profile ∙ earlier) in
              true≢false (sym first ∙ it.1.least p.entry p.has p.passed),
        ),
      )
  row_above team text (Ok None) none = λ l listed less. let p = passing team text l listed less in none p.entry p.has p.passed
  row_above team text (Err f) it = it

  pub reads_above : (team text : List ℕ) (r : Result (Option Row) Fault) → FindsRow LISTED_ABOVE.now (above_params team text) old new r
      → IfOk r (IsRowOf listed_row IsListedForm (IsNextListed t team (Some text)))
  reads_above team text r h =
      let o = shows.office in
      let it = finds_first revision_row shown key (passes team text) shown_columns above by_name_state_and_number (above_params team text) (above_tested team text) (λ k. refl) (λ k. refl)
      office_schema LISTED_ABOVE.now 4 names above_means old new o.schema o.revisions.entries o.revisions.kept r h in
      row_above team text r it

  -- ---- the same of a text that says the same of each name

  module _ (team : List ℕ) (P Q : List ℕ → Type 0) (to : (l : ListedRevision) → IsListed t team l → P l.profile → Q l.profile)
      (back : (l : ListedRevision) → IsListed t team l → Q l.profile → P l.profile) where
    passes_as : (r : Option ListedRevision) → IsFirstListed t team P r → IsFirstListed t team Q r
    passes_as None none = λ l listed q. none l listed (back l listed q)
    passes_as (Some l) it = (it.0, to l it.0 it.1, λ m listed q. it.2 m listed (back m listed q))

  pub first_above : (team : List ℕ) (r : Option ListedRevision) → IsNextListed t team (Some []) r → IsNextListed t team None r
  first_above team = passes_as team (ComesAfter (Some [])) (ComesAfter None) (λ l listed less. tt) (λ l listed any. after_nothing l.profile (listed_word team l listed))

  pub next_above : (team name : List ℕ) (r : Option ListedRevision) → IsNextListed t team (Some (name ++ 32 ∷ [])) r → IsNextListed t team (Some name) r
  next_above team name =
      passes_as team (ComesAfter (Some (name ++ 32 ∷ []))) (ComesAfter (Some name)) (λ l listed less. after_space name l.profile less)
      (λ l listed less. before_space name l.profile (listed_word team l listed) less)
