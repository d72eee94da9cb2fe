-- The row of a request says what its list of rules says, and is asked rule by rule.
use Rattle.std.proofs.Common.{◌≡◌, ◌∙◌, ℕ, suc, List, [], ◌∷◌, Bool, true, false, if◌then◌else◌, Option, Some, None, Result, Ok, Err, IfSome, IsTrue, refl, sym, ap}
use Rattle.std.specs.Prelude.{⊤, is_some, is_none, not, option_map, unwrap_or}
use Rattle.review_policy.specs.Rules.{first_denial, is_issued, is_open, is_standing, known_denial, adopt_rules, fetch_rules, read_rules, vote_rules, withdraw_rules}
use Rattle.review_policy.specs.declared.act.ProfileAct.TheVariants.{Hold, Release}
use Rattle.review_policy.specs.declared.act.ProfileView.TheVariants.{Fetch, Issued}
use Rattle.review_policy.specs.declared.act.RevisionAct.TheVariants.{Issue, Withdraw, Adopt}
use Rattle.review_policy.specs.declared.ask.Ask.{Ask}
use Rattle.review_policy.specs.declared.ask.Ask.TheVariants as ask
use Rattle.review_policy.specs.declared.denial.Denial.{Denial}
use Rattle.review_policy.specs.declared.denial.Rule.{Rule}
use Rattle.review_policy.specs.declared.denial.Rule.TheVariants.{NoRevision, AuthorVotes, NotOpen, OtherBytes, NotStanding, AuthorAdopts, NotIssued, NothingIssued, NoProfile, AlreadyHeld, NotHeld, Held}
use Rattle.std.specs.List.{list_all}
use Rattle.std.proofs.lemmas.Bool.{and_parts}
use Rattle.office_store.specs.Briefs.{brief_of}
use Rattle.office_store.specs.Summaries.{summary_of}
use Rattle.office_words.specs.declared.row.RevisionRow.{RevisionRow}
use Rattle.office_words.specs.declared.row.UserRow.{UserRow}
use Rattle.office_words.specs.Tables.{Tables}
use Rattle.office_policy.specs.Facts.{adopt_facts, fetch_facts, read_facts, vote_facts, withdraw_facts}
use Rattle.office_policy.specs.History.{History}
use Rattle.office_policy.specs.Lawful.{IsLawfulHistory}
use Rattle.office_policy.specs.Holds.{is_held}
use Rattle.office_policy.specs.Revisions.{is_author, issued_revision, revision_of, state_in}
use Rattle.office_policy.specs.TablesOf.{tables_of}
use Rattle.office_policy.specs.Verdict.{denied, fault_beside, rules_of, verdict_of}
use Rattle.office_judging.specs.declared.looked.Looked.{Looked}
use Rattle.office_judging.specs.Memo.{IsPartOf, asks, is_askable, is_there, issued_part, looked_at, revision_part}
use Rattle.office_judging.specs.Refusing.{nothing_issued, other_bytes, refuses, state_seen}
use Rattle.office_judging.specs.Rows.{HasRow, IsLetThrough, first_by, first_of}
use Rattle.office_judging.specs.Rows.{rules_of as row}
use Rattle.office_judging.specs.Summarized.{as_asked}
use Rattle.office_judging.proofs.Verdicts.{allowed_is, denied_is}

-- ---- the row of a kind is its list

none_in : (r : Option RevisionRow) → is_none r ≡ is_none (state_in r)
none_in None = refl
none_in (Some r) = refl

none_brief : (r : Option RevisionRow) → is_none r ≡ is_none (option_map brief_of r)
none_brief None = refl
none_brief (Some r) = refl

module _ (c : UserRow) where
  vote_seen : (r : Option RevisionRow) (author : Bool) (digest : List ℕ) → vote_facts (Some c) r author digest ≡ vote_facts (Some c) (as_asked (option_map summary_of r)) author digest
  vote_seen None author digest = refl
  vote_seen (Some r) author digest = refl

  withdraw_seen : (team : List ℕ) (r : Option RevisionRow) → withdraw_facts (Some c) team r ≡ withdraw_facts (Some c) team (as_asked (option_map summary_of r))
  withdraw_seen team None = refl
  withdraw_seen team (Some r) = refl

  adopt_seen : (r : Option RevisionRow) (author : Bool) → adopt_facts (Some c) r author ≡ adopt_facts (Some c) (as_asked (option_map summary_of r)) author
  adopt_seen None author = refl
  adopt_seen (Some r) author = refl

  pub row_says : (h : History) (a : Ask) → HasRow a → first_denial (rules_of h (Some c) a) ≡ first_by c a (looked_at h c a)
  row_says h (ask.Enrol user team roles digest) has = absurd has
  row_says h (ask.Submit p document) has = absurd has
  row_says h (ask.Vote p n digest approve) has = ap (λ f. known_denial (vote_rules f)) (vote_seen (revision_of h p n) (is_author h p c.name) digest)
  row_says h (ask.ActOnRevision Issue p n) has = absurd has
  row_says h (ask.ActOnRevision Withdraw p n) has = ap (λ f. known_denial (withdraw_rules f)) (withdraw_seen p.team (revision_of h p n))
  row_says h (ask.ActOnRevision Adopt p n) has = ap (λ f. known_denial (adopt_rules f)) (adopt_seen (revision_of h p n) (is_author h p c.name))
  row_says h (ask.SeeRevision view p n) has = ap (λ none. known_denial (read_rules (read_facts (Some c) p.team none))) (none_in (revision_of h p n))
  row_says h (ask.List team) has = refl
  row_says h (ask.ActOnProfile Hold p) has = refl
  row_says h (ask.ActOnProfile Release p) has = refl
  row_says h (ask.SeeProfile Fetch p) has = refl
  row_says h (ask.SeeProfile Issued p) has =
      ap (λ none. known_denial (fetch_rules (record (fetch_facts (Some c) p.team None (is_held h p)) { nothing_issued = none }))) (none_brief (issued_revision h p))
  row_says h ask.Me has = refl
  row_says h (ask.Revisions p before) has = refl

  plain : (h : History) (a : Ask) (rule : Rule) → HasRow a → fault_beside h a rule ≡ None
  plain h (ask.Submit p document) rule has = absurd has
  plain h _ rule has = refl

-- what the rules of a request ask is known, or of a profile that is asked about
pub askable : (a : Ask) → IsTrue (list_all (is_askable a) (row a))
askable (ask.ActOnRevision Issue p n) = refl
askable (ask.ActOnRevision Withdraw p n) = refl
askable (ask.ActOnRevision Adopt p n) = refl
askable (ask.ActOnProfile Hold p) = refl
askable (ask.ActOnProfile Release p) = refl
askable (ask.SeeProfile Fetch p) = refl
askable (ask.SeeProfile Issued p) = refl
askable _ = refl

-- ---- what was looked up says what all would

known : {A : Type 0} (o all : Option A) → IfSome o (λ x. all ≡ Some x) → IsTrue (is_some o) → o ≡ all
known None all told there = absurd cc
known (Some x) all told there = sym told

itself : {A : Type 0} (o : Option A) → IfSome o (λ x. o ≡ Some x)
itself None = tt
itself (Some x) = refl

whole : (l : Looked) → IsPartOf l l
whole l = record {
  summary = itself l.summary;
  revision = itself l.revision;
  is_author = itself l.is_author;
  issued = itself l.issued;
  brief = itself l.brief;
  no_profile = itself l.no_profile;
  held = itself l.held;
}

module _ (l m : Looked) (part : IsPartOf l m) where
  same_state : (a : Ask) → IsTrue (is_there l (revision_part a)) → state_seen a l ≡ state_seen a m
  same_state (ask.SeeRevision view p n) there = ap (λ r. state_in (unwrap_or r None)) (known l.revision m.revision part.revision there)
  same_state _ there = ap (λ s. state_in (as_asked (unwrap_or s None))) (known l.summary m.summary part.summary there)

  same_issued : (a : Ask) → IsTrue (is_there l (issued_part a)) → nothing_issued a l ≡ nothing_issued a m
  same_issued (ask.SeeProfile Fetch p) there = ap (λ r. is_none (unwrap_or r None)) (known l.issued m.issued part.issued there)
  same_issued (ask.SeeProfile Issued p) there = ap (λ b. is_none (unwrap_or b None)) (known l.brief m.brief part.brief there)
  same_issued _ there = ap (λ b. is_none (unwrap_or b None)) (known l.brief m.brief part.brief there)

  alike : (c : UserRow) (a : Ask) (rule : Rule) → IsTrue (is_there l (asks a rule)) → refuses c a l rule ≡ refuses c a m rule
  alike c a NoRevision there = ap is_none (same_state a there)
  alike c a NotOpen there = ap (λ s. not (is_open s)) (same_state a there)
  alike c a NotStanding there = ap (λ s. not (is_standing s)) (same_state a there)
  alike c a NotIssued there = ap (λ s. not (is_issued s)) (same_state a there)
  alike c a OtherBytes there = ap (λ s. other_bytes a (unwrap_or s None)) (known l.summary m.summary part.summary there)
  alike c a AuthorVotes there = ap (λ b. unwrap_or b false) (known l.is_author m.is_author part.is_author there)
  alike c a AuthorAdopts there = ap (λ b. unwrap_or b false) (known l.is_author m.is_author part.is_author there)
  alike c a NothingIssued there = same_issued a there
  alike c a NoProfile there = ap (λ b. unwrap_or b false) (known l.no_profile m.no_profile part.no_profile there)
  alike c a AlreadyHeld there = ap (λ b. unwrap_or b false) (known l.held m.held part.held there)
  alike c a NotHeld there = ap (λ b. not (unwrap_or b false)) (known l.held m.held part.held there)
  alike c a Held there = ap (λ b. unwrap_or b false) (known l.held m.held part.held there)
  alike c a _ there = refl

-- ---- one rule after another

goes_on : (b : Bool) (d other : Result ⊤ Denial) → b ≡ false → (if b then d else other) ≡ other
goes_on true d other e = absurd cc
goes_on false d other e = refl

ends : (b : Bool) (d other : Result ⊤ Denial) → b ≡ true → (if b then d else other) ≡ d
ends true d other e = refl
ends false d other e = absurd cc

module _ (c : UserRow) (a : Ask) where
  -- whatever is looked up besides, the rules before the rest let the request through
  pub record IsUnderWay (l : Looked) (number : ℕ) (rest : List Rule) : Type 0 where
    pub askable : IsTrue (list_all (is_askable a) rest)
    pub rest_says : (m : Looked) → IsPartOf l m → first_by c a m ≡ first_of (refuses c a m) (suc number) rest

  pub next_askable : (l : Looked) (number : ℕ) (rule : Rule) (rest : List Rule) → IsUnderWay l number (rule ∷ rest) → IsTrue (is_askable a rule)
  next_askable l number rule rest way = (and_parts _ _ way.askable).0

  module _ (l after : Looked) (number : ℕ) (rule : Rule) (rest : List Rule) (way : IsUnderWay l number (rule ∷ rest)) (kept : (m : Looked) → IsPartOf after m → IsPartOf l m) (there : IsTrue (is_there after (asks a rule))) where
    pub goes_by : false ≡ refuses c a after rule → IsUnderWay after (suc number) rest
    goes_by passes = record {
      askable = (and_parts _ _ way.askable).1;
      rest_says = λ m part.
          way.rest_says m (kept m part)
          ∙ goes_on _ (Err (record { number = suc number; rule = rule })) (first_of (refuses c a m) (suc (suc number)) rest) (sym (alike after m part c a rule there) ∙ sym passes);
    }

    pub is_named : (place : ℕ) → place ≡ suc number → true ≡ refuses c a after rule → (m : Looked) → IsPartOf after m → first_by c a m ≡ Err (record { number = place; rule = rule })
    is_named place is refuses_it m part =
        way.rest_says m (kept m part)
        ∙ ends _ (Err (record { number = suc number; rule = rule })) (first_of (refuses c a m) (suc (suc number)) rest) (sym (alike after m part c a rule there) ∙ sym refuses_it)
        ∙ ap (λ n. Err (record { number = n; rule = rule })) (sym is)

  -- no rule is left
  pub all_passed : (l : Looked) (number : ℕ) → IsUnderWay l number [] → first_by c a l ≡ Ok tt
  all_passed l number way = way.rest_says l (whole l)

  -- what was looked up is what looking back gives
  abbrev pub IsTold : Looked → Tables → Type 0
  IsTold l t = (h : History) → IsLawfulHistory h → t ≡ tables_of h → IsPartOf l (looked_at h c a)

  pub denied_by : HasRow a → (h : History) (l : Looked) (d : Denial) → IsPartOf l (looked_at h c a) → ((m : Looked) → IsPartOf l m → first_by c a m ≡ Err d)
      → verdict_of h (Some c) a ≡ denied d None
  denied_by is h l d part named = denied_is h (Some c) a d (row_says c h a is ∙ named (looked_at h c a) part) ∙ ap (denied d) (plain c h a d.rule is)

  pub let_through_by : HasRow a → (h : History) (l : Looked) (number : ℕ) → IsPartOf l (looked_at h c a) → IsUnderWay l number [] → IsLetThrough c a h l
  let_through_by is h l number part way = (allowed_is h (Some c) a (row_says c h a is ∙ way.rest_says (looked_at h c a) part), part)
