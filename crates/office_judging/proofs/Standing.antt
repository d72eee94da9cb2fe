-- How a profile stands, by what a few reads find.
use Rattle.std.proofs.Common.{◌≡◌, ◌≢◌, ◌∙◌, ◌≤◌, ℕ, zero, suc, List, Option, Some, None, Result, Ok, Err, Bool, true, false, cond, true≢false, refl, sym, ap, subst, arith}
use Rattle.std.specs.Prelude.{is_some, option_map}
use Rattle.office_words.specs.declared.name.ProfileName.{ProfileName}
use Rattle.review_policy.specs.declared.answer.ListedProfile.{ListedProfile}
use Rattle.office_words.specs.declared.revision.State.{State}
use Rattle.office_words.specs.declared.revision.State.TheVariants.{Open, Issued}
use Rattle.review_policy.specs.Rules.{is_issued}
use Rattle.sqlite.specs.State.{State as State_}
use Rattle.office_words.specs.declared.fault.Fault.{Fault}
use Rattle.office_words.specs.declared.listed.ListedRevision.{ListedRevision}
use Rattle.office_words.specs.Tables.{Tables}
use Rattle.office_words.specs.Lists.{profile_of, IsListed}
use Rattle.office_words.specs.Reads.{IsLast, IsIssued}
use Rattle.office_store.specs.Calls.{IsRead}
use Rattle.office_store.specs.Lists.{IsNumberOf}
use Rattle.office_store.specs.Numbered.{IsNumberedOf}
use Rattle.office_store.specs.declared.numbers.Numbered.{Numbered}
use Rattle.office_policy.specs.History.{History}
use Rattle.office_policy.specs.Listing.{listed_profile}
use Rattle.office_policy.specs.LooksBack.{LooksBack}
use Rattle.office_policy.specs.Revisions.{Submission, submission_of, revision_count, revision_of, issued_revision, number_of, state_in, state_of}
use Rattle.office_policy.specs.TablesOf.{tables_of}
use Rattle.office_policy.proofs.GivenOut.{issued_state}
use Rattle.office_policy.proofs.GroupedFacts.{issue_of, row_listed}
use Rattle.office_policy.proofs.Histories.{open_last}
use Rattle.office_policy.proofs.IssuedFacts.{issued_is}
use Rattle.office_policy.proofs.RevisionFacts.{some_within}
use Rattle.office_policy.proofs.StateFacts.{row_at}
use Rattle.office_policy.proofs.Submissions.{last_number}
use Rattle.office_judging.specs.declared.profiles.Standing.{Standing}
use Rattle.office_judging.proofs.Judging.{read_as, read_fails_as, read_both, second_fails}
use Rattle.office_judging.specs.Listed.{standing_of, issued_if, IsOneOf, IsLastOf, StandsWhere}

-- ---- one read, and one after another, whatever comes of the last

pub read_weaker : {A : Type 0} (old new : State_) (G H : Tables → A → Type 0) (r : Result A Fault) → ((t : Tables) (a : A) → G t a → H t a)
    → IsRead old new r G → IsRead old new r H
read_weaker old new G H (Ok a) says read = read_as old new G H a a (λ t. says t a) read
read_weaker old new G H (Err f) says read = read_fails_as old new G H f read

pub read_then : {A B : Type 0} (old mid new : State_) (F : Tables → A → Type 0) (G H : Tables → B → Type 0) (a : A) (r : Result B Fault)
    → IsRead old mid (Ok a) F → ((t : Tables) (b : B) → F t a → G t b → H t b) → IsRead mid new r G → IsRead old new r H
read_then old mid new F G H a (Ok b) first both second = read_both old mid new F G a first H b b (λ t. both t b) second
read_then old mid new F G H a (Err f) first both second = second_fails old mid new F G a first H f second

-- ---- single reads

pub issue_numbered : (p : ProfileName) (n : ℕ) (t : Tables) → IsNumberOf (IsIssued t p) (Some n) → LooksBack (λ h. number_of (issued_revision h p)) t n
issue_numbered p n t it h lawful same = sym it.2 ∙ ap number_of (issued_is h p (Some it.0) (subst (λ u. IsIssued u p (Some it.0)) same it.1))

pub none_issued : (p : ProfileName) (t : Tables) → IsNumberOf (IsIssued t p) None → LooksBack (λ h. number_of (issued_revision h p)) t 0
none_issued p t none h lawful same = ap number_of (issued_is h p None (subst (λ u. IsIssued u p None) same none))

-- ---- what they say together

module _ (h : History) (p : ProfileName) where
  -- a last revision that is issued is the issued one
  pub last_is_issue : (n : ℕ) (s : State) → n ≡ revision_count h p → 1 ≤ n → s ≡ state_of h p n → s ≡ Issued → n ≡ number_of (issued_revision h p)
  last_is_issue n s count first state is =
      (issue_of h p.team p.profile).one n first (omega (arith, count)) (ap (λ (x : State). is_issued (Some x)) (sym state ∙ is))

  -- the only revision, where it isn't issued
  pub none_is_issue : (s : State) → revision_count h p ≡ 1 → s ≡ state_of h p 1 → s ≢ Issued → 0 ≡ number_of (issued_revision h p)
  none_is_issue s count state other = go (number_of (issued_revision h p)) refl
    where
      go : (m : ℕ) → number_of (issued_revision h p) ≡ m → 0 ≡ m
      go zero is = refl
      go (suc m) is =
          let it = (issue_of h p.team p.profile).issued (λ none. absurd (omega (arith, none, is))) in
          let one : number_of (issued_revision h p) ≡ 1 = omega (arith, it.0, count, is) in
          absurd (other (state ∙ issued_state (state_of h p 1) (subst (λ (m : ℕ). is_issued (Some (state_of h p m)) ≡ true) one it.1)))

  -- the state of a revision that is there
  there_in : (n : ℕ) → 1 ≤ n → n ≤ revision_count h p → state_in (revision_of h p n) ≡ Some (state_of h p n)
  there_in n first last = go (submission_of h p n) refl (some_within h p n (omega (arith, first)) last)
    where
      go : (s : Option Submission) → submission_of h p n ≡ s → is_some s ≡ true → state_in (revision_of h p n) ≡ Some (state_of h p n)
      go None found some = absurd cc
      go (Some s) found some = ap (λ o. state_in (option_map (row_at h p n (revision_count h p)) o)) found

  -- the open revision is the last one
  pub open_is_last : (n : ℕ) → IsOneOf h p n Open → n ≡ revision_count h p
  open_is_last n one = go (submission_of h p n) refl (some_within h p n (omega (arith, one.first)) one.last)
    where
      go : (s : Option Submission) → submission_of h p n ≡ s → is_some s ≡ true → n ≡ revision_count h p
      go None found some = absurd cc
      go (Some s) found some =
          open_last h p n (row_at h p n (revision_count h p) s) (ap (option_map (row_at h p n (revision_count h p))) found) (sym one.state_is)

  pub only_open : (number : ℕ) (s : State) → IsOneOf h p number s → number ≡ 1 → s ≡ Open
      → ◌≡◌ {A = Standing} (record { last = 1; issued = 0; state = s }) (standing_of h p)
  only_open number s one first is_open =
      let count : 1 ≡ revision_count h p = sym first ∙ open_is_last number (subst (IsOneOf h p number) is_open one) in
      let state = one.state_is ∙ ap (state_of h p) (first ∙ count) in
      let issue = none_is_issue s (sym count) (one.state_is ∙ ap (state_of h p) first) (λ issued. absurd (let both : Open ≡ Issued = sym is_open ∙ issued in cc)) in
      λ i. record { last = count i; issued = issue i; state = state i }

  -- the only revision is issued or none is
  pub only_issue : (n : ℕ) (s : State) → revision_count h p ≡ 1 → n ≡ 1 → s ≡ state_of h p n → issued_if n s ≡ number_of (issued_revision h p)
  only_issue n s count one state = go (is_issued (Some s)) refl
    where
      go : (b : Bool) → is_issued (Some s) ≡ b → issued_if n s ≡ number_of (issued_revision h p)
      go true is = rw is (last_is_issue n s (one ∙ sym count) (omega (arith, one)) state (issued_state s is))
      go false other = rw other (none_is_issue s count (state ∙ ap (state_of h p) one) (λ is. absurd (true≢false (sym (ap (λ (x : State). is_issued (Some x)) is) ∙ other))))

  -- a last revision whose number counts as issued is the issued one
  issued_last : (n : ℕ) (s : State) → n ≡ revision_count h p → 1 ≤ n → s ≡ state_of h p n → issued_if n s ≡ n → issued_if n s ≡ number_of (issued_revision h p)
  issued_last n s count first state is = go (is_issued (Some s)) refl
    where
      go : (b : Bool) → is_issued (Some s) ≡ b → issued_if n s ≡ number_of (issued_revision h p)
      go true issued = is ∙ last_is_issue n s count first state (issued_state s issued)
      go false other = let none : 0 ≡ n = subst (λ (b : Bool). cond b n 0 ≡ n) other is in absurd (omega (arith, first, none))

  pub known_only : (last : ℕ) (s : State) → IsLastOf h p last s → last ≡ 1
      → ◌≡◌ {A = Standing} (record { last = last; issued = issued_if last s; state = s }) (standing_of h p)
  known_only last s it only =
      let state = it.one.state_is ∙ ap (state_of h p) it.last in
      let issue = only_issue last s (sym it.last ∙ only) only it.one.state_is in
      λ i. record { last = it.last i; issued = issue i; state = state i }

  pub known_issued : (last : ℕ) (s : State) → IsLastOf h p last s → issued_if last s ≡ last
      → ◌≡◌ {A = Standing} (record { last = last; issued = issued_if last s; state = s }) (standing_of h p)
  known_issued last s it is =
      let state = it.one.state_is ∙ ap (state_of h p) it.last in
      let issue = issued_last last s it.last it.one.first it.one.state_is is in
      λ i. record { last = it.last i; issued = issue i; state = state i }

-- what is listed of a profile that stands so
pub stands_as : (h : History) (team name : List ℕ) (s : Standing) → s ≡ standing_of h (profile_of team name)
    → ◌≡◌ {A = ListedProfile} (record { profile = name; issued = s.issued; revisions = s.last; state = s.state }) (listed_profile h (profile_of team name))
stands_as h team name s is = λ i. record { profile = name; issued = (is i).issued; revisions = (is i).last; state = (is i).state }

-- a revision that is listed is one of its profile
pub one_listed : (h : History) (team : List ℕ) (l : ListedRevision) → IsListed (tables_of h) team l → IsOneOf h (profile_of team l.profile) l.number l.state
one_listed h team l listed = let it = row_listed h team l listed in record { first = it.first; last = it.last; state_is = it.state_is }

module _ (p : ProfileName) (t : Tables) where
  -- the row of the last revision
  pub last_found : (l : Numbered) → IsNumberedOf (IsLast t p) (Some l) → (h : History) → t ≡ tables_of h → 1 ≤ revision_count h p → IsLastOf h p l.number l.state
  last_found l it h same some =
      let is : IsLast (tables_of h) p (Some it.0) = subst (λ u. IsLast u p (Some it.0)) same it.1 in
      let count : it.0.number ≡ revision_count h p = last_number h p (Some it.0) is in
      let there : Some it.0.state ≡ Some (state_of h p it.0.number) = sym (ap state_in is.0) ∙ there_in h p it.0.number (omega (arith, some, count)) (omega (arith, count)) in
      let state : it.0.state ≡ state_of h p it.0.number = cc in
      subst (λ (k : Numbered). IsLastOf h p k.number k.state) it.2 (record {
        last = count;
        one = record { first = omega (arith, some, count); last = omega (arith, count); state_is = state };
      })

  -- a profile without one has none
  pub never_without : (s : Standing) → IsLast t p None → StandsWhere (λ h. 1 ≤ revision_count h p) p t s
  never_without s none h lawful same some =
      let count : 0 ≡ revision_count h p = last_number h p None (subst (λ u. IsLast u p None) same none) in
      absurd (omega (arith, count, some))

  -- the last revision is known, and the issued one was read
  pub by_last : (last issued : ℕ) (s : State) → LooksBack (λ h. number_of (issued_revision h p)) t issued
      → StandsWhere (λ h. IsLastOf h p last s) p t (record { last = last; issued = issued; state = s })
  by_last last issued s looks h lawful same it =
      let state = it.one.state_is ∙ ap (state_of h p) it.last in
      let issue = looks h lawful same in
      λ i. record { last = it.last i; issued = issue i; state = state i }
