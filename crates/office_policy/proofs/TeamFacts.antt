-- What looking back says of a team is what it says of the events that concern the team.
use Rattle.std.proofs.Common.{◌≡◌, ◌∙◌, ◌==◌, ◌&&◌, ◌||◌, ℕ, suc, List, [], ◌∷◌, length, map, Bool, true, false, cond, Some, None, Option, Ok, Err, refl, sym, ap}
use Rattle.std.specs.Prelude.{Result, ⊤, is_none, not, option_map, option_and_then, filter, filter_map, find, nat_lt, bytes_eq}
use Rattle.std.specs.List.{list_any}
use Rattle.profile_text.specs.Digest.{digest_of}
use Rattle.profile_text.specs.Reading.{reading_of}
use Rattle.profile_text.specs.Text.{text_of}
use Rattle.profile_text.specs.declared.profile.Profile.{Profile}
use Rattle.profile_text.specs.declared.fault.DocFault.{DocFault}
use Rattle.review_policy.specs.declared.act.Effect.TheVariants.{Issues, Withdraws, Adopts}
use Rattle.review_policy.specs.declared.act.RevisionAct.TheVariants.{Issue, Withdraw, Adopt}
use Rattle.review_policy.specs.declared.act.RevisionView.TheVariants.{Show, Sheet}
use Rattle.office_words.specs.declared.name.ProfileName.{ProfileName}
use Rattle.review_policy.specs.declared.ask.Ask.{Ask}
use Rattle.review_policy.specs.declared.ask.Ask.TheVariants as ask
use Rattle.review_policy.specs.declared.ask.Request.{Request}
use Rattle.review_policy.specs.declared.answer.Reply.TheVariants as reply
use Rattle.review_policy.specs.declared.denial.Denial.{Denial}
use Rattle.office_words.specs.declared.role.Role.TheVariants.{Security}
use Rattle.review_policy.specs.Acts.{has_effect, holds}
use Rattle.review_policy.specs.Rules.{first_denial, enrol_rules, submit_rules, vote_rules, issue_rules, withdraw_rules, adopt_rules, read_rules, fetch_rules, hold_rules, revisions_rules, behind_caller}
use Rattle.review_sheet.specs.Sheet.{sheet_text}
use Rattle.office_words.specs.declared.row.UserRow.{UserRow}
use Rattle.office_words.specs.declared.row.RevisionRow.{RevisionRow}
use Rattle.office_words.specs.Lists.{holds_role, standing_vote}
use Rattle.office_words.specs.Tables.{Baseline, is_profile}
use Rattle.office_policy.specs.History.{Event, founded, enrolled, submitted, voted, on_profile, on_revision, History}
use Rattle.office_policy.specs.Users.{registrar_alone, user_of, names_of, shows_digest, user_showing, name_of}
use Rattle.office_policy.specs.Names.{with_name}
use Rattle.office_policy.specs.Revisions.{submits, issues_profile, issues, withdraws, revision_count, submission_of, is_replaced, state_of, revision_of, last_revision, is_submission_by, is_author, number_of, last_issue, if_issued, issued_revision}
use Rattle.office_policy.specs.Votes.{kept_vote, vote_of, kept_vote_of, standing_at, voters_of, standing_votes, passes, tally_at}
use Rattle.office_policy.specs.Holds.{is_held}
use Rattle.office_policy.specs.Documents.{document_of}
use Rattle.office_policy.specs.Baseline.{listed_of, adoption_of, unless_withdrawn, standing_adoption, adopted_revision, document_or_closed, baseline_of}
use Rattle.office_policy.specs.Need.{need_against, need_of_row, need_at}
use Rattle.office_policy.specs.Listing.{profiles_of, listing_of}
use Rattle.office_policy.specs.Sheets.{sheet_of}
use Rattle.office_policy.specs.Facts.{enrol_facts, submit_facts, vote_facts, issue_facts, withdraw_facts, adopt_facts, read_facts, fetch_facts, hold_facts, revisions_facts}
use Rattle.office_policy.specs.Newest.{revisions_among, revisions_of, is_before, revisions_before, newest_told}
use Rattle.office_policy.specs.Verdict.{accepted, of_revision, new_revision, done_to, given_of, rules_of, done_of, judged, verdict_of, verdict}
use Rattle.office_policy.specs.Teams.{concerns, team_of}
use Rattle.office_policy.proofs.RevisionFacts.{count_more}
use Rattle.office_policy.proofs.StateFacts.{beside, state_by}

-- a look back that passes over what concerns other teams
module _ (team : List ℕ) where
  pub alone : {X : Type 0} (look : History → X) → ((h : History) (e : Event) → concerns team e ≡ false → look (e ∷ h) ≡ look h)
      → ((h : History) (e : Event) → look (filter (concerns team) h) ≡ look h → look (e ∷ filter (concerns team) h) ≡ look (e ∷ h))
      → (h : History) → look (filter (concerns team) h) ≡ look h
  alone look past more [] = refl
  alone look past more (e ∷ h) =
      elim (concerns team e) as (λ b. concerns team e ≡ b → look (cond b (e ∷ filter (concerns team) h) (filter (concerns team) h)) ≡ look (e ∷ h)) [
        | true ↦ λ is. more h e (alone look past more h)
        | false ↦ λ other. alone look past more h ∙ sym (past h e other)
      ] refl

  any_alone : (test : Event → Bool) → ((e : Event) → concerns team e ≡ false → test e ≡ false) → (h : History) → list_any test (filter (concerns team) h) ≡ list_any test h
  any_alone test none = alone (list_any test) (λ h e other. ap (λ b. b || list_any test h) (none e other)) (λ h e same. ap (λ b. test e || b) same)

  -- ---- users, the founding

  user_alone : (name : List ℕ) (h : History) → user_of (filter (concerns team) h) name ≡ user_of h name
  user_alone name = alone (λ h. user_of h name) past more
    where
      past : (h : History) (e : Event) → concerns team e ≡ false → user_of (e ∷ h) name ≡ user_of h name
      past h (founded n t d l) other = absurd (cc)
      past h (enrolled c n t r d) other = absurd (cc)
      past h _ other = refl

      more : (h : History) (e : Event) → user_of (filter (concerns team) h) name ≡ user_of h name → user_of (e ∷ filter (concerns team) h) name ≡ user_of (e ∷ h) name
      more h (founded n t d l) same = ap (λ u. cond (bytes_eq name n) (Some (record { name = n; team = t; roles = registrar_alone; digest = d })) u) same
      more h (enrolled c n t r d) same = ap (λ u. cond (bytes_eq name n) (Some (record { name = n; team = t; roles = r; digest = d })) u) same
      more h _ same = same

  names_alone : (h : History) → names_of (filter (concerns team) h) ≡ names_of h
  names_alone = alone names_of past more
    where
      past : (h : History) (e : Event) → concerns team e ≡ false → names_of (e ∷ h) ≡ names_of h
      past h (founded n t d l) other = absurd (cc)
      past h (enrolled c n t r d) other = absurd (cc)
      past h _ other = refl

      more : (h : History) (e : Event) → names_of (filter (concerns team) h) ≡ names_of h → names_of (e ∷ filter (concerns team) h) ≡ names_of (e ∷ h)
      more h (founded n t d l) same = ap (λ names. n ∷ names) same
      more h (enrolled c n t r d) same = ap (λ names. n ∷ names) same
      more h _ same = same

  showing_alone : (digest : List ℕ) (h : History) → user_showing (filter (concerns team) h) digest ≡ user_showing h digest
  showing_alone digest h = λ i. option_and_then (λ name. user_alone name h i) (find (λ name. shows_digest digest (user_alone name h i)) (names_alone h i))

  listed_alone : (h : History) → listed_of (filter (concerns team) h) ≡ listed_of h
  listed_alone = alone listed_of past more
    where
      past : (h : History) (e : Event) → concerns team e ≡ false → listed_of (e ∷ h) ≡ listed_of h
      past h (founded n t d l) other = absurd (cc)
      past h _ other = refl

      more : (h : History) (e : Event) → listed_of (filter (concerns team) h) ≡ listed_of h → listed_of (e ∷ filter (concerns team) h) ≡ listed_of (e ∷ h)
      more h (founded n t d l) same = refl
      more h _ same = same

-- ---- a profile of the team
module _ (p : ProfileName) where
  no_submission : (e : Event) → concerns p.team e ≡ false → submits p e ≡ false
  no_submission (submitted c q t) other = rw other refl
  no_submission _ other = refl

  -- nothing that is done to another team's revision is done to one of these
  no_effect : (has : Bool) (q : ProfileName) → bytes_eq p.team q.team ≡ false → (has && is_profile p q) ≡ false
  no_effect has q other = beside has (is_profile p q) (rw other refl)

  no_issue : (n : ℕ) (e : Event) → concerns p.team e ≡ false → issues p n e ≡ false
  no_issue n (on_revision c act q m) other = ap (λ b. b && (n == m)) (no_effect (has_effect act Issues) q other)
  no_issue n _ other = refl

  no_issue_of_it : (e : Event) → concerns p.team e ≡ false → issues_profile p e ≡ false
  no_issue_of_it (on_revision c act q m) other = no_effect (has_effect act Issues) q other
  no_issue_of_it _ other = refl

  no_withdrawal : (n : ℕ) (e : Event) → concerns p.team e ≡ false → withdraws p n e ≡ false
  no_withdrawal n (on_revision c act q m) other = ap (λ b. b && (n == m)) (no_effect (has_effect act Withdraws) q other)
  no_withdrawal n _ other = refl

  no_author : (name : List ℕ) (e : Event) → concerns p.team e ≡ false → is_submission_by name p e ≡ false
  no_author name (submitted c q t) other = rw other refl
  no_author name _ other = refl

  count_alone : (h : History) → revision_count (filter (concerns p.team) h) p ≡ revision_count h p
  count_alone =
      alone p.team (λ h. revision_count h p) (λ h e other. count_more p e h ∙ ap (λ b. cond b (suc (revision_count h p)) (revision_count h p)) (no_submission e other))
      (λ h e same. count_more p e (filter (concerns p.team) h) ∙ ap (λ k. cond (submits p e) (suc k) k) same ∙ sym (count_more p e h))

  submission_alone : (n : ℕ) (h : History) → submission_of (filter (concerns p.team) h) p n ≡ submission_of h p n
  submission_alone n = alone p.team (λ h. submission_of h p n) past more
    where
      past : (h : History) (e : Event) → concerns p.team e ≡ false → submission_of (e ∷ h) p n ≡ submission_of h p n
      past h (submitted c q t) other = rw other refl
      past h _ other = refl

      more : (h : History) (e : Event) → submission_of (filter (concerns p.team) h) p n ≡ submission_of h p n → submission_of (e ∷ filter (concerns p.team) h) p n ≡ submission_of (e ∷ h) p n
      more h (submitted c q t) same = λ i. cond (is_profile p q && (n == suc (count_alone h i))) (Some (record { author = c; text = t })) (same i)
      more h _ same = same

  replaced_alone : (n : ℕ) (h : History) → is_replaced (filter (concerns p.team) h) p n ≡ is_replaced h p n
  replaced_alone n =
      alone p.team (λ h. is_replaced h p n) (λ h e other. ap (λ b. (b && list_any (issues p n) h) || is_replaced h p n) (no_issue_of_it e other))
      (λ h e same. λ i. (issues_profile p e && any_alone p.team (issues p n) (no_issue n) h i) || same i)

  state_alone : (n : ℕ) (h : History) → state_of (filter (concerns p.team) h) p n ≡ state_of h p n
  state_alone n h =
      λ i. state_by (any_alone p.team (withdraws p n) (no_withdrawal n) h i) (any_alone p.team (issues p n) (no_issue n) h i) (replaced_alone n h i) (nat_lt n (count_alone h i))

  revision_alone : (n : ℕ) (h : History) → revision_of (filter (concerns p.team) h) p n ≡ revision_of h p n
  revision_alone n h =
      λ i. option_map (λ s. record { number = n; author = s.author; state = state_alone n h i; body = s.text; digest = digest_of s.text }) (submission_alone n h i)

  last_alone : (h : History) → last_revision (filter (concerns p.team) h) p ≡ last_revision h p
  last_alone h = λ i. revision_alone (count_alone h i) h i

  among_alone : (g h : History) → revisions_among g (filter (concerns p.team) h) p ≡ revisions_among g h p
  among_alone g = alone p.team (λ h. revisions_among g h p) past more
    where
      past : (h : History) (e : Event) → concerns p.team e ≡ false → revisions_among g (e ∷ h) p ≡ revisions_among g h p
      past h (submitted c q t) other = rw other refl
      past h _ other = refl

      more : (h : History) (e : Event) → revisions_among g (filter (concerns p.team) h) p ≡ revisions_among g h p → revisions_among g (e ∷ filter (concerns p.team) h) p ≡ revisions_among g (e ∷ h) p
      more h (submitted c q t) same = λ i. cond (is_profile p q) (record {
        number = suc (count_alone h i);
        author = c;
        state = state_of g p (suc (count_alone h i));
        body = t;
        digest = digest_of t;
      } ∷ same i) (same i)
      more h _ same = same

  -- the same of histories in which the revisions have the same states
  in_states : (g h : History) → ((n : ℕ) → state_of g p n ≡ state_of h p n) → (k : History) → revisions_among g k p ≡ revisions_among h k p
  in_states g h same [] = refl
  in_states g h same (submitted c q t ∷ k) = λ i. cond (is_profile p q) (record {
    number = suc (revision_count k p);
    author = c;
    state = same (suc (revision_count k p)) i;
    body = t;
    digest = digest_of t;
  } ∷ in_states g h same k i) (in_states g h same k i)
  in_states g h same (_ ∷ k) = in_states g h same k

  all_alone : (h : History) → revisions_of (filter (concerns p.team) h) p ≡ revisions_of h p
  all_alone h = among_alone (filter (concerns p.team) h) h ∙ in_states (filter (concerns p.team) h) h (λ n. state_alone n h) h

  before_alone : (before : Option ℕ) (h : History) → revisions_before (filter (concerns p.team) h) p before ≡ revisions_before h p before
  before_alone before h = ap (filter (is_before before)) (all_alone h)

  author_alone : (name : List ℕ) (h : History) → is_author (filter (concerns p.team) h) p name ≡ is_author h p name
  author_alone name = any_alone p.team (is_submission_by name p) (no_author name)

  newest_alone : (h : History) → last_issue (filter (concerns p.team) h) p ≡ last_issue h p
  newest_alone = alone p.team (λ h. last_issue h p) past more
    where
      past : (h : History) (e : Event) → concerns p.team e ≡ false → last_issue (e ∷ h) p ≡ last_issue h p
      past h (on_revision c act q n) other = ap (λ b. cond b (Some n) (last_issue h p)) (no_effect (has_effect act Issues) q other)
      past h _ other = refl

      more : (h : History) (e : Event) → last_issue (filter (concerns p.team) h) p ≡ last_issue h p → last_issue (e ∷ filter (concerns p.team) h) p ≡ last_issue (e ∷ h) p
      more h (on_revision c act q n) same = ap (λ o. cond (has_effect act Issues && is_profile p q) (Some n) o) same
      more h _ same = same

  issued_alone : (h : History) → issued_revision (filter (concerns p.team) h) p ≡ issued_revision h p
  issued_alone h = λ i. if_issued (option_and_then (λ n. revision_alone n h i) (newest_alone h i))

  held_alone : (h : History) → is_held (filter (concerns p.team) h) p ≡ is_held h p
  held_alone = alone p.team (λ h. is_held h p) past more
    where
      past : (h : History) (e : Event) → concerns p.team e ≡ false → is_held (e ∷ h) p ≡ is_held h p
      past h (on_profile c act q) other = rw other refl
      past h _ other = refl

      more : (h : History) (e : Event) → is_held (filter (concerns p.team) h) p ≡ is_held h p → is_held (e ∷ filter (concerns p.team) h) p ≡ is_held (e ∷ h) p
      more h (on_profile c act q) same = ap (λ b. cond (is_profile p q) (holds act) b) same
      more h _ same = same

  kept_alone : (n : ℕ) (name : List ℕ) (h : History) → kept_vote_of (filter (concerns p.team) h) p n name ≡ kept_vote_of h p n name
  kept_alone n name = alone p.team (λ h. kept_vote_of h p n name) past more
    where
      past : (h : History) (e : Event) → concerns p.team e ≡ false → kept_vote_of (e ∷ h) p n name ≡ kept_vote_of h p n name
      past h (voted c q m d a) other = rw other refl
      past h _ other = refl

      more : (h : History) (e : Event) → kept_vote_of (filter (concerns p.team) h) p n name ≡ kept_vote_of h p n name → kept_vote_of (e ∷ filter (concerns p.team) h) p n name ≡ kept_vote_of (e ∷ h) p n name
      more h (voted c q m d a) same =
          elim (is_profile p q && (n == m) && bytes_eq name c) as (λ b.
          option_map (kept_vote name) (cond b (Some (record { approves = a; digest = d; before = filter (concerns p.team) h })) (vote_of (filter (concerns p.team) h) p n name))
          ≡ option_map (kept_vote name) (cond b (Some (record { approves = a; digest = d; before = h })) (vote_of h p n name))) [
            | true ↦ λ i. Some (record { approves = a; security = holds_role (user_alone p.team name h i) Security })
            | false ↦ same
          ]
      more h _ same = same

  standing_alone : (n : ℕ) (name : List ℕ) (h : History) → standing_at (filter (concerns p.team) h) p n name ≡ standing_at h p n name
  standing_alone n name h = λ i. option_map (λ v. standing_vote name v (user_alone p.team name h i)) (kept_alone n name h i)

  voters_alone : (n : ℕ) (h : History) → voters_of (filter (concerns p.team) h) p n ≡ voters_of h p n
  voters_alone n = alone p.team (λ h. voters_of h p n) past more
    where
      past : (h : History) (e : Event) → concerns p.team e ≡ false → voters_of (e ∷ h) p n ≡ voters_of h p n
      past h (voted c q m d a) other = rw other refl
      past h _ other = refl

      more : (h : History) (e : Event) → voters_of (filter (concerns p.team) h) p n ≡ voters_of h p n → voters_of (e ∷ filter (concerns p.team) h) p n ≡ voters_of (e ∷ h) p n
      more h (voted c q m d a) same = ap (λ names. cond (is_profile p q && (n == m)) (with_name c names) names) same
      more h _ same = same

  votes_alone : (n : ℕ) (h : History) → standing_votes (filter (concerns p.team) h) p n ≡ standing_votes h p n
  votes_alone n h = λ i. filter_map (λ name. standing_alone n name h i) (voters_alone n h i)

  tally_alone : (n : ℕ) (h : History) → tally_at (filter (concerns p.team) h) p n ≡ tally_at h p n
  tally_alone n h = λ i. record {
    approvals = length (filter (λ name. passes (λ row. row.counts && row.approve) (standing_alone n name h i)) (voters_alone n h i));
    secure = length (filter (λ name. passes (λ row. row.approve && row.security) (standing_alone n name h i)) (voters_alone n h i));
    rejections = length (filter (λ name. passes (λ row. row.counts && not row.approve) (standing_alone n name h i)) (voters_alone n h i));
  }

-- ---- the team's baseline, and its profiles
module _ (team : List ℕ) where
  adoption_alone : (h : History) → adoption_of (filter (concerns team) h) team ≡ adoption_of h team
  adoption_alone = alone team (λ h. adoption_of h team) past more
    where
      past : (h : History) (e : Event) → concerns team e ≡ false → adoption_of (e ∷ h) team ≡ adoption_of h team
      past h (on_revision c act q n) other =
          ap (λ b. cond b (Some (record { profile = q.profile; number = n })) (adoption_of h team)) (beside (has_effect act Adopts) (bytes_eq team q.team) other)
      past h _ other = refl

      more : (h : History) (e : Event) → adoption_of (filter (concerns team) h) team ≡ adoption_of h team → adoption_of (e ∷ filter (concerns team) h) team ≡ adoption_of (e ∷ h) team
      more h (on_revision c act q n) same = ap (λ o. cond (has_effect act Adopts && bytes_eq team q.team) (Some (record { profile = q.profile; number = n })) o) same
      more h _ same = same

  adopted_alone : (h : History) → adopted_revision (filter (concerns team) h) team ≡ adopted_revision h team
  adopted_alone h = ap (standing_adoption (filter (concerns team) h) team) (adoption_alone h) ∙ of_adoption (adoption_of h team)
    where
      of_adoption : (b : Option Baseline) → standing_adoption (filter (concerns team) h) team b ≡ standing_adoption h team b
      of_adoption None = refl
      of_adoption (Some b) = ap (λ r. option_map (λ x. (b.profile, x)) (unless_withdrawn r)) (revision_alone (record { team = team; profile = b.profile }) b.number h)

  baseline_alone : (h : History) → baseline_of (filter (concerns team) h) team ≡ baseline_of h team
  baseline_alone h = ap document_or_closed (adopted_alone h)

  need_alone : (h : History) (row : Option RevisionRow) → need_of_row (filter (concerns team) h) team row ≡ need_of_row h team row
  need_alone h None = refl
  need_alone h (Some r) = λ i. need_against (listed_alone team h i) (baseline_alone h i) (document_of r.body)

  profiles_alone : (h : History) → profiles_of (filter (concerns team) h) team ≡ profiles_of h team
  profiles_alone = alone team (λ h. profiles_of h team) past more
    where
      past : (h : History) (e : Event) → concerns team e ≡ false → profiles_of (e ∷ h) team ≡ profiles_of h team
      past h (submitted c q t) other = rw other refl
      past h _ other = refl

      more : (h : History) (e : Event) → profiles_of (filter (concerns team) h) team ≡ profiles_of h team → profiles_of (e ∷ filter (concerns team) h) team ≡ profiles_of (e ∷ h) team
      more h (submitted c q t) same = ap (λ names. cond (bytes_eq team q.team) (with_name q.profile names) names) same
      more h _ same = same

  listing_alone : (h : History) → listing_of (filter (concerns team) h) team ≡ listing_of h team
  listing_alone h = λ i. map (λ name. record {
    profile = name;
    issued = number_of (issued_alone (record { team = team; profile = name }) h i);
    revisions = count_alone (record { team = team; profile = name }) h i;
    state = state_alone (record { team = team; profile = name }) (count_alone (record { team = team; profile = name }) h i) h i;
  }) (profiles_alone h i)

need_at_alone : (p : ProfileName) (n : ℕ) (h : History) → need_at (filter (concerns p.team) h) p n ≡ need_at h p n
need_at_alone p n h = ap (need_of_row (filter (concerns p.team) h) p.team) (revision_alone p n h) ∙ need_alone p.team h (revision_of h p n)

sheet_alone : (p : ProfileName) (r : RevisionRow) (h : History) → sheet_of (filter (concerns p.team) h) p r ≡ sheet_of h p r
sheet_alone p r h = λ i. record {
  team = p.team;
  profile = p.profile;
  number = r.number;
  state = r.state;
  digest = r.digest;
  baseline = option_map (λ found. (found.0, found.1.number)) (adopted_alone p.team h i);
  base = baseline_alone p.team h i;
  shown = document_of r.body;
  listed = listed_alone p.team h i;
  votes = votes_alone p r.number h i;
}

-- ---- verdicts

rules_alone : (h : History) (caller : Option UserRow) (a : Ask) → rules_of (filter (concerns (team_of a)) h) caller a ≡ rules_of h caller a
rules_alone h caller (ask.Enrol user team roles digest) = λ i. behind_caller (is_none caller) (enrol_rules (enrol_facts caller (user_alone team user h i) (showing_alone team digest h i) user team))
rules_alone h caller (ask.Submit p document) = λ i. behind_caller (is_none caller) (submit_rules (submit_facts caller p.team (reading_of document.items) (last_alone p h i) (count_alone p h i)))
rules_alone h caller (ask.Vote p n digest approve) = λ i. behind_caller (is_none caller) (vote_rules (vote_facts caller (revision_alone p n h i) (author_alone p (name_of caller) h i) digest))
rules_alone h caller (ask.ActOnRevision Issue p n) =
    λ i. behind_caller (is_none caller) (issue_rules (issue_facts caller (revision_alone p n h i) (author_alone p (name_of caller) h i) (tally_alone p n h i) (need_at_alone p n h i) (held_alone p h i)))
rules_alone h caller (ask.ActOnRevision Withdraw p n) = λ i. behind_caller (is_none caller) (withdraw_rules (withdraw_facts caller p.team (revision_alone p n h i)))
rules_alone h caller (ask.ActOnRevision Adopt p n) = λ i. behind_caller (is_none caller) (adopt_rules (adopt_facts caller (revision_alone p n h i) (author_alone p (name_of caller) h i)))
rules_alone h caller (ask.SeeRevision view p n) = λ i. behind_caller (is_none caller) (read_rules (read_facts caller p.team (is_none (revision_alone p n h i))))
rules_alone h caller (ask.List team) = refl
rules_alone h caller (ask.SeeProfile view p) = λ i. behind_caller (is_none caller) (fetch_rules (fetch_facts caller p.team (issued_alone p h i) (held_alone p h i)))
rules_alone h caller (ask.ActOnProfile act p) = λ i. behind_caller (is_none caller) (hold_rules act (hold_facts caller (count_alone p h i == 0) (held_alone p h i)))
rules_alone h caller ask.Me = refl
rules_alone h caller (ask.Revisions p before) = λ i. behind_caller (is_none caller) (revisions_rules (revisions_facts caller p.team (count_alone p h i == 0)))

new_alone : (h : History) (caller : Option UserRow) (p : ProfileName) (reading : Result Profile DocFault) → new_revision (filter (concerns p.team) h) caller p reading ≡ new_revision h caller p reading
new_alone h caller p (Err f) = refl
new_alone h caller p (Ok profile) = λ i. accepted (reply.Submitted (digest_of (text_of profile)) (suc (count_alone p h i))) (Some (submitted (name_of caller) p (text_of profile)))

done_alone : (h : History) (caller : Option UserRow) (a : Ask) → done_of (filter (concerns (team_of a)) h) caller a ≡ done_of h caller a
done_alone h caller (ask.Enrol user team roles digest) = refl
done_alone h caller (ask.Submit p document) = new_alone h caller p (reading_of document.items)
done_alone h caller (ask.Vote p n digest approve) = refl
done_alone h caller (ask.ActOnRevision act p n) = λ i. done_to (revision_alone p n h i) act (on_revision (name_of caller) act p n)
done_alone h caller (ask.SeeRevision Show p n) = λ i. of_revision (revision_alone p n h i) (λ r. accepted (reply.Shown r.digest r.body r.state) None)
done_alone h caller (ask.SeeRevision Sheet p n) = λ i. of_revision (revision_alone p n h i) (λ r. accepted (reply.Sheet (sheet_text (sheet_alone p r h i))) None)
done_alone h caller (ask.List team) = λ i. accepted (reply.Listed (listing_alone team h i)) None
done_alone h caller (ask.ActOnProfile act p) = refl
done_alone h caller (ask.SeeProfile view p) = λ i. of_revision (issued_alone p h i) (λ r. accepted (given_of view r) None)
done_alone h caller ask.Me = refl
done_alone h caller (ask.Revisions p before) = λ i. accepted (newest_told (before_alone p before h i)) None

judged_alone : (h : History) (caller : Option UserRow) (a : Ask) (decided : Result ⊤ Denial) → judged (filter (concerns (team_of a)) h) caller a decided ≡ judged h caller a decided
judged_alone h caller a (Ok u) = done_alone h caller a
judged_alone h caller a (Err d) = refl

verdict_alone : (h : History) (r : Request) → verdict (filter (concerns (team_of r.ask)) h) r ≡ verdict h r
verdict_alone h r =
    let others = filter (concerns (team_of r.ask)) h in
    let caller = user_showing h (digest_of r.token) in
    ap (λ u. verdict_of others u r.ask) (showing_alone (team_of r.ask) (digest_of r.token) h)
    ∙ judged_alone h caller r.ask (first_denial (rules_of others caller r.ask))
    ∙ ap (λ rules. judged h caller r.ask (first_denial rules)) (rules_alone h caller r.ask)

pub teams_apart : (h k : History) (r : Request) → filter (concerns (team_of r.ask)) h ≡ filter (concerns (team_of r.ask)) k → verdict h r ≡ verdict k r
teams_apart h k r same = sym (verdict_alone h r) ∙ ap (λ x. verdict x r) same ∙ verdict_alone k r
