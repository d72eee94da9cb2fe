-- What the policy says of a request, by looking back over what has happened.
use Rattle.std.specs.Prelude.{ℕ, suc, List, Bool, false, ⊤, ◌==◌, Option, Some, None, is_none, []}
use Rattle.std.specs.Prelude.{Result, Ok, Err}
use Rattle.profile_text.specs.Digest.{digest_of}
use Rattle.review_policy.specs.declared.act.ProfileView.{ProfileView}
use Rattle.review_policy.specs.declared.act.ProfileView.TheVariants.{Fetch, Issued}
use Rattle.review_policy.specs.declared.act.RevisionAct.{RevisionAct}
use Rattle.review_policy.specs.declared.act.RevisionAct.TheVariants.{Issue, Withdraw, Adopt}
use Rattle.review_policy.specs.declared.act.RevisionView.{RevisionView}
use Rattle.review_policy.specs.declared.act.RevisionView.TheVariants.{Show, Sheet}
use Rattle.office_words.specs.declared.name.ProfileName.{ProfileName}
use Rattle.review_policy.specs.declared.ask.Ask.{Ask}
use Rattle.review_policy.specs.declared.ask.Ask.TheVariants as ask
use Rattle.review_policy.specs.declared.ask.Request.{Request}
use Rattle.review_policy.specs.declared.answer.Reply.{Reply}
use Rattle.review_policy.specs.declared.answer.Reply.TheVariants as reply
use Rattle.review_policy.specs.declared.denial.Denial.{Denial}
use Rattle.review_policy.specs.declared.denial.Rule.{Rule}
use Rattle.review_policy.specs.declared.denial.Rule.TheVariants.{Document, NoRevision}
use Rattle.review_policy.specs.Rules.{first_denial, enrol_rules, submit_rules, vote_rules}
use Rattle.review_policy.specs.Rules.{issue_rules, withdraw_rules, adopt_rules, read_rules}
use Rattle.review_policy.specs.Rules.{fetch_rules, hold_rules}
use Rattle.review_policy.specs.Rules.{revisions_rules, behind_caller}
use Rattle.profile_text.specs.declared.profile.Profile.{Profile}
use Rattle.profile_text.specs.declared.fault.DocFault.{DocFault}
use Rattle.profile_text.specs.Reading.{reading_of}
use Rattle.profile_text.specs.Text.{text_of}
use Rattle.profile_text.specs.FaultText.{fault_text_of}
use Rattle.review_sheet.specs.Sheet.{sheet_text}
use Rattle.office_words.specs.declared.row.UserRow.{UserRow}
use Rattle.office_words.specs.declared.row.RevisionRow.{RevisionRow}
use Rattle.office_policy.specs.History.{Event, enrolled, submitted, voted, on_revision}
use Rattle.office_policy.specs.History.{on_profile, History}
use Rattle.office_policy.specs.Users.{user_of, user_showing, name_of}
use Rattle.office_policy.specs.Revisions.{revision_of, revision_count, last_revision}
use Rattle.office_policy.specs.Revisions.{issued_revision, is_author}
use Rattle.office_policy.specs.Votes.{tally_at}
use Rattle.office_policy.specs.Holds.{is_held}
use Rattle.office_policy.specs.Need.{need_at}
use Rattle.office_policy.specs.Sheets.{sheet_of}
use Rattle.office_policy.specs.Listing.{listing_of}
use Rattle.office_policy.specs.Facts.{enrol_facts, submit_facts, vote_facts, issue_facts}
use Rattle.office_policy.specs.Facts.{withdraw_facts, adopt_facts, read_facts, fetch_facts}
use Rattle.office_policy.specs.Facts.{hold_facts, revisions_facts}
use Rattle.office_policy.specs.Newest.{revisions_before, newest_told}

-- a request is carried out, with its reply and, where its kind changes something, its event, or a
-- rule refuses it
pub data Verdict : Type 0 where
  accepted : Reply → Option Event → Verdict
  denied : Denial → (fault : Option (List ℕ)) → Verdict

-- what no request is answered: a rule has refused it before
abbrev pub unreached : Verdict
unreached = denied (record { number = 0; rule = NoRevision }) None

-- what is done with a revision, which is there where its rules let the request through
abbrev pub of_revision : Option RevisionRow → (RevisionRow → Verdict) → Verdict
of_revision None done = unreached
of_revision (Some r) done = done r

-- what is done with a user, who is there where the rules let the request through
abbrev pub of_user : Option UserRow → (UserRow → Verdict) → Verdict
of_user None done = unreached
of_user (Some u) done = done u

-- a document that doesn't read is answered with its fault
abbrev pub fault_told : Rule → Result Profile DocFault → Option (List ℕ)
fault_told Document (Err f) = Some (fault_text_of f)
fault_told _ reading = None

-- a document that reads becomes the next revision of its profile, by its canonical text
abbrev pub new_revision : History → Option UserRow → ProfileName → Result Profile DocFault → Verdict
new_revision h caller p (Err f) = unreached
new_revision h caller p (Ok profile) =
    accepted (reply.Submitted (digest_of (text_of profile)) (suc (revision_count h p)))
    (Some (submitted (name_of caller) p (text_of profile)))

-- of what is done to a revision an issue tells the digest of what hosts fetch
abbrev pub done_to : Option RevisionRow → RevisionAct → Event → Verdict
done_to revision Issue e = of_revision revision (λ r. accepted (reply.Issued r.digest) (Some e))
done_to revision _ e = accepted reply.Nothing (Some e)

-- what is seen of a revision
abbrev pub seen_of : History → ProfileName → RevisionView → RevisionRow → Reply
seen_of h p Show r = reply.Shown r.digest r.body r.state
seen_of h p Sheet r = reply.Sheet (sheet_text (sheet_of h p r))

-- what is seen of a profile's issued revision
abbrev pub given_of : ProfileView → RevisionRow → Reply
given_of Fetch r = reply.Fetched r.digest r.body r.number
given_of Issued r = reply.IssuedNow r.digest r.number

module _ (h : History) where
  -- the rules of a request behind the first, in order, each with whether it refuses
  abbrev pub rules_behind : Option UserRow → Ask → List (Rule × Bool)
  rules_behind caller (ask.Enrol user team roles digest) =
      enrol_rules (enrol_facts caller (user_of h user) (user_showing h digest) user team)
  rules_behind caller (ask.Submit p document) =
      submit_rules
      (submit_facts caller p.team (reading_of document.items) (last_revision h p)
      (revision_count h p))
  rules_behind caller (ask.Vote p n digest approve) =
      vote_rules (vote_facts caller (revision_of h p n) (is_author h p (name_of caller)) digest)
  rules_behind caller (ask.ActOnRevision Issue p n) =
      issue_rules
      (issue_facts caller (revision_of h p n) (is_author h p (name_of caller)) (tally_at h p n)
      (need_at h p n) (is_held h p))
  rules_behind caller (ask.ActOnRevision Withdraw p n) =
      withdraw_rules (withdraw_facts caller p.team (revision_of h p n))
  rules_behind caller (ask.ActOnRevision Adopt p n) =
      adopt_rules (adopt_facts caller (revision_of h p n) (is_author h p (name_of caller)))
  rules_behind caller (ask.SeeRevision view p n) =
      read_rules (read_facts caller p.team (is_none (revision_of h p n)))
  rules_behind caller (ask.List team) = read_rules (read_facts caller team false)
  rules_behind caller (ask.SeeProfile view p) =
      fetch_rules (fetch_facts caller p.team (issued_revision h p) (is_held h p))
  rules_behind caller (ask.ActOnProfile act p) =
      hold_rules act (hold_facts caller (revision_count h p == 0) (is_held h p))
  rules_behind caller ask.Me = []
  rules_behind caller (ask.Revisions p before) =
      revisions_rules (revisions_facts caller p.team (revision_count h p == 0))

  -- the rules of a request, of which the first refuses a caller whom nobody knows
  abbrev pub rules_of : Option UserRow → Ask → List (Rule × Bool)
  rules_of caller a = behind_caller (is_none caller) (rules_behind caller a)

  -- what is done where none refuses
  abbrev pub done_of : Option UserRow → Ask → Verdict
  done_of caller (ask.Enrol user team roles digest) =
      accepted reply.Nothing (Some (enrolled (name_of caller) user team roles digest))
  done_of caller (ask.Submit p document) = new_revision h caller p (reading_of document.items)
  done_of caller (ask.Vote p n digest approve) =
      accepted reply.Nothing (Some (voted (name_of caller) p n digest approve))
  done_of caller (ask.ActOnRevision act p n) =
      done_to (revision_of h p n) act (on_revision (name_of caller) act p n)
  done_of caller (ask.SeeRevision view p n) =
      of_revision (revision_of h p n) (λ r. accepted (seen_of h p view r) None)
  done_of caller (ask.List team) = accepted (reply.Listed (listing_of h team)) None
  done_of caller (ask.ActOnProfile act p) =
      accepted reply.Nothing (Some (on_profile (name_of caller) act p))
  done_of caller (ask.SeeProfile view p) =
      of_revision (issued_revision h p) (λ r. accepted (given_of view r) None)
  done_of caller ask.Me = of_user caller (λ u. accepted (reply.Me u.name u.team u.roles) None)
  done_of caller (ask.Revisions p before) =
      accepted (newest_told (revisions_before h p before)) None

  -- what is answered of a refusal besides its rule: why a document doesn't read
  abbrev pub fault_beside : Ask → Rule → Option (List ℕ)
  fault_beside (ask.Submit p document) rule = fault_told rule (reading_of document.items)
  fault_beside _ rule = None

  -- the first rule that refuses, else what is done
  abbrev pub judged : Option UserRow → Ask → Result ⊤ Denial → Verdict
  judged caller a (Ok u) = done_of caller a
  judged caller a (Err d) = denied d (fault_beside a d.rule)

  abbrev pub verdict_of : Option UserRow → Ask → Verdict
  verdict_of caller a = judged caller a (first_denial (rules_of caller a))

  -- the caller is the user whose present digest is that of the shown token
  abbrev pub verdict : Request → Verdict
  verdict r = verdict_of (user_showing h (digest_of r.token)) r.ask
