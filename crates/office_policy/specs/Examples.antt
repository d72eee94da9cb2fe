-- An office in which things have happened, to show what looking back says of it.
use Rattle.std.specs.Prelude.{ℕ, List, [], ◌∷◌, true, false, Some, None, codes, map, Result, Err, ⊤, is_none}
use Rattle.cap_sets.specs.declared.state.CapState.{CapState}
use Rattle.cap_sets.proofs.Bits.{none_in_zero}
use Rattle.seccomp_doc.specs.declared.action.Action.TheVariants.{Allow, Errno}
use Rattle.profile_text.specs.declared.fault.DocFault.TheVariants.{TooLong}
use Rattle.profile_text.specs.declared.profile.Profile.{Profile}
use Rattle.profile_text.specs.Digest.{digest_of}
use Rattle.profile_text.specs.Profile.{no_caps}
use Rattle.review_policy.specs.declared.act.ProfileAct.TheVariants.{Hold, Release}
use Rattle.office_words.specs.declared.listed.ProfileRevision.{ProfileRevision}
use Rattle.office_words.specs.declared.name.ProfileName.{ProfileName}
use Rattle.review_policy.specs.declared.ask.Ask.{Ask}
use Rattle.review_policy.specs.declared.ask.Ask.TheVariants as ask
use Rattle.review_policy.specs.declared.denial.Denial.{Denial}
use Rattle.review_policy.specs.declared.denial.Need.{Need}
use Rattle.review_policy.specs.declared.denial.Rule.{Rule}
use Rattle.office_words.specs.declared.revision.State.{State}
use Rattle.office_words.specs.declared.revision.State.TheVariants.{Open}
use Rattle.review_policy.specs.Rules.{first_denial, submit_rules, vote_rules, issue_rules, behind_caller}
use Rattle.office_words.specs.declared.row.RevisionRow.{RevisionRow}
use Rattle.office_policy.specs.History.{Event, founded, enrolled, submitted, voted, issued}
use Rattle.office_policy.specs.History.{withdrawn, adopted, on_profile, History}
use Rattle.office_policy.specs.Users.{user_of}
use Rattle.office_policy.specs.Revisions.{revision_of, is_author}
use Rattle.office_policy.specs.Votes.{tally_at}
use Rattle.office_policy.specs.Holds.{is_held}
use Rattle.office_policy.specs.Facts.{submit_facts, vote_facts, issue_facts}
use Rattle.office_policy.specs.Need.{need_against}
use Rattle.office_policy.specs.Verdict.{Verdict, rules_of, verdict_of}

-- ---- the office: authors and machines of two teams, and who reviews, secures and issues

abbrev pub blue : List ℕ
blue = codes "blue"

abbrev pub red : List ℕ
red = codes "red"

abbrev pub desk : List ℕ
desk = codes "office"

abbrev pub root : List ℕ
root = codes "root"

abbrev pub ann : List ℕ
ann = codes "ann"

abbrev pub ben : List ℕ
ben = codes "ben"

abbrev pub rev : List ℕ
rev = codes "rev"

abbrev pub ray : List ℕ
ray = codes "ray"

abbrev pub sue : List ℕ
sue = codes "sue"

abbrev pub iss : List ℕ
iss = codes "iss"

abbrev pub blue_machine : List ℕ
blue_machine = codes "m1"

abbrev pub red_machine : List ℕ
red_machine = codes "m2"

abbrev pub web : ProfileName
web = record { team = codes "blue"; profile = codes "web" }

abbrev pub unknown_profile : ProfileName
unknown_profile = record { team = codes "blue"; profile = codes "none" }

-- CAP_SYS_ADMIN
abbrev pub listed : ℕ
listed = 2097152

-- sets of roles: author, reviewer, security, issuer and machine have the values 2, 4, 8, 16 and 32
abbrev pub office : History
office =
    enrolled root red_machine red 32 (8 ∷ [])
    ∷ enrolled root blue_machine blue 32 (7 ∷ [])
    ∷ enrolled root iss desk 16 (6 ∷ [])
    ∷ enrolled root sue desk 12 (5 ∷ [])
    ∷ enrolled root ray desk 4 (4 ∷ [])
    ∷ enrolled root rev desk 4 (3 ∷ [])
    ∷ enrolled root ben blue 6 (2 ∷ [])
    ∷ enrolled root ann blue 2 (1 ∷ [])
    ∷ founded root desk (0 ∷ []) listed
    ∷ []

-- ---- what happens in it

abbrev pub text : List ℕ
text = 1 ∷ []

abbrev pub submits : List ℕ → Event
submits who = submitted who web text

abbrev pub approves : List ℕ → ℕ → Event
approves who n = voted who web n (9 ∷ []) true

abbrev pub rejects : List ℕ → ℕ → Event
rejects who n = voted who web n (9 ∷ []) false

abbrev pub issues : ℕ → Event
issues n = issued iss web n

abbrev pub withdraws : ℕ → Event
withdraws n = withdrawn sue web n

abbrev pub adopts : ℕ → Event
adopts n = adopted sue web n

abbrev pub holds : Event
holds = on_profile sue Hold web

abbrev pub releases : Event
releases = on_profile sue Release web

-- root gives a user of the desk's team other roles
abbrev pub has_roles : List ℕ → ℕ → (digest : List ℕ) → Event
has_roles who roles digest = enrolled root who desk roles digest

-- the founding alone
abbrev pub founding : History
founding = founded root desk (0 ∷ []) listed ∷ []

-- rob of another team is enrolled with these roles
abbrev pub rob : List ℕ
rob = codes "rob"

abbrev pub enrols_rob : ℕ → Event
enrols_rob roles = enrolled root rob red roles (10 ∷ [])

-- a revision of each of two authors
abbrev pub both_submitted : History
both_submitted = submits ann ∷ submits ben ∷ office

-- ann is author, security and issuer
abbrev pub with_trusted_ann : History
with_trusted_ann = enrolled root ann blue 26 (1 ∷ []) ∷ office

-- a revision that rev and sue approve, is issued and adopted, and one after it that rev approves
abbrev pub one_submitted : History
one_submitted = submits ann ∷ office

-- two reviewers without security approve
abbrev pub reviewers_approve : History
reviewers_approve = approves ray 1 ∷ approves rev 1 ∷ one_submitted

abbrev pub both_approve : History
both_approve = approves sue 1 ∷ approves rev 1 ∷ one_submitted

abbrev pub first_issued : History
first_issued = issues 1 ∷ both_approve

abbrev pub second_approved : History
second_approved = approves rev 2 ∷ submits ann ∷ adopts 1 ∷ first_issued

abbrev pub baseline_withdrawn : History
baseline_withdrawn = withdraws 1 ∷ second_approved

abbrev pub second_issued : History
second_issued = issues 2 ∷ second_approved

abbrev pub second_withdrawn : History
second_withdrawn = withdraws 2 ∷ second_issued

-- an issued revision whose profile is held, and what goes on meanwhile
abbrev pub held_when_issued : History
held_when_issued = holds ∷ issues 1 ∷ approves rev 1 ∷ one_submitted

abbrev pub approved_while_held : History
approved_while_held = approves sue 2 ∷ approves rev 2 ∷ submits ann ∷ held_when_issued

abbrev pub released_then : History
released_then = releases ∷ approved_while_held

abbrev pub issued_then : History
issued_then = issues 2 ∷ released_then

-- the first revision has this text, and was issued and adopted
abbrev pub adopts_first : List ℕ → History
adopts_first bytes = adopts 1 ∷ issues 1 ∷ submitted ann web bytes ∷ office

-- a revision that was voted on after an earlier one was issued and adopted, and one of its voters
-- is no reviewer now
abbrev pub after_an_adoption : (old new : List ℕ) → History
after_an_adoption old new =
    has_roles rev 0 (3 ∷ [])
    ∷ approves sue 2
    ∷ rejects rev 2
    ∷ submitted ann web new
    ∷ adopts_first old

-- the row of an open revision by ann
abbrev pub open_row : ℕ → List ℕ → RevisionRow
open_row number bytes =
    record { number = number; author = ann; state = Open; body = bytes; digest = digest_of bytes }

-- what is told of a revision in a list
abbrev pub listed_as : ℕ → State → (by : List ℕ) → ProfileRevision
listed_as number state by =
    record { revision = number; state = state; digest = digest_of text; by = by }

-- ---- what is decided

-- the rule of this number refuses
abbrev pub refused : ℕ → Rule → Result ⊤ Denial
refused number rule = Err (record { number = number; rule = rule })

-- the first rule that refuses what a user asks, if any
abbrev pub decision : History → List ℕ → Ask → Result ⊤ Denial
decision h who a = first_denial (rules_of h (user_of h who) a)

-- what a user is answered, and what happens
abbrev pub told : History → List ℕ → Ask → Verdict
told h who a = verdict_of h (user_of h who) a

-- the first rule that refuses a user's issue of a revision with this need, if any
abbrev pub issue_by : List ℕ → History → Need → ℕ → Result ⊤ Denial
issue_by who h need n =
    first_denial
    (behind_caller (is_none (user_of h who))
    (issue_rules
    (issue_facts (user_of h who) (revision_of h web n) (is_author h web who) (tally_at h web n) need
    (is_held h web))))

abbrev pub issue : History → Need → ℕ → Result ⊤ Denial
issue h need n = issue_by iss h need n

-- an approval of a revision, whose digest is 9
abbrev pub approving : ℕ → Ask
approving n = ask.Vote web n (9 ∷ []) true

-- the first rule that refuses what ann submits for a team, where that is no document
abbrev pub submitting_none : History → List ℕ → Result ⊤ Denial
submitting_none h team =
    first_denial
    (behind_caller (is_none (user_of h ann))
    (submit_rules (submit_facts (user_of h ann) team (Err TooLong) None 0)))

-- the first rule that refuses rev's vote naming a digest, on an open revision with the digest 9, if
-- any
abbrev pub vote_naming : List ℕ → Result ⊤ Denial
vote_naming digest =
    first_denial
    (behind_caller (is_none (user_of office rev))
    (vote_rules (vote_facts (user_of office rev) (Some row) false digest)))
  where
    row : RevisionRow
    row = record { number = 1; author = ann; state = Open; body = text; digest = 9 ∷ [] }

-- ---- documents

-- a state with neither an effective nor an ambient capability
abbrev pub caps_of : (permitted inheritable bounding : ℕ) → CapState
caps_of permitted inheritable bounding = record {
  effective = 0;
  permitted = permitted;
  inheritable = inheritable;
  bounding = bounding;
  ambient = 0;
  lawful = record {
    effective_permitted = λ n h. absurd (none_in_zero n h);
    ambient_permitted = λ n h. absurd (none_in_zero n h);
    ambient_inheritable = λ n h. absurd (none_in_zero n h);
  };
}

-- a state with one effective capability, and one with one ambient capability
abbrev pub with_effective : ℕ → CapState
with_effective caps = record {
  effective = caps;
  permitted = caps;
  inheritable = 0;
  bounding = 0;
  ambient = 0;
  lawful = record {
    effective_permitted = λ n h. h;
    ambient_permitted = λ n h. absurd (none_in_zero n h);
    ambient_inheritable = λ n h. h;
  };
}

abbrev pub with_ambient : ℕ → CapState
with_ambient caps = record {
  effective = 0;
  permitted = caps;
  inheritable = caps;
  bounding = 0;
  ambient = caps;
  lawful = record {
    effective_permitted = λ n h. absurd (none_in_zero n h);
    ambient_permitted = λ n h. h;
    ambient_inheritable = λ n h. h;
  };
}

-- a profile without a filter
abbrev pub with_caps : CapState → Profile
with_caps caps = record { caps = caps; filter = None }

-- the need of these capabilities, where a document with the same was adopted
abbrev pub need_of_same : CapState → Need
need_of_same caps = need_against listed (with_caps caps) (with_caps caps)

-- a profile that allows these calls, whatever their arguments
abbrev pub allows : List (List ℕ) → Profile
allows names = record {
  caps = no_caps;
  filter = Some (record {
    default = Errno 1;
    architectures = [];
    flags = [];
    entries = map (λ name. record { names = name ∷ []; action = Allow; args = [] }) names;
  });
}

abbrev pub reads : Profile
reads = allows (codes "read" ∷ [])

abbrev pub reads_and_writes : Profile
reads_and_writes = allows (codes "read" ∷ codes "write" ∷ [])
