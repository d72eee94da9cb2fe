-- Which request a reply answers.
use Rattle.std.proofs.Common.{◌≡◌, ℕ, List, Some, None, Option, Ok, Err, refl, subst, Vec, Global}
use Rattle.std.specs.Prelude.{Result}
use Rattle.profile_text.specs.Digest.{digest_of}
use Rattle.profile_text.specs.Reading.{reading_of}
use Rattle.profile_text.specs.declared.profile.Profile.{Profile}
use Rattle.profile_text.specs.declared.fault.DocFault.{DocFault}
use Rattle.review_policy.specs.declared.act.ProfileView.{ProfileView}
use Rattle.review_policy.specs.declared.act.ProfileView.TheVariants.{Fetch, Issued}
use Rattle.review_policy.specs.declared.act.RevisionAct.TheVariants.{Issue}
use Rattle.review_policy.specs.declared.act.RevisionView.{RevisionView}
use Rattle.review_policy.specs.declared.act.RevisionView.TheVariants.{Show, Sheet}
use Rattle.office_words.specs.declared.name.ProfileName.{ProfileName}
use Rattle.review_policy.specs.declared.ask.Ask.{Ask}
use Rattle.review_policy.specs.declared.ask.Ask.TheVariants as ask
use Rattle.review_policy.specs.declared.ask.Request.{Request}
use Rattle.review_policy.specs.declared.answer.Reply.{Reply}
use Rattle.review_policy.specs.declared.answer.Reply.TheVariants as reply
use Rattle.office_words.specs.declared.row.RevisionRow.{RevisionRow}
use Rattle.office_words.specs.declared.row.UserRow.{UserRow}
use Rattle.office_policy.specs.History.{Event, issued, History}
use Rattle.office_policy.specs.Users.{user_showing, name_of}
use Rattle.office_policy.specs.Revisions.{revision_of, issued_revision}
use Rattle.office_policy.specs.Verdict.{Verdict, accepted, denied, new_revision, done_of, given_of, seen_of, verdict}
use Rattle.office_policy.specs.Duty.{IsSubmission}
use Rattle.office_policy.proofs.LawFacts.{of_revision_by, of_user_by}
use Rattle.office_policy.proofs.GivenOut.{carried_out}

-- an issue is asked for, and happens
pub record IsIssuing (caller : List ℕ) (a : Ask) (e : Option Event) : Type 0 where
  pub profile : ProfileName
  pub number : ℕ
  pub asked : a ≡ ask.ActOnRevision Issue profile number
  pub happened : e ≡ Some (issued caller profile number)

-- a fetch is asked for
pub record IsFetching (a : Ask) : Type 0 where
  pub profile : ProfileName
  pub asked : a ≡ ask.SeeProfile Fetch profile

-- which revision is issued is asked for
pub record IsAskingIssued (a : Ask) : Type 0 where
  pub profile : ProfileName
  pub asked : a ≡ ask.SeeProfile Issued profile

-- a reply that speaks of a text is to the request that asks for it
abbrev pub IsReplyTo : History → (caller : List ℕ) → Ask → Reply → Option Event → Type 0
IsReplyTo h caller a (reply.Submitted digest n) e = IsSubmission h caller a digest n e
IsReplyTo h caller a (reply.Issued digest) e = IsIssuing caller a e
IsReplyTo h caller a (reply.Fetched digest text n) e = IsFetching a
IsReplyTo h caller a (reply.IssuedNow digest n) e = IsAskingIssued a
IsReplyTo h caller a reply e = Unit {0}

abbrev Fits : History → List ℕ → Ask → Verdict → Type 0
Fits h caller a (accepted reply e) = IsReplyTo h caller a reply e
Fits h caller a (denied d fault) = Unit {0}

new_fits : (h : History) (caller : Option UserRow) (p : ProfileName) (document : Vec ℕ Global) (reading : Result Profile DocFault) → reading_of document.items ≡ reading
    → Fits h (name_of caller) (ask.Submit p document) (new_revision h caller p reading)
new_fits h caller p document (Ok profile) reads =
    record { profile = p; document = document; asked = refl; read = profile; reads = reads; of_its_text = refl; next = refl; happened = refl }
new_fits h caller p document (Err f) reads = tt

done_fits : (h : History) (caller : Option UserRow) (a : Ask) → Fits h (name_of caller) a (done_of h caller a)
done_fits h caller (ask.Submit p document) = new_fits h caller p document (reading_of document.items) refl
done_fits h caller (ask.ActOnRevision Issue p n) =
    of_revision_by (Fits h (name_of caller) (ask.ActOnRevision Issue p n)) (revision_of h p n) (λ r. accepted (reply.Issued r.digest) (Some (issued (name_of caller) p n))) tt (λ r. record { profile = p; number = n; asked = refl; happened = refl })
done_fits h caller (ask.ActOnRevision _ p n) = tt
done_fits h caller (ask.SeeRevision view p n) = of_revision_by (Fits h (name_of caller) (ask.SeeRevision view p n)) (revision_of h p n) (λ r. accepted (seen_of h p view r) None) tt (seen_fits view)
  where
    seen_fits : (view : RevisionView) (r : RevisionRow) → IsReplyTo h (name_of caller) (ask.SeeRevision view p n) (seen_of h p view r) None
    seen_fits Show r = tt
    seen_fits Sheet r = tt
done_fits h caller (ask.SeeProfile view p) = of_revision_by (Fits h (name_of caller) (ask.SeeProfile view p)) (issued_revision h p) (λ r. accepted (given_of view r) None) tt (given_fits view)
  where
    given_fits : (view : ProfileView) (r : RevisionRow) → IsReplyTo h (name_of caller) (ask.SeeProfile view p) (given_of view r) None
    given_fits Fetch r = record { profile = p; asked = refl }
    given_fits Issued r = record { profile = p; asked = refl }
done_fits h caller (ask.Enrol user team roles digest) = tt
done_fits h caller (ask.Vote p n digest approve) = tt
done_fits h caller (ask.List team) = tt
done_fits h caller (ask.ActOnProfile act p) = tt
done_fits h caller ask.Me = of_user_by (Fits h (name_of caller) ask.Me) caller (λ u. accepted (reply.Me u.name u.team u.roles) None) tt (λ u. tt)
done_fits h caller (ask.Revisions p before) = tt

-- who shows the token of a request
abbrev pub caller_in : History → Request → List ℕ
caller_in h r = name_of (user_showing h (digest_of r.token))

pub replied_to : (h : History) (r : Request) (reply : Reply) (e : Option Event) → verdict h r ≡ accepted reply e → IsReplyTo h (caller_in h r) r.ask reply e
replied_to h r reply e is =
    subst (Fits h (caller_in h r) r.ask) (carried_out h r r.ask reply e refl is).done (done_fits h (user_showing h (digest_of r.token)) r.ask)
