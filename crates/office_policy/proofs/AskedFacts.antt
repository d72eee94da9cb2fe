-- What is carried out is what was asked.
use Rattle.std.proofs.Common.{◌≡◌, ℕ, List, false, Some, None, Option, Ok, Err, refl, subst, Vec, Global}
use Rattle.std.specs.Prelude.{Result}
use Rattle.profile_text.specs.Digest.{digest_of}
use Rattle.profile_text.specs.Reading.{reading_of}
use Rattle.profile_text.specs.declared.profile.Profile.{Profile}
use Rattle.profile_text.specs.declared.fault.DocFault.{DocFault}
use Rattle.review_policy.specs.declared.act.RevisionView.TheVariants.{Show, Sheet}
use Rattle.office_words.specs.declared.name.ProfileName.{ProfileName}
use Rattle.review_policy.specs.declared.ask.Ask.{Ask}
use Rattle.review_policy.specs.declared.ask.Ask.TheVariants as ask
use Rattle.review_policy.specs.declared.ask.Request.{Request}
use Rattle.review_policy.specs.declared.answer.Reply.{Reply}
use Rattle.review_policy.specs.declared.answer.Reply.TheVariants as reply
use Rattle.office_words.specs.declared.row.RevisionRow.{RevisionRow}
use Rattle.office_words.specs.declared.row.UserRow.{UserRow}
use Rattle.office_policy.specs.History.{Event, on_revision, History}
use Rattle.office_policy.specs.Users.{user_showing, name_of}
use Rattle.office_policy.specs.Revisions.{revision_of, issued_revision}
use Rattle.office_policy.specs.Verdict.{Verdict, accepted, denied, new_revision, of_revision, of_user, done_of, given_of, seen_of, verdict}
use Rattle.office_policy.specs.Asked.{IsAsked, IsSeen, OfRevision, TellsCaller}
use Rattle.office_policy.specs.Handled.{only_reads}
use Rattle.office_policy.proofs.UserFacts.{showing_is}
use Rattle.office_policy.proofs.LawFacts.{done_to_by, of_revision_by, of_user_by}
use Rattle.office_policy.proofs.GivenOut.{carried_out}
use Rattle.office_policy.proofs.ReplyFacts.{caller_in}

-- what a verdict does is what this user asked
abbrev DoesAsked : List ℕ → Ask → Verdict → Type 0
DoesAsked caller a (accepted reply e) = IsAsked caller a e
DoesAsked caller a (denied d fault) = Unit {0}

new_asked : (h : History) (caller : Option UserRow) (p : ProfileName) (document : Vec ℕ Global) (reading : Result Profile DocFault) → reading_of document.items ≡ reading
    → DoesAsked (name_of caller) (ask.Submit p document) (new_revision h caller p reading)
new_asked h caller p document (Ok profile) reads = record { read = profile; reads = reads; happened = refl }
new_asked h caller p document (Err f) reads = tt

done_asked : (h : History) (caller : Option UserRow) (a : Ask) → DoesAsked (name_of caller) a (done_of h caller a)
done_asked h caller (ask.Enrol user team roles digest) = refl
done_asked h caller (ask.Submit p document) = new_asked h caller p document (reading_of document.items) refl
done_asked h caller (ask.Vote p n digest approve) = refl
done_asked h caller (ask.ActOnRevision act p n) =
    done_to_by (DoesAsked (name_of caller) (ask.ActOnRevision act p n)) (revision_of h p n) act (on_revision (name_of caller) act p n) tt (λ told. refl)
done_asked h caller (ask.SeeRevision view p n) =
    of_revision_by (DoesAsked (name_of caller) (ask.SeeRevision view p n)) (revision_of h p n) (λ r. accepted (seen_of h p view r) None) tt (λ r. refl)
done_asked h caller (ask.List team) = refl
done_asked h caller (ask.ActOnProfile act p) = refl
done_asked h caller (ask.SeeProfile view p) =
    of_revision_by (DoesAsked (name_of caller) (ask.SeeProfile view p)) (issued_revision h p) (λ r. accepted (given_of view r) None) tt (λ r. refl)
done_asked h caller ask.Me = of_user_by (DoesAsked (name_of caller) ask.Me) caller (λ u. accepted (reply.Me u.name u.team u.roles) None) tt (λ u. refl)
done_asked h caller (ask.Revisions p before) = refl

pub asked_by : (h : History) (r : Request) (reply : Reply) (e : Option Event) → verdict h r ≡ accepted reply e → IsAsked (caller_in h r) r.ask e
asked_by h r reply e is =
    subst (DoesAsked (caller_in h r) r.ask) (carried_out h r r.ask reply e refl is).done (done_asked h (user_showing h (digest_of r.token)) r.ask)

-- what has an event doesn't only read
pub changing : (caller : List ℕ) (a : Ask) (e : Event) → IsAsked caller a (Some e) → only_reads a ≡ false
changing caller (ask.Enrol user team roles digest) e is = refl
changing caller (ask.Submit p document) e is = refl
changing caller (ask.Vote p n digest approve) e is = refl
changing caller (ask.ActOnRevision act p n) e is = refl
changing caller (ask.ActOnProfile act p) e is = refl
changing caller (ask.SeeRevision view p n) e is = absurd cc
changing caller (ask.List team) e is = absurd cc
changing caller (ask.SeeProfile view p) e is = absurd cc
changing caller ask.Me e is = absurd cc
changing caller (ask.Revisions p before) e is = absurd cc

-- what is answered of a revision that is there
told_of : (h : History) (p : ProfileName) (n : ℕ) (tell : RevisionRow → Reply) (told : Reply) (e : Option Event)
    → of_revision (revision_of h p n) (λ r. accepted (tell r) None) ≡ accepted told e → OfRevision h p n (λ row. told ≡ tell row)
told_of h p n tell told e is = by_row (revision_of h p n) refl is
  where
    by_row : (r : Option RevisionRow) → revision_of h p n ≡ r → of_revision r (λ r. accepted (tell r) None) ≡ accepted told e → OfRevision h p n (λ row. told ≡ tell row)
    by_row None found done = absurd (cc)
    by_row (Some row) found done = (row, found, cc)

done_seen : (h : History) (caller : Option UserRow) (a : Ask) (told : Reply) (e : Option Event) → done_of h caller a ≡ accepted told e → IsSeen h a told
done_seen h caller (ask.Enrol user team roles digest) told e done = tt
done_seen h caller (ask.Submit p document) told e done = tt
done_seen h caller (ask.Vote p n digest approve) told e done = tt
done_seen h caller (ask.ActOnRevision act p n) told e done = tt
done_seen h caller (ask.SeeRevision Show p n) told e done = told_of h p n (seen_of h p Show) told e done
done_seen h caller (ask.SeeRevision Sheet p n) told e done = told_of h p n (seen_of h p Sheet) told e done
done_seen h caller (ask.List team) told e done = cc
done_seen h caller (ask.ActOnProfile act p) told e done = tt
done_seen h caller (ask.SeeProfile view p) told e done = tt
done_seen h caller ask.Me told e done = tt
done_seen h caller (ask.Revisions p before) told e done = cc

pub seen_by : (h : History) (r : Request) (told : Reply) (e : Option Event) → verdict h r ≡ accepted told e → IsSeen h r.ask told
seen_by h r told e is = done_seen h (user_showing h (digest_of r.token)) r.ask told e (carried_out h r r.ask told e refl is).done

-- who asks who that is, is told
pub caller_told : (h : History) (r : Request) (told : Reply) (e : Option Event) → r.ask ≡ ask.Me → verdict h r ≡ accepted told e → TellsCaller h r told
caller_told h r told e asks is = by_user (user_showing h (digest_of r.token)) refl (carried_out h r ask.Me told e asks is).done
  where
    by_user : (u : Option UserRow) → user_showing h (digest_of r.token) ≡ u → of_user u (λ u. accepted (reply.Me u.name u.team u.roles) None) ≡ accepted told e → TellsCaller h r told
    by_user None shown done = absurd (cc)
    by_user (Some u) shown done = record {
      user = u;
      enrolled = (showing_is h (digest_of r.token) u shown).0;
      shows = (showing_is h (digest_of r.token) u shown).1;
      is_told = cc;
    }
