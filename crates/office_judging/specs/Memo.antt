-- What has been looked up for the rules of a request, and what looking back gives for them.
use Rattle.std.specs.Prelude.{◌≡◌, ◌==◌, Bool, true, false, ◌||◌, Some, IfSome}
use Rattle.std.specs.Prelude.{is_some, option_map}
use Rattle.review_policy.specs.declared.act.ProfileView.TheVariants.{Fetch}
use Rattle.review_policy.specs.declared.ask.Ask.{Ask}
use Rattle.review_policy.specs.declared.ask.Ask.TheVariants as ask
use Rattle.review_policy.specs.declared.denial.Rule.{Rule}
use Rattle.review_policy.specs.declared.denial.Rule.TheVariants.{NoRevision, NotOpen, NotStanding}
use Rattle.review_policy.specs.declared.denial.Rule.TheVariants.{NotIssued, OtherBytes}
use Rattle.review_policy.specs.declared.denial.Rule.TheVariants.{AuthorVotes, AuthorAdopts}
use Rattle.review_policy.specs.declared.denial.Rule.TheVariants.{NothingIssued, NoProfile}
use Rattle.review_policy.specs.declared.denial.Rule.TheVariants.{AlreadyHeld, NotHeld, Held}
use Rattle.office_store.specs.Briefs.{brief_of}
use Rattle.office_store.specs.Summaries.{summary_of}
use Rattle.office_words.specs.declared.row.UserRow.{UserRow}
use Rattle.office_words.specs.Tables.{Tables}
use Rattle.office_policy.specs.History.{History}
use Rattle.office_policy.specs.Holds.{is_held}
use Rattle.office_policy.specs.Lawful.{IsLawfulHistory}
use Rattle.office_policy.specs.Revisions.{issued_revision, is_author, revision_count, revision_of}
use Rattle.office_policy.specs.TablesOf.{tables_of}
use Rattle.office_judging.specs.declared.looked.Looked.{Looked}
use Rattle.office_judging.specs.declared.looked.Part.{Part}
use Rattle.office_judging.specs.declared.looked.Part.TheVariants as part
use Rattle.office_judging.specs.Asking.{names_profile, profile_in, number_in}

-- a revision is seen with its text
abbrev pub revision_part : Ask → Part
revision_part (ask.SeeRevision view p n) = part.Revision
revision_part _ = part.Summary

-- the issued one is fetched with its text
abbrev pub issued_part : Ask → Part
issued_part (ask.SeeProfile Fetch p) = part.Issued
issued_part _ = part.Brief

-- the part that a rule asks
abbrev pub asks : Ask → Rule → Part
asks a NoRevision = revision_part a
asks a NotOpen = revision_part a
asks a NotStanding = revision_part a
asks a NotIssued = revision_part a
asks a OtherBytes = part.Summary
asks a AuthorVotes = part.Authorship
asks a AuthorAdopts = part.Authorship
asks a NothingIssued = issued_part a
asks a NoProfile = part.Profile
asks a AlreadyHeld = part.Hold
asks a NotHeld = part.Hold
asks a Held = part.Hold
asks a _ = part.Nothing

-- whether a part has been looked up
abbrev pub is_there : Looked → Part → Bool
is_there l part.Nothing = true
is_there l part.Summary = is_some l.summary
is_there l part.Revision = is_some l.revision
is_there l part.Authorship = is_some l.is_author
is_there l part.Issued = is_some l.issued
is_there l part.Brief = is_some l.brief
is_there l part.Profile = is_some l.no_profile
is_there l part.Hold = is_some l.held

-- whether nothing has to be looked up for a part
abbrev pub is_known : Part → Bool
is_known part.Nothing = true
is_known _ = false

-- what a rule asks is known, or of a profile that is asked about
abbrev pub is_askable : Ask → Rule → Bool
is_askable a rule = is_known (asks a rule) || names_profile a

module _ (h : History) (c : UserRow) (a : Ask) where
  -- all parts, by looking back
  abbrev pub looked_at : Looked
  looked_at = record {
    summary = Some (option_map summary_of (revision_of h (profile_in a) (number_in a)));
    revision = Some (revision_of h (profile_in a) (number_in a));
    is_author = Some (is_author h (profile_in a) c.name);
    issued = Some (issued_revision h (profile_in a));
    brief = Some (option_map brief_of (issued_revision h (profile_in a)));
    no_profile = Some (revision_count h (profile_in a) == 0);
    held = Some (is_held h (profile_in a));
  }

-- what has been looked up of one stands so in the other
pub record IsPartOf (l m : Looked) : Type 0 where
  pub summary : IfSome l.summary (λ x. m.summary ≡ Some x)
  pub revision : IfSome l.revision (λ x. m.revision ≡ Some x)
  pub is_author : IfSome l.is_author (λ x. m.is_author ≡ Some x)
  pub issued : IfSome l.issued (λ x. m.issued ≡ Some x)
  pub brief : IfSome l.brief (λ x. m.brief ≡ Some x)
  pub no_profile : IfSome l.no_profile (λ x. m.no_profile ≡ Some x)
  pub held : IfSome l.held (λ x. m.held ≡ Some x)

-- what looking back gives was looked up, if it was so before
abbrev pub Learns : UserRow → Ask → Tables → (before after : Looked) → Type 0
Learns c a t before after =
    (h : History) → IsLawfulHistory h → t ≡ tables_of h
    → IsPartOf before (looked_at h c a) → IsPartOf after (looked_at h c a)
