-- What a request that is carried out comes to: what happens is just what was asked, and what is
-- shown is of just that.
use Rattle.std.specs.Prelude.{◌≡◌, ℕ, List, Option, Some, None, Ok}
use Rattle.profile_text.specs.Digest.{digest_of}
use Rattle.profile_text.specs.declared.profile.Profile.{Profile}
use Rattle.profile_text.specs.Reading.{reading_of}
use Rattle.profile_text.specs.Text.{text_of}
use Rattle.review_policy.specs.declared.act.RevisionView.TheVariants.{Show, Sheet}
use Rattle.office_words.specs.declared.name.ProfileName.{ProfileName}
use Rattle.review_policy.specs.declared.ask.Ask.{Ask}
use Rattle.review_policy.specs.declared.ask.Ask.TheVariants as ask
use Rattle.review_policy.specs.declared.ask.Request.{Request}
use Rattle.review_policy.specs.declared.answer.Reply.{Reply}
use Rattle.review_policy.specs.declared.answer.Reply.TheVariants as reply
use Rattle.review_sheet.specs.Sheet.{sheet_text}
use Rattle.office_words.specs.declared.row.RevisionRow.{RevisionRow}
use Rattle.office_words.specs.declared.row.UserRow.{UserRow}
use Rattle.office_policy.specs.History.{Event, enrolled, submitted, voted, on_revision}
use Rattle.office_policy.specs.History.{on_profile, History}
use Rattle.office_policy.specs.Revisions.{revision_of}
use Rattle.office_policy.specs.Users.{user_of}
use Rattle.office_policy.specs.Listing.{listing_of}
use Rattle.office_policy.specs.Newest.{revisions_before, newest_told}
use Rattle.office_policy.specs.Sheets.{sheet_of}

-- the document reads, and its canonical text is submitted
pub record IsHandedIn
    (caller : List ℕ) (p : ProfileName) (document : List ℕ) (e : Option Event) : Type 0 where
  pub read : Profile
  pub reads : reading_of document ≡ Ok read
  pub happened : e ≡ Some (submitted caller p (text_of read))

-- what happens is what the user of this name asks; of what only reads, nothing
abbrev pub IsAsked : (caller : List ℕ) → Ask → Option Event → Type 0
IsAsked caller (ask.Enrol user team roles digest) e =
    e ≡ Some (enrolled caller user team roles digest)
IsAsked caller (ask.Submit p document) e = IsHandedIn caller p document.items e
IsAsked caller (ask.Vote p n digest approves) e = e ≡ Some (voted caller p n digest approves)
IsAsked caller (ask.ActOnRevision act p n) e = e ≡ Some (on_revision caller act p n)
IsAsked caller (ask.SeeRevision view p n) e = e ≡ None
IsAsked caller (ask.List team) e = e ≡ None
IsAsked caller (ask.ActOnProfile act p) e = e ≡ Some (on_profile caller act p)
IsAsked caller (ask.SeeProfile view p) e = e ≡ None
IsAsked caller ask.Me e = e ≡ None
IsAsked caller (ask.Revisions p before) e = e ≡ None

-- the revision of that number is there, and this holds of it
abbrev pub OfRevision : History → ProfileName → ℕ → (RevisionRow → Type 0) → Type 0
OfRevision h p n Holds = (row : RevisionRow) × (revision_of h p n ≡ Some row) × Holds row

-- what is answered is what the caller looks at: a revision, its sheet, the profiles of a team, or
-- the newest revisions of a profile
abbrev pub IsSeen : History → Ask → Reply → Type 0
IsSeen h (ask.SeeRevision Show p n) told =
    OfRevision h p n (λ row. told ≡ reply.Shown row.digest row.body row.state)
IsSeen h (ask.SeeRevision Sheet p n) told =
    OfRevision h p n (λ row. told ≡ reply.Sheet (sheet_text (sheet_of h p row)))
IsSeen h (ask.List team) told = told ≡ reply.Listed (listing_of h team)
IsSeen h (ask.Revisions p before) told = told ≡ newest_told (revisions_before h p before)
IsSeen h _ told = Unit {0}

-- what is told is the present row of the user whose digest is that of the token that is shown
pub record TellsCaller (h : History) (r : Request) (told : Reply) : Type 0 where
  pub user : UserRow
  pub enrolled : user_of h user.name ≡ Some user
  pub shows : user.digest ≡ digest_of r.token
  pub is_told : told ≡ reply.Me user.name user.team user.roles
