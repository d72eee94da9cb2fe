-- A document that is submitted in examples, by what it reads as.
use Rattle.std.specs.Prelude.{◌≡◌, ℕ, List, ◌++◌, Some, Ok, Err, Vec, replicate}
use Rattle.std.specs.declared.alloc.Global.{Global}
use Rattle.profile_text.specs.Digest.{digest_of}
use Rattle.profile_text.specs.Reading.{reading_of}
use Rattle.profile_text.specs.Text.{text_of}
use Rattle.profile_text.specs.declared.fault.DocFault.{DocFault}
use Rattle.profile_text.specs.declared.profile.Profile.{Profile}
use Rattle.review_policy.specs.declared.answer.Reply.TheVariants as reply
use Rattle.office_policy.specs.History.{Event, submitted, History}
use Rattle.office_policy.specs.Verdict.{Verdict, accepted}
use Rattle.office_policy.specs.Examples.{ann, web, office}

-- the document reads as this profile
abbrev pub ReadsAs : Vec ℕ Global → Profile → Type 0
ReadsAs document profile = reading_of document.items ≡ Ok profile

-- the document doesn't read, for this fault
abbrev pub FailsToRead : Vec ℕ Global → DocFault → Type 0
FailsToRead document fault = reading_of document.items ≡ Err fault

-- ann submits its canonical text
abbrev pub submits_text : Profile → Event
submits_text profile = submitted ann web (text_of profile)

-- the verdict on a document that becomes a revision of web
abbrev pub submitted_as : (number : ℕ) → (who : List ℕ) → Profile → Verdict
submitted_as number who profile =
    accepted (reply.Submitted (digest_of text) number) (Some (submitted who web text))
  where
    text : List ℕ
    text = text_of profile

-- the profile has this many revisions with one text
abbrev pub with_revisions : ℕ → (text : List ℕ) → History
with_revisions count text = replicate count (submitted ann web text) ++ office
