-- What is decided of a submission, by what its document reads as.
use Rattle.std.proofs.Common.{◌≡◌, ◌≢◌, ◌∙◌, ℕ, List, true, false, Some, Ok, Err, refl, ap, Vec, Global}
use Rattle.std.specs.Prelude.{Result, ⊤, bytes_eq, is_none}
use Rattle.profile_text.specs.Reading.{reading_of}
use Rattle.profile_text.specs.FaultText.{fault_text_of}
use Rattle.profile_text.specs.declared.profile.Profile.{Profile}
use Rattle.profile_text.specs.declared.fault.DocFault.{DocFault}
use Rattle.office_words.specs.declared.name.ProfileName.{ProfileName}
use Rattle.review_policy.specs.declared.ask.Ask.TheVariants as ask
use Rattle.review_policy.specs.declared.denial.Denial.{Denial}
use Rattle.review_policy.specs.declared.denial.Rule.TheVariants.{Document}
use Rattle.review_policy.specs.Rules.{first_denial, submit_rules, behind_caller}
use Rattle.office_policy.specs.History.{History}
use Rattle.office_policy.specs.Users.{user_of}
use Rattle.office_policy.specs.Revisions.{last_revision, revision_count}
use Rattle.office_policy.specs.Facts.{submit_facts}
use Rattle.office_policy.specs.Verdict.{denied, new_revision, judged, fault_told}
use Rattle.office_policy.specs.Examples.{decision, told}
use Rattle.office_policy.proofs.UserFacts.{same_bytes, bytes_same}

-- the first rule that refuses a submission of what was read
abbrev pub decided_on : History → List ℕ → ProfileName → Result Profile DocFault → Result ⊤ Denial
decided_on h who p reading = first_denial (behind_caller (is_none (user_of h who)) (submit_rules (submit_facts (user_of h who) p.team reading (last_revision h p) (revision_count h p))))

-- a text is its own, and no other
pub same_text : (text : List ℕ) → bytes_eq text text ≡ true
same_text text = bytes_same text text refl

pub other_text : (text old : List ℕ) → text ≢ old → bytes_eq text old ≡ false
other_text text old other = elim (bytes_eq text old) as (λ b. bytes_eq text old ≡ b → b ≡ false) [
  | true ↦ λ same. absurd (other (same_bytes text old same))
  | false ↦ λ same. refl
] refl

module _ (h : History) (who : List ℕ) (p : ProfileName) (d : Vec ℕ Global) where
  pub decided : (reading : Result Profile DocFault) → reading_of d.items ≡ reading → decision h who (ask.Submit p d) ≡ decided_on h who p reading
  decided reading reads = ap (decided_on h who p) reads

  pub told_new : (profile : Profile) → reading_of d.items ≡ Ok profile → decided_on h who p (Ok profile) ≡ Ok tt
      → told h who (ask.Submit p d) ≡ new_revision h (user_of h who) p (Ok profile)
  told_new profile reads free =
      ap (judged h (user_of h who) (ask.Submit p d)) (decided (Ok profile) reads ∙ free) ∙ ap (new_revision h (user_of h who) p) reads

  pub told_fault : (fault : DocFault) → reading_of d.items ≡ Err fault → decided_on h who p (Err fault) ≡ Err (record { number = 4; rule = Document })
      → told h who (ask.Submit p d) ≡ denied (record { number = 4; rule = Document }) (Some (fault_text_of fault))
  told_fault fault reads refused =
      ap (judged h (user_of h who) (ask.Submit p d)) (decided (Err fault) reads ∙ refused) ∙ ap (λ r. denied (record { number = 4; rule = Document }) (fault_told Document r)) reads
