use Rattle.std.proofs.Common.{◌≡◌, ◌∙◌, ℕ, List, [], ◌∷◌, Option, Some, None, refl, sym, ap, subst, arith}
use Rattle.cap_sets.proofs.Bits.{none_in_zero}
use Rattle.cap_sets.specs.Capability.{Has}
use Rattle.profile_text.specs.Profile.{closed_profile}
use Rattle.profile_text.specs.Reads.{state_set}
use Rattle.profile_text.specs.declared.profile.Profile.{Profile}
use Rattle.profile_text.specs.declared.sets.CapSet.{CapSet}
use Rattle.profile_text.specs.declared.sets.CapSet.TheVariants.{Ambient, Bounding, Effective, Inheritable, Permitted}
use Rattle.widening.specs.Permits.{IsNoWider}
use Rattle.office_policy.specs.Documents.{document_of}
use Rattle.office_policy.specs.Duty.{IsPlain}
use Rattle.office_policy.specs.Examples.{ann, listed}
use Rattle.office_policy.specs.Revisions.{Submission}
use Rattle.example_tests.proofs.Duties.{same}
use Rattle.example_tests.proofs.examples.duties.examples_of_plain_revisions.Goals as goal

in_no_set : (set : CapSet) (n : ℕ) → Has (state_set set closed_profile.caps) n → ⊥
in_no_set Ambient n has = none_in_zero n has
in_no_set Bounding n has = none_in_zero n has
in_no_set Effective n has = none_in_zero n has
in_no_set Inheritable n has = none_in_zero n has
in_no_set Permitted n has = none_in_zero n has

closed_no_wider : IsNoWider closed_profile closed_profile
closed_no_wider = record {
  caps = record { effective = λ n has. has; permitted = λ n has. has; inheritable = λ n has. has; bounding = λ n has. has; ambient = λ n has. has };
  calls = λ name words small. omega arith;
}

pub returns-clause-closed : goal.returns-clause-closed
returns-clause-closed c = λ bytes is. record {
  submission = record { author = ann; text = bytes };
  submitted = refl;
  plain = subst (IsPlain listed closed_profile) (sym is) (record { unlisted = λ set n is_listed has. in_no_set set n has; no_wider = closed_no_wider });
}

-- what is handed in has the document of its text
of_its_text : (bytes : List ℕ) (s : Submission) (document : Profile) → Some (record { author = ann; text = bytes }) ≡ Some s → document_of bytes ≡ document → document ≡ document_of s.text
of_its_text bytes s document is reads = sym reads ∙ ap (λ (s : Submission). document_of s.text) (same _ s is)

pub returns-clause-has_listed : goal.returns-clause-has_listed
returns-clause-has_listed c = λ bytes reads is.
    is.plain.unlisted Permitted 21 refl (subst (λ (p : Profile). Has (state_set Permitted p.caps) 21) (of_its_text bytes is.submission _ is.submitted reads) refl)

pub returns-clause-wider : goal.returns-clause-wider
returns-clause-wider c = λ bytes reads is.
    none_in_zero 0 (is.plain.no_wider.caps.permitted 0 (subst (λ (p : Profile). Has (state_set Permitted p.caps) 0) (of_its_text bytes is.submission _ is.submitted reads) refl))

pub returns-clause-no_revision : goal.returns-clause-no_revision
returns-clause-no_revision c = λ is. let k : ◌≡◌ {A = Option Submission} None (Some is.submission) = is.submitted in cc
