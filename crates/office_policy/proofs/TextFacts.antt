-- Each text of a lawful history reads back as the document whose canonical text it is.
use Rattle.std.proofs.Common.{◌≡◌, ◌∙◌, ◌&&◌, ◌==◌, ℕ, suc, List, [], ◌∷◌, true, false, cond, Some, Ok, sym, ap, subst}
use Rattle.serde_json.specs.Data.{Data, null, boolean, number, string, array, object}
use Rattle.profile_text.specs.declared.profile.Profile.{Profile}
use Rattle.profile_text.specs.Reading.{reading_of}
use Rattle.profile_text.specs.Reads.{StandsFor, HasKnownCaps}
use Rattle.profile_text.specs.Text.{text_of}
use Rattle.profile_text.proofs.KnownCaps.{known_by}
use Rattle.profile_text.proofs.ReadsFacts.{reads_from, stored_from}
use Rattle.office_words.specs.Tables.{is_profile}
use Rattle.office_policy.specs.History.{Event, founded, submitted, History}
use Rattle.office_policy.specs.Revisions.{Submission, submission_of, revision_count}
use Rattle.office_policy.specs.Documents.{document_of, read_or_closed}
use Rattle.office_policy.specs.Lawful.{IsLawfulHistory}
use Rattle.office_policy.specs.Duty.{ReadsBack}
use Rattle.office_policy.proofs.LawFacts.{Follows, allowed_follows}

-- a text that is the canonical one of what it reads as
read_back : (text : List ℕ) (profile : Profile) → reading_of text ≡ Ok profile → text ≡ text_of profile → (reading_of text ≡ Ok (document_of text)) × (text_of (document_of text) ≡ text)
read_back text profile reads canonical =
    let same : document_of text ≡ profile = ap read_or_closed (stored_from text profile reads).0 in
    (reads ∙ ap Ok (sym same), ap text_of same ∙ sym canonical)

back_more : (h : History) (e : Event) → Follows h e → ReadsBack h → ReadsBack (e ∷ h)
back_more h (founded x t d l) is before p n s at = absurd is
back_more h (submitted c q t) is before p n s at =
    elim (is_profile p q && (n == suc (revision_count h p))) as (λ b. cond b (Some (record { author = c; text = t })) (submission_of h p n) ≡ Some s
    → (reading_of s.text ≡ Ok (document_of s.text)) × (text_of (document_of s.text) ≡ s.text)) [
      | true ↦ λ at.
          let row : ◌≡◌ {A = Submission} (record { author = c; text = t }) s = cc in
          subst (λ (x : Submission). (reading_of x.text ≡ Ok (document_of x.text)) × (text_of (document_of x.text) ≡ x.text)) row (read_back t is.profile is.reads is.canonical)
      | false ↦ λ at. before p n s at
    ] at
back_more h _ is before p n s at = before p n s at

pub reads_back : (h : History) → IsLawfulHistory h → ReadsBack h
reads_back [] lawful p n s at = absurd lawful
reads_back (founded x t d l ∷ []) lawful p n s at = absurd (cc)
reads_back (_ ∷ []) lawful p n s at = absurd lawful
reads_back (e ∷ f ∷ h) lawful p n s at = back_more (f ∷ h) e (allowed_follows (f ∷ h) e lawful.0) (reads_back (f ∷ h) lawful.1) p n s at

known_of : (d : Data) (p : Profile) → StandsFor d p → HasKnownCaps p.caps
known_of (object ms) p h = known_by h.caps.0 p.caps h.caps.2
known_of null p h = absurd h
known_of (boolean b) p h = absurd h
known_of (number n) p h = absurd h
known_of (string s) p h = absurd h
known_of (array ds) p h = absurd h

-- what was read has capabilities 0 to 40 alone
pub known_caps : (bytes : List ℕ) (p : Profile) → reading_of bytes ≡ Ok p → HasKnownCaps p.caps
known_caps bytes p e = let h = reads_from bytes p e in known_of h.stands.0 p h.stands.2
