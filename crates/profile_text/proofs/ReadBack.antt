-- A canonical text reads as its profile.
use Rattle.std.proofs.Common.{◌≡◌, ℕ, ◌≤◌, inl, inr, List, [], ◌∷◌, length, Option, Some, None, Ok, refl, sym, ap, subst}
use Rattle.std.specs.Prelude.{IfSome, codes}
use Rattle.serde_json.specs.Data.{Data, null, boolean, number, string, array, object}
use Rattle.cap_sets.specs.declared.state.CapState.{CapState}
use Rattle.seccomp_doc.specs.Filter.{FilterValue}
use Rattle.profile_text.specs.declared.profile.Profile.{Profile}
use Rattle.profile_text.specs.declared.sets.CapSet.TheVariants.{Ambient, Bounding, Effective, Inheritable, Permitted}
use Rattle.profile_text.specs.FilterReads.{StandsForFilter}
use Rattle.profile_text.specs.Reading.{reading_of, most_bytes}
use Rattle.profile_text.specs.Reads.{IsCapsValue, StandsForCaps, StandsFor, IsDocumentMember, IsWhole, HasKnownCaps, HasWholeFilter}
use Rattle.profile_text.specs.Shape.{member_of}
use Rattle.profile_text.specs.Text.{caps_data, profile_data, seccomp_data, text_of}
use Rattle.profile_text.proofs.KnownCaps.{known_by}
use Rattle.profile_text.proofs.ListedNames.{names_listed}
use Rattle.profile_text.proofs.Listed.{Rows, HoldsIf, found_at, all_listed}
use Rattle.profile_text.proofs.LawfulRead.{stands_for_whole}
use Rattle.profile_text.proofs.OwnParts.{own_parts, own_make, own_faultless}
use Rattle.profile_text.proofs.OwnStands.{own_parts_are}
use Rattle.profile_text.proofs.PrintedBack.{text_json}
use Rattle.profile_text.proofs.ReadsFacts.{reads_from, reading_from}

written_caps : (s : CapState) → HasKnownCaps s → IsCapsValue (caps_data s)
written_caps s h = (
  ((Ambient, refl), (names_listed s.ambient h.ambient).0),
  (
    ((Bounding, refl), (names_listed s.bounding h.bounding).0),
    (
      ((Effective, refl), (names_listed s.effective h.effective).0),
      (
        ((Inheritable, refl), (names_listed s.inheritable h.inheritable).0),
        (((Permitted, refl), (names_listed s.permitted h.permitted).0), tt),
      ),
    ),
  ),
)

stands_for_own_caps : (s : CapState) → HasKnownCaps s → StandsForCaps (caps_data s) s
stands_for_own_caps s h Ambient = names_listed s.ambient h.ambient
stands_for_own_caps s h Bounding = names_listed s.bounding h.bounding
stands_for_own_caps s h Effective = names_listed s.effective h.effective
stands_for_own_caps s h Inheritable = names_listed s.inheritable h.inheritable
stands_for_own_caps s h Permitted = names_listed s.permitted h.permitted

own_filter : (filter : Option FilterValue) → IfSome filter IsWhole → StandsForFilter (seccomp_data filter) filter
own_filter None h = (None, refl, refl)
own_filter (Some f) h = (Some (own_parts f), own_parts_are f h, (own_faultless f h.lawful, ap Some (sym (own_make f h.lawful))))

seccomp_member : (filter : Option FilterValue) → IfSome filter IsWhole → HoldsIf IsDocumentMember (codes "seccomp") (seccomp_data filter)
seccomp_member None h = tt
seccomp_member (Some f) h = inr (refl, (Some (own_parts f), own_parts_are f h))

stands_for_own : (p : Profile) → HasKnownCaps p.caps → HasWholeFilter p → StandsFor (profile_data p) p
stands_for_own p known whole =
    let rows : Rows = (codes "capabilities", Some (caps_data p.caps)) ∷ (codes "seccomp", seccomp_data p.filter) ∷ [] in
    record {
      members = all_listed IsDocumentMember rows (inl (refl, written_caps p.caps known), (seccomp_member p.filter whole, tt));
      caps = (caps_data p.caps, found_at (codes "capabilities") rows (Some (caps_data p.caps)) refl, stands_for_own_caps p.caps known);
      filter = subst (λ o. StandsForFilter o p.filter) (sym (found_at (codes "seccomp") rows (seccomp_data p.filter) refl)) (own_filter p.filter whole);
    }

pub text_back : (p : Profile) → HasKnownCaps p.caps → HasWholeFilter p → length (text_of p) ≤ most_bytes → reading_of (text_of p) ≡ Ok p
text_back p known whole short =
    reading_from (text_of p) p (record { short = short; stands = (profile_data p, text_json p whole, stands_for_own p known whole); text = short })

again_by : (d : Data) (p : Profile) → StandsFor d p → length (text_of p) ≤ most_bytes → reading_of (text_of p) ≡ Ok p
again_by (object ms) p h short = text_back p (known_by h.caps.0 p.caps h.caps.2) (stands_for_whole (member_of (codes "seccomp") ms) p.filter h.filter) short
again_by null p h short = absurd h
again_by (boolean b) p h short = absurd h
again_by (number n) p h short = absurd h
again_by (string s) p h short = absurd h
again_by (array ds) p h short = absurd h

-- what was read is read again from its canonical text
pub read_again : (bytes : List ℕ) (p : Profile) → reading_of bytes ≡ Ok p → reading_of (text_of p) ≡ Ok p
read_again bytes p e = let h = reads_from bytes p e in again_by h.stands.0 p h.stands.2 h.text
