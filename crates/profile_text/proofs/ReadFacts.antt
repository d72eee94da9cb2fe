-- Steps of the reader of documents.
use Rattle.std.proofs.Common.{◌≡◌, ◌∙◌, ℕ, ◌<◌, ◌≤◌, List, [], length, cond, Option, Some, None, Ok, Err, inl, inr, refl, ap, subst, le-ltb, lt-ltb}
use Rattle.std.specs.Prelude.{IsUtf8, codes}
use Rattle.std.specs.Str.{is_utf8}
use Rattle.std.proofs.lemmas.Str.{IsUtf8-from_is_utf8, is_utf8-from_IsUtf8}
use Rattle.std.proofs.lemmas.Bool.{cases_Bool}
use Rattle.serde_json.specs.Data.{Data, Members}
use Rattle.serde_json.specs.Read.{read}
use Rattle.profile_text.specs.declared.fault.DocFault.{DocFault}
use Rattle.profile_text.specs.declared.fault.DocFault.TheVariants.{WrongShape, NotJson, TooLong}
use Rattle.profile_text.specs.declared.document.Found.{Found}
use Rattle.profile_text.specs.declared.document.Parts.{Parts}
use Rattle.profile_text.specs.declared.sets.Sets.{Sets}
use Rattle.profile_text.specs.Document.{document_rows}
use Rattle.profile_text.specs.Parts.{found_in, found_with, parts_of}
use Rattle.profile_text.specs.Reading.{Gives, unless_faulty, profile_of, profile_of_json, stored_reading_of, most_bytes}
use Rattle.profile_text.specs.Sets.{sets_of}
use Rattle.profile_text.specs.Shape.{member_of, members_faults, members_over, missing_faults, object_faults}
use Rattle.profile_text.proofs.GivesFacts.{gives_first, ok_parts}
use Rattle.profile_text.proofs.ObjectFacts.{is_there, is_absent}
use Rattle.profile_text.proofs.Picks.{found_by_members, nothing_found}

-- the fault of a member is the fault of the document
pub document_err : (ms : Members) (fault : DocFault) → Gives {X = Found} (Err fault) (unless_faulty (members_faults document_rows [] ms) (found_in ms))
    → Gives {X = Parts} (Err fault) (unless_faulty (object_faults document_rows [] ms) (parts_of (found_in ms)))
unfolding object_faults
document_err ms fault told = gives_first fault (members_faults document_rows [] ms) (missing_faults document_rows [] ms) (found_in ms) (parts_of (found_in ms)) told

-- what a walk over the members of a document gives
pub document_walked : (ms : Members) (found : Found) → unless_faulty (members_faults document_rows [] ms) (members_over found_with nothing_found ms) ≡ Ok found
    → unless_faulty (members_faults document_rows [] ms) (found_in ms) ≡ Ok found
document_walked ms found told = subst (λ x. unless_faulty (members_faults document_rows [] ms) x ≡ Ok found) (found_by_members ms) told

pub document_found : (ms : Members) (found : Found) (sets : Sets) → unless_faulty (members_faults document_rows [] ms) (found_in ms) ≡ Ok found → found.sets ≡ Some sets
    → unless_faulty (object_faults document_rows [] ms) (parts_of (found_in ms)) ≡ Ok (record { sets = sets; filter = found.filter })
unfolding object_faults
document_found ms found sets told some =
    let parts = ok_parts (members_faults document_rows [] ms) (found_in ms) found told in
    let there = is_there sets_of (member_of (codes "capabilities") ms) sets (ap (λ (f : Found). f.sets) parts.1 ∙ some) in
    rw (parts.0, there) (ap (λ (p : Parts). Ok p) (ap parts_of parts.1 ∙ ap (λ (o : Option Sets). parts_of (record { sets = o; filter = found.filter })) some))

pub document_missing : (ms : Members) (found : Found) → unless_faulty (members_faults document_rows [] ms) (found_in ms) ≡ Ok found → found.sets ≡ None
    → unless_faulty (object_faults document_rows [] ms) (parts_of (found_in ms)) ≡ Err (WrongShape (codes "/capabilities"))
unfolding object_faults
document_missing ms found told none =
    let parts = ok_parts (members_faults document_rows [] ms) (found_in ms) found told in
    let absent = is_absent sets_of (member_of (codes "capabilities") ms) (ap (λ (f : Found). f.sets) parts.1 ∙ none) in
    rw (parts.0, absent) refl

-- more bytes than a document may have
pub too_long : (bytes : List ℕ) → most_bytes < length bytes → stored_reading_of bytes ≡ Err TooLong
unfolding stored_reading_of
too_long bytes more = rw (lt-ltb most_bytes (length bytes) more) refl

-- the value of bytes that are text
pub value_is : (bytes : List ℕ) (d : Data) → length bytes ≤ most_bytes → IsUtf8 bytes → read bytes ≡ Some d → stored_reading_of bytes ≡ profile_of d
unfolding stored_reading_of
value_is bytes d small text e = rw (le-ltb most_bytes (length bytes) small, is_utf8-from_IsUtf8 bytes text, e) refl

-- bytes that aren't JSON
pub value_none : (bytes : List ℕ) → length bytes ≤ most_bytes → (IsUtf8 bytes → read bytes ≡ None) → stored_reading_of bytes ≡ Err NotJson
unfolding stored_reading_of
value_none bytes small h =
    rw (le-ltb most_bytes (length bytes) small) (elim (cases_Bool (is_utf8 bytes)) as (λ _. profile_of_json (cond (is_utf8 bytes) (read bytes) None) ≡ Err NotJson) [
      | inl text ↦ rw (text, h (IsUtf8-from_is_utf8 bytes text)) refl
      | inr wrong ↦ rw wrong refl
    ])
