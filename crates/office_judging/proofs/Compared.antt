-- What is read of a team's baseline is what looking back gives.
use Rattle.std.proofs.Common.{◌≡◌, ◌∙◌, ℕ, List, Option, Some, Ok, sym, ap}
use Rattle.std.specs.Prelude.{option_map}
use Rattle.sqlite.specs.State.{State}
use Rattle.office_words.specs.declared.row.RevisionRow.{RevisionRow}
use Rattle.office_words.specs.Tables.{Tables}
use Rattle.office_store.specs.declared.baselines.Adopted.{Adopted}
use Rattle.office_store.specs.Adopted.{baseline_of}
use Rattle.office_store.specs.Calls.{IsRead}
use Rattle.office_policy.specs.Revisions.{revision_of}
use Rattle.office_policy.specs.Baseline.{adoption_of, adopted_revision, listed_of, standing_adoption, unless_withdrawn}
use Rattle.office_policy.specs.LooksBack.{LooksBack}
use Rattle.office_judging.specs.Compared.{compared_at}
use Rattle.office_judging.proofs.Judging.{read_both}

-- what two reads found, one after the other
pub read_pair : {A B : Type 0} (old mid new : State) (F : Tables → A → Type 0) (G : Tables → B → Type 0) (a : A) (b : B)
    → IsRead old mid (Ok a) F → IsRead mid new (Ok b) G → IsRead {A = A × B} old new (Ok (a, b)) (λ t x. F t x.0 × G t x.1)
read_pair old mid new F G a b first second = read_both old mid new F G a first (λ t x. F t x.0 × G t x.1) b (a, b) (λ t f g. (f, g)) second

-- the row of a team's adoption
pub adopted_found : (team : List ℕ) (found : Option Adopted) (adopted : Adopted) (copy : List ℕ) (row : Option RevisionRow)
    (result : Option (List ℕ × RevisionRow)) → found ≡ Some adopted → copy ≡ team → result ≡ option_map (λ r. (adopted.profile, r)) (unless_withdrawn row)
    → (t : Tables) → option_map baseline_of found ≡ t.baselines team → row ≡ t.revisions (record { team = copy; profile = adopted.profile }) adopted.number
    → LooksBack (λ h. adopted_revision h team) t result
adopted_found team found adopted copy row result is_found is_copy is_result t is_baseline is_row h lawful is =
    let adoption : adoption_of h team ≡ Some (baseline_of adopted) =
    sym (ap (λ u. u.baselines team) is) ∙ sym is_baseline ∙ ap (option_map baseline_of) is_found in
    let revision : row ≡ revision_of h (record { team = team; profile = adopted.profile }) adopted.number =
    is_row ∙ ap (λ u. u.revisions (record { team = copy; profile = adopted.profile }) adopted.number) is
    ∙ ap (λ x. revision_of h (record { team = x; profile = adopted.profile }) adopted.number) is_copy in
    is_result ∙ ap (λ r. option_map (λ r. (adopted.profile, r)) (unless_withdrawn r)) revision ∙ ap (standing_adoption h team) (sym adoption)

-- with the listed capabilities
pub compared_found : (team : List ℕ) (listed : ℕ) (adopted : Option (List ℕ × RevisionRow)) (t : Tables)
    → listed ≡ t.listed → LooksBack (λ h. adopted_revision h team) t adopted
    → LooksBack (λ h. compared_at h team) t (record { listed = listed; adopted = adopted })
compared_found team listed adopted t is_listed looks h lawful is =
    let same : listed ≡ listed_of h = is_listed ∙ ap (λ u. u.listed) is in
    λ i. record { listed = same i; adopted = looks h lawful is i }
