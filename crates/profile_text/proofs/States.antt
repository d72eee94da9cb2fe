-- Two states with the same sets are one state.
use Rattle.std.proofs.Common.{◌≡◌, ◌∙◌, ℕ, Option, Some, ap, subst}
use Rattle.std.proofs.Props.{props}
use Rattle.cap_sets.specs.Lawful.{IsLawfulState}
use Rattle.cap_sets.specs.declared.state.CapState.{CapState}
use Rattle.seccomp_doc.specs.Filter.{FilterValue}
use Rattle.seccomp_doc.specs.Meaning.{only_default}
use Rattle.seccomp_doc.specs.declared.action.Action.TheVariants.{KillProcess}
use Rattle.profile_text.specs.declared.profile.Profile.{Profile}
use Rattle.profile_text.specs.Profile.{no_caps, closed_profile}

lawful_prop : (e p i a : ℕ) → IsProp (IsLawfulState e p i a)
lawful_prop e p i a = hlevel props

abbrev state : (e p i b a : ℕ) → IsLawfulState e p i a → CapState
state e p i b a lawful = record { effective = e; permitted = p; inheritable = i; bounding = b; ambient = a; lawful = lawful }

-- the sets alone tell a state from another
pub same_state : (s t : CapState) → s.effective ≡ t.effective → s.permitted ≡ t.permitted → s.inheritable ≡ t.inheritable → s.bounding ≡ t.bounding → s.ambient ≡ t.ambient → s ≡ t
same_state s t e p i b a =
    let P_e : ℕ → Type 0 = λ x. (l : IsLawfulState x t.permitted t.inheritable t.ambient) → s ≡ state x t.permitted t.inheritable t.bounding t.ambient l in
    let P_p : ℕ → Type 0 = λ x. (l : IsLawfulState s.effective x t.inheritable t.ambient) → s ≡ state s.effective x t.inheritable t.bounding t.ambient l in
    let P_i : ℕ → Type 0 = λ x. (l : IsLawfulState s.effective s.permitted x t.ambient) → s ≡ state s.effective s.permitted x t.bounding t.ambient l in
    let P_b : ℕ → Type 0 = λ x. (l : IsLawfulState s.effective s.permitted s.inheritable t.ambient) → s ≡ state s.effective s.permitted s.inheritable x t.ambient l in
    let P_a : ℕ → Type 0 = λ x. (l : IsLawfulState s.effective s.permitted s.inheritable x) → s ≡ state s.effective s.permitted s.inheritable s.bounding x l in
    let first : P_a s.ambient = λ l. ap (state s.effective s.permitted s.inheritable s.bounding s.ambient) (lawful_prop s.effective s.permitted s.inheritable s.ambient s.lawful l) in
    subst P_e e (subst P_p p (subst P_i i (subst P_b b (subst P_a a first)))) t.lawful

pub same_profile : (p q : Profile) → p.caps ≡ q.caps → p.filter ≡ q.filter → p ≡ q
same_profile p q caps filter =
    let with_caps : CapState → Profile = λ s. record { caps = s; filter = p.filter } in
    let with_filter : Option FilterValue → Profile = λ f. record { caps = q.caps; filter = f } in
    ap with_caps caps ∙ ap with_filter filter

-- five empty sets and the filter that ends the process make the closed profile
pub closed_is : (p : Profile) → p.caps.effective ≡ 0 → p.caps.permitted ≡ 0 → p.caps.inheritable ≡ 0 → p.caps.bounding ≡ 0 → p.caps.ambient ≡ 0 → p.filter ≡ Some (only_default KillProcess) → p ≡ closed_profile
closed_is p e q i b a filter = same_profile p closed_profile (same_state p.caps no_caps e q i b a) filter
