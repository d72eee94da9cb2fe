-- What a profile permits, and when a new profile permits no more than its baseline.
use Rattle.std.specs.Prelude.{ℕ, ◌<◌, ◌≤◌, ◌^◌, List, Option, Some, None, All}
use Rattle.cap_sets.specs.Capability.{IsWithin}
use Rattle.cap_sets.specs.declared.state.CapState.{CapState}
use Rattle.seccomp_doc.specs.declared.action.Action.{Action}
use Rattle.seccomp_doc.specs.declared.action.Action.TheVariants.{Allow}
use Rattle.seccomp_doc.specs.Action.{rank_of}
use Rattle.seccomp_doc.specs.Filter.{FilterValue}
use Rattle.seccomp_doc.specs.Meaning.{meaning}
use Rattle.profile_text.specs.declared.profile.Profile.{Profile}

-- what becomes of a call with these argument words: without a filter every call is allowed
abbrev pub action_under : Option FilterValue → List ℕ → List ℕ → Action
action_under None name words = Allow
action_under (Some f) name words = meaning f name words

-- each of the new sets is within the baseline's
pub record HoldsNoMore (base new : CapState) : Type 0 where
  pub effective : IsWithin new.effective base.effective
  pub permitted : IsWithin new.permitted base.permitted
  pub inheritable : IsWithin new.inheritable base.inheritable
  pub bounding : IsWithin new.bounding base.bounding
  pub ambient : IsWithin new.ambient base.ambient

-- for every call name and all words, six of them or any number, the new action is no more
-- permissive than the baseline's
abbrev pub AllowsNoMore : Option FilterValue → Option FilterValue → Type 0
AllowsNoMore base new =
    (name words : List ℕ) → All (λ word. word < 2 ^ 64) words →
    rank_of (action_under new name words) ≤ rank_of (action_under base name words)

-- neither a capability nor a call is permitted more
pub record IsNoWider (base new : Profile) : Type 0 where
  pub caps : HoldsNoMore base.caps new.caps
  pub calls : AllowsNoMore base.filter new.filter
