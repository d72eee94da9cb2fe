-- Held profiles.
use Rattle.std.specs.Prelude.{[], ◌∷◌, Bool, false, if◌then◌else◌}
use Rattle.review_policy.specs.declared.act.ProfileAct.{ProfileAct}
use Rattle.office_words.specs.declared.name.ProfileName.{ProfileName}
use Rattle.review_policy.specs.Acts.{holds}
use Rattle.office_words.specs.Tables.{Tables, is_profile}
use Rattle.office_policy.specs.History.{on_profile, History}

-- a profile is held where the last act that names it holds it
abbrev pub is_held : History → ProfileName → Bool
is_held [] p = false
is_held (on_profile c act q ∷ before) p =
    if is_profile p q then holds act else is_held before p
is_held (_ ∷ before) p = is_held before p

-- the tables after an act on a profile: it is held then, or held no longer
abbrev pub with_act : ProfileAct → ProfileName → Tables → Tables
with_act act p t = record t { holds = λ q. if is_profile q p then holds act else t.holds q }
