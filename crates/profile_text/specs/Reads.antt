-- What a document reads as: a relation between bytes and a profile, by the JSON value that
-- serde_json's own definition gives for the bytes. Nothing is walked here, and no fault is named.
use Rattle.std.specs.Prelude.{◌≡◌, ◌↔◌, ◌⊎◌, ◌≤◌, ◌<◌, ◌^◌, ℕ, List, length, codes, Option, Some}
use Rattle.std.specs.Prelude.{None, ⊤, true, All, IfSome}
use Rattle.serde_json.specs.Data.{Data, null, boolean, number, string, array, object, Items}
use Rattle.serde_json.specs.Data.{no_items, item, Members}
use Rattle.cap_sets.specs.Capability.{Has, number_named}
use Rattle.cap_sets.specs.declared.state.CapState.{CapState}
use Rattle.seccomp_doc.specs.Filter.{FilterValue}
use Rattle.seccomp_doc.specs.Lawful.{IsLawfulFilter}
use Rattle.seccomp_doc.specs.Word.{is_arch, is_flag}
use Rattle.profile_text.specs.declared.profile.Profile.{Profile}
use Rattle.profile_text.specs.declared.sets.CapSet.{CapSet}
use Rattle.profile_text.specs.declared.sets.CapSet.TheVariants.{Ambient, Bounding, Effective}
use Rattle.profile_text.specs.declared.sets.CapSet.TheVariants.{Inheritable, Permitted}
use Rattle.profile_text.specs.FilterReads.{AllMembers, IsA, IsSeccomp, StandsForFilter}
use Rattle.profile_text.specs.Reading.{json_of, most_bytes}
use Rattle.profile_text.specs.Sets.{set_name}
use Rattle.profile_text.specs.Shape.{member_of}
use Rattle.profile_text.specs.Text.{text_of}

-- the value is the name of capability n
abbrev pub Names : Data → ℕ → Type 0
Names (string s) n = number_named s ≡ Some n
Names null n = ⊥
Names (boolean b) n = ⊥
Names (number x) n = ⊥
Names (array ds) n = ⊥
Names (object ms) n = ⊥

-- each value is the name of a capability
abbrev pub AllName : Items → Type 0
AllName no_items = ⊤
AllName (item d ds) = ((n : ℕ) × Names d n) × AllName ds

-- one of the values is the name of capability n
abbrev pub SomeNames : Items → ℕ → Type 0
SomeNames no_items n = ⊥
SomeNames (item d ds) n = Names d n ⊎ SomeNames ds n

-- the list has names alone, and those of just the members of the set, in any order and any number
-- of times
abbrev pub ListsSet : Items → ℕ → Type 0
ListsSet ds caps = AllName ds × ((n : ℕ) → Has caps n ↔ SomeNames ds n)

-- what stands for a set: null, or a list of names
abbrev pub IsSetValue : Data → Type 0
IsSetValue null = ⊤
IsSetValue (array ds) = AllName ds
IsSetValue (boolean b) = ⊥
IsSetValue (number n) = ⊥
IsSetValue (string s) = ⊥
IsSetValue (object ms) = ⊥

-- absent and null stand for the empty set, and a list for the set that it lists
abbrev pub StandsForSet : Option Data → ℕ → Type 0
StandsForSet None caps = caps ≡ 0
StandsForSet (Some null) caps = caps ≡ 0
StandsForSet (Some (array ds)) caps = ListsSet ds caps
StandsForSet (Some (boolean b)) caps = ⊥
StandsForSet (Some (number n)) caps = ⊥
StandsForSet (Some (string s)) caps = ⊥
StandsForSet (Some (object ms)) caps = ⊥

-- one of the five sets of a state
abbrev pub state_set : CapSet → CapState → ℕ
state_set Ambient s = s.ambient
state_set Bounding s = s.bounding
state_set Effective s = s.effective
state_set Inheritable s = s.inheritable
state_set Permitted s = s.permitted

-- a member of `capabilities`: the name of one of the sets, and what stands for a set
abbrev pub IsSetMember : List ℕ → Data → Type 0
IsSetMember name d = ((set : CapSet) × (name ≡ set_name set)) × IsSetValue d

-- what stands for five sets: an object of such members
abbrev pub IsCapsValue : Data → Type 0
IsCapsValue (object ms) = AllMembers IsSetMember ms
IsCapsValue null = ⊥
IsCapsValue (boolean b) = ⊥
IsCapsValue (number n) = ⊥
IsCapsValue (string s) = ⊥
IsCapsValue (array ds) = ⊥

-- each set of the state is what its member stands for; a state is lawful
abbrev pub StandsForCaps : Data → CapState → Type 0
StandsForCaps (object ms) s =
    (set : CapSet) → StandsForSet (member_of (set_name set) ms) (state_set set s)
StandsForCaps null s = ⊥
StandsForCaps (boolean b) s = ⊥
StandsForCaps (number n) s = ⊥
StandsForCaps (string t) s = ⊥
StandsForCaps (array ds) s = ⊥

-- a member of a document: `capabilities`, or `seccomp`
abbrev pub IsDocumentMember : List ℕ → Data → Type 0
IsDocumentMember name d =
    ((name ≡ codes "capabilities") × IsCapsValue d) ⊎ ((name ≡ codes "seccomp") × IsA IsSeccomp d)

-- the members of a document stand for a profile
pub record MembersStandFor (ms : Members) (p : Profile) : Type 0 where
  pub members : AllMembers IsDocumentMember ms
  pub caps : (d : Data) × (member_of (codes "capabilities") ms ≡ Some d) × StandsForCaps d p.caps
  pub filter : StandsForFilter (member_of (codes "seccomp") ms) p.filter

abbrev pub StandsFor : Data → Profile → Type 0
StandsFor (object ms) p = MembersStandFor ms p
StandsFor null p = ⊥
StandsFor (boolean b) p = ⊥
StandsFor (number n) p = ⊥
StandsFor (string s) p = ⊥
StandsFor (array ds) p = ⊥

-- the bytes are few enough and are a JSON value that stands for the profile, and the canonical text
-- is short enough
pub record Reads (bytes : List ℕ) (p : Profile) : Type 0 where
  pub short : length bytes ≤ most_bytes
  pub stands : (d : Data) × (json_of bytes ≡ Some d) × StandsFor d p
  pub text : length (text_of p) ≤ most_bytes

-- the sets of a state have capabilities 0 to 40 alone
pub record HasKnownCaps (s : CapState) : Type 0 where
  pub effective : s.effective < 2 ^ 41
  pub permitted : s.permitted < 2 ^ 41
  pub inheritable : s.inheritable < 2 ^ 41
  pub bounding : s.bounding < 2 ^ 41
  pub ambient : s.ambient < 2 ^ 41

-- a filter that `seccomp_doc` can make: a lawful one, of architectures and flags that are of the
-- form
pub record IsWhole (f : FilterValue) : Type 0 where
  pub lawful : IsLawfulFilter f
  pub architectures : All (λ a. is_arch a ≡ true) f.architectures
  pub flags : All (λ a. is_flag a ≡ true) f.flags

abbrev pub HasWholeFilter : Profile → Type 0
HasWholeFilter p = IfSome p.filter IsWhole
