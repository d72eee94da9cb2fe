-- A shape, what is read and a relation agree: there is no fault just where the value stands for something, and then it
-- stands for what is read.
use Rattle.std.proofs.Common.{◌≡◌, ◌∙◌, ℕ, ◌+◌, ◌⊎◌, inl, inr, List, [], ◌∷◌, ◌++◌, Bool, true, false, cond, Option, Some, None, bytes_eq, refl, sym, subst}
use Rattle.std.specs.List.{list_any}
use Rattle.std.specs.Option.{option_map_or}
use Rattle.std.specs.Prelude.{◌||◌, map, decimal, is_some, option_map, unwrap_or}
use Rattle.serde_json.specs.Data.{Data, null, boolean, number, string, array, object, Items, no_items, item, Members, no_members, member}
use Rattle.profile_text.specs.declared.fault.DocFault.{DocFault}
use Rattle.profile_text.specs.FilterParts.{items_as, list_as}
use Rattle.profile_text.specs.FilterReads.{AllMembers, AreItems, IsList, OrNull, IsA, Required, Optional, IsOneOf}
use Rattle.profile_text.specs.Shape.{Shape, Row, below, items_faults, list_faults, optional_faults, row_faults, row_named, members_faults, member_from, member_of}
use Rattle.profile_text.proofs.Picks.{same_name}

pub both_empty : (a b : List DocFault) → a ++ b ≡ [] → (a ≡ []) × (b ≡ [])
both_empty [] b e = (refl, e)
both_empty (f ∷ a) b e = absurd (cc)

pub empty_both : (a b : List DocFault) → a ≡ [] → b ≡ [] → a ++ b ≡ []
empty_both a b e f = rw (e, f) refl

pub record Agrees {X : Type 0} (shape : Shape) (read : Data → X) (R : Data → X → Type 0) : Type 0 where
  pub stands : (path : List ℕ) (d : Data) → shape path d ≡ [] → R d (read d)
  pub faultless : (path : List ℕ) (d : Data) (x : X) → R d x → shape path d ≡ []
  pub same : (d : Data) (x : X) → R d x → read d ≡ x

-- ---- lists

module _ {X : Type 0} (shape : Shape) (read : Data → X) (R : Data → X → Type 0) (agrees : Agrees shape read R) where
  items_stand : (path : List ℕ) (i : ℕ) (ds : Items) → items_faults shape path i ds ≡ [] → AreItems R ds (items_as read ds)
  unfolding items_faults items_as
  items_stand path i no_items e = tt
  items_stand path i (item d ds) e =
      let parts = both_empty (shape (below path (decimal i)) d) (items_faults shape path (i + 1) ds) e in
      (agrees.stands (below path (decimal i)) d parts.0, items_stand path (i + 1) ds parts.1)

  items_faultless : (path : List ℕ) (i : ℕ) (ds : Items) (xs : List X) → AreItems R ds xs → items_faults shape path i ds ≡ []
  unfolding items_faults
  items_faultless path i no_items xs h = refl
  items_faultless path i (item d ds) [] h = absurd h
  items_faultless path i (item d ds) (x ∷ xs) h =
      empty_both (shape (below path (decimal i)) d) (items_faults shape path (i + 1) ds) (agrees.faultless (below path (decimal i)) d x h.0) (items_faultless path (i + 1) ds xs h.1)

  items_same : (ds : Items) (xs : List X) → AreItems R ds xs → items_as read ds ≡ xs
  unfolding items_as
  items_same no_items [] h = refl
  items_same no_items (x ∷ xs) h = absurd h
  items_same (item d ds) [] h = absurd h
  items_same (item d ds) (x ∷ xs) h = rw (agrees.same d x h.0, items_same ds xs h.1) refl

  list_stands : (path : List ℕ) (d : Data) → list_faults shape path d ≡ [] → IsList R d (list_as read d)
  unfolding list_faults list_as
  list_stands path (array ds) e = items_stand path 0 ds e
  list_stands path null e = absurd (cc)
  list_stands path (boolean b) e = absurd (cc)
  list_stands path (number n) e = absurd (cc)
  list_stands path (string s) e = absurd (cc)
  list_stands path (object ms) e = absurd (cc)

  list_faultless : (path : List ℕ) (d : Data) (xs : List X) → IsList R d xs → list_faults shape path d ≡ []
  unfolding list_faults
  list_faultless path (array ds) xs h = items_faultless path 0 ds xs h
  list_faultless path null xs h = absurd h
  list_faultless path (boolean b) xs h = absurd h
  list_faultless path (number n) xs h = absurd h
  list_faultless path (string s) xs h = absurd h
  list_faultless path (object ms) xs h = absurd h

  list_same : (d : Data) (xs : List X) → IsList R d xs → list_as read d ≡ xs
  unfolding list_as
  list_same (array ds) xs h = items_same ds xs h
  list_same null xs h = absurd h
  list_same (boolean b) xs h = absurd h
  list_same (number n) xs h = absurd h
  list_same (string s) xs h = absurd h
  list_same (object ms) xs h = absurd h

  pub list_agrees : Agrees (list_faults shape) (list_as read) (IsList R)
  list_agrees = record { stands = list_stands; faultless = list_faultless; same = list_same }

-- ---- null

module _ {X : Type 0} (shape : Shape) (read : Data → X) (R : Data → X → Type 0) (absent : X) (agrees : Agrees shape read R) (is_absent : read null ≡ absent) where
  null_stands : (path : List ℕ) (d : Data) → optional_faults shape path d ≡ [] → OrNull R absent d (read d)
  unfolding optional_faults
  null_stands path null e = is_absent
  null_stands path (boolean b) e = agrees.stands path (boolean b) e
  null_stands path (number n) e = agrees.stands path (number n) e
  null_stands path (string s) e = agrees.stands path (string s) e
  null_stands path (array ds) e = agrees.stands path (array ds) e
  null_stands path (object ms) e = agrees.stands path (object ms) e

  null_faultless : (path : List ℕ) (d : Data) (x : X) → OrNull R absent d x → optional_faults shape path d ≡ []
  unfolding optional_faults
  null_faultless path null x h = refl
  null_faultless path (boolean b) x h = agrees.faultless path (boolean b) x h
  null_faultless path (number n) x h = agrees.faultless path (number n) x h
  null_faultless path (string s) x h = agrees.faultless path (string s) x h
  null_faultless path (array ds) x h = agrees.faultless path (array ds) x h
  null_faultless path (object ms) x h = agrees.faultless path (object ms) x h

  null_same : (d : Data) (x : X) → OrNull R absent d x → read d ≡ x
  null_same null x h = is_absent ∙ sym h
  null_same (boolean b) x h = agrees.same (boolean b) x h
  null_same (number n) x h = agrees.same (number n) x h
  null_same (string s) x h = agrees.same (string s) x h
  null_same (array ds) x h = agrees.same (array ds) x h
  null_same (object ms) x h = agrees.same (object ms) x h

  pub null_agrees : Agrees (optional_faults shape) read (OrNull R absent)
  null_agrees = record { stands = null_stands; faultless = null_faultless; same = null_same }

-- ---- members

pub all_from : (P : List ℕ → Data → Type 0) (rows : List Row) → ((path name : List ℕ) (d : Data) → row_faults (row_named rows name) path d ≡ [] → P name d)
    → (path : List ℕ) (ms : Members) → members_faults rows path ms ≡ [] → AllMembers P ms
unfolding members_faults
all_from P rows one path no_members e = tt
all_from P rows one path (member n d ms) e =
    let parts = both_empty (row_faults (row_named rows n) (below path n) d) (members_faults rows path ms) e in
    (one (below path n) n d parts.0, all_from P rows one path ms parts.1)

pub none_from : (P : List ℕ → Data → Type 0) (rows : List Row) → ((path name : List ℕ) (d : Data) → P name d → row_faults (row_named rows name) path d ≡ [])
    → (path : List ℕ) (ms : Members) → AllMembers P ms → members_faults rows path ms ≡ []
unfolding members_faults
none_from P rows one path no_members all = refl
none_from P rows one path (member n d ms) all =
    empty_both (row_faults (row_named rows n) (below path n) d) (members_faults rows path ms) (one (below path n) n d all.0) (none_from P rows one path ms all.1)

-- what holds of each of the names holds of one of them
abbrev pub EachOf : (List ℕ → Type 0) → List (List ℕ) → Type 0
EachOf P [] = Unit {0}
EachOf P (name ∷ names) = P name × EachOf P names

one_by : (P : List ℕ → Type 0) (name key : List ℕ) (b later : Bool) → bytes_eq name key ≡ b → P key → (later ≡ true → P name) → (b || later) ≡ true → P name
one_by P name key true later is p rest e = subst P (sym (same_name name key is)) p
one_by P name key false later is p rest e = rest e

pub one_of : (P : List ℕ → Type 0) (names : List (List ℕ)) (name : List ℕ) → EachOf P names → IsOneOf names name → P name
one_of P [] name each e = absurd (cc)
one_of P (key ∷ names) name each e = one_by P name key (bytes_eq name key) (list_any (bytes_eq name) names) refl each.0 (one_of P names name each.1) e

known_by : (row : Row) (rows : List Row) (path name : List ℕ) (d : Data) (b : Bool) → bytes_eq name row.name ≡ b
    → (row_faults (row_named rows name) path d ≡ [] → IsOneOf (map (λ r. r.name) rows) name)
    → row_faults (cond b (Some row) (row_named rows name)) path d ≡ [] → (b || list_any (bytes_eq name) (map (λ (r : Row). r.name) rows)) ≡ true
known_by row rows path name d true is rest e = refl
known_by row rows path name d false is rest e = rest e

-- a member without a fault has a name of the table
pub known : (rows : List Row) (path name : List ℕ) (d : Data) → row_faults (row_named rows name) path d ≡ [] → IsOneOf (map (λ r. r.name) rows) name
known [] path name d e = absurd (cc)
known (row ∷ rows) path name d e = known_by row rows path name d (bytes_eq name row.name) refl (known rows path name d) e

-- ---- the member of a name

found_by : (P : List ℕ → Data → Type 0) (n name : List ℕ) (e d : Data) (found : Option Data) (b : Bool) → bytes_eq n name ≡ b → P n e → cond b (Some e) found ≡ Some d → (found ≡ Some d) ⊎ P name d
found_by P n name e d found true is p same = let here : e ≡ d = cc in inr (subst (P name) here (subst (λ m. P m e) (same_name n name is) p))
found_by P n name e d found false is p same = inl same

found_holds : (P : List ℕ → Data → Type 0) (name : List ℕ) (found : Option Data) (ms : Members) (d : Data) → AllMembers P ms → member_from found name ms ≡ Some d → (found ≡ Some d) ⊎ P name d
found_holds P name found no_members d all e = inl e
found_holds P name found (member n x ms) d all e =
    elim (found_holds P name (cond (bytes_eq n name) (Some x) found) ms d all.1 e) as (λ _. (found ≡ Some d) ⊎ P name d) [
      | inr p ↦ inr p
      | inl here ↦ found_by P n name x d found (bytes_eq n name) refl all.0 here
    ]

-- what holds of each member holds of the one that is found
pub member_holds : (P : List ℕ → Data → Type 0) (name : List ℕ) (ms : Members) (d : Data) → AllMembers P ms → member_of name ms ≡ Some d → P name d
member_holds P name ms d all e = elim (found_holds P name None ms d all e) as (λ _. P name d) [ inl none ↦ absurd (let bad : ◌≡◌ {A = Option Data} None (Some d) = none in cc) | inr p ↦ p ]

-- a value that stands for something stands for what is read
pub is_read : {X : Type 0} (shape : Shape) (read : Data → X) (R : Data → X → Type 0) → Agrees shape read R → (d : Data) → IsA R d → R d (read d)
is_read shape read R agrees d h = subst (R d) (sym (agrees.same d h.0 h.1)) h.1

-- a member that may be absent
pub optional_is : {X : Type 0} (shape : Shape) (read : Data → X) (R : Data → X → Type 0) (absent : X) → Agrees shape read R → (o : Option Data) → ((d : Data) → o ≡ Some d → IsA R d)
    → Optional R absent o (option_map_or read o absent)
optional_is shape read R absent agrees None h = refl
optional_is shape read R absent agrees (Some d) h = is_read shape read R agrees d (h d refl)

pub optional_same : {X : Type 0} (shape : Shape) (read : Data → X) (R : Data → X → Type 0) (absent : X) → Agrees shape read R → (o : Option Data) (x : X) → Optional R absent o x → option_map_or read o absent ≡ x
optional_same shape read R absent agrees None x h = sym h
optional_same shape read R absent agrees (Some d) x h = agrees.same d x h

-- a member that must be there
pub required_is : {X : Type 0} (shape : Shape) (read : Data → X) (R : Data → X → Type 0) (other : X) → Agrees shape read R → (o : Option Data) → is_some o ≡ true → ((d : Data) → o ≡ Some d → IsA R d)
    → Required R o (unwrap_or (option_map read o) other)
required_is shape read R other agrees None there h = absurd (cc)
required_is shape read R other agrees (Some d) there h = is_read shape read R agrees d (h d refl)

pub required_same : {X : Type 0} (shape : Shape) (read : Data → X) (R : Data → X → Type 0) (other : X) → Agrees shape read R → (o : Option Data) (x : X) → Required R o x → unwrap_or (option_map read o) other ≡ x
required_same shape read R other agrees None x h = absurd h
required_same shape read R other agrees (Some d) x h = agrees.same d x h

pub required_there : {X : Type 0} (R : Data → X → Type 0) (o : Option Data) (x : X) → Required R o x → is_some o ≡ true
required_there R None x h = absurd h
required_there R (Some d) x h = refl
