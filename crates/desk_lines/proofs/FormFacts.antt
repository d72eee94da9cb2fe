-- The members of a line, each of its form, and their names.
use Rattle.std.proofs.Common.{◌≡◌, ◌∙◌, ℕ, ◌+◌, ◌<◌, List, [], ◌∷◌, Bool, true, false, ◌||◌, ◌&&◌, Option, Result, Ok, Err, IfOk, codes, drop, get_or, is_some, length, map, refl, ap}
use Rattle.std.proofs.lemmas.List.{drop_more}
use Rattle.std.specs.List.{list_any}
use Rattle.std.specs.Str.{bytes_eq}
use Rattle.no_memory.specs.declared.witness.NoMemory.{«NoMemory» as Want}
use Rattle.json_tree.specs.View.{members_view}
use Rattle.json_tree.proofs.Views.{Entry}
use Rattle.json_requests.specs.declared.fault.LineFault.{LineFault}
use Rattle.json_requests.specs.declared.fault.LineFault.TheVariants.{NotJson, NotARequest, NoMemory}
use Rattle.desk_lines.specs.declared.flaw.Member.{Member}
use Rattle.json_requests.specs.Faults.{Gives}
use Rattle.desk_lines.specs.Flaws.{member_word}
use Rattle.desk_lines.specs.Reads.{TellsRead}
use Rattle.json_requests.specs.Objects.{all_belong}

-- what is told of a part is whether the definition has it
pub read_is : {X Y : Type 0} (view : X → Y) (part : Result X LineFault) (o : Option Y) (told : Result Bool Want) → Gives view part o → TellsRead part told
    → IfOk told (λ formed. formed ≡ is_some o)
read_is view (Ok x) o told gives tells = rw (tells, gives) refl
read_is view (Err NotJson) o told gives tells = absurd gives
read_is view (Err NotARequest) o told gives tells = rw (tells, gives) refl
read_is view (Err (NoMemory memory)) o told gives tells = rw tells tt

-- the names that may stand
words_among : (name : List ℕ) (among : List Member) → list_any (bytes_eq name) (map member_word among) ≡ list_any (λ part. bytes_eq name (member_word part)) among
words_among name [] = refl
words_among name (part ∷ among) = ap (λ b. bytes_eq name (member_word part) || b) (words_among name among)

-- the names that a line may have beside these members
abbrev names_with : List Member → List (List ℕ)
names_with among = codes "ask" ∷ map member_word among

-- a name may stand
abbrev may_stand : List ℕ → List Member → Bool
may_stand name among = bytes_eq name (codes "ask") || list_any (λ part. bytes_eq name (member_word part)) among

may_stand_as : (name : List ℕ) (among : List Member) → list_any (bytes_eq name) (names_with among) ≡ may_stand name among
may_stand_as name among = ap (λ b. bytes_eq name (codes "ask") || b) (words_among name among)

-- the members from a place on
from_here : (among : List Member) (es : List Entry) (i : ℕ) (d : Entry) (b : Bool) → i < length es → may_stand (get_or es i d).0.now among ≡ b
    → all_belong (names_with among) (members_view (drop i es)) ≡ (b && all_belong (names_with among) (members_view (drop (i + 1) es)))
from_here among es i d b lt is =
    ap (λ ms. all_belong (names_with among) (members_view ms)) (drop_more es i d lt)
    ∙ ap (λ a. a && all_belong (names_with among) (members_view (drop (i + 1) es))) (may_stand_as (get_or es i d).0.now among ∙ is)

pub another_part : (among : List Member) (es : List Entry) (i : ℕ) (d : Entry) → i < length es → may_stand (get_or es i d).0.now among ≡ false
    → all_belong (names_with among) (members_view (drop i es)) ≡ false
another_part among es i d lt other = from_here among es i d false lt other

pub part_belongs : (among : List Member) (es : List Entry) (i : ℕ) (d : Entry) → i < length es → may_stand (get_or es i d).0.now among ≡ true
    → all_belong (names_with among) (members_view (drop i es)) ≡ all_belong (names_with among) (members_view (drop (i + 1) es))
part_belongs among es i d lt known = from_here among es i d true lt known
