-- What a member of a known name gives, by the row of its name.
use Rattle.std.proofs.Common.{◌≡◌, ℕ, List, true, bytes_eq, Ok, Err, refl, sym, subst}
use Rattle.serde_json.specs.Data.{Data}
use Rattle.profile_text.specs.declared.fault.DocFault.{DocFault}
use Rattle.profile_text.specs.Reading.{Gives, unless_faulty}
use Rattle.profile_text.specs.Shape.{Shape, Row, below, row_faults, row_named}
use Rattle.profile_text.proofs.GivesFacts.{gives_alone, ok_parts}
use Rattle.profile_text.proofs.Picks.{same_name}

-- the fault of its value is told at the path of the known name
pub refused_at_key : {X Y : Type 0} (rows : List Row) (path name key : List ℕ) (d : Data) (shape : Shape) (x : X) (y : Y) (fault : DocFault)
    → bytes_eq name key ≡ true → row_faults (row_named rows key) (below path key) d ≡ shape (below path key) d
    → Gives {X = X} (Err fault) (unless_faulty (shape (below path key) d) x)
    → Gives {X = Y} (Err fault) (unless_faulty (row_faults (row_named rows name) (below path name) d) y)
refused_at_key {X} {Y} rows path name key d shape x y fault is row told =
    subst (λ n. Gives {X = Y} (Err fault) (unless_faulty (row_faults (row_named rows n) (below path n) d) y)) (sym (same_name name key is))
    (rw row (gives_alone fault (shape (below path key) d) x y told))

-- its value is read at the path of the known name
pub taken_at_key : {X S : Type 0} (rows : List Row) (path name key : List ℕ) (d : Data) (shape : Shape) (with : List ℕ → S) (make : X → S) (read x : X)
    → bytes_eq name key ≡ true → row_faults (row_named rows key) (below path key) d ≡ shape (below path key) d → with key ≡ make read
    → unless_faulty (shape (below path key) d) read ≡ Ok x
    → unless_faulty (row_faults (row_named rows name) (below path name) d) (with name) ≡ Ok (make x)
taken_at_key {X} {S} rows path name key d shape with make read x is row by told =
    let parts = ok_parts (shape (below path key) d) read x told in
    subst (λ n. unless_faulty (row_faults (row_named rows n) (below path n) d) (with n) ≡ Ok (make x)) (sym (same_name name key is))
    (rw (row, by, parts.0, parts.1) refl)

-- the fault of its value, told at the path of its own name
pub refused_at_name : {X Y : Type 0} (rows : List Row) (path name key : List ℕ) (d : Data) (shape : Shape) (x : X) (y : Y) (fault : DocFault)
    → bytes_eq name key ≡ true → row_faults (row_named rows key) (below path key) d ≡ shape (below path key) d
    → Gives {X = X} (Err fault) (unless_faulty (shape (below path name) d) x)
    → Gives {X = Y} (Err fault) (unless_faulty (row_faults (row_named rows name) (below path name) d) y)
refused_at_name {X} {Y} rows path name key d shape x y fault is row told =
    refused_at_key rows path name key d shape x y fault is row
    (subst (λ n. Gives {X = X} (Err fault) (unless_faulty (shape (below path n) d) x)) (same_name name key is) told)

-- its value is read at the path of its own name
pub taken_at_name : {X S : Type 0} (rows : List Row) (path name key : List ℕ) (d : Data) (shape : Shape) (with : List ℕ → S) (make : X → S) (read x : X)
    → bytes_eq name key ≡ true → row_faults (row_named rows key) (below path key) d ≡ shape (below path key) d → with key ≡ make read
    → unless_faulty (shape (below path name) d) read ≡ Ok x
    → unless_faulty (row_faults (row_named rows name) (below path name) d) (with name) ≡ Ok (make x)
taken_at_name {X} {S} rows path name key d shape with make read x is row by told =
    taken_at_key rows path name key d shape with make read x is row by
    (subst (λ n. unless_faulty (shape (below path n) d) read ≡ Ok x) (same_name name key is) told)
