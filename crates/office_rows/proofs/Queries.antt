-- A query changes nothing and commits nothing, whatever the schema and the state of the connection.
use Rattle.std.proofs.Common.{inl, inr, ◌≡◌, ◌≢◌, ◌⊎◌, ℕ, List, [], Bool, true, false, Option, None, Some, Ok, Err, Result, OnOk, IfOk, IfErr, IsTrue, refl, sym, ap, ◌∙◌}
use Rattle.std.specs.Prelude.{if◌then◌else◌}
use Rattle.sqlite.specs.Command.{Command}
use Rattle.sqlite.specs.Schema.{Schema}
use Rattle.sqlite.specs.Order.{Row}
use Rattle.sqlite.specs.Effect.{Database, RefusesToRead}
use Rattle.sqlite.specs.declared.error.Error.{Error}
use Rattle.sqlite.specs.declared.error.Error.TheVariants as error
use Rattle.sqlite.specs.State.{State, HasCleanDisk, Survives, CommitsShowing, QueriesRow, Shown, FailsToQuery, IsNotRun, IsNoStatement, IsUnchanged, IsRolledBack}
use Rattle.sqlite.specs.Listing.{understood, reads_listing, if_select, listing_schema, is_select}
use Rattle.sqlite.proofs.StateLemmas.{survives_weaker}
use Rattle.sqlite_schema.specs.declared.command.Returning.{Returning}
use Rattle.sqlite_syntax.specs.declared.statement.Parsed.{Parsed}
use Rattle.sqlite_resolve.specs.declared.compiled.Compiled.{Compiled}
use Rattle.sqlite_resolve.specs.declared.error.CompileError.{CompileError}
use Rattle.sqlite_resolve.specs.declared.error.CompileError.TheVariants.{NoSuchTable}
use Rattle.sqlite_resolve.specs.Lowering.{Checked, and_then}
use Rattle.sqlite_resolve.specs.Scope.{Name}
use Rattle.sqlite_resolve.specs.Compile.{compiled, first, planned, meaning, returning, with_command, timed}
use Rattle.office_words.specs.declared.fault.Fault.{Fault}
use Rattle.office_words.specs.declared.fault.Fault.TheVariants.{NotAnOffice}
use Rattle.office_rows.specs.Faults.{fault_of_error, FindsRow}
use Rattle.office_rows.specs.Rows.{IsFaultOf}
use Rattle.office_rows.specs.Queries.{IsQuery, IsAsked}
use Rattle.office_rows.proofs.Errors.{of_store, refused_read}

-- ---- a text without RETURNING has none in any schema

planned_none : (r : Checked Command) (formats : List Name) (p : Parsed) (c : Compiled)
    → and_then {A = List Name × (Command × Option Returning)} (and_then {A = Command × Option Returning} (and_then r (λ k. Ok (k, None))) (λ found. Ok (formats, found))) (λ plan. Ok (with_command p plan)) ≡ Ok c → c.returning ≡ None
planned_none (Ok k) formats p c is = let same : with_command p (formats, (k, None)) ≡ c = cc in sym (ap (λ (x : Compiled). x.returning) same)
planned_none (Err e) formats p c is = absurd cc

shown_none : (shown : Checked (Option Returning)) (r : Checked Command) (formats : List Name) (p : Parsed) (c : Compiled) → shown ≡ Ok None
    → and_then {A = List Name × (Command × Option Returning)} (and_then {A = Command × Option Returning} (and_then shown (λ s. and_then r (λ k. Ok (k, s)))) (λ found. Ok (formats, found))) (λ plan. Ok (with_command p plan)) ≡ Ok c → c.returning ≡ None
shown_none shown r formats p c none is = planned_none r formats p c (rw none at is)

select_none : (schema : Schema) (p : Parsed) (c : Compiled) → ((base : ℕ) → returning schema base p.statement ≡ Ok None) → and_then (planned schema p) (λ plan. Ok (with_command p plan)) ≡ Ok c → c.returning ≡ None
unfolding planned meaning
select_none schema p c none is = shown_none _ _ (timed schema p.formats p.statement) p c (none _) is

selected : (r : Result Compiled CompileError) → ((c : Compiled) → r ≡ Ok c → c.returning ≡ None) → (c : Compiled) → if_select r ≡ Ok c → c.returning ≡ None
selected (Ok k) none c is = go (is_select k.command) is
  where
    go : (b : Bool) → ◌≡◌ {A = Result Compiled CompileError} (if b then Ok k else Err NoSuchTable) (Ok c) → c.returning ≡ None
    go true same = none c same
    go false same = absurd cc
selected (Err e) none c is = absurd cc

-- what the text is before any schema is known: `refl` finds it, under `unfolding everything first returning`
pub record IsFirst (sql : List ℕ) (p : Parsed) : Type 0 where
  pub is : first sql ≡ Ok p
  pub bare : (schema : Schema) (base : ℕ) → returning schema base p.statement ≡ Ok None

compiled_none : (sql : List ℕ) (p : Parsed) → IsFirst sql p → (schema : Schema) (c : Compiled) → compiled schema sql ≡ Ok c → c.returning ≡ None
unfolding compiled
compiled_none sql p it schema c is = select_none schema p c (it.bare schema) (rw it.is at is)

pub is_query : (sql : List ℕ) (p : Parsed) → IsFirst sql p → IsQuery sql
unfolding understood
is_query sql p it schema c is = go (reads_listing schema sql) is
  where
    go : (b : Bool) → (if b then if_select (compiled listing_schema sql) else compiled schema sql) ≡ Ok c → c.returning ≡ None
    go true same = selected (compiled listing_schema sql) (compiled_none sql p it listing_schema) c same
    go false same = compiled_none sql p it schema c same

-- ---- what such a text leaves

not_open : (b : Bool) → IsTrue b → b ≡ false → ⊥
not_open true is_open shut = cc
not_open false is_open shut = cc

stays_shut : (old new : Bool) → old ≡ false → (IsTrue new → IsTrue old) → new ≡ false
stays_shut old true shut back = absurd (not_open old (back refl) shut)
stays_shut old false shut back = refl

no_row_is_no_fault : (limit : Option ℕ) (command : Command) (db : Database) (params : Row) → RefusesToRead limit command db params error.QueryReturnedNoRows → ⊥
no_row_is_no_fault limit command db params h = (refused_read limit command db params _ h).1 refl

module _ (sql : List ℕ) (query : IsQuery sql) (params : Row) (old new : State) where
  pub shown_left : (rows : List Row) → Shown sql params old new rows → IsUnchanged old new
  unfolding Shown
  shown_left rows h = let none = query old.now.schema h.0 h.1.is in (rw none at h.2).3

  pub row_left : (row : Row) → QueriesRow sql params old new (Ok row) → IsUnchanged old new
  unfolding QueriesRow
  row_left row (inl h) = h.1
  row_left row (inr h) = shown_left h.0 h.1

  -- a failure changes nothing, or undoes the transaction for a fault of the store
  failed_left : (e : Error) → FailsToQuery sql params old new e → IsUnchanged old new ⊎ (IsRolledBack old new × (fault_of_error e ≢ NotAnOffice))
  unfolding FailsToQuery IsNotRun
  failed_left e (inl (inl h)) = inl h.1
  failed_left e (inl (inr h)) = inr (h.3, rw h.1 (of_store h.0).0)
  failed_left e (inr h) = let none = query old.now.schema h.0 h.1.is in inl (rw none at h.2).3

  not_no_rows : FailsToQuery sql params old new error.QueryReturnedNoRows → ⊥
  unfolding FailsToQuery IsNotRun
  not_no_rows (inl (inl h)) = not_no_statement h.0
    where
      not_no_statement : IsNoStatement old sql params error.QueryReturnedNoRows → ⊥
      not_no_statement (inl h) = let z = h.2 in cc
      not_no_statement (inr (c, is, inl h)) = let z = h.1 in cc
      not_no_statement (inr (c, is, inr (inl h))) = let z = h.1 in cc
      not_no_statement (inr (c, is, inr (inr h))) = let z = h.1 in cc
  not_no_rows (inl (inr h)) = (of_store h.0).1 (sym h.1)
  not_no_rows (inr h) = let none = query old.now.schema h.0 h.1.is in let it = rw none at h.2 in no_row_is_no_fault _ h.0.command it.0 _ it.2

  -- either it has answered and changed nothing, or it has failed
  abbrev Left : {A : Type 0} → Result A Fault → Type 0
  Left r = IsUnchanged old new ⊎ (IsRolledBack old new × OnOk r ⊥ × (r ≢ Err NotAnOffice))

  first_left : (r : Result (Option Row) Fault) → FindsRow sql params old new r → Left r
  unfolding QueriesRow
  first_left (Ok (Some row)) h = inl (row_left row h)
  first_left (Ok None) (inl h) = absurd (not_no_rows h)
  first_left (Ok None) (inr h) = inl (shown_left [] h.1)
  first_left (Err f) (e, inr h, is, another) = absurd (another h.0)
  first_left (Err f) (e, inl h, is, another) = elim (failed_left e h) [
    | inl same ↦ inl same
    | inr back ↦ inr (back.0, tt, λ same. back.1 (sym is ∙ (let k : f ≡ NotAnOffice = cc in k)))
  ]

  rows_left : {X : Type 0} (items : X → List Row) (r : Result X Fault) → IfOk r (λ x. Shown sql params old new (items x)) → IfErr r (IsFaultOf sql params old new) → Left r
  rows_left items (Ok x) h fault = inl (shown_left (items x) h)
  rows_left items (Err f) h fault = elim (failed_left fault.error fault.failed) [
    | inl same ↦ inl same
    | inr back ↦ inr (back.0, tt, λ same. back.1 (sym fault.fault ∙ (let k : f ≡ NotAnOffice = cc in k)))
  ]

  asked : {A : Type 0} (r : Result A Fault) → (HasCleanDisk new → Left r) → Survives old new (CommitsShowing sql params old) → IsAsked old new r
  unfolding CommitsShowing
  asked r left survives = record {
    answered = λ clean. elim (left clean) [
      | inl same ↦ on_any r (same.0.was_open, same.0.is_open)
      | inr back ↦ never _ r back.1
    ];
    shut = λ clean shut. elim (left clean) [
      | inl same ↦ absurd (not_open old.is_open same.0.was_open shut)
      | inr back ↦ (stays_shut old.is_open new.is_open shut back.0.was_open, back.2)
    ];
    same = λ settled clean is_open. elim (left clean) [
      | inl same ↦ (same.0.now_is, same.0.committed_is)
      | inr back ↦ ((back.0.undone is_open).0 ∙ sym settled, (back.0.undone is_open).1)
    ];
    crash = survives_weaker old new _ _ (λ clean db h. let none = query old.now.schema h.0 h.1.is in let some = rw none at h.2 in cc) survives;
  }
    where
      on_any : {A P : Type 0} (r : Result A Fault) → P → OnOk r P
      on_any (Ok a) p = p
      on_any (Err f) p = tt

      never : {A : Type 0} (P : Type 0) (r : Result A Fault) → OnOk r ⊥ → OnOk r P
      never P (Ok a) none = absurd none
      never P (Err f) none = tt

  -- what a query of the first row leaves
  pub first_asked : (r : Result (Option Row) Fault) → (HasCleanDisk new → FindsRow sql params old new r) → Survives old new (CommitsShowing sql params old) → IsAsked old new r
  first_asked r row = asked r (λ clean. first_left r (row clean))

  -- what a query of all its rows leaves
  pub rows_asked : {X : Type 0} (items : X → List Row) (r : Result X Fault) → (HasCleanDisk new → IfOk r (λ x. Shown sql params old new (items x))) → (HasCleanDisk new → IfErr r (IsFaultOf sql params old new))
      → Survives old new (CommitsShowing sql params old) → IsAsked old new r
  rows_asked items r rows fault = asked r (λ clean. rows_left items r (rows clean) (fault clean))
