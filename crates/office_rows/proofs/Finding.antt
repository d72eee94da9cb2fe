-- What the first row of a query says of the entries that a table keeps.
use Rattle.std.proofs.Common.{inl, inr, ◌≡◌, ◌≢◌, ℕ, ℤ, List, [], ◌∷◌, Bool, true, Option, None, Some, Ok, Err, Result, IfOk, refl, sym, ◌∙◌}
use Rattle.std.specs.List.{list_all}
use Rattle.sqlite.specs.Order.{Row}
use Rattle.sqlite.specs.Schema.{Schema}
use Rattle.sqlite.specs.Term.{Term, eval_all, holds}
use Rattle.sqlite.specs.Command.{Command}
use Rattle.sqlite.specs.Command.TheVariants.{Select}
use Rattle.sqlite.specs.Program.{overlay}
use Rattle.sqlite.specs.State.{State, QueriesRow, Shown}
use Rattle.sqlite.specs.Listing.{understood}
use Rattle.sqlite.proofs.Callers.{IsPlain}
use Rattle.sqlite_rules.specs.Lists.{Has}
use Rattle.office_words.specs.declared.fault.Fault.{Fault}
use Rattle.office_words.specs.declared.fault.Fault.TheVariants.{NotAnOffice}
use Rattle.office_rows.specs.Faults.{FindsRow}
use Rattle.office_rows.specs.Entries.{Keeps, row_of}
use Rattle.office_rows.proofs.Errors.{query_failed}
use Rattle.office_rows.proofs.Plain.{plain_query, Means}
use Rattle.office_rows.proofs.Reading.{found_row, found_none}

-- a row shows an entry that passes, or none passes
abbrev pub IsFound : {X : Type 0} → (X → Bool) → (X → Row) → List X → Option Row → Type 0
IsFound {X} passes shown xs None = (x : X) → Has xs x → passes x ≡ true → ⊥
IsFound {X} passes shown xs (Some row) = (x : X) × Has xs x × (passes x ≡ true) × (row ≡ shown x)

-- ---- a query of a known meaning, whatever it is

module _ (command : Command) (schema : Schema) (sql : List ℕ) (params : Row) (means : Means schema sql command) (old new : State) (has : old.now.schema ≡ schema) where
  plain_old : IsPlain (understood old.now.schema sql)
  plain_old = rw has means.plain

  -- what the first row of the answer says, and what its lack says
  pub finds : (Tells : Option Row → Type 0) → ((row : Row) → QueriesRow sql params old new (Ok row) → Tells (Some row)) → (Shown sql params old new [] → Tells None)
      → (r : Result (Option Row) Fault) → FindsRow sql params old new r → IfOk r Tells × (r ≢ Err NotAnOffice)
  unfolding QueriesRow
  finds Tells some none (Ok (Some row)) h = (some row h, (λ e. cc))
  finds Tells some none (Ok None) (inl h) = absurd ((query_failed _ _ old new _ plain_old h).1 refl)
  finds Tells some none (Ok None) (inr h) = (none h.1, (λ e. cc))
  finds Tells some none (Err f) (e, inl h, is, another) = (tt, (λ same. (query_failed _ _ old new e plain_old h).0 (sym is ∙ (let k : f ≡ NotAnOffice = cc in k))))
  finds Tells some none (Err f) (e, inr h, is, another) = absurd (another h.0)

-- ---- a query of one table

module _ {X : Type 0} (encode shown : X → Row) (passes : X → Bool) (project tests : List Term) (schema : Schema) (sql : List ℕ) (params : Row) (tree : ℕ) (names : List (List ℕ))
    (means : Means schema sql (Select (record { lets = []; body = plain_query project tests tree }) names))
    (tested : (k : ℤ × X) → list_all (holds (params ∷ row_of encode k ∷ [])) tests ≡ passes k.1)
    (showed : (k : ℤ × X) → eval_all project (params ∷ row_of encode k ∷ []) ≡ shown k.1)
    (old new : State) (has : old.now.schema ≡ schema) (xs : List X) (keeps : Keeps encode (overlay old.now.trees [] tree) xs) where
  pub finds_some : (r : Result (Option Row) Fault) → FindsRow sql params old new r → IfOk r (IsFound passes shown xs)
  finds_some r h =
      let it = finds (Select (record { lets = []; body = plain_query project tests tree }) names) schema sql params means old new has (IsFound passes shown xs)
      (λ row h. found_row encode shown passes project tests schema sql params tree names means tested showed old new has xs keeps row h)
      (λ h x has_x passed. found_none encode shown passes project tests schema sql params tree names means tested showed old new has xs keeps h x has_x passed) r h in
      it.0
