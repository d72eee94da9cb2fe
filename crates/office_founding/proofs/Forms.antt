-- From the row of the office to its form, and from that to what an opening answers.
use Rattle.std.specs.Prelude.{◌&&◌, if◌then◌else◌}
use Rattle.std.proofs.Common.{inl, inr, ◌≡◌, ◌≢◌, ℕ, Bool, true, false, Option, None, Some, Result, Ok, Err, IfOk, IfErr, OnOk, IsTrue, [], refl, sym, ap, subst, ◌∙◌}
use Rattle.sqlite.specs.Order.{Row}
use Rattle.sqlite.specs.Schema.{Schema}
use Rattle.sqlite.specs.State.{State, HasCleanDisk}
use Rattle.sqlite_schema.specs.Names.{same_name}
use Rattle.sqlite_value.specs.Order.{column}
use Rattle.sqlite_rules.proofs.ListLemmas.{contains_had}
use Rattle.office_words.specs.Tables.{Tables}
use Rattle.office_words.specs.declared.fault.Fault.{Fault}
use Rattle.office_words.specs.declared.fault.Fault.TheVariants.{NoMemory, NotAnOffice}
use Rattle.office_rows.specs.Causes.{HasFailed}
use Rattle.office_rows.specs.Faults.{FindsRow}
use Rattle.office_rows.specs.Told.{IsTold, TellsRow}
use Rattle.office_founding.specs.declared.fault.OpeningFault.{OpeningFault}
use Rattle.office_founding.specs.declared.fault.OpeningFault.TheVariants.{OldSchema, NoIndex, Store}
use Rattle.office_founding.specs.declared.form.Form.{Form}
use Rattle.office_founding.specs.declared.form.TheConstants.{OFFICE_ROW}
use Rattle.office_store.specs.Calls.{IsRead}
use Rattle.office_founding.specs.Form.{has_old_tables, has_holds, has_indexes, has_tables, form_row, numbered_row, old_form, new_form, added_by, opening_of, as_store, HasCaps, HasForm, FindsForm, IsFailure, IsOldOrFailure, TellsNumber}
use Rattle.office_store.specs.Schema.{office_schema}
use Rattle.office_store.specs.Shown.{Shows}
use Rattle.office_founding.specs.Migration.{ShowsOldIfOpen}
use Rattle.office_store.proofs.Calls.{by_open, if_open, read_told, told_ok, told_found, told_formed, told_shut}
use Rattle.office_founding.proofs.OfficeRow.{shown_row}
use Rattle.office_founding.proofs.OldReads.{IsOldRow, reads_old}
use Rattle.no_memory.specs.Witness.{witness}

-- ---- the form

pub same_new : (listed : ℕ) (form : Form) (row : Row) → row ≡ numbered_row (new_form listed) → row ≡ numbered_row form → form ≡ new_form listed
same_new listed form row a b = go form.is_old form.listed (sym b ∙ a)
  where
    go : (is_old : Bool) (n : ℕ) → numbered_row (record { is_old = is_old; listed = n }) ≡ numbered_row (new_form listed) → ◌≡◌ {A = Form} (record { is_old = is_old; listed = n }) (new_form listed)
    go true n same = absurd cc
    go false n same = let k : n ≡ listed = cc in ap new_form k

pub same_old : (listed : ℕ) (form : Form) (row : Row) → row ≡ numbered_row (old_form listed) → row ≡ numbered_row form → form ≡ old_form listed
same_old listed form row a b = go form.is_old form.listed (sym b ∙ a)
  where
    go : (is_old : Bool) (n : ℕ) → numbered_row (record { is_old = is_old; listed = n }) ≡ numbered_row (old_form listed) → ◌≡◌ {A = Form} (record { is_old = is_old; listed = n }) (old_form listed)
    go false n same = absurd cc
    go true n same = let k : n ≡ listed = cc in ap old_form k

module _ {Found : Tables → Option Row → Type 0} (old new : State) (row : Result (Option Row) Fault) (r : Result Form Fault) (read : IsRead old new row Found) (told : IsTold TellsNumber row r)
    (finds : HasCleanDisk new → FindsRow OFFICE_ROW.now [] old new row) (idle : old.in_transaction ≡ false) (t : Tables) (shows : ShowsOldIfOpen old t) (clean : HasCleanDisk new) where
  on_open : IsTrue old.is_open → IfOk r (λ form. form ≡ old_form t.listed) × (r ≢ Err NotAnOffice)
  on_open is_open =
      let it = reads_old old new t (shows is_open) idle row (finds clean) in
      (told_found TellsNumber (IsOldRow t) (λ form. form ≡ old_form t.listed) row r told it.0 each, told_formed TellsNumber (IsOldRow t) row r told it.1 it.0 never)
    where
      each : (o : Option Row) → IsOldRow t o → (form : Form) → TellsNumber o (Ok form) → form ≡ old_form t.listed
      each None found form tells = absurd found
      each (Some w) found form tells = same_old t.listed form w found tells

      never : (o : Option Row) → IsOldRow t o → TellsNumber o (Err NotAnOffice) → ⊥
      never None found tells = found
      never (Some w) found (inl memory) = absurd cc
      never (Some w) found (inr unread) = unread.1 (old_form t.listed) (shows is_open).office.listed found

  pub old_told : IfOk r (λ form. form ≡ old_form t.listed) × (r ≢ Err NotAnOffice)
  old_told =
      let answered = told_ok TellsNumber _ row r told (read.leaves.answered clean) in (
        if_open _ _ r (λ form. form ≡ old_form t.listed) answered (λ is_open. (on_open is_open).0),
        by_open old.is_open (r ≢ Err NotAnOffice) (λ is_open. (on_open is_open).1) (λ shut. told_shut TellsNumber _ old.is_open row r told (read.leaves.answered clean) shut (read.leaves.shut clean shut).1),
      )

-- what was told as a form is that of the row
pub found_form : (old mid : State) (form : Form) → TellsRow OFFICE_ROW.now [] old mid TellsNumber (Ok form) → FindsRow OFFICE_ROW.now [] old mid (Ok (Some (numbered_row form)))
found_form old mid form it = go it.row it.found it.told
  where
    go : (row : Result (Option Row) Fault) → FindsRow OFFICE_ROW.now [] old mid row → IsTold TellsNumber row (Ok form) → FindsRow OFFICE_ROW.now [] old mid (Ok (Some (numbered_row form)))
    go (Ok (Some w)) found told = subst (λ (v : Row). FindsRow OFFICE_ROW.now [] old mid (Ok (Some v))) told found
    go (Ok None) found told = absurd cc
    go (Err f) found told = absurd cc

-- the row is of a form with this number
pub finds_form : (old mid : State) (form known : Form) → has_old_tables old.now.schema ≡ true → HasCaps form → form ≡ known → TellsRow OFFICE_ROW.now [] old mid TellsNumber (Ok form) → FindsForm old mid known
finds_form old mid form known tables caps is told = subst (FindsForm old mid) is (record { tables = tables; caps = caps; row = found_form old mid form told })

-- ---- what an opening answers

pub office_is_whole : added_by office_schema ≡ Ok tt
unfolding same_name
office_is_whole = refl

-- a schema with the six tables has the five
pub old_tables : (schema : Schema) → has_tables schema ≡ true → has_old_tables schema ≡ true
old_tables schema has = go (has_old_tables schema) (has_holds schema) has
  where
    go : (old holds : Bool) → (old && holds) ≡ true → old ≡ true
    go true holds has = refl
    go false holds has = absurd cc

-- what is there where nothing is lacking
whole : (schema : Schema) → added_by schema ≡ Ok tt → (has_holds schema ≡ true) × (has_indexes schema ≡ true)
whole schema is = go (has_holds schema) (has_indexes schema) is
  where
    go : (holds indexes : Bool) → ◌≡◌ {A = Result (Unit {0}) OpeningFault} (if holds then (if indexes then Ok tt else Err NoIndex) else Err (Store NotAnOffice)) (Ok tt) → (holds ≡ true) × (indexes ≡ true)
    go true true is = (refl, refl)
    go true false is = absurd cc
    go false indexes is = absurd cc

-- the answer is the listed capabilities of a form of schema 2, and nothing is lacking
opened_whole : (added : Result (Unit {0}) OpeningFault) (form : Form) (listed : ℕ) → Ok listed ≡ opening_of added (Ok form) → (added ≡ Ok tt) × (form ≡ new_form listed)
opened_whole added form listed is = go added form.is_old form.listed is
  where
    go : (added : Result (Unit {0}) OpeningFault) (is_old : Bool) (n : ℕ) → Ok listed ≡ opening_of added (Ok (record { is_old = is_old; listed = n })) → (added ≡ Ok tt) × (◌≡◌ {A = Form} (record { is_old = is_old; listed = n }) (new_form listed))
    go added true n is = absurd cc
    go (Err why) false n is = absurd cc
    go (Ok there) false n is = let k : listed ≡ n = cc in (refl, ap new_form (sym k))

module _ (old new : State) (added : Result (Unit {0}) OpeningFault) (form : Result Form Fault) (result : Result ℕ OpeningFault) (is : result ≡ opening_of added form) where
  abbrev Tells : Form → Result ℕ Fault → Type 0
  Tells f r = r ≡ as_store (opening_of added (Ok f))

  pub opened_read : IsRead old new form (λ t f. f ≡ new_form t.listed) → ((t : Tables) → Shows old t → added ≡ Ok tt) → IsRead old new (as_store result) (λ t listed. listed ≡ t.listed)
  opened_read read there = read_told Tells old new (λ t f. f ≡ new_form t.listed) (λ t listed. listed ≡ t.listed) form (as_store result) read (told form is) some none
    where
      told : (form : Result Form Fault) → result ≡ opening_of added form → IsTold Tells form (as_store result)
      told (Ok f) is = ap as_store is
      told (Err e) is = ap as_store is

      opens : (t : Tables) → Shows old t → (f : Form) → f ≡ new_form t.listed → as_store (opening_of added (Ok f)) ≡ Ok t.listed
      opens t shows f found = λ i. as_store (opening_of (there t shows i) (Ok (found i)))

      some : (t : Tables) → Shows old t → (f : Form) → f ≡ new_form t.listed → (a : ℕ) → Tells f (Ok a) → a ≡ t.listed
      some t shows f found a tells = let k : ◌≡◌ {A = Result ℕ Fault} (Ok a) (Ok t.listed) = tells ∙ opens t shows f found in let n : a ≡ t.listed = cc in n

      none : (t : Tables) → Shows old t → (f : Form) → f ≡ new_form t.listed → (why : Fault) → Tells f (Err why) → why ≡ NoMemory witness
      none t shows f found why tells = let k : ◌≡◌ {A = Result ℕ Fault} (Err why) (Ok t.listed) = tells ∙ opens t shows f found in absurd cc

  -- an office of schema 1 isn't opened, and is refused for that or by a failure
  pub opened_old : (listed : ℕ) → IfOk form (λ f. f ≡ old_form listed) × (form ≢ Err NotAnOffice) → OnOk result ⊥ × IfErr result IsOldOrFailure
  opened_old listed known = go form is known
    where
      Refused : Result ℕ OpeningFault → Type 0
      Refused r = OnOk r ⊥ × IfErr r IsOldOrFailure

      go : (form : Result Form Fault) → result ≡ opening_of added form → IfOk form (λ f. f ≡ old_form listed) × (form ≢ Err NotAnOffice) → Refused result
      go (Ok f) is known = subst Refused (sym (is ∙ ap (λ (f : Form). opening_of added (Ok f)) known.0)) (tt, tt)
      go (Err e) is known = subst Refused (sym is) (tt, λ same. known.1 (ap Err same))

-- where an office that isn't opened counts as none and this is a failure, it is one
pub fails : (old new : State) (fault : OpeningFault) → IfErr {T = ℕ} (as_store (Err fault)) (HasFailed old new) → IsFailure old new fault
fails old new OldSchema failed = failed
fails old new NoIndex failed = failed
fails old new (Store f) failed = failed

-- what is opened has the form of an office
pub opened_form : (old new : State) → has_old_tables old.now.schema ≡ true → (form : Result Form Fault) (result : Result ℕ OpeningFault) → result ≡ opening_of (added_by old.now.schema) form
    → TellsRow OFFICE_ROW.now [] old new TellsNumber form → IfOk form HasCaps → IfOk result (HasForm old new)
opened_form old new tables form (Err why) is tells caps = tt
opened_form old new tables (Err e) (Ok listed) is tells caps = absurd cc
opened_form old new tables (Ok f) (Ok listed) is tells caps =
    let known = opened_whole (added_by old.now.schema) f listed is in
    let there = whole old.now.schema known.0 in
    let found = finds_form old new f (new_form listed) tables caps known.1 tells in
    record {
      tables = λ i. tables i && there.0 i;
      indexes = there.1;
      below = found.caps;
      row = found.row;
      stands = λ has.
          let it = shown_row old new (form_row listed) has found.row in
          record {
            row = it.0;
            there = contains_had (old.now.trees 0) it.0 it.1;
            key = sym (ap (λ (r : Row). column r 0) it.2);
            schema = sym (ap (λ (r : Row). column r 1) it.2);
            listed_are = sym (ap (λ (r : Row). column r 2) it.2);
          };
    }
