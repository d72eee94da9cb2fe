-- Where two lists of rows first differ.
use Rattle.std.proofs.Common.{inl, inr, ◌≡◌, ℕ, List, [], ◌∷◌, ◌++◌, take, length, Option, None, Some, Result, Ok, Err, Less, refl, sym, ap, subst, ◌∙◌, arith}
use Rattle.std.specs.Prelude.{slice_get, OnOk}
use Rattle.std.specs.Ordering.{ordering_reverse}
use Rattle.std.proofs.lemmas.List.{take_all}
use Rattle.std.proofs.lemmas.Option.{same_Some, slice_get_past}
use Rattle.sqlite.specs.Effect.{Database}
use Rattle.sqlite.specs.Held.{Held, state}
use Rattle.sqlite.specs.Order.{Row}
use Rattle.sqlite.specs.Store.{Ghosts}
use Rattle.sqlite_value.proofs.OrderLemmas.{row_cmp_total}
use Rattle.journal_faults.specs.declared.difference.Difference.{Difference}
use Rattle.journal_faults.specs.declared.table.Table.{Table}
use Rattle.journal_verification.specs.Differing.{IsEarlier, IsFirstDiffering, IsNoneBefore, columns_cmp}
use Rattle.journal_verification.specs.Named.{IsNamed}
use Rattle.journal_verification.specs.Reading.{GivesBehind, GivesRest, HasBehind, HasNext, IsAt}
use Rattle.journal_verification.specs.Same.{HaveOther, IsAnsweredBy}
use Rattle.journal_verification.specs.Texts.{key_width, rows_text}

-- of two rows the earlier
pub second_earlier : (width : ℕ) (first second : Row) → (first ≡ second → ⊥) → columns_cmp width second first ≡ Less → IsEarlier width (Some first) (Some second) second
second_earlier width first second differ less =
    (λ same. differ (same_Some first second same), inr (refl, λ more. let k = sym more ∙ row_cmp_total.antisymm (take width first) (take width second) ∙ ap ordering_reverse less in absurd cc))

-- ---- in a whole answer

take_front : (before : List Row) (row : Row) (more : List Row) → take (length before) ((before ++ row ∷ []) ++ more) ≡ before
take_front [] row more = refl
take_front (x ∷ before) row more = ap (λ (l : List Row). x ∷ l) (take_front before row more)

got_front : (before : List Row) (row : Row) (more : List Row) → slice_get ((before ++ row ∷ []) ++ more) (length before) ≡ Some row
got_front [] row more = refl
got_front (x ∷ before) row more = got_front before row more

module _ {S : Type 0} (g : Ghosts S) (old : Held S) where
  pub rest_behind : (db : Database) (row : Row) → GivesRest g old db → GivesBehind g old (Some row) db
  rest_behind db row rest = λ sql before at.
      let it = rest sql (before ++ row ∷ []) at in
      record { rows = (before ++ row ∷ []) ++ it.0; answered = it.1; begins = take_front before row it.0; there = got_front before row it.0 }

  pub rest_ok : {X E : Type 0} (db : Database) (r : Result X E) (row : Row) (next : Option Row) → Some row ≡ next → OnOk r (GivesRest g old db) → OnOk r (GivesBehind g old next db)
  rest_ok db (Ok x) row next is rest = subst (λ n. GivesBehind g old n db) is (rest_behind db row rest)
  rest_ok db (Err e) row next is rest = tt

  pub end_behind : GivesBehind g old None (state g old).now
  end_behind = λ sql before answered. record { rows = before; answered = answered; begins = take_all (length before) before (omega arith); there = slice_get_past before (length before) (omega arith) }

module _ {S T : Type 0} (g : Ghosts S) (f : Ghosts T) (sql : List ℕ) (a b : Database) (before : List Row) (left right : Option Row) (h : HasBehind g sql a before left) (k : HasBehind f sql b before right) where
  first_differing : (width : ℕ) (row : Row) → IsEarlier width left right row → IsFirstDiffering width h.rows k.rows row
  first_differing width row (differ, inl (is, none)) = inl (record {
    at = length before;
    differ = record { before = h.begins ∙ sym k.begins; differ = λ same. differ (sym h.there ∙ same ∙ k.there) };
    there = h.there ∙ is;
    none = subst (IsNoneBefore width row) (sym k.there) none;
  })
  first_differing width row (differ, inr (is, none)) = inr (record {
    at = length before;
    differ = record { before = k.begins ∙ sym h.begins; differ = λ same. differ (sym h.there ∙ sym same ∙ k.there) };
    there = k.there ∙ is;
    none = subst (IsNoneBefore width row) (sym h.there) none;
  })

  -- two answers that go on by other rows
  pub have_other : (table : Table) → sql ≡ rows_text table → (d : Difference) (row : Row) → IsEarlier (key_width table) left right row → IsNamed table row d → HaveOther g f table a b d
  have_other table is d row earlier named =
      let differs = first_differing (key_width table) row earlier in
      record {
        left = h.rows;
        right = k.rows;
        in_first = subst (λ s. IsAnsweredBy g s a h.rows) is h.answered;
        in_second = subst (λ s. IsAnsweredBy f s b k.rows) is k.answered;
        row = row;
        differs = differs;
        named = named;
      }

module _ {S T : Type 0} (g : Ghosts S) (f : Ghosts T) (table : Table) where
  pub tells_other : (a b : Database) (before : List Row) (left right first second : Option Row) → first ≡ left → second ≡ right → HasBehind g (rows_text table) a before left → HasBehind f (rows_text table) b before right → (d : Difference)
      → (row : Row) × IsEarlier (key_width table) first second row × IsNamed table row d → HaveOther g f table a b d
  tells_other a b before left right first second is also h k d (row, earlier, named) =
      have_other g f (rows_text table) a b before left right h k table refl d row (subst (λ o. IsEarlier (key_width table) left o row) also (subst (λ o. IsEarlier (key_width table) o second row) is earlier)) named

  -- both have given the same row more
  pub both_came : (built : Held S) (office : Held T) (before : List Row) (row : Row) (next : Option Row) → Some row ≡ next → HasNext g (rows_text table) built before next × HasNext f (rows_text table) office before next
      → (given : List Row) × IsAt g (rows_text table) built given × IsAt f (rows_text table) office given
  both_came built office before row next is have =
      (before ++ row ∷ [], subst (HasNext g (rows_text table) built before) (sym is) have.0, subst (HasNext f (rows_text table) office before) (sym is) have.1)
