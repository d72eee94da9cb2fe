-- The revisions of a profile, the newest first, are just its submissions.
use Rattle.std.proofs.Common.{◌⊎◌, inl, inr, ◌≡◌, ◌≢◌, ◌∙◌, ◌<◌, ◌≤◌, ◌==◌, ◌&&◌, ℕ, suc, List, [], ◌∷◌, Bool, true, false, cond, Some, None, Option, refl, sym, ap, subst, arith, eq-eqb, eqb-true}
use Rattle.std.specs.Prelude.{filter, find, nat_lt, option_map}
use Rattle.std.proofs.lemmas.Bool.{lt-ltb, ltb-true}
use Rattle.office_words.specs.declared.name.ProfileName.{ProfileName}
use Rattle.office_words.specs.Limits.{max_revisions}
use Rattle.office_words.specs.declared.row.RevisionRow.{RevisionRow}
use Rattle.office_words.specs.Lists.{AreBelow}
use Rattle.office_words.specs.Tables.{is_profile}
use Rattle.office_words.proofs.Members.{Has, has_contained, contains_had}
use Rattle.office_policy.specs.History.{Event, submitted, History}
use Rattle.office_policy.specs.Revisions.{Submission, submission_of, revision_of, revision_count}
use Rattle.office_policy.specs.Newest.{revisions_among, revisions_of, is_before, revisions_before}
use Rattle.office_policy.specs.Lawful.{IsLawfulHistory}
use Rattle.office_policy.specs.TablesOf.{tables_of}
use Rattle.office_policy.proofs.RevisionFacts.{within_last}
use Rattle.office_policy.proofs.StateFacts.{row_at}
use Rattle.office_policy.proofs.Histories.{submissions_kept}
use Rattle.office_policy.proofs.Rising.{IsRising, rising_pairs, pairs_rising, same_rising}
use Rattle.office_policy.proofs.Numbered.{count_limited}

-- ---- lists of what passes a test

module _ {X : Type 0} (test : X → Bool) where
  filtered : (xs : List X) (x : X) → Has (filter test xs) x → Has xs x × (test x ≡ true)
  filtered [] x h = absurd h
  filtered (y ∷ ys) x h =
      elim (test y) as (λ b. test y ≡ b → Has (cond b (y ∷ filter test ys) (filter test ys)) x → ((x ≡ y) ⊎ Has ys x) × (test x ≡ true)) [
        | true ↦ λ passes h. here passes (filtered ys x) h
        | false ↦ λ other h. let it = filtered ys x h in (inr it.0, it.1)
      ] refl h
    where
      here : test y ≡ true → (Has (filter test ys) x → Has ys x × (test x ≡ true)) → (x ≡ y) ⊎ Has (filter test ys) x → ((x ≡ y) ⊎ Has ys x) × (test x ≡ true)
      here passes rest (inl is) = (inl is, ap test is ∙ passes)
      here passes rest (inr more) = let it = rest more in (inr it.0, it.1)

  kept : (xs : List X) (x : X) → Has xs x → test x ≡ true → Has (filter test xs) x
  kept [] x h passes = absurd h
  kept (y ∷ ys) x h passes =
      elim (test y) as (λ b. test y ≡ b → Has (cond b (y ∷ filter test ys) (filter test ys)) x) [
        | true ↦ λ passing. here (λ more. kept ys x more passes) h
        | false ↦ λ other. there (λ more. kept ys x more passes) other h
      ] refl
    where
      here : (Has ys x → Has (filter test ys) x) → (x ≡ y) ⊎ Has ys x → (x ≡ y) ⊎ Has (filter test ys) x
      here rest (inl is) = inl is
      here rest (inr more) = inr (rest more)

      there : (Has ys x → Has (filter test ys) x) → test y ≡ false → (x ≡ y) ⊎ Has ys x → Has (filter test ys) x
      there rest other (inl is) = let e = sym passes ∙ ap test is ∙ other in absurd (cc)
      there rest other (inr more) = rest more

  rising_filter : (Below : X → X → Type 0) (xs : List X) → IsRising Below xs → IsRising Below (filter test xs)
  rising_filter Below [] rising = tt
  rising_filter Below (y ∷ ys) rising =
      elim (test y) as (λ b. IsRising Below (cond b (y ∷ filter test ys) (filter test ys))) [
        | true ↦ ((λ x h. rising.0 x (filtered ys x h).0), rising_filter Below ys rising.1)
        | false ↦ rising_filter Below ys rising.1
      ]

-- tests that say the same of each of a list keep the same
filter_same : {X : Type 0} (f g : X → Bool) (xs : List X) → ((x : X) → Has xs x → f x ≡ g x) → filter f xs ≡ filter g xs
filter_same f g [] same = refl
filter_same f g (x ∷ xs) same =
    let rest = filter_same f g xs (λ y h. same y (inr h)) in
    λ i. cond (same x (inl refl) i) (x ∷ rest i) (rest i)

there : (o : Option Submission) (s : Submission) → o ≡ Some s → o ≢ None
there o s e none = cc

row_of_some : {X Y : Type 0} (f : X → Y) (o : Option X) (y : Y) → option_map f o ≡ Some y → (x : X) × (o ≡ Some x) × (f x ≡ y)
row_of_some f None y at = absurd (cc)
row_of_some f (Some x) y at = (x, refl, cc)

-- ---- the submissions of a profile

abbrev pub IsNewer : RevisionRow → RevisionRow → Type 0
IsNewer a b = b.number < a.number

module _ (h : History) (p : ProfileName) where
  -- the row of a submission
  abbrev row : ℕ → Submission → RevisionRow
  row n s = row_at h p n (revision_count h p) s

  -- the row of one of the submissions among these events
  record IsOne (g : History) (r : RevisionRow) : Type 0 where
    submission : Submission
    at : submission_of g p r.number ≡ Some submission
    is : r ≡ row r.number submission

  each_among : (g : History) (r : RevisionRow) → Has (revisions_among h g p) r → IsOne g r
  each_among [] r has = absurd has
  each_among (submitted c q t ∷ g) r has =
      elim (is_profile p q) as (λ b. is_profile p q ≡ b → Has (cond b (row (suc (revision_count g p)) (record { author = c; text = t }) ∷ revisions_among h g p) (revisions_among h g p)) r → IsOne (submitted c q t ∷ g) r) [
        | true ↦ λ own has. newest (each_among g r) own has
        | false ↦ λ other has. older (each_among g r has)
      ] refl has
    where
      older : IsOne g r → IsOne (submitted c q t ∷ g) r
      older it = record { submission = it.submission; at = submissions_kept g (submitted c q t) p r.number it.submission it.at; is = it.is }

      newest : (Has (revisions_among h g p) r → IsOne g r) → is_profile p q ≡ true → (r ≡ row (suc (revision_count g p)) (record { author = c; text = t })) ⊎ Has (revisions_among h g p) r → IsOne (submitted c q t ∷ g) r
      newest rest own (inl is) =
          subst (IsOne (submitted c q t ∷ g)) (sym is)
          (record { submission = record { author = c; text = t }; at = rw (own, eq-eqb (suc (revision_count g p)) (suc (revision_count g p)) refl) refl; is = refl })
      newest rest own (inr has) = older (rest has)
  each_among (_ ∷ g) r has = let it = each_among g r has in record { submission = it.submission; at = it.at; is = it.is }

  all_among : (g : History) (n : ℕ) (s : Submission) → submission_of g p n ≡ Some s → Has (revisions_among h g p) (row n s)
  all_among [] n s at = absurd (cc)
  all_among (submitted c q t ∷ g) n s at =
      elim (is_profile p q) as (λ b. cond (b && (n == suc (revision_count g p))) (Some (record { author = c; text = t })) (submission_of g p n) ≡ Some s
      → Has (cond b (row (suc (revision_count g p)) (record { author = c; text = t }) ∷ revisions_among h g p) (revisions_among h g p)) (row n s)) [
        | true ↦ λ at. elim (n == suc (revision_count g p)) as (λ b. (n == suc (revision_count g p)) ≡ b → cond b (Some (record { author = c; text = t })) (submission_of g p n) ≡ Some s
            → (row n s ≡ row (suc (revision_count g p)) (record { author = c; text = t })) ⊎ Has (revisions_among h g p) (row n s)) [
              | true ↦ λ last at.
                  let number = eqb-true n (suc (revision_count g p)) last in
                  let same : ◌≡◌ {A = Submission} (record { author = c; text = t }) s = cc in
                  inl (λ i. row (number i) (sym same i))
              | false ↦ λ earlier at. inr (all_among g n s at)
            ] refl at
        | false ↦ λ at. all_among g n s at
      ] at
  all_among (_ ∷ g) n s at = all_among g n s at

  falling_among : (g : History) → IsRising IsNewer (revisions_among h g p)
  falling_among [] = tt
  falling_among (submitted c q t ∷ g) =
      elim (is_profile p q) as (λ b. IsRising IsNewer (cond b (row (suc (revision_count g p)) (record { author = c; text = t }) ∷ revisions_among h g p) (revisions_among h g p))) [
        | true ↦ ((λ r has. let it = each_among g r has in let within = within_last g p r.number (there (submission_of g p r.number) it.submission it.at) in omega (arith, within)), falling_among g)
        | false ↦ falling_among g
      ]
  falling_among (_ ∷ g) = falling_among g

  found_among : (g : History) (n : ℕ) → find (λ r. n == r.number) (revisions_among h g p) ≡ option_map (row n) (submission_of g p n)
  found_among [] n = refl
  found_among (submitted c q t ∷ g) n =
      elim (is_profile p q) as (λ b. find (λ r. n == r.number) (cond b (row (suc (revision_count g p)) (record { author = c; text = t }) ∷ revisions_among h g p) (revisions_among h g p))
      ≡ option_map (row n) (cond (b && (n == suc (revision_count g p))) (Some (record { author = c; text = t })) (submission_of g p n))) [
        | true ↦ elim (n == suc (revision_count g p)) as (λ b. (n == suc (revision_count g p)) ≡ b → cond b (Some (row (suc (revision_count g p)) (record { author = c; text = t }))) (find (λ r. n == r.number) (revisions_among h g p))
            ≡ option_map (row n) (cond b (Some (record { author = c; text = t })) (submission_of g p n))) [
              | true ↦ λ last. ap (λ m. Some (row m (record { author = c; text = t }))) (sym (eqb-true n (suc (revision_count g p)) last))
              | false ↦ λ earlier. found_among g n
            ] refl
        | false ↦ found_among g n
      ]
  found_among (_ ∷ g) n = found_among g n

-- ---- the revisions of a history

pub all_falling : (h : History) (p : ProfileName) → IsRising IsNewer (revisions_of h p)
all_falling h p = falling_among h p h

pub found_by_number : (h : History) (p : ProfileName) (n : ℕ) → find (λ r. n == r.number) (revisions_of h p) ≡ revision_of h p n
found_by_number h p n = found_among h p h n

not_both : (a b : RevisionRow) → IsNewer a b → IsNewer b a → ⊥
not_both a b one other = absurd (omega (arith, one, other))

-- what the tables have below a number is what looking back finds there
pub below_is : (h : History) (p : ProfileName) (n : ℕ) (rows : List RevisionRow) → AreBelow (tables_of h) p n rows → rows ≡ revisions_before h p (Some n)
below_is h p n rows are = same_rising IsNewer not_both rows (revisions_before h p (Some n)) (rising_pairs IsNewer rows are.falling) (rising_filter (is_before (Some n)) IsNewer (revisions_of h p) (all_falling h p)) to from
  where
    to : (r : RevisionRow) → Has rows r → Has (revisions_before h p (Some n)) r
    to r has =
        let it = are.each r (contains_had rows r has) in
        let s = row_of_some (row h p r.number) (submission_of h p r.number) r it.0 in
        kept (is_before (Some n)) (revisions_of h p) r (subst (Has (revisions_of h p)) s.2 (all_among h p h r.number s.0 s.1)) (lt-ltb r.number n it.1)

    from : (r : RevisionRow) → Has (revisions_before h p (Some n)) r → Has rows r
    from r has =
        let it = filtered (is_before (Some n)) (revisions_of h p) r has in
        let one = each_among h p h r it.0 in
        has_contained rows r (are.all r (ap (option_map (row h p r.number)) one.at ∙ ap Some (sym one.is)) (ltb-true r.number n it.1))

-- each revision of a lawful history has a number that one can have
pub all_below : (h : History) → IsLawfulHistory h → (p : ProfileName) → revisions_before h p (Some (suc max_revisions)) ≡ revisions_before h p None
all_below h lawful p = filter_same (is_before (Some (suc max_revisions))) (is_before None) (revisions_of h p) (λ r has.
    let one = each_among h p h r has in
    let within = within_last h p r.number (there (submission_of h p r.number) one.submission one.at) in
    let limit = count_limited h lawful p in
    lt-ltb r.number (suc max_revisions) (omega (arith, within, limit)))
