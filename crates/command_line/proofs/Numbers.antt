-- What `get_one` says of the rows of a parse, where it reads a number of k bits.
use Rattle.std.proofs.Common.{◌≡◌, ◌≢◌, ◌<◌, ◌≤◌, ◌^◌, ◌∙◌, ℕ, Option, Some, None, refl, sym, ap, subst, arith}
use Rattle.std.specs.Prelude.{IfNone, IfSome, Result, unwrap_or}
use Rattle.std.specs.Str.Parse.{ExplainsUnsignedError, HasUnsignedDigitsIfOk, ParsesUnsigned}
use Rattle.std.specs.declared.num.ParseIntError.{ParseIntError}
use Rattle.clap.specs.Words.{ReadsOne, Text, one_of, one_text, rows_of}
use Rattle.clap.proofs.WalkLemmas.{one_text-rows}
use Rattle.clap.specs.declared.parser.matches.Found.{Found}
use Rattle.command_line.specs.Meaning.{IsNumberIn}
use Rattle.command_line.specs.Refusals.{NoNumberIn}

-- what the text is read as
abbrev Gives : ℕ → Text → Result ℕ ParseIntError → Type 0
Gives k text r = ParsesUnsigned k 10 text r × ExplainsUnsignedError 10 text r × HasUnsignedDigitsIfOk text r

-- what `get_one` gives where it has this text, or none
abbrev IsRead : ℕ → Option Text → Option ℕ → Type 0
IsRead k text r = (t : Text) → text ≡ Some t → ReadsOne (Gives k) t r

-- a number that it gives within the limits
pub number_is : (k low high n : ℕ) (f : Found) (id : Text) (r : Option ℕ) → (one_text f id ≡ None → r ≡ None) → IsRead k (one_text f id) r
    → r ≡ Some n → (n < 2 ^ k → (low ≤ n) × (n ≤ high)) → high < 2 ^ 64 → IsNumberIn low high n (one_of id (rows_of f))
number_is k low high n f id r none read is within fits =
    subst (λ (o : Option Text). IsNumberIn low high n o) (one_text-rows f id) (go (one_text f id) none read)
  where
    go : (o : Option Text) → (o ≡ None → r ≡ None) → IsRead k o r → IsNumberIn low high n o
    go None none read =
        let bad : None ≡ Some n = sym (none refl) ∙ is in
        cc
    go (Some t) none read =
        let given : ReadsOne (Gives k) t (Some n) = subst (λ (q : Option ℕ). ReadsOne (Gives k) t q) is (read t refl) in
        let limits = within (omega (arith, given.0.0.1, given.0.1)) in (
          (given.0.0.0, omega (arith, given.0.1, limits.1), omega (arith, given.0.1, limits.0), omega (arith, given.0.1, limits.1)),
          given.0.1,
        )

-- the text writes no number within the limits where it gives none within them
pub no_number : (k low high : ℕ) (f : Found) (id : Text) (r : Option ℕ) → IsRead k (one_text f id) r
    → high < 2 ^ k → ((n : ℕ) → low ≤ n → n ≤ high → r ≢ Some n) → NoNumberIn low high (one_of id (rows_of f))
no_number k low high f id r read fits other =
    subst (λ (o : Option Text). NoNumberIn low high o) (one_text-rows f id) (go (one_text f id) read)
  where
    gives : (t : Text) (n : ℕ) → IsNumberIn low high n (Some t) → (q : Option ℕ) → ReadsOne (Gives k) t q → q ≡ Some n
    gives t n h None g = absurd (g.1.0 (h.0.0, omega (arith, h.0.3)))
    gives t n h (Some m) g = ap Some (g.0.1 ∙ sym h.1)

    go : (o : Option Text) → IsRead k o r → NoNumberIn low high o
    go None read n h = h
    go (Some t) read n h = other n (omega (arith, h.0.2, h.1)) (omega (arith, h.0.3, h.1)) (gives t n h r (read t refl))

-- what holds of the number that it gave
pub where_some : (r : Option ℕ) (P : ℕ → Type 0) → ((n : ℕ) → r ≡ Some n → P n) → IfSome r P
where_some None P holds = tt
where_some (Some n) P holds = holds n refl

-- and where it gave none
pub where_none : (r : Option ℕ) (P : Type 0) → (r ≡ None → P) → IfNone r P
where_none None P holds = holds refl
where_none (Some n) P holds = tt

pub none_is_given : (r : Option ℕ) → r ≡ None → (n : ℕ) → r ≢ Some n
none_is_given r none n is =
    let bad : None ≡ Some n = sym none ∙ is in
    cc

pub one_is_given : (m n : ℕ) (r : Option ℕ) → r ≡ Some m → r ≡ Some n → m ≡ n
one_is_given m n r is also = ap (λ o. unwrap_or o m) (sym is ∙ also)
