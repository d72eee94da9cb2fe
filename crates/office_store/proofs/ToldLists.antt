-- What is read of all rows that a query found.
use Rattle.std.proofs.Common.{inl, inr, ◌≡◌, ◌≢◌, ℕ, ◌<◌, ◌≤◌, ◌+◌, List, [], ◌∷◌, ◌++◌, map, take, get_or, length, Result, Ok, Err, IfOk, IfErr, Bool, true, false, Option, Some, None, refl, sym, ap, ◌∙◌, subst}
use Rattle.std.specs.List.{AllByRecursion}
use Rattle.std.proofs.lemmas.List.{take_more, take_all, map-append}
use Rattle.sqlite.specs.Order.{Row}
use Rattle.sqlite.specs.State.{State, Shown}
use Rattle.office_words.specs.declared.fault.Fault.{Fault}
use Rattle.office_words.specs.declared.fault.Fault.TheVariants.{NotAnOffice}
use Rattle.office_rows.specs.Rows.{IsFaultOf}
use Rattle.office_rows.specs.Told.{IsOfRow, IsUnread, IsTold, TellsAll, FindsRows, map_ok}
use Rattle.office_words.specs.declared.listed.ListedRevision.{ListedRevision}
use Rattle.office_words.specs.declared.listed.ProfileRevision.{ProfileRevision}
use Rattle.office_store.specs.Entries.{state_number, bit}
use Rattle.office_words.specs.Role.{has_role}
use Rattle.office_words.specs.declared.role.Role.TheVariants.{Reviewer, Security}
use Rattle.office_words.specs.declared.revision.VoteRow.{VoteRow}
use Rattle.office_words.specs.declared.listed.Tally.{Tally}
use Rattle.office_words.specs.declared.row.UserRow.{UserRow}
use Rattle.office_words.specs.Lists.{holds_role, tally_of}
use Rattle.office_store.specs.declared.numbers.Numbered.{Numbered}
use Rattle.office_store.specs.Numbered.{numbered_row}
use Rattle.office_store.specs.Lists.{number_row, name_row, listed_row, told_row, Cast, roles_of, cast_row, standing_of, IsCastForm, IsCastAs, AreCastAs, TellsVotes, TellsTally}
use Rattle.office_store.proofs.Profiles.{numbered_as}
use Rattle.std.specs.Prelude.{ℤ, pos, ◌&&◌}
use Rattle.std.specs.Ordering.{int_eq}

-- ---- a loop that reads each row

pub one_more_read : {X : Type 0} (f : X → Row) (rows : List Row) (i : ℕ) (row : Row) (xs : List X) (x : X) → i < length rows → row ≡ get_or rows i row → row ≡ f x → take i rows ≡ map f xs
    → take (i + 1) rows ≡ map f (xs ++ x ∷ [])
one_more_read f rows i row xs x below at is so_far = take_more rows i row below ∙ (λ k. so_far k ++ (sym at ∙ is) k ∷ []) ∙ sym (map-append f xs (x ∷ []))

pub all_read : {X : Type 0} (f : X → Row) (rows : List Row) (i : ℕ) (xs : List X) → length rows ≤ i → take i rows ≡ map f xs → rows ≡ map f xs
all_read f rows i xs past so_far = sym (take_all i rows past) ∙ so_far

-- ---- what a query of all its rows found

pub rows_found : {V : Type 0} (rows_of : V → List Row) (sql : List ℕ) (given params : Row) (old new : State) (r : Result V Fault) → IfOk r (λ v. Shown sql given old new (rows_of v))
    → IfErr r (IsFaultOf sql given old new) → given ≡ params → FindsRows sql params old new (map_ok r rows_of)
rows_found rows_of sql given params old new (Ok v) shown fault are = subst (λ (p : Row). Shown sql p old new (rows_of v)) are shown
rows_found rows_of sql given params old new (Err f) shown fault are = subst (λ (p : Row). IsFaultOf sql p old new f) are fault

-- ---- what is told of them

module _ {V W Y : Type 0} (Tells : List Row → Result (List Y) Fault → Type 0) (rows_of : V → List Row) (items_of : W → List Y) (found : Result V Fault) where
  pub all_failed : (r : Result W Fault) (f : Fault) → found ≡ Err f → r ≡ Err f → IsTold Tells (map_ok found rows_of) (map_ok r items_of)
  all_failed r f is same = subst (λ (o : Result V Fault). IsTold Tells (map_ok o rows_of) (map_ok r items_of)) (sym is) (ap (λ (o : Result W Fault). map_ok o items_of) same)

  pub all_told : (v : V) → found ≡ Ok v → (rows : List Row) → rows ≡ rows_of v → (r : Result W Fault) → Tells rows (map_ok r items_of) → IsTold Tells (map_ok found rows_of) (map_ok r items_of)
  all_told v is rows are r tells =
      subst (λ (o : Result V Fault). IsTold Tells (map_ok o rows_of) (map_ok r items_of)) (sym is) (subst (λ (l : List Row). Tells l (map_ok r items_of)) are tells)

unread_all : {X A : Type 0} (encode : X → Row) (IsFormed : X → Type 0) (rows : List Row) (f : Fault)
    → ((xs : List X) → rows ≡ map encode xs → AllByRecursion IsFormed xs → ◌≢◌ {A = Result A Fault} (Err f) (Err NotAnOffice)) → IsOfRow f → IsUnread (map encode) (AllByRecursion IsFormed) rows f
unread_all encode IsFormed rows f formed (inl memory) = inl memory
unread_all encode IsFormed rows f formed (inr named) = inr (named, λ xs all is. formed xs is all (ap Err named))

pub tells_all : {W X : Type 0} (items_of : W → List X) (encode : X → Row) (IsFormed : X → Type 0) (rows : List Row) (r : Result W Fault) → IfOk r (λ w. rows ≡ map encode (items_of w))
    → ((xs : List X) → rows ≡ map encode xs → AllByRecursion IsFormed xs → r ≢ Err NotAnOffice) → IfErr r IsOfRow → TellsAll encode IsFormed rows (map_ok r items_of)
tells_all items_of encode IsFormed rows (Ok w) read formed cause = read
tells_all items_of encode IsFormed rows (Err f) read formed cause = unread_all encode IsFormed rows f formed cause

pub same_name_row : (a b : List ℕ) → name_row a ≡ name_row b → a ≡ b
same_name_row a b same = let k : a ≡ b = cc in k

pub same_number_row : (a b : ℕ) → number_row a ≡ number_row b → a ≡ b
same_number_row a b same = let k : a ≡ b = cc in k

pub same_listed_row : (a b : ListedRevision) → listed_row a ≡ listed_row b → a ≡ b
same_listed_row a b same =
    let profile : a.profile ≡ b.profile = cc in
    let number : a.number ≡ b.number = cc in
    let numbers : state_number a.state ≡ state_number b.state = cc in
    let state = numbered_as a.state b.state numbers in
    λ i. record { profile = profile i; number = number i; state = state i }

pub same_numbered_row : (a b : Numbered) → numbered_row a ≡ numbered_row b → a ≡ b
same_numbered_row a b same =
    let number : a.number ≡ b.number = cc in
    let numbers : state_number a.state ≡ state_number b.state = cc in
    let state = numbered_as a.state b.state numbers in
    λ i. record { number = number i; state = state i }

pub same_told_row : (a b : ProfileRevision) → told_row a ≡ told_row b → a ≡ b
same_told_row a b same =
    let revision : a.revision ≡ b.revision = cc in
    let numbers : state_number a.state ≡ state_number b.state = cc in
    let state = numbered_as a.state b.state numbers in
    let digest : a.digest ≡ b.digest = cc in
    let by : a.by ≡ b.by = cc in
    λ i. record { revision = revision i; state = state i; digest = digest i; by = by i }

-- ---- votes, one for each row

pub one_more_cast : (rows : List Row) (i : ℕ) (row : Row) (votes : List VoteRow) (vote : VoteRow) → i < length rows → row ≡ get_or rows i row → IsCastAs row vote
    → AreCastAs (take i rows) votes → AreCastAs (take (i + 1) rows) (votes ++ vote ∷ [])
one_more_cast rows i row votes vote below at it so_far = record {
  cast = so_far.cast ++ it.cast ∷ [];
  rows_are = one_more_read cast_row rows i row so_far.cast it.cast below at it.row_is so_far.rows_are;
  stand = (λ k. so_far.stand k ++ it.stands k ∷ []) ∙ sym (map-append standing_of so_far.cast (it.cast ∷ []));
}

pub all_cast : (rows : List Row) (i : ℕ) (votes : List VoteRow) → length rows ≤ i → AreCastAs (take i rows) votes → AreCastAs rows votes
all_cast rows i votes past so_far = subst (λ (l : List Row). AreCastAs l votes) (take_all i rows past) so_far

abbrev is_one : ℤ → Bool
is_one z = int_eq z (pos 1)

one_of : (b : Bool) → is_one (bit b) ≡ b
one_of true = refl
one_of false = refl

same_bit : (a b : Bool) → bit a ≡ bit b → a ≡ b
same_bit a b is = sym (one_of a) ∙ ap is_one is ∙ one_of b

reviewer_by : (user : Option UserRow) → holds_role user Reviewer ≡ has_role (roles_of user) Reviewer
reviewer_by None = refl
reviewer_by (Some u) = refl

security_by : (user : Option UserRow) → holds_role user Security ≡ has_role (roles_of user) Security
security_by None = refl
security_by (Some u) = refl

-- how a vote stands is told by its row
same_standing : (a b : Cast) → cast_row a ≡ cast_row b → standing_of a ≡ standing_of b
same_standing a b same =
    let voter : a.voter ≡ b.voter = cc in
    let approves : bit a.vote.approves ≡ bit b.vote.approves = cc in
    let had : bit a.vote.security ≡ bit b.vote.security = cc in
    let roles : roles_of a.user ≡ roles_of b.user = cc in
    let approve = same_bit a.vote.approves b.vote.approves approves in
    let security = same_bit a.vote.security b.vote.security had in
    let counts = reviewer_by a.user ∙ ap (λ n. has_role n Reviewer) roles ∙ sym (reviewer_by b.user) in
    let secure = security_by a.user ∙ ap (λ n. has_role n Security) roles ∙ sym (security_by b.user) in
    λ i. record { voter = voter i; approve = approve i; security = counts i && security i && secure i; counts = counts i }

pub same_standings : (a b : List Cast) → map cast_row a ≡ map cast_row b → map standing_of a ≡ map standing_of b
same_standings [] [] same = refl
same_standings [] (y ∷ ys) same = absurd cc
same_standings (x ∷ xs) [] same = absurd cc
same_standings (x ∷ xs) (y ∷ ys) same =
    let first : cast_row x ≡ cast_row y = cc in
    let rest : map cast_row xs ≡ map cast_row ys = cc in
    λ i. same_standing x y first i ∷ same_standings xs ys rest i

pub tells_votes : {W : Type 0} (items_of : W → List VoteRow) (rows : List Row) (r : Result W Fault) → IfOk r (λ w. AreCastAs rows (items_of w))
    → ((cast : List Cast) → rows ≡ map cast_row cast → AllByRecursion IsCastForm cast → r ≢ Err NotAnOffice) → IfErr r IsOfRow → TellsVotes rows (map_ok r items_of)
tells_votes items_of rows (Ok w) read formed cause = read
tells_votes items_of rows (Err f) read formed cause = unread_all cast_row IsCastForm rows f formed cause

abbrev pub TalliesAs : Result (List VoteRow) Fault → Result Tally Fault → Type 0
TalliesAs (Ok votes) (Ok tally) = tally ≡ tally_of votes
TalliesAs (Err f) (Err e) = e ≡ f
TalliesAs _ _ = ⊥

pub tally_told : (rows : Result (List Row) Fault) (votes : Result (List VoteRow) Fault) (r : Result Tally Fault) → IsTold TellsVotes rows votes → TalliesAs votes r → IsTold TellsTally rows r
tally_told (Ok rows) (Ok votes) (Ok tally) told is = (votes, told, is)
tally_told (Ok rows) (Ok votes) (Err f) told is = absurd is
tally_told (Ok rows) (Err f) (Ok tally) told is = absurd is
tally_told (Ok rows) (Err f) (Err e) told is = subst (IsUnread (map cast_row) (AllByRecursion IsCastForm) rows) (sym is) told
tally_told (Err e) (Ok votes) r told is = absurd cc
tally_told (Err e) (Err f) (Ok tally) told is = absurd is
tally_told (Err e) (Err f) (Err d) told is = let same : f ≡ e = cc in ap Err (is ∙ same)

pub tallies_failed : {W : Type 0} (items_of : W → List VoteRow) (votes : Result W Fault) (r : Result Tally Fault) (f : Fault) → votes ≡ Err f → r ≡ Err f → TalliesAs (map_ok votes items_of) r
tallies_failed {W} items_of votes r f is same =
    subst (λ (o : Result W Fault). TalliesAs (map_ok o items_of) r) (sym is) (subst (λ (o : Result Tally Fault). TalliesAs (Err f) o) (sym same) refl)
