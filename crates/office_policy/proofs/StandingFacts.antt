-- The standing votes on a revision: there is one list of them.
use Rattle.std.proofs.Common.{inl, inr, ◌≡◌, ◌∙◌, ℕ, List, [], ◌∷◌, Some, None, Option, refl, sym, ap, subst}
use Rattle.std.specs.Prelude.{option_map, filter_map}
use Rattle.std.specs.List.{AllPairs, cons_option}
use Rattle.std.specs.List.Sorted.{IsStrictlySortedBy}
use Rattle.office_words.specs.declared.name.ProfileName.{ProfileName}
use Rattle.office_words.specs.declared.revision.VoteRow.{VoteRow}
use Rattle.office_words.specs.Tables.{Tables, Vote}
use Rattle.office_words.specs.Lists.{name_cmp, standing_vote, IsStanding, AreStanding}
use Rattle.office_words.proofs.Members.{Has, has_contained, contains_had}
use Rattle.office_words.proofs.Tallies.{AreVoters, standing_at}
use Rattle.office_policy.specs.History.{History}
use Rattle.office_policy.specs.Votes.{voters_of, standing_votes}
use Rattle.office_policy.specs.TablesOf.{tables_of}
use Rattle.office_policy.proofs.VoterFacts.{voters_ordered, are_voters}
use Rattle.office_policy.proofs.Rising.{IsRising, rising_pairs, pairs_rising, same_rising, NameBelow, names_rising, names_apart}

abbrev pub VoterBelow : VoteRow → VoteRow → Type 0
VoterBelow a b = NameBelow a.voter b.voter

module _ (t : Tables) (p : ProfileName) (number : ℕ) where
  -- two lists of the standing votes are one
  pub one_standing : (xs ys : List VoteRow) → AreStanding t p number xs → AreStanding t p number ys → xs ≡ ys
  one_standing xs ys a b =
      same_rising VoterBelow (λ (v w : VoteRow). names_apart v.voter w.voter) xs ys (rising_pairs VoterBelow xs a.rising) (rising_pairs VoterBelow ys b.rising)
      (λ row h. has_contained ys row (b.all row (a.each row (contains_had xs row h))))
      (λ row h. has_contained xs row (a.all row (b.each row (contains_had ys row h))))

  abbrev at : List ℕ → Option VoteRow
  at name = standing_at t p number name

  stands_at : (row : VoteRow) → IsStanding t p number row → at row.voter ≡ Some row
  stands_at row it = ap (option_map (λ v. standing_vote row.voter v (t.users row.voter))) it.there ∙ ap Some (sym it.stands)

  -- the standing vote of a name is of that voter
  row_voter : (name : List ℕ) (row : VoteRow) → at name ≡ Some row → row.voter ≡ name
  row_voter name row is = by_vote (t.votes p number name) is
    where
      by_vote : (v : Option Vote) → option_map (λ v. standing_vote name v (t.users name)) v ≡ Some row → row.voter ≡ name
      by_vote None is = absurd (cc)
      by_vote (Some v) is = let same : standing_vote name v (t.users name) ≡ row = cc in sym (ap (λ (r : VoteRow). r.voter) same)

  is_standing : (row : VoteRow) → at row.voter ≡ Some row → IsStanding t p number row
  is_standing row is = by_vote (t.votes p number row.voter) refl is
    where
      by_vote : (v : Option Vote) → t.votes p number row.voter ≡ v → option_map (λ v. standing_vote row.voter v (t.users row.voter)) v ≡ Some row
          → IsStanding t p number row
      by_vote None there is = absurd (cc)
      by_vote (Some v) there is = let same : standing_vote row.voter v (t.users row.voter) ≡ row = cc in record { vote = v; there = there; stands = sym same }

  -- the standing votes of these names
  abbrev pub rows_over : List (List ℕ) → List VoteRow
  rows_over names = filter_map at names

  record IsRowOf (names : List (List ℕ)) (row : VoteRow) : Type 0 where
    name : Has names row.voter
    stands : at row.voter ≡ Some row

  rows_have : (names : List (List ℕ)) (row : VoteRow) → Has (rows_over names) row → IsRowOf names row
  rows_have [] row h = absurd h
  rows_have (name ∷ names) row h = by_first (rows_have names row) (at name) refl h
    where
      later : IsRowOf names row → IsRowOf (name ∷ names) row
      later it = record { name = inr it.name; stands = it.stands }

      by_first : (Has (rows_over names) row → IsRowOf names row) → (o : Option VoteRow) → at name ≡ o
          → Has (cons_option o (rows_over names)) row → IsRowOf (name ∷ names) row
      by_first more None is h = later (more h)
      by_first more (Some r) is (inl same) =
          let here : at name ≡ Some row = is ∙ ap Some (sym same) in
          let voter = row_voter name row here in
          record { name = inl voter; stands = ap at voter ∙ here }
      by_first more (Some r) is (inr h) = later (more h)

  have_rows : (names : List (List ℕ)) (row : VoteRow) → Has names row.voter → at row.voter ≡ Some row → Has (rows_over names) row
  have_rows [] row h is = absurd h
  have_rows (name ∷ names) row (inl same) is = subst (λ o. Has (cons_option o (rows_over names)) row) (sym is ∙ ap at same) (inl refl)
  have_rows (name ∷ names) row (inr h) is = past (at name) (have_rows names row h is)
    where
      past : (o : Option VoteRow) → Has (rows_over names) row → Has (cons_option o (rows_over names)) row
      past None h = h
      past (Some r) h = inr h

  rows_rising : (names : List (List ℕ)) → IsRising NameBelow names → IsRising VoterBelow (rows_over names)
  rows_rising [] rising = tt
  rows_rising (name ∷ names) rising = by_first (rows_rising names rising.1) (at name) refl
    where
      by_first : IsRising VoterBelow (rows_over names) → (o : Option VoteRow) → at name ≡ o → IsRising VoterBelow (cons_option o (rows_over names))
      by_first more None is = more
      by_first more (Some r) is = (
        (λ row h. subst (λ v. NameBelow v row.voter) (sym (row_voter name r is)) (rising.0 row.voter (rows_have names row h).name)),
        more,
      )

  -- the standing votes of the voters, in order, are those of the revision
  pub rows_standing : (names : List (List ℕ)) → IsStrictlySortedBy name_cmp names → AreVoters t p number names → AreStanding t p number (rows_over names)
  rows_standing names sorted voters = record {
    rising = pairs_rising VoterBelow (rows_over names) (rows_rising names (names_rising names sorted));
    each = λ row c. is_standing row (rows_have names row (has_contained (rows_over names) row c)).stands;
    all = λ row it. contains_had (rows_over names) row (have_rows names row (voters.all row.voter it.vote it.there) (stands_at row it));
  }

-- ---- by looking back

pub are_standing : (h : History) (p : ProfileName) (n : ℕ) → AreStanding (tables_of h) p n (standing_votes h p n)
are_standing h p n = rows_standing (tables_of h) p n (voters_of h p n) (voters_ordered h p n) (are_voters h p n)

pub standing_is : (h : History) (p : ProfileName) (n : ℕ) (rows : List VoteRow) → AreStanding (tables_of h) p n rows → rows ≡ standing_votes h p n
standing_is h p n rows are = one_standing (tables_of h) p n rows (standing_votes h p n) are (are_standing h p n)

-- and they stand by voter, each voter once
pub by_voter : (h : History) (p : ProfileName) (n : ℕ) → AllPairs VoterBelow (standing_votes h p n)
by_voter h p n = (are_standing h p n).rising
