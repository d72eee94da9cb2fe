-- The tally of a revision, counted over any list of its voters.
use Rattle.std.proofs.Common.{inl, inr, ◌≡◌, ℕ, suc, List, [], ◌∷◌, map, length, Bool, true, false, cond, Option, Some, None, Less, Equal, refl, sym, ap, subst, ◌∙◌, arith}
use Rattle.std.specs.Prelude.{◌&&◌, not, filter, option_map}
use Rattle.std.specs.List.{AllPairs}
use Rattle.std.proofs.lemmas.Cmp.{nat_list_cmp_total, tied_itself}
use Rattle.std.proofs.lemmas.List.Sums.{length-filter}
use Rattle.std.specs.List.Sorted.{IsPermutation}
use Rattle.std.proofs.lemmas.List.Sorted.{sum_by-IsPermutation}
use Rattle.office_words.specs.declared.name.ProfileName.{ProfileName}
use Rattle.office_words.specs.declared.revision.VoteRow.{VoteRow}
use Rattle.office_words.specs.declared.listed.Tally.{Tally}
use Rattle.office_words.specs.Tables.{Tables, Vote}
use Rattle.office_words.specs.Lists.{name_cmp, standing_vote, IsStanding, AreStanding, IsTally}
use Rattle.office_words.proofs.Members.{Has, AreOnce, place_of, has_contained, contains_had, same_members}

-- whether there is a vote that passes
abbrev pub passes : (VoteRow → Bool) → Option VoteRow → Bool
passes test None = false
passes test (Some row) = test row

module _ (t : Tables) (p : ProfileName) (number : ℕ) where
  -- the standing vote of a name
  abbrev pub standing_at : List ℕ → Option VoteRow
  standing_at name = option_map (λ v. standing_vote name v (t.users name)) (t.votes p number name)

  -- how many of these names have a standing vote that passes
  abbrev pub voters_who : (VoteRow → Bool) → List (List ℕ) → ℕ
  voters_who test names = length (filter (λ name. passes test (standing_at name)) names)

  abbrev pub tally_over : List (List ℕ) → Tally
  tally_over names = record {
    approvals = voters_who (λ row. row.counts && row.approve) names;
    secure = voters_who (λ row. row.approve && row.security) names;
    rejections = voters_who (λ row. row.counts && not row.approve) names;
  }

  -- the names that have a vote on the revision, each once
  pub record AreVoters (names : List (List ℕ)) : Type 0 where
    pub once : AreOnce names
    pub each : (name : List ℕ) → Has names name → (v : Vote) × (t.votes p number name ≡ Some v)
    pub all : (name : List ℕ) (v : Vote) → t.votes p number name ≡ Some v → Has names name

  stands_at : (row : VoteRow) → IsStanding t p number row → standing_at row.voter ≡ Some row
  stands_at row it = ap (option_map (λ v. standing_vote row.voter v (t.users row.voter))) it.there ∙ ap Some (sym it.stands)

  abbrev voters : List VoteRow → List (List ℕ)
  voters = map (λ (row : VoteRow). row.voter)

  counted_over : (test : VoteRow → Bool) (rows : List VoteRow) → ((row : VoteRow) → Has rows row → IsStanding t p number row) → length (filter test rows) ≡ voters_who test (voters rows)
  counted_over test [] all = refl
  counted_over test (row ∷ rows) all = go (test row) (passes test (standing_at row.voter)) (sym (ap (passes test) (stands_at row (all row (inl refl))))) (counted_over test rows (λ r h. all r (inr h)))
    where
      later : List (List ℕ)
      later = filter (λ name. passes test (standing_at name)) (voters rows)

      go : (a b : Bool) → a ≡ b → length (filter test rows) ≡ length later → length (cond a (row ∷ filter test rows) (filter test rows)) ≡ length (cond b (row.voter ∷ later) later)
      go true true e more = ap suc more
      go false false e more = more
      go true false e more = absurd cc
      go false true e more = absurd cc

  has_voter : (rows : List VoteRow) (name : List ℕ) → Has (voters rows) name → (row : VoteRow) × Has rows row × (name ≡ row.voter)
  has_voter [] name none = absurd none
  has_voter (row ∷ rows) name (inl is) = (row, inl refl, is)
  has_voter (row ∷ rows) name (inr more) = let it = has_voter rows name more in (it.0, inr it.1, it.2)

  voter_has : (rows : List VoteRow) (row : VoteRow) → Has rows row → Has (voters rows) row.voter
  voter_has [] row none = none
  voter_has (r ∷ rows) row (inl is) = inl (ap (λ (x : VoteRow). x.voter) is)
  voter_has (r ∷ rows) row (inr more) = inr (voter_has rows row more)

  once_voters : (rows : List VoteRow) → AllPairs (λ (a b : VoteRow). name_cmp a.voter b.voter ≡ Less) rows → AreOnce (voters rows)
  once_voters [] rising = tt
  once_voters (row ∷ rows) rising = (
    (λ h.
        let it = has_voter rows row.voter h in
        let place = place_of rows it.0 it.1 in
        let less = rising 0 (suc place.0) row (omega arith) (omega arith) in
        let same : name_cmp row.voter row.voter ≡ Less = subst (λ v. name_cmp row.voter v ≡ Less) (ap (λ (x : VoteRow). x.voter) (place.2 row) ∙ sym it.2) less in
        let apart : Less ≡ Equal = sym same ∙ tied_itself nat_list_cmp_total row.voter in
        absurd cc),
    once_voters rows (λ i j d before below. rising (suc i) (suc j) d (omega arith) (omega arith)),
  )

  voters_of : (rows : List VoteRow) → AreStanding t p number rows → AreVoters (voters rows)
  voters_of rows standing = record {
    once = once_voters rows standing.rising;
    each = λ name h.
        let it = has_voter rows name h in
        let row = standing.each it.0 (contains_had rows it.0 it.1) in
        (row.vote, subst (λ v. t.votes p number v ≡ Some row.vote) (sym it.2) row.there);
    all = λ name v there.
        let row = standing_vote name v (t.users name) in
        voter_has rows row (has_contained rows row (standing.all row (record { vote = v; there = there; stands = refl })));
  }

  same_voters : (xs ys : List (List ℕ)) → AreVoters xs → AreVoters ys → IsPermutation xs ys
  same_voters xs ys p q =
      same_members xs ys p.once q.once (λ z h. let v = p.each z h in q.all z v.0 v.1) (λ z h. let v = q.each z h in p.all z v.0 v.1)

  same_count : (test : VoteRow → Bool) (xs ys : List (List ℕ)) → IsPermutation xs ys → voters_who test xs ≡ voters_who test ys
  same_count test xs ys same =
      length-filter (λ name. passes test (standing_at name)) xs
      ∙ sym (sum_by-IsPermutation (λ name. cond (passes test (standing_at name)) 1 0) xs ys same)
      ∙ sym (length-filter (λ name. passes test (standing_at name)) ys)

  -- the tally of a revision is counted over any list of its voters
  pub tallied : (tally : Tally) → IsTally t p number tally → (names : List (List ℕ)) → AreVoters names → tally ≡ tally_over names
  tallied tally it names are =
      let same = same_voters (voters it.rows) names (voters_of it.rows it.standing) are in
      let count = λ (test : VoteRow → Bool). sym (length-filter test it.rows) ∙ counted_over test it.rows (λ row h. it.standing.each row (contains_had it.rows row h)) ∙ same_count test (voters it.rows) names same in
      it.counted
      ∙ (λ i. record {
        approvals = count (λ row. row.counts && row.approve) i;
        secure = count (λ row. row.approve && row.security) i;
        rejections = count (λ row. row.counts && not row.approve) i;
      })
