-- What was looked up, and what is read besides, answers a request that only reads.
use Rattle.std.proofs.Common.{◌≡◌, Option, Some, None, IfSome, sym, ap, subst}
use Rattle.std.specs.Prelude.{option_map, unwrap_or}
use Rattle.review_policy.specs.declared.act.ProfileView.TheVariants.{Fetch, Issued}
use Rattle.review_policy.specs.declared.answer.Reply.TheVariants as reply
use Rattle.review_policy.specs.declared.ask.Ask.{Ask}
use Rattle.review_policy.specs.declared.ask.Ask.TheVariants as ask
use Rattle.office_words.specs.declared.name.ProfileName.{ProfileName}
use Rattle.office_store.specs.Briefs.{brief_of}
use Rattle.office_store.specs.declared.briefs.Brief.{Brief}
use Rattle.office_words.specs.declared.row.RevisionRow.{RevisionRow}
use Rattle.office_words.specs.Tables.{Tables}
use Rattle.office_policy.specs.Verdict.{accepted, of_revision}
use Rattle.office_judging.specs.declared.looked.Looked.{Looked}
use Rattle.office_judging.specs.Reading.{Answers, IsView}
use Rattle.office_judging.specs.Rows.{HasRow}

-- its rules stand in a row
pub view_row : (a : Ask) → IsView a → HasRow a
view_row (ask.SeeRevision view p n) is = tt
view_row (ask.List team) is = tt
view_row (ask.SeeProfile view p) is = tt
view_row (ask.Revisions p before) is = tt
view_row _ is = absurd is

-- ---- what is done

given : {A : Type 0} (o : Option A) (x : A) (P : A → Type 0) → o ≡ Some x → IfSome o P → P x
given o x P is told = subst (λ o. IfSome o P) is told

module _ (a : Ask) (l : Looked) (t : Tables) where
  pub fetches : (p : ProfileName) → a ≡ ask.SeeProfile Fetch p → (r : RevisionRow) → l.issued ≡ Some (Some r) → Answers a l t (reply.Fetched r.digest r.body r.number)
  fetches p is r there = subst (λ a. Answers a l t (reply.Fetched r.digest r.body r.number)) (sym is) (λ h c lawful same part.
      ap (λ o. of_revision (unwrap_or o None) (λ r. accepted (reply.Fetched r.digest r.body r.number) None)) (given l.issued (Some r) _ there part.issued))

  pub tells_issued : (p : ProfileName) → a ≡ ask.SeeProfile Issued p → (b : Brief) → l.brief ≡ Some (Some b) → Answers a l t (reply.IssuedNow b.digest b.number)
  tells_issued p is b there = subst (λ a. Answers a l t (reply.IssuedNow b.digest b.number)) (sym is) (λ h c lawful same part. of_row _ (given l.brief (Some b) _ there part.brief))
    where
      of_row : (r : Option RevisionRow) → Some (option_map brief_of r) ≡ Some (Some b) → of_revision r (λ r. accepted (reply.IssuedNow r.digest r.number) None) ≡ accepted (reply.IssuedNow b.digest b.number) None
      of_row None e = absurd cc
      of_row (Some r) e = let same_brief : brief_of r ≡ b = cc in ap (λ (x : Brief). accepted (reply.IssuedNow x.digest x.number) None) same_brief
