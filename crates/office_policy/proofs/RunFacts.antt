-- A run goes on by one request.
use Rattle.std.proofs.Common.{◌≡◌, ℕ, ◌+◌, ◌<◌, List, [], ◌∷◌, ◌++◌, length, get_or, take, refl, sym, subst, arith, length-append}
use Rattle.std.proofs.lemmas.List.{take_more}
use Rattle.review_policy.specs.declared.ask.Request.{Request}
use Rattle.review_policy.specs.declared.answer.Answer.{Answer}
use Rattle.review_policy.specs.declared.answer.Answer.TheVariants.{Done, Denied, Fault}
use Rattle.office_policy.specs.History.{History}
use Rattle.office_policy.specs.Runs.{IsAnswer, history_after, Took, history_after_all}
use Rattle.office_policy.specs.Meaning.{Meaning}
use Rattle.office_policy.specs.Handled.{UnlessChanged, UnlessFaulty, Stands, IsHandled}
use Rattle.office_policy.specs.Left.{LeftAfter}
use Rattle.office_policy.specs.Ran.{NoneChanged, UnlessLastFaulty, HaveRun}
use Rattle.office_policy.proofs.CauseFacts.{each_more}
use Rattle.office_policy.proofs.LeftFacts.{left_by_one, left_more}
use Rattle.office_policy.proofs.SurvivalFacts.{survives_on}

took_more : (h : History) (rs : List Request) (told : List Answer) (r : Request) (a : Answer) → Took h rs told → IsAnswer (history_after_all h rs told) r a
    → Took h (rs ++ r ∷ []) (told ++ a ∷ [])
took_more h [] [] r a t is = (is, tt)
took_more h (x ∷ rs) (b ∷ told) r a t is = (t.0, took_more (history_after h x b) rs told r a t.1 is)
took_more h [] (b ∷ told) r a t is = absurd t
took_more h (x ∷ rs) [] r a t is = absurd t

after_more : (h : History) (rs : List Request) (told : List Answer) (r : Request) (a : Answer) → length told ≡ length rs
    → history_after_all h (rs ++ r ∷ []) (told ++ a ∷ []) ≡ history_after (history_after_all h rs told) r a
after_more h [] [] r a count = refl
after_more h (x ∷ rs) (b ∷ told) r a count = after_more (history_after h x b) rs told r a (omega (arith, count))
after_more h [] (b ∷ told) r a count = absurd (omega (arith, count))
after_more h (x ∷ rs) [] r a count = absurd (omega (arith, count))

-- of requests that changed nothing, those before the last changed nothing
none_before : (rs : List Request) (told : List Answer) (r : Request) (a : Answer) → length told ≡ length rs → NoneChanged (rs ++ r ∷ []) (told ++ a ∷ []) → NoneChanged rs told
none_before [] [] r a count none = tt
none_before (x ∷ rs) (Done reply ∷ told) r a count none = (none.0, none_before rs told r a (omega (arith, count)) none.1)
none_before (x ∷ rs) (Denied denial fault ∷ told) r a count none = none_before rs told r a (omega (arith, count)) none
none_before (x ∷ rs) (Fault fault ∷ told) r a count none = none_before rs told r a (omega (arith, count)) none
none_before [] (b ∷ told) r a count none = absurd (omega (arith, count))
none_before (x ∷ rs) [] r a count none = absurd (omega (arith, count))

none_at : (r : Request) (a : Answer) (P : Type 0) → NoneChanged (r ∷ []) (a ∷ []) → UnlessChanged r.ask a P → P
none_at r (Done reply) P none p = p none.0
none_at r (Denied denial fault) P none p = p
none_at r (Fault fault) P none p = p

-- nor did the last
none_last : (rs : List Request) (told : List Answer) (r : Request) (a : Answer) (P : Type 0) → length told ≡ length rs → NoneChanged (rs ++ r ∷ []) (told ++ a ∷ []) → UnlessChanged r.ask a P → P
none_last [] [] r a P count none p = none_at r a P none p
none_last (x ∷ rs) (Done reply ∷ told) r a P count none p = none_last rs told r a P (omega (arith, count)) none.1 p
none_last (x ∷ rs) (Denied denial fault ∷ told) r a P count none p = none_last rs told r a P (omega (arith, count)) none p
none_last (x ∷ rs) (Fault fault ∷ told) r a P count none p = none_last rs told r a P (omega (arith, count)) none p
none_last [] (b ∷ told) r a P count none p = absurd (omega (arith, count))
none_last (x ∷ rs) [] r a P count none p = absurd (omega (arith, count))

-- what holds unless the answer is a fault holds unless the last answer is one
unless_last : (told : List Answer) (a : Answer) (P : Type 0) → UnlessFaulty a P → UnlessLastFaulty (told ++ a ∷ []) P
unless_last [] a P p = p
unless_last (b ∷ []) a P p = p
unless_last (b ∷ c ∷ told) a P p = unless_last (c ∷ told) a P p

module _ {X : Type 0} (m : Meaning X) where
  pub run_more : (old mid new : X) (rs : List Request) (told : List Answer) (r : Request) (a : Answer) → HaveRun m old mid rs told → IsHandled m mid new r a
      → HaveRun m old new (rs ++ r ∷ []) (told ++ a ∷ [])
  run_more old mid new rs told r a ran step = record {
    count = omega (arith, ran.count, length-append rs (r ∷ []), length-append told (a ∷ []));
    survives = survives_on m old mid new ran.survives step.survives;
    answers = λ h office clean.
        took_more h rs told r a (ran.answers h office (step.survives.clean clean)) (step.answer (history_after_all h rs told) (ran.office h office) clean);
    each = each_more m old mid new rs told r a ran.each step;
    office = λ h office.
        subst (λ (k : History). m.is_of k new) (sym (after_more h rs told r a ran.count)) (step.office (history_after_all h rs told) (ran.office h office));
    stands = λ h office clean.
        let last = step.stands (history_after_all h rs told) (ran.office h office) clean in
        unless_last told a (Stands m (history_after_all h (rs ++ r ∷ []) (told ++ a ∷ [])) new)
        (subst (λ (k : History). UnlessFaulty a (Stands m k new)) (sym (after_more h rs told r a ran.count)) last);
    kept = λ clean none.
        m.keeps_on old mid new (ran.kept (step.survives.clean clean) (none_before rs told r a ran.count none))
        (none_last rs told r a (m.keeps mid new) ran.count none (step.kept clean));
    crash = λ h office clean left may.
        let Before = LeftAfter m (m.may_leave old) h rs told in
        let before = ran.crash h office (step.survives.clean clean) in
        left_more m (m.may_leave old) h rs told r a left ran.count
        (left_by_one m Before mid new (history_after_all h rs told) r a step (ran.office h office) clean before left may);
  }

  pub run_next : (old mid new : X) (requests : List Request) (i : ℕ) (r : Request) (told : List Answer) (a : Answer)
      → i < length requests → r ≡ get_or requests i r → HaveRun m old mid (take i requests) told → IsHandled m mid new r a → HaveRun m old new (take (i + 1) requests) (told ++ a ∷ [])
  run_next old mid new requests i r told a lt at ran step = rw (take_more requests i r lt, ← at) (run_more old mid new (take i requests) told r a ran step)
