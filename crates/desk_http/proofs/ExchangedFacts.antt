-- What exchanges one after the other leave.
use Rattle.std.proofs.Common.{◌≡◌, ℕ, List, [], ◌∷◌, ◌++◌, Option, Some, None, inl, inr, Result, Ok, Err, refl, sym, ap, subst, append-nil}
use Rattle.office_policy.specs.Meaning.{Meaning}
use Rattle.review_policy.specs.declared.ask.Request.{Request}
use Rattle.review_policy.specs.declared.answer.Answer.{Answer}
use Rattle.office_policy.specs.Handled.{IsHandled}
use Rattle.office_policy.specs.Ran.{HaveRun}
use Rattle.office_policy.proofs.RunFacts.{run_more}
use Rattle.office_policy.proofs.SurvivalFacts.{survives_none}
use Rattle.desk_http.specs.Served.{HasOutcome, IsServed, IsTold}
use Rattle.desk_http.specs.declared.fault.HttpFault.{HttpFault}
use Rattle.desk_http.specs.declared.fault.HttpFault.TheVariants as fault
use Rattle.desk_http.specs.declared.outcome.ExchangeOutcome.{ExchangeOutcome}
use Rattle.desk_http.specs.declared.outcome.ExchangeOutcome.TheVariants.{Refused, NoMemory, Answered}
use Rattle.desk_http.specs.declared.served.Served.{Served}
use Rattle.desk_http.specs.Exchanged.{Tells, Leaves, IsExchanged, requests_in, answers_in, AreTold, HaveExchanged}
use Rattle.no_memory.specs.Witness.{witness}

-- ---- one exchange

module _ (Same : Type 0) (Handled : Request → Answer → Type 0) (unread rest : Option (List ℕ)) where
  leaves_come : (outcome : ExchangeOutcome) → HasOutcome Same Handled unread rest (Ok outcome) → Leaves Same Handled (Some outcome)
  leaves_come (Refused why) has = has.1
  leaves_come (NoMemory _) has = has
  leaves_come (Answered request answer) has = has.1

  untold : (e : HttpFault) → HasOutcome Same Handled unread rest (Err e) → IsExchanged Same Handled (Err e)
  untold fault.Ended has = (None, has.2, tt)
  untold fault.Read has = (None, has.1, tt)
  untold fault.TooManyReads has = (None, has.1, tt)
  untold (fault.Write status want) has = absurd has
  untold (fault.NoMemory status _) has = absurd has

  told_so : (before after : Option (List ℕ)) (outcome : ExchangeOutcome) (result : Result Served HttpFault) → HasOutcome Same Handled unread rest (Ok outcome)
      → IsTold before after outcome result → IsExchanged Same Handled result
  told_so before after outcome (Ok status) has told = (Some outcome, leaves_come outcome has, told.0)
  told_so before after outcome (Err (fault.Write status want)) has told = (Some outcome, leaves_come outcome has, (told.0, told.1))
  told_so before after outcome (Err (fault.NoMemory status _)) has told = (Some outcome, leaves_come outcome has, told.0)
  told_so before after outcome (Err fault.Ended) has told = absurd told
  told_so before after outcome (Err fault.Read) has told = absurd told
  told_so before after outcome (Err fault.TooManyReads) has told = absurd told

  pub exchanged : (before after : Option (List ℕ)) (result : Result Served HttpFault) → IsServed Same Handled unread rest before after result
      → IsExchanged Same Handled result
  exchanged before after result (inl (e, is, has, kept)) = subst (λ (r : Result Served HttpFault). IsExchanged Same Handled r) (sym is) (untold e has)
  exchanged before after result (inr (outcome, has, told)) = told_so before after outcome result has told

-- it could not begin
pub not_begun : (Same : Type 0) (Handled : Request → Answer → Type 0) → Same → IsExchanged Same Handled (Err fault.Read)
not_begun Same Handled same = (None, same, tt)

-- ---- one more

requests_more : (came : List (Option ExchangeOutcome)) (c : Option ExchangeOutcome) → requests_in (came ++ c ∷ []) ≡ requests_in came ++ requests_in (c ∷ [])
requests_more [] c = refl
requests_more (Some (Answered request answer) ∷ came) c = ap (λ rs. request ∷ rs) (requests_more came c)
requests_more (Some (Refused why) ∷ came) c = requests_more came c
requests_more (Some (NoMemory _) ∷ came) c = requests_more came c
requests_more (None ∷ came) c = requests_more came c

answers_more : (came : List (Option ExchangeOutcome)) (c : Option ExchangeOutcome) → answers_in (came ++ c ∷ []) ≡ answers_in came ++ answers_in (c ∷ [])
answers_more [] c = refl
answers_more (Some (Answered request answer) ∷ came) c = ap (λ answers. answer ∷ answers) (answers_more came c)
answers_more (Some (Refused why) ∷ came) c = answers_more came c
answers_more (Some (NoMemory _) ∷ came) c = answers_more came c
answers_more (None ∷ came) c = answers_more came c

told_more : (came : List (Option ExchangeOutcome)) (results : List (Result Served HttpFault)) (c : Option ExchangeOutcome) (r : Result Served HttpFault) → AreTold came results
    → Tells c r → AreTold (came ++ c ∷ []) (results ++ r ∷ [])
told_more [] [] c r told tells = (tells, tt)
told_more (x ∷ came) (y ∷ results) c r told tells = (told.0, told_more came results c r told.1 tells)
told_more [] (y ∷ results) c r told tells = absurd told
told_more (x ∷ came) [] c r told tells = absurd told

module _ {X : Type 0} (m : Meaning X) where
  pub none_run : (s : X) → HaveRun m s s [] []
  none_run s = record {
    count = refl;
    survives = survives_none m s;
    answers = λ h office clean. tt;
    each = refl;
    office = λ h office. office;
    stands = λ h office clean. tt;
    kept = λ clean none. m.keeps_itself s;
    crash = λ h office clean left may. may;
  }

  module _ (old was now : X) where
    kept : (requests : List Request) (answers : List Answer) → now ≡ was → HaveRun m old was requests answers
        → HaveRun m old now requests answers
    kept requests answers same ran = subst (λ (a : X). HaveRun m old a requests answers) (sym same) ran

    -- an exchange that handled nothing adds nothing
    by_none : (came : List (Option ExchangeOutcome)) (c : Option ExchangeOutcome) → requests_in (c ∷ []) ≡ [] → answers_in (c ∷ []) ≡ [] → now ≡ was
        → HaveRun m old was (requests_in came) (answers_in came) → HaveRun m old now (requests_in (came ++ c ∷ [])) (answers_in (came ++ c ∷ []))
    by_none came c no_request no_answer same ran =
        rw (requests_more came c, answers_more came c, no_request, no_answer, append-nil (requests_in came), append-nil (answers_in came))
        (kept (requests_in came) (answers_in came) same ran)

    ran_more : (came : List (Option ExchangeOutcome)) (c : Option ExchangeOutcome) → HaveRun m old was (requests_in came) (answers_in came)
        → Leaves (now ≡ was) (IsHandled m was now) c → HaveRun m old now (requests_in (came ++ c ∷ [])) (answers_in (came ++ c ∷ []))
    ran_more came (Some (Answered request answer)) ran handled =
        rw (requests_more came (Some (Answered request answer)), answers_more came (Some (Answered request answer)))
        (run_more m old was now (requests_in came) (answers_in came) request answer ran handled)
    ran_more came (Some (Refused why)) ran same = by_none came (Some (Refused why)) refl refl same ran
    ran_more came (Some (NoMemory _)) ran same = by_none came (Some (NoMemory witness)) refl refl same ran
    ran_more came None ran same = by_none came None refl refl same ran

  -- one more
  module _ (old was now : X) (results : List (Result Served HttpFault)) (r : Result Served HttpFault)
      (so_far : HaveExchanged m old was results) (step : IsExchanged (now ≡ was) (IsHandled m was now) r) where
    pub next_exchanged : HaveExchanged m old now (results ++ r ∷ [])
    next_exchanged = record {
      came = so_far.came ++ step.0 ∷ [];
      told = told_more so_far.came results step.0 r so_far.told step.2;
      handled = ran_more old was now so_far.came step.0 so_far.handled step.1;
    }

  -- no exchange leaves all as it was
  pub none_exchanged : (s : X) → HaveExchanged m s s []
  none_exchanged s = record { came = []; told = tt; handled = none_run s }
