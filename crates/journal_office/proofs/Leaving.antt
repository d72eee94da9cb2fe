-- What a crash left of a journal tells.
use Rattle.std.proofs.Common.{inl, inr, ◌≡◌, ◌∙◌, ◌⊎◌, ℕ, List, [], ◌∷◌, ◌++◌, All, Option, Some, None, ap, sym, subst}
use Rattle.std.proofs.lemmas.List.Elements.{All-head, All-tail}
use Rattle.sealed_log.specs.Sealed.{IsBody}
use Rattle.sealed_log.specs.Told.{HasNoOther, told}
use Rattle.sealed_log.proofs.ToldFacts.{told_after_both, told_after_crash, told_text}
use Rattle.office_policy.specs.History.{Event, History}
use Rattle.office_policy.specs.Lawful.{IsAllowed}
use Rattle.office_policy.specs.EventForms.{HasForms}
use Rattle.journal.specs.Journal.{IsJournalOf, Says}
use Rattle.journal.specs.Lines.{done, happened, strike, text_of}
use Rattle.journal.proofs.JournalFacts.{bodies_of_says}
use Rattle.journal.proofs.Lengths.{allowed_entry}
use Rattle.journal.specs.Begun.{IsBegun, IsLeftOf, done_bodies, with_event, with_struck}
use Rattle.journal.specs.Writing.{IsLeftIn}
use Rattle.journal.proofs.Texts.{one_more, one_struck}
use Rattle.journal_office.specs.Left.{HasOwn, HasOwnLine, HasOwnLines}
use Rattle.journal_office.specs.Mending.{TellsOf}

-- the last of bodies
last_is_body : (bodies : List (List ℕ)) (body : List ℕ) → All IsBody (bodies ++ body ∷ []) → IsBody body
last_is_body [] body are = All-head IsBody body [] are
last_is_body (b ∷ bodies) body are = last_is_body bodies body (All-tail IsBody b (bodies ++ body ∷ []) are)

module _ (h : History) (file : List ℕ) (event : Event) (allowed : IsAllowed h event) (forms : HasForms event) where
  -- they say it, or it and the event
  says_it : (bodies : List (List ℕ)) → Says bodies h → told file ≡ bodies → TellsOf h (told file)
  says_it bodies says is = inl (subst (λ (l : List (List ℕ)). Says l h) (sym is) says)

  says_more : (bodies : List (List ℕ)) → Says bodies h → told file ≡ with_event bodies event → TellsOf h (told file)
  says_more bodies says is = inr (event, record { before = bodies; says = says; allowed = allowed; forms = forms; is = is })

  -- what is left of the line of the event, and of the one before it
  event_tells : (bodies : List (List ℕ)) (settling : Option ℕ) → Says bodies h → Says (bodies ++ done_bodies settling) h
      → IsLeftIn bodies (done_bodies settling) (text_of (happened event)) file → HasOwnLines bodies settling (text_of (happened event)) file → TellsOf h (told file)
  event_tells bodies None says settled left own =
      elim (told_after_crash bodies (text_of (happened event)) file (bodies_of_says bodies h says) left own) [
        | inl same ↦ says_it bodies says same
        | inr more ↦ says_more bodies says more
      ]
  event_tells bodies (Some number) says settled left own =
      let first = text_of (done number) in
      let with_first = bodies ++ first ∷ [] in
      let is_first : IsBody first = last_is_body bodies first (bodies_of_says with_first h settled) in
      elim (told_after_both bodies first (text_of (happened event)) file (bodies_of_says bodies h says) is_first left own.0 own.1) [
        | inl same ↦ says_it bodies says same
        | inr (inl one) ↦ says_it with_first settled one
        | inr (inr both) ↦ says_more with_first settled both
      ]

  -- and of the line that strikes it out
  strike_tells : (bodies : List (List ℕ)) → Says bodies h → IsLeftIn (with_event bodies event) [] (text_of strike) file
      → HasNoOther (with_event bodies event) (text_of strike) file → TellsOf h (told file)
  strike_tells bodies says left own =
      let entry = allowed_entry h event allowed forms in
      let more = one_more bodies h event entry says in
      elim (told_after_crash (with_event bodies event) (text_of strike) file (bodies_of_says (with_event bodies event) (event ∷ h) more) left own) [
        | inl same ↦ says_more bodies says same
        | inr struck ↦ says_it (with_struck bodies event) (one_struck bodies h event entry says) struck
      ]

begun_tells : (h : History) (event : Event) (file : List ℕ) (b : IsBegun h event file)
    (left : IsLeftIn b.before (done_bodies b.settling) (text_of (happened event)) file ⊎ IsLeftIn (with_event (b.before ++ done_bodies b.settling) event) [] (text_of strike) file)
    → HasOwnLine h event file b left → TellsOf h (told file)
begun_tells h event file b (inl left) own = event_tells h file event b.allowed b.forms b.before b.settling b.says b.settled left own
begun_tells h event file b (inr left) own = strike_tells h file event b.allowed b.forms (b.before ++ done_bodies b.settling) b.settled left own

pub journal_tells : (h : History) (file : List ℕ) → IsJournalOf file h → Says (told file) h
journal_tells h file journal =
    let same : told file ≡ journal.bodies = ap told journal.is ∙ told_text journal.bodies (bodies_of_says journal.bodies h journal.says) in
    subst (λ (l : List (List ℕ)). Says l h) (sym same) journal.says

pub left_tells : (h : History) (file : List ℕ) (left : IsLeftOf h file) → HasOwn h file left → TellsOf h (told file)
left_tells h file (inl journal) own = inl (journal_tells h file journal)
left_tells h file (inr (inl (event, b))) own = begun_tells h event file b b.left own
left_tells h file (inr (inr e)) own =
    elim (told_after_crash e.before (text_of (done e.number)) file (bodies_of_says e.before h e.says) e.left own) [
      | inl same ↦ inl (subst (λ (l : List (List ℕ)). Says l h) (sym same) e.says)
      | inr more ↦ inl (subst (λ (l : List (List ℕ)). Says l h) (sym more) e.with_done)
    ]
