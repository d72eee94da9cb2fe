-- One more line is handled, and its answer is written, or cut short.
use Rattle.std.proofs.Common.{◌≡◌, ◌∙◌, ℕ, suc, ◌+◌, ◌<◌, List, [], ◌∷◌, ◌++◌, Option, Some, None, inl, length, take, refl, sym, ap, subst, arith, append-nil, append_assoc, length-append}
use Rattle.std.proofs.KnownBytes.{Appends-nil, Appends-trans}
use Rattle.std.specs.Io.KnownBytes.{Appends}
use Rattle.std.specs.Option.{option_or}
use Rattle.streams.specs.Steps.{AppendsPart}
use Rattle.streams.specs.declared.counted.Counted.{Counted}
use Rattle.office_policy.specs.History.{History}
use Rattle.office_policy.specs.Runs.{history_after}
use Rattle.office_policy.specs.Meaning.{Meaning}
use Rattle.office_policy.specs.Handled.{IsHandled as IsRequestHandled, UnlessFaulty, Stands}
use Rattle.office_policy.specs.Ran.{HandlesEach, UnlessLastFaulty}
use Rattle.office_policy.proofs.SurvivalFacts.{survives_on, survives_none}
use Rattle.review_policy.specs.declared.ask.Request.{Request}
use Rattle.review_policy.specs.declared.answer.Answer.{Answer}
use Rattle.review_policy.specs.declared.answer.Answer.TheVariants.{Done, Denied, Fault}
use Rattle.json_requests.specs.declared.bad.BadLine.{BadLine}
use Rattle.json_requests.specs.Answers.{line_of}
use Rattle.json_requests.specs.Bad.{bad_line}
use Rattle.desk_lines.specs.declared.outcome.LineOutcome.{LineOutcome}
use Rattle.desk_lines.specs.declared.outcome.LineOutcome.TheVariants.{Bad, NoMemory, Answered}
use Rattle.desk_lines.specs.Outcomes.{IsOutcome, history_after_line, told, AreOutcomes, history_after_lines, requests_of, answers_of, transcript, want_of, want_in}
use Rattle.desk_lines.specs.Notes.{HasNote, HaveNotes}
use Rattle.desk_lines.specs.Left.{LeavesWithin, LeftAfterLines}
use Rattle.desk_lines.specs.Stands.{StandsAfterLine, HandlesLine, IsHandled, AreHandled, AreAnswered, AreCutShort}
use Rattle.desk_lines.proofs.LeftFacts.{left_more_lines, left_by_more, left_within}
use Rattle.no_memory.specs.Witness.{witness}
use Rattle.no_memory.specs.declared.witness.NoMemory.{«NoMemory» as Want}

outcomes_more : (h : History) (lines : List (List ℕ)) (os : List LineOutcome) (line : List ℕ) (o : LineOutcome) → AreOutcomes h lines os
    → IsOutcome (history_after_lines h os) line o → AreOutcomes h (lines ++ line ∷ []) (os ++ o ∷ [])
outcomes_more h [] [] line o all is = (is, tt)
outcomes_more h (l ∷ lines) (x ∷ os) line o all is = (all.0, outcomes_more (history_after_line h x) lines os line o all.1 is)
outcomes_more h [] (x ∷ os) line o all is = absurd all
outcomes_more h (l ∷ lines) [] line o all is = absurd all

after_more : (h : History) (os : List LineOutcome) (o : LineOutcome) → history_after_lines h (os ++ o ∷ []) ≡ history_after_line (history_after_lines h os) o
after_more h [] o = refl
after_more h (x ∷ os) o = after_more (history_after_line h x) os o

transcript_more : (os : List LineOutcome) (o : LineOutcome) → transcript (os ++ o ∷ []) ≡ transcript os ++ told o
transcript_more [] o = append-nil (told o)
transcript_more (x ∷ os) o = ap (λ t. told x ++ t) (transcript_more os o) ∙ sym (append_assoc (told x) (transcript os) (told o))

-- the want of memory that they tell
pub or_none : (a : Option Want) → option_or a None ≡ a
or_none None = refl
or_none (Some w) = refl

or_on : (a b c : Option Want) → option_or (option_or a b) c ≡ option_or a (option_or b c)
or_on None b c = refl
or_on (Some w) b c = refl

want_more : (os : List LineOutcome) (o : LineOutcome) → want_in (os ++ o ∷ []) ≡ option_or (want_in os) (want_of o)
want_more [] o = or_none (want_of o)
want_more (x ∷ os) o = ap (λ w. option_or (want_of x) w) (want_more os o) ∙ sym (or_on (want_of x) (want_in os) (want_of o))

-- every answer has its line feed
told_some : (o : LineOutcome) → 0 < length (told o)
unfolding line_of bad_line
told_some (Bad fault) = omega (arith, length-append {A = ℕ})
told_some (NoMemory _) = omega (arith, length-append {A = ℕ})
told_some (Answered request answer) = omega (arith, length-append {A = ℕ})

-- a line that asks nothing adds no answer
answers_bad : (os : List LineOutcome) (fault : BadLine) → answers_of (os ++ Bad fault ∷ []) ≡ answers_of os
answers_bad [] fault = refl
answers_bad (Bad other ∷ os) fault = answers_bad os fault
answers_bad ((NoMemory _) ∷ os) fault = answers_bad os fault
answers_bad (Answered r a ∷ os) fault = ap (λ answers. a ∷ answers) (answers_bad os fault)

answers_unread : (os : List LineOutcome) → answers_of (os ++ (NoMemory witness) ∷ []) ≡ answers_of os
answers_unread [] = refl
answers_unread (Bad fault ∷ os) = answers_unread os
answers_unread ((NoMemory _) ∷ os) = answers_unread os
answers_unread (Answered r a ∷ os) = ap (λ answers. a ∷ answers) (answers_unread os)

answers_more : (os : List LineOutcome) (r : Request) (a : Answer) → answers_of (os ++ Answered r a ∷ []) ≡ answers_of os ++ a ∷ []
answers_more [] r a = refl
answers_more (Bad fault ∷ os) r a = answers_more os r a
answers_more ((NoMemory _) ∷ os) r a = answers_more os r a
answers_more (Answered q b ∷ os) r a = ap (λ answers. b ∷ answers) (answers_more os r a)

-- what holds unless the last answer is a fault
unless_last : (answers : List Answer) (a : Answer) (P : Type 0) → UnlessFaulty a P → UnlessLastFaulty (answers ++ a ∷ []) P
unless_last [] a P p = p
unless_last (b ∷ []) a P p = p
unless_last (b ∷ c ∷ answers) a P p = unless_last (c ∷ answers) a P p

unless_weaker : (answers : List Answer) (P Q : Type 0) → (P → Q) → UnlessLastFaulty answers P → UnlessLastFaulty answers Q
unless_weaker [] P Q then p = tt
unless_weaker (Done reply ∷ []) P Q then p = then p
unless_weaker (Denied denial fault ∷ []) P Q then p = then p
unless_weaker (Fault fault ∷ []) P Q then p = tt
unless_weaker (a ∷ b ∷ answers) P Q then p = unless_weaker (b ∷ answers) P Q then p

module _ {X : Type 0} (m : Meaning X) where
  -- the last request was answered by no fault
  stands_more : (mid new : X) (h : History) (os : List LineOutcome) (o : LineOutcome)
      → UnlessLastFaulty (answers_of os) (Stands m (history_after_lines h os) mid)
      → StandsAfterLine m (history_after_lines h os) mid new o
      → UnlessLastFaulty (answers_of (os ++ o ∷ [])) (Stands m (history_after_lines h (os ++ o ∷ [])) new)
  stands_more mid new h os (Bad fault) before last =
      rw (after_more h os (Bad fault), answers_bad os fault)
      (unless_weaker (answers_of os) (Stands m (history_after_lines h os) mid) (Stands m (history_after_lines h os) new) last before)
  stands_more mid new h os (NoMemory _) before last =
      rw (after_more h os (NoMemory witness), answers_unread os)
      (unless_weaker (answers_of os) (Stands m (history_after_lines h os) mid) (Stands m (history_after_lines h os) new) last before)
  stands_more mid new h os (Answered r a) before last =
      rw (after_more h os (Answered r a), answers_more os r a)
      (unless_last (answers_of os) a (Stands m (history_after (history_after_lines h os) r a) new) last)

  -- and one more line is handled
  each_more : (old mid new : X) (os : List LineOutcome) (o : LineOutcome) → HandlesEach m old mid (requests_of os) (answers_of os) → HandlesLine m mid new o
      → HandlesEach m old new (requests_of (os ++ o ∷ [])) (answers_of (os ++ o ∷ []))
  each_more old mid new [] (Bad fault) each line = line ∙ each
  each_more old mid new [] (NoMemory _) each line = line ∙ each
  each_more old mid new [] (Answered r a) each line = (new, subst (λ x. IsRequestHandled m x new r a) each line, refl)
  each_more old mid new (Bad fault ∷ os) o each line = each_more old mid new os o each line
  each_more old mid new ((NoMemory _) ∷ os) o each line = each_more old mid new os o each line
  each_more old mid new (Answered r a ∷ os) o each line = (each.0, each.1, each_more each.0 mid new os o each.2 line)

  crash_more : (old mid new : X) (lines : List (List ℕ)) (os : List LineOutcome) (line : List ℕ) (o : LineOutcome) → AreHandled m old mid lines os → IsHandled m mid new line o
      → (h : History) → m.is_of h old → m.is_clean new → LeavesWithin m new (LeftAfterLines m (m.may_leave old) h (os ++ o ∷ []))
  crash_more old mid new lines os line o s more h office clean left may =
      let after = more.crash (history_after_lines h os) (s.office h office) clean left may in
      let before = s.crash h office (more.survives.clean clean) in
      left_more_lines m (m.may_leave old) h os o left (left_by_more m (m.may_leave mid) (LeftAfterLines m (m.may_leave old) h os) (history_after_lines h os) o before left after)

  pub handled_more : (old mid new : X) (lines : List (List ℕ)) (os : List LineOutcome) (line : List ℕ) (o : LineOutcome)
      → AreHandled m old mid lines os → IsHandled m mid new line o → AreHandled m old new (lines ++ line ∷ []) (os ++ o ∷ [])
  handled_more old mid new lines os line o s more = record {
    survives = survives_on m old mid new s.survives more.survives;
    policy = λ h office clean.
        outcomes_more h lines os line o (s.policy h office (more.survives.clean clean)) (more.policy (history_after_lines h os) (s.office h office) clean);
    each = each_more old mid new os o s.each more.each;
    office = λ h office. subst (λ (x : History). m.is_of x new) (sym (after_more h os o)) (more.office (history_after_lines h os) (s.office h office));
    stands = λ h office clean.
        let before = s.stands h office (more.survives.clean clean) in
        let last = more.stands (history_after_lines h os) (s.office h office) clean in
        stands_more mid new h os o before last;
    crash = crash_more old mid new lines os line o s more;
    left = λ h office only clean. left_within m old new h (os ++ o ∷ []) only (crash_more old mid new lines os line o s more h office clean);
  }

  pub none_handled : (s : X) → AreHandled m s s [] []
  none_handled s = record {
    survives = survives_none m s;
    policy = λ h office clean. tt;
    each = refl;
    office = λ h office. office;
    stands = λ h office clean. tt;
    crash = λ h office clean left may. may;
    left = λ h office only clean left may. inl (only left may);
  }

-- ---- what was written and noted

module _ {E : Type 0} (said_of : E → Option (List ℕ)) where
  notes_more : (number : ℕ) (lines : List (List ℕ)) (os : List LineOutcome) (line : List ℕ) (o : LineOutcome) (errors mid noted : Counted E) (at : ℕ)
      → at ≡ number + length lines → HaveNotes said_of number lines os errors mid → HasNote said_of at line o mid noted
      → HaveNotes said_of number (lines ++ line ∷ []) (os ++ o ∷ []) errors noted
  notes_more number [] [] line o errors mid noted at is all note =
      let here : HasNote said_of at line o errors noted = subst (λ (e : Counted E). HasNote said_of at line o e noted) all note in
      (noted, subst (λ (n : ℕ). HasNote said_of n line o errors noted) (omega (arith, is)) here, refl)
  notes_more number (l ∷ lines) (x ∷ os) line o errors mid noted at is all note =
      (all.0, all.1, notes_more (suc number) lines os line o all.0 mid noted at (omega (arith, is)) all.2 note)
  notes_more number [] (x ∷ os) line o errors mid noted at is all note = absurd all
  notes_more number (l ∷ lines) [] line o errors mid noted at is all note = absurd all

module _ {X E : Type 0} (m : Meaning X) (said_of : E → Option (List ℕ)) where
  pub answered_none : (s : X) (w : Option (List ℕ)) (errors : Counted E) → AreAnswered m said_of errors errors s s w w [] None
  answered_none s w errors = record { outcomes = []; handled = none_handled m s; written = Appends-nil w; want_is = refl; notes = refl }

  module _ (old mid new : X) (before between after : Option (List ℕ)) (errors said noted : Counted E) (lines : List (List ℕ)) (line : List ℕ) (o : LineOutcome)
      (want now : Option Want) (number : ℕ) (so_far : AreAnswered m said_of errors said old mid before between lines want) (more : IsHandled m mid new line o)
      (tells : now ≡ option_or want (want_of o)) (count : number ≡ 1 + length lines) (note : HasNote said_of number line o said noted) where
    now_in : now ≡ want_in (so_far.outcomes ++ o ∷ [])
    now_in = tells ∙ ap (λ w. option_or w (want_of o)) so_far.want_is ∙ sym (want_more so_far.outcomes o)

    pub notes_now : HaveNotes said_of 1 (lines ++ line ∷ []) (so_far.outcomes ++ o ∷ []) errors noted
    notes_now = notes_more said_of 1 lines so_far.outcomes line o errors said noted number count so_far.notes note

    pub answered_more : Appends between after (told o) → AreAnswered m said_of errors noted old new before after (lines ++ line ∷ []) now
    answered_more writes = record {
      outcomes = so_far.outcomes ++ o ∷ [];
      handled = handled_more m old mid new lines so_far.outcomes line o so_far.handled more;
      written = rw transcript_more (Appends-trans before between after (transcript so_far.outcomes) (told o) so_far.written writes);
      want_is = now_in;
      notes = notes_now;
    }

    pub cut_short : AppendsPart between after (told o) → (count : ℕ) × AreCutShort m said_of errors noted old new before after (lines ++ line ∷ []) now count
    cut_short part = (
      part.0,
      record {
        outcomes = so_far.outcomes;
        last = o;
        handled = handled_more m old mid new lines so_far.outcomes line o so_far.handled more;
        count_below = part.1;
        written = Appends-trans before between after (transcript so_far.outcomes) (take part.0 (told o)) so_far.written part.2;
        want_is = now_in;
        notes = notes_now;
      },
    )

    pub cut_before : AreCutShort m said_of errors noted old new before between (lines ++ line ∷ []) now 0
    cut_before = record {
      outcomes = so_far.outcomes;
      last = o;
      handled = handled_more m old mid new lines so_far.outcomes line o so_far.handled more;
      count_below = told_some o;
      written = rw append-nil so_far.written;
      want_is = now_in;
      notes = notes_now;
    }
