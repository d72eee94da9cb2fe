-- What is kept of the lines of a journal.
use Rattle.std.proofs.Common.{inl, inr, ◌≡◌, ◌≢◌, ◌∙◌, ◌⊎◌, ◌+◌, ◌==◌, ℕ, List, [], ◌∷◌, ◌++◌, All, Bool, true, false, Option, Some, None, map, length, refl, sym, ap, subst, arith, length-append, eqb-true}
use Rattle.std.specs.Prelude.{Result, Ok, Err, ⊤, is_some, option_and_then}
use Rattle.std.proofs.lemmas.List.{append_cancel_right, length-map, map-append}
use Rattle.std.proofs.lemmas.List.Elements.{All-cons, All-head, All-nil, All-push, All-tail}
use Rattle.sealed_log.specs.Sealed.{IsBody}
use Rattle.sealed_log.specs.declared.unreadable.Unreadable.{Unreadable}
use Rattle.sealed_log.specs.declared.unreadable.Unreadable.TheVariants.{NotALine, NoEventBefore, Unsealed, TornLine, Read, NoMemory}
use Rattle.office_policy.specs.History.{Event, History}
use Rattle.office_policy.specs.Runs.{with_event as with_was}
use Rattle.journal.specs.Begun.{with_event}
use Rattle.journal.specs.declared.kept.Kept.{Kept}
use Rattle.journal.specs.Forms.{IsFormed}
use Rattle.journal.specs.Journal.{EndsWithEvent, IsEntry, Says, history_from, history_in, settled_if, taken}
use Rattle.journal.specs.Kept.{IsFaulty, IsKept, SaysNone, Settled, TakesBody, keeps, keeps_by, settled_from, with_stood}
use Rattle.journal.specs.Lines.{Line, done, happened, strike, text_of}
use Rattle.journal.specs.Reading.{IsOfOther, IsOnEvent, IsTaken, held}
use Rattle.journal.specs.Writers.{Writers, writers_meant, writers_of}
use Rattle.journal.proofs.JournalFacts.{same_texts}
use Rattle.journal.proofs.LineFacts.{same_line}
use Rattle.journal.proofs.Texts.{HasLast, last_entry, last_line, last_of, last_same, no_line}

-- ---- lines

abbrev Ends : Type 0
Ends = History × Option Event

abbrev Taken : Type 0
Taken = Option Event × Option Event

-- what stands behind a line
abbrev behind : Ends → Taken → Ends
behind p t = (with_was t.0 p.0, t.1)

-- what is settled by lines, and with it the event that is held back, is their history
abbrev HasHistory : List Line → Type 0
HasHistory ls = (n : ℕ) (g : History) (was : Option Event) (p : Ends) → settled_from n g was ls ≡ Some p → history_from n g was ls ≡ Some (with_was p.1 p.0)

has_history : (ls : List Line) → HasHistory ls
has_history [] n g was p is =
    let same : ◌≡◌ {A = Ends} (g, was) p = cc in
    ap (λ (p : Ends). Some (with_was p.1 p.0)) same
has_history (l ∷ ls) n g was p is = at (has_history ls) (taken n was l) is
  where
    at : HasHistory ls → (o : Option Taken) → option_and_then (λ t. settled_from (n + 1) (with_was t.0 g) t.1 ls) o ≡ Some p
        → option_and_then (λ t. history_from (n + 1) (with_was t.0 g) t.1 ls) o ≡ Some (with_was p.1 p.0)
    at rest None given = absurd cc
    at rest (Some t) given = rest (n + 1) (with_was t.0 g) t.1 p given

-- and a history is so settled
record IsSettled (n : ℕ) (g : History) (was : Option Event) (ls : List Line) (h : History) : Type 0 where
  ends : Ends
  by : settled_from n g was ls ≡ Some ends
  is : with_was ends.1 ends.0 ≡ h

abbrev HasSettled : List Line → Type 0
HasSettled ls = (n : ℕ) (g : History) (was : Option Event) (h : History) → history_from n g was ls ≡ Some h → IsSettled n g was ls h

has_settled : (ls : List Line) → HasSettled ls
has_settled [] n g was h is = record { ends = (g, was); by = refl; is = let same : with_was was g ≡ h = cc in same }
has_settled (l ∷ ls) n g was h is = at (has_settled ls) (taken n was l) refl is
  where
    at : HasSettled ls → (o : Option Taken) → taken n was l ≡ o → option_and_then (λ t. history_from (n + 1) (with_was t.0 g) t.1 ls) o ≡ Some h → IsSettled n g was (l ∷ ls) h
    at rest None by given = absurd cc
    at rest (Some t) by given =
        let more = rest (n + 1) (with_was t.0 g) t.1 h given in
        record { ends = more.ends; by = rw by more.by; is = more.is }

-- a line more
abbrev Pushes : List Line → Type 0
Pushes ls =
    (n k : ℕ) (g : History) (was : Option Event) (p : Ends) (l : Line) (t : Taken) → k ≡ n + length ls → settled_from n g was ls ≡ Some p → taken k p.1 l ≡ Some t
    → settled_from n g was (ls ++ l ∷ []) ≡ Some (behind p t)

pushes : (ls : List Line) → Pushes ls
pushes [] n k g was p l t count is by =
    let same : ◌≡◌ {A = Ends} (g, was) p = cc in
    let here : n ≡ k = omega (arith, count) in
    let one : taken n p.1 l ≡ Some t = ap (λ n. taken n p.1 l) here ∙ by in
    subst (λ (p : Ends). taken n p.1 l ≡ Some t → option_and_then (λ t. Some (with_was t.0 g, t.1)) (taken n was l) ≡ Some (behind p t)) same (λ by. rw by refl) one
pushes (m ∷ ls) n k g was p l t count is by = at (pushes ls) (taken n was m) is
  where
    at : Pushes ls → (o : Option Taken) → option_and_then (λ t. settled_from (n + 1) (with_was t.0 g) t.1 ls) o ≡ Some p
        → option_and_then (λ t. settled_from (n + 1) (with_was t.0 g) t.1 (ls ++ l ∷ [])) o ≡ Some (behind p t)
    at rest None given = absurd cc
    at rest (Some u) given = rest (n + 1) k (with_was u.0 g) u.1 p l t (omega (arith, count)) given by

-- the last line is taken behind the others
record IsPushed (n k : ℕ) (g : History) (was : Option Event) (ls : List Line) (l : Line) (p : Ends) : Type 0 where
  before : Ends
  by : settled_from n g was ls ≡ Some before
  last : Taken
  taken_is : taken k before.1 l ≡ Some last
  is : behind before last ≡ p

abbrev Splits : List Line → Type 0
Splits ls = (n k : ℕ) (g : History) (was : Option Event) (l : Line) (p : Ends) → k ≡ n + length ls → settled_from n g was (ls ++ l ∷ []) ≡ Some p → IsPushed n k g was ls l p

splits : (ls : List Line) → Splits ls
splits [] n k g was l p count is = at (taken n was l) refl is
  where
    at : (o : Option Taken) → taken n was l ≡ o → option_and_then (λ t. Some (with_was t.0 g, t.1)) o ≡ Some p → IsPushed n k g was [] l p
    at None by given = absurd cc
    at (Some t) by given = record { before = (g, was); by = refl; last = t; taken_is = ap (λ n. taken n was l) (omega (arith, count)) ∙ by; is = let same : ◌≡◌ {A = Ends} (with_was t.0 g, t.1) p = cc in same }
splits (m ∷ ls) n k g was l p count is = at (splits ls) (taken n was m) refl is
  where
    at : Splits ls → (o : Option Taken) → taken n was m ≡ o → option_and_then (λ t. settled_from (n + 1) (with_was t.0 g) t.1 (ls ++ l ∷ [])) o ≡ Some p → IsPushed n k g was (m ∷ ls) l p
    at rest None by given = absurd cc
    at rest (Some t) by given =
        let more = rest (n + 1) k (with_was t.0 g) t.1 l p (omega (arith, count)) given in
        record { before = more.before; by = rw by more.by; last = more.last; taken_is = more.taken_is; is = more.is }

-- ---- bodies

pub says_all : (bodies : List (List ℕ)) (g : History) (held : Option Event) → Settled bodies g held → Says bodies (with_was held g)
says_all bodies g held s = record { lines = s.lines; entries = s.entries; are = s.are; history = has_history s.lines 0 [] None (g, held) s.by }

-- bodies settle one history, and hold back one event
pub settled_one : (bodies : List (List ℕ)) (a b : History) (x y : Option Event) → Settled bodies a x → Settled bodies b y → ◌≡◌ {A = Ends} (a, x) (b, y)
settled_one bodies a b x y one other =
    let lines = same_texts one.lines other.lines one.entries other.entries (sym one.are ∙ other.are) in
    let both : ◌≡◌ {A = Option Ends} (Some (a, x)) (Some (b, y)) = sym one.by ∙ ap (settled_from 0 [] None) lines ∙ other.by in
    cc

-- what bodies settle that say a history
pub record SettlesPart (bodies : List (List ℕ)) (h : History) : Type 0 where
  pub settled : History
  pub held : Option Event
  pub says : Settled bodies settled held
  pub is : with_was held settled ≡ h

pub settles_part : (bodies : List (List ℕ)) (h : History) → Says bodies h → SettlesPart bodies h
settles_part bodies h says =
    let part = has_settled says.lines 0 [] None h says.history in
    record { settled = part.ends.0; held = part.ends.1; says = record { lines = says.lines; entries = says.entries; are = says.are; by = part.by }; is = part.is }

counted : (bodies : List (List ℕ)) (ls : List Line) → bodies ≡ map text_of ls → length ls ≡ length bodies
counted bodies ls are = sym (ap length are ∙ length-map ls text_of)

-- a body more
pub settled_more : (bodies : List (List ℕ)) (body : List ℕ) (g : History) (held : Option Event) (l : Line) (t : Option Event × Option Event) → Settled bodies g held → IsEntry l → body ≡ text_of l
    → taken (length bodies) held l ≡ Some t → Settled (bodies ++ body ∷ []) (with_was t.0 g) t.1
settled_more bodies body g was l t s entry text is = record {
  lines = s.lines ++ l ∷ [];
  entries = All-push IsEntry s.lines l s.entries entry;
  are = ap (λ b. b ++ body ∷ []) s.are ∙ ap (λ x. map text_of s.lines ++ x ∷ []) text ∙ sym (map-append text_of s.lines (l ∷ []));
  by = pushes s.lines 0 (length bodies) [] None (g, was) l t (omega (arith, counted bodies s.lines s.are)) s.by is;
}

-- behind bodies that say a history an event is held back
pub held_more : (bodies : List (List ℕ)) (h : History) (e : Event) → IsEntry (happened e) → Says bodies h → Settled (with_event bodies e) h (Some e)
held_more bodies h e entry says =
    let part = settles_part bodies h says in
    subst (λ g. Settled (with_event bodies e) g (Some e)) part.is
    (settled_more bodies (text_of (happened e)) part.settled part.held (happened e) (part.held, Some e) part.says entry refl refl)

-- the last body is that of a line, which is taken behind the others
pub record EndsIn (bodies : List (List ℕ)) (body : List ℕ) (h : History) : Type 0 where
  pub settled : History
  pub held : Option Event
  pub before : Settled bodies settled held
  pub line : Line
  pub entry : IsEntry line
  pub text : body ≡ text_of line
  pub last : Option Event × Option Event
  pub taken_is : taken (length bodies) held line ≡ Some last
  pub is : with_was last.1 (with_was last.0 settled) ≡ h

all_but_last : (before : List Line) (l : Line) → All IsEntry (before ++ l ∷ []) → All IsEntry before
all_but_last [] l entries = All-nil IsEntry
all_but_last (b ∷ before) l entries = All-cons IsEntry b before (All-head IsEntry b (before ++ l ∷ []) entries) (all_but_last before l (All-tail IsEntry b (before ++ l ∷ []) entries))

pub ends_in : (bodies : List (List ℕ)) (body : List ℕ) (h : History) → Says (bodies ++ body ∷ []) h → EndsIn bodies body h
ends_in bodies body h says = at (last_of says.lines)
  where
    at : HasLast says.lines → EndsIn bodies body h
    at (no_line none) =
        let size = ap length (says.are ∙ ap (map text_of) none) in
        absurd (omega (arith, size, length-append bodies (body ∷ [])))
    at (last_line front l split) =
        let here : bodies ++ body ∷ [] ≡ map text_of front ++ text_of l ∷ [] = says.are ∙ ap (map text_of) split ∙ map-append text_of front (l ∷ []) in
        let text : body ≡ text_of l = last_same bodies (map text_of front) body (text_of l) here in
        let fronts : bodies ≡ map text_of front = append_cancel_right bodies (map text_of front) (body ∷ []) (here ∙ ap (λ t. map text_of front ++ t ∷ []) (sym text)) in
        let entries : All IsEntry (front ++ l ∷ []) = subst (All IsEntry) split says.entries in
        let part = has_settled (front ++ l ∷ []) 0 [] None h (sym (ap history_in split) ∙ says.history) in
        let push = splits front 0 (length bodies) [] None l part.ends (omega (arith, counted bodies front fronts)) part.by in
        record {
          settled = push.before.0;
          held = push.before.1;
          before = record { lines = front; entries = all_but_last front l entries; are = fronts; by = push.by };
          line = l;
          entry = last_entry front l entries;
          text = text;
          last = push.last;
          taken_is = push.taken_is;
          is = ap (λ (p : Ends). with_was p.1 p.0) push.is ∙ part.is;
        }

-- bodies whose last is held back end with an event
pub ends_with : (bodies : List (List ℕ)) (g : History) (e : Event) → Settled bodies g (Some e) → EndsWithEvent bodies
ends_with bodies g e s = at (last_of s.lines)
  where
    by_last : (n : ℕ) (was : Option Event) (l : Line) (t : Taken) → taken n was l ≡ Some t → t.1 ≡ Some e → l ≡ happened e
    by_last n was (happened f) t is has = let same : ◌≡◌ {A = Taken} (was, Some f) t = cc in let held : ◌≡◌ {A = Option Event} (Some f) (Some e) = ap (λ (t : Taken). t.1) same ∙ has in cc
    by_last n None strike t is has = absurd cc
    by_last n (Some f) strike t is has = let same : ◌≡◌ {A = Taken} (None, None) t = cc in let held : ◌≡◌ {A = Option Event} None (Some e) = ap (λ (t : Taken). t.1) same ∙ has in absurd cc
    by_last n None (done k) t is has = absurd cc
    by_last n (Some f) (done k) t is has = by_done (k == n) is
      where
        by_done : (b : Bool) → settled_if b f ≡ Some t → done k ≡ happened e
        by_done true is = let same : ◌≡◌ {A = Taken} (Some f, None) t = cc in let held : ◌≡◌ {A = Option Event} None (Some e) = ap (λ (t : Taken). t.1) same ∙ has in absurd cc
        by_done false is = absurd cc

    at : HasLast s.lines → EndsWithEvent bodies
    at (no_line none) =
        let both : ◌≡◌ {A = Option Ends} (Some ([], None)) (Some (g, Some e)) = sym (ap (settled_from 0 [] None) none) ∙ s.by in
        let one : ◌≡◌ {A = Ends} ([], None) (g, Some e) = cc in
        let c : ◌≡◌ {A = Option Event} None (Some e) = ap (λ (p : Ends). p.1) one in
        absurd cc
    at (last_line front l split) =
        let push = splits front 0 (0 + length front) [] None l (g, Some e) refl (ap (settled_from 0 [] None) (sym split) ∙ s.by) in
        let entry = last_entry front l (subst (All IsEntry) split s.entries) in
        let is : l ≡ happened e = by_last (0 + length front) push.before.1 l push.last push.taken_is (ap (λ (p : Ends). p.1) push.is) in
        record {
          before = map text_of front;
          event = e;
          forms = subst IsFormed is entry.formed;
          is = s.are ∙ ap (map text_of) split ∙ map-append text_of front (l ∷ []) ∙ ap (λ k. map text_of front ++ text_of k ∷ []) is;
        }

-- ---- what is kept

-- an event that stands is the newest writer
stood : (stands : Option Event) (g : History) → with_stood stands (writers_of g) ≡ writers_of (with_was stands g)
stood None g = refl
stood (Some e) g = refl

pub kept_more : (bodies : List (List ℕ)) (body : List ℕ) (w : Writers) (held kept stands : Option Event) → IsKept bodies w held → IsBody body → IsTaken (length bodies) held kept body stands
    → IsKept (bodies ++ body ∷ []) (with_stood stands w) kept
kept_more bodies body w held kept stands k is_body is =
    let entry : IsEntry is.line = record { formed = is.formed; body = subst IsBody is.says is_body } in
    record {
      settled = with_was stands k.settled;
      says = settled_more bodies body k.settled held is.line (stands, kept) k.says entry is.says is.taken;
      writers_are = ap (with_stood stands) k.writers_are ∙ stood stands k.settled;
    }

-- bodies that say no history don't with one more
pub none_more : (bodies : List (List ℕ)) (body : List ℕ) → SaysNone bodies → SaysNone (bodies ++ body ∷ [])
none_more bodies body none h says =
    let ends = ends_in bodies body h says in
    none (with_was ends.held ends.settled) (says_all bodies ends.settled ends.held ends.before)

pub still_faulty : (bodies : List (List ℕ)) (body : List ℕ) (fault : Unreadable) → IsFaulty bodies fault → IsFaulty (bodies ++ body ∷ []) fault
still_faulty bodies body NotALine none = none_more bodies body none
still_faulty bodies body NoEventBefore none = none_more bodies body none
still_faulty bodies body (NoMemory _) none = tt
still_faulty bodies body Unsealed none = none
still_faulty bodies body TornLine none = none
still_faulty bodies body Read none = none

-- a line that says of another line than the one before that it is carried out isn't taken
other_number : (n k : ℕ) (held : Option Event) (t : Taken) → k ≢ n → taken n held (done k) ≡ Some t → ⊥
other_number n k None t other is = cc
other_number n k (Some e) t other is = at (k == n) refl is
  where
    at : (b : Bool) → (k == n) ≡ b → settled_if b e ≡ Some t → ⊥
    at true same is = other (eqb-true k n same)
    at false same is = cc

module _ (bodies : List (List ℕ)) (body : List ℕ) (w : Writers) (held : Option Event) (k : IsKept bodies w held) where
  -- the event that is held back before a body is that which is kept
  same_held : (h : History) (ends : EndsIn bodies body h) → ends.held ≡ held
  same_held h ends = ap (λ (p : Ends). p.1) (settled_one bodies ends.settled k.settled ends.held held ends.before k.says)

  pub not_a_line : ((line : Line) → IsFormed line → body ≢ text_of line) ⊎ IsOfOther (length bodies) body → SaysNone (bodies ++ body ∷ [])
  not_a_line (inl none) h says = let ends = ends_in bodies body h says in none ends.line ends.entry.formed ends.text
  not_a_line (inr of) h says =
      let ends = ends_in bodies body h says in
      let line : ends.line ≡ done of.number = same_line ends.line (done of.number) ends.entry.formed of.formed (sym ends.text ∙ of.says) in
      other_number (length bodies) of.number ends.held ends.last of.other (ap (taken (length bodies) ends.held) (sym line) ∙ ends.taken_is)

  pub no_event_before : IsOnEvent body → held ≡ None → SaysNone (bodies ++ body ∷ [])
  no_event_before on none h says =
      let ends = ends_in bodies body h says in
      let line : ends.line ≡ on.line = same_line ends.line on.line ends.entry.formed on.formed (sym ends.text ∙ on.says) in
      let both : ◌≡◌ {A = Option Taken} None (Some ends.last) =
      sym (on.needs (length bodies)) ∙ ap (taken (length bodies) None) (sym line) ∙ ap (λ w. taken (length bodies) w ends.line) (sym (same_held h ends ∙ none)) ∙ ends.taken_is in
      cc

-- ---- a keeper

-- why nothing more is taken
abbrev pub fault_of : Result ⊤ Unreadable → Option Unreadable
fault_of (Ok _) = None
fault_of (Err fault) = Some fault

-- what was taken is kept
pub is_kept : (bodies : List (List ℕ)) (body : List ℕ) (old new : Kept) (result : Result ⊤ Unreadable) (fault : Option Unreadable) → IsBody body → IsKept bodies (writers_meant old.settled) (held old.reader)
    → TakesBody (length bodies) body old new result → fault ≡ fault_of result → keeps_by fault (bodies ++ body ∷ []) new
is_kept bodies body old new (Ok _) fault is_body k takes is =
    subst (λ f. keeps_by f (bodies ++ body ∷ []) new) (sym is)
    (subst (λ w. IsKept (bodies ++ body ∷ []) w (held new.reader)) (sym takes.2) (kept_more bodies body (writers_meant old.settled) (held old.reader) (held new.reader) takes.0 k is_body takes.1))
is_kept bodies body old new (Err NotALine) fault is_body k takes is =
    subst (λ f. keeps_by f (bodies ++ body ∷ []) new) (sym is) (not_a_line bodies body (writers_meant old.settled) (held old.reader) k takes)
is_kept bodies body old new (Err NoEventBefore) fault is_body k takes is =
    subst (λ f. keeps_by f (bodies ++ body ∷ []) new) (sym is) (no_event_before bodies body (writers_meant old.settled) (held old.reader) k takes.0 takes.1)
is_kept bodies body old new (Err (NoMemory _)) fault is_body k takes is = subst (λ f. keeps_by f (bodies ++ body ∷ []) new) (sym is) tt
is_kept bodies body old new (Err Unsealed) fault is_body k takes is = absurd takes
is_kept bodies body old new (Err TornLine) fault is_body k takes is = absurd takes
is_kept bodies body old new (Err Read) fault is_body k takes is = absurd takes

-- behind a line that can't stand there nothing is kept
pub still_kept : (fault : Option Unreadable) (bodies : List (List ℕ)) (body : List ℕ) (old new : Kept) → is_some fault ≡ true → keeps_by fault bodies old → keeps_by fault (bodies ++ body ∷ []) new
still_kept None bodies body old new is kept = absurd cc
still_kept (Some fault) bodies body old new is kept = still_faulty bodies body fault kept

not_faulty : (fault : Option Unreadable) → is_some fault ≡ false → fault ≡ None
not_faulty None is = refl
not_faulty (Some fault) is = absurd cc

-- and before one all is
pub kept_on : (bodies : List (List ℕ)) (body : List ℕ) (before : ℕ) (old new : Kept) (result : Result ⊤ Unreadable) (fault : Option Unreadable) → is_some old.fault ≡ false → length bodies ≡ before → IsBody body → keeps bodies old
    → TakesBody before body old new result → fault ≡ fault_of result → keeps_by fault (bodies ++ body ∷ []) new
kept_on bodies body before old new result fault is counted is_body kept takes same =
    is_kept bodies body old new result fault is_body (subst (λ f. keeps_by f bodies old) (not_faulty old.fault is) kept) (subst (λ n. TakesBody n body old new result) (sym counted) takes) same

pub kept_as : (bodies : List (List ℕ)) (old new : Kept) → is_some old.fault ≡ false → new.fault ≡ old.fault → keeps_by None bodies new → keeps bodies new
kept_as bodies old new is same kept = subst (λ f. keeps_by f bodies new) (sym (same ∙ not_faulty old.fault is)) kept
