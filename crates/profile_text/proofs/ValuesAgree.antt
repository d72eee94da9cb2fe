-- Numbers, names and texts agree with their relations.
use Rattle.std.proofs.Common.{◌≡◌, ◌∙◌, ℕ, List, [], ◌∷◌, Bool, true, false, cond, Option, Some, None, bytes_eq, refl, sym, ap, subst}
use Rattle.std.specs.Prelude.{codes, is_some, unwrap_or}
use Rattle.serde_json.specs.Data.{Data, null, boolean, number, string, array, object}
use Rattle.seccomp_doc.specs.declared.action.ActionWord.{ActionWord}
use Rattle.seccomp_doc.specs.declared.compare.Op.{Op}
use Rattle.seccomp_doc.specs.Action.{action_word_named}
use Rattle.seccomp_doc.specs.Compare.{op_named}
use Rattle.profile_text.specs.declared.fault.DocFault.{DocFault}
use Rattle.profile_text.specs.declared.fault.DocFault.TheVariants.{UnknownWord, BadNumber}
use Rattle.profile_text.specs.FilterParts.{u64_of, whole_number, number_in, action_in, op_in, string_in}
use Rattle.profile_text.specs.FilterReads.{IsNumber, IsSomeNumber, IsAction, IsOp, IsTextOf}
use Rattle.profile_text.specs.FilterShape.{number_faults, action_faults, op_faults, is_action_name}
use Rattle.profile_text.specs.Shape.{refused_faults, word_faults}
use Rattle.profile_text.proofs.Agreeing.{Agrees}
use Rattle.profile_text.proofs.Picks.{same_name}

-- where a test passes there is something
some_by : {X : Type 0} (o : Option X) (fault : DocFault) (other : X) → cond (is_some o) [] (fault ∷ []) ≡ [] → o ≡ Some (unwrap_or o other)
some_by None fault other e = absurd (cc)
some_by (Some x) fault other e = refl

none_by : {X : Type 0} (o : Option X) (fault : DocFault) (x : X) → o ≡ Some x → cond (is_some o) [] (fault ∷ []) ≡ []
none_by o fault x e = rw e refl

same_by : {X : Type 0} (o : Option X) (other x : X) → o ≡ Some x → unwrap_or o other ≡ x
same_by o other x e = rw e refl

-- ---- numbers

number_stands : (path : List ℕ) (d : Data) → number_faults path d ≡ [] → IsNumber d (number_in d)
unfolding number_faults
number_stands path (number n) e = some_by (u64_of n) (BadNumber path) 0 e
number_stands path null e = absurd (cc)
number_stands path (boolean b) e = absurd (cc)
number_stands path (string s) e = absurd (cc)
number_stands path (array ds) e = absurd (cc)
number_stands path (object ms) e = absurd (cc)

number_faultless : (path : List ℕ) (d : Data) (x : ℕ) → IsNumber d x → number_faults path d ≡ []
unfolding number_faults
number_faultless path (number n) x h = none_by (u64_of n) (BadNumber path) x h
number_faultless path null x h = absurd h
number_faultless path (boolean b) x h = absurd h
number_faultless path (string s) x h = absurd h
number_faultless path (array ds) x h = absurd h
number_faultless path (object ms) x h = absurd h

number_same : (d : Data) (x : ℕ) → IsNumber d x → number_in d ≡ x
number_same (number n) x h = same_by (u64_of n) 0 x h
number_same null x h = absurd h
number_same (boolean b) x h = absurd h
number_same (string s) x h = absurd h
number_same (array ds) x h = absurd h
number_same (object ms) x h = absurd h

pub number_agrees : Agrees number_faults number_in IsNumber
number_agrees = record { stands = number_stands; faultless = number_faultless; same = number_same }

-- the same of a number that is some number
whole_is : (d : Data) (n : ℕ) → IsNumber d n → whole_number d ≡ Some n
whole_is (number x) n h = h
whole_is null n h = absurd h
whole_is (boolean b) n h = absurd h
whole_is (string s) n h = absurd h
whole_is (array ds) n h = absurd h
whole_is (object ms) n h = absurd h

some_faultless : (path : List ℕ) (d : Data) (x : Option ℕ) → IsSomeNumber d x → number_faults path d ≡ []
some_faultless path d None h = absurd h
some_faultless path d (Some n) h = number_faultless path d n h

some_same : (d : Data) (x : Option ℕ) → IsSomeNumber d x → whole_number d ≡ x
some_same d None h = absurd h
some_same d (Some n) h = whole_is d n h

pub some_number_agrees : Agrees number_faults whole_number IsSomeNumber
some_number_agrees = record {
  stands = λ path d e. let h = number_stands path d e in subst (IsSomeNumber d) (sym (whole_is d (number_in d) h)) h;
  faultless = some_faultless;
  same = some_same;
}

-- ---- actions

notify_by : (path s : List ℕ) (b : Bool) → bytes_eq s (codes "SCMP_ACT_NOTIFY") ≡ b → cond b (refused_faults path (string s)) (word_faults is_action_name path (string s)) ≡ [] → word_faults is_action_name path (string s) ≡ []
notify_by path s true is e = absurd (cc)
notify_by path s false is e = e

action_stands : (path : List ℕ) (d : Data) → action_faults path d ≡ [] → IsAction d (action_in d)
unfolding action_faults word_faults
action_stands path (string s) e = some_by (action_word_named s) (UnknownWord path) _ (notify_by path s (bytes_eq s (codes "SCMP_ACT_NOTIFY")) refl e)
action_stands path null e = absurd (cc)
action_stands path (boolean b) e = absurd (cc)
action_stands path (number n) e = absurd (cc)
action_stands path (array ds) e = absurd (cc)
action_stands path (object ms) e = absurd (cc)

no_action : action_word_named (codes "SCMP_ACT_NOTIFY") ≡ None
unfolding action_word_named
no_action = refl

named_is_no_notify : (path s : List ℕ) (word : ActionWord) (b : Bool) → bytes_eq s (codes "SCMP_ACT_NOTIFY") ≡ b → action_word_named s ≡ Some word → word_faults is_action_name path (string s) ≡ []
    → cond b (refused_faults path (string s)) (word_faults is_action_name path (string s)) ≡ []
named_is_no_notify path s word true is h e = absurd (let none : ◌≡◌ {A = Option ActionWord} None (Some word) = sym no_action ∙ (ap action_word_named (sym (same_name s _ is)) ∙ h) in cc)
named_is_no_notify path s word false is h e = e

action_faultless : (path : List ℕ) (d : Data) (x : ActionWord) → IsAction d x → action_faults path d ≡ []
unfolding action_faults word_faults
action_faultless path (string s) x h = named_is_no_notify path s x (bytes_eq s (codes "SCMP_ACT_NOTIFY")) refl h (none_by (action_word_named s) (UnknownWord path) x h)
action_faultless path null x h = absurd h
action_faultless path (boolean b) x h = absurd h
action_faultless path (number n) x h = absurd h
action_faultless path (array ds) x h = absurd h
action_faultless path (object ms) x h = absurd h

action_same : (d : Data) (x : ActionWord) → IsAction d x → action_in d ≡ x
action_same (string s) x h = same_by (action_word_named s) _ x h
action_same null x h = absurd h
action_same (boolean b) x h = absurd h
action_same (number n) x h = absurd h
action_same (array ds) x h = absurd h
action_same (object ms) x h = absurd h

pub action_agrees : Agrees action_faults action_in IsAction
action_agrees = record { stands = action_stands; faultless = action_faultless; same = action_same }

-- ---- operators

op_stands : (path : List ℕ) (d : Data) → op_faults path d ≡ [] → IsOp d (op_in d)
unfolding word_faults
op_stands path (string s) e = some_by (op_named s) (UnknownWord path) _ e
op_stands path null e = absurd (cc)
op_stands path (boolean b) e = absurd (cc)
op_stands path (number n) e = absurd (cc)
op_stands path (array ds) e = absurd (cc)
op_stands path (object ms) e = absurd (cc)

op_faultless : (path : List ℕ) (d : Data) (x : Op) → IsOp d x → op_faults path d ≡ []
unfolding word_faults
op_faultless path (string s) x h = none_by (op_named s) (UnknownWord path) x h
op_faultless path null x h = absurd h
op_faultless path (boolean b) x h = absurd h
op_faultless path (number n) x h = absurd h
op_faultless path (array ds) x h = absurd h
op_faultless path (object ms) x h = absurd h

op_same : (d : Data) (x : Op) → IsOp d x → op_in d ≡ x
op_same (string s) x h = same_by (op_named s) _ x h
op_same null x h = absurd h
op_same (boolean b) x h = absurd h
op_same (number n) x h = absurd h
op_same (array ds) x h = absurd h
op_same (object ms) x h = absurd h

pub op_agrees : Agrees op_faults op_in IsOp
op_agrees = record { stands = op_stands; faultless = op_faultless; same = op_same }

-- ---- texts of a form

form_by : (b : Bool) (fault : DocFault) → cond b [] (fault ∷ []) ≡ [] → b ≡ true
form_by true fault e = refl
form_by false fault e = absurd (cc)

text_stands : (form : List ℕ → Bool) (path : List ℕ) (d : Data) → word_faults form path d ≡ [] → IsTextOf form d (string_in d)
unfolding word_faults
text_stands form path (string s) e = (form_by (form s) (UnknownWord path) e, refl)
text_stands form path null e = absurd (cc)
text_stands form path (boolean b) e = absurd (cc)
text_stands form path (number n) e = absurd (cc)
text_stands form path (array ds) e = absurd (cc)
text_stands form path (object ms) e = absurd (cc)

text_faultless : (form : List ℕ → Bool) (path : List ℕ) (d : Data) (x : List ℕ) → IsTextOf form d x → word_faults form path d ≡ []
unfolding word_faults
text_faultless form path (string s) x h = rw h.0 refl
text_faultless form path null x h = absurd h
text_faultless form path (boolean b) x h = absurd h
text_faultless form path (number n) x h = absurd h
text_faultless form path (array ds) x h = absurd h
text_faultless form path (object ms) x h = absurd h

text_same : (form : List ℕ → Bool) (d : Data) (x : List ℕ) → IsTextOf form d x → string_in d ≡ x
text_same form (string s) x h = sym h.1
text_same form null x h = absurd h
text_same form (boolean b) x h = absurd h
text_same form (number n) x h = absurd h
text_same form (array ds) x h = absurd h
text_same form (object ms) x h = absurd h

pub text_agrees : (form : List ℕ → Bool) → Agrees (word_faults form) string_in (IsTextOf form)
text_agrees form = record { stands = text_stands form; faultless = text_faultless form; same = text_same form }
