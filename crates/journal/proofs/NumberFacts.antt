-- The number of a revision that a text may name is from 1 to 9,999.
use Rattle.std.proofs.Common.{◌≡◌, ℕ, List, Option, Some, None, Bool, true, false, cond, refl, subst, arith, leb-true}
use Rattle.std.specs.Prelude.{◌&&◌, codes, nat_le, option_and_then}
use Rattle.std.proofs.lemmas.Bool.{and_parts}
use Rattle.serde_json.specs.Data.{Data}
use Rattle.std.specs.Str.{bytes_eq}
use Rattle.review_policy.specs.Acts.{profile_act_of, revision_act_of}
use Rattle.review_policy.specs.declared.act.ProfileAct.{ProfileAct}
use Rattle.review_policy.specs.declared.act.RevisionAct.{RevisionAct}
use Rattle.json_requests.specs.Members.{◌>>=◌, digest_at, if_revision, name_at, revision_at, roles_at, text_at, vote_at, whole_at, word_at}
use Rattle.json_requests.specs.Requests.{value_of}
use Rattle.office_policy.specs.Formed.{IsNumber}
use Rattle.journal.specs.Forms.{IsNumbered}
use Rattle.journal.specs.Lines.{Line, strike}
use Rattle.journal.specs.Read.{acted_at, acted_on_profile_at, acted_on_revision_at, caller_at, candidate_at, candidate_in, done_at, enrolled_at, founded_at, line_at, listed_at, submitted_at, voted_at}

in_range : (m n : ℕ) → if_revision m ≡ Some n → IsNumber n
in_range m n found = by_test (nat_le 1 m && nat_le m 9999) refl found
  where
    by_test : (b : Bool) → (nat_le 1 m && nat_le m 9999) ≡ b → cond b (Some m) None ≡ Some n → IsNumber n
    by_test true is given =
        let same : m ≡ n = cc in
        let parts = and_parts (nat_le 1 m) (nat_le m 9999) is in
        let low = leb-true 1 m parts.0 in
        let high = leb-true m 9999 parts.1 in
        (omega arith, omega arith)
    by_test false is given = cc

number_is : (d : Data) (n : ℕ) → revision_at d ≡ Some n → IsNumber n
unfolding revision_at
number_is d n found = at (whole_at (codes "revision") d) found
  where
    at : (o : Option ℕ) → option_and_then if_revision o ≡ Some n → IsNumber n
    at None h = cc
    at (Some m) h = in_range m n h

-- each line that this may be has its number
abbrev AllNumbered : Option Line → Type 0
AllNumbered o = (l : Line) → o ≡ Some l → IsNumbered l

none_found : AllNumbered None
none_found l h = cc

one_found : (m : Line) → IsNumbered m → AllNumbered (Some m)
one_found m numbered l h = let same : m ≡ l = cc in subst IsNumbered same numbered

after : {A : Type 0} (o : Option A) (f : A → Option Line) → ((x : A) → o ≡ Some x → AllNumbered (f x)) → AllNumbered (o >>= f)
after None f each = none_found
after (Some x) f each = each x refl

founding : (d : Data) → AllNumbered (founded_at d)
unfolding founded_at
founding d =
    after (word_at (codes "user") d) _ (λ name is. after (word_at (codes "team") d) _ (λ team is. after (digest_at d) _ (λ digest is.
    after (listed_at d) _ (λ listed is. one_found _ tt))))

enrolment : (d : Data) → AllNumbered (enrolled_at d)
unfolding enrolled_at
enrolment d =
    after (caller_at d) _ (λ caller is. after (word_at (codes "user") d) _ (λ name is. after (word_at (codes "team") d) _ (λ team is.
    after (roles_at d) _ (λ roles is. after (digest_at d) _ (λ digest is. one_found _ tt)))))

submission : (d : Data) → AllNumbered (submitted_at d)
unfolding submitted_at
submission d =
    after (caller_at d) _ (λ caller is. after (name_at d) _ (λ name is. after (text_at (codes "document") d) _ (λ text is. one_found _ tt)))

vote : (d : Data) → AllNumbered (voted_at d)
unfolding voted_at
vote d =
    after (caller_at d) _ (λ caller is. after (name_at d) _ (λ name is. after (revision_at d) _ (λ n found.
    after (digest_at d) _ (λ digest is. after (vote_at d) _ (λ approves is. one_found _ (number_is d n found))))))

on_revision : (act : RevisionAct) (d : Data) → AllNumbered (acted_on_revision_at act d)
unfolding acted_on_revision_at
on_revision act d =
    after (caller_at d) _ (λ caller is. after (name_at d) _ (λ name is. after (revision_at d) _ (λ n found. one_found _ (number_is d n found))))

on_profile : (act : ProfileAct) (d : Data) → AllNumbered (acted_on_profile_at act d)
unfolding acted_on_profile_at
on_profile act d = after (caller_at d) _ (λ caller is. after (name_at d) _ (λ name is. one_found _ tt))

settled : (d : Data) → AllNumbered (done_at d)
unfolding done_at
settled d = after (whole_at (codes "of") d) _ (λ n is. one_found _ tt)

by_act : (of_revision : Option RevisionAct) (of_profile : Option ProfileAct) (d : Data) → AllNumbered (acted_at of_revision of_profile d)
by_act (Some act) of_profile d = on_revision act d
by_act None (Some act) d = on_profile act d
by_act None None d = none_found

either : (b : Bool) (x y : Option Line) → AllNumbered x → AllNumbered y → AllNumbered (cond b x y)
either true x y first second = first
either false x y first second = second

by_word : (word : List ℕ) (d : Data) → AllNumbered (line_at word d)
by_word word d =
    either (bytes_eq word (codes "found")) _ _ (founding d)
    (either (bytes_eq word (codes "enrol")) _ _ (enrolment d)
    (either (bytes_eq word (codes "submit")) _ _ (submission d)
    (either (bytes_eq word (codes "vote")) _ _ (vote d)
    (either (bytes_eq word (codes "strike")) _ _ (one_found strike tt)
    (either (bytes_eq word (codes "done")) _ _ (settled d)
    (by_act (revision_act_of word) (profile_act_of word) d))))))

in_object : (d : Data) → AllNumbered (candidate_at d)
unfolding candidate_at
in_object d = after (text_at (codes "event") d) _ (λ word is. by_word word d)

pub numbered : (text : List ℕ) (l : Line) → candidate_in text ≡ Some l → IsNumbered l
unfolding candidate_in
numbered text = at (value_of text)
  where
    at : (o : Option Data) → AllNumbered (option_and_then candidate_at o)
    at None = none_found
    at (Some d) = in_object d
