-- What bytes tell.
use Rattle.std.proofs.Common.{◌≡◌, ◌≢◌, ◌⊎◌, inl, inr, ℕ, ◌-◌, ◌<◌, ◌==◌, true, false, List, [], ◌∷◌, ◌++◌, All, length, refl, sym, ap, subst, ◌∙◌, arith, append_assoc, length-append, take, drop, ◌≤◌, lt-ltb, ltb-true}
use Rattle.std.proofs.lemmas.List.{append-nil, take_at, drop_at, nil_from_length}
use Rattle.std.proofs.lemmas.List.Elements.{All-nil, All-cons, All-head, All-tail, All-push, All-take, All-drop}
use Rattle.std.specs.Prelude.{nat_lt, bytes_eq}
use Rattle.std.proofs.lemmas.Bool.{and_parts, and_from, cases_eq, cases_Bool}
use Rattle.std.proofs.lemmas.Slice.Eq.{bytes_eq-Decides}
use Rattle.streams.specs.Lines.{NoFeed}
use Rattle.sealed_log.specs.Sealed.{IsBody, longest, before_body, before_seal, behind_seal, wrapped, seal_on, no_seal, sealed_line, sealed_lines, sealed_with, last_seal, sealed_text, seal_of}
use Rattle.sealed_log.specs.Told.{body_in, is_sealed, told_from, told_behind, told, IsUnended, HasTail, HasMore, HasNoOther, HasNone}
use Rattle.sealed_log.proofs.SealFacts.{length-before_body, length-wrapped, NoFeed-wrapped, length-seal_on, length-sealed_line, last_seal-push, sealed_lines-push}

-- a byte that is no line feed goes on with its line
told_byte : (prior line : List ℕ) (byte : ℕ) (bytes : List ℕ) → byte ≢ 10 → told_from prior line (byte ∷ bytes) ≡ told_from prior (line ++ byte ∷ []) bytes
unfolding told_from
told_byte prior line byte bytes other =
    let test : (byte == 10) ≡ false = grind arith in
    rw (test, told_from) refl

-- one that is ends it
told_sealed : (prior line bytes : List ℕ) → is_sealed prior line ≡ true → told_from prior line (10 ∷ bytes) ≡ body_in line ∷ told_behind (seal_on prior (body_in line)) bytes
unfolding told_from
told_sealed prior line bytes is = rw (is, told_from) refl

told_no_seal : (prior line bytes : List ℕ) → is_sealed prior line ≡ false → told_from prior line (10 ∷ bytes) ≡ []
unfolding told_from
told_no_seal prior line bytes is = rw (is, told_from) refl

told_none : (prior line : List ℕ) → told_from prior line [] ≡ []
unfolding told_from
told_none prior line = refl

pub told_nothing : told [] ≡ []
told_nothing = told_none no_seal []

told_bytes : (prior line bytes rest : List ℕ) → NoFeed bytes → told_from prior line (bytes ++ rest) ≡ told_from prior (line ++ bytes) rest
told_bytes prior line [] rest body = ap (λ (l : List ℕ). told_from prior l rest) (sym (append-nil line))
told_bytes prior line (byte ∷ bytes) rest body =
    told_byte prior line byte (bytes ++ rest) (All-head (λ b. b ≢ 10) byte bytes body)
    ∙ told_bytes prior (line ++ byte ∷ []) bytes rest (All-tail (λ b. b ≢ 10) byte bytes body)
    ∙ ap (λ (l : List ℕ). told_from prior l rest) (append_assoc line (byte ∷ []) bytes)

-- what stands in a line where a body does
body_in_line : (body seal : List ℕ) → length seal ≡ 64 → body_in (wrapped body seal) ≡ body
body_in_line body seal size =
    let rest = before_seal ++ (seal ++ behind_seal) in
    let count : length (wrapped body seal) - 83 ≡ length body = omega (arith, length-wrapped body seal size) in
    ap (λ (l : List ℕ). take (length (wrapped body seal) - 83) l) (drop_at before_body (body ++ rest) 8 length-before_body)
    ∙ ap (λ n. take n (body ++ rest)) count
    ∙ take_at body rest (length body) refl

-- a line of the right length that is that of its body is sealed, and no other
sealed_parts : (prior line : List ℕ) → is_sealed prior line ≡ true
    → (length line < longest) × (line ≡ wrapped (body_in line) (seal_on prior (body_in line)))
sealed_parts prior line is =
    let parts = and_parts (nat_lt (length line) longest) (bytes_eq line (wrapped (body_in line) (seal_on prior (body_in line)))) is in
    (ltb-true (length line) longest parts.0, (bytes_eq-Decides line (wrapped (body_in line) (seal_on prior (body_in line)))).0 parts.1)

-- a line that is shorter than what stands round a body isn't sealed
pub short_line : (prior line : List ℕ) → length line < 83 → is_sealed prior line ≡ false
short_line prior line short = elim (cases_Bool (is_sealed prior line)) [
  | inl is ↦
      let body = body_in line in
      let same = (sealed_parts prior line is).1 in
      absurd (omega (arith, ap length same, length-wrapped body (seal_on prior body) (length-seal_on prior body)))
  | inr is_not ↦ is_not
]

-- nor is one that is too long
pub long_line : (prior line : List ℕ) → longest ≤ length line → is_sealed prior line ≡ false
long_line prior line long = elim (cases_Bool (is_sealed prior line)) [
  | inl is ↦ let low = (sealed_parts prior line is).0 in absurd (omega (arith, low, long))
  | inr is_not ↦ is_not
]

-- a line is sealed where it is short enough and that of its body
pub is_sealed_of : (prior line : List ℕ) → length line < longest → bytes_eq line (wrapped (body_in line) (seal_on prior (body_in line))) ≡ true
    → is_sealed prior line ≡ true
is_sealed_of prior line low same =
    and_from (nat_lt (length line) longest) (bytes_eq line (wrapped (body_in line) (seal_on prior (body_in line)))) (lt-ltb (length line) longest low) same

is_sealed-line : (prior body : List ℕ) → IsBody body → is_sealed prior (wrapped body (seal_on prior body)) ≡ true
is_sealed-line prior body is_body =
    let line = wrapped body (seal_on prior body) in
    let is = body_in_line body (seal_on prior body) (length-seal_on prior body) in
    let size = length-wrapped body (seal_on prior body) (length-seal_on prior body) in
    is_sealed_of prior line (omega (arith, size, is_body.fits))
    ((bytes_eq-Decides line (wrapped (body_in line) (seal_on prior (body_in line)))).1
    (ap (λ (b : List ℕ). wrapped b (seal_on prior b)) (sym is)))

pub line_parts : (prior body rest : List ℕ) → sealed_line prior body ++ rest ≡ wrapped body (seal_on prior body) ++ (10 ∷ rest)
line_parts prior body rest = append_assoc (wrapped body (seal_on prior body)) (10 ∷ []) rest

-- a sealed line tells its body
pub told_line : (prior body rest : List ℕ) → IsBody body → told_behind prior (sealed_line prior body ++ rest) ≡ body ∷ told_behind (seal_on prior body) rest
told_line prior body rest is_body =
    let seal = seal_on prior body in
    let line = wrapped body seal in
    let whole = NoFeed-wrapped prior body is_body.one in
    ap (told_behind prior) (line_parts prior body rest) ∙ told_bytes prior [] line (10 ∷ rest) whole
    ∙ told_sealed prior line rest (is_sealed-line prior body is_body)
    ∙ ap (λ (b : List ℕ). b ∷ told_behind (seal_on prior b) rest) (body_in_line body seal (length-seal_on prior body))

-- sealed lines tell their bodies, and what stands behind them tells what it tells there
pub told_lines : (prior : List ℕ) (bodies : List (List ℕ)) (tail : List ℕ) → All IsBody bodies
    → told_behind prior (sealed_lines prior bodies ++ tail) ≡ bodies ++ told_behind (last_seal prior bodies) tail
told_lines prior [] tail are = refl
told_lines prior (body ∷ more) tail are =
    ap (told_behind prior) (append_assoc (sealed_line prior body) (sealed_lines (seal_on prior body) more) tail)
    ∙ told_line prior body (sealed_lines (seal_on prior body) more ++ tail) (All-head IsBody body more are)
    ∙ ap (λ (l : List (List ℕ)). body ∷ l) (told_lines (seal_on prior body) more tail (All-tail IsBody body more are))

-- bytes without a line feed tell nothing
pub told_unended : (prior bytes : List ℕ) → NoFeed bytes → told_behind prior bytes ≡ []
told_unended prior bytes body =
    ap (told_behind prior) (sym (append-nil bytes)) ∙ told_bytes prior [] bytes [] body ∙ told_none prior bytes

-- nor do those of which no line feed comes soon enough
told_long : (prior line bytes : List ℕ) → longest ≤ length line → told_from prior line bytes ≡ []
told_long prior line [] long = told_none prior line
told_long prior line (byte ∷ bytes) long = elim (cases_eq byte 10) [
  | inl feed ↦ ap (λ b. told_from prior line (b ∷ bytes)) feed ∙ told_no_seal prior line bytes (long_line prior line long)
  | inr other ↦
      told_byte prior line byte bytes other
      ∙ told_long prior (line ++ byte ∷ []) bytes (omega (arith, long, length-append line (byte ∷ [])))
]

pub told_nowhere : (prior bytes : List ℕ) → IsUnended bytes → told_behind prior bytes ≡ []
told_nowhere prior bytes is = ap (told_behind prior) is.is ∙ told_bytes prior [] is.front is.rest is.none ∙ elim is.ends [
  | inl none ↦ ap (told_from prior is.front) none ∙ told_none prior is.front
  | inr long ↦ told_long prior is.front is.rest long
]

-- nor do those whose first line isn't sealed
pub told_other : (prior line rest : List ℕ) → NoFeed line → is_sealed prior line ≡ false → told_behind prior (line ++ 10 ∷ rest) ≡ []
told_other prior line rest body is = told_bytes prior [] line (10 ∷ rest) body ∙ told_no_seal prior line rest is

pub IsBody-body_in : (prior line : List ℕ) → NoFeed line → is_sealed prior line ≡ true → IsBody (body_in line)
IsBody-body_in prior line one is = record {
  one = All-take (λ b. b ≢ 10) (length line - 83) (drop 8 line) (All-drop (λ b. b ≢ 10) 8 line one);
  fits =
      let parts = sealed_parts prior line is in
      let body = body_in line in
      let low = parts.0 in
      omega (arith, low, ap length parts.1, length-wrapped body (seal_on prior body) (length-seal_on prior body));
}

-- bytes tell nothing, or the body of a sealed line and what stands behind that
pub record Next (prior bytes : List ℕ) (bodies : List (List ℕ)) : Type 0 where
  pub body : List ℕ
  pub rest : List ℕ
  pub is_body : IsBody body
  pub is : bytes ≡ sealed_line prior body ++ rest
  pub tells : bodies ≡ body ∷ told_behind (seal_on prior body) rest

pub parts_of : (prior line : List ℕ) → is_sealed prior line ≡ true → line ≡ wrapped (body_in line) (seal_on prior (body_in line))
parts_of prior line is = (sealed_parts prior line is).1

-- a line that is sealed, with its line feed
pub whole_line : (prior line rest : List ℕ) (byte : ℕ) → byte ≡ 10 → is_sealed prior line ≡ true
    → line ++ byte ∷ rest ≡ sealed_line prior (body_in line) ++ rest
whole_line prior line rest byte feed is =
    ap (λ b. line ++ b ∷ rest) feed
    ∙ ap (λ (l : List ℕ). l ++ 10 ∷ rest) (parts_of prior line is)
    ∙ sym (line_parts prior (body_in line) rest)

told_cases : (prior line bytes : List ℕ) → NoFeed line
    → (told_from prior line bytes ≡ []) ⊎ Next prior (line ++ bytes) (told_from prior line bytes)
told_cases prior line [] body = inl (told_none prior line)
told_cases prior line (byte ∷ bytes) body = elim (cases_eq byte 10) [
  | inl feed ↦ elim (cases_Bool (is_sealed prior line)) [
    | inl is ↦
        inr (record {
          body = body_in line;
          rest = bytes;
          is_body = IsBody-body_in prior line body is;
          is = whole_line prior line bytes byte feed is;
          tells = ap (λ b. told_from prior line (b ∷ bytes)) feed ∙ told_sealed prior line bytes is;
        })
    | inr is_not ↦ inl (ap (λ b. told_from prior line (b ∷ bytes)) feed ∙ told_no_seal prior line bytes is_not)
  ]
  | inr other ↦
      let onward = told_byte prior line byte bytes other in
      let now = told_from prior line (byte ∷ bytes) in
      let P : List ℕ → Type 0 = λ l. (now ≡ []) ⊎ Next prior l now in
      let Q : List (List ℕ) → Type 0 = λ bodies. (bodies ≡ []) ⊎ Next prior ((line ++ byte ∷ []) ++ bytes) bodies in
      subst P (append_assoc line (byte ∷ []) bytes)
      (subst Q (sym onward) (told_cases prior (line ++ byte ∷ []) bytes (All-push (λ b. b ≢ 10) line byte body other)))
]

-- bytes tell nothing, or they begin with a sealed line
pub told_next : (prior bytes : List ℕ) → (told_behind prior bytes ≡ []) ⊎ Next prior bytes (told_behind prior bytes)
told_next prior bytes = told_cases prior [] bytes (All-nil (λ b. b ≢ 10))

-- bytes begin with the sealed lines that they tell
pub record Begins (prior bytes : List ℕ) (bodies : List (List ℕ)) : Type 0 where
  pub rest : List ℕ
  pub is : bytes ≡ sealed_lines prior bodies ++ rest
  pub are : All IsBody bodies

begins_from : (prior line bytes : List ℕ) → NoFeed line → Begins prior (line ++ bytes) (told_from prior line bytes)
begins_from prior line [] body =
    subst (Begins prior (line ++ [])) (sym (told_none prior line)) (record { rest = line ++ []; is = refl; are = All-nil IsBody })
begins_from prior line (byte ∷ bytes) body = elim (cases_eq byte 10) [
  | inl feed ↦ elim (cases_Bool (is_sealed prior line)) [
    | inl is ↦
        let seal = seal_on prior (body_in line) in
        let more = begins_from seal [] bytes (All-nil (λ b. b ≢ 10)) in
        let told_now = ap (λ b. told_from prior line (b ∷ bytes)) feed ∙ told_sealed prior line bytes is in
        subst (Begins prior (line ++ byte ∷ bytes)) (sym told_now) (record {
          rest = more.rest;
          is = whole_line prior line bytes byte feed is
              ∙ ap (λ (l : List ℕ). sealed_line prior (body_in line) ++ l) more.is
              ∙ sym (append_assoc (sealed_line prior (body_in line)) (sealed_lines seal (told_behind seal bytes)) more.rest);
          are = All-cons IsBody (body_in line) (told_behind seal bytes) (IsBody-body_in prior line body is) more.are;
        })
    | inr is_not ↦
        let told_now = ap (λ b. told_from prior line (b ∷ bytes)) feed ∙ told_no_seal prior line bytes is_not in
        subst (Begins prior (line ++ byte ∷ bytes)) (sym told_now) (record { rest = line ++ byte ∷ bytes; is = refl; are = All-nil IsBody })
  ]
  | inr other ↦
      let onward = told_byte prior line byte bytes other in
      let more = begins_from prior (line ++ byte ∷ []) bytes (All-push (λ b. b ≢ 10) line byte body other) in
      subst (Begins prior (line ++ byte ∷ bytes)) (sym onward)
      (subst (λ (l : List ℕ). Begins prior l (told_from prior (line ++ byte ∷ []) bytes)) (append_assoc line (byte ∷ []) bytes) more)
]

pub told_begins : (prior bytes : List ℕ) → Begins prior bytes (told_behind prior bytes)
told_begins prior bytes = begins_from prior [] bytes (All-nil (λ b. b ≢ 10))

-- ---- what a crash leaves

pub told_tail : (bodies : List (List ℕ)) (tail : List ℕ) → All IsBody bodies
    → told (sealed_text bodies ++ tail) ≡ bodies ++ told_behind (seal_of bodies) tail
told_tail bodies tail are = told_lines no_seal bodies tail are

pub told_text : (bodies : List (List ℕ)) → All IsBody bodies → told (sealed_text bodies) ≡ bodies
told_text bodies are =
    ap told (sym (append-nil (sealed_text bodies))) ∙ told_tail bodies [] are
    ∙ ap (λ (l : List (List ℕ)). bodies ++ l) (told_none (seal_of bodies) []) ∙ append-nil bodies

pub told_unsealed : (bodies : List (List ℕ)) (most : ℕ) (file : List ℕ) → All IsBody bodies
    → HasTail (sealed_text bodies) most file → HasNone bodies file → told file ≡ bodies
told_unsealed bodies most file are has none =
    let nothing : told_behind (seal_of bodies) has.tail ≡ [] = elim (told_next (seal_of bodies) has.tail) [
      | inl is ↦ is
      | inr next ↦ absurd (none next.body next.rest next.is_body (has.is ∙ ap (λ (l : List ℕ). sealed_text bodies ++ l) next.is))
    ] in
    ap told has.is ∙ told_tail bodies has.tail are ∙ ap (λ (l : List (List ℕ)). bodies ++ l) nothing ∙ append-nil bodies

pub told_after_crash : (bodies : List (List ℕ)) (body file : List ℕ) → All IsBody bodies
    → HasTail (sealed_text bodies) (length (sealed_line (seal_of bodies) body)) file → HasNoOther bodies body file
    → (told file ≡ bodies) ⊎ (told file ≡ bodies ++ body ∷ [])
told_after_crash bodies body file are left no_other =
    let seal = seal_of bodies in
    let tail = left.tail in
    let tells = ap told left.is ∙ told_tail bodies tail are in
    elim (told_next seal tail) [
      | inl none ↦ inl (tells ∙ ap (λ (l : List (List ℕ)). bodies ++ l) none ∙ append-nil bodies)
      | inr next ↦
          let same : next.body ≡ body = no_other next.body next.rest next.is_body (left.is ∙ ap (λ (l : List ℕ). sealed_text bodies ++ l) next.is) in
          let long = length-append (sealed_line seal next.body) next.rest in
          let this = length-sealed_line seal next.body in
          let that = length-sealed_line seal body in
          let as_long = ap length next.is in
          let bodies_long = ap length same in
          let ended : next.rest ≡ [] = nil_from_length next.rest (omega (arith, long, this, that, as_long, bodies_long, left.short)) in
          inr (tells ∙ ap (λ (l : List (List ℕ)). bodies ++ l)
          (next.tells ∙ ap (λ (l : List ℕ). next.body ∷ told_behind (seal_on seal next.body) l) ended
          ∙ ap (λ (l : List (List ℕ)). next.body ∷ l) (told_none (seal_on seal next.body) []) ∙ ap (λ (b : List ℕ). b ∷ []) same))
    ]

-- a line that goes before others isn't told, or it is there, and behind it what is left of them
pub told_or_behind : (bodies settling : List (List ℕ)) (first body file : List ℕ) → All IsBody bodies
    → HasTail (sealed_text bodies) (length (sealed_with (seal_of bodies) (first ∷ settling) body)) file → HasNoOther bodies first file
    → (told file ≡ bodies) ⊎ HasTail (sealed_text (bodies ++ first ∷ [])) (length (sealed_with (seal_of (bodies ++ first ∷ [])) settling body)) file
told_or_behind bodies settling first body file are left no_other =
    let seal = seal_of bodies in
    let tail = left.tail in
    let line = sealed_line seal first in
    elim (told_next seal tail) [
      | inl none ↦ inl (ap told left.is ∙ told_tail bodies tail are ∙ ap (λ (l : List (List ℕ)). bodies ++ l) none ∙ append-nil bodies)
      | inr next ↦
          let same : next.body ≡ first = no_other next.body next.rest next.is_body (left.is ∙ ap (λ (l : List ℕ). sealed_text bodies ++ l) next.is) in
          let parts : tail ≡ line ++ next.rest = next.is ∙ ap (λ (b : List ℕ). sealed_line seal b ++ next.rest) same in
          let rest = sealed_with (seal_on seal first) settling body in
          let whole : sealed_with seal (first ∷ settling) body ≡ line ++ rest =
          append_assoc line (sealed_lines (seal_on seal first) settling) (sealed_line (last_seal (seal_on seal first) settling) body) in
          let seals : seal_of (bodies ++ first ∷ []) ≡ seal_on seal first = last_seal-push no_seal bodies first in
          let short : length next.rest ≤ length rest =
          omega (arith, left.short, ap length parts, length-append line next.rest, ap length whole, length-append line rest) in
          inr (record {
            tail = next.rest;
            short = subst (λ (s : List ℕ). length next.rest ≤ length (sealed_with s settling body)) (sym seals) short;
            is = left.is ∙ ap (λ (l : List ℕ). sealed_text bodies ++ l) parts ∙ sym (append_assoc (sealed_text bodies) line next.rest)
                ∙ ap (λ (l : List ℕ). l ++ next.rest) (sym (sealed_lines-push no_seal bodies first));
          })
    ]

-- what a crash leaves of two lines
pub told_after_both : (bodies : List (List ℕ)) (first body file : List ℕ) → All IsBody bodies → IsBody first
    → HasTail (sealed_text bodies) (length (sealed_with (seal_of bodies) (first ∷ []) body)) file → HasNoOther bodies first file
    → HasNoOther (bodies ++ first ∷ []) body file
    → (told file ≡ bodies) ⊎ (told file ≡ bodies ++ first ∷ []) ⊎ (told file ≡ (bodies ++ first ∷ []) ++ body ∷ [])
told_after_both bodies first body file are is_first left no_other none_behind = elim (told_or_behind bodies [] first body file are left no_other) [
  | inl none ↦ inl none
  | inr behind ↦ inr (told_after_crash (bodies ++ first ∷ []) body file (All-push IsBody bodies first are is_first) behind none_behind)
]

longer : (prior : List ℕ) (a b : List (List ℕ)) → length (sealed_lines prior a) ≤ length (sealed_lines prior (a ++ b))
longer prior [] b = omega arith
longer prior (x ∷ a) b =
    omega (
      arith,
      longer (seal_on prior x) a b,
      length-append (sealed_line prior x) (sealed_lines (seal_on prior x) a),
      length-append (sealed_line prior x) (sealed_lines (seal_on prior x) (a ++ b)),
    )

-- what a crash leaves has no more behind what it tells
pub no_more_behind : (bodies : List (List ℕ)) (file : List ℕ) → All IsBody bodies → HasTail (sealed_text bodies) longest file
    → HasMore file → ⊥
no_more_behind bodies file are has more =
    let tells : told file ≡ bodies ++ told_behind (seal_of bodies) has.tail = ap told has.is ∙ told_tail bodies has.tail are in
    let long = longer no_seal bodies (told_behind (seal_of bodies) has.tail) in
    let same : length (sealed_text (told file)) ≡ length (sealed_text (bodies ++ told_behind (seal_of bodies) has.tail)) =
    ap (λ (l : List (List ℕ)). length (sealed_text l)) tells in
    let size = ap length has.is ∙ length-append (sealed_text bodies) has.tail in
    omega (arith, long, same, size, has.short, more)
