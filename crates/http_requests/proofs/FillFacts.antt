-- What filling a buffer comes to.
use Rattle.std.proofs.Common.{◌≡◌, ◌∙◌, ◌+◌, ◌-◌, ◌≤◌, ℕ, List, ◌++◌, length, take, drop, min, Option, sym, ap, subst, arith, inl, inr, length-append}
use Rattle.std.proofs.KnownBytes.{Consumes-trans}
use Rattle.std.proofs.lemmas.Bool.{cases_lt}
use Rattle.std.proofs.lemmas.List.{take-append-drop, take-append-le, take-take, take_all, drop-append-le, length-take-le, length-drop}
use Rattle.std.proofs.Math.Seq.{take-add}
use Rattle.std.specs.Io.KnownBytes.{Consumes}
use Rattle.streams.specs.Some.{some_count}
use Rattle.streams.specs.declared.some.SomeRead.{SomeRead}
use Rattle.http_requests.specs.Heard.{IsBody, IsFilled, ReadsBehind}

-- so far this much of a buffer is filled
pub record Filling (before now : Option (List ℕ)) (kept filled : ℕ) (old buffer : List ℕ) : Type 0 where
  pub same_length : length buffer ≡ length old
  pub low : kept ≤ filled
  pub high : filled ≤ length buffer
  pub same_front : take kept buffer ≡ take kept old
  pub bytes : Consumes before now (drop kept (take filled buffer))

module _ (before now : Option (List ℕ)) (kept filled : ℕ) (old buffer : List ℕ) (f : Filling before now kept filled old buffer) where
  pub filling_more : (after : Option (List ℕ)) (new : List ℕ) (read : SomeRead) → ReadsBehind now after filled buffer new read
      → Filling before after kept (filled + some_count read) old new
  filling_more after new read r =
      let short : length (take filled new) ≡ filled = length-take-le filled new (omega (arith, r.same_length, f.high)) in
      let front : take kept new ≡ take kept buffer = sym (take-take kept filled new f.low) ∙ ap (take kept) r.same_front ∙ take-take kept filled buffer f.low in
      let parts : drop kept (take (filled + some_count read) new) ≡ drop kept (take filled buffer) ++ take (some_count read) (drop filled new) =
      ap (drop kept) (take-add filled (some_count read) new)
      ∙ drop-append-le kept (take filled new) (take (some_count read) (drop filled new)) (omega (arith, short, f.low))
      ∙ ap (λ bytes. drop kept bytes ++ take (some_count read) (drop filled new)) r.same_front in
      record {
        same_length = r.same_length ∙ f.same_length;
        low = omega (arith, f.low);
        high = omega (arith, r.fits, r.same_length);
        same_front = front ∙ f.same_front;
        bytes = subst (λ (bytes : List ℕ). Consumes before after bytes) (sym parts)
            (Consumes-trans before now after (drop kept (take filled buffer)) (take (some_count read) (drop filled new)) f.bytes r.bytes);
      }

-- ---- a body, of which a front part was read before

-- the body before it is read: that front part, and then zeros
pub begun : (front zeros old extended : List ℕ) (held size : ℕ) → held ≡ min (length front) size → extended ≡ take held front
    → old ≡ take size extended ++ zeros → take held old ≡ take held front
begun front zeros old extended held size is e f =
    let short : length (take held front) ≡ held = length-take-le held front (omega (arith, is)) in
    let all : take size (take held front) ≡ take held front = take_all size (take held front) (omega (arith, is, short)) in
    ap (take held) (f ∙ ap (λ bytes. take size bytes ++ zeros) e ∙ ap (λ bytes. bytes ++ zeros) all)
    ∙ take-append-le held (take held front) zeros (omega (arith, short)) ∙ take-take held held front (omega arith)

module _ (before after : Option (List ℕ)) (front : List ℕ) (held size : ℕ) (old : List ℕ) (is : held ≡ min (length front) size) (sized : length old ≡ size)
    (same : take held old ≡ take held front) where
  pub body_filled : (new : List ℕ) → IsFilled before after held old new → IsBody before after front size new
  body_filled new f =
      let rest : length (drop held new) ≡ length new - held = length-drop held new in
      let parts : new ≡ take held front ++ drop held new = sym (take-append-drop held new) ∙ ap (λ bytes. bytes ++ drop held new) (f.same_front ∙ same) in
      let long : length (front ++ drop held new) ≡ length front + length (drop held new) = length-append front _ in (
        drop held new,
        f.bytes,
        omega (arith, rest, long, f.same_length, sized, is),
        elim (cases_lt (length front) size) [
          | inl short ↦
              parts ∙ ap (λ bytes. bytes ++ drop held new) (take_all held front (omega (arith, is, short)))
              ∙ sym (take_all size (front ++ drop held new) (omega (arith, rest, long, f.same_length, sized, short, is)))
          | inr enough ↦
              let all : held ≡ size = omega (arith, enough, is) in
              let whole : new ≡ take size front = sym (take_all held new (omega (arith, all, f.same_length, sized))) ∙ f.same_front ∙ same ∙ ap (λ n. take n front) all in
              whole ∙ sym (take-append-le size front (drop held new) enough)
        ],
      )
