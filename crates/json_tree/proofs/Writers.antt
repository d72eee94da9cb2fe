-- What a `Writer` shows, and what one more token does to it.
use Rattle.std.proofs.Common.{◌≡◌, false, [], ◌∷◌, ◌++◌, take, IsUtf8, subst, sym, ap, ◌∙◌, arith}
use Rattle.std.proofs.lemmas.Str.{IsUtf8-append, IsUtf8-nil}
use Rattle.json.specs.Token.{Token}
use Rattle.json.specs.Lex.{tokens}
use Rattle.json.specs.Print.{print_from, separator, token_text, ends, IsPrintable, ArePrintable}
use Rattle.json.proofs.Printed.Tokens.{tokens-print, print_from_push, ends_push, ArePrintable-push}
use Rattle.json.proofs.Printed.Utf8.{IsUtf8-separator}
use Rattle.json_tree.specs.Grows.{Grows}
use Rattle.json_tree.specs.Writer.{text_in, writer_view, IsWriter}
use Rattle.json_tree.specs.declared.writer.Writer.TheInside.{Inside}

pub shows_printed : (w : Inside) (h : IsWriter w) → writer_view w ≡ h.printed
shows_printed w h = ap tokens h.text ∙ tokens-print h.printed h.printable

pub no_token : (w : Inside) → w.end ≡ 0 → w.after_value ≡ false → IsWriter w
unfolding print_from ArePrintable
no_token w start place =
    let empty : text_in w ≡ [] = ap (λ n. take n w.bytes.items) start in
    record {
      within = omega (arith, start);
      printed = [];
      printable = tt;
      text = empty;
      place = place;
      utf8 = subst IsUtf8 (sym empty) IsUtf8-nil;
    }

module _ (w v : Inside) (h : IsWriter w) (t : Token) (printable : IsPrintable t) (utf8 : IsUtf8 (token_text t)) (place : v.after_value ≡ ends t)
    (grew : Grows w.bytes.items w.end (separator w.after_value t ++ token_text t) v.bytes.items v.end) where
  pub pushed : IsWriter v
  pushed = record {
    within = grew.within;
    printed = h.printed ++ t ∷ [];
    printable = ArePrintable-push h.printed t h.printable printable;
    text = grew.text ∙ (λ i. h.text i ++ (separator (h.place i) t ++ token_text t)) ∙ sym (print_from_push false h.printed t);
    place = place ∙ sym (ends_push false h.printed t);
    utf8 = subst IsUtf8 (sym grew.text) (IsUtf8-append _ _ h.utf8 (IsUtf8-append _ _ (IsUtf8-separator w.after_value t) utf8));
  }

  pub pushed_tokens : writer_view v ≡ writer_view w ++ t ∷ []
  unfolding pushed
  pushed_tokens = shows_printed v pushed ∙ ap (λ l. l ++ t ∷ []) (sym (shows_printed w h))
