-- The fields of a `Writer`.
use Rattle.std.specs.Prelude.{◌≡◌, ◌≤◌, ℕ, List, length, take}
use Rattle.std.specs.Str.{IsUtf8}
use Rattle.json.specs.Token.{Token}
use Rattle.json.specs.Lex.{tokens}
use Rattle.json.specs.Print.{print, ends_value, ArePrintable}
use Rattle.json_tree.specs.declared.writer.Writer.TheInside.{Inside}

-- the bytes up to the end
abbrev pub text_in : Inside → List ℕ
text_in w = take w.end w.bytes.items

-- the tokens that a reader finds in the text
abbrev pub writer_view : Inside → List Token
writer_view w = tokens (text_in w)

-- the text is a print of some tokens
pub record IsWriter (w : Inside) : Type 0 where
  pub within : w.end ≤ length w.bytes.items
  pub printed : List Token
  pub printable : ArePrintable printed
  pub text : text_in w ≡ print printed
  pub place : w.after_value ≡ ends_value printed
  pub utf8 : IsUtf8 (text_in w)
