use Rattle.std.proofs.Common.{◌≡◌, ◌∙◌, Bool, true, false, inl, inr, refl, sym}
use Rattle.std.specs.Prelude.{not}
use Rattle.reading_commands.proofs.moment.note_change.Goals as goal

is_true : (b : Bool) → not b ≡ false → b ≡ true
is_true true is = refl
is_true false is = sym is

is_false : (b : Bool) → not b ≡ true → b ≡ false
is_false true is = sym is
is_false false is = refl

pub returns-then-ne : goal.returns-then-ne
returns-then-ne g c = inr (is_false _ (sym c.ne.ensures ∙ c.if-ne.true), c.say.ensures)

pub returns-else-ne : goal.returns-else-ne
returns-else-ne g c = inl (is_true _ (sym c.ne.ensures ∙ c.if-ne.false), refl)
