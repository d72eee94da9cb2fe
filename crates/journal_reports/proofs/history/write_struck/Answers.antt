use Rattle.std.proofs.Common.{rules, ◌≡◌, Err, refl}
use Rattle.std.specs.Prelude.{string_bytes}
use Rattle.journal_reports.proofs.Writing.{first_none, first_text}
use Rattle.journal_reports.proofs.history.write_struck.Goals as goal

pub returns : goal.returns
returns g c =
    first_text (g.W.Write.contents c.args.output.now.inner) (g.W.Write.contents c.write_line.new.output.inner) (string_bytes c.in_ok-text.text) _ c.write_line.result c.in_ok-text.ensures.text c.write_line.ensures

pub returns-in_err-text : goal.returns-in_err-text
returns-in_err-text g c =
    let told : c.from_residual.result ≡ Err c.in_err-text.field-0.0 = search rules in
    rw told (first_none (g.W.Write.contents c.args.output.now.inner) (g.W.Write.contents c.args.output.now.inner) _ c.in_err-text.field-0.0 c.in_err-text.ensures.none refl)
