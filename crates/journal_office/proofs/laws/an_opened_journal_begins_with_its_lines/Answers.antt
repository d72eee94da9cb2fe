use Rattle.std.proofs.Common.{◌∙◌, [], ◌∷◌, ap, inl, inr, sym, append-nil}
use Rattle.sealed_log.specs.Log.{bodies_of}
use Rattle.sealed_log.specs.Sealed.{seal_of}
use Rattle.sealed_log.specs.Told.{told, told_behind}
use Rattle.sealed_log.proofs.ToldFacts.{told_tail}
use Rattle.journal.specs.Journals.{BeginsWith, begins_on}
use Rattle.journal.specs.Lines.{strike, text_of}
use Rattle.journal_office.proofs.laws.an_opened_journal_begins_with_its_lines.Goals as goal

pub returns : goal.returns
returns g c = λ mark old log x bodies are begins again clean.
    let f = g.D.Disk in
    let was : BeginsWith bodies (bodies_of f log) = record { more = told_behind (seal_of bodies) begins.more; is = ap told begins.is ∙ told_tail bodies begins.more are } in
    let grown : BeginsWith (bodies_of f log) (bodies_of f x.journal) = elim (again.bodies clean).is [
      | inl same ↦ record { more = []; is = same ∙ sym (append-nil (bodies_of f log)) }
      | inr struck ↦ record { more = text_of strike ∷ []; is = struck }
    ] in
    begins_on bodies (bodies_of f log) (bodies_of f x.journal) was grown
