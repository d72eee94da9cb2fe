use Rattle.std.proofs.Common.{rules, ◌≡◌, ◌∙◌, Err, sym, subst}
use Rattle.sealed_log.specs.Sealed.{IsBody}
use Rattle.journal.proofs.Settling.{is_last, no_text, none_last, not_written, written}
use Rattle.journal.proofs.journaled.Journaled.settle.Goals as goal

pub append-requires : goal.append-requires
append-requires g c =
    subst IsBody (sym (c.as_bytes-body.ensures.value ∙ c.as_str.ensures.value ∙ c.in-Ok.ensures.text)) c.in-Ok.ensures.entry.body

pub returns-in_default : goal.returns-in_default
returns-in_default g c = none_last g.O.Handler.meaning g.J.Journal.writing c.args.self.now (sym c.in_default.is ∙ c.unsettled.ensures)

pub returns-in-Err : goal.returns-in-Err
returns-in-Err g c =
    let last = is_last g.J.Journal.writing c.args.self.now c.in-Some.of (sym c.in-Some.is ∙ c.unsettled.ensures) in
    no_text g.O.Handler.meaning g.J.Journal.writing c.args.self.now (sym c.goes_on.ensures ∙ c.if-not-goes_on.false) last.unsaid

pub returns-in_err-append : goal.returns-in_err-append
returns-in_err-append g c =
    let told : c.from_residual.result ≡ Err c.in_err-append.field-0.0 = search rules in
    let of = c.in-Some.of in
    let last = is_last g.J.Journal.writing c.args.self.now of (sym c.in-Some.is ∙ c.unsettled.ensures) in
    rw told (not_written g.O.Handler.meaning g.J.Journal.writing c.args.self.now (sym c.goes_on.ensures ∙ c.if-not-goes_on.false) of last c.in-Ok.ensures.entry.formed c.as_bytes-body.result.now
    (c.as_bytes-body.ensures.value ∙ c.as_str.ensures.value ∙ c.in-Ok.ensures.text) c.append.new.self c.in_err-append.field-0.0
    c.in_err-append.ensures)

pub returns : goal.returns
returns g c =
    let of = c.in-Some.of in
    let last = is_last g.J.Journal.writing c.args.self.now of (sym c.in-Some.is ∙ c.unsettled.ensures) in
    written g.O.Handler.meaning g.J.Journal.writing c.args.self.now (sym c.goes_on.ensures ∙ c.if-not-goes_on.false) of last c.in-Ok.ensures.entry.formed c.as_bytes-body.result.now
    (c.as_bytes-body.ensures.value ∙ c.as_str.ensures.value ∙ c.in-Ok.ensures.text) c.append.new.self c.in_ok-append.ensures
