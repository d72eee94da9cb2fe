use Rattle.std.proofs.Common.{rules, ◌≡◌, Err, ◌∙◌, inr, refl}
use Rattle.changing_commands.proofs.ServingFacts.{cut_short, listened_by, served, unbound, unsaid}
use Rattle.changing_commands.proofs.serve.serve_bound.Goals as goal

pub returns-in-Err : goal.returns-in-Err
returns-in-Err g c = unbound _ _ _ g.O.Write.contents g.H.Handler.meaning _ _ _ _ c.args.network.now (inr refl)

pub returns-in_err-listener : goal.returns-in_err-listener
returns-in_err-listener g c =
    let told : c.from_residual.result ≡ Err c.in_err-listener.field-0.0 = search rules in
    rw told (unbound _ _ _ g.O.Write.contents g.H.Handler.meaning _ _ _ _ c.args.network.now c.in_err-listener.ensures.fault)

pub returns-in-Err-listening_line : goal.returns-in-Err-listening_line
returns-in-Err-listening_line g c = unbound _ _ _ g.O.Write.contents g.H.Handler.meaning _ _ _ _ c.args.network.now (inr refl)

pub returns-in_err-print : goal.returns-in_err-print
returns-in_err-print g c =
    let told : c.from_residual-in_err-print.result ≡ Err c.in_err-print.field-0.0 = search rules in
    rw told (let failed = c.in_err-print.ensures.fault in
    unsaid _ _ _ g.O.Write.contents g.H.Handler.meaning _ _ _ _ _ _ _
    (c.as_str.ensures.value ∙ c.in-Ok-listening_line.ensures) failed.0 failed.1)

pub returns-in-Ok-serve_all : goal.returns-in-Ok-serve_all
returns-in-Ok-serve_all g c =
    served _ _ _ g.O.Write.contents g.H.Handler.meaning _ _ _ _ _
    (listened_by _ _ _ g.O.Write.contents g.H.Handler.meaning _ _ _ _ _ _ _ _ _ _ _ _ _ _ _ c.in_ok-listener.ensures.at c.in_ok-listener.ensures.told
    (c.as_str.ensures.value ∙ c.in-Ok-listening_line.ensures) c.in_ok-print.ensures.whole
    c.longest.ensures c.in-Ok.ensures.clock c.in-Ok.ensures.longest c.exchanges-exchanges.ensures c.in-Ok-serve_all.ensures)

pub returns : goal.returns
returns g c =
    cut_short _ _ _ g.O.Write.contents g.H.Handler.meaning _ _ _ _ _ _
    (listened_by _ _ _ g.O.Write.contents g.H.Handler.meaning _ _ _ _ _ _ _ _ _ _ _ _ _ _ _ c.in_ok-listener.ensures.at c.in_ok-listener.ensures.told
    (c.as_str.ensures.value ∙ c.in-Ok-listening_line.ensures) c.in_ok-print.ensures.whole
    c.longest.ensures c.in-Ok.ensures.clock c.in-Ok.ensures.longest c.exchanges-exchanges.ensures c.in-Err-serve_all.ensures)
