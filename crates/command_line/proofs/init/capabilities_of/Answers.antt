use Rattle.std.proofs.Common.{◌≡◌, ◌∙◌, [], Some, None, ap, codes, map, sym, unwrap_or}
use Rattle.std.proofs.lemmas.Result.{IfOk-weaker}
use Rattle.clap.specs.Words.{all_of, found_of, rows_of}
use Rattle.command_line.proofs.Getters.{texts_are}
use Rattle.command_line.proofs.init.capabilities_of.Goals as goal

pub returns-in-Some : goal.returns-in-Some
returns-in-Some c =
    let f = found_of c.args.given.now in
    let all : all_of (codes "capability") (rows_of f) ≡ Some (map (λ v. v.now) c.in-Some.found.now) =
    texts_are f (codes "capability") (Some c.in-Some.found) c.in-Some.ensures in
    IfOk-weaker c.from_slice.result _ _
    (λ found same. ap (map (λ v. v.now)) same ∙ ap (λ o. unwrap_or o []) (sym all)) c.from_slice.ensures.items

pub returns-in-None : goal.returns-in-None
returns-in-None c =
    let f = found_of c.args.given.now in
    let all : all_of (codes "capability") (rows_of f) ≡ None = texts_are f (codes "capability") None c.in-None.ensures in
    ap (map (λ v. v.now)) c.new.ensures.items ∙ ap (λ o. unwrap_or o []) (sym all)
