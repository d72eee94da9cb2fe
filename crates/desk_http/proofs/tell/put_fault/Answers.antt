use Rattle.std.proofs.Common.{rules, ◌≡◌, Err}
use Rattle.desk_http.proofs.LineFacts.{cut_of_more, put_then}
use Rattle.desk_http.proofs.tell.put_fault.Goals as goal

pub returns : goal.returns
returns g c = put_then g.O.Write.contents c.args.output.now c.put.new.output c.put_line.new.output _ _ _ c.in_ok-put.ensures c.put_line.ensures

pub returns-in_err-put : goal.returns-in_err-put
returns-in_err-put g c =
    let told : c.from_residual.result ≡ Err c.in_err-put.field-0.0 = search rules in
    rw told (cut_of_more g.O.Write.contents c.args.output.now c.put.new.output _ _ c.in_err-put.ensures)
