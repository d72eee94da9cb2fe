use Rattle.std.proofs.Common.{ℕ, List, subst}
use Rattle.desk_http.specs.Lines.{IsPut}
use Rattle.desk_http.proofs.LineFacts.{put_so}
use Rattle.desk_http.proofs.tell.put.Goals as goal

pub returns : goal.returns
returns g c =
    let put = c.write_whole.ensures in
    subst (λ (text : List ℕ). IsPut g.O.Write.contents c.args.output.now c.write_whole.new.writer text c.write_whole.result)
    c.as_bytes.ensures.value
    (put_so g.O.Write.contents c.args.output.now c.write_whole.new.writer c.as_bytes.result.now c.write_whole.result
    put.whole put.part put.no_fault put.fault)
