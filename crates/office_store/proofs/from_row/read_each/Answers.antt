use Rattle.std.proofs.Common.{◌≡◌, ◌+◌, [], ◌∷◌, ◌++◌, map, take, Err, rules, sym, subst}
use Rattle.sqlite_rules.proofs.ListLemmas.{all_has}
use Rattle.office_words.specs.declared.fault.Fault.TheVariants.{NotAnOffice}
use Rattle.office_store.proofs.ListReads.{shows_at}
use Rattle.office_store.proofs.ToldLists.{one_more_read, all_read}
use Rattle.office_store.proofs.from_row.read_each.Goals as goal

pub loop-row-preserved : goal.loop-row-preserved
loop-row-preserved g c =
    let pushed : c.push.new.self.items ≡ c.loop-row.values.items ++ c.in_ok-value.value ∷ [] = search rules in
    subst (λ xs. take (c.loop-row.row-index + 1) c.args.rows.now ≡ map g.R.FromRow.encode xs) (sym pushed)
    (one_more_read g.R.FromRow.encode c.args.rows.now c.loop-row.row-index c.row-item.result c.loop-row.values.items c.in_ok-value.value c.loop-row-test.true c.row-item.is c.in_ok-value.ensures.value c.loop-row.invariant)

pub returns-clause-values : goal.returns-clause-values
returns-clause-values g c = all_read g.R.FromRow.encode c.args.rows.now c.loop-row.row-index c.loop-row.values.items c.loop-row-test.false c.loop-row.invariant

pub returns-in_err-value-clause-formed : goal.returns-in_err-value-clause-formed
returns-in_err-value-clause-formed g c = λ all are formed same.
    let it = shows_at g.R.FromRow.encode all c.args.rows.now are c.loop-row.row-index c.row-item.result c.loop-row-test.true c.row-item.is in
    let k : c.from_row.result ≡ Err NotAnOffice = search rules in
    c.from_row.ensures.formed it.value (all_has g.R.FromRow.IsFormed all it.value formed it.has) it.row_is k
