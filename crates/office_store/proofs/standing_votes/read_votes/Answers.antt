use Rattle.std.proofs.Common.{rules, ◌≡◌, ◌+◌, List, subst, Err, [], ◌∷◌, ◌++◌, take, sym, refl}
use Rattle.sqlite_rules.proofs.ListLemmas.{all_has}
use Rattle.office_words.specs.declared.fault.Fault.TheVariants.{NotAnOffice}
use Rattle.office_store.specs.Lists.{cast_row, IsCastForm, AreCastAs}
use Rattle.office_words.specs.declared.revision.VoteRow.{VoteRow}
use Rattle.office_store.proofs.ToldLists.{one_more_cast, all_cast}
use Rattle.office_store.proofs.ListReads.{shows_at}
use Rattle.office_store.proofs.standing_votes.read_votes.Goals as goal

pub loop-row-init : goal.loop-row-init
loop-row-init c = record { cast = []; rows_are = refl; stand = search rules }

pub loop-row-preserved : goal.loop-row-preserved
loop-row-preserved c =
    let pushed : c.push.new.self.items ≡ c.loop-row.votes.items ++ c.in_ok-vote.vote ∷ [] = search rules in
    subst (λ (xs : List VoteRow). AreCastAs (take (c.loop-row.row-index + 1) c.args.rows.now) xs) (sym pushed)
    (one_more_cast c.args.rows.now c.loop-row.row-index c.row-item.result c.loop-row.votes.items c.in_ok-vote.vote c.loop-row-test.true c.row-item.is c.in_ok-vote.ensures.read c.loop-row.invariant)

pub returns-clause-read : goal.returns-clause-read
returns-clause-read c = all_cast c.args.rows.now c.loop-row.row-index c.loop-row.votes.items c.loop-row-test.false c.loop-row.invariant

pub returns-in_err-vote-clause-formed : goal.returns-in_err-vote-clause-formed
returns-in_err-vote-clause-formed c = λ cast are formed same.
    let it = shows_at cast_row cast c.args.rows.now are c.loop-row.row-index c.row-item.result c.loop-row-test.true c.row-item.is in
    let k : c.read_vote.result ≡ Err NotAnOffice = search rules in
    c.read_vote.ensures.formed it.value it.row_is (all_has IsCastForm cast it.value formed it.has) k
