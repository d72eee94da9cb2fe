use Rattle.std.proofs.Common.{rules, ◌≡◌, ◌∙◌, Err, refl, sym}
use Rattle.sqlite.specs.Held.{state}
use Rattle.review_policy.specs.declared.denial.Need.TheVariants.{One}
use Rattle.office_words.specs.declared.fault.Fault.TheVariants.{NoMemory}
use Rattle.no_memory.specs.Witness.{witness}
use Rattle.office_judging.proofs.Unread.{found_unread}
use Rattle.office_judging.proofs.Judging.{read_as, read_in_vain}
use Rattle.office_judging.proofs.Issuing.{enough_decides, need_decides}
use Rattle.office_judging.proofs.issue.deciding_need.Goals as goal

pub returns-then-is_enough_for_any : goal.returns-then-is_enough_for_any
returns-then-is_enough_for_any g c =
    found_unread (state g.S.Store c.args.conn.now) One _ c.requires.idle c.requires.is_open (g.met.S.Store.settled c.args.conn.now.store)
    (λ t. enough_decides c.args.team.now c.args.tally.now c.args.body.now t (sym c.is_enough_for_any.ensures ∙ c.if-is_enough_for_any.true))

pub returns-in_err-need : goal.returns-in_err-need
returns-in_err-need g c =
    let e : c.from_residual-in_err-need.result ≡ Err (NoMemory witness) = search rules in
    rw e (read_in_vain (state g.S.Store c.args.conn.now) (state g.S.Store c.compared_with.new.conn) _ _ _ (NoMemory witness) refl c.in_ok-compared.ensures)

pub returns : goal.returns
returns g c =
    read_as (state g.S.Store c.args.conn.now) (state g.S.Store c.compared_with.new.conn) _ _ c.in_ok-compared.compared c.in_ok-need.need
    (λ t. need_decides c.args.team.now c.args.tally.now c.args.body.now t c.in_ok-compared.compared c.in_ok-need.need (sym c.is_enough_for_any.ensures ∙ c.if-is_enough_for_any.false) c.in_ok-need.ensures)
    c.in_ok-compared.ensures
