use Rattle.sealed_log.proofs.InputFacts.{left_with, no_seal_on, no_text, none_more, unsealed_body}
use Rattle.sealed_log.proofs.input.read_body.Goals as goal

pub returns-in_err-read_text : goal.returns-in_err-read_text
returns-in_err-read_text g c =
    let old = g.R.Read.remaining c.args.input.now in
    let new = g.R.Read.remaining c.read_text.new.input in
    let text = c.read_text.new.text.items in
    left_with old new c.args.seal.now c.args.seal.now text _ _ c.from_residual.ensures.1 (no_text old new text c.args.seal.now _ c.in_err-read_text.ensures)

pub returns-then-not-branch : goal.returns-then-not-branch
returns-then-not-branch g c =
    let old = g.R.Read.remaining c.args.input.now in
    let new = g.R.Read.remaining c.read_text.new.input in
    let text = c.read_text.new.text.items in
    none_more old new text c.args.seal.now text _ c.in_ok-read_text.ensures c.if-not-branch.true

pub returns-in_err-unseal : goal.returns-in_err-unseal
returns-in_err-unseal g c =
    let old = g.R.Read.remaining c.args.input.now in
    let new = g.R.Read.remaining c.read_text.new.input in
    let text = c.read_text.new.text.items in
    let body = c.unseal.new.text.items in
    left_with old new c.args.seal.now c.unseal.new.seal body _ _ c.from_residual-in_err-unseal.ensures.1
    (no_seal_on old new text c.args.seal.now c.unseal.new.seal body _ _ c.in_ok-read_text.ensures c.if-not-branch.false c.in_err-unseal.ensures)

pub returns : goal.returns
returns g c =
    let old = g.R.Read.remaining c.args.input.now in
    let new = g.R.Read.remaining c.read_text.new.input in
    let text = c.read_text.new.text.items in
    unsealed_body old new text c.args.seal.now c.unseal.new.seal c.unseal.new.text.items _ c.in_ok-read_text.ensures c.if-not-branch.false c.in_ok-unseal.ensures
