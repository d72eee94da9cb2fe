use Rattle.std.specs.Prelude.{codes}
use Rattle.std.proofs.Common.{◌∙◌, ◌+◌, refl, ap, sym, drop, decimal}
use Rattle.std.proofs.lemmas.Result.{err_from_is_err_and}
use Rattle.std.specs.Int.Bits.{or_zero_r}
use Rattle.std.specs.Int.RustNames.{bit_or}
use Rattle.json_tree.specs.View.{view, items_view}
use Rattle.profile_text.specs.Document.{is_cap_name}
use Rattle.profile_text.specs.Sets.{cap_of, caps_of}
use Rattle.profile_text.specs.Shape.{below, word_faults, items_faults}
use Rattle.profile_text.proofs.Bits.{or_assoc}
use Rattle.profile_text.proofs.GivesFacts.{gives_first, ok_parts}
use Rattle.profile_text.proofs.WalkFacts.{items_more, items_end, caps_more, caps_end}
use Rattle.profile_text.proofs.capabilities.caps_of.Goals as goal

pub returns-in_err-cap_of : goal.returns-in_err-cap_of
returns-in_err-cap_of c =
    let p = err_from_is_err_and c.from_residual.result c.from_residual.ensures.1 in
    let path = (below (codes "/capabilities") c.args.name.now) in
    let i = c.loop-position.position in
    let d = view c.index-values-position.result in
    let first = word_faults is_cap_name (below path (decimal i)) d in
    let rest = items_faults (word_faults is_cap_name) path (i + 1) (items_view (drop (i + 1) c.args.values.now)) in
    let all = c.loop-position.invariant.faults ∙ items_more (word_faults is_cap_name) path c.args.values.now i c.index-values-position.result c.loop-position-test.true c.index-values-position.is in
    rw (p.1, p.2, all) (gives_first _ first rest (cap_of d) (caps_of (items_view c.args.values.now)) c.in_err-cap_of.ensures)

pub loop-position-preserved : goal.loop-position-preserved
loop-position-preserved c =
    let path = (below (codes "/capabilities") c.args.name.now) in
    let i = c.loop-position.position in
    let v = c.index-values-position.result in
    let first = word_faults is_cap_name (below path (decimal i)) (view v) in
    let parts = ok_parts first (cap_of (view v)) _ c.in_ok-cap_of.ensures in
    let more = items_more (word_faults is_cap_name) path c.args.values.now i v c.loop-position-test.true c.index-values-position.is in
    let caps = caps_more view c.args.values.now i v c.loop-position-test.true c.index-values-position.is in
    record {
      faults = c.loop-position.invariant.faults ∙ more ∙ rw parts.0 refl;
      caps = c.loop-position.invariant.caps ∙ ap (bit_or c.loop-position.caps) caps ∙ rw (parts.1, c.union-caps.ensures.bits) (sym (or_assoc c.loop-position.caps c.in_ok-cap_of.field-0 (caps_of (items_view (drop (i + 1) c.args.values.now)))));
    }

pub returns : goal.returns
returns c =
    let faults = c.loop-position.invariant.faults ∙ items_end (word_faults is_cap_name) (below (codes "/capabilities") c.args.name.now) c.args.values.now c.loop-position.position c.loop-position-test.false in
    let caps = c.loop-position.invariant.caps ∙ ap (bit_or c.loop-position.caps) (caps_end view c.args.values.now c.loop-position.position c.loop-position-test.false) ∙ or_zero_r c.loop-position.caps in
    rw (faults, caps) refl
