use Rattle.std.proofs.Common.{◌∙◌, ◌≤◌, ap, sym, arith}
use Rattle.cap_sets.specs.Capability.{names_of, single}
use Rattle.review_sheet.proofs.CapFacts.{no_name_above, no_name_of_none, no_set_of_single, set_of_single}
use Rattle.review_sheet.proofs.findings.capability.Goals as goal

pub returns-then-number-gt40 : goal.returns-then-number-gt40
returns-then-number-gt40 c =
    let above : 41 ≤ c.args.number = omega (arith, c.if-number-gt40.true) in
    ap names_of c.empty.ensures.bits ∙ no_name_of_none ∙ sym (no_name_above c.args.number above)

pub returns-in-Some : goal.returns-in-Some
returns-in-Some c = ap names_of (set_of_single c.from_bits.result c.args.number c.in-Some.caps c.if-number-gt40.false c.from_bits.ensures.value c.in-Some.is)

pub returns-in-None : goal.returns-in-None
returns-in-None c =
    no_set_of_single c.from_bits.result c.args.number (names_of c.empty-in-None.result) (names_of (single c.args.number))
    c.if-number-gt40.false c.from_bits.ensures.value c.in-None.is
